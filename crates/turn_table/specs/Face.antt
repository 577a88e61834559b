-- A seat as contracts see it, and what lies behind that.
use Rattle.std.specs.Prelude.{◌≡◌, ℕ, List, [], ◌∷◌, Option, None}
use Rattle.atomic_table.specs.Seated.{TableId}
use Rattle.turn_table.specs.declared.view.Stage.{Stage}
use Rattle.turn_table.specs.declared.view.Stage.TheVariants.{Idle, Waiting, Turn, Spent}
use Rattle.turn_table.specs.declared.view.View.{View}

-- a seat: its table, and what it knows
pub record Spot (E : Type 0) : Type 0 where
  pub table : TableId
  pub knows : View E

-- the slots that a seat holds: while it has its turn the slot is with it, empty, since the caller has the value
abbrev pub in_hand : {V : Type 0} → Stage → List (ℕ × Option V)
in_hand Idle = []
in_hand (Waiting t) = []
in_hand (Turn t) = (0, None) ∷ []
in_hand Spent = []

-- a place at a table with the two words and the one slot
abbrev pub IsAt : TableId → TableId → Type 0
IsAt place table = (place ≡ table) × (table.words ≡ 2) × (table.slots ≡ 1)
