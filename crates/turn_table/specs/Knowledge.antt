-- What a seat knows. Contracts of the turn lock speak in these words.
use Rattle.std.specs.Prelude.{◌≡◌, ℕ, ◌<◌, List, ◌++◌}
use Rattle.turn_table.specs.declared.view.Role.{Role}
use Rattle.turn_table.specs.declared.view.Role.TheVariants.{First, Other}
use Rattle.turn_table.specs.declared.view.Stage.TheVariants.{Idle, Turn}
use Rattle.turn_table.specs.declared.view.View.{View}
use Rattle.turn_table.specs.Lists.{times, needed, entries, by}

-- 1 at the first seat
abbrev pub first_at : Role → ℕ
first_at (First out) = 1
first_at Other = 0

module _ {E : Type 0} where
  -- the seat has no ticket
  abbrev pub IsIdle : View E → Type 0
  IsIdle v = v.stage ≡ Idle

  -- the seat has its turn, and whoever has the seat has the value
  abbrev pub HasTurn : View E → Type 0
  HasTurn v = (ticket : ℕ) × (v.stage ≡ Turn ticket)

  -- the seat that splits and joins
  abbrev pub IsFirst : View E → Type 0
  IsFirst v = first_at v.role ≡ 1

  -- the seat that splits and joins, and no other seat is out
  abbrev pub IsAlone : View E → Type 0
  IsAlone v = v.role ≡ First 0

  -- the entries that were made stand within those that were seen, in their order
  abbrev pub MadeWithin : List E → List E → Type 0
  MadeWithin made seen = (author : ℕ) × (written : List (ℕ × E)) × (entries written ≡ seen) × (by author written ≡ made)

  -- each right that the entries need is one of these
  abbrev pub NeedsOnly : (E → List ℕ) → List ℕ → List E → Type 0
  NeedsOnly needs rights log = (r : ℕ) → 0 < needed needs r log → 0 < times r rights

  -- none of the rights that the entries need is one of these
  abbrev pub NeedsNone : (E → List ℕ) → List ℕ → List E → Type 0
  NeedsNone needs rights log = (r : ℕ) → 0 < times r rights → needed needs r log ≡ 0

  -- the list grew, by entries that need none of these rights
  pub record GrewBeside (needs : E → List ℕ) (rights : List ℕ) (before now : List E) : Type 0 where
    pub behind : List E
    pub grew : now ≡ before ++ behind
    pub beside : NeedsNone needs rights behind
