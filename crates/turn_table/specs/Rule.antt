-- The rule: what holds of the table between any two steps.
-- The words are `ticket`, the next number to draw, and `serving`, the number whose turn it is. The one slot is the value's home.
-- A count over all views is a sum of 0 or 1 at each. The one list is written with each entry beside its author.
use Rattle.std.specs.Prelude.{◌≡◌, ℕ, ◌+◌, ◌<◌, ◌≤◌, List, [], ◌∷◌, ◌++◌, length, Option, Some}
use mathlib.Core.Option.{none, some}
use lib.ListN.{get_elem?}
use Rattle.atomic_table.specs.Table.{State}
use Rattle.turn_table.specs.declared.view.Role.{Role}
use Rattle.turn_table.specs.declared.view.Role.TheVariants.{First, Other}
use Rattle.turn_table.specs.declared.view.Stage.{Stage}
use Rattle.turn_table.specs.declared.view.Stage.TheVariants.{Idle, Waiting, Turn, Spent}
use Rattle.turn_table.specs.declared.view.View.{View}
use Rattle.turn_table.specs.Lists.{total, same, times, entries, by}
use Rattle.turn_table.specs.Knowledge.{first_at, NeedsNone, GrewBeside}

-- 1 where the seat has this ticket
abbrev pub ticket_at : ℕ → Stage → ℕ
ticket_at t Idle = 0
ticket_at t (Waiting u) = same t u
ticket_at t (Turn u) = same t u
ticket_at t Spent = 0

-- 1 where the seat has its turn
abbrev pub turn_at : Stage → ℕ
turn_at Idle = 0
turn_at (Waiting t) = 0
turn_at (Turn t) = 1
turn_at Spent = 0

-- 1 where the seat isn't spent
abbrev pub live_at : Stage → ℕ
live_at Idle = 1
live_at (Waiting t) = 1
live_at (Turn t) = 1
live_at Spent = 0

-- how many seats the first seat has out
abbrev pub out_at : Role → ℕ
out_at (First out) = out
out_at Other = 0

-- a seat that has its turn has the ticket that is served, and nothing lies behind what it has seen
abbrev pub InTurn : {A : Type 0} → ℕ → List A → Stage → Type 0
InTurn serving behind Idle = Unit {0}
InTurn serving behind (Waiting t) = Unit {0}
InTurn serving behind (Turn t) = (t ≡ serving) × (behind ≡ [])
InTurn serving behind Spent = Unit {0}

module _ {E : Type 0} where
  -- each number from `serving` up to before `ticket` is the ticket of one view, and no view has another ticket
  pub record Queue (ticket serving : ℕ) (views : List (View E)) : Type 0 where
    pub order : serving ≤ ticket
    pub fits : ticket < 18446744073709551616
    pub drawn : (t : ℕ) → serving ≤ t → t < ticket → total (λ v. ticket_at t v.stage) views ≡ 1
    pub served : (t : ℕ) → t < serving → total (λ v. ticket_at t v.stage) views ≡ 0
    pub undrawn : (t : ℕ) → ticket ≤ t → total (λ v. ticket_at t v.stage) views ≡ 0

  -- the views that aren't spent are the first seat's and as many others as it has out, and no right is in two
  pub record Party (views : List (View E)) : Type 0 where
    pub one_first : total (λ v. first_at v.role) views ≡ 1
    pub others : total (λ v. live_at v.stage) views ≡ 1 + total (λ v. out_at v.role) views
    pub apart : (r : ℕ) → total (λ v. times r v.rights) views ≤ 1

  -- how many views have their turn
  abbrev pub turns : List (View E) → ℕ
  turns views = total (λ v. turn_at v.stage) views

  -- the slot is at home exactly where no view has its turn, and then its value stands for the one list
  pub record Housing {V : Type 0} (stands : V → List E → Type 0) (log : List E) (homes : List (mathlib.Core.Option.Option (Option V))) (views : List (View E)) : Type 0 where
    pub home : turns views ≡ 0 → (value : V) × (homes ≡ some (Some value) ∷ []) × stands value log
    pub away : 0 < turns views → homes ≡ none ∷ []

  -- what the seat of this author has seen begins the one list, and what it made stands within that;
  -- nothing behind it was made by the seat or needs a right of it; what the seat was told of begins what it has seen,
  -- and nothing behind that needs a spared right
  pub record Knows (needs : E → List ℕ) (author : ℕ) (written : List (ℕ × E)) (serving : ℕ) (v : View E) : Type 0 where
    pub front : List (ℕ × E)
    pub behind : List (ℕ × E)
    pub whole : written ≡ front ++ behind
    pub seen : entries front ≡ v.seen
    pub made : by author front ≡ v.made
    pub not_made : by author behind ≡ []
    pub beside : NeedsNone needs v.rights (entries behind)
    pub in_turn : InTurn serving behind v.stage
    pub told : GrewBeside needs v.spared v.told v.seen

  -- each seat that isn't spent knows its part of the one list, one of them knows all, and nobody else made any of it
  pub record Trails (needs : E → List ℕ) (written : List (ℕ × E)) (serving : ℕ) (views : List (View E)) : Type 0 where
    pub each : (j : ℕ) (v : View E) → get_elem? views j ≡ some v → live_at v.stage ≡ 1 → Knows needs j written serving v
    pub longest : (j : ℕ) × (v : View E) × (get_elem? views j ≡ some v) × (live_at v.stage ≡ 1) × (v.seen ≡ entries written)
    pub unseated : (j : ℕ) → length views ≤ j → by j written ≡ []

module _ {V E : Type 0} (stands : V → List E → Type 0) (needs : E → List ℕ) where
  pub record Turning (s : State (Option V) (View E)) : Type 0 where
    pub written : List (ℕ × E)
    pub ticket : ℕ
    pub serving : ℕ
    pub words : s.words ≡ ticket ∷ serving ∷ []
    pub queue : Queue ticket serving s.views
    pub party : Party s.views
    pub housing : Housing stands (entries written) s.homes s.views
    pub trails : Trails needs written serving s.views
