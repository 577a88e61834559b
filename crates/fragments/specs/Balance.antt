-- What was put into a queue, what was taken out of it, and what stands in it. `views` has what each pass did; lists run from
-- the first item to the last.
use Rattle.std.specs.Prelude.{◌≡◌, ℕ, ◌+◌, List, [], ◌∷◌, ◌++◌, All, sum_by}
use mathlib.Core.Option.{some}
use lib.ListN.{get_elem?}
use Rattle.fragments.specs.declared.rule.Tally.{Tally}

-- with so many parts, it put the ones and took the others
abbrev pub tally : {T : Type 0} → ℕ → List T → List T → Tally T
tally parts put taken = record { parts = parts; put = put; taken = taken }

module _ {T : Type 0} where
  -- a pass without parts has put and taken nothing
  abbrev pub IdleIsEmpty : List (Tally T) → Type 0
  IdleIsEmpty views = (port : ℕ) (v : Tally T) → get_elem? views port ≡ some v → v.parts ≡ 0 → (v.put ≡ []) × (v.taken ≡ [])

  -- there are 1024 parts in all, and what was put weighs what was taken and what the queue holds, however items are weighed
  abbrev pub Balanced : List T → List (Tally T) → Type 0
  Balanced items views =
      (sum_by (λ v. v.parts) views ≡ 1024)
      × ((h : T → ℕ) → sum_by (λ v. sum_by h v.put) views ≡ sum_by (λ v. sum_by h v.taken) views + sum_by h items)
      × IdleIsEmpty views

  -- the same, and all that it holds is of the kind that is admitted
  abbrev pub IsFair : (T → Type 0) → List T → List (Tally T) → Type 0
  IsFair admits items views = Balanced items views × All admits items

  -- it put or took one more
  abbrev pub has_put : Tally T → T → Tally T
  has_put v x = tally v.parts (v.put ++ x ∷ []) v.taken

  abbrev pub has_taken : Tally T → T → Tally T
  has_taken v x = tally v.parts v.put (v.taken ++ x ∷ [])

  -- who has all parts knows that what it put weighs what it took and what the queue holds
  abbrev pub Leaves : Tally T → List T → Type 0
  Leaves v items = v.parts ≡ 1024 → (h : T → ℕ) → sum_by h v.put ≡ sum_by h v.taken + sum_by h items

  -- with nothing left in the queue
  abbrev pub IsEven : Tally T → Type 0
  IsEven v = (h : T → ℕ) → sum_by h v.put ≡ sum_by h v.taken
