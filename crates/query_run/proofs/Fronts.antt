-- Rows that were taken are the first ones of those that pass, up to the place where their input is refused.
use Rattle.std.proofs.Common.{◌≡◌, ◌∙◌, inl, inr, ◌≤◌, ◌++◌, ◌∷◌, List, [], ℕ, suc, true, All, Option, Some, None, IfSome, filter, length, nat_le, sym, ap, refl, arith, append_assoc}
use Rattle.std.proofs.lemmas.Bool.{cases_Bool}
use Rattle.std.proofs.lemmas.List.{length-append}
use Rattle.std.proofs.lemmas.List.Elements.{filter-append}
use Rattle.row_codec.specs.declared.values.Value.{Value}
use Rattle.scan_filter.specs.Passes.{passes}
use Rattle.csv_edge.specs.Typed.{Typed}
use Rattle.query_plan.specs.declared.plan.Query.{Query}
use Rattle.query_plan.specs.declared.plan.SidePlan.{SidePlan}
use Rattle.query_run.specs.Feeding.{AreFirstOf, OfTaken}
use Rattle.query_run.specs.Input.{passing_in, rows_read, weight_of}
use Rattle.query_run.specs.Through.{light_front, taken_in, taken_of}
use Rattle.query_run.specs.SoFar.{IsLight, IsSoFar}
use Rattle.query_run.proofs.Weighing.{is_light}

-- ---- rows that are light

-- those in front are taken as they are
light-behind : (plan : Query) (page : ℕ) (rows rest : List (List Value)) → All (IsLight plan page) rows
    → light_front plan page (rows ++ rest) ≡ rows ++ light_front plan page rest
light-behind plan page [] rest light = refl
light-behind plan page (row ∷ rows) rest light =
    let first : IsLight plan page row = light 0 row (omega arith) in
    let is : nat_le (weight_of plan row) page ≡ true = is_light plan row page first in
    let later : All (IsLight plan page) rows = λ k d below. light (suc k) d (omega (arith, below)) in
    rw (is, light-behind plan page rows rest later) refl

-- what is taken of one row comes before what is taken behind it
one-before : (plan : Query) (page : ℕ) (row : List Value) (rest : List (List Value))
    → AreFirstOf (light_front plan page (row ∷ [])) (light_front plan page (row ∷ rest))
one-before plan page row rest = elim (cases_Bool (nat_le (weight_of plan row) page)) [
  | inl is ↦ (light_front plan page rest, rw is refl)
  | inr heavy ↦ ([], rw heavy refl)
]

light-first : (plan : Query) (page : ℕ) (rows : List (List Value)) → AreFirstOf (light_front plan page rows) rows
light-first plan page [] = ([], refl)
light-first plan page (row ∷ rest) =
    let more = light-first plan page rest in
    elim (cases_Bool (nat_le (weight_of plan row) page)) [
      | inl is ↦ (more.0, rw is (ap (λ (rows : List (List Value)). row ∷ rows) more.1))
      | inr heavy ↦ (row ∷ rest, rw heavy refl)
    ]

-- so it is of those that pass
filter-first : (asked : SidePlan) (rows all : List (List Value)) → AreFirstOf rows all
    → AreFirstOf (filter (passes asked.preds) rows) (filter (passes asked.preds) all)
filter-first asked rows all first =
    let test = passes asked.preds in
    (filter test first.0, ap (filter test) first.1 ∙ filter-append test rows first.0)

first-then : (rows some all : List (List Value)) → AreFirstOf rows some → AreFirstOf some all → AreFirstOf rows all
first-then rows some all first next =
    (first.0 ++ next.0, next.1 ∙ ap (λ (xs : List (List Value)). xs ++ next.0) first.1 ∙ append_assoc rows first.0 next.0)

-- rows that were taken are the first ones of those that pass
pub first_passing : (plan : Query) (asked : SidePlan) (page : ℕ) (bytes : List ℕ) (rows : List (List Value)) → AreFirstOf rows (taken_in plan asked page bytes)
    → AreFirstOf rows (passing_in asked bytes)
first_passing plan asked page bytes rows first =
    first-then rows (taken_in plan asked page bytes) (passing_in asked bytes) first
    (filter-first asked (light_front plan page (rows_read asked bytes)) (rows_read asked bytes) (light-first plan page (rows_read asked bytes)))

-- they are no more
pub first_few : (rows all : List (List Value)) → AreFirstOf rows all → length rows ≤ length all
first_few rows all first = let same : length all ≡ length (rows ++ first.0) = ap length first.1 in let sum = length-append rows first.0 in omega (arith, same, sum)

-- ---- rows so far

module _ (plan : Query) (asked : SidePlan) (page : ℕ) where
  taken-behind : (rows rest : List (List Value)) → All (IsLight plan page) rows
      → taken_of plan asked page (rows ++ rest) ≡ filter (passes asked.preds) rows ++ taken_of plan asked page rest
  taken-behind rows rest light =
      ap (filter (passes asked.preds)) (light-behind plan page rows rest light) ∙ filter-append (passes asked.preds) rows (light_front plan page rest)

  -- none of them are
  pub none_taken : (told : Option (List ℕ)) (holds : List (List Value) → Type 0) → holds [] → OfTaken plan asked page told holds
  none_taken told holds so = record { rows = []; first = first told; so = so } where
    first : (told : Option (List ℕ)) → IfSome told (λ bytes. AreFirstOf [] (taken_in plan asked page bytes))
    first None = tt
    first (Some bytes) = (taken_in plan asked page bytes, refl)

  first-so-far : (told : Option (List ℕ)) (rows : List (List Value)) (rest : Option Typed) → All (IsLight plan page) rows → IsSoFar asked told rows rest
      → IfSome told (λ bytes. AreFirstOf (filter (passes asked.preds) rows) (taken_in plan asked page bytes))
  first-so-far None rows rest light so-far = tt
  first-so-far (Some bytes) rows None light so-far = absurd so-far
  first-so-far (Some bytes) rows (Some rest) light so-far =
      (taken_of plan asked page rest.rows, ap (λ (t : Typed). taken_of plan asked page t.rows) so-far ∙ taken-behind rows rest.rows light)

  -- those of the rows so far that pass
  pub so_far_taken : (told : Option (List ℕ)) (rows : List (List Value)) (rest : Option Typed) (holds : List (List Value) → Type 0)
      → All (IsLight plan page) rows → IsSoFar asked told rows rest → holds (filter (passes asked.preds) rows)
      → OfTaken plan asked page told holds
  so_far_taken told rows rest holds light so-far so =
      record { rows = filter (passes asked.preds) rows; first = first-so-far told rows rest light so-far; so = so }

  next-of : (rows some : List (List Value)) (row : List Value) (rest : List (List Value)) → All (IsLight plan page) rows
      → AreFirstOf some (taken_of plan asked page (row ∷ []))
      → AreFirstOf (filter (passes asked.preds) rows ++ some) (taken_of plan asked page (rows ++ row ∷ rest))
  next-of rows some row rest light part =
      let front = filter (passes asked.preds) rows in
      let next : AreFirstOf some (taken_of plan asked page (row ∷ rest)) =
      first-then some (taken_of plan asked page (row ∷ [])) (taken_of plan asked page (row ∷ rest)) part
      (filter-first asked (light_front plan page (row ∷ [])) (light_front plan page (row ∷ rest)) (one-before plan page row rest)) in
      (next.0, taken-behind rows (row ∷ rest) light ∙ ap (λ (xs : List (List Value)). front ++ xs) next.1 ∙ sym (append_assoc front some next.0))

  first-next : (told : Option (List ℕ)) (rows some : List (List Value)) (row : List Value) (rest : Option Typed) → All (IsLight plan page) rows
      → IsSoFar asked told (rows ++ row ∷ []) rest → AreFirstOf some (taken_of plan asked page (row ∷ []))
      → IfSome told (λ bytes. AreFirstOf (filter (passes asked.preds) rows ++ some) (taken_in plan asked page bytes))
  first-next None rows some row rest light so-far part = tt
  first-next (Some bytes) rows some row None light so-far part = absurd so-far
  first-next (Some bytes) rows some row (Some rest) light so-far part =
      let next = next-of rows some row rest.rows light part in
      (next.0, ap (λ (t : Typed). taken_of plan asked page t.rows) so-far ∙ ap (taken_of plan asked page) (append_assoc rows (row ∷ []) rest.rows) ∙ next.1)

  -- and some of a row that comes next
  pub next_taken : (told : Option (List ℕ)) (rows some : List (List Value)) (row : List Value) (rest : Option Typed) (holds : List (List Value) → Type 0)
      → All (IsLight plan page) rows → IsSoFar asked told (rows ++ row ∷ []) rest
      → AreFirstOf some (taken_of plan asked page (row ∷ [])) → holds (filter (passes asked.preds) rows ++ some) → OfTaken plan asked page told holds
  next_taken told rows some row rest holds light so-far part so =
      record { rows = filter (passes asked.preds) rows ++ some; first = first-next told rows some row rest light so-far part; so = so }

  -- what follows of them
  pub taken_so : (told : Option (List ℕ)) (P Q : List (List Value) → Type 0) → ((rows : List (List Value)) → P rows → Q rows) → OfTaken plan asked page told P
      → OfTaken plan asked page told Q
  taken_so told P Q so taken = record { rows = taken.rows; first = taken.first; so = so taken.rows taken.so }
