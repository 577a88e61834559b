-- A walk along a list that looks for the first fault and makes something of each member.
use Rattle.std.proofs.Common.{◌≡◌, ℕ, zero, suc, ◌+◌, ◌<◌, List, [], ◌∷◌, ◌++◌, length, map, take, drop, get_or, Option, None, Some, refl, ap, arith, add-one}
use Rattle.std.specs.Option.{option_or}
use Rattle.query_plan.specs.declared.error.PlanErr.{PlanErr}
use Rattle.query_plan.specs.Faults.{first_from}

-- so many members were walked past: none has a fault, and these were made of them
pub record Walked {A B : Type 0} (judge : ℕ → A → Option PlanErr) (make : A → B) (items : List A) (place : ℕ) (made : List B) : Type 0 where
  pub clear : first_from judge 0 items ≡ first_from judge place (drop place items)
  pub made_of : made ≡ map make (take place items)

-- the first fault from a place on is that of the member there, or else one behind it
pub first_step : {A : Type 0} (judge : ℕ → A → Option PlanErr) (place : ℕ) (items : List A) (n : ℕ) (item : A)
    → n < length items → item ≡ get_or items n item
    → first_from judge place (drop n items) ≡ option_or (judge place item) (first_from judge (place + 1) (drop (suc n) items))
first_step judge place [] n item within is = absurd (omega arith)
first_step judge place (x ∷ items) zero item within is = rw is refl
first_step judge place (x ∷ items) (suc n) item within is = first_step judge place items n item (omega arith) is

pub take_step : {A B : Type 0} (make : A → B) (items : List A) (n : ℕ) (item : A)
    → n < length items → item ≡ get_or items n item → map make (take (suc n) items) ≡ map make (take n items) ++ make item ∷ []
take_step make [] n item within is = absurd (omega arith)
take_step make (x ∷ items) zero item within is = rw is refl
take_step make (x ∷ items) (suc n) item within is = ap (λ rest. make x ∷ rest) (take_step make items n item (omega arith) is)

-- a member with a fault has the first one
pub walk_stops : {A B : Type 0} (judge : ℕ → A → Option PlanErr) (make : A → B) (items : List A) (place : ℕ) (made : List B) (item : A) (fault : PlanErr)
    → Walked judge make items place made → place < length items → item ≡ get_or items place item → judge place item ≡ Some fault
    → first_from judge 0 items ≡ Some fault
walk_stops judge make items place made item fault walked within is faulty =
    rw (walked.clear, first_step judge place items place item within is, faulty) refl

-- a member with none is walked past
pub walk_on : {A B : Type 0} (judge : ℕ → A → Option PlanErr) (make : A → B) (items : List A) (place : ℕ) (made : List B) (item : A) (new : B)
    → Walked judge make items place made → place < length items → item ≡ get_or items place item
    → judge place item ≡ None → new ≡ make item → Walked judge make items (place + 1) (made ++ new ∷ [])
walk_on judge make items place made item new walked within is clean new_is = record {
  clear = rw (walked.clear, first_step judge place items place item within is, clean, add-one) refl;
  made_of = rw (add-one, take_step make items place item within is, walked.made_of, new_is) refl;
}
