-- The members of a list as `toml` shows them.
use Rattle.std.proofs.Common.{◌≡◌, ℕ, zero, suc, ◌<◌, List, [], ◌∷◌, length, get_or, map, refl, ap, arith}
use Rattle.toml.specs.Data.{Data}
use Rattle.toml.specs.View.{items_of}
use Rattle.query_plan.specs.Values.{list_in}

pub items_back : (values : List Data) → list_in (items_of values) ≡ values
items_back [] = refl
items_back (value ∷ values) = ap (λ rest. value ∷ rest) (items_back values)

-- a member of a list, seen
pub at_view : {A B : Type 0} (see : A → B) (items : List A) (n : ℕ) (item : A)
    → n < length items → item ≡ get_or items n item → see item ≡ get_or (map see items) n (see item)
at_view see [] n item within is = absurd (omega arith)
at_view see (x ∷ items) zero item within is = ap see is
at_view see (x ∷ items) (suc n) item within is = at_view see items n item (omega arith) is

pub length_view : {A B : Type 0} (see : A → B) (items : List A) → length (map see items) ≡ length items
length_view see [] = refl
length_view see (x ∷ items) = ap suc (length_view see items)
