-- A field by its place.
use Rattle.std.proofs.Common.{◌≡◌, refl, zero, suc, List, ℕ, [], ◌∷◌, slice_index_or}
use Rattle.std.specs.Option.{unwrap_or}
use Rattle.csv.specs.Records.{field_at}

pub field-index : (fields : List (List ℕ)) (place : ℕ) → unwrap_or (field_at fields place) [] ≡ slice_index_or fields place []
unfolding field_at
field-index [] zero = refl
field-index [] (suc place) = refl
field-index (f ∷ fs) zero = refl
field-index (f ∷ fs) (suc place) = field-index fs place
