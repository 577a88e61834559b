-- The rows of a chunk, one after the other.
use Rattle.std.proofs.Common.{◌≡◌, ℕ, zero, suc, ◌+◌, ◌<◌, List, [], ◌∷◌, ◌++◌, length, take, drop, refl, ap, ◌∙◌, arith}
use Rattle.std.specs.Prelude.{slice_index_or}
use Rattle.join_op.specs.declared.feeding.Spare.{Spare}
use Rattle.join_op.specs.Chunks.{kept_rows}

rows_next : (es : List Spare) (i : ℕ) (d : Spare) → i < length es → kept_rows (take (suc i) es) ≡ kept_rows (take i es) ++ (slice_index_or es i d).row.items ∷ []
rows_next [] i d inside = absurd (omega (arith, inside))
rows_next (e ∷ es) zero d inside = refl
rows_next (e ∷ es) (suc i) d inside = ap (λ (rs : List (List ℕ)). e.row.items ∷ rs) (rows_next es i d (omega (arith, inside)))

pub rows_more : (es : List Spare) (i : ℕ) (d : Spare) → i < length es → kept_rows (take (i + 1) es) ≡ kept_rows (take i es) ++ (slice_index_or es i d).row.items ∷ []
rows_more es i d inside = ap (λ (n : ℕ). kept_rows (take n es)) (let next : i + 1 ≡ suc i = omega arith in next) ∙ rows_next es i d inside

pub rows_split : (es : List Spare) (i : ℕ) (d : Spare) → i < length es → kept_rows es ≡ kept_rows (take i es) ++ ((slice_index_or es i d).row.items ∷ kept_rows (drop (suc i) es))
rows_split [] i d inside = absurd (omega (arith, inside))
rows_split (e ∷ es) zero d inside = refl
rows_split (e ∷ es) (suc i) d inside = ap (λ (rs : List (List ℕ)). e.row.items ∷ rs) (rows_split es i d (omega (arith, inside)))
