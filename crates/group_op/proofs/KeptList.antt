-- What entries say, one after the other.
use Rattle.std.proofs.Common.{◌≡◌, ℕ, zero, suc, ◌+◌, ◌<◌, List, [], ◌∷◌, ◌++◌, length, take, drop, refl, ap, ◌∙◌, arith}
use Rattle.std.specs.Prelude.{All, slice_index_or}
use Rattle.std.proofs.lemmas.List.Elements.{All-head, All-tail}
use Rattle.store_api.specs.declared.shapes.Shape.{Shape}
use Rattle.group_rows.specs.Partials.{Partial}
use Rattle.group_op.specs.declared.lowest.Entry.{Entry}
use Rattle.group_op.specs.Keepings.{kept_in}
use Rattle.group_op.specs.Stored.{partial_at}

module _ (shape : Shape) where
  kept_next : (es : List Entry) (i : ℕ) (d : Entry) → i < length es → kept_in shape (take (suc i) es) ≡ kept_in shape (take i es) ++ partial_at shape (slice_index_or es i d).row.items ∷ []
  kept_next [] i d inside = absurd (omega (arith, inside))
  kept_next (e ∷ es) zero d inside = refl
  kept_next (e ∷ es) (suc i) d inside = ap (λ (ps : List Partial). partial_at shape e.row.items ∷ ps) (kept_next es i d (omega (arith, inside)))

  pub kept_more : (es : List Entry) (i : ℕ) (d : Entry) → i < length es → kept_in shape (take (i + 1) es) ≡ kept_in shape (take i es) ++ partial_at shape (slice_index_or es i d).row.items ∷ []
  kept_more es i d inside = ap (λ (n : ℕ). kept_in shape (take n es)) (let next : i + 1 ≡ suc i = omega arith in next) ∙ kept_next es i d inside

  pub kept_split : (es : List Entry) (i : ℕ) (d : Entry) → i < length es → kept_in shape es ≡ kept_in shape (take i es) ++ ((partial_at shape (slice_index_or es i d).row.items ∷ []) ++ kept_in shape (drop (suc i) es))
  kept_split [] i d inside = absurd (omega (arith, inside))
  kept_split (e ∷ es) zero d inside = refl
  kept_split (e ∷ es) (suc i) d inside = ap (λ (ps : List Partial). partial_at shape e.row.items ∷ ps) (kept_split es i d (omega (arith, inside)))

  pub kept_there : (P : Partial → Type 0) (es : List Entry) (i : ℕ) (d : Entry) → i < length es → All P (kept_in shape es) → P (partial_at shape (slice_index_or es i d).row.items)
  kept_there P [] i d inside all = absurd (omega (arith, inside))
  kept_there P (e ∷ es) zero d inside all = All-head P (partial_at shape e.row.items) (kept_in shape es) all
  kept_there P (e ∷ es) (suc i) d inside all = kept_there P es i d (omega (arith, inside)) (All-tail P (partial_at shape e.row.items) (kept_in shape es) all)
