-- The columns that are summed.
use Rattle.std.proofs.Common.{◌≡◌, ◌∙◌, ◌≤◌, ◌+◌, ◌-◌, ◌++◌, ◌∷◌, [], ℕ, List, map, sym, ap, arith}
use Rattle.std.specs.List.{range_with_len}
use Rattle.std.proofs.lemmas.List.FromFn.{map-range_with_len_more}
use Rattle.row_codec.specs.declared.values.Agg.{Agg}
use Rattle.row_codec.specs.declared.values.Agg.TheVariants.{Sum}

-- one column more
pub sums_next : (keys column : ℕ) (sums next : List Agg) → keys ≤ column → sums ≡ map Sum (range_with_len keys (column - keys)) → next ≡ sums ++ Sum column ∷ []
    → next ≡ map Sum (range_with_len keys (column + 1 - keys))
sums_next keys column sums next above so-far more =
    let size : column + 1 - keys ≡ column - keys + 1 = omega (arith, above) in
    let last : keys + (column - keys) ≡ column = omega (arith, above) in
    more ∙ ap (λ l. l ++ Sum column ∷ []) so-far ∙ sym (map-range_with_len_more Sum keys (column - keys) column last) ∙ ap (λ n. map Sum (range_with_len keys n)) (sym size)
