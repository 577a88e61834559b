-- Sums of few numbers don't wrap.
use Rattle.std.proofs.Common.{◌≡◌, ◌⊎◌, inl, inr, ℕ, suc, ◌+◌, ◌*◌, ◌<◌, ◌≤◌, ◌^◌, List, [], ◌∷◌, length, refl, ap, sym, ◌∙◌, subst, arith}
use Rattle.std.specs.Prelude.{All, fold, ℤ, pos, negsuc, ◌+ℤ◌, ◌≤ℤ◌, FitsSigned, unsigned_abs}
use Rattle.std.specs.Int.{w64, w128, int_min, int_max}
use Rattle.std.specs.List.{Contains}
use Rattle.std.proofs.lemmas.Int.{ints, int_wrap_fits, fits_signed_from_abs, fold-int_min_bounds, fold-int_min_reached, fold-int_max_bounds, fold-int_max_reached}
use Rattle.std.proofs.lemmas.List.{length-map}
use Rattle.std.proofs.lemmas.List.Elements.{All-head, All-tail, All-cons}
use Rattle.row_codec.specs.declared.values.Value.{Value}
use Rattle.group_rows.specs.Aggregates.{number_at, numbers_at, total}
use Rattle.group_rows.specs.Bounds.{AreExtremes, AreTrue}
use Rattle.group_rows.proofs.Giving.{total_from}

pub abs_add : (a b : ℤ) → unsigned_abs (a +ℤ b) ≤ unsigned_abs a + unsigned_abs b
abs_add a b = omega (arith, ints)

abs_short : (z : ℤ) → FitsSigned w64 z → unsigned_abs z ≤ 2 ^ 63
abs_short (pos n) fits = omega (arith, fits.sfits)
abs_short (negsuc n) fits = omega (arith, fits.sfits)

few_total : (ns : List ℤ) → All (λ n. FitsSigned w64 n) ns → unsigned_abs (total ns) ≤ length ns * 2 ^ 63
few_total [] all = omega arith
few_total (n ∷ ns) all =
    let whole : total (n ∷ ns) ≡ n +ℤ total ns = total_from (pos 0 +ℤ n) ns ∙ ap (λ (z : ℤ). z +ℤ total ns) (let e : pos 0 +ℤ n ≡ n = omega (arith, ints) in e) in
    let rest = few_total ns (All-tail (λ n. FitsSigned w64 n) n ns all) in
    let first = abs_short n (All-head (λ n. FitsSigned w64 n) n ns all) in
    let both = abs_add n (total ns) in
    let sum : unsigned_abs (total (n ∷ ns)) ≤ unsigned_abs n + unsigned_abs (total ns) = subst (λ (z : ℤ). unsigned_abs z ≤ unsigned_abs n + unsigned_abs (total ns)) (sym whole) both in
    omega (arith, sum, first, rest)

pub sums_are_true : (rows : List (List Value)) → length rows ≤ 2 ^ 62 → AreTrue rows
sums_are_true rows few = record {
  count = int_wrap_fits w128 (pos (length rows)) (fits_signed_from_abs w128 (pos (length rows)) (omega (arith, few)));
  sum = λ column short.
      let bound = few_total (numbers_at column rows) short in
      let many = length-map rows (number_at column) in
      int_wrap_fits w128 (total (numbers_at column rows)) (fits_signed_from_abs w128 (total (numbers_at column rows)) (omega (arith, few, bound, many)));
}

reached : (n r : ℤ) (ns : List ℤ) → (r ≡ n) ⊎ Contains ns r → Contains (n ∷ ns) r
reached n r ns (inl e) = (0, omega arith, sym e)
reached n r ns (inr (k, inside, is)) = (suc k, omega (arith, inside), is)

pub extremes_are_true : (column : ℕ) (rows : List (List Value)) → 0 < length rows → AreExtremes column rows
extremes_are_true column [] some = absurd (omega (arith, some))
extremes_are_true column (row ∷ rows) some =
    let n : ℤ = number_at column row in
    let ns : List ℤ = numbers_at column rows in
    let low : ℤ = fold int_min (number_at column row) (numbers_at column rows) in
    let high : ℤ = fold int_max (number_at column row) (numbers_at column rows) in
    let lows = fold-int_min_bounds n ns low refl in
    let highs = fold-int_max_bounds n ns high refl in
    record {
      least_there = reached n low ns (fold-int_min_reached n ns low refl);
      least_below = All-cons (λ m. low ≤ℤ m) n ns lows.0 lows.1;
      greatest_there = reached n high ns (fold-int_max_reached n ns high refl);
      greatest_above = All-cons (λ m. m ≤ℤ high) n ns highs.0 highs.1;
    }
