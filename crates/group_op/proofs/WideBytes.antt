-- Wide numbers one behind the other, read and written where they stand.
use Rattle.std.proofs.Common.{◌≡◌, ◌∙◌, ℕ, zero, suc, ◌+◌, ◌*◌, ◌<◌, List, [], ◌∷◌, ◌++◌, length, take, drop, set, get_or, map, refl, ap, ap₂, sym, arith, append_assoc, length-append}
use Rattle.std.specs.Prelude.{ℤ, pos, flat_map}
use Rattle.std.specs.Int.{w128, to_be_bytes, cast_unsigned}
use Rattle.std.proofs.Math.Seq.{take-append_seam, drop-append_seam, drop-append-add}
use Rattle.block_arena.specs.Bytes.{written}
use Rattle.row_codec.specs.RowBytes.{field_bytes}
use Rattle.row_codec.specs.declared.values.Value.TheVariants.{Wide}

abbrev pub wide_bytes : ℤ → List ℕ
wide_bytes z = to_be_bytes w128 (cast_unsigned w128 z)

abbrev pub all_wide : List ℤ → List ℕ
all_wide ns = flat_map wide_bytes ns

pub wide_long : (z : ℤ) → length (wide_bytes z) ≡ 16
wide_long z = refl

pub all_long : (ns : List ℤ) → length (all_wide ns) ≡ 16 * length ns
all_long [] = refl
all_long (n ∷ ns) = let rest = all_long ns in let one = length-append (wide_bytes n) (all_wide ns) in omega (arith, rest, one)

pub wide_fields : (ns : List ℤ) → flat_map field_bytes (map Wide ns) ≡ all_wide ns
wide_fields [] = refl
wide_fields (n ∷ ns) = ap (λ (rest : List ℕ). wide_bytes n ++ rest) (wide_fields ns)

front_cut : (pre mid rest : List ℕ) (n : ℕ) → n ≡ length pre → take n (pre ++ (mid ++ rest)) ≡ pre
front_cut pre mid rest n is = ap (λ (k : ℕ). take k (pre ++ (mid ++ rest))) is ∙ take-append_seam pre (mid ++ rest)

back_cut : (pre mid rest : List ℕ) (n : ℕ) → n ≡ length pre + length mid → drop n (pre ++ (mid ++ rest)) ≡ rest
back_cut pre mid rest n is = ap (λ (k : ℕ). drop k (pre ++ (mid ++ rest))) is ∙ drop-append-add pre (mid ++ rest) (length mid) ∙ drop-append_seam mid rest

-- a number is put in the place of another
pub put_wide : (pre : List ℕ) (ns : List ℤ) (k at : ℕ) (z : ℤ) → k < length ns → at ≡ length pre + 16 * k → written at (wide_bytes z) (pre ++ all_wide ns) ≡ pre ++ all_wide (set ns k z)
put_wide pre [] k at z inside is = absurd (omega (arith, inside))
put_wide pre (n ∷ ns) zero at z inside is =
    ap₂ (λ (a b : List ℕ). a ++ (wide_bytes z ++ b))
    (front_cut pre (wide_bytes n) (all_wide ns) at (omega (arith, is)))
    (back_cut pre (wide_bytes n) (all_wide ns) (at + length (wide_bytes z)) (let a = wide_long z in let b = wide_long n in omega (arith, is, a, b)))
put_wide pre (n ∷ ns) (suc k) at z inside is =
    let long : length (pre ++ wide_bytes n) ≡ length pre + 16 = length-append pre (wide_bytes n) in
    ap (written at (wide_bytes z)) (sym (append_assoc pre (wide_bytes n) (all_wide ns)))
    ∙ put_wide (pre ++ wide_bytes n) ns k at z (omega (arith, inside)) (omega (arith, is, long))
    ∙ append_assoc pre (wide_bytes n) (all_wide (set ns k z))

-- a number is found where it stands
pub get_wide : (pre : List ℕ) (ns : List ℤ) (k at : ℕ) → k < length ns → at ≡ length pre + 16 * k → take 16 (drop at (pre ++ all_wide ns)) ≡ wide_bytes (get_or ns k (pos 0))
get_wide pre [] k at inside is = absurd (omega (arith, inside))
get_wide pre (n ∷ ns) zero at inside is =
    ap (take 16) (ap (λ (i : ℕ). drop i (pre ++ (wide_bytes n ++ all_wide ns))) (let zero_so : at ≡ length pre = omega (arith, is) in zero_so) ∙ drop-append_seam pre (wide_bytes n ++ all_wide ns))
    ∙ take-append_seam (wide_bytes n) (all_wide ns)
get_wide pre (n ∷ ns) (suc k) at inside is =
    let long : length (pre ++ wide_bytes n) ≡ length pre + 16 = length-append pre (wide_bytes n) in
    ap (λ (bytes : List ℕ). take 16 (drop at bytes)) (sym (append_assoc pre (wide_bytes n) (all_wide ns)))
    ∙ get_wide (pre ++ wide_bytes n) ns k at (omega (arith, inside)) (omega (arith, is, long))
