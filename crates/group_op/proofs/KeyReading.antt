-- A partial row is what is read of its bytes, and its key is spelled value by value.
use Rattle.std.proofs.Common.{◌≡◌, ◌∙◌, ℕ, zero, suc, ◌+◌, ◌<◌, List, [], ◌∷◌, ◌++◌, length, map, take, drop, Some, refl, ap, sym, subst, arith, append_assoc, append-nil, length-append}
use Rattle.std.specs.Prelude.{flat_map, filter_map, slice_get, get_or}
use Rattle.std.proofs.Math.Seq.{take-suc}
use Rattle.std.proofs.lemmas.List.Elements.{filter_map-append}
use Rattle.row_codec.specs.declared.values.Agg.{Agg}
use Rattle.row_codec.specs.declared.values.Kind.{Kind}
use Rattle.row_codec.specs.declared.values.Kind.TheVariants.{Wide}
use Rattle.row_codec.specs.declared.values.Value.{Value}
use Rattle.row_codec.specs.Row.{kinds_of}
use Rattle.row_codec.specs.RowBytes.{key_bytes, key_part, row_bytes}
use Rattle.row_codec.specs.RowLaws.{Begins, IsRow, NoneBegins}
use Rattle.row_codec.specs.RowReading.{row_at}
use Rattle.store_api.specs.declared.shapes.Shape.{Shape}
use Rattle.group_op.specs.Stored.{IsPartialRow, key_at, partial_at, partial_kinds, values_at, values_read}

pub read_values : (shape : Shape) (bytes : List ℕ) (vs : List Value) (len : ℕ) → Some (vs, len) ≡ row_at (partial_kinds shape) bytes → vs ≡ values_at shape bytes
unfolding values_at
read_values shape bytes vs len read = ap values_read read

no_rest : (xs ys zs : List ℕ) → xs ++ ys ≡ zs → length xs ≡ length zs → xs ≡ zs
no_rest xs [] zs same long = sym (append-nil xs) ∙ same
no_rest xs (y ∷ ys) zs same long = absurd (let all = length-append xs (y ∷ ys) in let is = ap length same in omega (arith, all, is, long))

-- a row that is all the bytes is a partial row
pub whole_is_partial : (shape : Shape) (bytes : List ℕ) (vs : List Value) → vs ≡ values_at shape bytes → Begins (partial_kinds shape) vs bytes → length (row_bytes vs) ≡ length bytes → IsPartialRow shape bytes
whole_is_partial shape bytes vs are begins long = record {
  is_row = subst IsRow are begins.is_row;
  kinds_are = ap kinds_of (sym are) ∙ begins.kinds_are;
  spelled = ap row_bytes (sym are) ∙ no_rest (row_bytes vs) begins.behind bytes begins.bytes_are long;
}

-- and a partial row is all the bytes
pub partial_is_whole : (shape : Shape) (bytes : List ℕ) (vs : List Value) → vs ≡ values_at shape bytes → IsPartialRow shape bytes → length (row_bytes vs) ≡ length bytes
partial_is_whole shape bytes vs are is = ap (λ (ws : List Value). length (row_bytes ws)) are ∙ ap length is.spelled

pub none_is_partial : (shape : Shape) (bytes : List ℕ) → NoneBegins (partial_kinds shape) bytes → IsPartialRow shape bytes → ⊥
none_is_partial shape bytes none is = none (values_at shape bytes) (record { is_row = is.is_row; kinds_are = is.kinds_are; behind = []; bytes_are = append-nil (row_bytes (values_at shape bytes)) ∙ is.spelled })

-- its key is what its first values have for one
pub key_is : (shape : Shape) (bytes : List ℕ) (vs : List Value) → vs ≡ values_at shape bytes → flat_map key_part (take (length shape.keys) vs) ≡ key_at shape bytes
unfolding partial_at
key_is shape bytes vs are = ap (λ (ws : List Value). flat_map key_part (take (length shape.keys) ws)) are

-- ---- value by value

pub part_there : (vs : List Value) (at : ℕ) → at < length vs → key_bytes (at ∷ []) vs ≡ flat_map key_part (take 1 (drop at vs))
unfolding key_bytes
part_there [] at inside = absurd (omega (arith, inside))
part_there (v ∷ vs) zero inside = refl
part_there (v ∷ vs) (suc at) inside = part_there vs at (omega (arith, inside))

-- the kinds of one more column
pub kinds_more : (kinds : List Kind) (columns : List ℕ) (i d : ℕ) → i < length columns → filter_map (slice_get kinds) (take (i + 1) columns) ≡ filter_map (slice_get kinds) (take i columns) ++ filter_map (slice_get kinds) (get_or columns i d ∷ [])
kinds_more kinds columns i d inside =
    let next : i + 1 ≡ suc i = omega arith in
    ap (λ (n : ℕ). filter_map (slice_get kinds) (take n columns)) next
    ∙ ap (filter_map (slice_get kinds)) (take-suc columns i d inside)
    ∙ filter_map-append (slice_get kinds) (take i columns) (get_or columns i d ∷ [])

-- and a number more
pub wides_more : (aggs : List Agg) (i : ℕ) → i < length aggs → map (λ agg. Wide) (take (i + 1) aggs) ≡ map (λ agg. Wide) (take i aggs) ++ (Wide ∷ [])
wides_more aggs i inside =
    let next : i + 1 ≡ suc i = omega arith in
    ap (λ (n : ℕ). map (λ agg. Wide) (take n aggs)) next ∙ wides_next aggs i inside
  where
    wides_next : (aggs : List Agg) (i : ℕ) → i < length aggs → map (λ agg. Wide) (take (suc i) aggs) ≡ map (λ agg. Wide) (take i aggs) ++ (Wide ∷ [])
    wides_next [] i inside = absurd (omega (arith, inside))
    wides_next (agg ∷ aggs) zero inside = refl
    wides_next (agg ∷ aggs) (suc i) inside = ap (λ (ks : List Kind). Wide ∷ ks) (wides_next aggs i (omega (arith, inside)))

-- and what one more value has for a key
pub parts_more : (vs : List Value) (at : ℕ) → flat_map key_part (take (at + 1) vs) ≡ flat_map key_part (take at vs) ++ flat_map key_part (take 1 (drop at vs))
parts_more vs at =
    let next : at + 1 ≡ suc at = omega arith in
    ap (λ (n : ℕ). flat_map key_part (take n vs)) next ∙ parts_next vs at
  where
    parts_next : (vs : List Value) (at : ℕ) → flat_map key_part (take (suc at) vs) ≡ flat_map key_part (take at vs) ++ flat_map key_part (take 1 (drop at vs))
    parts_next [] zero = refl
    parts_next [] (suc at) = refl
    parts_next (v ∷ vs) zero = refl
    parts_next (v ∷ vs) (suc at) = ap (λ (bytes : List ℕ). key_part v ++ bytes) (parts_next vs at) ∙ sym (append_assoc (key_part v) (flat_map key_part (take at vs)) (flat_map key_part (take 1 (drop at vs))))
