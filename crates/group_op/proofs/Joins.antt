-- Numbers of a stored row are added to those of another of its key, one after the other.
use Rattle.std.proofs.Common.{◌≡◌, ◌∙◌, ℕ, suc, ◌+◌, ◌*◌, ◌<◌, ◌^◌, List, [], ◌∷◌, ◌++◌, length, map, set, get_or, take, drop, Option, refl, ap, ap₂, sym, subst, arith, length-append}
use Rattle.std.specs.Prelude.{ℤ, ◌+ℤ◌, Bool, true, false, cond, int_lt, pos, All, FitsSigned, flat_map}
use Rattle.std.specs.Int.{w128, cast_signed, cast_unsigned, int_min, int_max}
use Rattle.std.proofs.lemmas.Int.{SFits-int_wrap}
use Rattle.row_codec.specs.declared.values.Agg.TheVariants.{Count, Sum, Min, Max}
use Rattle.std.proofs.Math.Seq.{take-append_seam}
use Rattle.std.proofs.lemmas.Grind.{flat_map-append}
use Rattle.std.proofs.lemmas.List.{length-map, length-set}
use Rattle.std.proofs.lemmas.List.Elements.{All-append, All-cons, All-head, All-set, All-tail, All-nil}
use Rattle.block_arena.specs.Bytes.{written}
use Rattle.row_codec.specs.declared.values.Agg.{Agg}
use Rattle.row_codec.specs.declared.values.Value.{Value}
use Rattle.row_codec.specs.declared.values.Value.TheVariants.{Wide}
use Rattle.row_codec.specs.Row.{IsValue, kind_of, kinds_of}
use Rattle.row_codec.specs.RowBytes.{field_bytes, key_part, row_bytes}
use Rattle.row_codec.specs.RowLaws.{IsRow, RowBack}
use Rattle.row_codec.specs.RowReading.{number_in, row_at}
use Rattle.store_api.specs.declared.shapes.Shape.{Shape}
use Rattle.store_api.specs.Shapes.{IsShape}
use Rattle.bucket_table.specs.Tables.{part_of, with_number}
use Rattle.group_rows.specs.Aggregates.{combined_number, number_of}
use Rattle.group_rows.specs.Partials.{Partial, combine, combined_numbers}
use Rattle.group_rows.proofs.Entries.{half, half_all, half_long, half_more}
use Rattle.group_op.specs.Stored.{IsPartialRow, grouping_of, head_len, joined, key_at, key_kinds, key_values_at, numbers_at, partial_at, values_read, with_numbers}
use Rattle.group_op.proofs.Forms.{bytes_are, fields_of, form_so, has_form, head_of, partial_so, says}
use Rattle.group_op.proofs.Heads.{fields_fit, full_keys, good_numbers, good_values, head_is, heads_long, whole_long}
use Rattle.group_op.proofs.WideBytes.{all_long, all_wide, get_wide, put_wide, wide_bytes, wide_fields}

-- a wide number is read back
pub wide_read : RowBack → (z : ℤ) → FitsSigned w128 z → cast_signed w128 (number_in (wide_bytes z)) ≡ z
unfolding row_at row_bytes
wide_read back z fits =
    let is : IsRow (Wide z ∷ []) = record { some = omega arith; values = All-cons IsValue (Wide z) [] fits (All-nil IsValue); fits = omega arith } in
    ap (λ (o : Option (List Value × ℕ)). number_of (get_or (values_read o) 0 (Wide (pos 0)))) (back (Wide z ∷ []) [] is)

-- the form of a partial row, by what is read of it
pub record Reads (shape : Shape) (bytes : List ℕ) : Type 0 where
  pub bytes_so : bytes ≡ with_numbers shape bytes (numbers_at shape bytes)
  pub many : length (numbers_at shape bytes) ≡ length shape.aggs
  pub kinds_are : kinds_of (key_values_at shape bytes) ≡ key_kinds shape
  pub good : All IsValue (key_values_at shape bytes)
  pub fits : length (fields_of (key_values_at shape bytes)) + 16 * length shape.aggs < 2 ^ 32
  pub some : 0 < length (key_values_at shape bytes) + length shape.aggs
  pub head : head_len shape bytes ≡ length (head_of (key_values_at shape bytes) (length shape.aggs))
  pub numbers : All (FitsSigned w128) (numbers_at shape bytes)
  pub key : key_at shape bytes ≡ flat_map key_part (key_values_at shape bytes)

numbers_fit : (ns : List ℤ) → All IsValue (map Wide ns) → All (FitsSigned w128) ns
numbers_fit [] good = All-nil (FitsSigned w128)
numbers_fit (n ∷ ns) good = All-cons (FitsSigned w128) n ns (All-head IsValue (Wide n) (map Wide ns) good) (numbers_fit ns (All-tail IsValue (Wide n) (map Wide ns) good))

values_fit : (ns : List ℤ) → All (FitsSigned w128) ns → All IsValue (map Wide ns)
values_fit [] fit = All-nil IsValue
values_fit (n ∷ ns) fit = All-cons IsValue (Wide n) (map Wide ns) (All-head (FitsSigned w128) n ns fit) (values_fit ns (All-tail (FitsSigned w128) n ns fit))

pub reads : (shape : Shape) (bytes : List ℕ) → IsShape shape → IsPartialRow shape bytes → Reads shape bytes
reads shape bytes is partial =
    let form = has_form shape bytes partial in
    let full = full_keys shape is in
    let long : length form.values ≡ length shape.keys = sym (length-map form.values kind_of) ∙ ap length form.kinds_are ∙ full in
    let vals : key_values_at shape bytes ≡ form.values =
    ap (take (length shape.keys)) form.read ∙ ap (λ (n : ℕ). take n (form.values ++ map Wide form.numbers)) (sym long) ∙ take-append_seam form.values (map Wide form.numbers) in
    let nums : numbers_at shape bytes ≡ form.numbers = ap (λ (p : Partial). p.numbers) (says shape bytes full form) in
    record {
      bytes_so = sym form.spelled ∙ ap₂ (λ (vs : List Value) (ns : List ℤ). row_bytes (vs ++ map Wide ns)) (sym vals) (sym nums);
      many = ap length nums ∙ form.many;
      kinds_are = ap kinds_of vals ∙ form.kinds_are;
      good = subst (All IsValue) (sym vals) (good_values shape bytes form);
      fits = subst (λ (vs : List Value). length (fields_of vs) + 16 * length shape.aggs < 2 ^ 32) (sym vals) (fields_fit shape bytes form);
      some = (let one = form.is_row.some in let all = length-append form.values (map Wide form.numbers) in let many = form.many in let wide = length-map form.numbers Wide in let same = ap length vals in omega (arith, one, all, many, wide, same));
      head = head_is shape bytes form ∙ ap (λ (vs : List Value). length (head_of vs (length shape.aggs))) (sym vals);
      numbers = subst (All (FitsSigned w128)) (sym nums) (numbers_fit form.numbers (good_numbers shape bytes form));
      key = ap (λ (p : Partial). p.key) (says shape bytes full form) ∙ ap (flat_map key_part) (sym vals);
    }

-- the row with other numbers
module _ (back : RowBack) (shape : Shape) (bytes : List ℕ) (is : IsShape shape) (r : Reads shape bytes) (ns : List ℤ) (many : length ns ≡ length shape.aggs) where
  pub bytes_with : with_numbers shape bytes ns ≡ head_of (key_values_at shape bytes) (length shape.aggs) ++ all_wide ns
  bytes_with = bytes_are (key_values_at shape bytes) ns ∙ ap (λ (n : ℕ). head_of (key_values_at shape bytes) n ++ all_wide ns) many

  pub long_with : length (with_numbers shape bytes ns) ≡ head_len shape bytes + 16 * length shape.aggs
  long_with =
      ap length bytes_with ∙ length-append (head_of (key_values_at shape bytes) (length shape.aggs)) (all_wide ns)
      ∙ ap₂ (λ (a b : ℕ). a + b) (sym r.head) (all_long ns ∙ ap (λ (n : ℕ). 16 * n) many)

  pub get_so : (k : ℕ) → k < length shape.aggs → part_of (head_len shape bytes + 16 * k) 16 (with_numbers shape bytes ns) ≡ wide_bytes (get_or ns k (pos 0))
  get_so k inside =
      ap (part_of (head_len shape bytes + 16 * k) 16) bytes_with
      ∙ get_wide (head_of (key_values_at shape bytes) (length shape.aggs)) ns k (head_len shape bytes + 16 * k) (omega (arith, inside, many)) (let head = r.head in omega (arith, head))

  pub put_so : (k : ℕ) (z : ℤ) → k < length shape.aggs → with_number (head_len shape bytes + 16 * k) (cast_unsigned w128 z) (with_numbers shape bytes ns) ≡ with_numbers shape bytes (set ns k z)
  put_so k z inside =
      ap (written (head_len shape bytes + 16 * k) (wide_bytes z)) bytes_with
      ∙ put_wide (head_of (key_values_at shape bytes) (length shape.aggs)) ns k (head_len shape bytes + 16 * k) z (omega (arith, inside, many)) (let head = r.head in omega (arith, head))
      ∙ sym (bytes_are (key_values_at shape bytes) (set ns k z) ∙ ap (λ (n : ℕ). head_of (key_values_at shape bytes) n ++ all_wide (set ns k z)) (length-set ns k z ∙ many))

  module _ (fit : All (FitsSigned w128) ns) where
    row_with : IsRow (key_values_at shape bytes ++ map Wide ns)
    row_with =
        let body : length (flat_map field_bytes (key_values_at shape bytes ++ map Wide ns)) ≡ length (fields_of (key_values_at shape bytes)) + 16 * length shape.aggs =
        ap length (flat_map-append field_bytes (key_values_at shape bytes) (map Wide ns)) ∙ length-append (fields_of (key_values_at shape bytes)) (flat_map field_bytes (map Wide ns))
        ∙ ap (λ (bs : List ℕ). length (fields_of (key_values_at shape bytes)) + length bs) (wide_fields ns)
        ∙ ap (λ (n : ℕ). length (fields_of (key_values_at shape bytes)) + n) (all_long ns ∙ ap (λ (n : ℕ). 16 * n) many) in
        record {
          some = (let all = length-append (key_values_at shape bytes) (map Wide ns) in let wide = length-map ns Wide in let some = r.some in omega (arith, all, wide, some, many));
          values = All-append IsValue (key_values_at shape bytes) (map Wide ns) r.good (values_fit ns fit);
          fits = (let fits = r.fits in omega (arith, body, fits));
        }

    pub partial_with : IsPartialRow shape (with_numbers shape bytes ns)
    partial_with = partial_so back shape (key_values_at shape bytes) ns r.kinds_are many row_with

    pub says_with : partial_at shape (with_numbers shape bytes ns) ≡ record { key = key_at shape bytes; numbers = ns }
    says_with =
        says shape (with_numbers shape bytes ns) (full_keys shape is) (form_so back shape (key_values_at shape bytes) ns r.kinds_are many row_with)
        ∙ ap (λ (key : List ℕ). (record { key = key; numbers = ns })) (sym r.key)

-- ---- two as one

min_fits : (a b : ℤ) → FitsSigned w128 a → FitsSigned w128 b → FitsSigned w128 (int_min a b)
min_fits a b one two = go (int_lt b a) where
  go : (less : Bool) → FitsSigned w128 (cond less b a)
  go true = two
  go false = one

max_fits : (a b : ℤ) → FitsSigned w128 a → FitsSigned w128 b → FitsSigned w128 (int_max a b)
max_fits a b one two = go (int_lt b a) where
  go : (less : Bool) → FitsSigned w128 (cond less a b)
  go true = one
  go false = two

number_fits : (agg : Agg) (a b : ℤ) → FitsSigned w128 a → FitsSigned w128 b → FitsSigned w128 (combined_number agg a b)
number_fits Count a b one two = SFits-int_wrap w128 (a +ℤ b)
number_fits (Sum column) a b one two = SFits-int_wrap w128 (a +ℤ b)
number_fits (Min column) a b one two = min_fits a b one two
number_fits (Max column) a b one two = max_fits a b one two

numbers_all_fit : (aggs : List Agg) (ms ns : List ℤ) → All (FitsSigned w128) ms → All (FitsSigned w128) ns → All (FitsSigned w128) (combined_numbers aggs ms ns)
numbers_all_fit [] ms ns one two = All-nil (FitsSigned w128)
numbers_all_fit (agg ∷ aggs) [] ns one two = All-nil (FitsSigned w128)
numbers_all_fit (agg ∷ aggs) (m ∷ ms) [] one two = All-nil (FitsSigned w128)
numbers_all_fit (agg ∷ aggs) (m ∷ ms) (n ∷ ns) one two =
    All-cons (FitsSigned w128) (combined_number agg m n) (combined_numbers aggs ms ns)
    (number_fits agg m n (All-head (FitsSigned w128) m ms one) (All-head (FitsSigned w128) n ns two))
    (numbers_all_fit aggs ms ns (All-tail (FitsSigned w128) m ms one) (All-tail (FitsSigned w128) n ns two))

combined_long : (aggs : List Agg) (ms ns : List ℤ) → length ms ≡ length aggs → length ns ≡ length aggs → length (combined_numbers aggs ms ns) ≡ length aggs
combined_long [] ms ns same many = refl
combined_long (agg ∷ aggs) [] ns same many = absurd (omega (arith, same))
combined_long (agg ∷ aggs) (m ∷ ms) [] same many = absurd (omega (arith, many))
combined_long (agg ∷ aggs) (m ∷ ms) (n ∷ ns) same many = ap suc (combined_long aggs ms ns (omega (arith, same)) (omega (arith, many)))

-- two stored rows of one key
pub record IsJoined (shape : Shape) (entry row now : List ℕ) : Type 0 where
  pub partial : IsPartialRow shape now
  pub says_so : partial_at shape now ≡ combine (grouping_of shape) (partial_at shape entry) (partial_at shape row)
  pub key : key_at shape now ≡ key_at shape entry
  pub long : length now ≡ length entry

pub joins : RowBack → (shape : Shape) (entry row : List ℕ) → IsShape shape → IsPartialRow shape entry → IsPartialRow shape row → IsJoined shape entry row (joined shape entry row)
joins back shape entry row is e p =
    let re = reads shape entry is e in
    let rp = reads shape row is p in
    let ns : List ℤ = combined_numbers shape.aggs (numbers_at shape entry) (numbers_at shape row) in
    let many : length ns ≡ length shape.aggs = combined_long shape.aggs (numbers_at shape entry) (numbers_at shape row) re.many rp.many in
    let fit : All (FitsSigned w128) ns = numbers_all_fit shape.aggs (numbers_at shape entry) (numbers_at shape row) re.numbers rp.numbers in
    let says_it : partial_at shape (with_numbers shape entry ns) ≡ record { key = key_at shape entry; numbers = ns } = says_with back shape entry is re ns many fit in
    record {
      partial = partial_with back shape entry is re ns many fit;
      says_so = says_it;
      key = ap (λ (q : Partial). q.key) says_it;
      long = long_with back shape entry is re ns many ∙ sym (ap length re.bytes_so ∙ long_with back shape entry is re (numbers_at shape entry) re.many);
    }

-- ---- the first numbers were added

abbrev pub half_joined : Shape → ℕ → List ℕ → List ℕ → List ℕ
half_joined shape k entry row = with_numbers shape entry (half k shape.aggs (numbers_at shape entry) (numbers_at shape row))

pub room_in_row : (shape : Shape) (row : List ℕ) → IsPartialRow shape row → length row ≡ head_len shape row + 16 * length shape.aggs
room_in_row shape row p = let form = has_form shape row p in let long = whole_long shape row form in let head = head_is shape row form in omega (arith, long, head)

module _ (back : RowBack) (shape : Shape) (entry row : List ℕ) (is : IsShape shape) (e : IsPartialRow shape entry) (p : IsPartialRow shape row) (key : key_at shape entry ≡ key_at shape row) where
  re : Reads shape entry
  re = reads shape entry is e

  rp : Reads shape row
  rp = reads shape row is p

  heads : head_len shape entry ≡ head_len shape row
  heads = heads_long shape entry row is e p key

  half_many : (k : ℕ) → length (half k shape.aggs (numbers_at shape entry) (numbers_at shape row)) ≡ length shape.aggs
  half_many k = half_long k shape.aggs (numbers_at shape entry) (numbers_at shape row) ∙ re.many

  pub none_joined : half_joined shape 0 entry row ≡ entry
  none_joined = sym re.bytes_so

  pub all_joined : (k : ℕ) → k ≡ length shape.aggs → half_joined shape k entry row ≡ joined shape entry row
  all_joined k end = ap (λ (n : ℕ). half_joined shape n entry row) end ∙ ap (with_numbers shape entry) (half_all shape.aggs (numbers_at shape entry) (numbers_at shape row) re.many rp.many)

  pub none_fit : All (FitsSigned w128) (half 0 shape.aggs (numbers_at shape entry) (numbers_at shape row))
  none_fit = re.numbers

  pub half_room : (k : ℕ) → length (half_joined shape k entry row) ≡ head_len shape row + 16 * length shape.aggs
  half_room k = long_with back shape entry is re (half k shape.aggs (numbers_at shape entry) (numbers_at shape row)) (half_many k) ∙ ap (λ (n : ℕ). n + 16 * length shape.aggs) heads

  module _ (k at : ℕ) (inside : k < length shape.aggs) (at_is : at ≡ head_len shape row + 16 * k) where
    pub entry_number : All (FitsSigned w128) (half k shape.aggs (numbers_at shape entry) (numbers_at shape row)) → cast_signed w128 (number_in (part_of at 16 (half_joined shape k entry row))) ≡ get_or (half k shape.aggs (numbers_at shape entry) (numbers_at shape row)) k (pos 0)
    entry_number fit =
        ap (λ (n : ℕ). cast_signed w128 (number_in (part_of n 16 (half_joined shape k entry row)))) (at_is ∙ ap (λ (n : ℕ). n + 16 * k) (sym heads))
        ∙ ap (λ (bytes : List ℕ). cast_signed w128 (number_in bytes)) (get_so back shape entry is re (half k shape.aggs (numbers_at shape entry) (numbers_at shape row)) (half_many k) k inside)
        ∙ wide_read back (get_or (half k shape.aggs (numbers_at shape entry) (numbers_at shape row)) k (pos 0)) (fit k (pos 0) (let many = half_many k in omega (arith, many, inside)))

    pub row_number : cast_signed w128 (number_in (take 16 (drop at row))) ≡ get_or (numbers_at shape row) k (pos 0)
    row_number =
        ap₂ (λ (n : ℕ) (bytes : List ℕ). cast_signed w128 (number_in (part_of n 16 bytes))) at_is rp.bytes_so
        ∙ ap (λ (bytes : List ℕ). cast_signed w128 (number_in bytes)) (get_so back shape row is rp (numbers_at shape row) rp.many k inside)
        ∙ wide_read back (get_or (numbers_at shape row) k (pos 0)) (rp.numbers k (pos 0) (let many = rp.many in omega (arith, many, inside)))

    module _ (z : ℤ) (z_is : z ≡ combined_number (get_or shape.aggs k Count) (get_or (half k shape.aggs (numbers_at shape entry) (numbers_at shape row)) k (pos 0)) (get_or (numbers_at shape row) k (pos 0))) where
      half_next : set (half k shape.aggs (numbers_at shape entry) (numbers_at shape row)) k z ≡ half (k + 1) shape.aggs (numbers_at shape entry) (numbers_at shape row)
      half_next =
          ap (set (half k shape.aggs (numbers_at shape entry) (numbers_at shape row)) k) z_is
          ∙ half_more k shape.aggs (numbers_at shape entry) (numbers_at shape row) Count (pos 0) (pos 0) inside re.many rp.many
          ∙ ap (λ (n : ℕ). half n shape.aggs (numbers_at shape entry) (numbers_at shape row)) (let same : suc k ≡ k + 1 = omega arith in same)

      pub next_joined : with_number at (cast_unsigned w128 z) (half_joined shape k entry row) ≡ half_joined shape (k + 1) entry row
      next_joined =
          ap (λ (n : ℕ). with_number n (cast_unsigned w128 z) (half_joined shape k entry row)) (at_is ∙ ap (λ (n : ℕ). n + 16 * k) (sym heads))
          ∙ put_so back shape entry is re (half k shape.aggs (numbers_at shape entry) (numbers_at shape row)) (half_many k) k z inside
          ∙ ap (with_numbers shape entry) half_next

      pub next_fit : FitsSigned w128 z → All (FitsSigned w128) (half k shape.aggs (numbers_at shape entry) (numbers_at shape row)) → All (FitsSigned w128) (half (k + 1) shape.aggs (numbers_at shape entry) (numbers_at shape row))
      next_fit fits fit = subst (All (FitsSigned w128)) half_next (All-set (FitsSigned w128) (half k shape.aggs (numbers_at shape entry) (numbers_at shape row)) k z fits fit)
