-- The rows of all groups, each of which stands for the rows of its key, stand together for all rows.
use Rattle.std.proofs.Common.{◌≡◌, ◌≢◌, ◌∙◌, ℕ, suc, ◌+◌, ◌*◌, ◌≤◌, Bool, true, false, List, [], ◌∷◌, ◌++◌, length, map, filter, Option, None, Some, ap, ap₂, refl, subst, sym, append-nil, length-append, arith}
use Rattle.std.specs.Prelude.{All, flat_map, slice_get}
use Rattle.std.specs.List.{cons_option, sum_by}
use Rattle.std.specs.List.Sorted.{IsPermutation}
use Rattle.std.specs.Str.{bytes_eq}
use Rattle.std.proofs.lemmas.List.Concat.{flat_map-cons}
use Rattle.std.proofs.lemmas.List.Elements.{All-cons, All-filter, All-head, All-nil, All-tail}
use Rattle.std.proofs.lemmas.List.Sums.{sum_by-append, sum_by-cons}
use Rattle.row_codec.specs.declared.values.Agg.{Agg}
use Rattle.row_codec.specs.declared.values.Kind.{Kind}
use Rattle.row_codec.specs.declared.values.Value.{Value}
use Rattle.row_codec.specs.declared.values.Value.TheVariants.{Int, Text, Wide}
use Rattle.row_codec.specs.Order.{path_order}
use Rattle.row_codec.specs.Row.{IsValue, kinds_of}
use Rattle.row_codec.specs.RowBytes.{key_bytes, key_part, row_bytes, values_in}
use Rattle.row_codec.specs.RowLaws.{IsRow}
use Rattle.row_codec.specs.RowReading.{row_at}
use Rattle.row_codec.proofs.SpelledBack.{row_back}
use Rattle.reservation_tree.specs.declared.errors.PoolErr.{PoolErr}
use Rattle.store_api.specs.Holdings.{Holdings}
use Rattle.store_api.specs.Signs.{Signs}
use Rattle.store_api.specs.declared.shapes.Shape.{Shape}
use Rattle.store_api.specs.declared.store.Store.{Ghosts}
use Rattle.store_api.specs.Shapes.{IsShape}
use Rattle.group_rows.specs.Aggregates.{own_number}
use Rattle.group_rows.specs.Combining.{AreValues}
use Rattle.group_rows.specs.Keyed.{keys_in, with_key}
use Rattle.group_rows.specs.Partials.{Partial, group_in, groups_by}
use Rattle.group_rows.specs.Rows.{partial_in, partial_row}
use Rattle.group_rows.specs.Standing.{StandFor}
use Rattle.group_rows.proofs.Keys.{true_same}
use Rattle.group_rows.proofs.Lengths.{fits_weight, row_length, size}
use Rattle.group_rows.proofs.OneKey.{stands_for_its_rows}
use Rattle.group_rows.proofs.Paths.{path_is_order}
use Rattle.group_op.specs.Emission.{SayAll, Says}
use Rattle.group_op.specs.Feeding.{IsPartOf}
use Rattle.group_op.specs.Operator.{Holds, Operator, bytes_for}
use Rattle.group_op.specs.Pouring.{HasPouredAll, HoldsBesides, LeavesStore, Lent}
use Rattle.group_op.specs.Stored.{IsPartialRow, grouping_of, partial_at, partial_kinds, row_len, values_at, values_read}
use Rattle.group_op.proofs.EachKey.{each_key, has_rows}
use Rattle.group_op.proofs.Weighing.{row_is_long}

-- ---- how long a row is that says a group

module _ (shape : Shape) (row : List Value) (is : IsRow row) (kinds : kinds_of row ≡ partial_kinds shape) where
  read_back : values_at shape (row_bytes row) ≡ row
  unfolding values_at
  read_back =
      ap values_read
      (ap (λ (ks : List Kind). row_at ks (row_bytes row)) (sym kinds)
      ∙ ap (row_at (kinds_of row)) (sym (append-nil (row_bytes row)))
      ∙ row_back row [] is)

  formed : IsPartialRow shape (row_bytes row)
  formed = record { is_row = subst IsRow (sym read_back) is; kinds_are = ap kinds_of read_back ∙ kinds; spelled = ap row_bytes read_back }

  long_by_key : IsShape shape → length (row_bytes row) ≡ row_len shape (partial_in (grouping_of shape) row).key
  unfolding partial_at
  long_by_key shaped = row_is_long shape (row_bytes row) shaped formed ∙ ap (λ (vs : List Value). row_len shape (partial_in (grouping_of shape) vs).key) read_back

-- ---- a row of that key has at least as many bytes, with those of its numbers

part_few : (v : Value) → length (key_part v) ≤ suc (size v)
part_few (Int z) = omega arith
part_few (Text text) = omega arith
part_few (Wide z) = omega arith

parts_few : (vs : List Value) → length (flat_map key_part vs) ≤ length vs + sum_by size vs
parts_few [] = omega arith
parts_few (v ∷ vs) =
    let one = part_few v in
    let rest = parts_few vs in
    let all = ap length (flat_map-cons key_part v vs) ∙ length-append (key_part v) (flat_map key_part vs) in
    let sizes = sum_by-cons size v vs in
    omega (arith, one, rest, all, sizes)

option_few : (o : Option Value) (vs : List Value) (n : ℕ) → length vs ≤ n → length (cons_option o vs) ≤ suc n
option_few None vs n few = omega (arith, few)
option_few (Some v) vs n few = omega (arith, few)

values_few : (columns : List ℕ) (row : List Value) → length (values_in columns row) ≤ length columns
values_few [] row = omega arith
values_few (c ∷ cs) row = option_few (slice_get row c) (values_in cs row) (length cs) (values_few cs row)

wides : (aggs : List Agg) (row : List Value) → sum_by size (map (λ agg. Wide (own_number agg row)) aggs) ≡ 16 * length aggs
wides [] row = refl
wides (agg ∷ aggs) row = sum_by-cons size (Wide (own_number agg row)) (map (λ agg. Wide (own_number agg row)) aggs) ∙ omega (arith, wides aggs row)

row_weighs : (shape : Shape) (row : List Value) → IsShape shape → row_len shape (key_bytes shape.keys row) ≤ length (row_bytes row) + 16 * length shape.aggs
unfolding key_bytes
row_weighs shape row is =
    let fits = fits_weight (grouping_of shape) row is.distinct in
    let long = row_length (partial_row (grouping_of shape) row) in
    let both = sum_by-append size (values_in shape.keys row) (map (λ agg. Wide (own_number agg row)) shape.aggs) in
    let numbers = wides shape.aggs row in
    let parts = parts_few (values_in shape.keys row) in
    let few = values_few shape.keys row in
    omega (arith, fits, long, both, numbers, parts, few)

some_weighs : (shape : Shape) (q : List ℕ) (rows : List (List Value)) → IsShape shape → with_key (key_bytes shape.keys) q rows ≢ [] → row_len shape q ≤ bytes_for shape (with_key (key_bytes shape.keys) q rows)
some_weighs shape q [] is some = absurd (some refl)
some_weighs shape q (row ∷ rows) is some = at (bytes_eq q (key_bytes shape.keys row)) refl (some_weighs shape q rows is) some where
  own : List (List Value) → List (List Value)
  own rs = with_key (key_bytes shape.keys) q rs

  at : (b : Bool) → bytes_eq q (key_bytes shape.keys row) ≡ b → (own rows ≢ [] → row_len shape q ≤ bytes_for shape (own rows)) → own (row ∷ rows) ≢ [] → row_len shape q ≤ bytes_for shape (own (row ∷ rows))
  at true here rest some =
      let key = ap (row_len shape) (true_same q (key_bytes shape.keys row) here) in
      let weighs = row_weighs shape row is in
      let all = sum_by-cons (λ (r : List Value). length (row_bytes r) + 16 * length shape.aggs) row (own rows) in
      rw here (omega (arith, key, weighs, all))
  at false here rest some = rw here (rest (rw here at some))

-- ---- each row is a part, and all parts together are all rows

module _ (shape : Shape) (fed : List (List Value)) (shaped : IsShape shape) (values : AreValues fed) where
  -- the rows of the key of a partial row
  abbrev pub rows_of_key : List Value → List (List Value)
  rows_of_key row = with_key (key_bytes shape.keys) (partial_in (grouping_of shape) row).key fed

  is_part : (q : List ℕ) (row : List Value) → with_key (key_bytes shape.keys) q fed ≢ [] → Says shape (group_in (grouping_of shape) fed q) row → IsPartOf shape row (rows_of_key row)
  is_part q row some says =
      let key : (partial_in (grouping_of shape) row).key ≡ q = ap (λ (p : Partial). p.key) says.says in
      let own = with_key (key_bytes shape.keys) q fed in
      let stands : StandFor path_order (grouping_of shape) own (partial_in (grouping_of shape) row ∷ []) =
      subst (λ (p : Partial). StandFor path_order (grouping_of shape) own (p ∷ [])) (sym says.says) (stands_for_its_rows path_order path_is_order (grouping_of shape) fed q some) in
      let long = long_by_key shape row says.is_row says.kinds_are shaped ∙ ap (row_len shape) key in
      let most = some_weighs shape q fed shaped some in
      let at_q : IsPartOf shape row own = record { values = All-filter (λ r. bytes_eq q (key_bytes shape.keys r)) (λ r. All IsValue r) fed values; stands = stands; light = omega (arith, long, most) } in
      subst (λ (k : List ℕ). IsPartOf shape row (with_key (key_bytes shape.keys) k fed)) (sym key) at_q

  are_parts : (ks : List (List ℕ)) (rows : List (List Value)) → All (λ q. with_key (key_bytes shape.keys) q fed ≢ []) ks → SayAll shape (map (group_in (grouping_of shape) fed) ks) rows
      → All (λ row. IsPartOf shape row (rows_of_key row)) rows × (flat_map rows_of_key rows ≡ flat_map (λ q. with_key (key_bytes shape.keys) q fed) ks)
  are_parts [] [] some say = (All-nil (λ row. IsPartOf shape row (rows_of_key row)), refl)
  are_parts [] (row ∷ rows) some say = absurd say
  are_parts (q ∷ ks) [] some say = absurd say
  are_parts (q ∷ ks) (row ∷ rows) some say =
      let first : with_key (key_bytes shape.keys) q fed ≢ [] = All-head (λ k. with_key (key_bytes shape.keys) k fed ≢ []) q ks some in
      let rest = are_parts ks rows (All-tail (λ k. with_key (key_bytes shape.keys) k fed ≢ []) q ks some) say.1 in
      let key : (partial_in (grouping_of shape) row).key ≡ q = ap (λ (p : Partial). p.key) say.0.says in (
        All-cons (λ r. IsPartOf shape r (rows_of_key r)) row rows (is_part q row first say.0) rest.0,
        flat_map-cons rows_of_key row rows
            ∙ ap₂ (λ (a b : List (List Value)). a ++ b) (ap (λ (k : List ℕ). with_key (key_bytes shape.keys) k fed) key) rest.1
            ∙ sym (flat_map-cons (λ k. with_key (key_bytes shape.keys) k fed) q ks),
      )

  pub all_parts : (rows : List (List Value)) → SayAll shape (groups_by path_order (grouping_of shape) fed) rows → All (λ row. IsPartOf shape row (rows_of_key row)) rows × IsPermutation fed (flat_map rows_of_key rows)
  all_parts rows say =
      let both = are_parts (keys_in path_order (key_bytes shape.keys) fed) rows (has_rows (key_bytes shape.keys) path_order path_is_order fed) say in
      (both.0, subst (IsPermutation fed) (sym both.1) (each_key (key_bytes shape.keys) path_order path_is_order fed))

-- beside what a grouping held, it holds them all
pub besides : (shape : Shape) (fed mine : List (List Value)) (was now : Lent) (stopped : Option PoolErr) → IsShape shape → AreValues fed → was.op.shape ≡ shape → stopped ≡ None
    → HasPouredAll shape (groups_by path_order (grouping_of shape) fed) was now stopped → Holds mine was.op was.held was.signs → HoldsBesides mine fed now.op now.held now.signs
besides shape fed mine was now stopped shaped values same going all holds =
    let parts = all_parts shape fed shaped values all.rows all.say in
    let of : List Value → List (List Value) = rows_of_key shape fed shaped values in
    let are : All (λ row. IsPartOf was.op.shape row (of row)) all.rows = subst (λ (s : Shape). All (λ row. IsPartOf s row (of row)) all.rows) (sym same) parts.0 in
    record { rows = flat_map of all.rows; same = parts.1; holds = all.poured.holds going of mine are holds }

-- what a reference was is what is behind it in the end
module _ {St : Type 0} (store : Ghosts St) (op op' : Operator) (x x' : St) (is_op : op' ≡ op) (is_store : x' ≡ x) where
  pub besides_at : (mine fed : List (List Value)) → HoldsBesides mine fed op (store.holds x) (store.signs x) → HoldsBesides mine fed op' (store.holds x') (store.signs x')
  besides_at mine fed holds =
      subst (λ (y : St). HoldsBesides mine fed op' (store.holds y) (store.signs y)) (sym is_store) (subst (λ (o : Operator). HoldsBesides mine fed o (store.holds x) (store.signs x)) (sym is_op) holds)

  pub left_at : (was : Operator) (h : Holdings) (s : Signs) → LeavesStore was op h (store.holds x) s (store.signs x) → LeavesStore was op' h (store.holds x') s (store.signs x')
  left_at was h s left =
      subst (λ (y : St). LeavesStore was op' h (store.holds y) s (store.signs y)) (sym is_store) (subst (λ (o : Operator). LeavesStore was o h (store.holds x) s (store.signs x)) (sym is_op) left)
