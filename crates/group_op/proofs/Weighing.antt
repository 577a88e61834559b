-- Rows that don't fit a table weigh more than two pages, and so do those of all keys that were fed.
use Rattle.std.proofs.Common.{◌≡◌, ◌≢◌, ◌∙◌, ℕ, ◌+◌, ◌*◌, ◌<◌, ◌≤◌, false, List, [], ◌∷◌, ◌++◌, length, map, fold, refl, ap, sym, subst, arith, append-nil, inl, inr}
use Rattle.std.specs.Prelude.{All, flat_map}
use Rattle.std.specs.BTreeSet.{insert_key}
use Rattle.std.specs.List.{AllByRecursion, sum_by}
use Rattle.std.specs.List.Sorted.{IsPermutation}
use Rattle.std.specs.Ordering.{match_ordering}
use Rattle.std.specs.Str.{bytes_eq}
use Rattle.std.specs.declared.cmp.Ordering.{Ordering}
use Rattle.std.specs.declared.cmp.Ordering.TheVariants.{Less, Equal, Greater}
use Rattle.std.proofs.lemmas.List.{length-map}
use Rattle.std.proofs.lemmas.List.Elements.{All-cons, All-head, All-nil, All-tail}
use Rattle.std.proofs.lemmas.List.Sorted.{IsPermutation-refl, sum_by-IsPermutation}
use Rattle.std.proofs.lemmas.List.Sums.{fold-append, sum_by-cons}
use Rattle.std.proofs.lemmas.Map.Keys.{IsDistinct-cons}
use Rattle.row_codec.specs.declared.values.Value.{Value}
use Rattle.row_codec.specs.Order.{path_order}
use Rattle.row_codec.specs.Row.{kind_of}
use Rattle.row_codec.specs.RowBytes.{key_bytes, key_part}
use Rattle.store_api.specs.declared.shapes.Shape.{Shape}
use Rattle.store_api.specs.Shapes.{IsShape}
use Rattle.bucket_table.specs.Tables.{Node, Table, used_by}
use Rattle.group_rows.specs.Combining.{AreValues}
use Rattle.group_rows.specs.Keyed.{IsExactOrder, KeyOrder, keys_in}
use Rattle.group_rows.specs.Partials.{Grouping, Partial, combine, combined_by, group_in, key_of}
use Rattle.group_rows.specs.Standing.{StandFor}
use Rattle.group_rows.specs.Tables.{HaveDistinctKeys}
use Rattle.group_rows.proofs.Each.{keys_each}
use Rattle.group_rows.proofs.Keeping.{distinct_stay}
use Rattle.group_rows.proofs.Lengths.{length_by_key}
use Rattle.group_rows.proofs.Merging.{combines}
use Rattle.group_rows.proofs.Paths.{path_is_order}
use Rattle.group_op.specs.Held.{AreEntries, StandBehind, rows_of}
use Rattle.group_op.specs.Putting.{AreLong, IsCrowded, IsTooLong, Lacks}
use Rattle.group_op.specs.Stored.{IsPartialRow, SameGroups, grouping_of, key_at, keys_len, partial_at, partials_at, row_len}
use Rattle.group_op.proofs.Entering.{apart_false}
use Rattle.group_op.proofs.Fed.{fed_stands}
use Rattle.group_op.proofs.Forms.{has_form, says}
use Rattle.group_op.proofs.Heads.{full_keys, key_values}
use Rattle.group_op.proofs.Same.{same_refl}

-- ---- how long a row of a key is

pub row_is_long : (shape : Shape) (row : List ℕ) → IsShape shape → IsPartialRow shape row → length row ≡ row_len shape (key_at shape row)
row_is_long shape row is partial =
    let form = has_form shape row partial in
    let full = full_keys shape is in
    let many : length form.values ≡ length shape.keys = sym (length-map form.values kind_of) ∙ ap length form.kinds_are ∙ full in
    let key : key_at shape row ≡ flat_map key_part form.values = ap (λ (p : Partial). p.key) (says shape row full form) in
    let numbers = form.many in
    let spelled = ap length form.spelled in
    let long = length_by_key form.values form.numbers (key_values shape row is form) in
    let keyed = ap length key in
    omega (arith, many, numbers, spelled, long, keyed)

abbrev pub weight_of : Shape → List ℕ → ℕ
weight_of shape key = row_len shape key + 4

rows_weigh : (shape : Shape) (rows : List (List ℕ)) → IsShape shape → All (IsPartialRow shape) rows → sum_by (λ r. length r + 4) rows ≡ sum_by (λ p. weight_of shape p.key) (partials_at shape rows)
rows_weigh shape [] is formed = refl
rows_weigh shape (r ∷ rows) is formed =
    let rest = rows_weigh shape rows is (All-tail (IsPartialRow shape) r rows formed) in
    let long = row_is_long shape r is (All-head (IsPartialRow shape) r rows formed) in
    let was : sum_by (λ r. length r + 4) (r ∷ rows) ≡ length r + 4 + sum_by (λ r. length r + 4) rows = sum_by-cons (λ (r : List ℕ). length r + 4) r rows in
    let now : sum_by (λ p. weight_of shape p.key) (partial_at shape r ∷ partials_at shape rows) ≡ row_len shape (key_at shape r) + 4 + sum_by (λ p. weight_of shape p.key) (partials_at shape rows) = sum_by-cons (λ (p : Partial). weight_of shape p.key) (partial_at shape r) (partials_at shape rows) in
    omega (arith, rest, long, was, now)

-- ---- a table that has no room

used_sum : (nodes : List Node) → StandBehind nodes → used_by nodes ≡ sum_by (λ r. length r + 4) (map (λ n. n.row) nodes)
used_sum [] behind = refl
used_sum (n ∷ older) behind =
    let rest = used_sum older behind.1 in
    let place = behind.0 in
    let all : sum_by (λ r. length r + 4) (n.row ∷ map (λ (m : Node). m.row) older) ≡ length n.row + 4 + sum_by (λ r. length r + 4) (map (λ (m : Node). m.row) older) = sum_by-cons (λ (r : List ℕ). length r + 4) n.row (map (λ (m : Node). m.row) older) in
    omega (arith, rest, place, all)

rows_apart : (shape : Shape) (key : List ℕ) (nodes : List Node) → All (λ n. key_at shape n.row ≢ key) nodes → All (λ r. key_at shape r ≢ key) (map (λ n. n.row) nodes)
rows_apart shape key [] lacks = All-nil (λ r. key_at shape r ≢ key)
rows_apart shape key (n ∷ nodes) lacks =
    All-cons (λ r. key_at shape r ≢ key) n.row (map (λ (m : Node). m.row) nodes) (All-head (λ n. key_at shape n.row ≢ key) n nodes lacks) (rows_apart shape key nodes (All-tail (λ n. key_at shape n.row ≢ key) n nodes lacks))

pub too_long : (shape : Shape) (len : ℕ) (row : List ℕ) (table : Table) (rows : List (List ℕ)) → rows_of table ≡ rows → AreEntries shape len table → table.room < used_by table.nodes + 4 + length row → Lacks shape (key_at shape row) table → IsTooLong shape len row rows
too_long shape len row table rows same entries full lacks =
    subst (IsTooLong shape len row) same
    (inr (
      let used = used_sum table.nodes entries.behind in
          let roomy = entries.roomy in
          let all : sum_by (λ r. length r + 4) (row ∷ rows_of table) ≡ length row + 4 + sum_by (λ r. length r + 4) (rows_of table) = sum_by-cons (λ (r : List ℕ). length r + 4) row (rows_of table) in
          omega (arith, used, roomy, all, full),
      rows_apart shape (key_at shape row) table.nodes lacks,
    ))

-- the rows of a crowded one are long by themselves
pub crowded_long : (shape : Shape) (len : ℕ) (row : List ℕ) (table : Table) → AreEntries shape len table → IsCrowded len (length row) table → length row ≤ len → 4 ≤ length row → IsTooLong shape len row (rows_of table)
crowded_long shape len row table entries crowded short four =
    inl (let used = used_sum table.nodes entries.behind in omega (arith, used, crowded.0, crowded.1, short, four))

-- ---- the keys of all rows

module _ (w : List ℕ → ℕ) where
  insert_step : (o : Ordering) (k x : List ℕ) (ks more : List (List ℕ)) → sum_by w ks ≤ sum_by w more → sum_by w (x ∷ ks) ≤ sum_by w (match_ordering o (k ∷ x ∷ ks) (x ∷ ks) (x ∷ more))
  insert_step Less k x ks more most = omega (arith, sum_by-cons w k (x ∷ ks))
  insert_step Equal k x ks more most = omega arith
  insert_step Greater k x ks more most = omega (arith, most, sum_by-cons w x ks, sum_by-cons w x more)

  insert_more : (order : KeyOrder) (ks : List (List ℕ)) (k : List ℕ) → sum_by w ks ≤ sum_by w (insert_key order ks k)
  insert_more order [] k = omega (arith, sum_by-cons w k [])
  insert_more order (x ∷ ks) k = insert_step (order k x) k x ks (insert_key order ks k) (insert_more order ks k)

  fold_more : {X : Type 0} (order : KeyOrder) (key : X → List ℕ) (xs : List X) (ks : List (List ℕ)) → sum_by w ks ≤ sum_by w (fold (λ keys x. insert_key order keys (key x)) ks xs)
  fold_more order key [] ks = omega arith
  fold_more order key (x ∷ xs) ks = omega (arith, insert_more order ks (key x), fold_more order key xs (insert_key order ks (key x)))

  -- more rows have no fewer keys
  pub keys_more : {X : Type 0} (order : KeyOrder) (key : X → List ℕ) (xs ys : List X) → sum_by w (keys_in order key xs) ≤ sum_by w (keys_in order key (xs ++ ys))
  keys_more order key xs ys =
      let all = ap (sum_by w) (fold-append (λ (keys : List (List ℕ)) (x : _). insert_key order keys (key x)) [] xs ys) in
      omega (arith, all, fold_more order key ys (keys_in order key xs))

  sum_keys : (ps : List Partial) → sum_by (λ p. w p.key) ps ≡ sum_by w (map key_of ps)
  sum_keys [] = refl
  sum_keys (p ∷ ps) = sum_by-cons (λ (p : Partial). w p.key) p ps ∙ ap (λ (n : ℕ). w p.key + n) (sum_keys ps) ∙ sym (sum_by-cons w p.key (map key_of ps))

  -- distinct keys weigh no more than those of all
  distinct_more : (order : KeyOrder) → IsExactOrder order → (grouping : Grouping) (xs ys : List Partial) → HaveDistinctKeys xs → sum_by (λ p. w p.key) xs ≤ sum_by w (keys_in order key_of (xs ++ ys))
  distinct_more order is_order grouping xs ys distinct =
      let moved = sum_by-IsPermutation (λ (p : Partial). w p.key) xs (combined_by order grouping xs) (distinct_stay order is_order grouping xs distinct) in
      let keyed = sum_keys (combined_by order grouping xs) in
      let keys = ap (sum_by w) (keys_each key_of (combine grouping) (combines grouping) order is_order xs) in
      omega (arith, moved, keyed, keys, keys_more order key_of xs ys)

keys_back : (grouping : Grouping) (rows : List (List Value)) (ks : List (List ℕ)) → map key_of (map (group_in grouping rows) ks) ≡ ks
keys_back grouping rows [] = refl
keys_back grouping rows (k ∷ ks) = ap (λ (l : List (List ℕ)). k ∷ l) (keys_back grouping rows ks)

-- what stands for rows has their keys
keys_stand_for : (order : KeyOrder) → IsExactOrder order → (grouping : Grouping) (fed : List (List Value)) (ps : List Partial) → StandFor order grouping fed ps → keys_in order key_of ps ≡ keys_in order (key_bytes grouping.keys) fed
keys_stand_for order is_order grouping fed ps stand =
    sym (keys_each key_of (combine grouping) (combines grouping) order is_order ps) ∙ ap (map key_of) stand ∙ keys_back grouping fed (keys_in order (key_bytes grouping.keys) fed)

rows_differ : (shape : Shape) (row : List ℕ) (rows : List (List ℕ)) → All (λ r. key_at shape r ≢ key_at shape row) rows → AllByRecursion (λ q. bytes_eq (key_at shape row) q ≡ false) (map key_of (partials_at shape rows))
rows_differ shape row [] apart = tt
rows_differ shape row (r ∷ rows) apart = (
  apart_false (key_at shape row) (key_at shape r) (λ same. All-head (λ r. key_at shape r ≢ key_at shape row) r rows apart (sym same)),
  rows_differ shape row rows (All-tail (λ r. key_at shape r ≢ key_at shape row) r rows apart),
)

-- where the rows of a table are longer than two pages, so are those of all keys that were fed
entries_long : (shape : Shape) (len : ℕ) (fed more : List (List Value)) (entries streams : List (List ℕ)) → IsShape shape → All (IsPartialRow shape) entries → HaveDistinctKeys (partials_at shape entries)
    → StandFor path_order (grouping_of shape) fed (partials_at shape entries ++ partials_at shape streams) → AreLong len entries → 2 * len < keys_len shape (fed ++ more)
entries_long shape len fed more entries streams is formed distinct stand long =
    let keys = ap (sum_by (weight_of shape)) (keys_stand_for path_order path_is_order (grouping_of shape) fed (partials_at shape entries ++ partials_at shape streams) stand) in
    let most = distinct_more (weight_of shape) path_order path_is_order (grouping_of shape) (partials_at shape entries) (partials_at shape streams) distinct in
    let weigh = rows_weigh shape entries is formed in
    let longer = keys_more (weight_of shape) path_order (key_bytes shape.keys) fed more in
    omega (arith, keys, most, weigh, long, longer)

-- where rows went to the partitions, the keys of all rows fed weigh more than two pages
pub fed_long : (shape : Shape) (len : ℕ) (fed more : List (List Value)) (bytes : List ℕ) (entries streams : List (List ℕ)) → IsShape shape → IsPartialRow shape bytes → All (IsPartialRow shape) entries
    → AreValues fed → AreValues more → StandFor path_order (grouping_of shape) more (partial_at shape bytes ∷ []) → HaveDistinctKeys (partials_at shape entries)
    → StandFor path_order (grouping_of shape) fed (partials_at shape entries ++ partials_at shape streams) → IsTooLong shape len bytes entries → 2 * len < keys_len shape (fed ++ more)
fed_long shape len fed more bytes entries streams is formed all_formed values good one distinct stand full =
    elim full [
      | inl long ↦ entries_long shape len fed more entries streams is all_formed distinct stand long
      | inr whole ↦
          let stands : StandFor path_order (grouping_of shape) (fed ++ more) (partials_at shape (bytes ∷ entries) ++ partials_at shape streams) =
          fed_stands shape fed more bytes entries (bytes ∷ entries) [] streams streams values good one
          (subst (λ (rs : List (List ℕ)). SameGroups (grouping_of shape) (partials_at shape (bytes ∷ entries)) (partials_at shape rs)) (sym (append-nil (bytes ∷ entries))) (same_refl (grouping_of shape) (partials_at shape (bytes ∷ entries))))
          (subst (IsPermutation streams) (sym (append-nil streams)) (IsPermutation-refl streams)) stand in
          let keys = ap (sum_by (weight_of shape)) (keys_stand_for path_order path_is_order (grouping_of shape) (fed ++ more) (partials_at shape (bytes ∷ entries) ++ partials_at shape streams) stands) in
          let apart : HaveDistinctKeys (partials_at shape (bytes ∷ entries)) = IsDistinct-cons bytes_eq (key_at shape bytes) (map key_of (partials_at shape entries)) (rows_differ shape bytes entries whole.1) distinct in
          let most = distinct_more (weight_of shape) path_order path_is_order (grouping_of shape) (partials_at shape (bytes ∷ entries)) (partials_at shape streams) apart in
          let weigh = rows_weigh shape (bytes ∷ entries) is (All-cons (IsPartialRow shape) bytes entries formed all_formed) in
          let long = whole.0 in
          omega (arith, keys, most, weigh, long)
    ]

-- more rows are no shorter together
pub keys_len_more : (shape : Shape) (fed more : List (List Value)) → keys_len shape fed ≤ keys_len shape (fed ++ more)
keys_len_more shape fed more = keys_more (weight_of shape) path_order (key_bytes shape.keys) fed more
