-- The rows of a partition in sixteen others, by the next nibble of their paths: combined one by one they say the same.
use Rattle.std.proofs.Common.{◌≡◌, ◌≢◌, ◌∙◌, ℕ, zero, suc, ◌+◌, ◌-◌, ◌<◌, ◌≤◌, ◌==◌, Bool, true, false, cond, List, [], ◌∷◌, ◌++◌, map, length, refl, ap, ap₂, sym, subst, inl, inr, arith, append-nil, append_assoc, length-append, ◌⊎◌, ne_eqb, eq-eqb, true≢false}
use Rattle.std.specs.Prelude.{All, filter, flat_map, take}
use Rattle.std.specs.List.{list_any, range_with_len}
use Rattle.std.specs.Str.{bytes_eq}
use Rattle.std.proofs.lemmas.Bool.{cases_Bool, cases_eq}
use Rattle.std.proofs.lemmas.List.Elements.{All-append, All-cons, All-filter, All-head, All-nil, All-tail, filter-append}
use Rattle.row_codec.specs.Order.{hash_of, nibble_of, path_of, path_order}
use Rattle.store_api.specs.declared.shapes.Shape.{Shape}
use Rattle.tuple_stream.specs.FamilyCalls.{shares}
use Rattle.group_rows.specs.Keyed.{keys_in}
use Rattle.group_rows.specs.Partials.{Grouping, Partial, combine, combined_of, key_of}
use Rattle.group_rows.specs.Splitting.{HasPath, part_at}
use Rattle.group_rows.proofs.Each.{keys_all, keys_each}
use Rattle.group_rows.proofs.Keys.{keys_stand, same_true, stands, true_same}
use Rattle.group_rows.proofs.Merging.{combines}
use Rattle.group_rows.proofs.Paths.{by_path, path_grows, path_is_order}
use Rattle.group_op.specs.Finishing.{IsPart, said_down}
use Rattle.group_op.specs.Stored.{IsPartialRow, SameGroups, dealt, grouping_of, nibble_at, partial_at, partials_at, place_of}

-- ---- what the partial rows of some rows are

filter_as : {X : Type 0} (p q : X → Bool) → ((x : X) → p x ≡ q x) → (xs : List X) → filter p xs ≡ filter q xs
filter_as p q same [] = refl
filter_as p q same (x ∷ xs) = ap₂ (λ (b : Bool) (ys : List _). cond b (x ∷ ys) ys) (same x) (filter_as p q same xs)

module _ (shape : Shape) where
  partials_cond : (b : Bool) (row : List ℕ) (rows : List (List ℕ)) → partials_at shape (cond b (row ∷ rows) rows) ≡ cond b (partial_at shape row ∷ partials_at shape rows) (partials_at shape rows)
  partials_cond true row rows = refl
  partials_cond false row rows = refl

  partials_filter : (test : Partial → Bool) (rows : List (List ℕ)) → partials_at shape (filter (λ row. test (partial_at shape row)) rows) ≡ filter test (partials_at shape rows)
  partials_filter test [] = refl
  partials_filter test (row ∷ rows) =
      partials_cond (test (partial_at shape row)) row (filter (λ r. test (partial_at shape r)) rows)
      ∙ ap (λ (ps : List Partial). cond (test (partial_at shape row)) (partial_at shape row ∷ ps) ps) (partials_filter test rows)

  nibble_small : (level : ℕ) (row : List ℕ) → nibble_at shape level row < 16
  nibble_small level row = omega arith

  placed_as : (level base m : ℕ) → m < 16 → (row : List ℕ) → (place_of shape level base row == base + m) ≡ (nibble_at shape level row == 15 - m)
  placed_as level base m small row = elim (cases_eq (nibble_at shape level row) (15 - m)) [
    | inl same ↦ eq-eqb (place_of shape level base row) (base + m) (omega (arith, same, small)) ∙ sym (eq-eqb (nibble_at shape level row) (15 - m) same)
    | inr apart ↦
        let below : nibble_at shape level row < 16 = nibble_small level row in
        ne_eqb (place_of shape level base row) (base + m) (λ same. apart (omega (arith, same, small, below)))
        ∙ sym (ne_eqb (nibble_at shape level row) (15 - m) apart)
  ]

  -- what a partition got is what has its nibble
  pub dealt_part : (level base m : ℕ) (rows : List (List ℕ)) → m < 16 → partials_at shape (dealt shape level base rows (base + m)) ≡ part_at level (partials_at shape rows) (15 - m)
  dealt_part level base m rows small =
      ap (partials_at shape) (filter_as (λ row. place_of shape level base row == base + m) (λ row. nibble_at shape level row == 15 - m) (placed_as level base m small) rows)
      ∙ partials_filter (λ p. nibble_of (hash_of p.key) level == 15 - m) rows

  -- ---- sixteen partitions, the highest one first

  module _ (level base : ℕ) (rows : List (List ℕ)) (left : ℕ → List (List ℕ)) (are : (m : ℕ) → m < 16 → left (base + m) ≡ dealt shape level base rows (base + m)) where
    abbrev part : ℕ → List Partial
    part n = combined_of (grouping_of shape) (part_at level (partials_at shape rows) n)

    said_sixteen : (m : ℕ) → m ≤ 16 → said_down shape (base + m) left ≡ flat_map part (range_with_len (16 - m) m) ++ said_down shape base left
    said_sixteen zero few = ap (λ (n : ℕ). said_down shape n left) (let same : base + 0 ≡ base = omega arith in same)
    said_sixteen (suc m) few =
        let next : base + suc m ≡ suc (base + m) = omega arith in
        let here : 16 - suc m ≡ 15 - m = omega (arith, few) in
        let behind : 16 - suc m + 1 ≡ 16 - m = omega (arith, few) in
        let top : combined_of (grouping_of shape) (partials_at shape (left (base + m))) ≡ part (16 - suc m) =
        ap (λ (rs : List (List ℕ)). combined_of (grouping_of shape) (partials_at shape rs)) (are m (omega (arith, few)))
        ∙ ap (combined_of (grouping_of shape)) (dealt_part level base m rows (omega (arith, few))) ∙ ap part (sym here) in
        let rest : said_down shape (base + m) left ≡ flat_map part (range_with_len (16 - suc m + 1) m) ++ said_down shape base left =
        said_sixteen m (omega (arith, few)) ∙ ap (λ (a : ℕ). flat_map part (range_with_len a m) ++ said_down shape base left) (sym behind) in
        ap (λ (n : ℕ). said_down shape n left) next
        ∙ ap₂ (λ (a b : List Partial). a ++ b) top rest
        ∙ sym (append_assoc (part (16 - suc m)) (flat_map part (range_with_len (16 - suc m + 1) m)) (said_down shape base left))

    pub said_dealt : (path : List ℕ) → length path ≡ level → level < 16 → HasPath path (partials_at shape rows) → said_down shape (base + 16) left ≡ combined_of (grouping_of shape) (partials_at shape rows) ++ said_down shape base left
    said_dealt path long deep has =
        let whole : combined_of (grouping_of shape) (partials_at shape rows) ≡ flat_map part (range_with_len 0 16) =
        subst (λ (n : ℕ). combined_of (grouping_of shape) (partials_at shape rows) ≡ flat_map (λ k. combined_of (grouping_of shape) (part_at n (partials_at shape rows) k)) (range_with_len 0 16)) long
        (by_path (grouping_of shape) path (omega (arith, long, deep)) (partials_at shape rows) has) in
        said_sixteen 16 (omega arith) ∙ ap (λ (ps : List Partial). ps ++ said_down shape base left) (sym whole)

    -- each of them is a part of the next level
    pub part_dealt : (path : List ℕ) → length path ≡ level → level < 16 → HasPath path (partials_at shape rows) → All (IsPartialRow shape) rows → (m : ℕ) → m < 16 → IsPart shape (level + 1) (left (base + m))
    part_dealt path long deep has formed m small =
        subst (IsPart shape (level + 1)) (sym (are m small))
        (record {
          formed = All-filter (λ row. place_of shape level base row == base + m) (IsPartialRow shape) rows formed;
          path = path ++ (15 - m) ∷ [];
          long = length-append path ((15 - m) ∷ []) ∙ ap (λ (n : ℕ). n + 1) long;
          has =
              subst (HasPath (path ++ (15 - m) ∷ [])) (sym (dealt_part level base m rows small))
              (subst (λ (n : ℕ). HasPath (path ++ (15 - m) ∷ []) (part_at n (partials_at shape rows) (15 - m))) long
              (path_grows path (15 - m) (partials_at shape rows) (omega (arith, long, deep)) has));
        })

-- ---- keys are those of the groups

found : (P : List ℕ → Type 0) (q : List ℕ) (ks : List (List ℕ)) → All P ks → stands q ks ≡ true → P q
found P q [] all is = absurd (true≢false (sym is))
found P q (k ∷ ks) all is = elim (cases_Bool (bytes_eq q k)) [
  | inl same ↦ subst P (sym (true_same q k same)) (All-head P k ks all)
  | inr apart ↦ found P q ks (All-tail P k ks all) (rw apart at is)
]

behind : (q : List ℕ) (z : Partial) (zs : List Partial) → list_any (λ p. bytes_eq q p.key) zs ≡ true → (bytes_eq q z.key ≡ true) ⊎ (bytes_eq q z.key ≡ false) → list_any (λ p. bytes_eq q p.key) (z ∷ zs) ≡ true
behind q z zs is (inl same) = rw same refl
behind q z zs is (inr apart) = rw apart is

module _ (grouping : Grouping) where
  pub same_keys : (P : List ℕ → Type 0) (xs ys : List Partial) → SameGroups grouping xs ys → All (λ p. P p.key) xs → All (λ p. P p.key) ys
  same_keys P xs ys same all =
      let groups : combined_of grouping xs ≡ combined_of grouping ys = ap (combined_of grouping) (sym (append-nil xs)) ∙ same [] ∙ ap (combined_of grouping) (append-nil ys) in
      let keys : keys_in path_order key_of xs ≡ keys_in path_order key_of ys =
      sym (keys_each key_of (combine grouping) (combines grouping) path_order path_is_order xs) ∙ ap (map key_of) groups ∙ keys_each key_of (combine grouping) (combines grouping) path_order path_is_order ys in
      let are : All P (keys_in path_order key_of ys) = subst (All P) keys (keys_all key_of (combine grouping) (combines grouping) path_order path_is_order P xs all) in
      each ys (λ q is. found P q (keys_in path_order key_of ys) are (keys_stand path_order path_is_order key_of q ys ∙ is))
    where
      each : (zs : List Partial) → ((q : List ℕ) → list_any (λ p. bytes_eq q p.key) zs ≡ true → P q) → All (λ p. P p.key) zs
      each [] of = All-nil (λ p. P p.key)
      each (z ∷ zs) of =
          All-cons (λ p. P p.key) z zs (of z.key (rw (same_true z.key z.key refl) refl))
          (each zs (λ q is. of q (behind q z zs is (cases_Bool (bytes_eq q z.key)))))

  pub same_groups : (xs ys : List Partial) → SameGroups grouping xs ys → combined_of grouping xs ≡ combined_of grouping ys
  same_groups xs ys same = ap (combined_of grouping) (sym (append-nil xs)) ∙ same [] ∙ ap (combined_of grouping) (append-nil ys)

-- below a place nothing changed
pub said_below : (shape : Shape) (n : ℕ) (rows left : ℕ → List (List ℕ)) → ((i : ℕ) → i < n → left i ≡ rows i) → said_down shape n left ≡ said_down shape n rows
said_below shape zero rows left same = refl
said_below shape (suc n) rows left same =
    ap₂ (λ (a b : List Partial). a ++ b) (ap (λ (rs : List (List ℕ)). combined_of (grouping_of shape) (partials_at shape rs)) (same n (omega arith)))
    (said_below shape n rows left (λ i below. same i (omega (arith, below))))

-- ---- the top partition was divided

module _ (shape : Shape) (at level : ℕ) (rows left : ℕ → List (List ℕ)) (gone : List (List ℕ)) (below : (i : ℕ) → i < at → left i ≡ rows i) (here : left at ≡ []) (above : (i : ℕ) → at < i → left i ≡ dealt shape level (at + 1) gone i)
    (same : SameGroups (grouping_of shape) (partials_at shape (rows at)) (partials_at shape gone)) (was : IsPart shape level (rows at)) (deep : level < 16) where
  path_gone : HasPath was.path (partials_at shape gone)
  path_gone = same_keys (grouping_of shape) (λ key. take (length was.path) (path_of key) ≡ was.path) (partials_at shape (rows at)) (partials_at shape gone) same was.has

  are : (m : ℕ) → m < 16 → left (at + 1 + m) ≡ dealt shape level (at + 1) gone (at + 1 + m)
  are m small = above (at + 1 + m) (omega arith)

  -- nothing is lost
  pub down_divided : said_down shape (at + 17) left ≡ said_down shape (at + 1) rows
  down_divided =
      let none : said_down shape (at + 1) left ≡ said_down shape at rows =
      ap (λ (n : ℕ). said_down shape n left) (let next : at + 1 ≡ suc at = omega arith in next)
      ∙ ap (λ (rs : List (List ℕ)). combined_of (grouping_of shape) (partials_at shape rs) ++ said_down shape at left) here
      ∙ said_below shape at rows left below in
      let top : said_down shape (at + 1) rows ≡ combined_of (grouping_of shape) (partials_at shape gone) ++ said_down shape at rows =
      ap (λ (n : ℕ). said_down shape n rows) (let next : at + 1 ≡ suc at = omega arith in next)
      ∙ ap (λ (ps : List Partial). ps ++ said_down shape at rows) (same_groups (grouping_of shape) (partials_at shape (rows at)) (partials_at shape gone) same) in
      ap (λ (n : ℕ). said_down shape n left) (let next : at + 17 ≡ at + 1 + 16 = omega arith in next)
      ∙ said_dealt shape level (at + 1) gone left are was.path was.long deep path_gone
      ∙ ap (λ (ps : List Partial). combined_of (grouping_of shape) (partials_at shape gone) ++ ps) none
      ∙ sym top

  -- the sixteen are parts, and so is what is left of it
  pub parts_above : All (IsPartialRow shape) gone → (m : ℕ) → m < 16 → IsPart shape (level + 1) (left (at + 1 + m))
  parts_above formed m small = part_dealt shape level (at + 1) gone left are was.path was.long deep path_gone formed m small

-- no rows are a part of any level
pub part_none : (shape : Shape) (level : ℕ) → IsPart shape level []
part_none shape level = record { formed = All-nil (IsPartialRow shape); path = many level; long = long level; has = All-nil (λ p. take (length (many level)) (path_of p.key) ≡ many level) }
  where
    many : ℕ → List ℕ
    many zero = []
    many (suc n) = 0 ∷ many n

    long : (n : ℕ) → length (many n) ≡ n
    long zero = refl
    long (suc n) = ap suc (long n)

-- ---- sixteen partitions by the first nibble

module _ (place : List ℕ → ℕ) where
  chosen_all : (i : ℕ) (rows : List (List ℕ)) → All (λ row. place row ≡ i) rows → filter (λ row. place row == i) rows ≡ rows
  chosen_all i [] all = refl
  chosen_all i (row ∷ rows) all =
      ap₂ (λ (b : Bool) (rs : List (List ℕ)). cond b (row ∷ rs) rs) (eq-eqb (place row) i (All-head (λ r. place r ≡ i) row rows all)) (chosen_all i rows (All-tail (λ r. place r ≡ i) row rows all))

  chosen_none : (i j : ℕ) (rows : List (List ℕ)) → j ≢ i → All (λ row. place row ≡ j) rows → filter (λ row. place row == i) rows ≡ []
  chosen_none i j [] apart all = refl
  chosen_none i j (row ∷ rows) apart all =
      ap₂ (λ (b : Bool) (rs : List (List ℕ)). cond b (row ∷ rs) rs) (ne_eqb (place row) i (λ same. apart (sym (All-head (λ r. place r ≡ j) row rows all) ∙ same))) (chosen_none i j rows apart (All-tail (λ r. place r ≡ j) row rows all))

  shares_none : (n d i : ℕ) (rows : ℕ → List (List ℕ)) → i < d → ((j : ℕ) → All (λ row. place row ≡ d + j) (rows j)) → filter (λ row. place row == i) (shares n rows) ≡ []
  shares_none zero d i rows low all = refl
  shares_none (suc n) d i rows low all =
      filter-append (λ row. place row == i) (rows 0) (shares n (λ j. rows (suc j)))
      ∙ ap₂ (λ (a b : List (List ℕ)). a ++ b) (chosen_none i (d + 0) (rows 0) (λ same. omega (arith, same, low)) (all 0))
      (shares_none n (d + 1) i (λ j. rows (suc j)) (omega (arith, low)) (λ j. subst (λ (k : ℕ). All (λ row. place row ≡ k) (rows (suc j))) (let next : d + suc j ≡ d + 1 + j = omega arith in next) (all (suc j))))

  shares_at : (n d i : ℕ) (rows : ℕ → List (List ℕ)) → i < n → ((j : ℕ) → All (λ row. place row ≡ d + j) (rows j)) → filter (λ row. place row == d + i) (shares n rows) ≡ rows i
  shares_at zero d i rows inside all = absurd (omega (arith, inside))
  shares_at (suc n) d zero rows inside all =
      filter-append (λ row. place row == d + 0) (rows 0) (shares n (λ j. rows (suc j)))
      ∙ ap₂ (λ (a b : List (List ℕ)). a ++ b) (chosen_all (d + 0) (rows 0) (all 0))
      (shares_none n (d + 1) (d + 0) (λ j. rows (suc j)) (omega arith) (λ j. subst (λ (k : ℕ). All (λ row. place row ≡ k) (rows (suc j))) (let next : d + suc j ≡ d + 1 + j = omega arith in next) (all (suc j))))
      ∙ append-nil (rows 0)
  shares_at (suc n) d (suc i) rows inside all =
      let next : d + suc i ≡ d + 1 + i = omega arith in
      filter-append (λ row. place row == d + suc i) (rows 0) (shares n (λ j. rows (suc j)))
      ∙ ap₂ (λ (a b : List (List ℕ)). a ++ b) (chosen_none (d + suc i) (d + 0) (rows 0) (λ same. omega (arith, same)) (all 0))
      (ap (λ (k : ℕ). filter (λ row. place row == k) (shares n (λ j. rows (suc j)))) next
      ∙ shares_at n (d + 1) i (λ j. rows (suc j)) (omega (arith, inside)) (λ j. subst (λ (k : ℕ). All (λ row. place row ≡ k) (rows (suc j))) (let next : d + suc j ≡ d + 1 + j = omega arith in next) (all (suc j))))

module _ (shape : Shape) (rows : ℕ → List (List ℕ)) (placed : (i : ℕ) → All (λ row. place_of shape 0 0 row ≡ i) (rows i)) where
  first_are : (m : ℕ) → m < 16 → rows (0 + m) ≡ dealt shape 0 0 (shares 16 rows) (0 + m)
  first_are m small =
      ap rows (let same : 0 + m ≡ m = omega arith in same)
      ∙ sym (shares_at (place_of shape 0 0) 16 0 m rows small (λ j. subst (λ (k : ℕ). All (λ row. place_of shape 0 0 row ≡ k) (rows j)) (let same : j ≡ 0 + j = omega arith in same) (placed j)))

  first_path : HasPath [] (partials_at shape (shares 16 rows))
  first_path = λ k d inside. refl

  -- they say what all rows say
  pub down_first : said_down shape 16 rows ≡ combined_of (grouping_of shape) (partials_at shape (shares 16 rows))
  down_first = said_dealt shape 0 0 (shares 16 rows) rows first_are [] refl (omega arith) first_path ∙ append-nil (combined_of (grouping_of shape) (partials_at shape (shares 16 rows)))

  pub parts_first : ((i : ℕ) → All (IsPartialRow shape) (rows i)) → (m : ℕ) → m < 16 → IsPart shape 1 (rows m)
  parts_first formed m small =
      subst (λ (k : ℕ). IsPart shape 1 (rows k)) (let same : 0 + m ≡ m = omega arith in same)
      (part_dealt shape 0 0 (shares 16 rows) rows first_are [] refl (omega arith) first_path (all_shares 16 rows formed) m small)
    where
      all_shares : (n : ℕ) (these : ℕ → List (List ℕ)) → ((i : ℕ) → All (IsPartialRow shape) (these i)) → All (IsPartialRow shape) (shares n these)
      all_shares zero these each = All-nil (IsPartialRow shape)
      all_shares (suc n) these each = All-append (IsPartialRow shape) (these 0) (shares n (λ i. these (suc i))) (each 0) (all_shares n (λ i. these (suc i)) (λ i. each (suc i)))
