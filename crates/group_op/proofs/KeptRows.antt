-- Kept rows with one more taken in.
use Rattle.std.proofs.Common.{◌≡◌, ◌≢◌, ◌∙◌, ℕ, zero, suc, ◌≤◌, ◌<◌, List, [], ◌∷◌, ◌++◌, length, map, take, drop, refl, ap, ap₂, sym, subst, arith, slice_set, slice_index_or}
use Rattle.std.specs.Prelude.{All, insert}
use Rattle.std.specs.Cmp.Lexicographic.{slice_cmp}
use Rattle.std.specs.List.{HoldsAt}
use Rattle.std.specs.List.Sorted.{IsStrictlySortedBy}
use Rattle.std.specs.Ordering.{match_ordering, nat_cmp}
use Rattle.std.specs.Cmp.{tied_itself}
use Rattle.std.specs.declared.cmp.Ordering.{Ordering}
use Rattle.std.specs.declared.cmp.Ordering.TheVariants.{Less, Equal, Greater}
use Rattle.std.proofs.lemmas.List.{length-map, take-append-drop, take-map, take_all, map-append}
use Rattle.std.proofs.lemmas.List.Elements.{All-append, All-cons, All-drop, All-head, All-nil, All-tail, All-take}
use Rattle.row_codec.specs.RowLaws.{RowBack}
use Rattle.store_api.specs.declared.shapes.Shape.{Shape}
use Rattle.store_api.specs.Shapes.{IsShape}
use Rattle.group_rows.specs.Keyed.{KeyOrder}
use Rattle.group_rows.specs.Kept.{AreOrdered}
use Rattle.group_rows.specs.Ordered.{put}
use Rattle.group_rows.specs.Partials.{Partial, combine, key_of}
use Rattle.group_rows.proofs.Paths.{bytes_is_order}
use Rattle.group_op.specs.declared.lowest.Entry.{Entry}
use Rattle.group_op.specs.Keepings.{IsKept, kept_in}
use Rattle.group_op.specs.Stored.{IsPartialRow, grouping_of, joined, key_at, partial_at}
use Rattle.group_op.proofs.Joins.{joins}

abbrev pub by_bytes : KeyOrder
by_bytes = slice_cmp nat_cmp

-- the keys beside the rows are those that the rows say
pub keys_beside : (shape : Shape) (xs : List Entry) → All (IsKept shape) xs → map (λ e. e.key.items) xs ≡ map key_of (kept_in shape xs)
keys_beside shape [] all = refl
keys_beside shape (x ∷ xs) all = ap₂ (λ (k : List ℕ) (ks : List (List ℕ)). k ∷ ks) (All-head (IsKept shape) x xs all).key (keys_beside shape xs (All-tail (IsKept shape) x xs all))

pub sorted_beside : (shape : Shape) (xs : List Entry) → All (IsKept shape) xs → AreOrdered by_bytes (kept_in shape xs) → IsStrictlySortedBy by_bytes (map (λ e. e.key.items) xs)
sorted_beside shape xs all ordered = subst (IsStrictlySortedBy by_bytes) (sym (keys_beside shape xs all)) ordered

above_all : (shape : Shape) (q : List ℕ) (xs : List Entry) → All (IsKept shape) xs → All (λ e. by_bytes q e.key.items ≡ Greater) xs → All (λ p. by_bytes q p.key ≡ Greater) (kept_in shape xs)
above_all shape q [] all above = All-nil (λ p. by_bytes q p.key ≡ Greater)
above_all shape q (x ∷ xs) all above =
    All-cons (λ p. by_bytes q p.key ≡ Greater) (partial_at shape x.row.items) (kept_in shape xs)
    (subst (λ (k : List ℕ). by_bytes q k ≡ Greater) (All-head (IsKept shape) x xs all).key (All-head (λ e. by_bytes q e.key.items ≡ Greater) x xs above))
    (above_all shape q xs (All-tail (IsKept shape) x xs all) (All-tail (λ e. by_bytes q e.key.items ≡ Greater) x xs above))

neither : (o : Ordering) (a b : List ℕ) → by_bytes a b ≡ o → o ≢ Greater → b ≢ a → o ≡ Less
neither Less a b is below apart = refl
neither Equal a b is below apart = absurd (apart (sym (bytes_is_order.exact a b is)))
neither Greater a b is below apart = absurd (below refl)

module _ (shape : Shape) (p : Partial) where
  put_on : (front back : List Partial) → All (λ x. by_bytes p.key x.key ≡ Greater) front → put by_bytes (grouping_of shape) p (front ++ back) ≡ front ++ put by_bytes (grouping_of shape) p back
  put_on [] back all = refl
  put_on (x ∷ front) back all =
      let above : by_bytes p.key x.key ≡ Greater = All-head (λ x. by_bytes p.key x.key ≡ Greater) x front all in
      ap (λ (o : Ordering). match_ordering o (p ∷ x ∷ (front ++ back)) (combine (grouping_of shape) x p ∷ (front ++ back)) (x ∷ put by_bytes (grouping_of shape) p (front ++ back))) above
      ∙ ap (λ (xs : List Partial). x ∷ xs) (put_on front back (All-tail (λ x. by_bytes p.key x.key ≡ Greater) x front all))

  put_here : (xs : List Entry) → All (IsKept shape) xs → (0 < length xs → (d : Entry) → by_bytes p.key (slice_index_or xs 0 d).key.items ≡ Less) → put by_bytes (grouping_of shape) p (kept_in shape xs) ≡ p ∷ kept_in shape xs
  put_here [] all less = refl
  put_here (x ∷ xs) all less =
      let key = (All-head (IsKept shape) x xs all).key in
      let is : by_bytes p.key (key_at shape x.row.items) ≡ Less = subst (λ (k : List ℕ). by_bytes p.key k ≡ Less) key (less (omega arith) x) in
      ap (λ (o : Ordering). match_ordering o (p ∷ kept_in shape (x ∷ xs)) (combine (grouping_of shape) (partial_at shape x.row.items) p ∷ kept_in shape xs) (partial_at shape x.row.items ∷ put by_bytes (grouping_of shape) p (kept_in shape xs))) is

  -- into the entry of its key
  put_into : (xs : List Entry) (at : ℕ) (now d : Entry) → All (IsKept shape) xs → at < length xs → All (λ e. by_bytes p.key e.key.items ≡ Greater) (take at xs) → (slice_index_or xs at d).key.items ≡ p.key
      → partial_at shape now.row.items ≡ combine (grouping_of shape) (partial_at shape (slice_index_or xs at d).row.items) p
      → kept_in shape (slice_set xs at now) ≡ put by_bytes (grouping_of shape) p (kept_in shape xs)
  put_into [] at now d all inside above key says = absurd (omega (arith, inside))
  put_into (x ∷ xs) zero now d all inside above key says =
      let same : key_at shape x.row.items ≡ p.key = sym (All-head (IsKept shape) x xs all).key ∙ key in
      let is : by_bytes p.key (key_at shape x.row.items) ≡ Equal = ap (by_bytes p.key) same ∙ tied_itself bytes_is_order.total p.key in
      ap (λ (y : Partial). y ∷ kept_in shape xs) says
      ∙ sym (ap (λ (o : Ordering). match_ordering o (p ∷ kept_in shape (x ∷ xs)) (combine (grouping_of shape) (partial_at shape x.row.items) p ∷ kept_in shape xs) (partial_at shape x.row.items ∷ put by_bytes (grouping_of shape) p (kept_in shape xs))) is)
  put_into (x ∷ xs) (suc at) now d all inside above key says =
      let is : by_bytes p.key (key_at shape x.row.items) ≡ Greater = subst (λ (k : List ℕ). by_bytes p.key k ≡ Greater) (All-head (IsKept shape) x xs all).key (All-head (λ e. by_bytes p.key e.key.items ≡ Greater) x (take at xs) above) in
      ap (λ (ys : List Partial). partial_at shape x.row.items ∷ ys) (put_into xs at now d (All-tail (IsKept shape) x xs all) (omega (arith, inside)) (All-tail (λ e. by_bytes p.key e.key.items ≡ Greater) x (take at xs) above) key says)
      ∙ sym (ap (λ (o : Ordering). match_ordering o (p ∷ kept_in shape (x ∷ xs)) (combine (grouping_of shape) (partial_at shape x.row.items) p ∷ kept_in shape xs) (partial_at shape x.row.items ∷ put by_bytes (grouping_of shape) p (kept_in shape xs))) is)

set_long : (xs : List Entry) (at : ℕ) (now : Entry) → length (slice_set xs at now) ≡ length xs
set_long [] at now = refl
set_long (x ∷ xs) zero now = refl
set_long (x ∷ xs) (suc at) now = ap suc (set_long xs at now)

set_all : (P : Entry → Type 0) (xs : List Entry) (at : ℕ) (now : Entry) → P now → All P xs → All P (slice_set xs at now)
set_all P [] at now is all = all
set_all P (x ∷ xs) zero now is all = All-cons P now xs is (All-tail P x xs all)
set_all P (x ∷ xs) (suc at) now is all = All-cons P x (slice_set xs at now) (All-head P x xs all) (set_all P xs at now is (All-tail P x xs all))

at_it : (P : Entry → Type 0) (xs : List Entry) (at : ℕ) (d : Entry) → at < length xs → All P xs → P (slice_index_or xs at d)
at_it P xs at d inside all = all at d inside

-- joined with the entry of its key
module _ (back : RowBack) (shape : Shape) (is : IsShape shape) (xs : List Entry) (room at : ℕ) (spare now d : Entry) (all : All (IsKept shape) xs) (few : length xs ≤ room) (row : IsKept shape spare) (inside : at < length xs) where
  kept_one : IsKept shape (slice_index_or xs at d)
  kept_one = at_it (IsKept shape) xs at d inside all

  pub joined_long : length (joined shape (slice_index_or xs at d).row.items spare.row.items) ≡ (slice_index_or xs at d).row.len
  joined_long = (joins back shape (slice_index_or xs at d).row.items spare.row.items is kept_one.row row.row).long ∙ sym (slice_index_or xs at d).row.ok.0

  module _ (same : (slice_index_or xs at d).key.items ≡ spare.key.items) (key : now.key.items ≡ (slice_index_or xs at d).key.items) (row_is : now.row.items ≡ joined shape (slice_index_or xs at d).row.items spare.row.items) where
    one_joined : IsKept shape now
    one_joined =
        let j = joins back shape (slice_index_or xs at d).row.items spare.row.items is kept_one.row row.row in
        record {
          row = subst (IsPartialRow shape) (sym row_is) j.partial;
          key = key ∙ kept_one.key ∙ sym (ap (key_at shape) row_is ∙ j.key);
        }

    pub all_joined : All (IsKept shape) (slice_set xs at now)
    all_joined = set_all (IsKept shape) xs at now one_joined all

    pub put_joined : All (λ e. by_bytes spare.key.items e.key.items ≡ Greater) (take at xs) → kept_in shape (slice_set xs at now) ≡ take room (put by_bytes (grouping_of shape) (partial_at shape spare.row.items) (kept_in shape xs))
    put_joined above =
        let j = joins back shape (slice_index_or xs at d).row.items spare.row.items is kept_one.row row.row in
        let into : kept_in shape (slice_set xs at now) ≡ put by_bytes (grouping_of shape) (partial_at shape spare.row.items) (kept_in shape xs) =
        put_into shape (partial_at shape spare.row.items) xs at now d all inside (subst (λ (q : List ℕ). All (λ e. by_bytes q e.key.items ≡ Greater) (take at xs)) row.key above) (same ∙ row.key)
        (ap (partial_at shape) row_is ∙ j.says_so) in
        let long : length (kept_in shape (slice_set xs at now)) ≤ room = (let a = length-map (slice_set xs at now) (λ (e : Entry). partial_at shape e.row.items) in let b = set_long xs at now in omega (arith, a, b, few)) in
        sym (take_all room (kept_in shape (slice_set xs at now)) long) ∙ ap (take room) into

-- at its place
module _ (shape : Shape) (xs : List Entry) (room at : ℕ) (spare : Entry) (all : All (IsKept shape) xs) (row : IsKept shape spare) (inside : at ≤ length xs) where
  pub all_put : (now : List Entry) → now ≡ take room (insert xs at spare) → All (IsKept shape) now
  all_put now is =
      subst (All (IsKept shape)) (sym is)
      (All-take (IsKept shape) room (insert xs at spare) (All-append (IsKept shape) (take at xs) (spare ∷ drop at xs) (All-take (IsKept shape) at xs all) (All-cons (IsKept shape) spare (drop at xs) row (All-drop (IsKept shape) at xs all))))

  pub put_placed : (now : List Entry) → now ≡ take room (insert xs at spare) → All (λ e. by_bytes spare.key.items e.key.items ≡ Greater) (take at xs)
      → (0 < length (drop at xs) → (d : Entry) → by_bytes spare.key.items (slice_index_or (drop at xs) 0 d).key.items ≡ Less)
      → kept_in shape now ≡ take room (put by_bytes (grouping_of shape) (partial_at shape spare.row.items) (kept_in shape xs))
  put_placed now is above less =
      let f : Entry → Partial = λ e. partial_at shape e.row.items in
      let p : Partial = partial_at shape spare.row.items in
      let fronts : All (λ x. by_bytes p.key x.key ≡ Greater) (kept_in shape (take at xs)) =
      above_all shape p.key (take at xs) (All-take (IsKept shape) at xs all) (subst (λ (q : List ℕ). All (λ e. by_bytes q e.key.items ≡ Greater) (take at xs)) row.key above) in
      let backs : put by_bytes (grouping_of shape) p (kept_in shape (drop at xs)) ≡ p ∷ kept_in shape (drop at xs) =
      put_here shape p (drop at xs) (All-drop (IsKept shape) at xs all) (subst (λ (q : List ℕ). 0 < length (drop at xs) → (d : Entry) → by_bytes q (slice_index_or (drop at xs) 0 d).key.items ≡ Less) row.key less) in
      let whole : kept_in shape xs ≡ kept_in shape (take at xs) ++ kept_in shape (drop at xs) = ap (kept_in shape) (sym (take-append-drop at xs)) ∙ map-append f (take at xs) (drop at xs) in
      let inserted : kept_in shape (insert xs at spare) ≡ put by_bytes (grouping_of shape) p (kept_in shape xs) =
      map-append f (take at xs) (spare ∷ drop at xs)
      ∙ ap (λ (ys : List Partial). kept_in shape (take at xs) ++ ys) (sym backs)
      ∙ sym (put_on shape p (kept_in shape (take at xs)) (kept_in shape (drop at xs)) fronts)
      ∙ ap (put by_bytes (grouping_of shape) p) (sym whole) in
      ap (kept_in shape) is ∙ sym (take-map f room (insert xs at spare)) ∙ ap (take room) inserted

drop_first : (xs : List Entry) (at : ℕ) (d : Entry) → slice_index_or (drop at xs) 0 d ≡ slice_index_or xs at d
drop_first [] zero d = refl
drop_first [] (suc at) d = refl
drop_first (x ∷ xs) zero d = refl
drop_first (x ∷ xs) (suc at) d = drop_first xs at d

drop_some : (xs : List Entry) (at : ℕ) → 0 < length (drop at xs) → at < length xs
drop_some [] zero some = some
drop_some [] (suc at) some = absurd (omega (arith, some))
drop_some (x ∷ xs) zero some = omega arith
drop_some (x ∷ xs) (suc at) some = let rest = drop_some xs at some in omega (arith, rest)

-- what stands there is above it
pub less_there : (xs : List Entry) (at : ℕ) (q : List ℕ) → (at < length xs → HoldsAt (λ e. by_bytes q e.key.items ≢ Greater) xs at) → (at < length xs → HoldsAt (λ e. e.key.items ≢ q) xs at)
    → 0 < length (drop at xs) → (d : Entry) → by_bytes q (slice_index_or (drop at xs) 0 d).key.items ≡ Less
less_there xs at q next apart some d =
    let inside : at < length xs = drop_some xs at some in
    ap (λ (e : Entry). by_bytes q e.key.items) (drop_first xs at d)
    ∙ neither (by_bytes q (slice_index_or xs at d).key.items) q (slice_index_or xs at d).key.items refl (next inside d) (apart inside d)
