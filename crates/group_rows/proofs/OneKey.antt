-- Rows that all have one key.
use Rattle.std.proofs.Common.{◌≡◌, ◌≢◌, ℕ, Bool, true, false, ◌&&◌, List, [], ◌∷◌, fold, map, refl, ap, sym, ◌∙◌, subst}
use Rattle.std.specs.BTreeSet.{insert_key}
use Rattle.std.specs.List.Sorted.{IsStrictlySortedBy}
use Rattle.std.specs.Str.{bytes_eq}
use Rattle.std.specs.declared.cmp.Ordering.{Ordering}
use Rattle.std.specs.declared.cmp.Ordering.TheVariants.{Less, Equal, Greater}
use Rattle.std.specs.Ordering.{match_ordering, ordering_reverse}
use Rattle.group_rows.specs.Aggregates.{aggregate}
use Rattle.row_codec.specs.declared.values.Value.{Value}
use Rattle.row_codec.specs.RowBytes.{key_bytes}
use Rattle.group_rows.specs.Keyed.{IsExactOrder, KeyOrder, keys_in, with_key}
use Rattle.group_rows.specs.Partials.{Grouping, Partial, group_in}
use Rattle.group_rows.specs.Standing.{StandFor}
use Rattle.group_rows.proofs.Keys.{true_same}
use Rattle.group_rows.proofs.Keeping.{ordered_stay}
use Rattle.group_rows.proofs.Paths.{filter_twice}

and_same : (b : Bool) → (b && b) ≡ b
and_same true = refl
and_same false = refl

module _ {X : Type 0} (key : X → List ℕ) (order : KeyOrder) (is_order : IsExactOrder order) (q : List ℕ) (same : order q q ≡ Equal) where
  abbrev ins : List (List ℕ) → X → List (List ℕ)
  ins keys x = insert_key order keys (key x)

  again : (x : X) → q ≡ key x → ins (q ∷ []) x ≡ q ∷ []
  again x is = subst (λ k. insert_key order (q ∷ []) k ≡ q ∷ []) is (ap (λ (o : Ordering). match_ordering o (q ∷ q ∷ []) (q ∷ []) (q ∷ q ∷ [])) same)

  stay_at : (x : X) (xs : List X) (b : Bool) → bytes_eq q (key x) ≡ b → fold ins (q ∷ []) (with_key key q xs) ≡ q ∷ [] → fold ins (q ∷ []) (with_key key q (x ∷ xs)) ≡ q ∷ []
  stay_at x xs true is rest = rw is (ap (λ ks. fold ins ks (with_key key q xs)) (again x (true_same q (key x) is)) ∙ rest)
  stay_at x xs false is rest = rw is rest

  stay : (xs : List X) → fold ins (q ∷ []) (with_key key q xs) ≡ q ∷ []
  stay [] = refl
  stay (x ∷ xs) = stay_at x xs (bytes_eq q (key x)) refl (stay xs)

  first_at : (x : X) (xs : List X) (b : Bool) → bytes_eq q (key x) ≡ b → (with_key key q xs ≢ [] → fold ins [] (with_key key q xs) ≡ q ∷ []) → with_key key q (x ∷ xs) ≢ [] → fold ins [] (with_key key q (x ∷ xs)) ≡ q ∷ []
  first_at x xs true is rest some = rw is (ap (λ k. fold ins (k ∷ []) (with_key key q xs)) (sym (true_same q (key x) is)) ∙ stay xs)
  first_at x xs false is rest some = rw is (rest (rw is at some))

  pub first : (xs : List X) → with_key key q xs ≢ [] → keys_in order key (with_key key q xs) ≡ q ∷ []
  first [] some = absurd (some refl)
  first (x ∷ xs) some = first_at x xs (bytes_eq q (key x)) refl (first xs) some

self_equal : (o : Ordering) → o ≡ ordering_reverse o → o ≡ Equal
self_equal Less is = cc
self_equal Equal is = refl
self_equal Greater is = cc

single : (order : KeyOrder) (q : List ℕ) → IsStrictlySortedBy order (q ∷ [])
unfolding IsStrictlySortedBy
single order q = (tt, tt)

abbrev has_key : Grouping → List ℕ → List Value → Bool
has_key grouping q row = bytes_eq q (key_bytes grouping.keys row)

pub stands_for_its_rows : (order : KeyOrder) → IsExactOrder order → (grouping : Grouping) (rows : List (List Value)) (q : List ℕ) → with_key (key_bytes grouping.keys) q rows ≢ []
    → StandFor order grouping (with_key (key_bytes grouping.keys) q rows) (group_in grouping rows q ∷ [])
stands_for_its_rows order is_order grouping rows q some =
    let own = with_key (key_bytes grouping.keys) q rows in
    let keys : keys_in order (key_bytes grouping.keys) own ≡ q ∷ [] = first (key_bytes grouping.keys) order is_order q (self_equal (order q q) (is_order.total.antisymm q q)) rows some in
    let same : with_key (key_bytes grouping.keys) q own ≡ own = filter_twice (has_key grouping q) (has_key grouping q) (has_key grouping q) (λ row. and_same (has_key grouping q row)) rows in
    let made : List (List Value) → Partial = λ rs. record { key = q; numbers = map (λ agg. aggregate agg rs) grouping.aggs } in
    ordered_stay order is_order grouping (group_in grouping rows q ∷ []) (single order q)
    ∙ sym (ap (map (group_in grouping own)) keys ∙ ap (λ rs. made rs ∷ []) same)
