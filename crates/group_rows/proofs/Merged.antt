-- Elements of one key as one: what that is for a key decides all.
use Rattle.std.proofs.Common.{◌≡◌, inl, inr, ℕ, Bool, true, false, cond, ◌||◌, List, [], ◌∷◌, ◌++◌, Option, Some, None, refl, ap, ap₂, sym, ◌∙◌, true≢false}
use Rattle.std.specs.Prelude.{filter_map, if◌then◌else◌, is_some}
use Rattle.std.specs.List.{list_any, cons_option}
use Rattle.std.specs.List.Sorted.{IsStrictlySortedBy}
use Rattle.std.specs.Str.{bytes_eq}
use Rattle.std.proofs.lemmas.Bool.{cases_Bool}
use Rattle.std.proofs.lemmas.List.Elements.{filter-append}
use Rattle.std.proofs.lemmas.Option.{same_Some}
use Rattle.group_rows.specs.Keyed.{IsExactOrder, KeyOrder, as_one, keys_in, merge_front, one_each, one_of, with_key}
use Rattle.group_rows.proofs.Keys.{keys_sorted, keys_stand, none_behind, same_keys, same_true, stands, true_same}

-- joining is associative, keeps the key of the first, and takes two of one key in either order
pub record IsMerge {X : Type 0} (key : X → List ℕ) (merge : X → X → X) : Type 0 where
  pub keeps : (x y : X) → key (merge x y) ≡ key x
  pub assoc : (x y z : X) → merge (merge x y) z ≡ merge x (merge y z)
  pub comm : (x y : X) → key x ≡ key y → merge x y ≡ merge y x

-- two questions that agree on each key choose the same
pub map_agree : {Y : Type 0} (f g : List ℕ → Option Y) → ((q : List ℕ) → f q ≡ g q) → (ks : List (List ℕ)) → filter_map f ks ≡ filter_map g ks
map_agree f g same [] = refl
map_agree f g same (k ∷ ks) = ap₂ (λ (o : Option _) (ys : List _). cons_option o ys) (same k) (map_agree f g same ks)

module _ {X : Type 0} (key : X → List ℕ) (merge : X → X → X) (laws : IsMerge key merge) where
  -- two that may be none
  abbrev pub merged : Option X → Option X → Option X
  merged None o = o
  merged (Some x) o = Some (merge_front merge x o)

  abbrev pub HasKey : List ℕ → Option X → Type 0
  HasKey q o = (x : X) → o ≡ Some x → key x ≡ q

  merged_none : (a : Option X) → merged a None ≡ a
  merged_none None = refl
  merged_none (Some x) = refl

  pub merged_assoc : (a b c : Option X) → merged (merged a b) c ≡ merged a (merged b c)
  merged_assoc None b c = refl
  merged_assoc (Some x) None c = refl
  merged_assoc (Some x) (Some y) None = refl
  merged_assoc (Some x) (Some y) (Some z) = ap Some (laws.assoc x y z)

  pub merged_comm : (q : List ℕ) (a b : Option X) → HasKey q a → HasKey q b → merged a b ≡ merged b a
  merged_comm q None b ka kb = sym (merged_none b)
  merged_comm q (Some x) None ka kb = refl
  merged_comm q (Some x) (Some y) ka kb = ap Some (laws.comm x y (ka x refl ∙ sym (kb y refl)))

  one_step : (b : Bool) (q : List ℕ) (x : X) (xs : List X) → bytes_eq q (key x) ≡ b → one_of key merge q (x ∷ xs) ≡ cond b (merged (Some x) (one_of key merge q xs)) (one_of key merge q xs)
  one_step true q x xs is = rw is refl
  one_step false q x xs is = rw is refl

  pub one_cons : (q : List ℕ) (x : X) (xs : List X) → one_of key merge q (x ∷ xs) ≡ cond (bytes_eq q (key x)) (merged (Some x) (one_of key merge q xs)) (one_of key merge q xs)
  one_cons q x xs = one_step (bytes_eq q (key x)) q x xs refl

  as_one_append : (xs ys : List X) → as_one merge (xs ++ ys) ≡ merged (as_one merge xs) (as_one merge ys)
  as_one_append [] ys = refl
  as_one_append (x ∷ xs) ys = ap (merged (Some x)) (as_one_append xs ys) ∙ sym (merged_assoc (Some x) (as_one merge xs) (as_one merge ys))

  pub one_append : (q : List ℕ) (xs ys : List X) → one_of key merge q (xs ++ ys) ≡ merged (one_of key merge q xs) (one_of key merge q ys)
  one_append q xs ys = ap (as_one merge) (filter-append (λ x. bytes_eq q (key x)) xs ys) ∙ as_one_append (with_key key q xs) (with_key key q ys)

  front_key : (x : X) (o : Option X) → key (merge_front merge x o) ≡ key x
  front_key x None = refl
  front_key x (Some y) = laws.keeps x y

  pub one_key : (q : List ℕ) (xs : List X) → HasKey q (one_of key merge q xs)
  one_key q [] y e = absurd cc
  one_key q (x ∷ xs) y e = elim (cases_Bool (bytes_eq q (key x))) [
    | inl is ↦
        let found : Some (merge_front merge x (one_of key merge q xs)) ≡ Some y = sym (one_step true q x xs is) ∙ e in
        let same : merge_front merge x (one_of key merge q xs) ≡ y = same_Some _ _ found in
        ap key (sym same) ∙ front_key x (one_of key merge q xs) ∙ sym (true_same q (key x) is)
    | inr off ↦ one_key q xs y (sym (one_step false q x xs off) ∙ e)
  ]

  some_step : (b : Bool) (x : X) (o : Option X) → is_some (cond b (merged (Some x) o) o) ≡ (b || is_some o)
  some_step true x o = refl
  some_step false x o = refl

  pub one_some : (q : List ℕ) (xs : List X) → is_some (one_of key merge q xs) ≡ list_any (λ x. bytes_eq q (key x)) xs
  one_some q [] = refl
  one_some q (x ∷ xs) = ap is_some (one_cons q x xs) ∙ some_step (bytes_eq q (key x)) x (one_of key merge q xs) ∙ ap (λ (b : Bool). bytes_eq q (key x) || b) (one_some q xs)

  -- ---- one element for each key of a list in order
  module _ (R : KeyOrder) (is_order : IsExactOrder R) where
    chosen_step : (f : List ℕ → Option X) (q k : List ℕ) (o rest : Option X) (b more : Bool) → f k ≡ o → HasKey k o → bytes_eq q k ≡ b → (b ≡ true → more ≡ false) → rest ≡ (if more then f q else None)
        → (ys : List X) → one_of key merge q ys ≡ rest → one_of key merge q (cons_option o ys) ≡ (if b || more then f q else None)
    chosen_step f q k None rest true more fk has is alone rest_is ys at =
        let same : q ≡ k = true_same q k is in
        at ∙ rest_is ∙ ap (λ (m : Bool). if m then f q else None) (alone refl) ∙ sym (ap f same ∙ fk)
    chosen_step f q k None rest false more fk has is alone rest_is ys at = at ∙ rest_is
    chosen_step f q k (Some x) rest true more fk has is alone rest_is ys at =
        let same : q ≡ k = true_same q k is in
        let at_x : bytes_eq q (key x) ≡ true = same_true q (key x) (same ∙ sym (has x refl)) in
        let none : one_of key merge q ys ≡ None = at ∙ rest_is ∙ ap (λ (m : Bool). if m then f q else None) (alone refl) in
        one_step true q x ys at_x ∙ ap (merged (Some x)) none ∙ sym (ap f same ∙ fk)
    chosen_step f q k (Some x) rest false more fk has is alone rest_is ys at =
        let off_x : bytes_eq q (key x) ≡ false = ap (bytes_eq q) (has x refl) ∙ is in
        one_step false q x ys off_x ∙ at ∙ rest_is

    pub one_chosen : (f : List ℕ → Option X) → ((k : List ℕ) → HasKey k (f k)) → (q : List ℕ) (ks : List (List ℕ)) → IsStrictlySortedBy R ks → one_of key merge q (filter_map f ks) ≡ (if stands q ks then f q else None)
    unfolding IsStrictlySortedBy
    one_chosen f has q [] s = refl
    one_chosen f has q (k ∷ ks) s =
        chosen_step f q k (f k) (one_of key merge q (filter_map f ks)) (bytes_eq q k) (stands q ks) refl (has k) refl
        (λ is. ap (λ (a : List ℕ). stands a ks) (true_same q k is) ∙ none_behind R is_order k ks s.0)
        (one_chosen f has q ks s.1) (filter_map f ks) refl

    some_or_none : (o : Option X) (b : Bool) → is_some o ≡ b → (if b then o else None) ≡ o
    some_or_none None true e = refl
    some_or_none None false e = refl
    some_or_none (Some x) true e = refl
    some_or_none (Some x) false e = absurd (true≢false e)

    -- the one of each key is what it was
    pub one_each_one : (q : List ℕ) (xs : List X) → one_of key merge q (one_each R key merge xs) ≡ one_of key merge q xs
    one_each_one q xs =
        one_chosen (λ k. one_of key merge k xs) (λ k. one_key k xs) q (keys_in R key xs) (keys_sorted R is_order key xs)
        ∙ some_or_none (one_of key merge q xs) (stands q (keys_in R key xs)) (one_some q xs ∙ sym (keys_stand R is_order key q xs))

    -- and that decides all
    pub same_ones : (xs ys : List X) → ((q : List ℕ) → one_of key merge q xs ≡ one_of key merge q ys) → one_each R key merge xs ≡ one_each R key merge ys
    same_ones xs ys same =
        let keys : keys_in R key xs ≡ keys_in R key ys =
        same_keys R is_order (keys_in R key xs) (keys_in R key ys) (keys_sorted R is_order key xs) (keys_sorted R is_order key ys)
        (λ q. keys_stand R is_order key q xs ∙ sym (one_some q xs) ∙ ap is_some (same q) ∙ one_some q ys ∙ sym (keys_stand R is_order key q ys)) in
        map_agree (λ q. one_of key merge q xs) (λ q. one_of key merge q ys) same (keys_in R key xs) ∙ ap (filter_map (λ q. one_of key merge q ys)) keys

    -- in any parts
    pub in_parts : (xs ys : List X) → one_each R key merge (one_each R key merge xs ++ ys) ≡ one_each R key merge (xs ++ ys)
    in_parts xs ys = same_ones (one_each R key merge xs ++ ys) (xs ++ ys)
        (λ q. one_append q (one_each R key merge xs) ys ∙ ap (λ (o : Option X). merged o (one_of key merge q ys)) (one_each_one q xs) ∙ sym (one_append q xs ys))
