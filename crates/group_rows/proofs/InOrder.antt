-- A table in order.
use Rattle.std.proofs.Common.{◌≡◌, ℕ, zero, suc, cond, List, [], ◌∷◌, ◌++◌, map, take, Option, Some, refl, ap, sym, ◌∙◌, subst}
use Rattle.std.specs.BTreeSet.{insert_key}
use Rattle.std.specs.List.Sorted.{IsStrictlySortedBy}
use Rattle.std.specs.Ordering.{match_ordering}
use Rattle.std.specs.Str.{bytes_eq}
use Rattle.std.specs.declared.cmp.Ordering.{Ordering}
use Rattle.std.specs.declared.cmp.Ordering.TheVariants.{Less, Equal, Greater}
use Rattle.row_codec.specs.declared.values.Value.{Value}
use Rattle.group_rows.specs.Kept.{AreOrdered}
use Rattle.group_rows.specs.Keyed.{IsExactOrder, KeyOrder, one_of}
use Rattle.group_rows.specs.Ordered.{put}
use Rattle.group_rows.specs.Partials.{Grouping, Partial, combine, combined_by, groups_by, key_of}
use Rattle.group_rows.specs.Standing.{StandFor}
use Rattle.group_rows.proofs.Bags.{one_order, taken_in}
use Rattle.group_rows.proofs.Merged.{in_parts, merged, one_append, one_cons}
use Rattle.group_rows.proofs.Each.{is_each, keys_each}
use Rattle.group_rows.proofs.Merging.{combines}
use Rattle.group_rows.proofs.Keeping.{ordered_stay}
use Rattle.group_rows.proofs.Keys.{keys_sorted, sorted_insert}
use Rattle.std.proofs.lemmas.List.Sorted.{IsPermutation-to_front}

module _ (order : KeyOrder) (is_order : IsExactOrder order) (grouping : Grouping) where
  keys_step : (o : Ordering) (p x : Partial) (xs more : List Partial) → map key_of more ≡ insert_key order (map key_of xs) p.key
      → map key_of (match_ordering o (p ∷ x ∷ xs) (combine grouping x p ∷ xs) (x ∷ more)) ≡ match_ordering o (p.key ∷ x.key ∷ map key_of xs) (x.key ∷ map key_of xs) (x.key ∷ insert_key order (map key_of xs) p.key)
  keys_step Less p x xs more rest = refl
  keys_step Equal p x xs more rest = refl
  keys_step Greater p x xs more rest = ap (λ (ks : List (List ℕ)). x.key ∷ ks) rest

  put_keys : (p : Partial) (xs : List Partial) → map key_of (put order grouping p xs) ≡ insert_key order (map key_of xs) p.key
  put_keys p [] = refl
  put_keys p (x ∷ xs) = keys_step (order p.key x.key) p x xs (put order grouping p xs) (put_keys p xs)

  front : (q : List ℕ) (x : Partial) (l m : List Partial) → one_of key_of (combine grouping) q l ≡ one_of key_of (combine grouping) q m → one_of key_of (combine grouping) q (x ∷ l) ≡ one_of key_of (combine grouping) q (x ∷ m)
  front q x l m e =
      one_cons key_of (combine grouping) (combines grouping) q x l
      ∙ ap (λ (o : Option Partial). cond (bytes_eq q x.key) (merged key_of (combine grouping) (combines grouping) (Some x) o) o) e
      ∙ sym (one_cons key_of (combine grouping) (combines grouping) q x m)

  to_front : (q : List ℕ) (xs : List Partial) (p : Partial) → one_of key_of (combine grouping) q (p ∷ xs) ≡ one_of key_of (combine grouping) q (xs ++ p ∷ [])
  to_front q xs p = one_order key_of (combine grouping) (combines grouping) q (xs ++ p ∷ []) (p ∷ xs) (IsPermutation-to_front xs p)

  ones_step : (o : Ordering) (q : List ℕ) (p x : Partial) (xs more : List Partial) → order p.key x.key ≡ o → one_of key_of (combine grouping) q more ≡ one_of key_of (combine grouping) q (xs ++ p ∷ [])
      → one_of key_of (combine grouping) q (match_ordering o (p ∷ x ∷ xs) (combine grouping x p ∷ xs) (x ∷ more)) ≡ one_of key_of (combine grouping) q ((x ∷ xs) ++ p ∷ [])
  ones_step Less q p x xs more is rest = to_front q (x ∷ xs) p
  ones_step Equal q p x xs more is rest =
      taken_in key_of (combine grouping) (combines grouping) q (x ∷ xs) 0 x p refl (sym (is_order.exact p.key x.key is))
      ∙ sym (one_append key_of (combine grouping) (combines grouping) q (x ∷ xs) (p ∷ []))
  ones_step Greater q p x xs more is rest = front q x more (xs ++ p ∷ []) rest

  put_ones : (q : List ℕ) (p : Partial) (xs : List Partial) → one_of key_of (combine grouping) q (put order grouping p xs) ≡ one_of key_of (combine grouping) q (xs ++ p ∷ [])
  put_ones q p [] = refl
  put_ones q p (x ∷ xs) = ones_step (order p.key x.key) q p x xs (put order grouping p xs) refl (put_ones q p xs)

  pub puts_in_order : (entries : List Partial) (p : Partial) → AreOrdered order entries → combined_by order grouping (entries ++ p ∷ []) ≡ put order grouping p entries
  puts_in_order entries p ordered =
      is_each key_of (combine grouping) (combines grouping) order is_order (put order grouping p entries) (entries ++ p ∷ [])
      (subst (IsStrictlySortedBy order) (sym (put_keys p entries)) (sorted_insert order is_order (map key_of entries) p.key ordered))
      (λ q. put_ones q p entries)

  take_twice : (n : ℕ) (xs : List Partial) → take n (take n xs) ≡ take n xs
  take_twice zero xs = refl
  take_twice (suc n) [] = refl
  take_twice (suc n) (x ∷ xs) = ap (λ (ys : List Partial). x ∷ ys) (take_twice n xs)

  take_cons : (n : ℕ) (x : Partial) (xs : List Partial) → take n (x ∷ xs) ≡ take n (x ∷ take n xs)
  take_cons zero x xs = refl
  take_cons (suc n) x xs = ap (λ (ys : List Partial). x ∷ ys) (sym (shorter n xs)) where
    shorter : (n : ℕ) (xs : List Partial) → take n (take (suc n) xs) ≡ take n xs
    shorter zero xs = refl
    shorter (suc n) [] = refl
    shorter (suc n) (y ∷ xs) = ap (λ (ys : List Partial). y ∷ ys) (shorter n xs)

  first_step : (o : Ordering) (n : ℕ) (p x : Partial) (xs : List Partial) → take n (put order grouping p xs) ≡ take n (put order grouping p (take n xs))
      → take (suc n) (match_ordering o (p ∷ x ∷ xs) (combine grouping x p ∷ xs) (x ∷ put order grouping p xs)) ≡ take (suc n) (match_ordering o (p ∷ x ∷ take n xs) (combine grouping x p ∷ take n xs) (x ∷ put order grouping p (take n xs)))
  first_step Less n p x xs rest = ap (λ (ys : List Partial). p ∷ ys) (take_cons n x xs)
  first_step Equal n p x xs rest = ap (λ (ys : List Partial). combine grouping x p ∷ ys) (sym (take_twice n xs))
  first_step Greater n p x xs rest = ap (λ (ys : List Partial). x ∷ ys) rest

  first_put : (n : ℕ) (p : Partial) (xs : List Partial) → take n (put order grouping p xs) ≡ take n (put order grouping p (take n xs))
  first_put zero p xs = refl
  first_put (suc n) p [] = refl
  first_put (suc n) p (x ∷ xs) = first_step (order p.key x.key) n p x xs (first_put n p xs)

  ordered : (partials : List Partial) → AreOrdered order (combined_by order grouping partials)
  ordered partials = subst (IsStrictlySortedBy order) (sym (keys_each key_of (combine grouping) (combines grouping) order is_order partials)) (keys_sorted order is_order key_of partials)

  pub first_suffice : (count : ℕ) (partials : List Partial) (p : Partial) → take count (combined_by order grouping (partials ++ p ∷ [])) ≡ take count (put order grouping p (take count (combined_by order grouping partials)))
  first_suffice count partials p =
      ap (take count) (sym (in_parts key_of (combine grouping) (combines grouping) order is_order partials (p ∷ [])) ∙ puts_in_order (combined_by order grouping partials) p (ordered partials))
      ∙ first_put count p (combined_by order grouping partials)

  pub ordered_are_groups : (fed : List (List Value)) (entries : List Partial) → AreOrdered order entries → StandFor order grouping fed entries → entries ≡ groups_by order grouping fed
  ordered_are_groups fed entries in_order stand = sym (ordered_stay order is_order grouping entries in_order) ∙ stand
