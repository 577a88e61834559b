-- Tables of partial results, and what goes into them.
use Rattle.std.proofs.Common.{◌≡◌, ℕ, zero, suc, ◌+◌, ◌≤◌, Bool, true, false, List, [], ◌∷◌, ◌++◌, map, set, length, Option, Some, None, refl, ap, sym, ◌∙◌, subst, arith, true≢false, append_assoc}
use Rattle.std.specs.Prelude.{All, fold, filter_map, slice_get}
use Rattle.std.specs.BTreeSet.{insert_key}
use Rattle.std.specs.Cmp.{IsEquivalence}
use Rattle.std.specs.List.{IsDistinct, list_any, cons_option}
use Rattle.std.specs.List.Sorted.{IsPermutation}
use Rattle.std.specs.Ordering.{match_ordering}
use Rattle.std.specs.Str.{bytes_eq}
use Rattle.std.specs.declared.cmp.Ordering.{Ordering}
use Rattle.std.specs.declared.cmp.Ordering.TheVariants.{Less, Equal, Greater}
use Rattle.std.proofs.lemmas.List.{map-append}
use Rattle.std.proofs.lemmas.List.Elements.{All-head, All-tail}
use Rattle.std.proofs.lemmas.Map.Keys.{IsDistinct-push}
use Rattle.std.proofs.lemmas.Option.{same_Some}
use Rattle.group_rows.specs.Keyed.{IsExactOrder, KeyOrder, keys_in, one_of}
use Rattle.group_rows.specs.Partials.{Grouping, Partial, combine, combined_by, key_of}
use Rattle.group_rows.specs.Tables.{HasTaken}
use Rattle.group_rows.proofs.Bags.{one_order, taken_in}
use Rattle.group_rows.proofs.Merged.{merged, merged_assoc, one_append, same_ones}
use Rattle.group_rows.proofs.Merging.{combines}
use Rattle.group_rows.proofs.Keys.{same_true, true_same}

pub bytes_equiv : IsEquivalence bytes_eq
bytes_equiv = record {
  refl = λ x. same_true x x refl;
  symm = λ x y. both_ways x y (bytes_eq x y) (bytes_eq y x) refl refl;
  congr = λ x y z is. ap (λ (a : List ℕ). bytes_eq a z) (true_same x y is);
} where
  both_ways : (x y : List ℕ) (b c : Bool) → bytes_eq x y ≡ b → bytes_eq y x ≡ c → bytes_eq x y ≡ bytes_eq y x
  both_ways x y true c xy yx = xy ∙ sym (same_true y x (sym (true_same x y xy)))
  both_ways x y false true xy yx = absurd (true≢false (sym (same_true x y (sym (true_same y x yx))) ∙ xy))
  both_ways x y false false xy yx = xy ∙ sym yx

insert_long : (o : Ordering) (k x : List ℕ) (ks more : List (List ℕ)) → length more ≤ suc (length ks) → length (match_ordering o (k ∷ x ∷ ks) (x ∷ ks) (x ∷ more)) ≤ suc (suc (length ks))
insert_long Less k x ks more few = omega arith
insert_long Equal k x ks more few = omega arith
insert_long Greater k x ks more few = omega (arith, few)

one_longer : (order : KeyOrder) (ks : List (List ℕ)) (k : List ℕ) → length (insert_key order ks k) ≤ suc (length ks)
one_longer order [] k = omega arith
one_longer order (x ∷ ks) k = insert_long (order k x) k x ks (insert_key order ks k) (one_longer order ks k)

fold_long : (order : KeyOrder) (ps : List Partial) (ks : List (List ℕ)) → length (fold (λ keys p. insert_key order keys (key_of p)) ks ps) ≤ length ks + length ps
fold_long order [] ks = omega arith
fold_long order (p ∷ ps) ks = omega (arith, fold_long order ps (insert_key order ks p.key), one_longer order ks p.key)

chosen_long : {Y : Type 0} (f : List ℕ → Option Y) (ks : List (List ℕ)) → length (filter_map f ks) ≤ length ks
chosen_long f [] = omega arith
chosen_long f (k ∷ ks) = at (f k) (chosen_long f ks) where
  at : (o : Option _) → length (filter_map f ks) ≤ length ks → length (cons_option o (filter_map f ks)) ≤ suc (length ks)
  at None few = omega (arith, few)
  at (Some y) few = omega (arith, few)

pub no_more : (order : KeyOrder) (grouping : Grouping) (partials : List Partial) → length (combined_by order grouping partials) ≤ length partials
no_more order grouping partials =
    omega (arith, chosen_long (λ q. one_of key_of (combine grouping) q partials) (keys_in order key_of partials), fold_long order partials [])

pub any_order : (order : KeyOrder) → IsExactOrder order → (grouping : Grouping) (xs ys : List Partial) → IsPermutation xs ys → combined_by order grouping ys ≡ combined_by order grouping xs
any_order order is_order grouping xs ys same = same_ones key_of (combine grouping) (combines grouping) order is_order ys xs (λ q. one_order key_of (combine grouping) (combines grouping) q xs ys same)

same_keys : (grouping : Grouping) (entries : List Partial) (at : ℕ) (entry p : Partial) → slice_get entries at ≡ Some entry → map key_of (set entries at (combine grouping entry p)) ≡ map key_of entries
same_keys grouping [] at entry p there = refl
same_keys grouping (e ∷ es) zero entry p there = ap (λ (x : Partial). x.key ∷ map key_of es) (sym (same_Some e entry there))
same_keys grouping (e ∷ es) (suc at) entry p there = ap (λ (ks : List (List ℕ)). e.key ∷ ks) (same_keys grouping es at entry p there)

pub into_entry : (order : KeyOrder) → IsExactOrder order → (grouping : Grouping) (entries streams : List Partial) (at : ℕ) (entry p : Partial) → slice_get entries at ≡ Some entry → entry.key ≡ p.key
    → HasTaken order grouping entries (set entries at (combine grouping entry p)) streams p
into_entry order is_order grouping entries streams at entry p there same = record {
  combined = same_ones key_of (combine grouping) (combines grouping) order is_order (set entries at (combine grouping entry p) ++ streams) (entries ++ p ∷ streams) (λ q.
      one_append key_of (combine grouping) (combines grouping) q (set entries at (combine grouping entry p)) streams
      ∙ ap (λ (o : Option Partial). merged key_of (combine grouping) (combines grouping) o (one_of key_of (combine grouping) q streams)) (taken_in key_of (combine grouping) (combines grouping) q entries at entry p there same)
      ∙ merged_assoc key_of (combine grouping) (combines grouping) (one_of key_of (combine grouping) q entries) (one_of key_of (combine grouping) q (p ∷ [])) (one_of key_of (combine grouping) q streams)
      ∙ ap (merged key_of (combine grouping) (combines grouping) (one_of key_of (combine grouping) q entries)) (sym (one_append key_of (combine grouping) (combines grouping) q (p ∷ []) streams))
      ∙ sym (one_append key_of (combine grouping) (combines grouping) q entries (p ∷ streams)));
  distinct = λ distinct. subst (IsDistinct bytes_eq) (sym (same_keys grouping entries at entry p there)) distinct;
}

none_there : (k : List ℕ) (entries : List Partial) → All (λ entry. bytes_eq k entry.key ≡ false) entries → list_any (bytes_eq k) (map key_of entries) ≡ false
none_there k [] all = refl
none_there k (e ∷ es) all =
    let first : bytes_eq k e.key ≡ false = All-head (λ entry. bytes_eq k entry.key ≡ false) e es all in
    rw first (none_there k es (All-tail (λ entry. bytes_eq k entry.key ≡ false) e es all))

pub behind : (order : KeyOrder) → IsExactOrder order → (grouping : Grouping) (entries streams : List Partial) (p : Partial) → All (λ entry. bytes_eq p.key entry.key ≡ false) entries → HasTaken order grouping entries (entries ++ p ∷ []) streams p
behind order is_order grouping entries streams p none = record {
  combined = ap (combined_by order grouping) (append_assoc entries (p ∷ []) streams);
  distinct = λ distinct. subst (IsDistinct bytes_eq) (sym (map-append key_of entries (p ∷ []))) (IsDistinct-push bytes_equiv (map key_of entries) p.key distinct (none_there p.key entries none));
}
