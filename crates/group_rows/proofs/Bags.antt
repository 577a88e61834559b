-- What the order of a list doesn't change, and an element that takes another in.
use Rattle.std.proofs.Common.{◌≡◌, ℕ, zero, suc, ◌<◌, Bool, true, false, cond, List, [], ◌∷◌, length, get_or, Option, Some, None, refl, ap, ap₂, sym, ◌∙◌, arith, set}
use Rattle.std.specs.Prelude.{slice_get}
use Rattle.std.specs.List.{swap}
use Rattle.std.specs.List.Sorted.{IsPermutation}
use Rattle.std.specs.Str.{bytes_eq}
use Rattle.std.proofs.lemmas.List.Sorted.{IsPermutation-keeps}
use Rattle.std.proofs.lemmas.Option.{same_Some}
use Rattle.group_rows.specs.Keyed.{one_of}
use Rattle.group_rows.proofs.Merged.{HasKey, IsMerge, merged, merged_assoc, merged_comm, one_cons, one_key}
use Rattle.group_rows.proofs.Keys.{true_same}

module _ {X A : Type 0} (F : List X → A) (turn : (x y : X) (l : List X) → F (x ∷ y ∷ l) ≡ F (y ∷ x ∷ l)) (step : (x : X) (l m : List X) → F l ≡ F m → F (x ∷ l) ≡ F (x ∷ m)) where
  out : (x : X) (l : List X) (j : ℕ) (d : X) → j < length l → F (get_or l j d ∷ set l j x) ≡ F (x ∷ l)
  out x [] j d inside = absurd (omega (arith, inside))
  out x (z ∷ l) zero d inside = turn z x l
  out x (z ∷ l) (suc j) d inside =
      turn (get_or l j d) z (set l j x) ∙ step z (get_or l j d ∷ set l j x) (x ∷ l) (out x l j d (omega (arith, inside))) ∙ turn z x l

  swapped : (l : List X) (i j : ℕ) (d : X) → i < length l → j < length l → F (set (set l i (get_or l j d)) j (get_or l i d)) ≡ F l
  swapped [] i j d a b = absurd (omega (arith, a))
  swapped (z ∷ l) zero zero d a b = refl
  swapped (z ∷ l) zero (suc j) d a b = out z l j d (omega (arith, b))
  swapped (z ∷ l) (suc i) zero d a b = out z l i d (omega (arith, a))
  swapped (z ∷ l) (suc i) (suc j) d a b = step z (set (set l i (get_or l j d)) j (get_or l i d)) l (swapped l i j d (omega (arith, a)) (omega (arith, b)))

  one_swap : (l : List X) (i j : ℕ) → i < length l → j < length l → F (swap l i j) ≡ F l
  one_swap [] i j a b = absurd (omega (arith, a))
  one_swap (d ∷ l) i j a b = swapped (d ∷ l) i j d a b

  -- what two neighbours don't change, no order does
  pub any_order : (xs ys : List X) → IsPermutation xs ys → F ys ≡ F xs
  any_order xs ys same = IsPermutation-keeps xs (λ l. F l ≡ F xs) refl (λ l i j a b h. one_swap l i j a b ∙ h) ys same

module _ {X : Type 0} (key : X → List ℕ) (merge : X → X → X) (laws : IsMerge key merge) where
  turn_step : (q : List ℕ) (x y : X) (o : Option X) (b c : Bool) → bytes_eq q (key x) ≡ b → bytes_eq q (key y) ≡ c
      → cond b (merged key merge laws (Some x) (cond c (merged key merge laws (Some y) o) o)) (cond c (merged key merge laws (Some y) o) o)
      ≡ cond c (merged key merge laws (Some y) (cond b (merged key merge laws (Some x) o) o)) (cond b (merged key merge laws (Some x) o) o)
  turn_step q x y o true true at_x at_y =
      sym (merged_assoc key merge laws (Some x) (Some y) o)
      ∙ ap (λ (z : X). merged key merge laws (Some z) o) (laws.comm x y (sym (true_same q (key x) at_x) ∙ true_same q (key y) at_y))
      ∙ merged_assoc key merge laws (Some y) (Some x) o
  turn_step q x y o true false at_x at_y = refl
  turn_step q x y o false true at_x at_y = refl
  turn_step q x y o false false at_x at_y = refl

  two : (q : List ℕ) (x y : X) (l : List X) → one_of key merge q (x ∷ y ∷ l) ≡ cond (bytes_eq q (key x)) (merged key merge laws (Some x) (cond (bytes_eq q (key y)) (merged key merge laws (Some y) (one_of key merge q l)) (one_of key merge q l))) (cond (bytes_eq q (key y)) (merged key merge laws (Some y) (one_of key merge q l)) (one_of key merge q l))
  two q x y l =
      one_cons key merge laws q x (y ∷ l)
      ∙ ap (λ (o : Option X). cond (bytes_eq q (key x)) (merged key merge laws (Some x) o) o) (one_cons key merge laws q y l)

  -- those of one key as one, in any order
  pub one_order : (q : List ℕ) (xs ys : List X) → IsPermutation xs ys → one_of key merge q ys ≡ one_of key merge q xs
  one_order q xs ys same =
      any_order (λ l. one_of key merge q l)
      (λ x y l. two q x y l ∙ turn_step q x y (one_of key merge q l) (bytes_eq q (key x)) (bytes_eq q (key y)) refl refl ∙ sym (two q y x l))
      (λ x l m e. one_cons key merge laws q x l ∙ ap (λ (o : Option X). cond (bytes_eq q (key x)) (merged key merge laws (Some x) o) o) e ∙ sym (one_cons key merge laws q x m))
      xs ys same

  take_step : (q : List ℕ) (e p : X) (o : Option X) (b : Bool) → bytes_eq q (key e) ≡ b → key e ≡ key p → HasKey key merge laws q o
      → cond b (merged key merge laws (Some (merge e p)) o) o ≡ merged key merge laws (cond b (merged key merge laws (Some e) o) o) (cond b (merged key merge laws (Some p) None) None)
  take_step q e p o true at same has =
      merged_assoc key merge laws (Some e) (Some p) o
      ∙ ap (merged key merge laws (Some e)) (merged_comm key merge laws q (Some p) o (λ x is. ap key (sym (same_Some p x is)) ∙ sym same ∙ sym (true_same q (key e) at)) has)
      ∙ sym (merged_assoc key merge laws (Some e) o (Some p))
  take_step q e p None false at same has = refl
  take_step q e p (Some x) false at same has = refl

  cond_merged : (b : Bool) (x : X) (o r : Option X) → cond b (merged key merge laws (Some x) (merged key merge laws o r)) (merged key merge laws o r) ≡ merged key merge laws (cond b (merged key merge laws (Some x) o) o) r
  cond_merged true x o r = sym (merged_assoc key merge laws (Some x) o r)
  cond_merged false x o r = refl

  -- an element that took one of its key in
  pub taken_in : (q : List ℕ) (es : List X) (at : ℕ) (e p : X) → slice_get es at ≡ Some e → key e ≡ key p → one_of key merge q (set es at (merge e p)) ≡ merged key merge laws (one_of key merge q es) (one_of key merge q (p ∷ []))
  taken_in q [] at e p there same = absurd cc
  taken_in q (x ∷ es) zero e p there same =
      let is : x ≡ e = same_Some x e there in
      one_cons key merge laws q (merge e p) es
      ∙ ap (λ (k : List ℕ). cond (bytes_eq q k) (merged key merge laws (Some (merge e p)) (one_of key merge q es)) (one_of key merge q es)) (laws.keeps e p)
      ∙ take_step q e p (one_of key merge q es) (bytes_eq q (key e)) refl same (one_key key merge laws q es)
      ∙ ap₂ (λ (a b : Option X). merged key merge laws a b)
      (sym (one_cons key merge laws q e es) ∙ ap (λ (y : X). one_of key merge q (y ∷ es)) (sym is))
      (ap (λ (k : List ℕ). cond (bytes_eq q k) (merged key merge laws (Some p) None) None) same ∙ sym (one_cons key merge laws q p []))
  taken_in q (x ∷ es) (suc at) e p there same =
      one_cons key merge laws q x (set es at (merge e p))
      ∙ ap (λ (o : Option X). cond (bytes_eq q (key x)) (merged key merge laws (Some x) o) o) (taken_in q es at e p there same)
      ∙ cond_merged (bytes_eq q (key x)) x (one_of key merge q es) (one_of key merge q (p ∷ []))
      ∙ ap (λ (o : Option X). merged key merge laws o (one_of key merge q (p ∷ []))) (sym (one_cons key merge laws q x es))
