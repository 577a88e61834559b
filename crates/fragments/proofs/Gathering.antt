-- Places that are taken from the last one.
use Rattle.std.proofs.Common.{◌≡◌, ◌≤◌, ◌<◌, ◌+◌, ℕ, zero, suc, All, Err, IsOk, List, [], ◌∷◌, ◌++◌, Option, Some, None, IfSome, ⊎_elim, drop, length, length-append, slice_index_or, sum_by, take, sym, refl, ap, ◌∙◌, subst, arith, append-nil}
use Rattle.std.proofs.lemmas.Bool.{cases_lt}
use Rattle.std.proofs.lemmas.List.{drop_all, get_or-take, length-take, take_all}
use Rattle.std.proofs.lemmas.List.Elements.{All-push}
use Rattle.std.proofs.lemmas.List.Sums.{sum_by_push}
use Rattle.std.proofs.Math.ListN.{get_or-append}
use Rattle.std.proofs.Math.Seq.{get_or-append_seam, take-append_seam}
use Rattle.fragments.specs.declared.place.Place.{Place}
use Rattle.fragments.specs.Places.{IsFirstFrom}

module _ {X : Type 0} where
  -- of a list and one more, the list and the one
  pub all_front : (P : X → Type 0) (items rest : List X) (x : X) → items ≡ rest ++ x ∷ [] → All P items → All P rest
  all_front P items rest x is all k d below =
      let here = all k d (let e = ap length is in omega (arith, length-append rest (x ∷ []))) in
      let same : slice_index_or items k d ≡ slice_index_or rest k d = ap (λ l. slice_index_or l k d) is ∙ get_or-append rest (x ∷ []) d k below in
      rw same at here

  pub all_last : (P : X → Type 0) (items rest : List X) (x : X) → items ≡ rest ++ x ∷ [] → All P items → P x
  all_last P items rest x is all =
      let here = all (length rest) x (let e = ap length is in omega (arith, length-append rest (x ∷ []))) in
      let same : slice_index_or items (length rest) x ≡ x = ap (λ l. slice_index_or l (length rest) x) is ∙ get_or-append_seam rest x [] x in
      rw same at here

  pub all_both : (P : X → Type 0) (items rest : List X) (x : X) → items ≡ rest ++ x ∷ [] → All P rest → P x → All P items
  all_both P items rest x is all last = subst (All P) (sym is) (All-push P rest x all last)

  pub sum_last : (f : X → ℕ) (items rest : List X) (x : X) → items ≡ rest ++ x ∷ [] → sum_by f items ≡ sum_by f rest + f x
  sum_last f items rest x is = ap (sum_by f) is ∙ sum_by_push f rest x

  -- the front of a list without its last one is one of it too
  pub front_less : (whole items rest : List X) (x : X) → items ≡ rest ++ x ∷ [] → items ≡ take (length items) whole → rest ≡ take (length rest) whole
  front_less whole items rest x is front =
      let e : length items ≡ length rest + 1 = ap length is ∙ length-append rest (x ∷ []) in
      let t : take (length rest) items ≡ rest = ap (take (length rest)) is ∙ take-append_seam rest (x ∷ []) in
      sym t ∙ ap (take (length rest)) front ∙ take_less (length rest) (length items) whole (omega arith)
    where
      take_less : (m n : ℕ) (xs : List X) → m ≤ n → take m (take n xs) ≡ take m xs
      take_less zero n xs le = refl
      take_less (suc m) zero xs le = absurd (omega arith)
      take_less (suc m) (suc n) [] le = refl
      take_less (suc m) (suc n) (x ∷ xs) le = ap (λ l. x ∷ l) (take_less m n xs (omega arith))

  -- what a list that was lent as a whole holds behind
  pub whole : (n : ℕ) (new old : List X) → length new ≡ n → length old ≡ n → take n (new ++ drop (length new) old) ≡ new
  whole n new old e f =
      let none : drop (length new) old ≡ [] = drop_all (length new) old (omega arith) in
      ap (λ l. take n (new ++ l)) none ∙ ap (take n) (append-nil new) ∙ take_all n new (omega arith)

module _ {T E : Type 0} where
  -- how the last one of these ended is how its place ended
  ended_at : (places items rest : List (Place T E)) (p : Place T E) → items ≡ rest ++ p ∷ [] → items ≡ take (length items) places
      → (d : Place T E) → (slice_index_or places (length rest) d).outcome ≡ p.outcome
  ended_at places items rest p is front d =
      let long : length items ≡ length rest + 1 = ap length is ∙ length-append rest (p ∷ []) in
      let here : slice_index_or items (length rest) d ≡ p = ap (λ l. slice_index_or l (length rest) d) is ∙ get_or-append_seam rest p [] d in
      let there : slice_index_or items (length rest) d ≡ slice_index_or places (length rest) d = ap (λ l. slice_index_or l (length rest) d) front ∙ get_or-take (length items) places (length rest) d (omega arith) in
      ap (λ (q : Place T E). q.outcome) (sym there ∙ here)

  pub refused_last : (places items rest : List (Place T E)) (p : Place T E) (e : E) → items ≡ rest ++ p ∷ [] → items ≡ take (length items) places → p.outcome ≡ Err e
      → IsFirstFrom (length rest) e places
  refused_last places items rest p e is front why =
      let long : length items ≡ length rest + 1 = ap length is ∙ length-append rest (p ∷ []) in
      let most = length-take (length items) places in
      let same : length items ≡ length (take (length items) places) = ap length front in
      record {
        at = length rest;
        behind = omega arith;
        below = omega arith;
        so = λ d. ended_at places items rest p is front d ∙ why;
        before = λ k d from below. absurd (omega arith);
      }

  pub still_first : (places items rest : List (Place T E)) (p : Place T E) (first : Option E) → items ≡ rest ++ p ∷ [] → items ≡ take (length items) places → IsOk p.outcome
      → IfSome first (λ e. IsFirstFrom (length items) e places) → IfSome first (λ e. IsFirstFrom (length rest) e places)
  still_first places items rest p None is front fine first = tt
  still_first places items rest p (Some e) is front fine first =
      let long : length items ≡ length rest + 1 = ap length is ∙ length-append rest (p ∷ []) in
      let mark = first.behind in
      record {
        at = first.at;
        behind = omega arith;
        below = first.below;
        so = first.so;
        before = λ k d from below. ⊎_elim
            (λ (more : length rest < k). first.before k d (omega arith) below)
            (λ (least : k ≤ length rest).
            let same : k ≡ length rest = omega arith in
            subst (λ n. IsOk (slice_index_or places n d).outcome) (sym same) (subst IsOk (sym (ended_at places items rest p is front d)) fine))
            (cases_lt (length rest) k);
      }

  pub first_of_all : (places : List (Place T E)) (n : ℕ) (first : Option E) → n ≡ 0 → IfSome first (λ e. IsFirstFrom n e places) → IfSome first (λ e. IsFirstFrom 0 e places)
  first_of_all places n first none at = subst (λ m. IfSome first (λ e. IsFirstFrom m e places)) none at
