-- What was dealt, from what each half did.
use Rattle.std.proofs.Common.{◌≡◌, ◌<◌, ◌≤◌, ◌+◌, ℕ, zero, suc, All, IsOk, List, [], ◌∷◌, ◌++◌, Result, OnOk, Ok, Err, length, length-append, map, slice_index_or, slice_set, sum_by, sym, refl, ap, ◌∙◌, subst, arith, rules}
use Rattle.std.proofs.lemmas.List.{get_or-map, length-map}
use Rattle.std.proofs.lemmas.List.Sums.{sum_by-append, sum_by-cons}
use Rattle.crossbeam_queue.specs.Passes.{view}
use Rattle.fragments.specs.declared.place.Place.{Place}
use Rattle.fragments.specs.declared.rule.Tally.{Tally}
use Rattle.fragments.specs.Balance.{IsEven, tally}
use Rattle.fragments.specs.Causes.{HasLeft}
use Rattle.fragments.specs.Dealing.{IsDealt}
use Rattle.fragments.specs.Fragments.{DidAt}
use Rattle.fragments.specs.Places.{weight_at}
use Rattle.fragments.specs.Running.{GoesOn, ReadsOn, TakesOn}
use Rattle.lanes.specs.Lanes.{DidAll}

sum_map : {X Y : Type 0} (f : Y → ℕ) (g : X → Y) (xs : List X) → sum_by f (map g xs) ≡ sum_by (λ x. f (g x)) xs
sum_map f g [] = refl
sum_map f g (x ∷ xs) = let rest = sum_map f g xs in omega (arith, sum_by-cons f (g x) (map g xs), sum_by-cons (λ y. f (g y)) x xs)

pub on_ok : {E : Type 0} {P : Type 0} (r : Result (Unit {0}) E) → IsOk r → OnOk r P → P
on_ok (Ok u) is p = p
on_ok (Err e) is p = absurd (search rules)

abbrev taken_at : {T E : Type 0} → Place T E → List T
taken_at p = (view p.pass).taken

module _ {T E : Type 0} where
  -- a fact about an element of a list is one of the element of the list's image
  one_of : (P : List T → Type 0) (places : List (Place T E)) (k : ℕ) (f : Place T E → List T) → k < length places
      → ((d : Place T E) → P (f (slice_index_or places k d))) → P (slice_index_or (map f places) k [])
  one_of P [] k f below each = absurd (omega arith)
  one_of P (p ∷ places) k f below each = subst P (sym (get_or-map f (p ∷ places) k p [] below)) (each p)

module _ {T F C S E : Type 0} (took : F → C → F → C → List T → Type 0) (went : F → C → F → C → Type 0) (stops : F → C → C → E → Type 0)
    (gave ended : S → S → List T → Type 0) where
  -- `v` at the beginning, `w` behind the reading, `u` with what the fragments took, `z` with what was left
  pub dealt : (v w u z : Tally T) (parts : ℕ) (giver giver' : S) (op op1 op2 : F) (beside beside1 beside2 : C) (places places' : List (Place T E)) (ops ops' : List F) (besides besides' : List C)
      → v ≡ tally parts [] [] → gave giver giver [] → took op beside op beside []
      → ReadsOn gave ended giver giver' v.put w.put → GoesOn took op beside op1 beside1 v w
      → DidAll (DidAt took went stops) places ops besides places' ops' besides' → length places ≡ length ops → All (λ p. IsOk p.outcome) places'
      → u.put ≡ w.put → ((h : T → ℕ) → sum_by h u.taken ≡ sum_by h w.taken + sum_by (weight_at h) places')
      → z.put ≡ u.put → IsEven z → TakesOn took op1 beside1 op2 beside2 u.taken z.taken
      → IsDealt took ended giver (op ∷ ops) (beside ∷ besides) giver' (op2 ∷ ops') (beside2 ∷ besides')
  dealt v w u z parts giver giver' op op1 op2 beside beside1 beside2 places places' ops ops' besides besides' new none_given none_took read fed did len fine put1 weight put2 even rest =
      let more = rest.more in
      let sizes : length places' ≡ length ops = did.places_len ∙ len in
      let mapped = length-map places' taken_at in
      record {
        all = w.put;
        given = read giver (subst (gave giver giver) (sym (ap (λ (y : Tally T). y.put) new)) none_given);
        lists = (w.taken ++ more) ∷ map taken_at places';
        len = omega arith;
        ops_len = (let l = did.ops_len in omega arith);
        each = each;
        even = λ h.
            let e1 : sum_by h w.put ≡ sum_by h z.put = ap (sum_by h) (sym (put2 ∙ put1)) in
            let e2 = even h in
            let e3 : sum_by h z.taken ≡ sum_by h (u.taken ++ more) = ap (sum_by h) rest.added in
            let e4 = weight h in
            let e5 : sum_by (sum_by h) (map taken_at places') ≡ sum_by (weight_at h) places' = sum_map (sum_by h) taken_at places' in
            omega (arith, sum_by-append h u.taken more, sum_by-append h w.taken more, sum_by-cons (sum_by h) (w.taken ++ more) (map taken_at places'));
      }
    where
      each : (k : ℕ) (f : F) (c : C) → k < length (op ∷ ops)
          → took (slice_index_or (op ∷ ops) k f) (slice_index_or (beside ∷ besides) k c) (slice_index_or (op2 ∷ ops') k f) (slice_index_or (beside2 ∷ besides') k c)
          (slice_index_or ((w.taken ++ rest.more) ∷ map taken_at places') k [])
      each zero f c below =
          rest.fed op beside w.taken (fed op beside (subst (took op beside op beside) (sym (ap (λ (y : Tally T). y.taken) new)) none_took))
      each (suc k) f c below =
          let sizes : length places' ≡ length ops = did.places_len ∙ len in
          one_of (took (slice_index_or ops k f) (slice_index_or besides k c) (slice_index_or ops' k f) (slice_index_or besides' k c)) places' k taken_at (omega arith) (λ (d : Place T E).
          let here = did.each k d f c (omega arith) in
          on_ok (slice_index_or places' k d).outcome (fine k d (omega arith)) here.run.fed)

  -- what the caller's feeder and the others left
  pub all_left : (left : S → S → Type 0) (giver giver' : S) (op op' : F) (beside beside' : C) (places places' : List (Place T E)) (ops ops' : List F) (besides besides' : List C)
      → left giver giver' → went op beside op' beside' → DidAll (DidAt took went stops) places ops besides places' ops' besides' → length places ≡ length ops
      → HasLeft went left giver (op ∷ ops) (beside ∷ besides) giver' (op' ∷ ops') (beside' ∷ besides')
  all_left left giver giver' op op' beside beside' places places' ops ops' besides besides' giver_left own did len = record {
    ops_len = (let l = did.ops_len in omega arith);
    besides_len = (let l = did.besides_len in omega arith);
    each = each places places' did len;
    giver_left = giver_left;
  }
    where
      each : (places places' : List (Place T E)) → DidAll (DidAt took went stops) places ops besides places' ops' besides' → length places ≡ length ops
          → (k : ℕ) (f : F) (c : C) → k < length (op ∷ ops)
          → went (slice_index_or (op ∷ ops) k f) (slice_index_or (beside ∷ besides) k c) (slice_index_or (op' ∷ ops') k f) (slice_index_or (beside' ∷ besides') k c)
      each places places' did len zero f c below = own
      each [] places' did len (suc k) f c below = absurd (omega arith)
      each (p ∷ ps) places' did len (suc k) f c below = (did.each k p f c (omega arith)).run.left

-- a list whose first element was lent by itself
module _ {X : Type 0} where
  one_first : (a b : List X) (d : X) → length a ≡ 1 → a ++ b ≡ slice_index_or a 0 d ∷ b
  one_first [] b d one = absurd (omega arith)
  one_first (x ∷ []) b d one = refl
  one_first (x ∷ y ∷ a) b d one = absurd (omega arith)

  one_set : (a b : List X) (x : X) → length a ≡ 1 → slice_set a 0 x ++ b ≡ x ∷ b
  one_set [] b x one = absurd (omega arith)
  one_set (y ∷ []) b x one = refl
  one_set (y ∷ z ∷ a) b x one = absurd (omega arith)

module _ {F C : Type 0} where
  -- what stands of the first ones and the rest stands of the lists
  pub put_together : (P : List F → List C → List F → List C → Type 0) (ops a b b' : List F) (besides x y y' : List C) (f op' : F) (c beside' : C)
      → ops ≡ a ++ b → length a ≡ 1 → besides ≡ x ++ y → length x ≡ 1 → P (slice_index_or a 0 f ∷ b) (slice_index_or x 0 c ∷ y) (op' ∷ b') (beside' ∷ y')
      → P ops besides (slice_set a 0 op' ++ b') (slice_set x 0 beside' ++ y')
  put_together P ops a b b' besides x y y' f op' c beside' is one is' one' there =
      let o : ops ≡ slice_index_or a 0 f ∷ b = is ∙ one_first a b f one in
      let i : besides ≡ slice_index_or x 0 c ∷ y = is' ∙ one_first x y c one' in
      rw (o, i, one_set a b' op' one, one_set x y' beside' one') there

  -- what stands at each place stands of the first ones, and at each place of the rest
  pub begin_first : (P : F → C → Type 0) (ops a b : List F) (besides x y : List C) (f : F) (c : C) → ops ≡ a ++ b → length a ≡ 1 → besides ≡ x ++ y → length x ≡ 1 → 1 ≤ length ops
      → ((k : ℕ) (f : F) (c : C) → k < length ops → P (slice_index_or ops k f) (slice_index_or besides k c)) → P (slice_index_or a 0 f) (slice_index_or x 0 c)
  begin_first P ops a b besides x y f c is one is' one' some each =
      let here = each 0 f c (omega arith) in
      rw (is ∙ one_first a b f one, is' ∙ one_first x y c one') at here

  pub begin_rest : (P : F → C → Type 0) (ops a b : List F) (besides x y : List C) → ops ≡ a ++ b → length a ≡ 1 → besides ≡ x ++ y → length x ≡ 1
      → ((k : ℕ) (f : F) (c : C) → k < length ops → P (slice_index_or ops k f) (slice_index_or besides k c))
      → (k : ℕ) (f : F) (c : C) → k < length b → P (slice_index_or b k f) (slice_index_or y k c)
  begin_rest P ops a b besides x y is one is' one' each k f c below =
      let long : length ops ≡ length a + length b = ap length is ∙ length-append a b in
      let here = each (suc k) f c (omega arith) in
      rw (is ∙ one_first a b f one, is' ∙ one_first x y c one') at here
