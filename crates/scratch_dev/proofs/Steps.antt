-- One more call on the slots of a row: xs are the slots as they were, ys as they are before the call on the slot i.
use Rattle.std.proofs.Common.{◌≡◌, ℕ, ◌+◌, ◌<◌, ◌≤◌, List, Result, Ok, Err, length, drop, sym, ap, ◌∙◌, arith, inl, inr, set, get_or}
use Rattle.std.specs.Prelude.{IsErr, OnErr}
use Rattle.std.specs.List.{sum_by}
use Rattle.std.proofs.lemmas.Bool.{cases_eq, false≢true}
use Rattle.std.proofs.lemmas.List.{get_or-set_same, get_or-set_other, get_or_read, get_or-drop, drop-set-lt, drop-drop, length-set}
use Rattle.std.proofs.lemmas.List.Sums.{sum_by-set, get_or-le-sum_by}
use Rattle.outside.specs.Counts.{Rose}
use Rattle.outside.specs.declared.stream.Failed.{Failed}
use Rattle.scratch_dev.specs.Rows.{Ended, WentWell, Walked}

-- what holds anyway holds of a failure
pub on_failure : {P E : Type 0} (ended : Result (Unit {0}) E) → P → OnErr ended P
on_failure (Ok _) p = tt
on_failure (Err _) p = p

module _ {D : Type 0} (xs ys : List D) (i : ℕ) where
  -- a slot that no call has met is as it was
  pub unmet : drop i ys ≡ drop i xs → (d : D) → get_or ys i d ≡ get_or xs i d
  unmet later d =
      let left : get_or (drop i ys) 0 d ≡ get_or ys (i + 0) d = get_or-drop i ys 0 d in
      let right : get_or (drop i xs) 0 d ≡ get_or xs (i + 0) d = get_or-drop i xs 0 d in
      let both : get_or ys (i + 0) d ≡ get_or xs (i + 0) d = sym left ∙ ap (λ rest. get_or rest 0 d) later ∙ right in
      let none : i + 0 ≡ i = omega arith in
      rw none at both

  pub later_more : (y : D) → drop i ys ≡ drop i xs → drop (i + 1) (set ys i y) ≡ drop (i + 1) xs
  later_more y later =
      drop-set-lt (i + 1) ys i y (omega arith) ∙ sym (drop-drop 1 i ys) ∙ ap (drop 1) later ∙ drop-drop 1 i xs

  module _ {E : Type 0} (Call : ℕ → List ℕ → Result (Unit {0}) E → D → D → Type 0) (old new : ℕ → List ℕ) (x y : D) where
    -- it went well, and the blocks of the calls before it are what they were
    pub walk_more : i < length ys → ((k : ℕ) → k < i → new k ≡ old k) → WentWell (λ k. Call k (old k)) i xs ys → drop i ys ≡ drop i xs → x ≡ get_or ys i x → Call i (new i) (Ok tt) x y → WentWell (λ k. Call k (new k)) (i + 1) xs (set ys i y)
    walk_more inside same earlier later is call = λ k d within.
        elim (cases_eq k i) [
          | inl here ↦
              let first : get_or (set ys i y) i d ≡ y = get_or-set_same ys i y d inside in
              let slot : x ≡ get_or xs i d = get_or_read ys i x inside is d ∙ unmet later d in
              rw (here, first, ← slot) call
          | inr other ↦ rw (get_or-set_other ys i k y d other, same k (omega arith)) (earlier k d (omega arith))
        ]

    -- it ended the walk
    pub walk_ended : (failure : E) → i < length ys → length ys ≡ length xs → ((k : ℕ) → k < i → new k ≡ old k) → WentWell (λ k. Call k (old k)) i xs ys → drop i ys ≡ drop i xs → x ≡ get_or ys i x → Call i (new i) (Err failure) x y → Walked (λ k. Call k (new k)) (Err failure) xs (set ys i y)
    walk_ended failure inside len same earlier later is call = (
      i,
      record {
        inside = omega arith;
        earlier = λ k d within.
            let apart : (k ≡ i → ⊥) = λ here. (let none : ⊥ = omega arith in none) in
            rw (get_or-set_other ys i k y d apart, same k within) (earlier k d within);
        here = λ d.
            let first : get_or (set ys i y) i d ≡ y = get_or-set_same ys i y d inside in
            let slot : x ≡ get_or xs i d = get_or_read ys i x inside is d ∙ unmet later d in
            rw (first, ← slot) call;
        later = later_more y later;
      },
    )

  -- it failed
  pub walk_failed : (Call : List ℕ → Ended → D → D → Type 0) (old new : ℕ → List ℕ) (x y : D) (ended : Ended) (failure : Failed) → IsErr ended → i < length ys → length ys ≡ length xs → ((k : ℕ) → k < i → new k ≡ old k)
      → WentWell (λ k. Call (old k)) i xs ys → drop i ys ≡ drop i xs → x ≡ get_or ys i x → Call (new i) (Err failure) x y → Walked (λ k. Call (new k)) ended xs (set ys i y)
  walk_failed Call old new x y (Ok _) failure bad inside len same earlier later is call = absurd (false≢true bad)
  walk_failed Call old new x y (Err e) failure bad inside len same earlier later is call = walk_ended (λ _. Call) old new x y e inside len same earlier later is call

module _ {D : Type 0} (faults : D → ℕ) (xs ys : List D) (i : ℕ) (x y : D) (inside : i < length ys) (is : x ≡ get_or ys i x) (never_falls : sum_by faults xs ≤ sum_by faults ys) where
  changed : sum_by faults (set ys i y) + faults x ≡ sum_by faults ys + faults y
  changed = ap (λ slot. sum_by faults (set ys i y) + faults slot) is ∙ sum_by-set faults ys i y x inside

  part : faults y ≤ sum_by faults (set ys i y)
  part =
      let within : i < length (set ys i y) = omega (arith, length-set ys i y) in
      let one : faults (get_or (set ys i y) i y) ≤ sum_by faults (set ys i y) = get_or-le-sum_by faults (set ys i y) i y within in
      rw (get_or-set_same ys i y y inside) at one

  pub sum_holds : faults x ≤ faults y → sum_by faults xs ≤ sum_by faults (set ys i y)
  sum_holds more = omega (arith, changed)

  -- the sum rises where this count does
  pub sum_rose : Rose (faults x) (faults y) → Rose (sum_by faults xs) (sum_by faults (set ys i y))
  sum_rose rose = λ below. let more : faults x < faults y = rose (omega (arith, part)) in omega (arith, changed)
