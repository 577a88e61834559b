-- Room for pages of partitions of which the lower ones rest.
use Rattle.std.proofs.Common.{◌≡◌, ◌∙◌, ℕ, zero, suc, ◌+◌, ◌-◌, ◌*◌, ◌<◌, ◌≤◌, List, [], ◌∷◌, length, Option, Some, None, IsSome, is_some, if◌then◌else◌, refl, ap, sym, subst, inl, inr, arith}
use Rattle.std.specs.List.{slice_get, sum_by}
use Rattle.std.proofs.lemmas.Option.{none-some, same_Some}
use Rattle.std.proofs.lemmas.List.Sums.{sum_by-cons}
use Rattle.store_api.specs.Holdings.{Holdings, length_of, unused_of}
use Rattle.store_api.specs.Signs.{Signs}
use Rattle.tuple_stream.specs.Streamed.{OpenPage, Streamed, len_in}
use Rattle.tuple_stream.specs.Streams.{HasPageRoom}
use Rattle.tuple_stream.specs.Touches.{held}
use Rattle.tuple_stream.specs.Families.{held_in}
use Rattle.partition_stack.specs.Stack.{HasRoomFrom, IsStack, Stack, over}
use Rattle.partition_stack.specs.Laws.{RoomForEach, RoomStays}

less_none : (n : ℕ) → n - 0 ≡ n
less_none n = omega arith

one_more : (n len : ℕ) → (suc n - 0) * len ≡ len + (n - 0) * len
one_more n len = ap (λ (k : ℕ). k * len) (less_none (suc n)) ∙ (let more : suc n * len ≡ len + n * len = omega arith in more) ∙ ap (λ (k : ℕ). len + k * len) (sym (less_none n))

less_suc : (n m len : ℕ) → (suc n - suc m) * len ≡ (n - m) * len
less_suc n m len = ap (λ (k : ℕ). k * len) (let same : suc n - suc m ≡ n - m = omega arith in same)

module _ (len : ℕ) (w : Streamed → ℕ) where
  -- each from a place on counts for no more than `len`, and those before it for nothing
  sum_from : (from : ℕ) (streams : List Streamed) → ((j : ℕ) (z : Streamed) → slice_get streams j ≡ Some z → w z ≤ len) → ((j : ℕ) (z : Streamed) → slice_get streams j ≡ Some z → j < from → w z ≡ 0) → sum_by w streams ≤ (length streams - from) * len
  sum_from from [] under none = omega arith
  sum_from zero (z ∷ streams) under none =
      let rest = sum_from zero streams (λ j y there. under (suc j) y there) (λ j y there below. absurd (omega (arith, below))) in
      let head : w z ≤ len = under 0 z refl in
      let now : sum_by w (z ∷ streams) ≡ w z + sum_by w streams = sum_by-cons w z streams in
      let more = one_more (length streams) len in
      omega (arith, rest, head, now, more)
  sum_from (suc from) (z ∷ streams) under none =
      let rest = sum_from from streams (λ j y there. under (suc j) y there) (λ j y there below. none (suc j) y there (omega (arith, below))) in
      let head : w z ≡ 0 = none 0 z refl (omega arith) in
      let now : sum_by w (z ∷ streams) ≡ w z + sum_by w streams = sum_by-cons w z streams in
      let same = less_suc (length streams) from len in
      omega (arith, rest, head, now, same)

  -- and where one from there on counts for nothing
  sum_but_one : (from : ℕ) (streams : List Streamed) (i : ℕ) (s : Streamed) → slice_get streams i ≡ Some s → from ≤ i → w s ≡ 0 → ((j : ℕ) (z : Streamed) → slice_get streams j ≡ Some z → w z ≤ len) → ((j : ℕ) (z : Streamed) → slice_get streams j ≡ Some z → j < from → w z ≡ 0) → sum_by w streams + len ≤ (length streams - from) * len
  sum_but_one from [] i s at above zeroed under none = absurd (none-some s at)
  sum_but_one zero (z ∷ streams) zero s at above zeroed under none =
      let same : z ≡ s = same_Some z s at in
      let rest = sum_from zero streams (λ j y there. under (suc j) y there) (λ j y there below. absurd (omega (arith, below))) in
      let head : w z ≡ 0 = ap w same ∙ zeroed in
      let now : sum_by w (z ∷ streams) ≡ w z + sum_by w streams = sum_by-cons w z streams in
      let more = one_more (length streams) len in
      omega (arith, rest, head, now, more)
  sum_but_one zero (z ∷ streams) (suc i) s at above zeroed under none =
      let rest = sum_but_one zero streams i s at (omega arith) zeroed (λ j y there. under (suc j) y there) (λ j y there below. absurd (omega (arith, below))) in
      let head : w z ≤ len = under 0 z refl in
      let now : sum_by w (z ∷ streams) ≡ w z + sum_by w streams = sum_by-cons w z streams in
      let more = one_more (length streams) len in
      omega (arith, rest, head, now, more)
  sum_but_one (suc from) (z ∷ streams) zero s at above zeroed under none = absurd (omega (arith, above))
  sum_but_one (suc from) (z ∷ streams) (suc i) s at above zeroed under none =
      let rest = sum_but_one from streams i s at (omega (arith, above)) zeroed (λ j y there. under (suc j) y there) (λ j y there below. none (suc j) y there (omega (arith, below))) in
      let head : w z ≡ 0 = none 0 z refl (omega arith) in
      let now : sum_by w (z ∷ streams) ≡ w z + sum_by w streams = sum_by-cons w z streams in
      let same = less_suc (length streams) from len in
      omega (arith, rest, head, now, same)

held_under : (o : Option OpenPage) (len most : ℕ) → len ≡ most → (if is_some o then len else 0) ≤ most
held_under None len most same = omega arith
held_under (Some page) len most same = omega (arith, same)

held_none : (s : Streamed) (h : Holdings) → s.pinned ≡ None → held s h ≡ 0
held_none s h closed = ap (λ (o : Option OpenPage). if is_some o then len_in s h else 0) closed

room_by : (t from i : ℕ) (p : Stack) (h : Holdings) (signs : Signs) (s : Streamed) (o : Option OpenPage) → s.pinned ≡ o → IsStack p → HasRoomFrom t from p h signs → from ≤ i → slice_get p.streams i ≡ Some s → HasPageRoom t s h
room_by t from i p h signs s (Some page) pin is has above at = inr (subst (λ (o : Option OpenPage). IsSome o) (sym pin) refl)
room_by t from i p h signs s None pin is has above at =
    let own : len_in s h ≡ length_of p.page_blocks h = ap (λ (n : ℕ). n * h.block_len) (is.each i s at) in
    let all = sum_but_one (length_of p.page_blocks h) (λ (z : Streamed). held z h) from p.streams i s at above (held_none s h pin)
    (λ j z there. held_under z.pinned (len_in z h) (length_of p.page_blocks h) (ap (λ (n : ℕ). n * h.block_len) (is.each j z there)))
    (λ j z there below. held_none z h (has.rests j z there below)) in
    let room = has.room in
    inl (omega (arith, all, room, own))

pub room_for_each : RoomForEach
room_for_each t from i p h signs s is has above at = room_by t from i p h signs s s.pinned refl is has above at

pub room_stays : RoomStays
room_stays t from at p q old new before after has above changes long touches =
    record {
      rests = λ i s there below. has.rests i s (sym (changes.others i (λ same. omega (arith, same, above, below))) ∙ there) below;
      room =
          let blocks : length_of q.page_blocks new ≡ length_of p.page_blocks old = ap (λ (n : ℕ). n * new.block_len) changes.blocks ∙ ap (λ (n : ℕ). p.page_blocks * n) touches.block_len in
          let room = has.room in
          let kept = touches.unused in
          let most : (length p.streams - from) * length_of p.page_blocks old ≤ unused_of t new + held_in (over q new after) = omega (arith, room, kept) in
          subst (λ (n : ℕ). (length q.streams - from) * n ≤ unused_of t new + held_in (over q new after)) (sym blocks)
          (subst (λ (n : ℕ). (n - from) * length_of p.page_blocks old ≤ unused_of t new + held_in (over q new after)) (sym long) most);
    }
