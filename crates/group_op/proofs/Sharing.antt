-- The query's room and the slots, over calls of a stream and of an emitter beside it; and what want of slots is told with.
use Rattle.std.proofs.Common.{◌≡◌, ◌≢◌, ◌∙◌, ℕ, ◌*◌, Option, Some, None, IsSome, Result, Ok, Err, IfErr, ap, sym, subst, arith}
use Rattle.std.specs.Prelude.{slice_get, sum_by}
use Rattle.reservation_tree.specs.declared.errors.PoolErr.{PoolErr}
use Rattle.reservation_tree.specs.declared.errors.PoolErr.TheVariants.{NoReservation, ScratchFull, WriteFault, ReadFault, TooManyTrackers, NamesSpent, Memory, Stale}
use Rattle.store_api.specs.Emitters.{CameOf, KeepsRoom, OthersStay}
use Rattle.store_api.specs.Holdings.{Holdings, no_page, page_of}
use Rattle.store_api.specs.Signs.{Signs}
use Rattle.store_api.specs.Tokens.{PageToken}
use Rattle.store_api.specs.declared.op_err.OpErr.{OpErr}
use Rattle.store_api.specs.declared.op_err.OpErr.TheVariants.{Pool, Sink}
use Rattle.store_api.proofs.Puts.{there}
use Rattle.tuple_stream.specs.Streamed.{Streamed}
use Rattle.tuple_stream.specs.Streams.{IsOwnPage, IsShaped}
use Rattle.tuple_stream.specs.Steps.{Reads, scene}
use Rattle.tuple_stream.specs.Touches.{IsFull, slots_of, slots_with}
use Rattle.tuple_stream.proofs.Chosen.{at_place}
use Rattle.partition_stack.specs.Slots.{IsWant, IsWantOf, KeepSlots}
use Rattle.partition_stack.proofs.Emitters.{emit_room}
use Rattle.partition_stack.proofs.Rooms.{room_touched}
use Rattle.partition_stack.proofs.Slots.{keep_more, keep_none, keep_own, keep_then, one_taken, times_one, want_with}
use Rattle.group_op.specs.Causes.{CameBeside}
use Rattle.group_op.specs.Scanning.{Shares}

-- ---- room and slots

pub shares_none : (t : ℕ) (client : Option ℕ) (n : ℕ) (s : Streamed) (h : Holdings) → Shares t client n n s s h h
shares_none t client n s h = record { room = omega arith; slots = keep_none client (slots_with s h) n }

module _ (t : ℕ) (client : Option ℕ) (n0 n : ℕ) (s0 s : Streamed) (h0 h : Holdings) (so : Shares t client n0 n s0 s h0 h) where
  pub shares_read : (now : Streamed) (new : Holdings) (before after : Signs) (n1 : ℕ) → IsSome (h.clients t) → Reads t (scene s h before) (scene now new after) → n1 ≡ n → Shares t client n0 n1 s0 now h0 new
  shares_read now new before after n1 lives went same =
      let one = so.room in
      let two = room_touched t client s now h new lives went.step.touches in
      record {
        room = omega (arith, one, two);
        slots = keep_then client (slots_with s0 h0) (slots_with s h) (slots_with now new) n0 n n1 so.slots (keep_own client (slots_with s h) (slots_with now new) n n1 went.step.touches.slots same);
      }

  pub shares_handed : (now : Option ℕ) (new : Holdings) (n1 : ℕ) → now ≡ client → client ≢ Some t → IsShaped t s h → OthersStay now h new → KeepsRoom now h new → KeepSlots now h.free_slots new.free_slots n n1 → Shares t client n0 n1 s0 s h0 new
  shares_handed now new n1 is free shaped stays keeps slots =
      let stay : OthersStay client h new = subst (λ (o : Option ℕ). OthersStay o h new) is stays in
      let same = stay.others t free in
      let agree : (k : ℕ) (p : PageToken) → slice_get s.pages k ≡ Some p → new.pages p.name ≡ h.pages p.name = λ k p at.
      let own = at_place (IsOwnPage t s.page_blocks h) s.pages k p shaped.own at in
      let lives : h.pages p.name ≡ Some (page_of p.name h) = there no_page (h.pages p.name) own.page.lives in
      (same.pages p.name (page_of p.name h) (own.page.client ∙ own.client)).1 lives ∙ sym lives in
      let one = so.room in
      let two = emit_room t client h new free stay (subst (λ (o : Option ℕ). KeepsRoom o h new) is keeps) in
      record {
        room = omega (arith, one, two);
        slots =
            keep_then client (slots_with s0 h0) (slots_with s h) (slots_with s new) n0 n n1 so.slots
            (keep_more client h.free_slots new.free_slots n n1 (sum_by (slots_of s h) s.pages) (sum_by (slots_of s new) s.pages) (one_taken s h new agree) (subst (λ (o : Option ℕ). KeepSlots o h.free_slots new.free_slots n n1) is slots));
      }

-- ---- want of slots

-- what stopped a stream that was read, by the slots at the start
pub want_read : (t blocks : ℕ) (s now : Streamed) (old new : Holdings) (before after : Signs) (e : PoolErr) → Reads t (scene s old before) (scene now new after) → blocks ≡ s.page_blocks → IsFull blocks new.free_slots e → IsWant s.page_blocks (slots_with s old) e
want_read t blocks s now old new before after e went is full =
    let times = times_one now new now.pages in
    subst (λ (o : Option ℕ). IsWant s.page_blocks o e) went.step.touches.slots
    (want_with s.page_blocks (sum_by (slots_of now new) now.pages) times.0 new.free_slots (times.1 ∙ ap (λ (n : ℕ). times.0 * n) went.step.sized) e
    (subst (λ (n : ℕ). IsFull n new.free_slots e) is full))

none_refused : (blocks : ℕ) (total : Option ℕ) (before after : Signs) (e : PoolErr) → after ≡ before → CameOf 0 0 before after (Pool e) → IsWant blocks total e
none_refused blocks total before after (NoReservation tracker wanted room) same came = tt
none_refused blocks total before after (ScratchFull need few) same came = let still = ap (λ (s : Signs). s.refused_unpins) same in absurd (omega (arith, still, came))
none_refused blocks total before after (WriteFault entry) same came = tt
none_refused blocks total before after (ReadFault entry) same came = tt
none_refused blocks total before after (TooManyTrackers count) same came = tt
none_refused blocks total before after NamesSpent same came = tt
none_refused blocks total before after Memory same came = tt
none_refused blocks total before after (Stale wanted found) same came = tt

-- what shows nothing refused no unpin
pub alone_want : (blocks f g : ℕ) (total : Option ℕ) (before after : Signs) (e : OpErr) → after ≡ before → CameOf f g before after e → IsWantOf blocks total e
alone_want blocks f g total before after (Pool e) same came = none_refused blocks total before after e same came
alone_want blocks f g total before after Sink same came = tt

-- the same want, by the slots of an earlier start
pub want_as : {X : Type 0} (r : Result X OpErr) (m n : ℕ) (o p : Option ℕ) → m ≡ n → o ≡ p → IfErr r (IsWantOf m o) → IfErr r (IsWantOf n p)
want_as r m n o p same sums want = subst (λ (k : ℕ). IfErr r (IsWantOf k p)) same (subst (λ (x : Option ℕ). IfErr r (IsWantOf m x)) sums want)

pub both_came : {X : Type 0} (r : Result X OpErr) (blocks : ℕ) (total client : Option ℕ) (f g : ℕ) (before after : Signs) → IfErr r (CameOf f g before after) → (client ≡ None → IfErr r (IsWantOf blocks total)) → IfErr r (CameBeside blocks total client f g before after)
both_came (Ok x) blocks total client f g before after came want = tt
both_came (Err e) blocks total client f g before after came want = record { came = came; want = want }
