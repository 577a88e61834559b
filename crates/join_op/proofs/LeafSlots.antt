-- Slots, over calls of two streams that are read and of an emitter beside them; and what want of slots is told with.
use Rattle.std.proofs.Common.{◌≡◌, ◌≢◌, ◌∙◌, ℕ, ◌+◌, List, Option, Some, None, refl, ap, sym, subst, arith}
use Rattle.std.specs.Prelude.{slice_get, sum_by}
use Rattle.reservation_tree.specs.declared.errors.PoolErr.{PoolErr}
use Rattle.reservation_tree.specs.declared.errors.PoolErr.TheVariants.{NoReservation, ScratchFull, WriteFault, ReadFault, TooManyTrackers, NamesSpent, Memory, Stale}
use Rattle.store_api.specs.Emitters.{CameOf, OthersStay}
use Rattle.store_api.specs.Holdings.{Holdings, no_page, page_of}
use Rattle.store_api.specs.Signs.{Grows, Signs}
use Rattle.store_api.specs.Tokens.{PageToken}
use Rattle.store_api.specs.declared.op_err.OpErr.{OpErr}
use Rattle.store_api.specs.declared.op_err.OpErr.TheVariants.{Pool, Sink}
use Rattle.store_api.proofs.Answered.{answered_after}
use Rattle.store_api.proofs.Puts.{there}
use Rattle.bucket_table.specs.Lending.{Lends}
use Rattle.bucket_table.specs.Tables.{Lent}
use Rattle.tuple_stream.specs.Families.{AreDisjoint}
use Rattle.tuple_stream.specs.Streamed.{Streamed}
use Rattle.tuple_stream.specs.Streams.{IsApart, IsOwnPage, IsShaped}
use Rattle.tuple_stream.specs.Touches.{IsFull, Touches, slots_of, slots_with}
use Rattle.tuple_stream.proofs.Chosen.{at_place}
use Rattle.partition_stack.specs.Reading.{ReadBeside}
use Rattle.partition_stack.specs.Slots.{KeepSlots, with_more}
use Rattle.partition_stack.proofs.Emitters.{came_behind}
use Rattle.partition_stack.proofs.Slots.{keep_after, keep_more, keep_own, keep_then, one_taken}
use Rattle.join_op.specs.Slots.{CameFull, IsFullOf, slots_of_two}
use Rattle.join_op.proofs.BothFrames.{other_agrees}

-- ---- what want of slots is told with

none_refused : (blocks : ℕ) (free : Option ℕ) (before after : Signs) (e : PoolErr) → after ≡ before → CameOf 0 0 before after (Pool e) → IsFull blocks free e
none_refused blocks free before after (NoReservation tracker wanted room) same came = tt
none_refused blocks free before after (ScratchFull need few) same came = let still = ap (λ (s : Signs). s.refused_unpins) same in absurd (omega (arith, still, came))
none_refused blocks free before after (WriteFault entry) same came = tt
none_refused blocks free before after (ReadFault entry) same came = tt
none_refused blocks free before after (TooManyTrackers count) same came = tt
none_refused blocks free before after NamesSpent same came = tt
none_refused blocks free before after Memory same came = tt
none_refused blocks free before after (Stale wanted found) same came = tt

-- what shows nothing refused no unpin
pub alone_full : (blocks f g : ℕ) (free : Option ℕ) (before after : Signs) (e : OpErr) → after ≡ before → CameOf f g before after e → IsFullOf blocks free e
alone_full blocks f g free before after (Pool e) same came = none_refused blocks free before after e same came
alone_full blocks f g free before after Sink same came = tt

came_later : (f g : ℕ) (a b k : Signs) (e : OpErr) → Grows b k → CameOf f g a b e → CameOf f g a k e
came_later f g a b k (Pool e) grows came = answered_after e a b k came grows
came_later f g a b k Sink grows came = came

pub full_later : (blocks : ℕ) (free last client : Option ℕ) (f g : ℕ) (a b k : Signs) (e : OpErr) → Grows b k → last ≡ free → CameFull blocks free client f g a b e → CameFull blocks last client f g a k e
full_later blocks free last client f g a b k e grows same came =
    record { came = came_later f g a b k e grows came.came; full = λ none. subst (λ (o : Option ℕ). IsFullOf blocks o e) (sym same) (came.full none) }

pub full_since : (blocks : ℕ) (free client : Option ℕ) (f g : ℕ) (a b k : Signs) (e : OpErr) → Grows a b → CameFull blocks free client f g b k e → CameFull blocks free client f g a k e
full_since blocks free client f g a b k e grows came = record { came = came_behind f f g a b k e (omega arith) grows came.came; full = came.full }

pub full_as : (blocks other : ℕ) (free client : Option ℕ) (f g : ℕ) (a k : Signs) (e : OpErr) → other ≡ blocks → CameFull other free client f g a k e → CameFull blocks free client f g a k e
full_as blocks other free client f g a k e same came = subst (λ (n : ℕ). CameFull n free client f g a k e) same came

-- ---- one stream and an emitter

module _ (t : ℕ) (client : Option ℕ) (n0 n : ℕ) (s0 s : Streamed) (h0 h : Holdings) (so : KeepSlots client (slots_with s0 h0) (slots_with s h) n0 n) where
  pub one_read : (now : Streamed) (new : Holdings) (n1 : ℕ) → Touches t s now h new → n1 ≡ n → KeepSlots client (slots_with s0 h0) (slots_with now new) n0 n1
  one_read now new n1 touches same = keep_then client (slots_with s0 h0) (slots_with s h) (slots_with now new) n0 n n1 so (keep_own client (slots_with s h) (slots_with now new) n n1 touches.slots same)

  pub one_handed : (now : Option ℕ) (new : Holdings) (n1 : ℕ) → now ≡ client → client ≢ Some t → IsShaped t s h → OthersStay now h new → KeepSlots now h.free_slots new.free_slots n n1 → KeepSlots client (slots_with s0 h0) (slots_with s new) n0 n1
  one_handed now new n1 is free shaped stays slots =
      let stay : OthersStay client h new = subst (λ (o : Option ℕ). OthersStay o h new) is stays in
      let same = stay.others t free in
      let agree : (k : ℕ) (p : PageToken) → slice_get s.pages k ≡ Some p → new.pages p.name ≡ h.pages p.name = λ k p at.
      let own = at_place (IsOwnPage t s.page_blocks h) s.pages k p shaped.own at in
      let lives : h.pages p.name ≡ Some (page_of p.name h) = there no_page (h.pages p.name) own.page.lives in
      (same.pages p.name (page_of p.name h) (own.page.client ∙ own.client)).1 lives ∙ sym lives in
      keep_then client (slots_with s0 h0) (slots_with s h) (slots_with s new) n0 n n1 so
      (keep_more client h.free_slots new.free_slots n n1 (sum_by (slots_of s h) s.pages) (sum_by (slots_of s new) s.pages) (one_taken s h new agree) (subst (λ (o : Option ℕ). KeepSlots o h.free_slots new.free_slots n n1) is slots))

-- ---- two streams and an emitter

pub more_twice : (o : Option ℕ) (a b : ℕ) → with_more b (with_more a o) ≡ with_more a (with_more b o)
more_twice None a b = refl
more_twice (Some n) a b = ap Some (around n a b)
  where
    around : (n a b : ℕ) → n + a + b ≡ n + b + a
    around n a b = omega arith

two_turned : (s r : Streamed) (h : Holdings) → slots_of_two s r h ≡ slots_of_two r s h
two_turned s r h = more_twice h.free_slots (sum_by (slots_of s h) s.pages) (sum_by (slots_of r h) r.pages)

-- the streams may change places
pub keep_turned : (client : Option ℕ) (n0 n : ℕ) (s0 s r0 r : Streamed) (h0 h : Holdings) → KeepSlots client (slots_of_two s0 r0 h0) (slots_of_two s r h) n0 n → KeepSlots client (slots_of_two r0 s0 h0) (slots_of_two r s h) n0 n
keep_turned client n0 n s0 s r0 r h0 h keep =
    subst (λ (o : Option ℕ). KeepSlots client o (slots_of_two r s h) n0 n) (two_turned s0 r0 h0)
    (subst (λ (o : Option ℕ). KeepSlots client (slots_of_two s0 r0 h0) o n0 n) (two_turned s r h) keep)

-- a stream's pages stay while another one of its client is called
apart_agrees : (t : ℕ) (s now r : Streamed) (old new : Holdings) → IsShaped t r old → AreDisjoint s r → Touches t s now old new → (k : ℕ) (p : PageToken) → slice_get r.pages k ≡ Some p → new.pages p.name ≡ old.pages p.name
apart_agrees t s now r old new is apart touches k p at =
    let own = at_place (IsOwnPage t r.page_blocks old) r.pages k p is.own at in
    (touches.pages p.name own.page.lives (at_place (λ (q : PageToken). IsApart q.name s.pages) r.pages k p apart at)).0

module _ (t : ℕ) (client : Option ℕ) (n0 n : ℕ) (s0 s r0 r : Streamed) (h0 h : Holdings) (so : KeepSlots client (slots_of_two s0 r0 h0) (slots_of_two s r h) n0 n) where
  pub two_read : (now : Streamed) (new : Holdings) (n1 : ℕ) → IsShaped t s h → AreDisjoint r s → Touches t r now h new → n1 ≡ n → KeepSlots client (slots_of_two s0 r0 h0) (slots_of_two s now new) n0 n1
  two_read now new n1 is apart touches same =
      let still : sum_by (slots_of s new) s.pages ≡ sum_by (slots_of s h) s.pages = one_taken s h new (apart_agrees t r now s h new is apart touches) in
      let sums : slots_of_two s now new ≡ slots_of_two s r h =
      two_turned s now new ∙ ap (with_more (sum_by (slots_of s new) s.pages)) touches.slots ∙ ap (λ (m : ℕ). with_more m (slots_with r h)) still ∙ two_turned r s h in
      keep_then client (slots_of_two s0 r0 h0) (slots_of_two s r h) (slots_of_two s now new) n0 n n1 so (keep_own client (slots_of_two s r h) (slots_of_two s now new) n n1 sums same)

  pub two_handed : (mine seen : Option ℕ) (now : Streamed) (new : Holdings) (n1 : ℕ) → mine ≡ client → IsShaped t r h → AreDisjoint s r → ReadBeside t seen s now h new → KeepSlots mine (slots_with s h) (slots_with now new) n n1
      → KeepSlots client (slots_of_two s0 r0 h0) (slots_of_two now r new) n0 n1
  two_handed mine seen now new n1 is shaped apart beside keep =
      keep_after client mine (slots_of_two s0 r0 h0) (slots_of_two s r h) (slots_of_two now r new) n0 n n1 is so
      (keep_more mine (slots_with s h) (slots_with now new) n n1 (sum_by (slots_of r h) r.pages) (sum_by (slots_of r new) r.pages) (one_taken r h new (other_agrees t seen s now r h new shaped apart beside)) keep)

-- ---- a table is lent beside them

pub free_lent : (t : ℕ) (loans : List Lent) (less more : Holdings) → Lends t loans less more → more.free_slots ≡ less.free_slots
free_lent t loans less more lends = ap (λ (h : Holdings). h.free_slots) lends.rest

two_lent : (t : ℕ) (loans : List Lent) (less more : Holdings) (s r : Streamed) → Lends t loans less more → slots_of_two s r more ≡ slots_of_two s r less
two_lent t loans less more s r lends = ap (slots_of_two s r) lends.rest

pub keep_lent : (t : ℕ) (loans : List Lent) (less more last : Holdings) (s r s1 r1 : Streamed) (client : Option ℕ) (n0 n1 n2 : ℕ) → Lends t loans less more → n1 ≡ n0 → KeepSlots client (slots_of_two s r more) (slots_of_two s1 r1 last) n1 n2
    → KeepSlots client (slots_of_two s r less) (slots_of_two s1 r1 last) n0 n2
keep_lent t loans less more last s r s1 r1 client n0 n1 n2 lends same keep =
    keep_then client (slots_of_two s r less) (slots_of_two s r more) (slots_of_two s1 r1 last) n0 n1 n2 (keep_own client (slots_of_two s r less) (slots_of_two s r more) n0 n1 (two_lent t loans less more s r lends) same) keep

pub keep_given : (t : ℕ) (loans : List Lent) (first less more : Holdings) (s r s1 r1 : Streamed) (client : Option ℕ) (n0 n1 n2 : ℕ) → Lends t loans less more → n2 ≡ n1 → KeepSlots client (slots_of_two s r first) (slots_of_two s1 r1 more) n0 n1
    → KeepSlots client (slots_of_two s r first) (slots_of_two s1 r1 less) n0 n2
keep_given t loans first less more s r s1 r1 client n0 n1 n2 lends same keep =
    keep_then client (slots_of_two s r first) (slots_of_two s1 r1 more) (slots_of_two s1 r1 less) n0 n1 n2 keep (keep_own client (slots_of_two s1 r1 more) (slots_of_two s1 r1 less) n1 n2 (sym (two_lent t loans less more s1 r1 lends)) same)
