-- What an entry leaves alone.
use Rattle.std.proofs.Common.{◌≡◌, ◌≢◌, ℕ, true, false, Some, None, refl, ap, sym, ◌∙◌}
use Rattle.std.specs.FinMap.{get, insert}
use Rattle.reservation_tree.proofs.Maps.{get_other, removed_other}
use Rattle.pool_model.specs.declared.event.Event.{Event}
use Rattle.pool_model.specs.declared.event.Event.TheVariants.{AddTracker, CloseTracker, Increase, IncreaseToFit, Decrease, MoveReservation, Create, PinHere, PinLoad, ReadOk, ReadFailed, ReadStale, PinAgain, UnpinOnce, Unpin, Extract, Destroy, Alloc, Free, MoveBuffer, StartWrite, WriteOk, WriteFailed, Evict}
use Rattle.pool_model.specs.State.{State, page_at}
use Rattle.pool_model.specs.Effects.{effect, after}
use Rattle.pool_model.specs.Frames.{page_in, buffer_in, is_of_trackers, EntriesLeaveRest}

apart : (p q : ℕ) → Some p ≢ Some q → q ≢ p
apart p q other same = other (ap Some (sym same))

pages_left : (maker : ℕ) (event : Event) (s : State) (p : ℕ) → page_in event ≢ Some p → get (effect maker event s).pages p ≡ get s.pages p
pages_left maker (AddTracker t parent limit (Some quota)) s q other = refl
pages_left maker (AddTracker t parent limit None) s q other = refl
pages_left maker (Create p client blocks key) s q other = get_other s.pages p _ q (apart p q other)
pages_left maker (PinHere p) s q other = get_other s.pages p _ q (apart p q other)
pages_left maker (PinLoad p) s q other = get_other s.pages p _ q (apart p q other)
pages_left maker (ReadOk p) s q other = get_other s.pages p _ q (apart p q other)
pages_left maker (ReadFailed p before after) s q other = get_other s.pages p _ q (apart p q other)
pages_left maker (ReadStale p wanted found) s q other = get_other s.pages p _ q (apart p q other)
pages_left maker (PinAgain p) s q other = get_other s.pages p _ q (apart p q other)
pages_left maker (UnpinOnce p) s q other = get_other s.pages p _ q (apart p q other)
pages_left maker (Unpin p content) s q other =
    get_other (insert s.pages p (record (page_at s p) { has_slots = true })) p _ q (apart p q other) ∙ get_other s.pages p _ q (apart p q other)
pages_left maker (Extract p f) s q other = removed_other s.pages p q (apart p q other)
pages_left maker (Destroy p) s q other = removed_other s.pages p q (apart p q other)
pages_left maker (StartWrite p) s q other = get_other s.pages p _ q (apart p q other)
pages_left maker (WriteOk p) s q other = get_other s.pages p _ q (apart p q other)
pages_left maker (WriteFailed p before after) s q other = get_other s.pages p _ q (apart p q other)
pages_left maker (Evict p) s q other = get_other s.pages p _ q (apart p q other)
pages_left maker _ s q other = refl

buffers_left : (maker : ℕ) (event : Event) (s : State) (f : ℕ) → buffer_in event ≢ Some f → get (effect maker event s).buffers f ≡ get s.buffers f
buffers_left maker (AddTracker t parent limit (Some quota)) s g other = refl
buffers_left maker (AddTracker t parent limit None) s g other = refl
buffers_left maker (Extract p f) s g other = get_other s.buffers f _ g (apart f g other)
buffers_left maker (Alloc f client blocks) s g other = get_other s.buffers f _ g (apart f g other)
buffers_left maker (Free f) s g other = removed_other s.buffers f g (apart f g other)
buffers_left maker (MoveBuffer f to) s g other = get_other s.buffers f _ g (apart f g other)
buffers_left maker _ s g other = refl

trackers_left : (maker : ℕ) (event : Event) (s : State) → is_of_trackers event ≡ false → (effect maker event s).trackers ≡ s.trackers
trackers_left maker (AddTracker t parent limit (Some quota)) s is = cc
trackers_left maker (AddTracker t parent limit None) s is = cc
trackers_left maker (CloseTracker t) s is = cc
trackers_left maker (Increase t bytes) s is = cc
trackers_left maker (IncreaseToFit t bytes) s is = cc
trackers_left maker (Decrease t bytes) s is = cc
trackers_left maker (MoveReservation from to bytes) s is = cc
trackers_left maker _ s is = refl

same_len : (maker : ℕ) (event : Event) (s : State) → (effect maker event s).block_len ≡ s.block_len
same_len maker (AddTracker t parent limit (Some quota)) s = refl
same_len maker (AddTracker t parent limit None) s = refl
same_len maker _ s = refl

same_marked : (maker : ℕ) (event : Event) (s : State) → (effect maker event s).marked ≡ s.marked
same_marked maker (AddTracker t parent limit (Some quota)) s = refl
same_marked maker (AddTracker t parent limit None) s = refl
same_marked maker _ s = refl

same_blocks : (maker : ℕ) (event : Event) (s : State) → (effect maker event s).blocks ≡ s.blocks
same_blocks maker (AddTracker t parent limit (Some quota)) s = refl
same_blocks maker (AddTracker t parent limit None) s = refl
same_blocks maker _ s = refl

pub entries_leave_rest : EntriesLeaveRest
entries_leave_rest s e = record {
  pages = pages_left e.maker e.event s;
  buffers = buffers_left e.maker e.event s;
  trackers = trackers_left e.maker e.event s;
  block_len = same_len e.maker e.event s;
  marked = same_marked e.maker e.event s;
  blocks = same_blocks e.maker e.event s;
}
