-- What entries do.
use Rattle.std.specs.Prelude.{ℕ, ◌+◌, ◌-◌, Some, None}
use Rattle.std.specs.FinMap.{remove}
use Rattle.reservation_tree.specs.Change.{grow, lacking, shrink, move_to}
use Rattle.pool_model.specs.declared.event.Event.{Event}
use Rattle.pool_model.specs.declared.event.Event.TheVariants.{Ask, AddTracker, CloseTracker, Increase, IncreaseToFit, Decrease, MoveReservation, Create, PinHere, PinLoad, ReadOk, ReadFailed, ReadStale, PinAgain, UnpinOnce, Unpin, UnpinRefused, Extract, Destroy, Alloc, Free, MoveBuffer, StartWrite, WriteOk, WriteFailed, Evict, Refused}
use Rattle.pool_model.specs.declared.entry.Entry.{Entry}
use Rattle.pool_model.specs.State.{Pinned, Dirty, Loading, Clean, Evicted, State, shown, page_at, buffer_at}
use Rattle.pool_model.specs.Sums.{charge_of}
use Rattle.pool_model.specs.Parts.{with_trackers, pins_at, put_in, put_flying, give_slots, end_page, queue_dirty, unqueue, queue_clean, note_failure, forget_failures, open_session, add_client, close_tracker, create_page, put_buffer}

-- what an event does, but that it is counted
abbrev pub effect : ℕ → Event → State → State
effect maker Ask s = forget_failures maker s
effect maker (AddTracker t parent limit (Some quota)) s = open_session maker t limit quota s
effect maker (AddTracker t parent limit None) s = add_client t parent limit s
effect maker (CloseTracker t) s = close_tracker maker t s
effect maker (Increase t bytes) s = with_trackers (grow (charge_of s) bytes t s.trackers) s
effect maker (IncreaseToFit t bytes) s = with_trackers (grow (charge_of s) (lacking (charge_of s) bytes t s.trackers) t s.trackers) s
effect maker (Decrease t bytes) s = with_trackers (shrink bytes t s.trackers) s
effect maker (MoveReservation from to bytes) s = with_trackers (move_to bytes from to s.trackers) s
effect maker (Create p client blocks key) s = create_page maker p client blocks key s
effect maker (PinHere p) s = put_in (Pinned 1) p (unqueue p s)
effect maker (PinLoad p) s = put_in Loading p s
effect maker (ReadOk p) s = put_in (Pinned 1) p s
effect maker (ReadFailed p before after) s = put_in Evicted p (note_failure p s)
effect maker (ReadStale p wanted found) s = put_in Evicted p s
effect maker (PinAgain p) s = put_in (Pinned (pins_at s p + 1)) p s
effect maker (UnpinOnce p) s = put_in (Pinned (pins_at s p - 1)) p s
effect maker (Unpin p content) s = put_in Dirty p (give_slots p (queue_dirty p s))
effect maker (UnpinRefused p) s = s
effect maker (Extract p f) s = end_page p (put_buffer f (record { client = (page_at s p).client; blocks = (page_at s p).blocks }) s)
effect maker (Destroy p) s = end_page p (unqueue p s)
effect maker (Alloc f client blocks) s = put_buffer f (record { client = client; blocks = blocks }) s
effect maker (Free f) s = record s { buffers = remove s.buffers f }
effect maker (MoveBuffer f to) s = put_buffer f (record (buffer_at s f) { client = to }) s
effect maker (StartWrite p) s = put_flying maker p (unqueue p s)
effect maker (WriteOk p) s = put_in Clean p (queue_clean p s)
effect maker (WriteFailed p before after) s = put_in Dirty p (queue_dirty p (note_failure p s))
effect maker (Evict p) s = put_in Evicted p (unqueue p s)
effect maker (Refused call entry) s = s

-- an entry was counted; the count stays at the greatest u64
abbrev pub count_entry : State → State
count_entry s = record s { entries = shown (s.entries + 1) }

-- the state after an entry
abbrev pub after : State → Entry → State
after s e = count_entry (effect e.maker e.event s)
