-- Every entry that may follow keeps a sound state sound, so every legal history does.
use Rattle.std.proofs.Common.{ℕ, Some, None, List, [], ◌∷◌, ◌++◌}
use Rattle.std.specs.FinMap.{get}
use Rattle.reservation_tree.specs.Tracker.{IsLive}
use Rattle.reservation_tree.specs.Change.{lacking}
use Rattle.reservation_tree.proofs.Maps.{is_there}
use Rattle.pool_model.specs.declared.event.Event.{Event}
use Rattle.pool_model.specs.declared.event.Event.TheVariants.{Ask, AddTracker, CloseTracker, Increase, IncreaseToFit, Decrease, MoveReservation, Create, PinHere, PinLoad, ReadOk, ReadFailed, ReadStale, PinAgain, UnpinOnce, Unpin, UnpinRefused, Extract, Destroy, Alloc, Free, MoveBuffer, StartWrite, WriteOk, WriteFailed, Evict, Refused}
use Rattle.pool_model.specs.declared.entry.Entry.{Entry}
use Rattle.pool_model.specs.State.{opened, State}
use Rattle.pool_model.specs.Sums.{charge_of}
use Rattle.pool_model.specs.Owning.{IsTrackerOf}
use Rattle.pool_model.specs.MayFollow.{Allows, MayFollow}
use Rattle.pool_model.specs.Effects.{effect, after}
use Rattle.pool_model.specs.Legal.{run, Follow, state_after}
use Rattle.pool_model.specs.Sound.{IsSound}
use Rattle.pool_model.specs.PoolLaws.{LegalFitsTrackers, LegalFitsClients, LegalFitsPages, LegalFitsMemory, LegalFindsRoom, LegalIsSound}
use Rattle.pool_model.proofs.Fits.{fits_tree, fits_clients, fits_pages, in_memory, finds_room}
use Rattle.pool_model.proofs.Growing.{grow_sound, shrink_sound, move_sound}
use Rattle.pool_model.proofs.Seats.{IsBelow, is_below}
use Rattle.pool_model.proofs.Coming.{add_sound, open_sound, forget_sound}
use Rattle.pool_model.proofs.Going.{close_sound}
use Rattle.pool_model.proofs.Opened.{opened_sound}
use Rattle.pool_model.proofs.Pages.{counted_sound}
use Rattle.pool_model.proofs.Events.{pin_here, pin_load, read_ok, read_failed, read_stale, pin_again, unpin_once, unpin, destroy, start_write, write_ok, write_failed, evict}
use Rattle.pool_model.proofs.Blocks.{create_sound, alloc_sound}
use Rattle.pool_model.proofs.Loans.{move_buffer_sound, free_sound, extract_sound}

pub own_live : (s : State) → IsSound s → (maker t : ℕ) → IsTrackerOf s maker t → IsLive s.trackers t
own_live s sound maker t own = let below : IsBelow s maker t = is_below s sound.seated maker t own in is_there (get s.trackers t) below.tracker below.lives

-- an event that is allowed keeps a state sound
event_sound : (before : List Entry) (s : State) → IsSound s → (maker : ℕ) (event : Event) → Allows before s maker event → IsSound (effect maker event s)
event_sound before s sound maker Ask may = forget_sound s sound maker
event_sound before s sound maker (AddTracker t parent limit (Some quota)) may = open_sound s sound maker t limit quota may.fresh may.none
event_sound before s sound maker (AddTracker t parent limit None) may = add_sound s sound maker t parent limit may
event_sound before s sound maker (CloseTracker t) may = close_sound s sound maker t may
event_sound before s sound maker (Increase t bytes) may = grow_sound s sound t bytes (own_live s sound maker t may.own) may.fits
event_sound before s sound maker (IncreaseToFit t bytes) may = grow_sound s sound t (lacking (charge_of s) bytes t s.trackers) (own_live s sound maker t may.own) may.fits
event_sound before s sound maker (Decrease t bytes) may = shrink_sound s sound t bytes (own_live s sound maker t may.own) may.spare
event_sound before s sound maker (MoveReservation from to bytes) may = move_sound s sound from to bytes (own_live s sound maker from may.own) (own_live s sound maker to may.own_to) may.spare may.fits
event_sound before s sound maker (Create p client blocks key) may = create_sound s sound maker p client blocks key may
event_sound before s sound maker (PinHere p) may = pin_here s sound maker p may
event_sound before s sound maker (PinLoad p) may = pin_load s sound maker p may
event_sound before s sound maker (ReadOk p) may = read_ok s sound maker p may
event_sound before s sound maker (ReadFailed p sum_before sum_after) may = read_failed s sound maker p may.ends
event_sound before s sound maker (ReadStale p wanted found) may = read_stale s sound maker p may.ends
event_sound before s sound maker (PinAgain p) may = pin_again s sound maker p may
event_sound before s sound maker (UnpinOnce p) may = unpin_once s sound maker p may
event_sound before s sound maker (Unpin p content) may = unpin s sound maker p content may
event_sound before s sound maker (UnpinRefused p) may = sound
event_sound before s sound maker (Extract p f) may = extract_sound s sound maker p f may
event_sound before s sound maker (Destroy p) may = destroy s sound maker p may
event_sound before s sound maker (Alloc f client blocks) may = alloc_sound s sound maker f client blocks may
event_sound before s sound maker (Free f) may = free_sound s sound maker f may
event_sound before s sound maker (MoveBuffer f to) may = move_buffer_sound s sound maker f to may
event_sound before s sound maker (StartWrite p) may = start_write s sound maker p may
event_sound before s sound maker (WriteOk p) may = write_ok s sound maker p may
event_sound before s sound maker (WriteFailed p sum_before sum_after) may = write_failed s sound maker p may.ends
event_sound before s sound maker (Evict p) may = evict s sound maker p may
event_sound before s sound maker (Refused call entry) may = sound

pub entry_sound : (before : List Entry) (s : State) → IsSound s → (e : Entry) → MayFollow before s e → IsSound (after s e)
entry_sound before s sound e may = counted_sound (effect e.maker e.event s) (event_sound before s sound e.maker e.event may.allows)

pub run_sound : (before : List Entry) (s : State) → IsSound s → (es : List Entry) → Follow before s es → IsSound (run s es)
run_sound before s sound [] legal = sound
run_sound before s sound (e ∷ es) legal = run_sound (before ++ e ∷ []) (after s e) (entry_sound before s sound e legal.0) es legal.1

-- what each legal history keeps, and what follows from it
pub legal_sound : LegalIsSound
legal_sound o h legal = run_sound [] (opened o) (opened_sound o) h legal

pub legal_fits_trackers : LegalFitsTrackers
legal_fits_trackers o h legal = fits_tree (state_after o h) (legal_sound o h legal)

pub legal_fits_clients : LegalFitsClients
legal_fits_clients o h legal = fits_clients (state_after o h) (legal_sound o h legal)

pub legal_fits_pages : LegalFitsPages
legal_fits_pages o h legal = fits_pages (state_after o h) (legal_sound o h legal)

pub legal_fits_memory : LegalFitsMemory
legal_fits_memory o h legal = in_memory (state_after o h) (legal_sound o h legal)

pub legal_finds_room : LegalFindsRoom
legal_finds_room o h legal = finds_room (state_after o h) (legal_sound o h legal)
