-- A page of the session is written or loaded while the value isn't in hand, and comes back.
use Rattle.std.specs.Prelude.{◌≡◌, ◌≢◌, ◌<◌, ℕ, List, [], ◌∷◌, ◌++◌, Bool, true, Some, length}
use Rattle.std.specs.List.{sum_by}
use Rattle.outside.specs.declared.slot.Slot.{Ghosts}
use Rattle.block_arena.specs.Memory.{Buffer, IsBufferOf, block_of}
use Rattle.reservation_tree.specs.declared.errors.PoolErr.{PoolErr}
use Rattle.reservation_tree.specs.declared.errors.PoolErr.TheVariants.{ReadFault, Stale}
use Rattle.pool_model.specs.declared.event.Event.{Event}
use Rattle.pool_model.specs.declared.event.Event.TheVariants.{ReadOk, ReadFailed, ReadStale}
use Rattle.pool_model.specs.declared.entry.Entry.{Entry}
use Rattle.pool_model.specs.State.{Opening, page_at, shown}
use Rattle.pool_model.specs.declared.call.Call.TheVariants.{Pin}
use Rattle.pool_model.specs.Failures.{is_for_own, failures_in}
use Rattle.pool_model.specs.Refusals.{FailedToLoad}
use Rattle.pool_model.specs.LookingBack.{content_from}
use Rattle.pool_model.specs.StoredBlocks.{IsStored, version_of}
use Rattle.pin_core.specs.declared.jobs.ReadJob.{ReadJob}
use Rattle.pin_core.specs.declared.jobs.WriteJob.{WriteJob}
use Rattle.pin_core.specs.Marking.{front_of}
use Rattle.pin_core.specs.StateOf.{state_of}
use Rattle.pin_core.specs.Standing.{AreHeld}
use Rattle.pin_core.specs.Tallies.{silence, tally_of}
use Rattle.pin_core.specs.calls.Jobs.{IsReadJob, IsWriteJob}
use Rattle.pin_core.specs.calls.Returning.{read_ends}
use Rattle.session_calls.specs.Outgoing.{no_tally, tally_or}
use Rattle.session_calls.specs.Writing.{IsEnd}
use Rattle.session_calls.specs.declared.hand.Hand.{Hand}
use Rattle.session_calls.specs.declared.jobs.Unread.{Unread}
use Rattle.session_calls.specs.declared.count.Count.{Count}
use Rattle.session_calls.specs.Doing.{Does}

-- the event that ends a load of this page with this error: a read failed, which this entry tells, or gave another mark than
-- the wanted one
abbrev pub EndsWith : ℕ → ℕ → PoolErr → Event → Type 0
EndsWith p entry (ReadFault failure) end = (before now : ℕ) × (failure ≡ entry) × (end ≡ ReadFailed p before now)
EndsWith p entry (Stale wanted found) end = (found ≢ wanted) × (end ≡ ReadStale p wanted found)
EndsWith p entry _ end = ⊥

-- the same of an error with its entry
abbrev pub IsBadEnd : ℕ → Unread → Event → Type 0
IsBadEnd p e end = EndsWith p e.entry e.err end

module _ {D : Type 0} where
  -- between two histories that it had in hand the session did what this says, whatever others did; and counts came
  -- behind those that there were
  pub record DoesIn (P : List Event → Type 0) (old new : Hand D) : Type 0 where
    pub session : new.session ≡ old.session
    pub went : List Count
    pub counts : new.counts ≡ old.counts ++ went
    pub does : Does old.session P old.trail new.trail

  -- the job is to write a page of the session, with what it left there last; the slots count what they did when they
  -- went out, and tell, where that is said
  pub record CanWrite (slot : Ghosts D) (told : Bool) (job : WriteJob D) (hand : Hand D) : Type 0 where
    pub is : IsWriteJob (state_of hand.state) job
    pub by : job.who ≡ hand.session
    pub whose : (page_at (state_of hand.state) job.id.name).session ≡ hand.session
    pub content : job.buf.bytes ≡ content_from job.id.name [] hand.trail
    pub counts : tally_or no_tally job.id.name hand.counts ≡ tally_of slot job.row
    pub tell : told ≡ true → sum_by (silence slot) job.row ≡ 0

  -- the write ended, well or not
  pub record Wrote (job : WriteJob D) (old new : Hand D) : Type 0 where
    pub end : Event
    pub ended : IsEnd job.id.name end
    pub did : DoesIn (λ events. events ≡ end ∷ []) old new

  -- the job is to load a page of the session, from slots that hold what it left there last, and count what they did
  -- when they went out
  pub record CanRead (slot : Ghosts D) (told : Bool) (job : ReadJob D) (hand : Hand D) : Type 0 where
    pub is : IsReadJob (state_of hand.state) job
    pub whose : (page_at (state_of hand.state) job.id.name).session ≡ hand.session
    pub held : AreHeld slot job.under job.id.name (state_of hand.state).block_len job.row (content_from job.id.name [] hand.trail)
    pub whole : length (content_from job.id.name [] hand.trail) ≡ length job.buf.bytes
    pub counts : tally_or no_tally job.id.name hand.counts ≡ tally_of slot job.row
    pub tell : told ≡ true → sum_by (silence slot) job.row ≡ 0

  -- the entry of this maker that tells how the job's load ended, with the sums of faults before and after
  abbrev pub ended_load : ℕ → ReadJob D → ℕ → ℕ → Entry
  ended_load m job before now = record { maker = m; event = read_ends job.failed job.stale job.id.name before now }

  -- blocks have marks, fewer entries stand than the greatest u64, and each block of the buffer is stored in this pool, behind
  -- the mark that the job wants
  pub record AreStored (o : Opening) (job : ReadJob D) (buf : Buffer) (h : List Entry) : Type 0 where
    pub version : ℕ
    pub under : job.under ≡ Some version
    pub few : length h < 18446744073709551615
    pub blocks : (i : ℕ) → i < length job.row → IsStored o h (front_of job.under job.id.name i ++ block_of buf i)

  -- the page is pinned with this buffer. It shows what was left, where slots tell, and where its blocks are stored in this
  -- pool; where blocks have marks, those wanted were that of the page's last write that ended well
  pub record IsRead (o : Opening) (told : Bool) (job : ReadJob D) (buf : Buffer) (old new : Hand D) : Type 0 where
    pub did : DoesIn (λ events. events ≡ ReadOk job.id.name ∷ []) old new
    pub fits : IsBufferOf (page_at (state_of old.state) job.id.name).blocks (state_of old.state).block_len buf
    pub shows : told ≡ true → buf.bytes ≡ content_from job.id.name [] old.trail
    pub stored : AreStored o job buf new.trail → buf.bytes ≡ content_from job.id.name [] old.trail
    pub version : (began : ℕ) → o.marked ≡ true → version_of new.trail job.id.name ≡ Some began → job.under ≡ Some (shown began)

  -- the page is evicted again, and the pin may be refused by the entry that tells why; a failure was counted where a load
  -- failed
  pub record IsUnread (job : ReadJob D) (e : Unread) (old new : Hand D) : Type 0 where
    pub end : Event
    pub ended : IsBadEnd job.id.name e end
    pub did : DoesIn (λ events. events ≡ end ∷ []) old new
    pub failed : FailedToLoad new.trail new.session (Pin job.id.name) e.entry
    pub rose : e.err ≡ ReadFault e.entry
        → failures_in (is_for_own old.session job.client) old.trail < failures_in (is_for_own old.session job.client) new.trail
