-- A page comes back from its load.
use Rattle.std.proofs.Common.{◌≡◌, ◌↔◌, ℕ, ◌+◌, ◌<◌, ◌≤◌, ◌==◌, List, [], ◌∷◌, ◌++◌, map, length, length-append, Bool, true, false, if◌then◌else◌, Option, Some, None, unwrap_or, Result, Ok, Err, IsErr, is_err, IfOk, IfErr, refl, sym, ap, ◌∙◌, subst, arith, inl, inr, eq-eqb}
use Rattle.std.proofs.lemmas.Bool.{false≢true, and_from}
use Rattle.std.specs.FinMap.{get}
use Rattle.std.specs.List.{slice_index_or, sum_by}
use Rattle.outside.specs.Slots.{KeepsStrays}
use Rattle.outside.specs.declared.slot.Slot.{Ghosts}
use Rattle.block_arena.specs.Memory.{Buffer, IsBufferOf, block_of}
use Rattle.reservation_tree.specs.declared.errors.PoolErr.{PoolErr}
use Rattle.reservation_tree.specs.declared.errors.PoolErr.TheVariants as fault
use Rattle.reservation_tree.specs.declared.errors.PoolErr.TheVariants.{ReadFault}
use Rattle.scratch_dev.specs.Rows.{faults_of, CountsStores}
use Rattle.pool_model.specs.declared.event.Event.{Event}
use Rattle.pool_model.specs.declared.event.Event.TheVariants.{ReadOk, ReadFailed, ReadStale, StartWrite}
use Rattle.pool_model.specs.declared.entry.Entry.{Entry}
use Rattle.pool_model.specs.State.{Opening, Page, State, opened, page_at, shown}
use Rattle.pool_model.specs.LookingBack.{is_ask, opens, content_of, content_from, maker_of}
use Rattle.pool_model.specs.StoredBlocks.{IsStored, WasWritten, Writes, is_on_scratch, is_written, version_of}
use Rattle.pool_model.specs.HistoryLaws.{made}
use Rattle.pool_model.specs.Failures.{is_for_own, failures_in, fails_read, last_failed_read}
use Rattle.pool_model.specs.ScratchRows.{IsFault}
use Rattle.pool_model.specs.MayFollow.{MayFollow}
use Rattle.pool_model.specs.Effects.{after}
use Rattle.pool_model.proofs.Made.{legal_pages_as_made}
use Rattle.pool_model.proofs.Names.{counts_entries}
use Rattle.pool_model.proofs.Rising.{failures_grow}
use Rattle.pool_model.proofs.Written.{legal_versions_are_told, writes_more}
use Rattle.store_api.specs.Entries.{by}
use Rattle.pin_core.specs.declared.jobs.ReadJob.{ReadJob}
use Rattle.pin_core.specs.declared.jobs.Stale.{Stale}
use Rattle.pin_core.specs.Marking.{front_of, under_of}
use Rattle.pin_core.specs.StateOf.{state_of}
use Rattle.pin_core.specs.Standing.{AreHeld, StandsFor, slots_home}
use Rattle.pin_core.specs.calls.Runs.{AllGiveHeld, AllTell, CountsFaults, CountsStrays, IfFoundOther, after_loads, is_sure}
use Rattle.pin_core.specs.calls.Jobs.{IsReadJob}
use Rattle.pin_core.specs.calls.Returning.{EntersWhere, ended_badly, read_ends, read_entry, read_refusal, stale_loads, IsRead as HoldsContent}
use Rattle.pin_core.specs.Tallies.{Counted, all_failures, all_stale, silence, tally_by}
use Rattle.pin_core.proofs.Tallied.{came_back, same_silence, same_stores}
use Rattle.session_calls.proofs.Silent.{none_silent, none_strayed}
use Rattle.session_calls.specs.declared.hand.Hand.{Hand}
use Rattle.session_calls.specs.Moving.{slots_out, keeps_seats}
use Rattle.session_calls.specs.Ready.{StandsWhole}
use Rattle.session_calls.specs.Having.{Sight, sight_of, MayGive, Taken}
use Rattle.session_calls.specs.Jobs.{DoesIn, CanRead, EndsWith, IsRead, IsUnread}
use Rattle.session_calls.proofs.Counting.{is_stored_by, unstored}
use Rattle.session_calls.proofs.Out.{back_outdated, back_read, back_unread}
use Rattle.session_calls.proofs.Lasts.{IsInJob}
use Rattle.session_calls.proofs.Failing.{failed_last, failed_counts}
use Rattle.session_calls.proofs.Outgoing.{EndsJob}
use Rattle.session_calls.proofs.Sized.{run_marked}
use Rattle.session_calls.proofs.Stored.{stored_before}
use Rattle.session_calls.proofs.Returned.{grew, same_len, same_marked, same_there, same_page, same_tally, content_mid, came_quotas, came_whole, did, worked}

-- what is so of the end of a load, well or not
module _ (p before now : ℕ) where
  ends_job : (b : Bool) (stale : Option Stale) → EndsJob p (read_ends b stale p before now)
  ends_job true stale = refl
  ends_job false (Some marks) = refl
  ends_job false None = refl

  keeps : (b : Bool) (stale : Option Stale) → keeps_seats (read_ends b stale p before now) ≡ true
  keeps true stale = refl
  keeps false (Some marks) = refl
  keeps false None = refl

  goes_on : (b : Bool) (stale : Option Stale) → opens (read_ends b stale p before now) ≡ false
  goes_on true stale = refl
  goes_on false (Some marks) = refl
  goes_on false None = refl

  comes_back : (b : Bool) (stale : Option Stale) (h : List Entry) (s : State) (m : ℕ) → MayFollow h s (record { maker = m; event = read_ends b stale p before now })
      → slots_out (after s (record { maker = m; event = read_ends b stale p before now })).pages + (page_at s p).blocks ≡ slots_out s.pages
  comes_back true stale h s m may = back_unread (λ p b. b) h s m p before now may
  comes_back false (Some marks) h s m may = back_outdated (λ p b. b) h s m p marks.wanted marks.found may
  comes_back false None h s m may = back_read (λ p b. b) h s m p may

  never_stored : (b : Bool) (stale : Option Stale) → is_stored_by (read_ends b stale p before now) ≡ false
  never_stored true stale = refl
  never_stored false (Some marks) = refl
  never_stored false None = refl

  is_no_ask : (b : Bool) (stale : Option Stale) → is_ask (read_ends b stale p before now) ≡ false
  is_no_ask true stale = refl
  is_no_ask false (Some marks) = refl
  is_no_ask false None = refl

  starts_none : (b : Bool) (stale : Option Stale) (q : ℕ) → read_ends b stale p before now ≡ StartWrite q → ⊥
  starts_none true stale q same = let never : ReadFailed p before now ≡ StartWrite q = same in cc
  starts_none false (Some marks) q same = let never : ReadStale p marks.wanted marks.found ≡ StartWrite q = same in cc
  starts_none false None q same = let never : ReadOk p ≡ StartWrite q = same in cc

  -- without a failure the sums stand nowhere
  same_sums : (stale : Option Stale) → read_ends false stale p 0 1 ≡ read_ends false stale p before now
  same_sums (Some marks) = refl
  same_sums None = refl

  -- a bad end is the last read of its page that ended badly
  fails_to_load : (b : Bool) (stale : Option Stale) → ended_badly b stale ≡ true → fails_read p (read_ends b stale p before now) ≡ true
  fails_to_load true stale bad = eq-eqb p p refl
  fails_to_load false (Some marks) bad = eq-eqb p p refl
  fails_to_load false None bad = absurd (false≢true bad)

  -- and tells the error
  ends_with : (b : Bool) (stale : Option Stale) (under : Option ℕ) (count entry : ℕ) (err : PoolErr) → ended_badly b stale ≡ true → IfFoundOther under p count stale → err ≡ read_refusal b stale entry
      → EndsWith p entry err (read_ends b stale p before now)
  ends_with true stale under count entry err bad found cause = subst (λ (e : PoolErr). EndsWith p entry e (ReadFailed p before now)) (sym cause) (before, now, refl, refl)
  ends_with false (Some marks) under count entry err bad found cause = subst (λ (e : PoolErr). EndsWith p entry e (ReadStale p marks.wanted marks.found)) (sym cause) (found.other, refl)
  ends_with false None under count entry err bad found cause = absurd (false≢true bad)

-- the error of a failure is that of no other mark
fault_failed : (b : Bool) (stale : Option Stale) (entry : ℕ) → ended_badly b stale ≡ true → read_refusal b stale entry ≡ ReadFault entry → b ≡ true
fault_failed true stale entry bad same = refl
fault_failed false (Some marks) entry bad same = let never : fault.Stale marks.wanted marks.found ≡ ReadFault entry = same in cc
fault_failed false None entry bad same = absurd (false≢true bad)

-- a load that didn't end badly
well : (b : Bool) (stale : Option Stale) → (ended_badly b stale ≡ true → ⊥) → (b ≡ false) × (stale ≡ None)
well true stale good = absurd (good refl)
well false (Some marks) good = absurd (good refl)
well false None good = (refl, refl)

-- a failure raised the count of faults, and another mark that of strays
row_counts : {D : Type 0} (slot : Ghosts D) (home : (D → ℕ) → ℕ) (was row : List D) (m p before now : ℕ) → sum_by (silence slot) row ≡ sum_by (silence slot) was → length row ≡ length was
    → faults_of slot was ≤ faults_of slot row → CountsStores slot 0 was row → (b : Bool) (stale : Option Stale) → CountsFaults slot (if b then 1 else 0) was row → CountsStrays slot (stale_loads b stale) was row
    → Counted (all_failures (by m (read_ends b stale p before now ∷ []))) 0 (all_stale (by m (read_ends b stale p before now ∷ []))) (tally_by slot (λ measure. home measure + sum_by measure was)) (tally_by slot (λ measure. home measure + sum_by measure row))
row_counts slot home was row m p before now silent len fall stores true stale faults strays = came_back slot home was row 1 0 0 fall faults stores strays silent len
row_counts slot home was row m p before now silent len fall stores false (Some marks) faults strays = came_back slot home was row 0 0 1 fall faults stores strays silent len
row_counts slot home was row m p before now silent len fall stores false None faults strays = came_back slot home was row 0 0 0 fall faults stores strays silent len

-- what a job found is the same of it after its loads
pub still_found : {D : Type 0} (job ran : ReadJob D) → ran ≡ after_loads ran.buf.bytes ran.row ran.failed ran.stale job → length ran.row ≡ length job.row
    → IfFoundOther job.under job.id.name (length job.row) ran.stale → IfFoundOther ran.under ran.id.name (length ran.row) ran.stale
still_found {D} job ran rest len found =
    subst (λ (n : ℕ). IfFoundOther ran.under ran.id.name n ran.stale) (sym len)
    (subst (λ (j : ReadJob D). IfFoundOther j.under j.id.name (length job.row) ran.stale) (sym rest) found)

module _ {D : Type 0} (slot : Ghosts D) (o : Opening) (told : Bool) (old mid : Hand D) (stood : StandsWhole slot o told old.trail old.counts old.state)
    (before now : Sight) (seen : before ≡ sight_of old) (taken : Taken slot o told old.session before now mid)
    (job ran : ReadJob D) (can : CanRead slot told job old) (rest : ran ≡ after_loads ran.buf.bytes ran.row ran.failed ran.stale job)
    (bytes : length ran.buf.bytes ≡ length job.buf.bytes) (len : length ran.row ≡ length job.row) where
  abbrev s : State
  s = state_of old.state

  abbrev t : State
  t = state_of mid.state

  abbrev left : List ℕ
  left = content_from job.id.name [] old.trail

  loads : IsInJob old.session (page_at s job.id.name)
  loads = inr (can.is.loads, can.whose)

  name_is : ran.id.name ≡ job.id.name
  name_is = ap (λ (j : ReadJob D). j.id.name) rest

  there : get t.pages job.id.name ≡ Some (page_at s job.id.name)
  there = same_there slot o told old mid stood before now seen taken job.id.name can.is.lives loads

  page : page_at t job.id.name ≡ page_at s job.id.name
  page = same_page slot o told old mid stood before now seen taken job.id.name can.is.lives loads

  -- the job is that of the page still
  pub still_reads : IsReadJob t ran
  still_reads = subst (IsReadJob t) (sym rest) (record {
    lives = there ∙ ap Some (sym page);
    key = ap (λ (x : Page). x.key) page ∙ can.is.key;
    loads = ap (λ (x : Page). x.place) page ∙ can.is.loads;
    client = ap (λ (x : Page). x.client) page ∙ can.is.client;
    under =
        can.is.under ∙ ap (λ (b : Bool). under_of b (page_at s job.id.name).version) (sym (same_marked slot o told old mid stood before now seen taken))
        ∙ ap (λ (x : Page). under_of t.marked x.version) (sym page);
    buffer =
        let size : t.block_len ≡ s.block_len = same_len slot o told old mid stood before now seen taken in
        subst (λ (x : Page). IsBufferOf x.blocks t.block_len (record job.buf { bytes = ran.buf.bytes })) (sym page)
        (subst (λ (n : ℕ). IsBufferOf (page_at s job.id.name).blocks n (record job.buf { bytes = ran.buf.bytes })) (sym size)
        (record { blocks = can.is.buffer.blocks; block_len = can.is.buffer.block_len; whole = bytes ∙ can.is.buffer.whole }));
    slots = len ∙ can.is.slots ∙ ap (λ (x : Page). x.blocks) (sym page);
  })

  module _ (new : Hand D) (sum : ℕ) (is : sum ≡ faults_of slot job.row)
      (held : (size : ℕ) (bytes : List ℕ) → AreHeld slot job.under job.id.name size job.row bytes → AreHeld slot job.under job.id.name size ran.row bytes)
      (failed : ran.failed ≡ true → IsFault (faults_of slot job.row) (faults_of slot ran.row))
      (enters : (before now : ℕ) → IsFault before now → EntersWhere slot (HoldsContent slot t.block_len ran) (read_entry t ran before now) ran.row mid.state new.state)
      (trail : new.trail ≡ mid.trail ++ by old.session (read_ends ran.failed ran.stale ran.id.name sum (faults_of slot ran.row) ∷ [])) (none_out : new.counts ≡ mid.counts) (session : new.session ≡ mid.session) where
    abbrev faults : ℕ
    faults = faults_of slot ran.row

    abbrev end : Event
    end = read_ends ran.failed ran.stale ran.id.name sum faults

    abbrev e : Entry
    e = record { maker = old.session; event = end }

    holds : HoldsContent slot t.block_len ran o mid.trail
    holds =
        subst (λ (j : ReadJob D). AreHeld slot j.under j.id.name t.block_len ran.row (content_of o mid.trail j.id.name)) (sym rest)
        (subst (AreHeld slot job.under job.id.name t.block_len ran.row)
        (sym (content_mid slot o told old mid stood before now seen taken job.id.name can.is.lives loads))
        (held t.block_len left (subst (λ (n : ℕ). AreHeld slot job.under job.id.name n job.row left) (sym (same_len slot o told old mid stood before now seen taken)) can.held)))

    entry_is : read_entry t ran sum faults ≡ e
    entry_is = ap (λ (m : ℕ). record { maker = m; event = end }) (ap (λ (j : ReadJob D). (page_at t j.id.name).session) rest ∙ ap (λ (x : Page). x.session) page ∙ can.whose)

    any_sums : ran.failed ≡ false → read_entry t ran 0 1 ≡ read_entry t ran sum faults
    any_sums whole =
        let made : Event → Entry = λ event. record { maker = (page_at t ran.id.name).session; event = event } in
        ap (λ (b : Bool). made (read_ends b ran.stale ran.id.name 0 1)) whole
        ∙ ap made (same_sums ran.id.name sum faults ran.stale)
        ∙ sym (ap (λ (b : Bool). made (read_ends b ran.stale ran.id.name sum faults)) whole)

    enters_so : EntersWhere slot (HoldsContent slot t.block_len ran) e ran.row mid.state new.state
    enters_so = subst (λ (d : Entry). EntersWhere slot (HoldsContent slot t.block_len ran) d ran.row mid.state new.state) entry_is
        (elim ran.failed as (λ b. ran.failed ≡ b → EntersWhere slot (HoldsContent slot t.block_len ran) (read_entry t ran sum faults) ran.row mid.state new.state) [
          | true ↦ λ bad. enters sum faults (subst (λ (n : ℕ). IsFault n faults) (sym is) (failed bad))
          | false ↦ λ whole. subst (λ (d : Entry). EntersWhere slot (HoldsContent slot t.block_len ran) d ran.row mid.state new.state) (any_sums whole) (enters 0 1 (inl (omega arith)))
        ] refl)

    pub may_give_loaded : map (is_sure slot) ran.row ≡ map (is_sure slot) job.row → faults_of slot job.row ≤ faults_of slot ran.row → CountsFaults slot (if ran.failed then 1 else 0) job.row ran.row
        → map slot.stores ran.row ≡ map slot.stores job.row
        → ((bytes : List ℕ) → length bytes ≡ length job.buf.bytes → AreHeld slot job.under job.id.name job.buf.block_len job.row bytes → CountsStrays slot (stale_loads ran.failed ran.stale) job.row ran.row) → MayGive slot o told now new
    may_give_loaded tells fall more stores strayed = record {
      worked = worked slot o told old mid stood before now seen taken new end trail none_out session (goes_on ran.id.name sum faults ran.failed ran.stale)
          (came_quotas slot o told mid new taken.whole old.session end trail none_out ran.row job.row (HoldsContent slot t.block_len ran) enters_so holds (keeps ran.id.name sum faults ran.failed ran.stale));
      whole =
          came_whole slot o told mid new taken.whole old.session end trail none_out ran.row job.row (HoldsContent slot t.block_len ran) enters_so holds
          (λ may. subst (λ (n : ℕ). slots_out (after t e).pages + n ≡ slots_out t.pages) (sym still_reads.slots) (comes_back ran.id.name sum faults ran.failed ran.stale mid.trail t old.session may))
          (same_silence slot ran.row job.row tells) can.tell
          job.id.name (subst (λ (p : ℕ). EndsJob p end) name_is (ends_job ran.id.name sum faults ran.failed ran.stale))
          (same_tally slot o told old mid stood before now seen taken job.id.name can.is.lives loads ∙ can.counts)
          (subst
          (λ (n : ℕ). Counted (all_failures (e ∷ [])) n (all_stale (e ∷ [])) (tally_by slot (λ measure. slots_home measure mid.state + sum_by measure job.row)) (tally_by slot (λ measure. slots_home measure mid.state + sum_by measure ran.row)))
          (sym (unstored (mid.trail ++ by old.session (end ∷ [])) old.session end (never_stored ran.id.name sum faults ran.failed ran.stale)))
          (row_counts slot (λ measure. slots_home measure mid.state) job.row ran.row old.session ran.id.name sum faults (same_silence slot ran.row job.row tells) len fall (same_stores slot job.row ran.row (sym stores)) ran.failed ran.stale more
          (strayed left can.whole (subst (λ (n : ℕ). AreHeld slot job.under job.id.name n job.row left) (sym can.is.buffer.block_len) can.held))));
    }

    -- the session did this, by what the end is
    did_so : (event : Event) → end ≡ event → DoesIn (λ events. events ≡ event ∷ []) old new
    did_so event same =
        subst (λ (f : Event). DoesIn (λ events. events ≡ f ∷ []) old new) same
        (did slot o told old mid stood before now seen taken new end trail none_out session (goes_on ran.id.name sum faults ran.failed ran.stale))

    came_read : ((i : ℕ) (d : D) → i < length job.row → KeepsStrays (slot.strays (slice_index_or job.row i d)) (slot.strays (slice_index_or ran.row i d)))
        → (AllTell slot job.row → AllGiveHeld slot job.row ran.row → (bytes : List ℕ) → length bytes ≡ length job.buf.bytes → AreHeld slot job.under job.id.name job.buf.block_len job.row bytes → ran.buf.bytes ≡ bytes)
        → (ran.failed ≡ false) × (ran.stale ≡ None) → (buf : Buffer) → buf ≡ ran.buf
        → ((version : ℕ) → ran.under ≡ Some version → (p : Opening) (h : List Entry) → StandsFor slot p h mid.state → length h < 18446744073709551615
        → ((i : ℕ) → i < length ran.row → IsStored p h (front_of ran.under ran.id.name i ++ block_of ran.buf i)) → buf.bytes ≡ content_of p h ran.id.name)
        → IsRead o told job buf old new
    came_read strays shows whole buf same content =
        let event_is : end ≡ ReadOk job.id.name =
        ap (λ (b : Bool). read_ends b ran.stale ran.id.name sum faults) whole.0 ∙ ap (λ (stale : Option Stale). read_ends false stale ran.id.name sum faults) whole.1 ∙ ap (λ (p : ℕ). ReadOk p) name_is in
        let here : buf ≡ record job.buf { bytes = ran.buf.bytes } = same ∙ ap (λ (j : ReadJob D). j.buf) rest in
        record {
          did = did_so (ReadOk job.id.name) event_is;
          fits = subst (IsBufferOf (page_at s job.id.name).blocks s.block_len) (sym here) (record { blocks = can.is.buffer.blocks; block_len = can.is.buffer.block_len; whole = bytes ∙ can.is.buffer.whole });
          shows = λ all.
              ap (λ (b : Buffer). b.bytes) same
              ∙ shows (none_silent slot job.row (can.tell all)) (none_strayed slot job.row ran.row (can.tell all) strays) left can.whole
              (subst (λ (n : ℕ). AreHeld slot job.under job.id.name n job.row left) (sym can.is.buffer.block_len) can.held);
          stored = λ is.
              let under : ran.under ≡ job.under = ap (λ (j : ReadJob D). j.under) rest in
              let longer : length new.trail ≡ length mid.trail + 1 = ap length trail ∙ length-append mid.trail (e ∷ []) in
              content is.version (under ∙ is.under) o mid.trail taken.whole.stands (let few = is.few in omega (arith, few, longer))
              (λ i inside.
              subst (λ (j : ReadJob D). IsStored o mid.trail (front_of j.under j.id.name i ++ block_of ran.buf i)) (sym rest)
              (subst (λ (b : Buffer). IsStored o mid.trail (front_of job.under job.id.name i ++ block_of b i)) same
              (stored_before o mid.trail e (starts_none ran.id.name sum faults ran.failed ran.stale) (front_of job.under job.id.name i ++ block_of buf i)
              (subst (λ (h : List Entry). IsStored o h (front_of job.under job.id.name i ++ block_of buf i)) trail (is.blocks i (omega (arith, inside, len)))))))
              ∙ ap (content_of o mid.trail) name_is ∙ content_mid slot o told old mid stood before now seen taken job.id.name can.is.lives loads;
          version = λ began marked ended.
              let x : Page = page_at s job.id.name in
              let w : WasWritten o mid.trail job.id.name x.place x.version (made x) =
              legal_versions_are_told o mid.trail taken.whole.stands.legal job.id.name x (ap (λ (u : State). get u.pages job.id.name) (sym taken.whole.stands.state) ∙ there) (ap is_on_scratch can.is.loads) in
              let same_writes : version_of new.trail job.id.name ≡ version_of mid.trail job.id.name =
              ap (λ (h : List Entry). version_of h job.id.name) (trail ∙ ap (λ (f : Event). mid.trail ++ by old.session (f ∷ [])) event_is)
              ∙ ap (λ (writes : Writes). writes.ended) (writes_more job.id.name mid.trail (record { maker = old.session; event = ReadOk job.id.name })) in
              let number : began ≡ length w.before = ap (λ (n : Option ℕ). unwrap_or n 0) (sym ended ∙ same_writes ∙ w.ended (ap is_written can.is.loads)) in
              let here : s.marked ≡ true = ap (λ (u : State). u.marked) stood.stands.state ∙ run_marked (opened o) old.trail ∙ marked in
              can.is.under ∙ ap (λ (b : Bool). under_of b x.version) here ∙ ap Some (w.shows ∙ ap shown (sym number));
        }

    -- the page was made by the session, for the client
    whose : is_for_own old.session job.client (maker_of mid.trail job.id.name) ≡ true
    whose =
        let x : Page = page_at s job.id.name in
        ap (is_for_own old.session job.client)
        (legal_pages_as_made o mid.trail taken.whole.stands.legal job.id.name x (ap (λ (u : State). get u.pages job.id.name) (sym taken.whole.stands.state) ∙ there))
        ∙ and_from (x.session == old.session) (x.client == job.client) (eq-eqb x.session old.session can.whose) (eq-eqb x.client job.client can.is.client)

    came_unread : ended_badly ran.failed ran.stale ≡ true → IfFoundOther job.under job.id.name (length job.row) ran.stale → (err : PoolErr) (entry : ℕ) → entry ≡ t.entries → err ≡ read_refusal ran.failed ran.stale entry
        → IsUnread job (record { err = err; entry = entry }) old new
    came_unread bad found err entry number cause = record {
      end = end;
      ended =
          subst (λ (p : ℕ). EndsWith p entry err end) name_is
          (ends_with ran.id.name sum faults ran.failed ran.stale job.under (length job.row) entry err bad (subst (λ (p : ℕ). IfFoundOther job.under p (length job.row) ran.stale) (sym name_is) found) cause);
      did = did_so end refl;
      failed = record {
        p = job.id.name;
        is = refl;
        failure = length mid.trail;
        last =
            ap (λ (m : ℕ). last_failed_read new.trail m job.id.name) (session ∙ taken.session)
            ∙ ap (λ (h : List Entry). last_failed_read h old.session job.id.name) trail
            ∙ failed_last mid.trail old.session job.id.name end (subst (λ (p : ℕ). fails_read p end ≡ true) name_is (fails_to_load ran.id.name sum faults ran.failed ran.stale bad)) (is_no_ask ran.id.name sum faults ran.failed ran.stale);
        shows = number ∙ ap (λ (u : State). u.entries) taken.whole.stands.state ∙ counts_entries o mid.trail;
      };
      rose = λ fault.
          let broke : ran.failed ≡ true = fault_failed ran.failed ran.stale entry bad (sym cause ∙ fault) in
          let event_is : end ≡ ReadFailed job.id.name sum faults = ap (λ (b : Bool). read_ends b ran.stale ran.id.name sum faults) broke ∙ ap (λ (p : ℕ). ReadFailed p sum faults) name_is in
          let entered : new.trail ≡ mid.trail ++ by old.session (ReadFailed job.id.name sum faults ∷ []) = trail ∙ ap (λ (f : Event). mid.trail ++ by old.session (f ∷ [])) event_is in
          let w = is_for_own old.session job.client in
          let others : failures_in w old.trail ≤ failures_in w mid.trail =
          subst (λ (h : List Entry). failures_in w old.trail ≤ failures_in w h) (sym (grew slot o told old mid stood before now seen taken)) (failures_grow w refl old.trail taken.others) in
          let one : failures_in w mid.trail < failures_in w new.trail =
          subst (λ (h : List Entry). failures_in w mid.trail < failures_in w h) (sym entered) (failed_counts mid.trail old.session job.id.name sum faults w whose) in
          omega (arith, others, one);
    }

    pub is_read : ((i : ℕ) (d : D) → i < length job.row → KeepsStrays (slot.strays (slice_index_or job.row i d)) (slot.strays (slice_index_or ran.row i d)))
        → (ran.failed ≡ false → ran.stale ≡ None → AllTell slot job.row → AllGiveHeld slot job.row ran.row → (bytes : List ℕ) → length bytes ≡ length job.buf.bytes → AreHeld slot job.under job.id.name job.buf.block_len job.row bytes → ran.buf.bytes ≡ bytes)
        → (r : Result Buffer PoolErr) (buf : Buffer) → r ≡ Ok buf → IfOk r (λ b. b ≡ ran.buf) → IsErr r ↔ (ended_badly ran.failed ran.stale ≡ true)
        → ((version : ℕ) → ran.under ≡ Some version → (p : Opening) (h : List Entry) → StandsFor slot p h mid.state → length h < 18446744073709551615
        → ((i : ℕ) → i < length ran.row → IsStored p h (front_of ran.under ran.id.name i ++ block_of ran.buf i)) → IfOk r (λ b. b.bytes ≡ content_of p h ran.id.name))
        → IsRead o told job buf old new
    is_read strays shows r buf answered ok refused content =
        let whole : (ran.failed ≡ false) × (ran.stale ≡ None) = well ran.failed ran.stale (λ bad. false≢true (ap is_err (sym answered) ∙ refused.1 bad)) in
        came_read strays (shows whole.0 whole.1) whole buf (subst (λ (a : Result Buffer PoolErr). IfOk a (λ b. b ≡ ran.buf)) answered ok)
        (λ version under p h stands few stored. subst (λ (a : Result Buffer PoolErr). IfOk a (λ b. b.bytes ≡ content_of p h ran.id.name)) answered (content version under p h stands few stored))

    pub is_unread : IfFoundOther job.under job.id.name (length job.row) ran.stale → (r : Result Buffer PoolErr) (err : PoolErr) → r ≡ Err err → IsErr r ↔ (ended_badly ran.failed ran.stale ≡ true)
        → IfErr r (λ e. e ≡ read_refusal ran.failed ran.stale t.entries) → (entry : ℕ) → entry ≡ t.entries → IsUnread job (record { err = err; entry = entry }) old new
    is_unread found r err answered refused cause entry number =
        came_unread (refused.0 (ap is_err answered)) found err entry number
        (subst (λ (a : Result Buffer PoolErr). IfErr a (λ e. e ≡ read_refusal ran.failed ran.stale t.entries)) answered cause ∙ ap (read_refusal ran.failed ran.stale) (sym number))
