-- A page comes back from its write.
use Rattle.std.proofs.Common.{◌≡◌, ℕ, ◌+◌, ◌≤◌, List, [], ◌∷◌, ◌++◌, length, Bool, true, false, if◌then◌else◌, Option, Some, unwrap_or, refl, sym, ap, ◌∙◌, subst, arith, inl}
use Rattle.std.specs.FinMap.{get}
use Rattle.std.specs.List.{sum_by}
use Rattle.outside.specs.declared.slot.Slot.{Ghosts}
use Rattle.reservation_tree.proofs.Maps.{get_same}
use Rattle.scratch_dev.specs.Rows.{faults_of, CountsStores}
use Rattle.pool_model.specs.declared.event.Event.{Event}
use Rattle.pool_model.specs.declared.entry.Entry.{Entry}
use Rattle.pool_model.specs.State.{Opening, Flying, Page, State, page_at, no_page}
use Rattle.pool_model.specs.LookingBack.{opens, content_from, left_in, maker_of}
use Rattle.pool_model.specs.ScratchRows.{IsFault}
use Rattle.pool_model.specs.MayFollow.{MayFollow}
use Rattle.pool_model.specs.Effects.{after}
use Rattle.pool_model.specs.Legal.{state_after}
use Rattle.pool_model.specs.HistoryLaws.{made}
use Rattle.pool_model.proofs.Made.{still_made, legal_pages_as_made}
use Rattle.pool_model.proofs.OwnEntries.{content_more}
use Rattle.store_api.specs.Entries.{by}
use Rattle.pin_core.specs.declared.jobs.WriteJob.{WriteJob}
use Rattle.pin_core.specs.declared.tally.Tally.{Tally}
use Rattle.pin_core.specs.StateOf.{state_of}
use Rattle.pin_core.specs.Standing.{AreHeld, slots_home}
use Rattle.pin_core.specs.calls.Runs.{CountsFaults, CountsStrays, after_stores}
use Rattle.pin_core.specs.calls.Jobs.{IsWriteJob}
use Rattle.pin_core.specs.calls.Returning.{EntersWhere, IsWritten, write_ends, write_entry}
use Rattle.pin_core.specs.Tallies.{Counted, all_failures, all_stale, blocks_of, silence, stored_by, tally_by}
use Rattle.pin_core.proofs.Tallied.{came_back, same_silence}
use Rattle.session_calls.specs.Writing.{IsEnd, stored_with}
use Rattle.session_calls.specs.declared.hand.Hand.{Hand}
use Rattle.session_calls.specs.Moving.{slots_out, keeps_seats}
use Rattle.session_calls.specs.Outgoing.{no_tally, tally_or}
use Rattle.session_calls.specs.Ready.{StandsWhole}
use Rattle.session_calls.specs.Having.{Sight, sight_of, MayGive, Taken}
use Rattle.session_calls.specs.Jobs.{CanWrite, Wrote}
use Rattle.session_calls.specs.Flying.{HasRun, IsBack, IsOut, Returns, place_of}
use Rattle.session_calls.proofs.Out.{back_written, back_unwritten}
use Rattle.session_calls.proofs.Flights.{out_lasts, shown_in_job}
use Rattle.session_calls.proofs.Outgoing.{EndsJob}
use Rattle.session_calls.proofs.Returned.{came_quotas, came_whole, counted, grew, did, worked}

-- what is so of the end of a write, well or not
module _ (p before now : ℕ) where
  is_end : (b : Bool) → IsEnd p (write_ends b p before now)
  is_end true = refl
  is_end false = refl

  ends_job : (b : Bool) → EndsJob p (write_ends b p before now)
  ends_job true = refl
  ends_job false = refl

  keeps : (b : Bool) → keeps_seats (write_ends b p before now) ≡ true
  keeps true = refl
  keeps false = refl

  goes_on : (b : Bool) → opens (write_ends b p before now) ≡ false
  goes_on true = refl
  goes_on false = refl

  leaves : (old : List ℕ) (b : Bool) → left_in p (write_ends b p before now) old ≡ old
  leaves old true = refl
  leaves old false = refl

  put_back : (m : ℕ) (s : State) (b : Bool) → (page_at (after s (record { maker = m; event = write_ends b p before now })) p).place ≡ place_of b
  put_back m s true = ap (λ (x : Option Page). (unwrap_or x no_page).place) (get_same s.pages p _)
  put_back m s false = ap (λ (x : Option Page). (unwrap_or x no_page).place) (get_same s.pages p _)

  comes_back : (b : Bool) (h : List Entry) (s : State) (m : ℕ) → MayFollow h s (record { maker = m; event = write_ends b p before now })
      → slots_out (after s (record { maker = m; event = write_ends b p before now })).pages + (page_at s p).blocks ≡ slots_out s.pages
  comes_back true h s m may = back_unwritten (λ p b. b) h s m p before now may
  comes_back false h s m may = back_written (λ p b. b) h s m p may

-- what the end of a write stored, where the page was made with so many blocks
stored_end : (h : List Entry) (m p blocks before now : ℕ) → blocks_of (maker_of h p) ≡ blocks → (b : Bool)
    → sum_by (λ e. stored_by h e.event) (by m (write_ends b p before now ∷ [])) ≡ stored_with blocks (write_ends b p before now)
stored_end h m p blocks before now same true = refl
stored_end h m p blocks before now same false = omega (arith, same)

-- a failure raised the count, and a store was counted for each slot otherwise
row_counts : {D : Type 0} (slot : Ghosts D) (home : (D → ℕ) → ℕ) (was row : List D) (m p before now : ℕ) → sum_by (silence slot) row ≡ sum_by (silence slot) was → length row ≡ length was
    → faults_of slot was ≤ faults_of slot row → (b : Bool) → CountsFaults slot (if b then 1 else 0) was row → CountsStores slot (if b then 0 else length was) was row → CountsStrays slot 0 was row
    → Counted (all_failures (by m (write_ends b p before now ∷ []))) (stored_with (length was) (write_ends b p before now)) (all_stale (by m (write_ends b p before now ∷ [])))
    (tally_by slot (λ measure. home measure + sum_by measure was)) (tally_by slot (λ measure. home measure + sum_by measure row))
row_counts slot home was row m p before now silent len fall true faults stores strays = came_back slot home was row 1 0 0 fall faults stores strays silent len
row_counts slot home was row m p before now silent len fall false faults stores strays = came_back slot home was row 0 (length was) 0 fall faults stores strays silent len

-- a job whose slots were stored is that of its page still
still_job : {D : Type 0} (s : State) (was job : WriteJob D) → job ≡ after_stores job.row job.failed was → length job.row ≡ length was.row → IsWriteJob s was → IsWriteJob s job
still_job s was job rest len is =
    subst (IsWriteJob s) (sym rest) (record { lives = is.lives; key = is.key; flies = is.flies; client = is.client; under = is.under; buffer = is.buffer; slots = len ∙ is.slots; maker = is.maker })

-- the faults that its slots counted when they went out
abbrev sum_of : Sight → ℕ → ℕ
sum_of sight p = (tally_or no_tally p sight.counts).faults

was_counted : {D : Type 0} (slot : Ghosts D) (o : Opening) (told : Bool) (m : ℕ) (sight : Sight) (job : WriteJob D) (back : IsBack slot o told m sight job) → sum_of sight job.id.name ≡ faults_of slot back.was.row
was_counted {D} slot o told m sight job back = ap (λ (j : WriteJob D). sum_of sight j.id.name) back.ran.rest ∙ ap (λ (t : Tally). t.faults) back.out.counts

-- the page of a job comes back to the maker that has the value
module _ {D : Type 0} (slot : Ghosts D) (o : Opening) (told : Bool) (mid new : Hand D) (stood : StandsWhole slot o told mid.trail mid.counts mid.state)
    (job : WriteJob D) (back : IsBack slot o told mid.session (sight_of mid) job)
    (enters : (before now : ℕ) → IsFault before now → EntersWhere slot (IsWritten slot (state_of mid.state).block_len job) (write_entry job before now) job.row mid.state new.state)
    (entered : new.trail ≡ mid.trail ++ write_entry job (sum_of (sight_of mid) job.id.name) (faults_of slot job.row) ∷ []) (none_out : new.counts ≡ mid.counts) (session : new.session ≡ mid.session) where
  abbrev m : ℕ
  m = mid.session

  abbrev s : State
  s = state_of mid.state

  abbrev p : ℕ
  p = job.id.name

  abbrev faults : ℕ
  faults = faults_of slot job.row

  abbrev sum : ℕ
  sum = sum_of (sight_of mid) p

  abbrev end : Event
  end = write_ends job.failed p sum faults

  abbrev e : Entry
  e = record { maker = m; event = end }

  -- the job as it went out
  abbrev was : WriteJob D
  was = back.was

  name_is : p ≡ was.id.name
  name_is = ap (λ (j : WriteJob D). j.id.name) back.ran.rest

  bytes_are : job.buf.bytes ≡ was.buf.bytes
  bytes_are = ap (λ (j : WriteJob D). j.buf.bytes) back.ran.rest

  sum_is : sum ≡ faults_of slot was.row
  sum_is = was_counted slot o told m (sight_of mid) job back

  by_maker : job.who ≡ m
  by_maker = ap (λ (j : WriteJob D). j.who) back.ran.rest ∙ back.out.by

  job_is : IsWriteJob s job
  job_is = still_job s was job back.ran.rest back.ran.len (subst (λ (u : State). IsWriteJob u was) (sym stood.stands.state) back.out.is)

  there : get (state_after o mid.trail).pages p ≡ Some (page_at s p)
  there = ap (λ (u : State). get u.pages p) (sym stood.stands.state) ∙ job_is.lives

  left : job.buf.bytes ≡ content_from p [] mid.trail
  left = bytes_are ∙ back.out.content ∙ ap (λ (q : ℕ). content_from q [] mid.trail) (sym name_is)

  is_written : IsWritten slot s.block_len job o mid.trail
  is_written = record {
    content = left ∙ sym (shown_in_job o mid.trail stood.stands.legal m p (page_at s p) there (inl (job_is.flies ∙ ap (λ (k : ℕ). Flying k) by_maker)));
    held = λ whole.
        subst (λ (n : ℕ). AreHeld slot job.under p n job.row job.buf.bytes) job_is.buffer.block_len
        (subst (λ (j : WriteJob D). AreHeld slot j.under j.id.name j.buf.block_len job.row j.buf.bytes) (sym back.ran.rest) (back.ran.held whole));
  }

  entry_is : write_entry job sum faults ≡ e
  entry_is = ap (λ (k : ℕ). record { maker = k; event = end }) by_maker

  -- without a failure the sums stand nowhere
  any_sums : job.failed ≡ false → write_entry job 0 1 ≡ write_entry job sum faults
  any_sums whole =
      ap (λ (b : Bool). record { maker = job.who; event = write_ends b p 0 1 }) whole
      ∙ sym (ap (λ (b : Bool). record { maker = job.who; event = write_ends b p sum faults }) whole)

  abbrev Known : Opening → List Entry → Type 0
  Known = IsWritten slot s.block_len job

  enters_so : EntersWhere slot Known e job.row mid.state new.state
  enters_so = subst (λ (d : Entry). EntersWhere slot Known d job.row mid.state new.state) entry_is
      (elim job.failed as (λ b. job.failed ≡ b → EntersWhere slot Known (write_entry job sum faults) job.row mid.state new.state) [
        | true ↦ λ bad. enters sum faults (subst (λ (n : ℕ). IsFault n faults) (sym sum_is) (back.ran.failed bad))
        | false ↦ λ whole. subst (λ (d : Entry). EntersWhere slot Known d job.row mid.state new.state) (any_sums whole) (enters 0 1 (inl (omega arith)))
      ] refl)

  end_trail : new.trail ≡ mid.trail ++ by m (end ∷ [])
  end_trail = entered ∙ ap (λ (d : Entry). mid.trail ++ d ∷ []) entry_is

  -- the page has as many slots as blocks
  was_made : blocks_of (maker_of (mid.trail ++ e ∷ []) p) ≡ length was.row
  was_made =
      let known : maker_of mid.trail p ≡ Some (made (page_at s p)) = legal_pages_as_made o mid.trail stood.stands.legal p (page_at s p) there in
      ap blocks_of (still_made mid.trail (e ∷ []) p (made (page_at s p)) known) ∙ sym job_is.slots ∙ back.ran.len

  silent : sum_by (silence slot) job.row ≡ sum_by (silence slot) was.row
  silent = same_silence slot job.row was.row back.ran.tells

  pub returns : Returns slot o told job mid new
  returns = record {
    session = session;
    trail = end_trail;
    counts = none_out;
    quotas = came_quotas slot o told mid new stood m end end_trail none_out job.row was.row Known enters_so is_written (keeps p sum faults job.failed);
    whole =
        came_whole slot o told mid new stood m end end_trail none_out job.row was.row Known enters_so is_written
        (λ may. subst (λ (n : ℕ). slots_out (after s e).pages + n ≡ slots_out s.pages) (sym job_is.slots) (comes_back p sum faults job.failed mid.trail s m may))
        silent back.out.tell p (ends_job p sum faults job.failed) (ap (λ (q : ℕ). tally_or no_tally q mid.counts) name_is ∙ back.out.counts)
        (subst
        (λ (n : ℕ). Counted (all_failures (e ∷ [])) n (all_stale (e ∷ [])) (tally_by slot (λ measure. slots_home measure mid.state + sum_by measure was.row)) (tally_by slot (λ measure. slots_home measure mid.state + sum_by measure job.row)))
        (sym (stored_end (mid.trail ++ e ∷ []) m p (length was.row) sum faults was_made job.failed))
        (row_counts slot (λ measure. slots_home measure mid.state) was.row job.row m p sum faults silent back.ran.len back.ran.never_falls job.failed back.ran.faults back.ran.stores back.ran.strayed));
    place = ap (λ (u : State). (page_at u p).place) enters_so.state ∙ put_back p sum faults m s job.failed;
    content = left ∙ sym (ap (content_from p []) end_trail ∙ content_more p [] mid.trail e ∙ leaves p sum faults (content_from p [] mid.trail) job.failed);
  }

-- the session's own page comes back to the session
module _ {D : Type 0} (slot : Ghosts D) (o : Opening) (told : Bool) (old mid : Hand D) (stood : StandsWhole slot o told old.trail old.counts old.state)
    (before now : Sight) (seen : before ≡ sight_of old) (taken : Taken slot o told old.session before now mid) (job : WriteJob D) (can : CanWrite slot told job old) where
  out : IsOut slot o told old.session (sight_of mid) job
  out =
      out_lasts slot o told old.session (sight_of old) (sight_of mid) taken.others taken.went (grew slot o told old mid stood before now seen taken) taken.beside (counted slot o told old mid stood before now seen taken)
      taken.whole.stands.legal taken.whole.sums.pages job (record {
        is = subst (λ (u : State). IsWriteJob u job) stood.stands.state can.is;
        by = can.by;
        content = can.content;
        noted = stood.sums.pages;
        counts = can.counts;
        tell = can.tell;
      })

  pub may_end : (ran : WriteJob D) → ran ≡ after_stores ran.row ran.failed job → length ran.row ≡ length job.row → IsWriteJob (state_of mid.state) ran
  may_end ran rest len = still_job (state_of mid.state) job ran rest len (subst (λ (u : State). IsWriteJob u job) (sym taken.whole.stands.state) out.is)

  module _ (ran : WriteJob D) (has_run : HasRun slot job ran) (new : Hand D) (sum : ℕ) (is : sum ≡ faults_of slot job.row)
      (enters : (before now : ℕ) → IsFault before now → EntersWhere slot (IsWritten slot (state_of mid.state).block_len ran) (write_entry ran before now) ran.row mid.state new.state)
      (entered : new.trail ≡ mid.trail ++ write_entry ran sum (faults_of slot ran.row) ∷ []) (none_out : new.counts ≡ mid.counts) (session : new.session ≡ mid.session) where
    abbrev back : IsBack slot o told mid.session (sight_of mid) ran
    back = record { was = job; out = subst (λ (m : ℕ). IsOut slot o told m (sight_of mid) job) (sym taken.session) out; ran = has_run }

    abbrev ending : Event
    ending = write_ends ran.failed ran.id.name (sum_of (sight_of mid) ran.id.name) (faults_of slot ran.row)

    returned : Returns slot o told ran mid new
    returned =
        returns slot o told mid new taken.whole ran back enters
        (entered ∙ ap (λ (n : ℕ). mid.trail ++ write_entry ran n (faults_of slot ran.row) ∷ []) (is ∙ sym (was_counted slot o told mid.session (sight_of mid) ran back))) none_out session

    trail : new.trail ≡ mid.trail ++ by old.session (ending ∷ [])
    trail = returned.trail ∙ ap (λ (m : ℕ). mid.trail ++ by m (ending ∷ [])) taken.session

    ends_on : opens ending ≡ false
    ends_on = goes_on ran.id.name (sum_of (sight_of mid) ran.id.name) (faults_of slot ran.row) ran.failed

    pub wrote : Wrote job old new
    wrote = record {
      end = ending;
      ended = subst (λ (p : ℕ). IsEnd p ending) (ap (λ (j : WriteJob D). j.id.name) has_run.rest) (is_end ran.id.name (sum_of (sight_of mid) ran.id.name) (faults_of slot ran.row) ran.failed);
      did = did slot o told old mid stood before now seen taken new ending trail none_out session ends_on;
    }

    pub may_give_written : MayGive slot o told now new
    may_give_written = record { worked = worked slot o told old mid stood before now seen taken new ending trail none_out session ends_on returned.quotas; whole = returned.whole }
