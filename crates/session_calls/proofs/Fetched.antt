-- A turn of a pin loads the page.
use Rattle.std.proofs.Common.{◌≡◌, ℕ, ◌+◌, ◌*◌, ◌<◌, ◌≤◌, ◌||◌, ◌==◌, Bool, true, false, if◌then◌else◌, List, [], ◌∷◌, ◌++◌, length, map, take, T, Result, Ok, Err, IfOk, IfErr, refl, sym, ap, ◌∙◌, subst, arith, inr, Option, Some}
use Rattle.std.proofs.lemmas.List.Folds.{list_any-append}
use Rattle.std.specs.List.{AllByRecursion, list_any, sum_by}
use Rattle.outside.specs.declared.slot.Slot.{Ghosts}
use Rattle.block_arena.specs.Memory.{Buffer, IsBufferOf, block_of}
use Rattle.reservation_tree.specs.declared.mark.Mark.{Mark}
use Rattle.reservation_tree.specs.declared.errors.PoolErr.TheVariants.{ReadFault}
use Rattle.pool_model.specs.declared.call.Call.TheVariants.{Pin}
use Rattle.pool_model.specs.declared.event.Event.{Event}
use Rattle.pool_model.specs.declared.event.Event.TheVariants.{PinLoad, ReadOk, ReadFailed, ReadStale, Evict}
use Rattle.pool_model.specs.declared.entry.Entry.{Entry}
use Rattle.pool_model.specs.State.{Opening, Page, State, page_at, shown}
use Rattle.pool_model.specs.StoredBlocks.{IsStored, version_of}
use Rattle.pool_model.specs.Sums.{free_bytes, length_of}
use Rattle.pool_model.specs.Legal.{run, state_after}
use Rattle.pool_model.specs.LookingBack.{content_from, content_of, is_ask, made_by}
use Rattle.pool_model.specs.Failures.{is_for_own, failures_in}
use Rattle.pool_model.specs.Refusals.{FailedToLoad}
use Rattle.pool_model.specs.MayFollow.{MayFollow}
use Rattle.pool_model.proofs.Rising.{failures_grow}
use Rattle.store_api.specs.Tokens.{PageToken}
use Rattle.store_api.specs.Holdings.{Holdings, page_of, page_len}
use Rattle.store_api.specs.Conditions.{IsPage, ShowsLeft}
use Rattle.store_api.specs.Entries.{by}
use Rattle.own_entries.specs.OwnHoldings.{Outset, after_events}
use Rattle.own_entries.specs.Busy.{busy_from}
use Rattle.own_entries.proofs.Outsets.{outsets_stay}
use Rattle.pin_core.specs.declared.jobs.ReadJob.{ReadJob}
use Rattle.pin_core.specs.Marking.{front_of}
use Rattle.pin_core.specs.StateOf.{state_of}
use Rattle.session_calls.specs.Showing.{ShowsStored}
use Rattle.pin_core.specs.Standing.{StandsFor, Enters, AreHeld}
use Rattle.pin_core.specs.Tallies.{silence, tally_of}
use Rattle.pin_core.specs.calls.Evictions.{blocks_in, evictions, names_gone}
use Rattle.pin_core.specs.parts.Loads.{load_entries}
use Rattle.pin_core.specs.calls.PinTurns.{IsLoad}
use Rattle.pin_core.specs.calls.Refusing.{refusal_of}
use Rattle.session_calls.specs.Coming.{Evicts}
use Rattle.session_calls.specs.Pinning.{BadPin, CanBePinned, HasAsked, IsBadLoad, IsPinned}
use Rattle.session_calls.proofs.Contents.{content_told, content_whole}
use Rattle.session_calls.proofs.Fetching.{fetching, fetching_by, fetches, fetching_holds, content_append, fetching_leaves, fetching_alike, evicts_rest}
use Rattle.session_calls.proofs.Lists.{NoneOpens}
use Rattle.session_calls.proofs.Known.{left_of}
use Rattle.session_calls.proofs.Pages.{IsThere, is_there, fits_here, left_here, not_pinned, page_len_here}
use Rattle.session_calls.proofs.Sized.{run_len}
use Rattle.session_calls.specs.declared.hand.Hand.{Hand}
use Rattle.session_calls.specs.declared.jobs.Unread.{Unread}
use Rattle.session_calls.specs.declared.count.Count.{Count}
use Rattle.session_calls.specs.declared.count.Count.TheVariants.{Out}
use Rattle.session_calls.specs.Told.{held_in}
use Rattle.session_calls.specs.Moving.{keeps_seats, quota_at, slots_out}
use Rattle.session_calls.specs.Outgoing.{CountsWhole, no_tally, tally_or}
use Rattle.session_calls.specs.Ready.{StandsWhole}
use Rattle.session_calls.specs.Acting.{held_by}
use Rattle.session_calls.specs.Having.{Sight, MayGive, IsAtWork}
use Rattle.session_calls.specs.Jobs.{DoesIn, CanRead, IsBadEnd, IsRead, IsUnread}
use Rattle.session_calls.specs.Needing.{AreNeeded, EntersNeeded}
use Rattle.session_calls.proofs.AtWork.{back_at_work}
use Rattle.session_calls.proofs.BadEnds.{of_bad}
use Rattle.session_calls.proofs.Between.{worked_on}
use Rattle.session_calls.proofs.Entered.{Entered}
use Rattle.session_calls.proofs.Did.{entered_did, did_more, did_held}
use Rattle.session_calls.proofs.Knowing.{Knows, knows}
use Rattle.session_calls.proofs.Needed.{needed_evicts, needed_then, needs_more}
use Rattle.session_calls.proofs.Needs.{AreFree, IsFree, needs_does}
use Rattle.session_calls.proofs.LoadsOut.{out_fetching}
use Rattle.session_calls.proofs.Outgoing.{counts_went, tally_last}
use Rattle.session_calls.proofs.Quotas.{quotas_run}
use Rattle.session_calls.proofs.Spare.{ones}

-- clean pages go and a load begins: no session comes or goes with that
fetching_keeps : (m : ℕ) (names : List ℕ) (p : ℕ) → AllByRecursion (λ e. keeps_seats e.event ≡ true) (by m (fetching names p))
fetching_keeps m [] p = (refl, tt)
fetching_keeps m (n ∷ names) p = (refl, fetching_keeps m names p)

fetching_opens : (names : List ℕ) (p : ℕ) → NoneOpens (fetching names p)
fetching_opens [] p = (refl, tt)
fetching_opens (n ∷ names) p = (refl, fetching_opens names p)

-- the page is in no job once the load has ended
off : (b : Bool) → (if b then false else (if b then true else false)) ≡ false
off true = refl
off false = refl

read_rests : (q m : ℕ) (names : List ℕ) (p : ℕ) → busy_from q false (by m (fetching names p ++ ReadOk p ∷ [])) ≡ false
read_rests q m [] p = off (p == q)
read_rests q m (n ∷ names) p = read_rests q m names p

failed_rests : (q m : ℕ) (names : List ℕ) (p before now : ℕ) → busy_from q false (by m (fetching names p ++ ReadFailed p before now ∷ [])) ≡ false
failed_rests q m [] p before now = off (p == q)
failed_rests q m (n ∷ names) p before now = failed_rests q m names p before now

stale_rests : (q m : ℕ) (names : List ℕ) (p : ℕ) (wanted found : Mark) → busy_from q false (by m (fetching names p ++ ReadStale p wanted found ∷ [])) ≡ false
stale_rests q m [] p wanted found = off (p == q)
stale_rests q m (n ∷ names) p wanted found = stale_rests q m names p wanted found

-- what is shown is told at the outset
told_is : (o : Opening) (u : Outset) (m : ℕ) (h : List Entry) → (held_in o u m h).told ≡ u.told
unfolding held_in
told_is o u m h = (outsets_stay o.block_len m u (made_by h m)).shows

-- what a load enters is told by the names of the pages that went
pub load_entered : {D : Type 0} (hand : Hand D) (p page : ℕ) (told : List ℕ) (new : List Entry) → page ≡ p → told ≡ names_gone (page_at (state_of hand.state) p).blocks hand.state
    → new ≡ hand.trail ++ (evictions hand.session told ++ record { maker = hand.session; event = PinLoad page } ∷ [])
    → new ≡ hand.trail ++ load_entries hand.session p (page_at (state_of hand.state) p).blocks hand.state
load_entered hand p page told new same is grew =
    grew ∙ ap (λ (q : ℕ). hand.trail ++ (evictions hand.session told ++ record { maker = hand.session; event = PinLoad q } ∷ [])) same
    ∙ ap (λ (names : List ℕ). hand.trail ++ (evictions hand.session names ++ record { maker = hand.session; event = PinLoad p } ∷ [])) is

module _ {D : Type 0} (slot : Ghosts D) (o : Opening) (u : Outset) (seen : Sight) (hand : Hand D) (is : IsAtWork slot o u seen hand) (p : PageToken) (can : CanBePinned p (held_by o u hand)) (job : ReadJob D) (went : Hand D)
    (load : IsLoad slot p job hand.state went.state)
    (enters : Enters slot (load_entries hand.session p.name (page_at (state_of hand.state) p.name).blocks hand.state) job.row [] hand.state went.state)
    (entered : went.trail ≡ hand.trail ++ load_entries hand.session p.name (page_at (state_of hand.state) p.name).blocks hand.state)
    (counts_are : went.counts ≡ hand.counts ++ Out job.id.name (tally_of slot job.row) ∷ []) (session : went.session ≡ hand.session) where
  abbrev s : State
  s = state_of hand.state

  abbrev t : State
  t = state_of went.state

  abbrev x : Page
  x = page_at s p.name

  abbrev h : Holdings
  h = held_by o u hand

  abbrev m : ℕ
  m = hand.session

  abbrev names : List ℕ
  names = names_gone x.blocks hand.state

  abbrev front : List Event
  front = fetching names p.name

  its : Knows o u hand
  its = knows slot o u hand is.ready

  there : IsThere (left_of hand.trail) s m h p
  there = is_there its p can.page

  front_is : load_entries m p.name x.blocks hand.state ≡ by m front
  front_is = fetching_by m names p.name

  name_is : job.id.name ≡ p.name
  name_is = ap (λ i. i.name) load.id

  went_trail : went.trail ≡ hand.trail ++ by m front
  went_trail = entered ∙ ap (λ (es : List Entry). hand.trail ++ es) front_is

  went_state : t ≡ run s (by m front)
  went_state = enters.state ∙ ap (run s) front_is

  stood : StandsFor slot o (hand.trail ++ load_entries m p.name x.blocks hand.state) went.state
  stood = enters.stands o hand.trail is.ready.whole.stands

  went_stands : StandsFor slot o went.trail went.state
  went_stands = subst (λ (es : List Entry). StandsFor slot o es went.state) (sym entered) stood

  len_is_here : t.block_len ≡ s.block_len
  len_is_here = ap (λ (v : State). v.block_len) went_state ∙ run_len s (by m front)

  whose_is : (page_at t p.name).session ≡ m
  whose_is = ap (λ (v : State). (page_at v p.name).session) went_state ∙ fetching_alike (λ y. y.session) (λ y at. refl) m names p.name p.name s ∙ there.whose

  client_is : (page_at t p.name).client ≡ p.client
  client_is = ap (λ (v : State). (page_at v p.name).client) went_state ∙ fetching_alike (λ y. y.client) (λ y at. refl) m names p.name p.name s ∙ there.client

  blocks_are : (page_at t p.name).blocks ≡ x.blocks
  blocks_are = ap (λ (v : State). (page_at v p.name).blocks) went_state ∙ fetching_alike (λ y. y.blocks) (λ y at. refl) m names p.name p.name s

  -- the content of a page that rests is what the session left in it last
  content_here : content_of o hand.trail p.name ≡ content_from p.name [] hand.trail
  content_here = content_told slot hand.state o hand.trail is.ready.whole.stands p.name there.page.lives (not_pinned its p can.page can.rests)

  content_went : content_from p.name [] went.trail ≡ content_from p.name [] hand.trail
  content_went =
      ap (content_from p.name []) went_trail ∙ content_append p.name [] hand.trail (by m front)
      ∙ fetching_leaves m names p.name p.name (content_from p.name [] hand.trail)

  content_len : length (content_from p.name [] hand.trail) ≡ x.blocks * s.block_len
  content_len = ap length (sym content_here) ∙ content_whole slot hand.state o hand.trail is.ready.whole.stands p.name there.page.lives

  job_len : length job.buf.bytes ≡ x.blocks * s.block_len
  job_len =
      load.is.buffer.whole ∙ ap (λ (q : ℕ). (page_at t q).blocks * t.block_len) name_is
      ∙ ap (λ (n : ℕ). n * t.block_len) blocks_are ∙ ap (λ (n : ℕ). x.blocks * n) len_is_here

  none_silent : u.told ≡ true → sum_by (silence slot) job.row ≡ 0
  none_silent told = let moved = enters.slots (silence slot) in let none = is.ready.whole.tell told in omega (arith, moved, none)

  pub can_read : CanRead slot u.told job went
  can_read = record {
    is = load.is;
    whose = ap (λ (q : ℕ). (page_at t q).session) name_is ∙ whose_is ∙ sym session;
    held =
        subst (λ (q : ℕ). AreHeld slot job.under q t.block_len job.row (content_from q [] went.trail)) (sym name_is)
        (subst (λ (n : ℕ). AreHeld slot job.under p.name n job.row (content_from p.name [] went.trail)) (sym len_is_here)
        (subst (AreHeld slot job.under p.name s.block_len job.row) (content_here ∙ sym content_went) (load.content o hand.trail is.ready.whole.stands)));
    whole = ap (λ (q : ℕ). length (content_from q [] went.trail)) name_is ∙ ap length content_went ∙ content_len ∙ sym job_len;
    counts = ap (tally_or no_tally job.id.name) counts_are ∙ tally_last hand.counts job.id.name (tally_of slot job.row);
    tell = none_silent;
  }

  -- the slots of the page are out with it
  out : slots_out t.pages ≡ slots_out s.pages + x.blocks
  out =
      let last : List Entry = hand.trail ++ load_entries m p.name x.blocks hand.state in
      let moved : slots_out (state_after o last).pages ≡ slots_out (state_after o hand.trail).pages + (page_at (state_after o last) p.name).blocks = out_fetching o hand.trail m names p.name stood.legal in
      let now : slots_out t.pages ≡ slots_out (state_after o last).pages = ap (λ (v : State). slots_out v.pages) stood.state in
      let was : slots_out s.pages ≡ slots_out (state_after o hand.trail).pages = ap (λ (v : State). slots_out v.pages) is.ready.whole.stands.state in
      let blocks : (page_at (state_after o last) p.name).blocks ≡ x.blocks = ap (λ (v : State). (page_at v p.name).blocks) (sym stood.state) ∙ blocks_are in
      omega (arith, moved, now, was, blocks)

  row_is : sum_by (λ d. 1) job.row ≡ x.blocks
  row_is = ones job.row ∙ load.is.slots ∙ ap (λ (q : ℕ). (page_at t q).blocks) name_is ∙ blocks_are

  -- and are counted
  went_whole : StandsWhole slot o u.told went.trail went.counts went.state
  went_whole = record {
    stands = went_stands;
    home = let moved = enters.slots (λ d. 1) in let home = is.ready.whole.home in let gone = out in let row = row_is in omega (arith, moved, home, gone, row);
    tell = λ told. let moved = enters.slots (silence slot) in let none = is.ready.whole.tell told in omega (arith, moved, none);
    sums =
        subst (λ (es : List Count). CountsWhole slot went.trail es went.state) (sym counts_are)
        (subst (λ (es : List Entry). CountsWhole slot es (hand.counts ++ Out job.id.name (tally_of slot job.row) ∷ []) went.state) (sym went_trail)
        (counts_went slot o hand.trail hand.counts hand.state is.ready.whole.stands is.ready.whole.sums m (map Evict names) (PinLoad p.name) job.id.name job.row went.state (evicts_rest names)
        (ap (λ (q : ℕ). q ∷ []) (sym name_is)) (subst (λ (es : List Entry). StandsFor slot o (hand.trail ++ es) went.state) front_is stood)
        (λ measure. let moved = enters.slots measure in omega (arith, moved))));
  }

  abbrev begun : Entered (λ events. events ≡ front) hand went
  begun = record {
    events = front;
    is = refl;
    trail = went_trail;
    session = session;
    opens = fetching_opens names p.name;
    quotas = λ k. ap (λ (v : State). quota_at v k) went_state ∙ quotas_run s (by m front) k (fetching_keeps m names p.name);
    went = Out job.id.name (tally_of slot job.row) ∷ [];
    counts = counts_are;
  }

  abbrev began : DoesIn (λ events. events ≡ front) hand went
  began = entered_did hand went begun (fetching_opens names p.name)

  pub may_load_it : MayGive slot o u.told seen went
  may_load_it = record { worked = worked_on o u seen hand went is.worked begun; whole = went_whole }

  -- as many clean pages went as were needed
  needed_front : EntersNeeded p.client (page_len p.name h) hand went
  needed_front =
      let amount : ℕ = page_len p.name h in
      let evicts : AreNeeded m p.client amount s (by m (map Evict names)) =
      needed_evicts p.client amount m names s (subst (λ (n : ℕ). (k : ℕ) → k < length names → free_bytes s + length_of s (blocks_in s (take k names)) < n) (page_len_here its p can.page) load.goes.needed) in
      record {
        entries = by m front;
        trail = went_trail;
        state = went_state;
        needed = needed_then p.client amount m (map Evict names) (PinLoad p.name ∷ []) s evicts (λ own. tt, tt);
      }

  module _ (now : Sight) (new : Hand D) (may : MayGive slot o u.told now new) where
    -- the load ended with an event that may be entered at any time
    needed_end : (end : Event) → IsFree p.client (page_len p.name h) end → DoesIn (λ events. events ≡ end ∷ []) went new → EntersNeeded p.client (page_len p.name h) hand new
    needed_end end free did =
        needs_more p.client (page_len p.name h) hand went new session needed_front
        (needs_does p.client (page_len p.name h) slot o went new went_stands may.whole.stands did (subst (AreFree p.client (page_len p.name h)) (sym did.does.is) (free, tt)))

    -- the page came back with its buffer
    module _ (result : Result Buffer Unread) (ok : IfOk result (λ buf. IsRead o u.told job buf went new)) (buf : Buffer) (answered : result ≡ Ok buf) where
      abbrev read : IsRead o u.told job buf went new
      read = subst (λ (r : Result Buffer Unread). IfOk r (λ b. IsRead o u.told job b went new)) answered ok

      read_events : read.did.does.events ≡ ReadOk p.name ∷ []
      read_events = read.did.does.is ∙ ap (λ (q : ℕ). ReadOk q ∷ []) name_is

      abbrev came : DoesIn (IsPinned p.name) hand new
      came = did_more hand went new began read.did (inr (subst (λ (es : List Event). Evicts (PinLoad p.name ∷ ReadOk p.name ∷ []) (front ++ es)) (sym read_events) (fetches names p.name (ReadOk p.name ∷ []))))

      pub did_read : DoesIn (IsPinned p.name) hand new
      did_read = came

      pub needed_read : EntersNeeded p.client (page_len p.name h) hand new
      needed_read = needed_end (ReadOk job.id.name) (λ v. tt) read.did

      pub works_read : IsAtWork slot o u now new
      works_read =
          back_at_work slot o u now hand new is.ready came may (after_events h (PinLoad p.name ∷ ReadOk p.name ∷ []))
          (ap (λ (es : List Event). after_events h (front ++ es)) read_events ∙ fetching_holds names p.name (ReadOk p.name ∷ []) h) is.ready.rests.live is.ready.rests.few
          (λ q. ap (λ (es : List Event). busy_from q false (by m (front ++ es))) read_events ∙ read_rests q m names p.name)

      pub shows_read : ShowsLeft (page_of p.name h) h buf
      shows_read = record {
        fits =
            fits_here its p can.page buf
            (subst (λ (n : ℕ). IsBufferOf x.blocks n buf) len_is_here (subst (λ (n : ℕ). IsBufferOf n t.block_len buf) (ap (λ (q : ℕ). (page_at t q).blocks) name_is ∙ blocks_are) read.fits));
        bytes = λ told. read.shows (sym (told_is o u m hand.trail) ∙ told) ∙ ap (λ (q : ℕ). content_from q [] went.trail) name_is ∙ content_went ∙ sym (left_here its p can.page can.rests);
      }

      pub stored_read : ShowsStored o new.trail p.name (page_of p.name h) buf
      stored_read = λ began marked ended few stored.
          let under : job.under ≡ Some (shown began) = read.version began marked (ap (version_of new.trail) name_is ∙ ended) in
          let count : length job.row ≡ (page_of p.name h).blocks = load.is.slots ∙ ap (λ (q : ℕ). (page_at t q).blocks) name_is ∙ blocks_are ∙ sym there.blocks in
          read.stored (record {
            version = shown began;
            under = under;
            few = few;
            blocks = λ i inside.
                subst (λ (w : Option ℕ). IsStored o new.trail (front_of w job.id.name i ++ block_of buf i)) (sym under)
                (subst (λ (q : ℕ). IsStored o new.trail (front_of (Some (shown began)) q i ++ block_of buf i)) (sym name_is) (stored i (subst (λ (n : ℕ). i < n) count inside)));
          })
          ∙ ap (λ (q : ℕ). content_from q [] went.trail) name_is ∙ content_went ∙ sym (left_here its p can.page can.rests)

    -- its load ended badly
    module _ (result : Result Buffer Unread) (err : IfErr result (λ e. IsUnread job e went new)) (e : Unread) (answered : result ≡ Err e) where
      abbrev unread : IsUnread job e went new
      unread = subst (λ (r : Result Buffer Unread). IfErr r (λ d. IsUnread job d went new)) answered err

      abbrev end : Event
      end = unread.end

      bad : IsBadEnd p.name e end
      bad = subst (λ (q : ℕ). IsBadEnd q e end) name_is unread.ended

      abbrev came_not : DoesIn (IsBadLoad p.name e) hand new
      came_not = did_more hand went new began unread.did
          (end, bad, subst (λ (es : List Event). Evicts (PinLoad p.name ∷ end ∷ []) (front ++ es)) (sym unread.did.does.is) (fetches names p.name (end ∷ [])))

      pub did_unread : DoesIn (IsBadLoad p.name e) hand new
      did_unread = came_not

      pub needed_unread : EntersNeeded p.client (page_len p.name h) hand new
      needed_unread = needed_end end (of_bad p.name e.entry (IsFree p.client (page_len p.name h)) (λ sum_before sum_now v. tt) (λ wanted found v. tt) e.err end bad) unread.did

      -- what is held is what a failed load leaves
      abbrev left_then : Holdings
      left_then = after_events h (PinLoad p.name ∷ ReadFailed p.name 0 0 ∷ [])

      ends : after_events h came_not.does.events ≡ left_then
      ends =
          ap (λ (es : List Event). after_events h (front ++ es)) unread.did.does.is ∙ fetching_holds names p.name (end ∷ []) h
          ∙ of_bad p.name e.entry (λ d. after_events h (PinLoad p.name ∷ d ∷ []) ≡ left_then) (λ sum_before sum_now. refl) (λ wanted found. refl) e.err end bad

      pub works_unread : IsAtWork slot o u now new
      works_unread =
          back_at_work slot o u now hand new is.ready came_not may left_then ends is.ready.rests.live is.ready.rests.few
          (λ q. ap (λ (es : List Event). busy_from q false (by m (front ++ es))) unread.did.does.is
          ∙ of_bad p.name e.entry (λ d. busy_from q false (by m (front ++ d ∷ [])) ≡ false) (failed_rests q m names p.name) (stale_rests q m names p.name) e.err end bad)

      held_new : held_by o u new ≡ left_then
      held_new = did_held o u hand new came_not ∙ ends

      page_new : IsPage p (held_by o u new)
      page_new = subst (IsPage p) (sym held_new) (record { lives = can.page.lives; key = can.page.key; client = can.page.client })

      there_new : IsThere (left_of new.trail) (state_of new.state) new.session (held_by o u new) p
      there_new = is_there (knows slot o u new works_unread.ready) p page_new

      asked_new : HasAsked hand → HasAsked new
      asked_new asked =
          ap (λ (k : ℕ). list_any (λ d. is_ask d.event) (made_by new.trail k)) came_not.session ∙ ap (list_any (λ d. is_ask d.event)) came_not.does.own
          ∙ list_any-append (λ (d : Entry). is_ask d.event) (made_by hand.trail m) (by m came_not.does.events)
          ∙ ap (λ (b : Bool). b || list_any (λ d. is_ask d.event) (by m came_not.does.events)) asked

      failed : FailedToLoad new.trail new.session (Pin p.name) e.entry
      failed = subst (λ (q : ℕ). FailedToLoad new.trail new.session (Pin q) e.entry) name_is unread.failed

      may_refuse : HasAsked hand → MayFollow new.trail (state_of new.state) (refusal_of new.session (Pin p.name) e.entry)
      may_refuse asked = record {
        makes = works_unread.ready.rests.number;
        allows = record {
          asked = subst T (sym (asked_new asked)) tt;
          own = (page_at (state_of new.state) p.name, record { lives = there_new.page.lives; own = there_new.whose });
          why = inr failed;
        };
      }

      -- where a load failed, a failure of the page's client was counted
      rose : e.err ≡ ReadFault e.entry → failures_in (is_for_own m p.client) hand.trail < failures_in (is_for_own m p.client) new.trail
      rose fault =
          let client : job.client ≡ p.client = sym load.is.client ∙ ap (λ (q : ℕ). (page_at t q).client) name_is ∙ client_is in
          let now_more : failures_in (is_for_own m p.client) went.trail < failures_in (is_for_own m p.client) new.trail =
          subst (λ (c : ℕ). failures_in (is_for_own m c) went.trail < failures_in (is_for_own m c) new.trail) client
          (subst (λ (k : ℕ). failures_in (is_for_own k job.client) went.trail < failures_in (is_for_own k job.client) new.trail) session (unread.rose fault)) in
          let before : failures_in (is_for_own m p.client) hand.trail ≤ failures_in (is_for_own m p.client) went.trail =
          subst (λ (es : List Entry). failures_in (is_for_own m p.client) hand.trail ≤ failures_in (is_for_own m p.client) es) (sym went_trail) (failures_grow (is_for_own m p.client) refl hand.trail (by m front)) in
          omega (arith, now_more, before)

      pub bad_pin : HasAsked hand → BadPin p.client p.name e hand new
      bad_pin asked = record { may = may_refuse asked; rose = rose }
