-- What a call that pins a page makes, from its ask on.
use Rattle.std.proofs.Common.{◌≡◌, ◌⊎◌, ℕ, ◌+◌, ◌<◌, ◌≤◌, List, [], ◌∷◌, ◌++◌, Bool, filter, length, length-append, Some, IsSome, refl, sym, ap, ◌∙◌, subst, arith, inl, inr}
use Rattle.std.proofs.lemmas.List.{append_assoc}
use Rattle.std.proofs.lemmas.List.Elements.{filter-append}
use Rattle.outside.specs.declared.slot.Slot.{Ghosts}
use Rattle.block_arena.specs.Memory.{Buffer}
use Rattle.reservation_tree.specs.declared.mark.Mark.{Mark}
use Rattle.reservation_tree.specs.declared.errors.PoolErr.{PoolErr}
use Rattle.reservation_tree.specs.declared.errors.PoolErr.TheVariants.{WriteFault, ReadFault, Stale}
use Rattle.pool_model.specs.declared.call.Call.{Call}
use Rattle.pool_model.specs.declared.call.Call.TheVariants.{Pin}
use Rattle.pool_model.specs.declared.event.Event.{Event}
use Rattle.pool_model.specs.declared.event.Event.TheVariants.{PinLoad, ReadFailed, ReadStale, Refused}
use Rattle.pool_model.specs.declared.entry.Entry.{Entry}
use Rattle.pool_model.specs.State.{Opening}
use Rattle.pool_model.specs.LookingBack.{made_by}
use Rattle.pool_model.specs.Failures.{is_own, is_for_own, failures_in}
use Rattle.store_api.specs.Tokens.{PageToken}
use Rattle.store_api.specs.Holdings.{Holdings, page_of, page_len, unused_of}
use Rattle.store_api.specs.Conditions.{ShowsLeft}
use Rattle.store_api.specs.Signs.{Grows, WasAnswered, is_stale_load}
use Rattle.store_api.specs.Refusals.{MayRefuse}
use Rattle.store_api.specs.Entries.{by, IsAsked, IsPin, IsRefusal, IsTaken, Made}
use Rattle.store_api.proofs.Causes.{read_answered, stale_answered}
use Rattle.own_entries.specs.CallLaws.{CanBeCharged}
use Rattle.own_entries.specs.OwnHoldings.{Outset}
use Rattle.own_entries.proofs.Calls.{calls_tell}
use Rattle.pin_core.specs.StateOf.{state_of}
use Rattle.pin_core.specs.calls.Turns.{LacksRoom}
use Rattle.session_calls.specs.Coming.{Evicts}
use Rattle.session_calls.specs.Pinning.{CanBePinned, IsBadLoad, IsPinned}
use Rattle.session_calls.specs.Showing.{ShowsStored}
use Rattle.session_calls.specs.Writing.{IsWrite, writes_left}
use Rattle.session_calls.proofs.Failures.{more_in_all}
use Rattle.session_calls.proofs.Lists.{NoneOpens, by_append}
use Rattle.session_calls.proofs.Asks.{asked_last}
use Rattle.session_calls.proofs.Pages.{lacks_room, page_client_lives}
use Rattle.session_calls.proofs.PinWords.{pin_is}
use Rattle.session_calls.proofs.RoomCalls.{may_refuse}
use Rattle.session_calls.specs.declared.hand.Hand.{Hand}
use Rattle.session_calls.specs.declared.jobs.Unread.{Unread}
use Rattle.session_calls.specs.declared.pinning.PinStep.{PinStep}
use Rattle.session_calls.specs.declared.pinning.PinStep.TheVariants as step
use Rattle.session_calls.specs.Told.{signs_in}
use Rattle.session_calls.specs.Ready.{IsReady}
use Rattle.session_calls.specs.Acting.{ActsThese, held_by, signs_by}
use Rattle.session_calls.specs.Jobs.{DoesIn, EndsWith}
use Rattle.session_calls.specs.Pinning.{HasAsked, MayRefusePin, BadPin, PinIs, GoesFurther}
use Rattle.session_calls.specs.Needing.{EntersNeeded}
use Rattle.session_calls.specs.Turning.{Refuses}
use Rattle.session_calls.proofs.Asked.{asked_held, asks_on, asks_still, was_refused}
use Rattle.session_calls.proofs.Doing.{counted_more}
use Rattle.session_calls.proofs.Did.{does_at, acts_did, did_more, did_so, did_held, did_grows, did_made}
use Rattle.session_calls.proofs.Knowing.{Knows, knows}
use Rattle.session_calls.proofs.Needed.{needs_more}
use Rattle.session_calls.proofs.Needs.{needs_step}
use Rattle.session_calls.proofs.SinceAsked.{has_asked}

-- a load, its end and the refusal
taken_is : (t : ℕ) (h : Holdings) (p entry : ℕ) (last : Event) (events read end : List Event) → IsAsked t h [] events → Evicts (PinLoad p ∷ last ∷ []) read → end ≡ Refused (Pin p) entry ∷ []
    → IsTaken t h (PinLoad p ∷ last ∷ Refused (Pin p) entry ∷ []) ((events ++ read) ++ end)
taken_is t h p entry last events read end asked loads refused =
    let evicts : List Event = loads.0 in
    let load : List Event = PinLoad p ∷ last ∷ [] in
    let all : List Event = evicts ++ PinLoad p ∷ last ∷ Refused (Pin p) entry ∷ [] in
    let same : (events ++ read) ++ end ≡ events ++ all =
    append_assoc events read end ∙ ap (λ (es : List Event). events ++ (es ++ end)) loads.2 ∙ ap (λ (es : List Event). events ++ ((evicts ++ load) ++ es)) refused
    ∙ ap (λ (es : List Event). events ++ es) (append_assoc evicts load (Refused (Pin p) entry ∷ [])) in
    (evicts, loads.1, subst (IsAsked t h all) (sym same) (asked_last t h events all asked))

-- where it ended badly, that is a refusal with its error
unread_is : (t : ℕ) (h : Holdings) (p entry : ℕ) (last : Event) (err : PoolErr) (all : List Event) → EndsWith p entry err last → IsTaken t h (PinLoad p ∷ last ∷ Refused (Pin p) entry ∷ []) all → IsRefusal t h (Pin p) err all
unread_is t h p entry last (ReadFault failure) all ends taken = (
  ends.0,
  ends.1,
  subst (λ (n : ℕ). IsTaken t h (PinLoad p ∷ ReadFailed p ends.0 ends.1 ∷ Refused (Pin p) n ∷ []) all) (sym ends.2)
      (subst (λ (e : Event). IsTaken t h (PinLoad p ∷ e ∷ Refused (Pin p) entry ∷ []) all) ends.3 taken),
)
unread_is t h p entry last (Stale wanted found) all ends taken = (entry, subst (λ (e : Event). IsTaken t h (PinLoad p ∷ e ∷ Refused (Pin p) entry ∷ []) all) ends.1 taken)
unread_is t h p entry last _ all ends taken = absurd ends

-- a stale load is counted
stale_in : (m p : ℕ) (wanted found : Mark) (read : List Event) → Evicts (PinLoad p ∷ ReadStale p wanted found ∷ []) read → 0 < length (filter (λ e. is_stale_load e.event) (by m read))
stale_in m p wanted found read loads =
    let load : List Event = PinLoad p ∷ ReadStale p wanted found ∷ [] in
    let counts : Entry → Bool = λ e. is_stale_load e.event in
    let parts : length (filter counts (by m read)) ≡ length (filter counts (by m loads.0)) + length (filter counts (by m load)) =
    ap (λ (es : List Event). length (filter counts (by m es))) loads.2 ∙ ap (λ (es : List Entry). length (filter counts es)) (by_append m loads.0 load)
    ∙ ap length (filter-append counts (by m loads.0) (by m load)) ∙ length-append (filter counts (by m loads.0)) (filter counts (by m load)) in
    let one : length (filter counts (by m load)) ≡ 1 = refl in
    omega (arith, parts, one)

abbrev pinned_name : Call → ℕ
pinned_name (Pin p) = p
pinned_name _ = 0

module _ {D : Type 0} where
  stays_at : (o : Opening) (u : Outset) (p : PageToken) (now new : Hand D) (r : PinStep) → PinIs o u p r now new → new.session ≡ now.session
  stays_at o u p now new (step.Pinned buf) turn = turn.0.session
  stays_at o u p now new (step.Refused entry) turn = ap (λ (x : Hand D). x.session) turn.1
  stays_at o u p now new step.Wrote turn = turn.session
  stays_at o u p now new (step.Unread e) turn = turn.1.session

  -- after a turn that wrote fewer writes may come
  pub further_wrote : (t : ℕ) (now new : Hand D) (r : PinStep) → r ≡ step.Wrote → GoesFurther t r now new → writes_left new.session t (state_of new.state) < writes_left now.session t (state_of now.state)
  further_wrote t now new r wrote further = subst (λ (q : PinStep). GoesFurther t q now new) wrote further

module _ {D : Type 0} (slot : Ghosts D) (o : Opening) (u : Outset) (p : PageToken) (start now : Hand D) (asked : DoesIn (IsAsked p.client (held_by o u start) []) start now) (is : IsReady slot o u now)
    (can : CanBePinned p (held_by o u start)) where
  abbrev h : Holdings
  h = held_by o u start

  same : held_by o u now ≡ h
  same = asked_held o u p.client start now asked

  its : Knows o u now
  its = knows slot o u now is

  pub can_now : CanBePinned p (held_by o u now)
  can_now = subst (CanBePinned p) (sym same) can

  some_now : IsSome ((held_by o u now).clients p.client)
  some_now = page_client_lives its p can_now.page

  some : IsSome (h.clients p.client)
  some = subst (λ (g : Holdings). IsSome (g.clients p.client)) same some_now

  pub asked_now : HasAsked now
  asked_now = has_asked p.client now.session h [] start.trail now.trail (does_at start.session now.session (sym asked.session) start.trail now.trail asked.does)

  -- so many bytes are wanted
  abbrev amount : ℕ
  amount = page_len p.name h

  -- what a turn entered was needed too
  module _ (new : Hand D) (before : EntersNeeded p.client amount start now) (needed : EntersNeeded p.client (page_len p.name (held_by o u now)) now new) where
    pub needs_turn : EntersNeeded p.client amount start new
    needs_turn = needs_more p.client amount start now new asked.session before (subst (λ (g : Holdings). EntersNeeded p.client (page_len p.name g) now new) same needed)

    -- and the refusal after it
    pub needs_refused : (back : IsReady slot o u new) (stays : new.session ≡ now.session) (call : Call) (entry : ℕ) (last : Hand D) → ActsThese (Refused call entry ∷ []) new last → IsReady slot o u last → EntersNeeded p.client amount start last
    needs_refused back stays call entry last acts ready =
        needs_more p.client amount start new last (stays ∙ asked.session) needs_turn
        (needs_step p.client amount slot o new last back.whole.stands ready.whole.stands (Refused call entry) (λ s. tt) acts)

  -- it goes on with a turn
  module _ (new : Hand D) (r : PinStep) (turn : PinIs o u p r now new) where
    turned : (answer : PinStep) → r ≡ answer → PinIs o u p answer now new
    turned answer answered = subst (λ (q : PinStep). PinIs o u p q now new) answered turn

    -- a turn never makes it another session's
    pub stays : new.session ≡ now.session
    stays = stays_at o u p now new r turn

    -- a page was written, or waited for
    pub asks_more : r ≡ step.Wrote → DoesIn (IsAsked p.client h []) start new
    asks_more answered =
        let did : DoesIn (λ events. (events ≡ []) ⊎ IsWrite p.client (held_by o u now) events) now new = turned step.Wrote answered in
        elim did.does.is [
          | inl none ↦ asks_still o u p.client start now asked new (did_so now new did none)
          | inr write ↦ asks_on o u p.client start now asked new (did_so now new did write)
        ]

    -- the page is pinned
    module _ (buf : Buffer) (answered : r ≡ step.Pinned buf) where
      pub asked_pin : DoesIn (IsPin p.client h p.name) start new
      asked_pin =
          let pinned : DoesIn (IsPinned p.name) now new = (turned (step.Pinned buf) answered).0 in
          did_more start now new asked pinned (pin_is p.client h p.name asked.does.events pinned.does.events asked.does.is pinned.does.is)

      pub shows_pin : ShowsLeft (page_of p.name h) h buf
      shows_pin = subst (λ (g : Holdings). ShowsLeft (page_of p.name g) g buf) same ((turned (step.Pinned buf) answered).1)

      pub stored_pin : ShowsStored o new.trail p.name (page_of p.name h) buf
      stored_pin = subst (λ (g : Holdings). ShowsStored o new.trail p.name (page_of p.name g) buf) same ((turned (step.Pinned buf) answered).2)

    -- its client lacks room for it
    module _ (entry : ℕ) (answered : r ≡ step.Refused entry) where
      lacks : LacksRoom (state_of now.state) now.session p.client (page_len p.name (held_by o u now)) (Some entry)
      lacks = lacks_room its p can_now.page (Some entry) ((turned (step.Refused entry) answered).0)

      as_it_was : new ≡ now
      as_it_was = (turned (step.Refused entry) answered).1

      pub may_refuse_lacking : (q : ℕ) → q ≡ p.name → MayRefusePin q entry new
      may_refuse_lacking q named =
          subst (λ (k : ℕ). MayRefusePin k entry new) (sym named)
          (subst (MayRefusePin p.name entry) (sym as_it_was)
          (may_refuse its now.trail is.rests.number asked_now p.client (page_len p.name (held_by o u now)) entry (Pin p.name) some_now
          (record { lives = can_now.page.lives; client = can_now.page.client }, refl) (turned (step.Refused entry) answered).0.stored lacks))

      pub was_lacking : (q : ℕ) → q ≡ p.name → (last : Hand D) → ActsThese (Refused (Pin q) entry ∷ []) new last → Refuses o u p.client (Pin p.name) start last (WriteFault entry)
      was_lacking q named last acts =
          was_refused o u p.client start now asked slot is (page_len p.name (held_by o u now)) entry (Pin p.name) some lacks last
          (subst (λ (x : Hand D). ActsThese (Refused (Pin p.name) entry ∷ []) x last) as_it_was (subst (λ (k : ℕ). ActsThese (Refused (Pin k) entry ∷ []) new last) named acts))

    -- its load ended badly
    module _ (e : Unread) (answered : r ≡ step.Unread e) where
      bad_pin : BadPin p.client p.name e now new
      bad_pin = (turned (step.Unread e) answered).0

      abbrev read : DoesIn (IsBadLoad p.name e) now new
      read = (turned (step.Unread e) answered).1

      pub may_refuse_unread : (q : ℕ) → q ≡ p.name → MayRefusePin q e.entry new
      may_refuse_unread q named = subst (λ (k : ℕ). MayRefusePin k e.entry new) (sym named) bad_pin.may

      charged : CanBeCharged p.name h
      charged = record {
        client = subst (λ (k : ℕ). IsSome (h.clients k)) (sym can.page.client) some;
        unused = subst (λ (k : ℕ). page_len p.name h ≤ unused_of k h) (sym can.page.client) can.unused;
      }

      rose_all : e.err ≡ ReadFault e.entry → failures_in (is_own now.session) now.trail < failures_in (is_own now.session) new.trail
      rose_all fault =
          subst (λ (es : List Entry). failures_in (is_own now.session) now.trail < failures_in (is_own now.session) es) (sym read.does.grew)
          (more_in_all now.session p.client now.trail read.does.more
          (subst (λ (es : List Entry). failures_in (is_for_own now.session p.client) now.trail < failures_in (is_for_own now.session p.client) es) read.does.grew (bad_pin.rose fault)))

      module _ (q : ℕ) (named : q ≡ p.name) (last : Hand D) (acts : ActsThese (Refused (Pin q) e.entry ∷ []) new last) where
        refusal : acts.events ≡ Refused (Pin p.name) e.entry ∷ []
        refusal = acts.is ∙ ap (λ (k : ℕ). Refused (Pin k) e.entry ∷ []) named

        abbrev end : DoesIn (λ events. events ≡ Refused (Pin q) e.entry ∷ []) new last
        end = acts_did new last acts (subst NoneOpens (sym acts.is) (refl, tt))

        abbrev front : DoesIn (λ events. events ≡ asked.does.events ++ read.does.events) start new
        front = did_more start now new asked read refl

        abbrev all : DoesIn (IsRefusal p.client h (Pin p.name) e.err) start last
        all = did_more start new last front end
            (unread_is p.client h p.name e.entry read.does.is.0 e.err ((asked.does.events ++ read.does.events) ++ acts.events) read.does.is.1
            (taken_is p.client h p.name e.entry read.does.is.0 asked.does.events read.does.events acts.events asked.does.is read.does.is.2 refusal))

        before : Grows (signs_by o start) (signs_by o now)
        before = did_grows o u start now asked

        behind : Grows (signs_by o new) (signs_by o last)
        behind = did_grows o u new last end

        failed_for : e.err ≡ ReadFault e.entry → (signs_by o start).failures_of p.client < (signs_by o last).failures_of p.client
        unfolding signs_in
        failed_for fault =
            let first = before.failures_of p.client in
            let rose = subst (λ (m : ℕ). failures_in (is_for_own now.session p.client) now.trail < failures_in (is_for_own m p.client) new.trail) (sym read.session) (bad_pin.rose fault) in
            let more = behind.failures_of p.client in
            omega (arith, first, rose, more)

        failed : e.err ≡ ReadFault e.entry → (signs_by o start).failures < (signs_by o last).failures
        unfolding signs_in
        failed fault =
            let first = before.failures in
            let rose = subst (λ (m : ℕ). failures_in (is_own now.session) now.trail < failures_in (is_own m) new.trail) (sym read.session) (rose_all fault) in
            let more = behind.failures in
            omega (arith, first, rose, more)

        stale : (wanted found : Mark) → read.does.is.0 ≡ ReadStale p.name wanted found → (signs_by o start).stale < (signs_by o last).stale
        unfolding signs_in
        stale wanted found is =
            let counts : Entry → Bool = λ d. is_stale_load d.event in
            let first = before.stale in
            let sum : length (filter counts (made_by new.trail now.session)) ≡ length (filter counts (made_by now.trail now.session)) + length (filter counts (by now.session read.does.events)) =
            counted_more counts now.session now.trail new.trail read.does.events read.does.own in
            let one : 0 < length (filter counts (by now.session read.does.events)) =
            stale_in now.session p.name wanted found read.does.events (subst (λ (d : Event). Evicts (PinLoad p.name ∷ d ∷ []) read.does.events) is read.does.is.2) in
            let rose = subst (λ (m : ℕ). length (filter counts (made_by now.trail now.session)) < length (filter counts (made_by new.trail m))) (sym read.session) (omega (arith, sum, one)) in
            let more = behind.stale in
            omega (arith, first, rose, more)

        -- the error shows in what grew
        shows_error : (err : PoolErr) → e.err ≡ err → EndsWith p.name e.entry err read.does.is.0 → Made h.session (IsRefusal p.client h (Pin p.name) err) (signs_by o start) (signs_by o last)
            → MayRefuse p.client (Pin p.name) (signs_by o start) (signs_by o last) err × WasAnswered err (signs_by o start) (signs_by o last)
        shows_error (ReadFault failure) is ends made =
            let fault : e.err ≡ ReadFault e.entry = is ∙ ap ReadFault ends.2 in
            (failed_for fault, read_answered h.session p.client h (signs_by o start) (signs_by o last) p.name failure (failed fault) made)
        shows_error (Stale wanted found) is ends made =
            ((ends.0, stale wanted found ends.1), stale_answered h.session p.client h (signs_by o start) (signs_by o last) p.name wanted found (stale wanted found ends.1) ends.0 made)
        shows_error _ is ends made = absurd ends

        pub was_unread : Refuses o u p.client (Pin p.name) start last e.err
        was_unread =
            let shown : MayRefuse p.client (Pin p.name) (signs_by o start) (signs_by o last) e.err × WasAnswered e.err (signs_by o start) (signs_by o last) = shows_error e.err refl read.does.is.1 (did_made o u start last all) in
            record {
              did = all;
              was = record {
                held =
                    did_held o u start last all
                    ∙ (calls_tell p.client h).refused (Pin p.name) e.err all.does.events (λ k same_call. subst (λ (j : ℕ). CanBeCharged j h) (ap pinned_name same_call) charged) all.does.is;
                cause = shown.0;
                answered = shown.1;
                entries = did_made o u start last all;
              };
              grows = did_grows o u start last all;
            }
