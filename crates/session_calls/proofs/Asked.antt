-- A call begins, its client's pages are written, and it goes on or is refused.
use Rattle.std.proofs.Common.{◌≡◌, ℕ, ◌<◌, List, [], ◌∷◌, ◌++◌, true, false, Some, IsSome, All, refl, sym, ap, ◌∙◌, subst, arith}
use Rattle.std.proofs.lemmas.List.{append-nil}
use Rattle.std.proofs.lemmas.List.Elements.{All-head, All-tail}
use Rattle.outside.specs.declared.slot.Slot.{Ghosts}
use Rattle.reservation_tree.specs.declared.errors.PoolErr.TheVariants.{WriteFault}
use Rattle.pool_model.specs.declared.call.Call.{Call}
use Rattle.pool_model.specs.declared.event.Event.{Event}
use Rattle.pool_model.specs.declared.event.Event.TheVariants.{Ask, Evict, Refused}
use Rattle.pool_model.specs.declared.entry.Entry.{Entry}
use Rattle.pool_model.specs.State.{Opening, State}
use Rattle.pool_model.specs.LookingBack.{opens}
use Rattle.pool_model.specs.Failures.{is_own, is_for_own, failures_in, asks_in}
use Rattle.pool_model.specs.Legal.{state_after, IsLegal}
use Rattle.pool_model.specs.MayFollow.{MayFollow}
use Rattle.store_api.specs.Holdings.{Holdings}
use Rattle.store_api.specs.Signs.{Grows}
use Rattle.store_api.specs.Entries.{IsAsked, IsEvict, IsTaken}
use Rattle.store_api.proofs.Causes.{write_answered}
use Rattle.own_entries.specs.OwnHoldings.{Outset}
use Rattle.own_entries.proofs.Calls.{asked_hold}
use Rattle.pin_core.specs.StateOf.{state_of}
use Rattle.pin_core.specs.Standing.{StandsFor, slots_home}
use Rattle.pin_core.specs.Tallies.{silence}
use Rattle.pin_core.specs.calls.Returning.{EntersWhere}
use Rattle.pin_core.specs.calls.Refusing.{refusal_of}
use Rattle.pin_core.specs.calls.Turns.{LacksRoom}
use Rattle.session_calls.specs.Coming.{Evicts}
use Rattle.session_calls.specs.Wanting.{IsRoomCall, Wants}
use Rattle.session_calls.specs.Writing.{IsWrite}
use Rattle.session_calls.proofs.Failures.{rose_for, rose_in_all}
use Rattle.session_calls.proofs.Lists.{NoneOpens}
use Rattle.session_calls.proofs.Asks.{asked_none, asked_more, asked_last}
use Rattle.session_calls.proofs.RoomCalls.{may_refuse}
use Rattle.session_calls.proofs.Roomed.{stored_for}
use Rattle.session_calls.specs.declared.hand.Hand.{Hand}
use Rattle.session_calls.specs.declared.count.Count.{Count}
use Rattle.session_calls.specs.declared.turning.Turn.{Turn}
use Rattle.session_calls.specs.declared.turning.Turn.TheVariants as turn
use Rattle.session_calls.specs.Told.{signs_in}
use Rattle.session_calls.specs.Moving.{quota_at, slots_out}
use Rattle.session_calls.specs.Outgoing.{CountsWhole}
use Rattle.session_calls.specs.Ready.{IsReady, IsResting}
use Rattle.session_calls.specs.Acting.{Acts, ActsThese, held_by, signs_by}
use Rattle.session_calls.specs.Doing.{Does}
use Rattle.session_calls.specs.Having.{Sight, IsAtWork}
use Rattle.session_calls.specs.Jobs.{DoesIn}
use Rattle.session_calls.specs.Turning.{Refuses, TurnIs}
use Rattle.session_calls.proofs.Entered.{acts_entered}
use Rattle.session_calls.proofs.Between.{rests_on, worked_on}
use Rattle.session_calls.proofs.Did.{does_at, acts_did, did_more, did_so, did_held, did_grows, did_made}
use Rattle.session_calls.proofs.Knowing.{Knows, knows}
use Rattle.session_calls.proofs.Outgoing.{counts_rest}
use Rattle.session_calls.proofs.Quotas.{quota_stays}
use Rattle.session_calls.proofs.SinceAsked.{does_ask, has_asked}
use Rattle.session_calls.proofs.Steps.{acts_does}

evict_opens : (e : Event) → IsEvict e → opens e ≡ false
evict_opens (Evict p) is = refl
evict_opens _ is = absurd is

pub evicts_open : (evicts last : List Event) → All IsEvict evicts → NoneOpens last → NoneOpens (evicts ++ last)
evicts_open [] last are none = none
evicts_open (e ∷ evicts) last are none = (evict_opens e (All-head IsEvict e evicts are), evicts_open evicts last (All-tail IsEvict e evicts are) none)

module _ {D : Type 0} where
  module _ (slot : Ghosts D) (o : Opening) (u : Outset) where
    -- a session that is at work goes on with a step
    pub works_with : {P : List Event → Type 0} (seen : Sight) (old new : Hand D) → IsAtWork slot o u seen old → Acts P old new → IsReady slot o u new → IsAtWork slot o u seen new
    works_with seen old new was acts ready = record { worked = worked_on o u seen old new was.worked (acts_entered old new acts); ready = ready }

    -- a refusal is entered, and changes nothing else
    module _ (old new : Hand D) (was : IsReady slot o u old) (call : Call) (entry : ℕ) (may : MayFollow old.trail (state_of old.state) (refusal_of old.session call entry))
        (enters : EntersWhere slot (λ q h. MayFollow h (state_of old.state) (refusal_of old.session call entry)) (refusal_of old.session call entry) [] old.state new.state)
        (trail : new.trail ≡ old.trail ++ refusal_of old.session call entry ∷ []) (session : new.session ≡ old.session) (counts : new.counts ≡ old.counts) where
      pub no_slot : (measure : D → ℕ) → slots_home measure new.state ≡ slots_home measure old.state
      no_slot measure = let moved = enters.slots measure in omega (arith, moved)

      abbrev pub acts_refused : ActsThese (Refused call entry ∷ []) old new
      acts_refused = record {
        events = Refused call entry ∷ [];
        is = refl;
        trail = trail;
        session = session;
        opens = (refl, tt);
        quotas = λ k. ap (λ (s : State). quota_at s k) enters.state ∙ quota_stays (state_of old.state) (refusal_of old.session call entry) k refl;
        slots = no_slot;
        counts = counts;
      }

      stood : StandsFor slot o (old.trail ++ refusal_of old.session call entry ∷ []) new.state
      stood = enters.stands o old.trail was.whole.stands may

      pub ready_refused : IsReady slot o u new
      ready_refused = record {
        whole = record {
          stands = subst (λ (h : List Entry). StandsFor slot o h new.state) (sym trail) stood;
          home =
              let moved = enters.slots (λ d. 1) in
              let home = was.whole.home in
              let same : slots_out (state_of new.state).pages ≡ slots_out (state_of old.state).pages = ap (λ (s : State). slots_out s.pages) enters.state in
              omega (arith, moved, home, same);
          tell = λ told. let moved = enters.slots (silence slot) in let none = was.whole.tell told in omega (arith, moved, none);
          sums =
              subst (λ (l : List Count). CountsWhole slot new.trail l new.state) (sym counts)
              (subst (λ (h : List Entry). CountsWhole slot h old.counts new.state) (sym trail)
              (counts_rest slot o old.trail old.counts old.state was.whole.stands was.whole.sums old.session (Refused call entry ∷ []) new.state (refl, tt) stood no_slot));
        };
        rests = subst (λ (m : ℕ). IsResting o u m new.trail) (sym session)
            (rests_on o u old.session old.trail new.trail (acts_does old new acts_refused (refl, tt)) refl (λ p. refl) was.rests);
      }

  module _ (o : Opening) (u : Outset) where
    -- a call began
    pub asked_first : (t : ℕ) (start new : Hand D) → ActsThese (Ask ∷ []) start new → DoesIn (IsAsked t (held_by o u start) []) start new
    asked_first t start new acts =
        did_so start new (acts_did start new acts (subst NoneOpens (sym acts.is) (refl, tt))) (subst (IsAsked t (held_by o u start) []) (sym acts.is) (asked_none t (held_by o u start)))

    -- a turn that refuses changes nothing
    pub lacks_then : (t amount entry : ℕ) (old new : Hand D) → TurnIs o u t amount (turn.Refused entry) old new → LacksRoom (state_of new.state) new.session t amount (Some entry)
    lacks_then t amount entry old new is = subst (λ (h : Hand D). LacksRoom (state_of h.state) h.session t amount (Some entry)) (sym is.1) is.0

    module _ (t : ℕ) (start now : Hand D) (asked : DoesIn (IsAsked t (held_by o u start) []) start now) where
      -- a call that asked and wrote left what is held as it was
      pub asked_held : held_by o u now ≡ held_by o u start
      asked_held =
          did_held o u start now asked ∙ asked_hold t (held_by o u start) [] asked.does.events asked.does.is

      -- it wrote once more
      pub asks_on : (new : Hand D) → DoesIn (IsWrite t (held_by o u now)) now new → DoesIn (IsAsked t (held_by o u start) []) start new
      asks_on new write =
          did_more start now new asked write
          (asked_more t (held_by o u start) asked.does.events write.does.events asked.does.is (subst (λ (h : Holdings). IsWrite t h write.does.events) asked_held write.does.is))

      -- it waited once more
      pub asks_still : (new : Hand D) → DoesIn (λ events. events ≡ []) now new → DoesIn (IsAsked t (held_by o u start) []) start new
      asks_still new none =
          did_more start now new asked none
          (subst (IsAsked t (held_by o u start) []) (sym (ap (λ (es : List Event). asked.does.events ++ es) none.does.is ∙ append-nil asked.does.events)) asked.does.is)

      -- so it goes on with any turn
      pub turned_on : (amount : ℕ) (new : Hand D) (r : Turn) → TurnIs o u t amount r now new → DoesIn (IsAsked t (held_by o u start) []) start new
      turned_on amount new turn.Ready is = subst (DoesIn (IsAsked t (held_by o u start) []) start) (sym is.1) asked
      turned_on amount new (turn.Refused entry) is = subst (DoesIn (IsAsked t (held_by o u start) []) start) (sym is.1) asked
      turned_on amount new turn.Wrote is = asks_on new is.1
      turned_on amount new turn.Waited is = asks_still new is.2

      -- it asked, and then this
      pub asked_then : (last : List Event) (new : Hand D) → ActsThese last now new → NoneOpens last → DoesIn (IsAsked t (held_by o u start) last) start new
      asked_then last new acts none =
          did_more start now new asked (acts_did now new acts (subst NoneOpens (sym acts.is) none))
          (subst (λ (es : List Event). IsAsked t (held_by o u start) last (asked.does.events ++ es)) (sym acts.is) (asked_last t (held_by o u start) asked.does.events last asked.does.is))

      -- it asked, clean pages went, and then this
      pub taken_then : (last : List Event) (new : Hand D) → Acts (Evicts last) now new → NoneOpens last → DoesIn (IsTaken t (held_by o u start) last) start new
      taken_then last new acts none =
          let evicts : List Event = acts.is.0 in
          did_more start now new asked (acts_did now new acts (subst NoneOpens (sym acts.is.2) (evicts_open evicts last acts.is.1 none)))
          (evicts, acts.is.1, subst (λ (es : List Event). IsAsked t (held_by o u start) (evicts ++ last) (asked.does.events ++ es)) (sym acts.is.2) (asked_last t (held_by o u start) asked.does.events (evicts ++ last) asked.does.is))

      module _ (slot : Ghosts D) (is : IsReady slot o u now) (amount entry : ℕ) (call : Call) (some : IsSome ((held_by o u start).clients t)) (lacks : LacksRoom (state_of now.state) now.session t amount (Some entry)) where
        known : Knows o u now
        known = knows slot o u now is

        abbrev asked_now : Does now.session (IsAsked t (held_by o u start) []) start.trail now.trail
        asked_now = does_at start.session now.session (sym asked.session) start.trail now.trail asked.does

        -- so it may be refused for a failure
        pub may_be_refused : Wants t amount (held_by o u start) call → IsRoomCall call → MayFollow now.trail (state_of now.state) (refusal_of now.session call entry)
        may_be_refused wants room =
            may_refuse known now.trail is.rests.number (has_asked t now.session (held_by o u start) [] start.trail now.trail asked_now) t amount entry call
            (subst (λ (h : Holdings). IsSome (h.clients t)) (sym asked_held) some) (subst (λ (h : Holdings). Wants t amount h call) (sym asked_held) wants) (stored_for (state_of now.state) call room) lacks

        -- which was counted since the call began
        legal : IsLegal o (start.trail ++ asked.does.more)
        legal = subst (IsLegal o) asked.does.grew is.whole.stands.legal

        here : state_of now.state ≡ state_after o (start.trail ++ asked.does.more)
        here = is.whole.stands.state ∙ ap (state_after o) asked.does.grew

        since : asks_in now.session asked.does.more ≡ true
        since = does_ask t now.session (held_by o u start) [] start.trail now.trail asked_now

        rose : failures_in (is_for_own start.session t) start.trail < failures_in (is_for_own now.session t) now.trail
        rose =
            subst (λ (m : ℕ). failures_in (is_for_own m t) start.trail < failures_in (is_for_own now.session t) now.trail) asked.session
            (subst (λ (h : List Entry). failures_in (is_for_own now.session t) start.trail < failures_in (is_for_own now.session t) h) (sym asked.does.grew)
            (rose_for known o start.trail asked.does.more legal here t entry lacks.failed since))

        rose_all : failures_in (is_own start.session) start.trail < failures_in (is_own now.session) now.trail
        rose_all =
            subst (λ (m : ℕ). failures_in (is_own m) start.trail < failures_in (is_own now.session) now.trail) asked.session
            (subst (λ (h : List Entry). failures_in (is_own now.session) start.trail < failures_in (is_own now.session) h) (sym asked.does.grew)
            (rose_in_all known o start.trail asked.does.more legal here t entry lacks.failed since))

        pub was_refused : (new : Hand D) → ActsThese (Refused call entry ∷ []) now new → Refuses o u t call start new (WriteFault entry)
        unfolding signs_in
        was_refused new acts =
            let all : DoesIn (IsAsked t (held_by o u start) (Refused call entry ∷ [])) start new = asked_then (Refused call entry ∷ []) new acts (refl, tt) in
            let grew : Grows (signs_by o now) (signs_by o new) = did_grows o u now new (acts_did now new acts (subst NoneOpens (sym acts.is) (refl, tt))) in
            let for_client : failures_in (is_for_own start.session t) start.trail < failures_in (is_for_own new.session t) new.trail = let first = rose in let more = grew.failures_of t in omega (arith, first, more) in
            let in_all : failures_in (is_own start.session) start.trail < failures_in (is_own new.session) new.trail = let first = rose_all in let more = grew.failures in omega (arith, first, more) in
            record {
              did = all;
              was = record {
                held = did_held o u start new all ∙ asked_hold t (held_by o u start) (Refused call entry ∷ []) all.does.events all.does.is;
                cause = for_client;
                answered = write_answered (held_by o u start).session t (held_by o u start) (signs_by o start) (signs_by o new) call entry in_all (did_made o u start new all);
                entries = did_made o u start new all;
              };
              grows = did_grows o u start new all;
            }
