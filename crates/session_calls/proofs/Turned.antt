-- One turn of a call that wants room: a page goes out and comes back.
use Rattle.std.proofs.Common.{◌≡◌, ℕ, ◌<◌, List, [], ◌∷◌, ◌++◌, Option, None, IsSome, unwrap_or, refl, sym, ap, ◌∙◌, subst}
use Rattle.std.proofs.lemmas.List.{append_assoc}
use Rattle.outside.specs.declared.slot.Slot.{Ghosts}
use Rattle.reservation_tree.proofs.Maps.{get_same}
use Rattle.pool_model.specs.declared.event.Event.{Event}
use Rattle.pool_model.specs.declared.event.Event.TheVariants.{StartWrite, WriteOk, WriteFailed}
use Rattle.pool_model.specs.declared.entry.Entry.{Entry}
use Rattle.pool_model.specs.State.{Opening, Page, State, page_at, no_page}
use Rattle.pool_model.specs.Sums.{HasRoom}
use Rattle.pool_model.specs.Effects.{after}
use Rattle.pool_model.specs.Legal.{run}
use Rattle.store_api.specs.Entries.{by}
use Rattle.own_entries.specs.OwnHoldings.{Outset}
use Rattle.own_entries.specs.AboveLaws.{AllBy}
use Rattle.pin_core.specs.declared.jobs.WriteJob.{WriteJob}
use Rattle.pin_core.specs.StateOf.{state_of}
use Rattle.pin_core.specs.Standing.{Enters}
use Rattle.pin_core.specs.Tallies.{tally_of}
use Rattle.pin_core.specs.calls.Turns.{IsStarted, failure_of, start_entry}
use Rattle.session_calls.specs.Writing.{IsEnd, IsWrite, writes_left}
use Rattle.session_calls.proofs.Pages.{owner_is, page_held}
use Rattle.session_calls.proofs.Waiting.{IsDirtyOf, out, written_left, unwritten_left}
use Rattle.session_calls.proofs.Sent.{sends, waits}
use Rattle.session_calls.specs.declared.hand.Hand.{Hand}
use Rattle.session_calls.specs.declared.count.Count.{Count}
use Rattle.session_calls.specs.declared.count.Count.TheVariants.{Out}
use Rattle.session_calls.specs.Ready.{IsResting}
use Rattle.session_calls.specs.Acting.{held_by}
use Rattle.session_calls.specs.Doing.{Does}
use Rattle.session_calls.specs.Having.{Sight, MayGive, IsAtWork}
use Rattle.session_calls.specs.Flying.{Sends}
use Rattle.session_calls.specs.Jobs.{DoesIn, CanWrite, Wrote}
use Rattle.session_calls.specs.Needing.{EntersNeeded}
use Rattle.session_calls.proofs.Entered.{Entered}
use Rattle.session_calls.proofs.Alone.{all_front}
use Rattle.session_calls.proofs.Between.{rests_written, worked_on}
use Rattle.session_calls.proofs.Doing.{does_all, does_more}
use Rattle.session_calls.proofs.Knowing.{Knows, knows}
use Rattle.session_calls.proofs.Needs.{needs_write, state_grew}
use Rattle.session_calls.proofs.Steps.{entered_does}

end_left : (s : State) (m c p : ℕ) (end : Event) → IsEnd p end
    → writes_left m c (after (out s m p) (record { maker = m; event = WriteOk p })) < writes_left m c s
    → ((before now : ℕ) → writes_left m c (after (out s m p) (record { maker = m; event = WriteFailed p before now })) < writes_left m c s)
    → writes_left m c (run s (by m (StartWrite p ∷ end ∷ []))) < writes_left m c s
end_left s m c p (WriteOk q) is good bad = subst (λ (r : ℕ). writes_left m c (run s (by m (StartWrite p ∷ WriteOk r ∷ []))) < writes_left m c s) (sym is) good
end_left s m c p (WriteFailed q before now) is good bad = subst (λ (r : ℕ). writes_left m c (run s (by m (StartWrite p ∷ WriteFailed r before now ∷ []))) < writes_left m c s) (sym is) (bad before now)
end_left s m c p _ is good bad = absurd is

module _ {D : Type 0} (slot : Ghosts D) (o : Opening) (u : Outset) (seen : Sight) (hand : Hand D) (was : IsAtWork slot o u seen hand) where
  module _ (c : ℕ) (some : IsSome ((held_by o u hand).clients c)) (job : WriteJob D) (went : Hand D) (started : IsStarted slot hand.session c job hand.state went.state)
      (enters : Enters slot (start_entry hand.session job.id.name ∷ []) job.row [] hand.state went.state)
      (trail_is : went.trail ≡ hand.trail ++ start_entry hand.session job.id.name ∷ [])
      (counts_are : went.counts ≡ hand.counts ++ Out job.id.name (tally_of slot job.row) ∷ []) (session_is : went.session ≡ hand.session) where
    abbrev s : State
    s = state_of hand.state

    abbrev p : ℕ
    p = job.id.name

    abbrev e : Entry
    e = start_entry hand.session job.id.name

    sent : Sends slot o u.told hand went job
    sent = sends slot o u.told hand went was.ready.whole c job started enters trail_is counts_are session_is

    known : Knows o u hand
    known = knows slot o u hand was.ready

    it : IsDirtyOf s c p
    it = waits slot o u.told hand went was.ready.whole c job started

    -- the page is the session's
    whose : (page_at (state_of went.state) p).session ≡ hand.session
    whose =
        ap (λ (t : State). (page_at t p).session) enters.state ∙ ap (λ (x : Option Page). (unwrap_or x no_page).session) (get_same s.pages p _)
        ∙ ap (λ (x : Page). x.session) it.is ∙ owner_is known c p it.page some it.lives it.client

    pub can_write : CanWrite slot u.told job went
    can_write = record {
      is = started.is;
      by = started.by ∙ sym session_is;
      whose = whose ∙ sym session_is;
      content = sent.out.content;
      counts = sent.out.counts;
      tell = sent.out.tell;
    }

    abbrev begun : Entered (λ events. events ≡ StartWrite p ∷ []) hand went
    begun = record {
      events = StartWrite p ∷ [];
      is = refl;
      trail = trail_is;
      session = session_is;
      opens = (refl, tt);
      quotas = sent.quotas;
      went = Out p (tally_of slot job.row) ∷ [];
      counts = counts_are;
    }

    pub may_write : MayGive slot o u.told seen went
    may_write = record { worked = worked_on o u seen hand went was.worked begun; whole = sent.whole }

    -- the page came back
    module _ (now : Sight) (new : Hand D) (may : MayGive slot o u.told now new) (wrote : Wrote job went new) where
      is_write : IsWrite c (held_by o u hand) (StartWrite p ∷ wrote.end ∷ [])
      is_write = record {
        page = p;
        own = page_held known c p it.page some it.lives it.client;
        end = wrote.end;
        ended = wrote.ended;
        are = refl;
      }

      ended : Does hand.session (λ events. events ≡ wrote.end ∷ []) went.trail new.trail
      ended = subst (λ (m : ℕ). Does m (λ events. events ≡ wrote.end ∷ []) went.trail new.trail) session_is wrote.did.does

      written : Does hand.session (IsWrite c (held_by o u hand)) hand.trail new.trail
      written =
          does_more hand.session hand.trail went.trail new.trail (entered_does hand went begun (refl, tt)) ended
          (subst (λ (es : List Event). IsWrite c (held_by o u hand) (StartWrite p ∷ es)) (sym ended.is) is_write)

      pub wrote_one : DoesIn (IsWrite c (held_by o u hand)) hand new
      wrote_one = record {
        session = wrote.did.session ∙ session_is;
        went = Out p (tally_of slot job.row) ∷ wrote.did.went;
        counts = wrote.did.counts ∙ ap (λ (es : List Count). es ++ wrote.did.went) counts_are ∙ append_assoc hand.counts (Out p (tally_of slot job.row) ∷ []) wrote.did.went;
        does = written;
      }

      pub works_on : IsAtWork slot o u now new
      works_on = record {
        worked = may.worked;
        ready = record {
          whole = may.whole;
          rests = subst (λ (m : ℕ). IsResting o u m new.trail) (sym wrote_one.session) (rests_written o u c hand.session hand.trail new.trail written was.ready.rests);
        };
      }

      pub needed_out : (amount : ℕ) → (HasRoom s c amount → ⊥) → EntersNeeded c amount hand new
      needed_out amount full =
          needs_write c amount slot o hand went new p wrote.end trail_is session_is enters.state full sent.whole.stands may.whole.stands wrote.ended wrote.did

      -- where the session alone made the history, its two entries made the state
      module _ (all : AllBy new.session new.trail) where
        state_is : state_of new.state ≡ run s (by hand.session (StartWrite p ∷ wrote.end ∷ []))
        state_is =
            let own : AllBy hand.session (went.trail ++ ended.more) = subst (AllBy hand.session) ended.grew (subst (λ (m : ℕ). AllBy m new.trail) wrote_one.session all) in
            let grew : new.trail ≡ went.trail ++ by hand.session (wrote.end ∷ []) =
            does_all hand.session went.trail new.trail ended ((all_front hand.session went.trail ended.more own).1) ∙ ap (λ (es : List Event). went.trail ++ by hand.session es) ended.is in
            state_grew c 0 slot o went new (by hand.session (wrote.end ∷ [])) sent.whole.stands may.whole.stands grew
            ∙ ap (λ (t : State). run t (by hand.session (wrote.end ∷ []))) enters.state

        pub left_turn : failure_of s hand.session c ≡ None → writes_left new.session c (state_of new.state) < writes_left hand.session c s
        left_turn none =
            let own : (page_at s p).session ≡ hand.session = ap (λ (x : Page). x.session) it.is ∙ owner_is known c p it.page some it.lives it.client in
            subst (λ (m : ℕ). writes_left m c (state_of new.state) < writes_left hand.session c s) (sym wrote_one.session)
            (subst (λ (t : State). writes_left hand.session c t < writes_left hand.session c s) (sym state_is)
            (end_left s hand.session c p wrote.end wrote.ended
            (written_left s hand.session c p it started.older started.newest none)
            (unwritten_left s hand.session c p it started.older started.newest none known.session known.lives own)))
