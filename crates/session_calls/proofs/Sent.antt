-- A page goes out to be written by the maker that has the value in hand.
use Rattle.std.proofs.Common.{◌≡◌, ℕ, ◌+◌, List, [], ◌∷◌, ◌++◌, Bool, Option, unwrap_or, refl, sym, ap, ◌∙◌, subst, arith}
use Rattle.std.specs.FinMap.{get}
use Rattle.std.specs.List.{sum_by}
use Rattle.outside.specs.declared.slot.Slot.{Ghosts}
use Rattle.reservation_tree.proofs.Maps.{get_same}
use Rattle.pool_model.specs.declared.event.Event.TheVariants.{StartWrite}
use Rattle.pool_model.specs.declared.entry.Entry.{Entry}
use Rattle.pool_model.specs.State.{Opening, Dirty, Pinned, Page, State, page_at, no_page}
use Rattle.pool_model.specs.MayFollow.{MayFollow}
use Rattle.pool_model.specs.Legal.{state_after}
use Rattle.pool_model.specs.LookingBack.{content_from}
use Rattle.pool_model.specs.OwnLaws.{IsContent}
use Rattle.pool_model.proofs.Fronts.{legal_grows_so}
use Rattle.pool_model.proofs.OwnEntries.{content_more}
use Rattle.pool_model.proofs.Resting.{legal_contents_are_told}
use Rattle.pin_core.specs.declared.jobs.WriteJob.{WriteJob}
use Rattle.pin_core.specs.StateOf.{state_of}
use Rattle.pin_core.specs.Standing.{StandsFor, Enters}
use Rattle.pin_core.specs.calls.Jobs.{IsWriteJob}
use Rattle.pin_core.specs.Tallies.{silence, tally_of}
use Rattle.pin_core.specs.calls.Turns.{IsStarted, start_entry}
use Rattle.session_calls.specs.declared.hand.Hand.{Hand}
use Rattle.session_calls.specs.declared.count.Count.{Count}
use Rattle.session_calls.specs.declared.count.Count.TheVariants.{Out}
use Rattle.session_calls.specs.Moving.{quota_at, slots_out}
use Rattle.session_calls.specs.Outgoing.{CountsWhole, no_tally, tally_or}
use Rattle.session_calls.specs.Ready.{StandsWhole}
use Rattle.session_calls.specs.Flying.{Sends}
use Rattle.session_calls.proofs.Out.{out_started}
use Rattle.session_calls.proofs.Outgoing.{counts_went, tally_last}
use Rattle.session_calls.proofs.Quotas.{quota_stays}
use Rattle.session_calls.proofs.Spare.{ones}
use Rattle.session_calls.proofs.Waiting.{IsDirtyOf, newest_in}

module _ {D : Type 0} (slot : Ghosts D) (o : Opening) (told : Bool) (hand went : Hand D) (whole : StandsWhole slot o told hand.trail hand.counts hand.state)
    (c : ℕ) (job : WriteJob D) (started : IsStarted slot hand.session c job hand.state went.state) where
  abbrev s : State
  s = state_of hand.state

  abbrev p : ℕ
  p = job.id.name

  abbrev e : Entry
  e = start_entry hand.session p

  -- it was the client's newest dirty page
  pub waits : IsDirtyOf s c p
  waits = newest_in o hand.trail whole.stands.legal s whole.stands.state c p started.older started.newest

  module _ (enters : Enters slot (e ∷ []) job.row [] hand.state went.state) (trail_is : went.trail ≡ hand.trail ++ e ∷ [])
      (counts_are : went.counts ≡ hand.counts ++ Out p (tally_of slot job.row) ∷ []) (session_is : went.session ≡ hand.session) where
    stood : StandsFor slot o (hand.trail ++ e ∷ []) went.state
    stood = enters.stands o hand.trail whole.stands

    stands_now : StandsFor slot o went.trail went.state
    stands_now = subst (λ (h : List Entry). StandsFor slot o h went.state) (sym trail_is) stood

    -- its content is what was left in it last
    content : job.buf.bytes ≡ content_from p [] went.trail
    content =
        let it : IsContent o hand.trail (state_after o hand.trail) p waits.page =
        legal_contents_are_told o hand.trail whole.stands.legal p waits.page (ap (λ (t : State). get t.pages p) (sym whole.stands.state) ∙ waits.lives) in
        started.content o hand.trail whole.stands
        ∙ it.left (it.rests (λ count pinned. let never : Dirty ≡ Pinned count = sym waits.dirty ∙ pinned in cc)) []
        ∙ sym (content_more p [] hand.trail e) ∙ ap (content_from p []) (sym trail_is)

    -- its slots are out with it
    out_more : slots_out (state_of went.state).pages ≡ slots_out s.pages + (page_at s p).blocks
    out_more =
        let may : MayFollow hand.trail (state_after o hand.trail) e = (legal_grows_so o hand.trail (e ∷ []) stood.legal).0 in
        ap (λ (t : State). slots_out t.pages) enters.state ∙ out_started (λ p b. b) hand.trail s hand.session p (subst (λ (t : State). MayFollow hand.trail t e) (sym whole.stands.state) may)

    blocks : sum_by (λ d. 1) job.row ≡ (page_at s p).blocks
    blocks =
        ones job.row ∙ started.is.slots ∙ ap (λ (t : State). (page_at t p).blocks) enters.state ∙ ap (λ (x : Option Page). (unwrap_or x no_page).blocks) (get_same s.pages p _)

    -- and are counted
    sums : CountsWhole slot went.trail went.counts went.state
    sums =
        subst (λ (es : List Count). CountsWhole slot went.trail es went.state) (sym counts_are)
        (subst (λ (h : List Entry). CountsWhole slot h (hand.counts ++ Out p (tally_of slot job.row) ∷ []) went.state) (sym trail_is)
        (counts_went slot o hand.trail hand.counts hand.state whole.stands whole.sums hand.session [] (StartWrite p) p job.row went.state tt refl stood
        (λ measure. let moved = enters.slots measure in omega (arith, moved))))

    pub sends : Sends slot o told hand went job
    sends = record {
      session = session_is;
      trail = trail_is;
      counts = counts_are;
      quotas = λ k. ap (λ (t : State). quota_at t k) enters.state ∙ quota_stays s e k refl;
      whole = record {
        stands = stands_now;
        home = let moved = enters.slots (λ d. 1) in let home = whole.home in omega (arith, moved, home, out_more, blocks);
        tell = λ all. let moved = enters.slots (silence slot) in let none = whole.tell all in omega (arith, moved, none);
        sums = sums;
      };
      out = record {
        is = subst (λ (t : State). IsWriteJob t job) stands_now.state started.is;
        by = started.by;
        content = content;
        noted = sums.pages;
        counts = ap (tally_or no_tally p) counts_are ∙ tally_last hand.counts p (tally_of slot job.row);
        tell = λ all. let moved = enters.slots (silence slot) in let none = whole.tell all in omega (arith, moved, none);
      };
    }
