-- What shows of what calls of one owner make.
use Rattle.std.proofs.Common.{◌≡◌, ℕ, ◌+◌, ◌≤◌, List, ◌++◌, Bool, length, length-append, filter, Some, refl, sym, ap, ◌∙◌, subst, arith}
use Rattle.std.proofs.lemmas.List.Elements.{filter-append}
use Rattle.outside.specs.declared.slot.Slot.{Ghosts}
use Rattle.pool_model.specs.declared.event.Event.{Event}
use Rattle.pool_model.specs.declared.entry.Entry.{Entry}
use Rattle.pool_model.specs.Failures.{is_own, is_for_own, failures_in}
use Rattle.pool_model.proofs.Rising.{failures_grow}
use Rattle.store_api.specs.Signs.{Grows, is_stale_load, refuses_unpin}
use Rattle.store_api.specs.Entries.{by, Made}
use Rattle.own_entries.specs.OwnHoldings.{Outset, after_events, holdings_of}
use Rattle.own_entries.proofs.Outsets.{outsets_stay}
use Rattle.own_entries.proofs.Calls.{calls_run_on}
use Rattle.pin_core.specs.StateOf.{state_of}
use Rattle.session_calls.specs.declared.hand.Hand.{Hand}
use Rattle.local_pool.specs.Told.{outset_of, held_of, signs_of}
use Rattle.local_pool.specs.Making.{Makes}

-- entries that came are counted beside those before
counted_more : (counts : Entry → Bool) (before now more : List Entry) → now ≡ before ++ more → length (filter counts now) ≡ length (filter counts before) + length (filter counts more)
counted_more counts before now more grew =
    ap (λ (h : List Entry). length (filter counts h)) grew ∙ ap length (filter-append counts before more) ∙ length-append (filter counts before) (filter counts more)

-- whose entries they are
pub whose : {D : Type 0} (slot : Ghosts D) (own : Hand D) → (held_of slot own).session ≡ own.session
unfolding held_of
whose slot own = (outsets_stay (state_of own.state).block_len own.session (outset_of slot own.state) own.trail).whose

module _ {D : Type 0} (slot : Ghosts D) where
  module _ {P : List Event → Type 0} (old new : Hand D) (made : Makes slot P old new) where
    pub makes_held : held_of slot new ≡ after_events (held_of slot old) made.events
    unfolding held_of
    makes_held =
        ap (λ (n : ℕ). holdings_of n new.session (outset_of slot new.state) new.trail) made.block_len
        ∙ ap (λ (m : ℕ). holdings_of (state_of old.state).block_len m (outset_of slot new.state) new.trail) made.session
        ∙ ap (λ (u : Outset). holdings_of (state_of old.state).block_len old.session u new.trail) made.outset
        ∙ ap (holdings_of (state_of old.state).block_len old.session (outset_of slot old.state)) made.trail
        ∙ calls_run_on (state_of old.state).block_len old.session (outset_of slot old.state) old.trail made.events

    pub makes_grows : Grows (signs_of old) (signs_of new)
    unfolding signs_of
    makes_grows = record {
      failures = subst (λ (m : ℕ). failures_in (is_own old.session) old.trail ≤ failures_in (is_own m) new.trail) (sym made.session)
          (subst (λ (h : List Entry). failures_in (is_own old.session) old.trail ≤ failures_in (is_own old.session) h) (sym made.trail) (failures_grow (is_own old.session) refl old.trail (by old.session made.events)));
      failures_of = λ t. subst (λ (m : ℕ). failures_in (is_for_own old.session t) old.trail ≤ failures_in (is_for_own m t) new.trail) (sym made.session)
          (subst (λ (h : List Entry). failures_in (is_for_own old.session t) old.trail ≤ failures_in (is_for_own old.session t) h) (sym made.trail) (failures_grow (is_for_own old.session t) refl old.trail (by old.session made.events)));
      refused_unpins = let more = counted_more (λ e. refuses_unpin e.event) old.trail new.trail (by old.session made.events) made.trail in omega (arith, more);
      stale = let more = counted_more (λ e. is_stale_load e.event) old.trail new.trail (by old.session made.events) made.trail in omega (arith, more);
      spent = made.spent;
      trail = (by old.session made.events, ap Some made.trail);
    }

    -- the trail grew as the store's clauses say it
    pub makes_made : Made (held_of slot old).session P (signs_of old) (signs_of new)
    unfolding signs_of
    makes_made = (by old.session made.events, ap Some made.trail, (made.events, ap (λ (m : ℕ). by m made.events) (sym (whose slot old)), made.is))
