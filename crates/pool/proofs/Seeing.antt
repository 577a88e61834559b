-- What a session's call did over the value in hand, its seat sees of it, whatever others did meanwhile.
use Rattle.std.proofs.Common.{◌≡◌, Bool, refl, sym, ap, ◌∙◌}
use Rattle.outside.specs.declared.slot.Slot.{Ghosts}
use Rattle.atomic_table.specs.Seated.{TableId}
use Rattle.pool_model.specs.State.{Opening}
use Rattle.pool_model.specs.Legal.{state_after}
use Rattle.pin_core.specs.declared.tally.Tally.{Tally}
use Rattle.turn_table.specs.Face.{Spot}
use Rattle.session_calls.specs.declared.hand.Hand.{Hand}
use Rattle.session_calls.specs.Calls.{in_hand, in_turn}
use Rattle.session_calls.specs.Ready.{IsReady}
use Rattle.session_calls.proofs.Carried.{Carries}
use Rattle.pool.specs.declared.item.Item.{Item}
use Rattle.pool.specs.declared.ledger.Ledger.{Ledger}
use Rattle.pool.specs.Sitting.{Sitting, held_by, shared}
use Rattle.pool.specs.Turning.{IsInTurn, SitsAgain}
use Rattle.pool.specs.Viewing.{seated}
use Rattle.pool.proofs.Calling.{declined_then, did_none_then, did_then, fresh_as_was}
use Rattle.pool.proofs.Doings.{did_acts}
use Rattle.pool.proofs.Stays.{acts_none}

module _ {D : Type 0} {slot : Ghosts D} {o : Opening} {told : Bool} {tally : Tally} {was seen : Sitting} {spot : Spot Item} {hand next : Hand D} (same : was ≡ seen) (begun : IsInTurn slot o told tally was spot hand)
    (ready : IsReady slot o (shared told) next) {now : Spot Item} {ledger : Ledger} (ended : SitsAgain o told ledger next (record { number = next.session; spot = now }))
    {lock : TableId} (here : now.table ≡ lock) (first : seen.spot.table ≡ lock) where
  abbrev it : Sitting
  it = record { number = was.number; spot = now }

  -- of a call that may have given the value back in between
  pub call_seen : Carries (in_hand o (shared told) hand next) (seated o told seen it)
  call_seen = record {
    holds = begun.held ∙ ap (held_by o told) same;
    fresh = fresh_as_was same begun;
    opening = refl;
    history = sym ended.seen;
    state = ready.whole.stands.state ∙ ap (state_after o) (sym ended.seen);
    did = λ P. did_then same begun ended here first (λ h. P);
    same = did_none_then same begun ended here first;
    refused = declined_then same begun ended;
  }

  -- of a call of one turn
  pub turn_seen : Carries (in_turn o (shared told) hand next) (seated o told seen it)
  turn_seen = record {
    holds = begun.held ∙ ap (held_by o told) same;
    fresh = fresh_as_was same begun;
    opening = refl;
    history = sym ended.seen;
    state = ready.whole.stands.state ∙ ap (state_after o) (sym ended.seen);
    did = λ P acts. did_acts same begun next ended acts here first;
    same = λ none. did_acts same begun next ended (acts_none hand next none) here first;
    refused = λ t what e never. absurd never;
  }
