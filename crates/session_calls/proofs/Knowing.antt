-- What is known of a session that has the pool's value in hand.
use Rattle.std.proofs.Common.{◌≡◌, refl}
use Rattle.outside.specs.declared.slot.Slot.{Ghosts}
use Rattle.pool_model.specs.State.{Opening}
use Rattle.own_entries.specs.OwnHoldings.{Outset}
use Rattle.own_entries.specs.HeldLaws.{own_holdings}
use Rattle.pin_core.specs.StateOf.{state_of}
use Rattle.session_calls.proofs.Known.{KnownTo, left_of, known}
use Rattle.session_calls.specs.declared.hand.Hand.{Hand}
use Rattle.session_calls.specs.Told.{held_in}
use Rattle.session_calls.specs.Ready.{IsReady}
use Rattle.session_calls.specs.Acting.{held_by}

-- what is known to the session
abbrev pub Knows : {D : Type 0} → Opening → Outset → Hand D → Type 0
Knows o u hand = KnownTo (left_of hand.trail) (state_of hand.state) hand.session (held_by o u hand)

-- the laws speak of the same holdings
pub held_is : {D : Type 0} (o : Opening) (u : Outset) (hand : Hand D) → own_holdings o u hand.trail hand.session ≡ held_by o u hand
unfolding held_in
held_is o u hand = refl

pub knows : {D : Type 0} (slot : Ghosts D) (o : Opening) (u : Outset) (hand : Hand D) → IsReady slot o u hand → Knows o u hand
unfolding held_in
knows slot o u hand is = known o u hand.trail is.whole.stands.legal (state_of hand.state) is.whole.stands.state hand.session is.rests.live
