use Rattle.std.proofs.Common.{◌≤◌, [], ◌∷◌, sym, subst}
use Rattle.pool_model.specs.declared.call.Call.TheVariants as call
use Rattle.pool_model.specs.declared.event.Event.TheVariants as event
use Rattle.store_api.specs.Holdings.{Holdings, unused_of}
use Rattle.store_api.specs.Conditions.{IsLiveClient}
use Rattle.store_api.specs.Entries.{IsAsked}
use Rattle.store_api.specs.Refusals.{move_refusal}
use Rattle.session_calls.specs.Acting.{held_by}
use Rattle.local_pool.specs.Told.{opening_of, outset_of}
use Rattle.local_pool.proofs.Stepping.{held_at}
use Rattle.session_calls.proofs.Carried.{moves_reservation_on}
use Rattle.local_pool.proofs.Calling.{call_viewed, moved_keeps}
use Rattle.local_pool.proofs.owned.Alone.move_reservation.Goals as goal

pub move_reservation-hand-requires-clause-clients : goal.move_reservation-hand-requires-clause-clients
move_reservation-hand-requires-clause-clients g c = subst (λ (h : Holdings). IsLiveClient c.args.what.from.now h × IsLiveClient c.args.what.to.now h) (sym (held_at g.D.Slot c.self.inside.hand c.args.self c.self.view_is c.self.invariant.0)) (c.requires.from, c.requires.to)

pub move_reservation-hand-requires-clause-unused : goal.move_reservation-hand-requires-clause-unused
move_reservation-hand-requires-clause-unused g c = subst (λ (h : Holdings). c.args.what.bytes ≤ unused_of c.args.what.from.now.tracker h) (sym (held_at g.D.Slot c.self.inside.hand c.args.self c.self.view_is c.self.invariant.0)) c.requires.unused

pub invariant_of-result : goal.invariant_of-result
invariant_of-result g c =
    moved_keeps g.D.Slot c.self.inside.hand c.args.self c.self.view_is c.self.invariant.0 c.move_reservation-hand.result.0 c.move_reservation-hand.new.place c.move_reservation-hand.ensures.turns c.move_reservation-hand.ensures.at_work
    c.args.what.from.now.tracker (call.MoveReservation c.args.what.from.now.tracker c.args.what.to.now.tracker c.args.what.bytes)
    (λ x. IsAsked c.args.what.from.now.tracker (held_by (opening_of g.D.Slot c.self.inside.hand) (outset_of g.D.Slot c.self.inside.hand.state) c.self.inside.hand) (event.MoveReservation c.args.what.from.now.tracker c.args.what.to.now.tracker c.args.what.bytes ∷ [])) (move_refusal c.args.what.from.now.tracker c.args.what.to.now.tracker c.args.what.bytes (held_by (opening_of g.D.Slot c.self.inside.hand) (outset_of g.D.Slot c.self.inside.hand.state) c.self.inside.hand)) c.move_reservation-hand.result.1 c.move_reservation-hand.ensures.moves.ok c.move_reservation-hand.ensures.moves.refused c.move_reservation-hand.ensures.moves.err

pub returns-clause-moves : goal.returns-clause-moves
returns-clause-moves g c = moves_reservation_on (call_viewed g.D.Slot c.self.inside.hand c.args.self c.self.view_is c.self.invariant.0 c.move_reservation-hand.result.0 c.move_reservation-hand.new.place c.move_reservation-hand.ensures.turns c.move_reservation-hand.ensures.at_work) c.args.what.from.now.tracker c.args.what.to.now.tracker c.args.what.bytes c.move_reservation-hand.result.1 c.move_reservation-hand.ensures.moves
