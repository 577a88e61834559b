use Rattle.std.proofs.Common.{◌≡◌, [], ◌∷◌}
use Rattle.pool_model.specs.declared.event.Event.TheVariants.{Destroy}
use Rattle.store_api.specs.Holdings.{Holdings}
use Rattle.store_api.specs.Conditions.{IsHeld, IsPage}
use Rattle.pool.proofs.Doings.{as_held}
use Rattle.pool.proofs.Charged.{destroy_stays}
use Rattle.pool.proofs.Calling.{did_then, may_end_call, sits_then, turns_first, works_first}
use Rattle.pool.proofs.seat.SessionSeat.destroy.Goals as goal

pub destroy-hand-requires-clause-turns : goal.destroy-hand-requires-clause-turns
destroy-hand-requires-clause-turns g c = turns_first c.begin_turn-hand.ensures.begins c.args.turns.now c.begin_turn-hand.ensures.table

pub destroy-hand-requires-clause-at_work : goal.destroy-hand-requires-clause-at_work
destroy-hand-requires-clause-at_work g c = works_first c.begin_turn-hand.ensures.begins

pub destroy-hand-requires-clause-page : goal.destroy-hand-requires-clause-page
destroy-hand-requires-clause-page g c = as_held c.self.view_is c.begin_turn-hand.ensures.begins (IsPage c.args.p) c.requires.page

pub destroy-hand-requires-clause-buffer : goal.destroy-hand-requires-clause-buffer
destroy-hand-requires-clause-buffer g c = as_held c.self.view_is c.begin_turn-hand.ensures.begins (λ (h : Holdings). IsHeld c.args.p h c.args.buf) c.requires.buffer

pub end_turn-requires-clause-may : goal.end_turn-requires-clause-may
end_turn-requires-clause-may g c =
    may_end_call c.begin_turn-hand.ensures.begins
    (destroy_stays c.begin_turn-hand.ensures.begins.ready c.args.p (as_held c.self.view_is c.begin_turn-hand.ensures.begins (IsPage c.args.p) c.requires.page) c.destroy-hand.ensures.did)
    c.args.turns.now c.destroy-hand.new.place c.destroy-hand.ensures.turns c.destroy-hand.ensures.at_work c.self.invariant

pub invariant_of-self : goal.invariant_of-self
invariant_of-self g c =
    sits_then c.begin_turn-hand.ensures.begins
    (destroy_stays c.begin_turn-hand.ensures.begins.ready c.args.p (as_held c.self.view_is c.begin_turn-hand.ensures.begins (IsPage c.args.p) c.requires.page) c.destroy-hand.ensures.did)
    c.end_turn.ensures.ends c.self.invariant

pub returns-clause-did : goal.returns-clause-did
returns-clause-did g c =
    did_then c.self.view_is c.begin_turn-hand.ensures.begins c.end_turn.ensures.ends c.end_turn.ensures.table c.requires.table (λ h events. events ≡ Destroy c.args.p.name ∷ []) c.destroy-hand.ensures.did
