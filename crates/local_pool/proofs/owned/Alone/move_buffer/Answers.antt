use Rattle.std.proofs.Common.{◌≤◌, [], ◌∷◌, sym, subst}
use Rattle.pool_model.specs.declared.call.Call.TheVariants as call
use Rattle.pool_model.specs.declared.event.Event.TheVariants as event
use Rattle.store_api.specs.Holdings.{Holdings, loan_len, unused_of}
use Rattle.store_api.specs.Conditions.{IsLiveClient, IsLoan}
use Rattle.store_api.specs.Entries.{IsAsked}
use Rattle.session_calls.specs.declared.hand.Hand.{Hand}
use Rattle.session_calls.specs.Needing.{EntersNeeded}
use Rattle.session_calls.specs.Acting.{held_by}
use Rattle.local_pool.specs.Told.{opening_of, outset_of, held_of}
use Rattle.local_pool.proofs.Stepping.{held_at}
use Rattle.session_calls.proofs.Carried.{moves_buffer_on}
use Rattle.local_pool.proofs.Calling.{call_viewed, handed_keeps}
use Rattle.local_pool.proofs.owned.Alone.move_buffer.Goals as goal

pub move_buffer-hand-requires-clause-loan : goal.move_buffer-hand-requires-clause-loan
move_buffer-hand-requires-clause-loan g c = subst (λ (h : Holdings). IsLoan c.args.what.loan h × IsLiveClient c.args.what.to.now h) (sym (held_at g.D.Slot c.self.inside.hand c.args.self c.self.view_is c.self.invariant.0)) (c.requires.loan, c.requires.to)

pub move_buffer-hand-requires-clause-unused : goal.move_buffer-hand-requires-clause-unused
move_buffer-hand-requires-clause-unused g c = subst (λ (h : Holdings). loan_len c.args.what.loan.number h ≤ unused_of c.args.what.to.now.tracker h) (sym (held_at g.D.Slot c.self.inside.hand c.args.self c.self.view_is c.self.invariant.0)) c.requires.unused

pub invariant_of-result : goal.invariant_of-result
invariant_of-result g c =
    handed_keeps g.D.Slot c.self.inside.hand c.args.self c.self.view_is c.self.invariant.0 c.move_buffer-hand.result.0 c.move_buffer-hand.new.place c.move_buffer-hand.ensures.turns c.move_buffer-hand.ensures.at_work
    c.args.what.to.now.tracker (call.MoveBuffer c.args.what.loan.number c.args.what.to.now.tracker)
    (λ x. IsAsked c.args.what.to.now.tracker (held_by (opening_of g.D.Slot c.self.inside.hand) (outset_of g.D.Slot c.self.inside.hand.state) c.self.inside.hand) (event.MoveBuffer c.args.what.loan.number c.args.what.to.now.tracker ∷ [])) c.move_buffer-hand.result.1 c.move_buffer-hand.ensures.moves.ok c.move_buffer-hand.ensures.moves.err

pub returns-clause-needed : goal.returns-clause-needed
returns-clause-needed g c =
    subst (λ (own : Hand g.row.D.Denot). EntersNeeded c.args.what.to.now.tracker (loan_len c.args.what.loan.number (held_of g.D.Slot c.args.self)) own c.move_buffer-hand.result.0) c.self.view_is
    (subst (λ (h : Holdings). EntersNeeded c.args.what.to.now.tracker (loan_len c.args.what.loan.number h) c.self.inside.hand c.move_buffer-hand.result.0) (held_at g.D.Slot c.self.inside.hand c.args.self c.self.view_is c.self.invariant.0) c.move_buffer-hand.ensures.needed)

pub returns-clause-moves : goal.returns-clause-moves
returns-clause-moves g c = moves_buffer_on (call_viewed g.D.Slot c.self.inside.hand c.args.self c.self.view_is c.self.invariant.0 c.move_buffer-hand.result.0 c.move_buffer-hand.new.place c.move_buffer-hand.ensures.turns c.move_buffer-hand.ensures.at_work) c.args.what.loan c.args.what.to.now.tracker c.move_buffer-hand.result.1 c.move_buffer-hand.ensures.moves
