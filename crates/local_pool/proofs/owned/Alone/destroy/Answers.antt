use Rattle.std.proofs.Common.{sym, subst}
use Rattle.store_api.specs.Holdings.{Holdings}
use Rattle.store_api.specs.Conditions.{IsHeld, IsPage}
use Rattle.local_pool.proofs.Stepping.{held_at}
use Rattle.local_pool.proofs.Calling.{call_keeps, call_makes}
use Rattle.local_pool.proofs.owned.Alone.destroy.Goals as goal

pub destroy-hand-requires-clause-page : goal.destroy-hand-requires-clause-page
destroy-hand-requires-clause-page g c = subst (IsPage c.args.what.page) (sym (held_at g.D.Slot c.self.inside.hand c.args.self c.self.view_is c.self.invariant.0)) c.requires.page

pub destroy-hand-requires-clause-buffer : goal.destroy-hand-requires-clause-buffer
destroy-hand-requires-clause-buffer g c = subst (λ (h : Holdings). IsHeld c.args.what.page h c.args.what.buf) (sym (held_at g.D.Slot c.self.inside.hand c.args.self c.self.view_is c.self.invariant.0)) c.requires.buffer

pub invariant_of-result : goal.invariant_of-result
invariant_of-result g c =
    call_keeps g.D.Slot c.self.inside.hand c.args.self c.self.view_is c.self.invariant.0 c.destroy-hand.result c.destroy-hand.new.place c.destroy-hand.ensures.turns c.destroy-hand.ensures.at_work c.destroy-hand.ensures.did

pub returns : goal.returns
returns g c =
    call_makes g.D.Slot c.self.inside.hand c.args.self c.self.view_is c.self.invariant.0 c.destroy-hand.result c.destroy-hand.new.place c.destroy-hand.ensures.turns c.destroy-hand.ensures.at_work c.destroy-hand.ensures.did
