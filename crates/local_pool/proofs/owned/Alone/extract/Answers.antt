use Rattle.std.proofs.Common.{◌≡◌, sym, subst}
use Rattle.store_api.specs.Holdings.{Holdings, page_of}
use Rattle.store_api.specs.Conditions.{Fits, IsPage}
use Rattle.session_calls.proofs.Carried.{extracts_on}
use Rattle.local_pool.proofs.Stepping.{held_at, step_keeps, turn_viewed}
use Rattle.local_pool.proofs.owned.Alone.extract.Goals as goal

pub extract-requires-clause-page : goal.extract-requires-clause-page
extract-requires-clause-page g c = subst (IsPage c.args.p) (sym (held_at g.D.Slot c.self.inside.hand c.args.self.now c.self.view_is c.self.invariant.0)) c.requires.page

pub extract-requires-clause-pinned : goal.extract-requires-clause-pinned
extract-requires-clause-pinned g c = subst (λ (h : Holdings). (page_of c.args.p.name h).pins ≡ 1) (sym (held_at g.D.Slot c.self.inside.hand c.args.self.now c.self.view_is c.self.invariant.0)) c.requires.pinned

pub extract-requires-clause-buffer : goal.extract-requires-clause-buffer
extract-requires-clause-buffer g c = subst (λ (h : Holdings). Fits (page_of c.args.p.name h).blocks h c.args.buf) (sym (held_at g.D.Slot c.self.inside.hand c.args.self.now c.self.view_is c.self.invariant.0)) c.requires.buffer

pub invariant_of-self : goal.invariant_of-self
invariant_of-self g c = step_keeps g.D.Slot c.self.inside.shelf c.self.inside.hand c.args.self.now c.self.view_is c.self.invariant c.extract.new.self c.extract.ensures.ready c.extract.ensures.extracts.did

pub returns : goal.returns
returns g c = extracts_on (turn_viewed g.D.Slot c.self.inside.shelf c.self.inside.hand c.args.self.now c.self.view_is c.self.invariant c.extract.new.self c.extract.ensures.ready) c.args.p c.args.buf c.extract.result c.extract.ensures.extracts
