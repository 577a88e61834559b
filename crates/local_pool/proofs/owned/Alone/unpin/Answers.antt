use Rattle.std.proofs.Common.{◌≡◌, sym, subst}
use Rattle.store_api.specs.Holdings.{Holdings, page_of}
use Rattle.store_api.specs.Conditions.{Fits, IsPage}
use Rattle.session_calls.proofs.Carried.{unpins_on}
use Rattle.local_pool.proofs.Stepping.{either_keeps, held_at, turn_viewed}
use Rattle.local_pool.proofs.Staying.{either_grows, stays_pinned}
use Rattle.local_pool.proofs.owned.Alone.unpin.Goals as goal

pub unpin-requires-clause-page : goal.unpin-requires-clause-page
unpin-requires-clause-page g c = subst (IsPage c.args.p.now) (sym (held_at g.D.Slot c.self.inside.hand c.args.self.now c.self.view_is c.self.invariant.0)) c.requires.page

pub unpin-requires-clause-pinned : goal.unpin-requires-clause-pinned
unpin-requires-clause-pinned g c = subst (λ (h : Holdings). (page_of c.args.p.now.name h).pins ≡ 1) (sym (held_at g.D.Slot c.self.inside.hand c.args.self.now c.self.view_is c.self.invariant.0)) c.requires.pinned

pub unpin-requires-clause-buffer : goal.unpin-requires-clause-buffer
unpin-requires-clause-buffer g c = subst (λ (h : Holdings). Fits (page_of c.args.p.now.name h).blocks h c.args.buf) (sym (held_at g.D.Slot c.self.inside.hand c.args.self.now c.self.view_is c.self.invariant.0)) c.requires.buffer

pub invariant_of-self : goal.invariant_of-self
invariant_of-self g c = either_keeps g.D.Slot c.self.inside.shelf c.self.inside.hand c.args.self.now c.self.view_is c.self.invariant c.unpin.new.self c.unpin.ensures.ready _ _ c.unpin.result c.unpin.ensures.unpins.ok c.unpin.ensures.unpins.err

pub returns-clause-unpins : goal.returns-clause-unpins
returns-clause-unpins g c = unpins_on (turn_viewed g.D.Slot c.self.inside.shelf c.self.inside.hand c.args.self.now c.self.view_is c.self.invariant c.unpin.new.self c.unpin.ensures.ready) c.args.p.now c.args.buf c.unpin.result c.unpin.ensures.unpins

pub returns-clause-err : goal.returns-clause-err
returns-clause-err g c =
    let left = unpins_on (turn_viewed g.D.Slot c.self.inside.shelf c.self.inside.hand c.args.self.now c.self.view_is c.self.invariant c.unpin.new.self c.unpin.ensures.ready) c.args.p.now c.args.buf c.unpin.result c.unpin.ensures.unpins in
    stays_pinned g.D.Slot c.args.self.now c.unpin.new.self c.args.p.now.name c.args.buf c.unpin.result left.err left.back left.cause

pub returns-clause-grows : goal.returns-clause-grows
returns-clause-grows g c =
    let left = unpins_on (turn_viewed g.D.Slot c.self.inside.shelf c.self.inside.hand c.args.self.now c.self.view_is c.self.invariant c.unpin.new.self c.unpin.ensures.ready) c.args.p.now c.args.buf c.unpin.result c.unpin.ensures.unpins in
    either_grows g.D.Slot c.args.self.now c.unpin.new.self c.args.p.now.name _ c.unpin.result left.ok left.err
