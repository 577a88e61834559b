use Rattle.std.proofs.Common.{sym, subst}
use Rattle.store_api.specs.Holdings.{Holdings}
use Rattle.sub_alloc.specs.Lending.{IsAllocOf}
use Rattle.tests_pieces.proofs.tests.steps.reserve.Goals as goal

pub returns-in-Ok-clause-of : goal.returns-in-Ok-clause-of
returns-in-Ok-clause-of g c =
    let t = c.args.c.now.tracker in
    subst (λ (h : Holdings). IsAllocOf t h c.args.pieces.now) (sym c.in-Ok.ensures.ok) (c.law_alloc_stays.ensures.reserved t c.args.bytes c.args.pieces.now (g.St.Store.holds c.args.store.now) c.requires)

pub returns-in-Err-clause-of : goal.returns-in-Err-clause-of
returns-in-Err-clause-of g c = subst (λ (h : Holdings). IsAllocOf c.args.c.now.tracker h c.args.pieces.now) (sym c.in-Err.ensures.err.held) c.requires
