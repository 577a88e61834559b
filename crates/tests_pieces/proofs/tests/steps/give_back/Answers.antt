use Rattle.std.proofs.Common.{sym, subst, arith}
use Rattle.store_api.specs.Holdings.{Holdings}
use Rattle.sub_alloc.specs.Lending.{IsAllocOf}
use Rattle.tests_pieces.proofs.tests.steps.give_back.Goals as goal

pub returns-clause-of : goal.returns-clause-of
returns-clause-of g c =
    let t = c.args.c.now.tracker in
    subst (λ (h : Holdings). IsAllocOf t h c.args.pieces.now) (sym c.in-Ok.ensures.ok) (c.law_alloc_stays.ensures.given_back t c.args.bytes c.args.pieces.now (g.St.Store.holds c.args.store.now) (omega (arith, c.unused.ensures.value)) c.requires)
