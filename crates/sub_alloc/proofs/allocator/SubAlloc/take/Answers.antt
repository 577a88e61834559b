use Rattle.std.proofs.Common.{refl, sym, subst}
use Rattle.sub_alloc.specs.Lending.{IsAllocOf}
use Rattle.store_api.proofs.Growing.{grows_refl}
use Rattle.sub_alloc.proofs.Leaving.{leaves_held}
use Rattle.sub_alloc.proofs.Lent.{of_same}
use Rattle.sub_alloc.proofs.allocator.SubAlloc.take.Goals as goal

pub returns-then-from-self-clause-of : goal.returns-then-from-self-clause-of
returns-then-from-self-clause-of g c =
    subst (IsAllocOf c.args.c.now.tracker (g.St.Store.holds c.args.store.now)) (sym c.take_free.ensures.division)
    (of_same c.args.c.now.tracker (g.St.Store.holds c.args.store.now) c.args.self.now _ _ c.requires.of)

pub returns-then-from-self-clause-leaves : goal.returns-then-from-self-clause-leaves
returns-then-from-self-clause-leaves g c =
    let s = c.args.store.now in
    leaves_held g.St.Store c.args.c.now.tracker s s (grows_refl (g.St.Store.signs s)) c.requires.of.lives refl
