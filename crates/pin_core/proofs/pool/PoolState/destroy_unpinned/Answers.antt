use Rattle.std.proofs.Common.{refl, sym, ◌∙◌}
use Rattle.std.proofs.lemmas.Bool.{false≢true}
use Rattle.pin_core.proofs.Destroyed.{unpinned_found, unpinned_ends}
use Rattle.pin_core.proofs.pool.PoolState.destroy_unpinned.Goals as goal

pub is_flying-requires-clause-live : goal.is_flying-requires-clause-live
is_flying-requires-clause-live g c = (unpinned_found c.self.inside.parts c.args.self.now c.id_of-id.result c.args.p c.self.view_is c.id_of-id.ensures c.laws.ensures c.requires.unpinned).live

pub is_flying-requires-clause-there : goal.is_flying-requires-clause-there
is_flying-requires-clause-there g c = (unpinned_found c.self.inside.parts c.args.self.now c.id_of-id.result c.args.p c.self.view_is c.id_of-id.ensures c.laws.ensures c.requires.unpinned).there

pub returns-then-is_flying-clause-refused : goal.returns-then-is_flying-clause-refused
returns-then-is_flying-clause-refused g c =
    (λ err. sym (unpinned_found c.self.inside.parts c.args.self.now c.id_of-id.result c.args.p c.self.view_is c.id_of-id.ensures c.laws.ensures c.requires.unpinned).flies ∙ sym c.is_flying.ensures ∙ c.if-is_flying.true, λ flies. refl)

pub destroy-requires-clause-can : goal.destroy-requires-clause-can
destroy-requires-clause-can g c =
    (unpinned_ends c.self.inside.parts c.args.self.now c.id_of-id.result c.args.p c.self.view_is c.id_of-id.ensures c.self.invariant c.laws.ensures c.requires.unpinned
    (sym c.is_flying.ensures ∙ c.if-is_flying.false)).can

pub destroy-requires-clause-ready : goal.destroy-requires-clause-ready
destroy-requires-clause-ready g c =
    (unpinned_ends c.self.inside.parts c.args.self.now c.id_of-id.result c.args.p c.self.view_is c.id_of-id.ensures c.self.invariant c.laws.ensures c.requires.unpinned
    (sym c.is_flying.ensures ∙ c.if-is_flying.false)).ready

pub invariant_of-self : goal.invariant_of-self
invariant_of-self g c =
    ((unpinned_ends c.self.inside.parts c.args.self.now c.id_of-id.result c.args.p c.self.view_is c.id_of-id.ensures c.self.invariant c.laws.ensures c.requires.unpinned
    (sym c.is_flying.ensures ∙ c.if-is_flying.false)).ends c.destroy.new.self c.destroy.ensures).kept

pub returns-clause-enters : goal.returns-clause-enters
returns-clause-enters g c =
    ((unpinned_ends c.self.inside.parts c.args.self.now c.id_of-id.result c.args.p c.self.view_is c.id_of-id.ensures c.self.invariant c.laws.ensures c.requires.unpinned
    (sym c.is_flying.ensures ∙ c.if-is_flying.false)).ends c.destroy.new.self c.destroy.ensures).enters g.D.Slot

pub returns-clause-refused : goal.returns-clause-refused
returns-clause-refused g c = (
  λ err. absurd (false≢true err),
  λ flies. absurd (false≢true (sym c.if-is_flying.false ∙ c.is_flying.ensures ∙ (unpinned_found c.self.inside.parts c.args.self.now c.id_of-id.result c.args.p c.self.view_is c.id_of-id.ensures c.laws.ensures c.requires.unpinned).flies ∙ flies)),
)
