use Rattle.std.proofs.Common.{ℕ, ap, ◌∙◌}
use Rattle.pin_core.proofs.Extracted.{extract_is}
use Rattle.pin_core.proofs.pool.PoolState.extract.Goals as goal

pub extract-requires-clause-can : goal.extract-requires-clause-can
extract-requires-clause-can g c = (extract_is c.self.inside.parts c.args.self.now c.id_of-id.result c.args.p c.args.buf c.self.view_is c.id_of-id.ensures c.self.invariant c.laws.ensures c.requires.last).can

pub extract-requires-clause-ready : goal.extract-requires-clause-ready
extract-requires-clause-ready g c = (extract_is c.self.inside.parts c.args.self.now c.id_of-id.result c.args.p c.args.buf c.self.view_is c.id_of-id.ensures c.self.invariant c.laws.ensures c.requires.last).ready

pub invariant_of-self : goal.invariant_of-self
invariant_of-self g c =
    ((extract_is c.self.inside.parts c.args.self.now c.id_of-id.result c.args.p c.args.buf c.self.view_is c.id_of-id.ensures c.self.invariant c.laws.ensures c.requires.last).ends
    c.extract.result.number c.extract.ensures.fresh c.extract.new.self c.extract.ensures.parts).kept

pub returns-clause-enters : goal.returns-clause-enters
returns-clause-enters g c =
    ((extract_is c.self.inside.parts c.args.self.now c.id_of-id.result c.args.p c.args.buf c.self.view_is c.id_of-id.ensures c.self.invariant c.laws.ensures c.requires.last).ends
    c.extract.result.number c.extract.ensures.fresh c.extract.new.self c.extract.ensures.parts).enters g.D.Slot

pub returns-clause-fresh : goal.returns-clause-fresh
returns-clause-fresh g c =
    ((extract_is c.self.inside.parts c.args.self.now c.id_of-id.result c.args.p c.args.buf c.self.view_is c.id_of-id.ensures c.self.invariant c.laws.ensures c.requires.last).ends
    c.extract.result.number c.extract.ensures.fresh c.extract.new.self c.extract.ensures.parts).fresh

pub returns-clause-loan : goal.returns-clause-loan
returns-clause-loan g c =
    c.extract.ensures.loan
    ∙ ap (λ (client : ℕ). record { number = c.extract.result.number; client = client; buf = c.args.buf }) (extract_is c.self.inside.parts c.args.self.now c.id_of-id.result c.args.p c.args.buf c.self.view_is c.id_of-id.ensures c.self.invariant c.laws.ensures c.requires.last).client
