use Rattle.std.proofs.Common.{sym, ◌∙◌, eq-eqb}
use Rattle.std.proofs.lemmas.Bool.{false≢true}
use Rattle.pin_core.proofs.Relent.{move_is}
use Rattle.pin_core.proofs.pool.PoolState.move_buffer_now.Goals as goal

pub move_buffer-requires : goal.move_buffer-requires
move_buffer-requires g c =
    (move_is c.self.inside.parts c.args.self.now c.args.loan c.args.to.now c.tracker-2.result c.self.view_is c.tracker-2.ensures c.self.invariant c.requires.loan c.requires.to
    (λ same. false≢true (sym c.if-eq.false ∙ c.eq.ensures ∙ eq-eqb _ _ (c.client.ensures ∙ same ∙ sym c.tracker.ensures)))).ready

pub invariant_of-self : goal.invariant_of-self
invariant_of-self g c =
    (move_is c.self.inside.parts c.args.self.now c.args.loan c.args.to.now c.tracker-2.result c.self.view_is c.tracker-2.ensures c.self.invariant c.requires.loan c.requires.to
    (λ same. false≢true (sym c.if-eq.false ∙ c.eq.ensures ∙ eq-eqb _ _ (c.client.ensures ∙ same ∙ sym c.tracker.ensures)))).kept c.move_buffer.new.self c.move_buffer.ensures.parts

pub returns-clause-enters : goal.returns-clause-enters
returns-clause-enters g c apart =
    (move_is c.self.inside.parts c.args.self.now c.args.loan c.args.to.now c.tracker-2.result c.self.view_is c.tracker-2.ensures c.self.invariant c.requires.loan c.requires.to
    apart).enters g.D.Slot c.move_buffer.new.self c.move_buffer.ensures.parts
