use Rattle.std.proofs.Common.{rules}
use Rattle.spill_top.proofs.AtGate.{answered_so}
use Rattle.spill_top.proofs.over.answer_at_gate.Goals as goal

pub returns : goal.returns
returns g c =
    answered_so (λ p. p.source) g.S.Source.remaining g.S.Source.faults g.K.Sink.contents g.K.Sink.faults g.St.Store.holds g.St.Store.signs c.args.query.now c.args.job.now _ _ c.answer.new.job
    (search rules) (search rules) (search rules) (search rules) (search rules) (search rules)
    (search rules) (search rules) (search rules) (search rules) (search rules) (search rules) c.answer.ensures
