use Rattle.std.proofs.Common.{None, subst}
use Rattle.query_plan.specs.declared.plan.Query.{Query}
use Rattle.run_report.specs.Report.{outcome_text}
use Rattle.outside.specs.Faults.{faults_of}
use Rattle.spill_top.specs.Endings.{outcome_of}
use Rattle.spill_top.specs.Ran.{telling}
use Rattle.spill_top.specs.Report.{TellsOrMisses}
use Rattle.spill_top.proofs.CheckEnds.{checked_answer, checked_none}
use Rattle.spill_top.proofs.selfcheck.self_check.Goals as goal

pub returns-in-Ok-answer_check-clause-checked : goal.returns-in-Ok-answer_check-clause-checked
returns-in-Ok-answer_check-clause-checked g c = λ files reads.
    checked_answer c.args.check _ _ _ (telling (g.R.Sink.contents c.args.report.now) (faults_of g.R.Sink c.args.report.now)) (telling (g.R.Sink.contents c.tell_answer.new.report) (faults_of g.R.Sink c.tell_answer.new.report)) _
    c.in-Ok-answer_check.ran c.in-Ok-answer_check.ensures.answer c.tell_answer.ensures.tells (c.answer_check.ensures.went files reads)

pub returns-clause-checked : goal.returns-clause-checked
returns-clause-checked g c = λ files reads.
    checked_none c.args.check _ _ _ (telling (g.R.Sink.contents c.args.report.now) (faults_of g.R.Sink c.args.report.now)) (telling (g.R.Sink.contents c.tell_ending.new.report) (faults_of g.R.Sink c.tell_ending.new.report)) _
    c.requires.range c.in-Err.ending c.in-Err.ensures.none c.tell_ending.ensures.status
    (subst (λ (plan : Query). TellsOrMisses (outcome_text None (outcome_of plan c.in-Err.ending)) (g.R.Sink.contents c.args.report.now) (g.R.Sink.contents c.tell_ending.new.report) (faults_of g.R.Sink c.args.report.now) (faults_of g.R.Sink c.tell_ending.new.report)) c.in-Ok.ensures c.tell_ending.ensures.tells)
    (c.answer_check.ensures.went files reads)
