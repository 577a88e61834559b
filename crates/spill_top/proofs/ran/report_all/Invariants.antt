use Rattle.spill_top.proofs.Lines.{LinesTo}
use Rattle.spill_top.proofs.ran.report_all.Given as goal

abbrev pub invariant-loop-place : goal.invariant-loop-place
invariant-loop-place g l = LinesTo l.queries l.ends l.place l.text.items l.missing
