use Rattle.std.proofs.Common.{◌∙◌, arith}
use Rattle.std.proofs.lemmas.List.{take_rest}
use Rattle.std.proofs.Math.Seq.{take-add}
use Rattle.csv.proofs.WriteFacts.{appends-more}
use Rattle.csv_edge.proofs.sink.write_whole.Goals as goal

pub loop-at-preserved : goal.loop-at-preserved
loop-at-preserved g c =
    let inv = c.loop-at.invariant in
    let bytes = rw take_rest at c.in_ok-at.ensures.bytes in
    (omega (arith, c.in_ok-at.ensures.count), rw take-add (appends-more _ _ _ _ _ inv.1 bytes), omega (arith, c.in_ok-at.ensures.quiet, inv.2), c.in_ok-at.ensures.at_failure ∙ inv.3)
