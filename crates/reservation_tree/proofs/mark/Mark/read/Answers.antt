use Rattle.reservation_tree.proofs.Marks.{read_mark}
use Rattle.reservation_tree.proofs.mark.Mark.read.Goals as goal

pub returns : goal.returns
returns c = read_mark _ c.args.bytes.now c.long_at.ensures c.long_at-2.ensures c.short_at.ensures
