use Rattle.std.proofs.Common.{◌∙◌}
use Rattle.reservation_tree.proofs.Marks.{written_mark}
use Rattle.reservation_tree.proofs.mark.Mark.write.Goals as goal

pub returns : goal.returns
returns c = written_mark c.args.self c.args.bytes.now c.copy_from_slice.new.self c.copy_from_slice-2.new.self c.copy_from_slice-3.new.self
    (c.copy_from_slice.ensures.after ∙ c.to_be_bytes.ensures) (c.copy_from_slice-2.ensures.after ∙ c.to_be_bytes-2.ensures) (c.copy_from_slice-3.ensures.after ∙ c.to_be_bytes-3.ensures)
