use Rattle.std.proofs.Common.{◌∙◌, ap, take}
use Rattle.std.specs.Int.{w64, from_be_bytes}
use Rattle.reservation_tree.proofs.Marks.{long_is}
use Rattle.reservation_tree.proofs.mark.long_at.Goals as goal

pub returns : goal.returns
returns c =
    let number = (c.in-Some.ensures).cases.0 ∙ ap (take 8) c.split_at.ensures.back in
    long_is c.args.bytes.now c.args.at c.from_be_bytes.result c.requires (λ i. (c.type_inv.bytes i).fits) (c.from_be_bytes.ensures ∙ ap (from_be_bytes w64) number)
