use Rattle.std.proofs.Common.{◌≡◌, ◌∙◌, ◌<◌, ◌-◌, get_or, length, rules, sym}
use Rattle.csv_edge.specs.Pieces.{after_byte}
use Rattle.csv_edge.proofs.Fronts.{after_last}
use Rattle.csv_edge.proofs.scan.scan_behind.Goals as goal

pub returns-else-is_empty : goal.returns-else-is_empty
returns-else-is_empty c =
    let some : 0 < length c.args.bytes.now = search rules in
    let last : c.after.result ≡ after_byte c.args.start (get_or c.args.bytes.now (length c.args.bytes.now - 1) 0) = search rules in
    last ∙ sym (after_last c.args.start c.args.bytes.now c.requires.outside c.requires.plain some)
