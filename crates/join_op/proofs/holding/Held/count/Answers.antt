use Rattle.std.proofs.Common.{◌∙◌, Option, length, ap, sym}
use Rattle.bucket_table.specs.Tables.{Table}
use Rattle.join_op.specs.Holding.{rows_either}
use Rattle.join_op.proofs.Fillings.{stored_count}
use Rattle.join_op.proofs.holding.Held.count.Goals as goal

pub returns-in-Some : goal.returns-in-Some
returns-in-Some c = c.nodes.ensures ∙ sym (stored_count c.in-Some.table.nodes) ∙ sym (ap (λ (o : Option Table). length (rows_either o c.args.self.now.kept.items)) c.in-Some.is)
