use Rattle.std.proofs.Common.{sym, subst}
use Rattle.bucket_table.specs.Tables.{IsFramed}
use Rattle.join_op.proofs.Fillings.{row_framed}
use Rattle.join_op.proofs.holding.put.Goals as goal

pub insert-requires : goal.insert-requires
insert-requires c = subst IsFramed (sym c.deref-2.ensures.value) (row_framed _ _ c.in_ok-key_held.ensures.kept.row)
