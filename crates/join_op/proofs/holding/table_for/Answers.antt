use Rattle.std.proofs.Common.{Option, sym, subst}
use Rattle.bucket_table.specs.Tables.{Table}
use Rattle.bucket_table.specs.Lending.{Lends}
use Rattle.join_op.specs.Holding.{loans_in}
use Rattle.tuple_stream.specs.Trails.{PinsFirst}
use Rattle.tuple_stream.proofs.Sinces.{since_now}
use Rattle.partition_stack.proofs.Making.{few_none}
use Rattle.join_op.proofs.LeafEnds.{lends_opened, loans_make}
use Rattle.join_op.proofs.PinsRows.{loans_first}
use Rattle.join_op.proofs.holding.table_for.Goals as goal

pub returns-clause-lends : goal.returns-clause-lends
returns-clause-lends g c =
    subst (λ (o : Option Table). Lends c.args.c.now.tracker (loans_in o) (g.St.Store.holds c.args.store.now) (g.St.Store.holds c.open_wide.new.store)) (sym c.ok.ensures.value)
    (lends_opened c.args.c.now.tracker _ _ _ c.open_wide.result (g.St.Store.holds c.args.store.now) (g.St.Store.holds c.open_wide.new.store) c.requires.client c.open_wide.ensures.ok c.open_wide.ensures.err)

pub returns-clause-made : goal.returns-clause-made
returns-clause-made g c = loans_make (g.St.Store.signs c.args.store.now) (g.St.Store.signs c.open_wide.new.store) c.open_wide.ensures.entries

pub returns-in_err-heads-clause-made : goal.returns-in_err-heads-clause-made
returns-in_err-heads-clause-made g c = few_none (g.St.Store.signs c.args.store.now)

pub returns-clause-first : goal.returns-clause-first
returns-clause-first g c = loans_first _ _ c.open_wide.ensures.entries

pub returns-in_err-heads-clause-first : goal.returns-in_err-heads-clause-first
returns-in_err-heads-clause-first g c = since_now PinsFirst (g.St.Store.signs c.args.store.now).trail tt
