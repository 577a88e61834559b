use Rattle.std.proofs.Common.{None, refl}
use Rattle.std.specs.Prelude.{All}
use Rattle.tuple_stream.proofs.Sinces.{since_so}
use Rattle.bucket_table.specs.Entering.{IsOfLoans}
use Rattle.partition_stack.specs.Stack.{over}
use Rattle.group_op.proofs.Deals.{AreApart, loans_apart}
use Rattle.group_op.proofs.Paging.{made_apart}
use Rattle.group_op.proofs.Opened.{new_has, new_held, new_none, new_slots}
use Rattle.group_op.proofs.feeding.new_table.Goals as goal

pub returns-clause-has : goal.returns-clause-has
returns-clause-has g c =
    new_has c.args.c.now c.args._shape.now c.args.parts.now (g.St.Store.holds c.args.store.now) (g.St.Store.holds c.open.new.store) (g.St.Store.signs c.args.store.now) (g.St.Store.signs c.open.new.store)
    c.open.result c.page_blocks.result c.page_blocks.ensures None refl c.requires c.open.ensures.ok c.open.ensures.entries

pub returns-clause-held : goal.returns-clause-held
returns-clause-held g c =
    new_held c.args.c.now c.args._shape.now c.args.parts.now (g.St.Store.holds c.args.store.now) (g.St.Store.holds c.open.new.store) (g.St.Store.signs c.args.store.now) (g.St.Store.signs c.open.new.store)
    c.open.result c.page_blocks.result c.page_blocks.ensures None refl c.requires c.open.ensures.ok c.open.ensures.table

pub returns-clause-none : goal.returns-clause-none
returns-clause-none g c =
    new_none c.args.c.now c.args._shape.now c.args.parts.now (g.St.Store.holds c.args.store.now) (g.St.Store.holds c.open.new.store) (g.St.Store.signs c.args.store.now) (g.St.Store.signs c.open.new.store)
    c.open.result c.page_blocks.result c.page_blocks.ensures None refl c.requires c.open.ensures.err

pub returns-clause-slots : goal.returns-clause-slots
returns-clause-slots g c =
    new_slots c.args.c.now c.args._shape.now c.args.parts.now (g.St.Store.holds c.args.store.now) (g.St.Store.holds c.open.new.store) (g.St.Store.signs c.args.store.now) (g.St.Store.signs c.open.new.store)
    c.open.result c.page_blocks.result c.page_blocks.ensures None refl c.requires c.open.ensures.ok c.open.ensures.err

pub returns-clause-made : goal.returns-clause-made
returns-clause-made g c =
    made_apart (over c.args.parts.now (g.St.Store.holds c.args.store.now) (g.St.Store.signs c.args.store.now)) (over c.args.parts.now (g.St.Store.holds c.open.new.store) (g.St.Store.signs c.open.new.store)) refl
    (since_so (All IsOfLoans) AreApart (g.St.Store.signs c.args.store.now).trail (g.St.Store.signs c.open.new.store).trail loans_apart c.open.ensures.entries)
