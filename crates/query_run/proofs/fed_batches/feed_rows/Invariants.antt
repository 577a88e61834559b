use Rattle.query_run.specs.Batches.{first_rows}
use Rattle.query_run.specs.Taking.{GroupFeeds, GroupGoes, GroupStands}
use Rattle.query_run.proofs.fed_batches.feed_rows.Given as goal

abbrev pub invariant-loop-place : goal.invariant-loop-place
invariant-loop-place g l =
    GroupFeeds l.initial.op l.op (first_rows l.place l.rows) (g.St.Store.holds l.initial.store) (g.St.Store.holds l.store) (g.St.Store.signs l.initial.store) (g.St.Store.signs l.store)
    × GroupStands l.op (g.St.Store.holds l.store) (g.St.Store.signs l.store)
    × GroupGoes l.initial.op l.op (g.St.Store.holds l.initial.store) (g.St.Store.holds l.store) (g.St.Store.signs l.initial.store) (g.St.Store.signs l.store)
