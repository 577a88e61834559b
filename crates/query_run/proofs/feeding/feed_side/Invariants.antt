use Rattle.std.proofs.Common.{◌≡◌, ◌≤◌, ◌+◌}
use Rattle.csv_edge.specs.Rows.{IsOpen, bytes_allowed, kinds_in, records_allowed, rest_of}
use Rattle.query_run.specs.Input.{most_records}
use Rattle.query_run.specs.Plans.{kinds_of_columns}
use Rattle.query_run.specs.Taking.{TakesStill}
use Rattle.query_run.specs.SoFar.{IsReading}
use Rattle.query_run.proofs.feeding.feed_side.Given as goal

abbrev pub invariant-loop-rows : goal.invariant-loop-rows
invariant-loop-rows g l =
    IsReading l.fn.plan l.fn.side l.fn.asked l.fn.page (g.S.Source.remaining l.fn.source) l.fed
    (λ rows. g.T.Takes.feeds l.fn.op l.op rows (g.St.Store.holds l.fn.store) (g.St.Store.holds l.store) (g.St.Store.signs l.fn.store) (g.St.Store.signs l.store) × g.T.Takes.makes l.fn.op l.op rows (g.St.Store.holds l.fn.store) (g.St.Store.signs l.fn.store) (g.St.Store.signs l.store))
    (rest_of g.S.Source.remaining l.rows) (g.S.Source.remaining l.rows.src.now) (bytes_allowed l.rows)
    × g.T.Takes.stands l.op (g.St.Store.holds l.store) (g.St.Store.signs l.store)
    × g.T.Takes.goes l.fn.op l.op (g.St.Store.holds l.fn.store) (g.St.Store.holds l.store) (g.St.Store.signs l.fn.store) (g.St.Store.signs l.store)
    × TakesStill (g.T.Takes.kinds l.fn.op) (g.T.Takes.kinds l.op) (g.T.Takes.extra l.fn.op) (g.T.Takes.extra l.op) (g.T.Takes.page l.fn.op (g.St.Store.holds l.fn.store)) (g.T.Takes.page l.op (g.St.Store.holds l.store))
    × IsOpen l.rows
    × (kinds_in l.rows ≡ kinds_of_columns l.fn.asked.columns)
    × (l.fed.read + records_allowed l.rows + 1 ≡ most_records)
    × (g.S.Source.faults l.fn.source ≤ g.S.Source.faults l.rows.src.now)
    × (l.rows.src.ghost_name ≡ l.initial.rows.src.ghost_name)

abbrev pub decreases-loop-rows : goal.decreases-loop-rows
decreases-loop-rows g l = records_allowed l.rows
