use Rattle.group_op.proofs.Dropping.{beside_leaves, leaves_trans, touched_leaves}
use Rattle.tests_operators.proofs.tests.scans.shown.Goals as goal

pub returns-in_err-leaf_by_scan-clause-leaves : goal.returns-in_err-leaf_by_scan-clause-leaves
returns-in_err-leaf_by_scan-clause-leaves g c =
    leaves_trans c.args.c.now.tracker c.args.rows.now c.fill.new.rows c.leaf_by_scan.new.rows _ (g.St.Store.holds c.fill.new.store) _
    (touched_leaves c.args.c.now.tracker c.args.rows.now c.fill.new.rows _ (g.St.Store.holds c.fill.new.store) c.fill.ensures.touches)
    (beside_leaves c.args.c.now.tracker _ c.fill.new.rows c.leaf_by_scan.new.rows (g.St.Store.holds c.fill.new.store) _ c.leaf_by_scan.ensures.stream.read)

pub returns-clause-leaves : goal.returns-clause-leaves
returns-clause-leaves g c =
    leaves_trans c.args.c.now.tracker c.args.rows.now c.fill.new.rows c.leaf_by_scan.new.rows _ (g.St.Store.holds c.fill.new.store) _
    (touched_leaves c.args.c.now.tracker c.args.rows.now c.fill.new.rows _ (g.St.Store.holds c.fill.new.store) c.fill.ensures.touches)
    (beside_leaves c.args.c.now.tracker _ c.fill.new.rows c.leaf_by_scan.new.rows (g.St.Store.holds c.fill.new.store) _ c.leaf_by_scan.ensures.stream.read)
