use Rattle.join_op.proofs.BothFrames.{right_readable}
use Rattle.join_op.proofs.TwoStreams.{alone_left, alone_read, alone_right}
use Rattle.tests_operators.proofs.tests.chunks.joined.Goals as goal

pub returns-in_err-fill-clause-alone : goal.returns-in_err-fill-clause-alone
returns-in_err-fill-clause-alone g c =
    let one = alone_left c.args.c.now c.args.left.now c.fill.new.rows c.args.right.now (g.St.Store.holds c.args.store.now) (g.St.Store.holds c.fill.new.store) c.requires.alone c.fill.ensures.touches c.fill.ensures.shape c.fill.ensures.sized in
    one

pub fill-requires-2 : goal.fill-requires-2
fill-requires-2 g c =
    let one = alone_left c.args.c.now c.args.left.now c.fill.new.rows c.args.right.now (g.St.Store.holds c.args.store.now) (g.St.Store.holds c.fill.new.store) c.requires.alone c.fill.ensures.touches c.fill.ensures.shape c.fill.ensures.sized in
    record { stream = right_readable _ _ _ _ one.readable }

pub returns-in_err-fill-2-clause-alone : goal.returns-in_err-fill-2-clause-alone
returns-in_err-fill-2-clause-alone g c =
    let one = alone_left c.args.c.now c.args.left.now c.fill.new.rows c.args.right.now (g.St.Store.holds c.args.store.now) (g.St.Store.holds c.fill.new.store) c.requires.alone c.fill.ensures.touches c.fill.ensures.shape c.fill.ensures.sized in
    let two = alone_right c.args.c.now c.fill.new.rows c.args.right.now c.fill-2.new.rows (g.St.Store.holds c.fill.new.store) (g.St.Store.holds c.fill-2.new.store) one c.fill-2.ensures.touches c.fill-2.ensures.shape c.fill-2.ensures.sized in
    two

pub returns-in_err-shape-clause-alone : goal.returns-in_err-shape-clause-alone
returns-in_err-shape-clause-alone g c =
    let one = alone_left c.args.c.now c.args.left.now c.fill.new.rows c.args.right.now (g.St.Store.holds c.args.store.now) (g.St.Store.holds c.fill.new.store) c.requires.alone c.fill.ensures.touches c.fill.ensures.shape c.fill.ensures.sized in
    let two = alone_right c.args.c.now c.fill.new.rows c.args.right.now c.fill-2.new.rows (g.St.Store.holds c.fill.new.store) (g.St.Store.holds c.fill-2.new.store) one c.fill-2.ensures.touches c.fill-2.ensures.shape c.fill-2.ensures.sized in
    two

pub leaf_by_chunks-requires-clause-streams : goal.leaf_by_chunks-requires-clause-streams
leaf_by_chunks-requires-clause-streams g c =
    let one = alone_left c.args.c.now c.args.left.now c.fill.new.rows c.args.right.now (g.St.Store.holds c.args.store.now) (g.St.Store.holds c.fill.new.store) c.requires.alone c.fill.ensures.touches c.fill.ensures.shape c.fill.ensures.sized in
    let two = alone_right c.args.c.now c.fill.new.rows c.args.right.now c.fill-2.new.rows (g.St.Store.holds c.fill.new.store) (g.St.Store.holds c.fill-2.new.store) one c.fill-2.ensures.touches c.fill-2.ensures.shape c.fill-2.ensures.sized in
    two.readable

pub returns-in_err-leaf_by_chunks-clause-alone : goal.returns-in_err-leaf_by_chunks-clause-alone
returns-in_err-leaf_by_chunks-clause-alone g c =
    let one = alone_left c.args.c.now c.args.left.now c.fill.new.rows c.args.right.now (g.St.Store.holds c.args.store.now) (g.St.Store.holds c.fill.new.store) c.requires.alone c.fill.ensures.touches c.fill.ensures.shape c.fill.ensures.sized in
    let two = alone_right c.args.c.now c.fill.new.rows c.args.right.now c.fill-2.new.rows (g.St.Store.holds c.fill.new.store) (g.St.Store.holds c.fill-2.new.store) one c.fill-2.ensures.touches c.fill-2.ensures.shape c.fill-2.ensures.sized in
    alone_read c.args.c.now _ c.fill.new.rows c.leaf_by_chunks.new.left c.fill-2.new.rows c.leaf_by_chunks.new.right (g.St.Store.holds c.fill-2.new.store) (g.St.Store.holds c.leaf_by_chunks.new.store) two c.leaf_by_chunks.ensures.streams

pub returns-clause-alone : goal.returns-clause-alone
returns-clause-alone g c =
    let one = alone_left c.args.c.now c.args.left.now c.fill.new.rows c.args.right.now (g.St.Store.holds c.args.store.now) (g.St.Store.holds c.fill.new.store) c.requires.alone c.fill.ensures.touches c.fill.ensures.shape c.fill.ensures.sized in
    let two = alone_right c.args.c.now c.fill.new.rows c.args.right.now c.fill-2.new.rows (g.St.Store.holds c.fill.new.store) (g.St.Store.holds c.fill-2.new.store) one c.fill-2.ensures.touches c.fill-2.ensures.shape c.fill-2.ensures.sized in
    alone_read c.args.c.now _ c.fill.new.rows c.leaf_by_chunks.new.left c.fill-2.new.rows c.leaf_by_chunks.new.right (g.St.Store.holds c.fill-2.new.store) (g.St.Store.holds c.leaf_by_chunks.new.store) two c.leaf_by_chunks.ensures.streams
