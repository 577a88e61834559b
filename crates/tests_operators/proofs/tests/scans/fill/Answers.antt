use Rattle.tuple_stream.proofs.Chains.{has_room_kept, touches_refl, touches_trans}
use Rattle.tuple_stream.proofs.Frames.{client_kept}
use Rattle.tests_operators.proofs.tests.scans.fill.Goals as goal

pub loop-key-init : goal.loop-key-init
loop-key-init g c =
    record {
      readable = c.requires.stream;
      touches = touches_refl c.args.c.now.tracker c.args.rows.now (g.St.Store.holds c.args.store.now);
    }

pub loop-key-preserved : goal.loop-key-preserved
loop-key-preserved g c =
    let was = c.loop-key.invariant in
    let step = c.append.ensures.went.step in
    let old = g.St.Store.holds c.loop-key.store in
    let new = g.St.Store.holds c.append.new.store in
    record {
      readable = record {
        client = client_kept c.args.c.now c.loop-key.rows c.append.new.self old new was.readable.client step.touches;
        shape = step.shape;
        room = has_room_kept c.args.c.now.tracker c.loop-key.rows c.append.new.self old new was.readable.room step.touches step.sized;
      };
      touches = touches_trans c.args.c.now.tracker c.args.rows.now c.loop-key.rows c.append.new.self (g.St.Store.holds c.args.store.now) old new was.touches step.touches;
    }

pub returns-then-is_err-clause-stream : goal.returns-then-is_err-clause-stream
returns-then-is_err-clause-stream g c =
    let was = c.loop-key.invariant in
    let step = c.append.ensures.went.step in
    let old = g.St.Store.holds c.loop-key.store in
    let new = g.St.Store.holds c.append.new.store in
    record {
      client = client_kept c.args.c.now c.loop-key.rows c.append.new.self old new was.readable.client step.touches;
      shape = step.shape;
      room = has_room_kept c.args.c.now.tracker c.loop-key.rows c.append.new.self old new was.readable.room step.touches step.sized;
    }

pub returns-then-is_err-clause-touches : goal.returns-then-is_err-clause-touches
returns-then-is_err-clause-touches g c =
    touches_trans c.args.c.now.tracker c.args.rows.now c.loop-key.rows c.append.new.self _ _ _ c.loop-key.invariant.touches c.append.ensures.went.step.touches
