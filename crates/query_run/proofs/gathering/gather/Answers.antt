use Rattle.std.proofs.Common.{◌<◌, arith, length, rules, slice_set}
use Rattle.query_run.specs.Gathering.{AnsweredBeside}
use Rattle.query_run.proofs.Gathers.{StepsTo, all_gathered, answered, left_after, may_hand_over, none_gathered, one_more, went_more}
use Rattle.query_run.proofs.gathering.gather.Goals as goal

pub loop-place-init : goal.loop-place-init
loop-place-init g c = none_gathered g.St.Store c.args.stores.now c.args.ops.now c.args.beside.now c.args.into.now c.requires

pub hand_over-requires-clause-op : goal.hand_over-requires-clause-op
hand_over-requires-clause-op g c =
    let inv = c.loop-place.invariant in
    let below : c.loop-place.place < length c.args.ops.now = search (rules, arith) in
    let store = c.index-stores-place.result in
    let op = c.index-ops-place.result in
    let is = (c.requires.each c.loop-place.place store op below).is in
    rw (inv.rest_stores c.loop-place.place store (omega arith), inv.rest_ops c.loop-place.place op (omega arith)) is

pub hand_over-requires-clause-may : goal.hand_over-requires-clause-may
hand_over-requires-clause-may g c =
    let below : c.loop-place.place < length c.args.ops.now = search (rules, arith) in
    may_hand_over g.St.Store c.loop-place.place c.args.stores.now c.args.ops.now c.args.beside.now c.args.into.now c.loop-place.stores c.loop-place.ops c.loop-place.beside c.loop-place.into c.index-stores-place.result c.index-ops-place.result below c.requires c.loop-place.invariant

pub returns-in_err-hand_over-clause-into : goal.returns-in_err-hand_over-clause-into
returns-in_err-hand_over-clause-into g c =
    let below : c.loop-place.place < length c.args.ops.now = search (rules, arith) in
    let step : StepsTo g.St.Store c.loop-place.place c.args.stores.now c.args.ops.now c.args.beside.now c.args.into.now c.loop-place.stores c.loop-place.ops c.loop-place.beside c.loop-place.into c.index-stores-place.result c.index-ops-place.result c.hand_over.new.store c.hand_over.new.self c.hand_over.new.beside c.hand_over.new.into = record {
      below = below;
      long = c.requires.many;
      before = c.loop-place.invariant;
      client = c.hand_over.ensures.client;
      leaves = c.hand_over.ensures.leaves;
      same = c.hand_over.ensures.same;
      went = c.hand_over.ensures.other;
    } in
    went_more g.St.Store c.loop-place.place c.args.stores.now c.args.ops.now c.args.beside.now c.args.into.now c.loop-place.stores c.loop-place.ops c.loop-place.beside c.loop-place.into c.index-stores-place.result c.index-ops-place.result c.hand_over.new.store c.hand_over.new.self c.hand_over.new.beside c.hand_over.new.into step

pub returns-in_err-hand_over-clause-others : goal.returns-in_err-hand_over-clause-others
returns-in_err-hand_over-clause-others g c =
    let below : c.loop-place.place < length c.args.ops.now = search (rules, arith) in
    let step : StepsTo g.St.Store c.loop-place.place c.args.stores.now c.args.ops.now c.args.beside.now c.args.into.now c.loop-place.stores c.loop-place.ops c.loop-place.beside c.loop-place.into c.index-stores-place.result c.index-ops-place.result c.hand_over.new.store c.hand_over.new.self c.hand_over.new.beside c.hand_over.new.into = record {
      below = below;
      long = c.requires.many;
      before = c.loop-place.invariant;
      client = c.hand_over.ensures.client;
      leaves = c.hand_over.ensures.leaves;
      same = c.hand_over.ensures.same;
      went = c.hand_over.ensures.other;
    } in
    left_after g.St.Store c.loop-place.place c.args.stores.now c.args.ops.now c.args.beside.now c.args.into.now c.loop-place.stores c.loop-place.ops c.loop-place.beside c.loop-place.into c.index-stores-place.result c.index-ops-place.result c.hand_over.new.store c.hand_over.new.self c.hand_over.new.beside c.hand_over.new.into step c.requires

pub returns-in_err-hand_over-clause-cause : goal.returns-in_err-hand_over-clause-cause
returns-in_err-hand_over-clause-cause g c =
    let below : c.loop-place.place < length c.args.ops.now = search (rules, arith) in
    let step : StepsTo g.St.Store c.loop-place.place c.args.stores.now c.args.ops.now c.args.beside.now c.args.into.now c.loop-place.stores c.loop-place.ops c.loop-place.beside c.loop-place.into c.index-stores-place.result c.index-ops-place.result c.hand_over.new.store c.hand_over.new.self c.hand_over.new.beside c.hand_over.new.into = record {
      below = below;
      long = c.requires.many;
      before = c.loop-place.invariant;
      client = c.hand_over.ensures.client;
      leaves = c.hand_over.ensures.leaves;
      same = c.hand_over.ensures.same;
      went = c.hand_over.ensures.other;
    } in
    let came : AnsweredBeside g.St.Store c.args.stores.now (slice_set c.loop-place.stores c.loop-place.place c.hand_over.new.store) c.args.beside.now c.hand_over.new.beside c.in_err-hand_over.field-0.0 =
    answered g.St.Store c.loop-place.place c.args.stores.now c.args.ops.now c.args.beside.now c.args.into.now c.loop-place.stores c.loop-place.ops c.loop-place.beside c.loop-place.into c.index-stores-place.result c.index-ops-place.result c.hand_over.new.store c.hand_over.new.self c.hand_over.new.beside c.hand_over.new.into step c.in_err-hand_over.field-0.0 c.in_err-hand_over.ensures.cause in
    search (rules, came)

pub loop-place-preserved : goal.loop-place-preserved
loop-place-preserved g c =
    let below : c.loop-place.place < length c.args.ops.now = search (rules, arith) in
    let step : StepsTo g.St.Store c.loop-place.place c.args.stores.now c.args.ops.now c.args.beside.now c.args.into.now c.loop-place.stores c.loop-place.ops c.loop-place.beside c.loop-place.into c.index-stores-place.result c.index-ops-place.result c.hand_over.new.store c.hand_over.new.self c.hand_over.new.beside c.hand_over.new.into = record {
      below = below;
      long = c.requires.many;
      before = c.loop-place.invariant;
      client = c.hand_over.ensures.client;
      leaves = c.hand_over.ensures.leaves;
      same = c.hand_over.ensures.same;
      went = c.hand_over.ensures.other;
    } in
    one_more g.St.Store c.loop-place.place c.args.stores.now c.args.ops.now c.args.beside.now c.args.into.now c.loop-place.stores c.loop-place.ops c.loop-place.beside c.loop-place.into c.index-stores-place.result c.index-ops-place.result c.hand_over.new.store c.hand_over.new.self c.hand_over.new.beside c.hand_over.new.into step c.in_ok-hand_over.ensures.ok

pub returns-clause-ok : goal.returns-clause-ok
returns-clause-ok g c = λ lists mine hold holds. all_gathered g.St.Store c.loop-place.place c.args.stores.now c.args.ops.now c.args.beside.now c.args.into.now c.loop-place.stores c.loop-place.ops c.loop-place.beside c.loop-place.into (search (rules, arith)) c.loop-place.invariant lists mine hold holds
