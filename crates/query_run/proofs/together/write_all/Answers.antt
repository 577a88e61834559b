use Rattle.std.proofs.Common.{◌≡◌, ◌<◌, ℕ, Err, arith, length, slice_index_or}
use Rattle.fragments.proofs.Dealt.{begin_first, begin_rest, put_together}
use Rattle.group_op.specs.Operator.{Operator}
use Rattle.query_plan.specs.declared.outcome.QueryErr.TheVariants.{Pool}
use Rattle.query_run.specs.Plans.{shape_of}
use Rattle.query_run.specs.Several.{block_len_of}
use Rattle.query_run.specs.Together.{WroteAll}
use Rattle.query_run.proofs.Joint.{Stands, may_gather, wrote_all, wrote_none}
use Rattle.query_run.proofs.together.write_all.Goals as goal

pub gather-requires : goal.gather-requires
gather-requires g c =
    let len = block_len_of g.St.Store c.args.stores.now in
    let may = c.requires.ops in
    let f = c.index-first-0.result in
    let d = c.index-first_store-0.result in
    let a = c.split_at_mut-first.ensures in
    let x = c.split_at_mut-first_store.ensures in
    let each : (k : ℕ) (op : Operator) (s : _) → k < length c.args.ops.now → Stands g.St.Store c.args.plan.now len (slice_index_or c.args.ops.now k op) (slice_index_or c.args.stores.now k s) =
    λ k op s below. let many = may.many in let inside : k < length c.args.stores.now = omega (arith, below, many) in record { stands = may.stand k s op inside; shape = may.shape k op below; blocks = may.blocks k op below; block_len = may.same k s inside } in
    let some = may.some in
    let many = may.many in
    may_gather g.St.Store c.args.plan.now len _ _ _ _ (let back = a.back_len in let behind = x.back_len in omega (arith, back, behind, many))
    (begin_first (Stands g.St.Store c.args.plan.now len) c.args.ops.now c.split_at_mut-first.result.0.now c.split_at_mut-first.result.1.now c.args.stores.now c.split_at_mut-first_store.result.0.now c.split_at_mut-first_store.result.1.now f d a.value a.front_len x.value x.front_len (omega (arith, some, many)) each)
    (begin_rest (Stands g.St.Store c.args.plan.now len) c.args.ops.now c.split_at_mut-first.result.0.now c.split_at_mut-first.result.1.now c.args.stores.now c.split_at_mut-first_store.result.0.now c.split_at_mut-first_store.result.1.now a.value a.front_len x.value x.front_len each)

pub returns-in-Err : goal.returns-in-Err
returns-in-Err g c =
    let may = c.requires.ops in
    let f = c.index-first-0.result in
    let d = c.index-first_store-0.result in
    let a = c.split_at_mut-first.ensures in
    let x = c.split_at_mut-first_store.ensures in
    let many = may.many in
    let some = may.some in
    let same : length c.split_at_mut-first_store.result.1.now ≡ length c.split_at_mut-first.result.1.now = (let back = a.back_len in let behind = x.back_len in omega (arith, back, behind, many)) in
    put_together (λ o s o' s'. WroteAll g.K.Sink g.St.Store c.args.plan.now c.args.read c.args.sink.now c.args.sink.now (Err (Pool c.in-Err.e)) s s' o o') c.args.ops.now c.split_at_mut-first.result.0.now c.split_at_mut-first.result.1.now c.gather.new.ops c.args.stores.now c.split_at_mut-first_store.result.0.now c.split_at_mut-first_store.result.1.now c.gather.new.stores f c.gather.new.into d c.gather.new.beside a.value a.front_len x.value x.front_len
    (wrote_none g.K.Sink g.St.Store c.args.plan.now c.args.read c.args.sink.now c.in-Err.e _ _ _ _ _ _ _ _ same c.gather.ensures.into c.gather.ensures.others c.in-Err.ensures.cause)

pub returns : goal.returns
returns g c =
    let may = c.requires.ops in
    let f = c.index-first-0.result in
    let d = c.index-first_store-0.result in
    let a = c.split_at_mut-first.ensures in
    let x = c.split_at_mut-first_store.ensures in
    let many = may.many in
    let some = may.some in
    let same : length c.split_at_mut-first_store.result.1.now ≡ length c.split_at_mut-first.result.1.now = (let back = a.back_len in let behind = x.back_len in omega (arith, back, behind, many)) in
    let shape = begin_first (λ (o : Operator) (s : g.row.St.Denot). o.shape ≡ shape_of c.args.plan.now) c.args.ops.now c.split_at_mut-first.result.0.now c.split_at_mut-first.result.1.now c.args.stores.now c.split_at_mut-first_store.result.0.now c.split_at_mut-first_store.result.1.now f d a.value a.front_len x.value x.front_len (omega (arith, some, many)) (λ k op s below. may.shape k op below) in
    let w = c.write_groups.ensures in
    put_together (λ o s o' s'. WroteAll g.K.Sink g.St.Store c.args.plan.now c.args.read c.args.sink.now c.write_groups.new.sink c.write_groups.result s s' o o') c.args.ops.now c.split_at_mut-first.result.0.now c.split_at_mut-first.result.1.now c.gather.new.ops c.args.stores.now c.split_at_mut-first_store.result.0.now c.split_at_mut-first_store.result.1.now c.gather.new.stores f c.write_groups.new.op d c.write_groups.new.store a.value a.front_len x.value x.front_len
    (wrote_all g.K.Sink g.St.Store c.args.plan.now c.args.read c.args.sink.now c.write_groups.new.sink c.write_groups.result _ _ _ _ _ _ _ _ _ _ _ _ same shape c.in_default.ensures.ok c.gather.ensures.into c.gather.ensures.others w.went.went w.ok w.err w.read w.lines w.cause w.pool w.sink w.stops)
