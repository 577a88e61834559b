use Rattle.std.proofs.Common.{◌≡◌, ◌+◌, ◌<◌, arith, inl, length, rules, slice_index_or, slice_set, subst, vec_len}
use Rattle.group_op.specs.Operator.{IsOperator, Operator}
use Rattle.query_run.specs.Several.{HaveEndedFrom}
use Rattle.query_run.proofs.Stores.{front_less, last_is, one_more_ended}
use Rattle.query_run.proofs.several.end_first.Goals as goal

pub end_one-requires : goal.end_one-requires
end_one-requires g c =
    let inv = c.loop-ops.invariant in
    let at = c.len.result in
    let long : length c.take_last-op.new.self.items ≡ at = search rules in
    let less : at < vec_len c.args.ops = omega (arith, c.take_last-op.ensures.len, inv.1, long) in
    let store = c.index-stores-len.result in
    let op = c.take_last-op.result in
    let is : slice_index_or c.args.ops.items at op ≡ op = subst (λ n. slice_index_or c.args.ops.items n op ≡ op) long (last_is c.args.ops.items c.loop-ops.ops.items c.take_last-op.new.self.items op c.take_last-op.ensures.items inv.0 op) in
    let same : slice_index_or c.loop-ops.stores at store ≡ slice_index_or c.args.stores.now at store = inv.2.stay at store (inl (omega (arith, c.take_last-op.ensures.len, long))) in
    let here : IsOperator (slice_index_or c.args.ops.items at op) (g.St.Store.holds (slice_index_or c.args.stores.now at store)) (g.St.Store.signs (slice_index_or c.args.stores.now at store)) = c.requires.are at store op less in
    rw same (subst (λ o. IsOperator o (g.St.Store.holds (slice_index_or c.args.stores.now at store)) (g.St.Store.signs (slice_index_or c.args.stores.now at store))) is here)

pub loop-ops-preserved : goal.loop-ops-preserved
loop-ops-preserved g c =
    let inv = c.loop-ops.invariant in
    let at = c.len.result in
    let long : length c.take_last-op.new.self.items ≡ at = search rules in
    let less : at < vec_len c.args.ops = omega (arith, c.take_last-op.ensures.len, inv.1, long) in
    let op = c.take_last-op.result in
    let is = subst (λ n. (f : Operator) → slice_index_or c.args.ops.items n f ≡ op) long (last_is c.args.ops.items c.loop-ops.ops.items c.take_last-op.new.self.items op c.take_last-op.ensures.items inv.0) in
    let all : length c.args.ops.items ≡ vec_len c.args.ops = search rules in
    let next : vec_len c.loop-ops.ops ≡ at + 1 = omega (arith, c.take_last-op.ensures.len, c.len.ensures) in
    let before = subst (λ n. HaveEndedFrom g.St.Store n c.args.stores.now c.loop-ops.stores c.args.ops.items) next inv.2 in
    let more = one_more_ended g.St.Store at c.args.stores.now c.loop-ops.stores c.args.ops.items op c.index-stores-len.result c.end_one.new.store (omega (arith, less, all)) (omega (arith, c.requires.few, all)) before is c.end_one.ensures.back c.end_one.ensures.grows in (
      front_less c.args.ops.items c.loop-ops.ops.items c.take_last-op.new.self.items op c.take_last-op.ensures.items inv.0,
      search (rules, arith),
      subst (λ n. HaveEndedFrom g.St.Store n c.args.stores.now (slice_set c.loop-ops.stores at c.end_one.new.store) c.args.ops.items) c.len.ensures more,
    )
