use Rattle.std.proofs.Common.{rules, ◌≡◌, ◌∙◌, List, sym, arith}
use Rattle.row_codec.specs.declared.values.Value.{Value}
use Rattle.tuple_stream.specs.Steps.{scene}
use Rattle.partition_stack.specs.Emitting.{IsBeside}
use Rattle.partition_stack.proofs.Emitters.{same_beside, stands_left, stands_then}
use Rattle.partition_stack.proofs.Results.{if_err, on_err, on_ok}
use Rattle.partition_stack.specs.Slots.{with_more}
use Rattle.join_op.specs.Slots.{Crowds}
use Rattle.join_op.specs.Joining.{both, slots_both, slots_by}
use Rattle.join_op.proofs.Dealing.{pinned_then}
use Rattle.join_op.proofs.Enough.{some_len}
use Rattle.join_op.proofs.Paired.{came_till, crowd_paired, leaves_gone, leaves_paired, left_rows, op_paired, popped, left_rests, readable, right_rests, right_rows, right_still, shows_paired, slots_paired, stands_read, beside_read, left_there, want_beside_paired, want_paired}
use Rattle.join_op.specs.Chunks.{stored_pairs}
use Rattle.join_op.proofs.Handed.{emitted_on, some_on}
use Rattle.partition_stack.proofs.Making.{counts_both, emptied_makes, few_both, few_counts}
use Rattle.join_op.proofs.joining.pair_top.Goals as goal

pub leaf_by_table-result-requires-clause-streams : goal.leaf_by_table-result-requires-clause-streams
leaf_by_table-result-requires-clause-streams g c =
    readable c.args.c.now c.args.shape.now c.args._at c.args.left.now c.args.right.now c.pop-one.new.self c.pop-other.new.self c.pop-one.result c.pop-other.result (g.St.Store.holds c.args.store.now) (g.St.Store.signs c.args.store.now)
    c.requires.may.op c.requires.may.between c.requires.top c.pop-one.ensures.streams c.pop-other.ensures.streams c.law_stack.ensures c.law_stack-2.ensures

pub leaf_by_table-result-requires-clause-blocks : goal.leaf_by_table-result-requires-clause-blocks
leaf_by_table-result-requires-clause-blocks g c =
    c.page_blocks-blocks.ensures
    ∙ sym (c.law_stack.ensures.each c.args._at c.pop-one.result (left_there c.args.c.now c.args.shape.now c.args._at c.args.left.now c.args.right.now c.pop-one.new.self c.pop-other.new.self c.pop-one.result c.pop-other.result (g.St.Store.holds c.args.store.now) (g.St.Store.signs c.args.store.now) c.requires.may.op c.requires.may.between c.requires.top c.pop-one.ensures.streams c.pop-other.ensures.streams))

pub drop_all-requires : goal.drop_all-requires
drop_all-requires g c = (c.args.c.now.tracker, c.leaf_by_table-result.ensures.streams.left_shape)

pub drop_all-requires-2 : goal.drop_all-requires-2
drop_all-requires-2 g c = (
  c.args.c.now.tracker,
  right_still c.args.c.now c.args.shape.now c.args._at c.args.left.now c.args.right.now c.pop-one.new.self c.pop-other.new.self c.pop-one.result c.pop-other.result (g.St.Store.holds c.args.store.now) (g.St.Store.signs c.args.store.now)
      c.requires.may.op c.requires.may.between c.requires.top c.pop-one.ensures.streams c.pop-other.ensures.streams (g.E.Emit.client c.args.emit.now) c.leaf_by_table-result.new.left c.leaf_by_table-result.new.right
      (g.St.Store.holds c.leaf_by_table-result.new.store) (g.St.Store.signs c.leaf_by_table-result.new.store) c.leaf_by_table-result.ensures.streams c.leaf_by_table-result.ensures.hands.emitter.grows
      (scene c.drop_all.new.self (g.St.Store.holds c.drop_all.new.store) (g.St.Store.signs c.drop_all.new.store)) (c.drop_all.ensures.went c.args.c.now.tracker c.leaf_by_table-result.ensures.streams.left_shape) c.drop_all.ensures.value,
)

pub returns-clause-ok : goal.returns-clause-ok
returns-clause-ok g c =
    let h1 = g.St.Store.holds c.leaf_by_table-result.new.store in
    let h3 = g.St.Store.holds c.drop_all-2.new.store in
    let gone = leaves_gone c.args.c.now c.args.shape.now c.args._at c.args.left.now c.args.right.now c.pop-one.new.self c.pop-other.new.self c.pop-one.result c.pop-other.result (g.St.Store.holds c.args.store.now) (g.St.Store.signs c.args.store.now) c.requires.may.op c.requires.may.between c.requires.top c.pop-one.ensures.streams c.pop-other.ensures.streams (g.E.Emit.client c.args.emit.now) c.leaf_by_table-result.new.left c.leaf_by_table-result.new.right (g.St.Store.holds c.leaf_by_table-result.new.store) (g.St.Store.signs c.leaf_by_table-result.new.store) c.leaf_by_table-result.ensures.streams c.leaf_by_table-result.ensures.hands.emitter.grows (scene c.drop_all.new.self (g.St.Store.holds c.drop_all.new.store) (g.St.Store.signs c.drop_all.new.store)) (c.drop_all.ensures.went c.args.c.now.tracker c.leaf_by_table-result.ensures.streams.left_shape) c.drop_all.ensures.value (scene c.drop_all-2.new.self (g.St.Store.holds c.drop_all-2.new.store) (g.St.Store.signs c.drop_all-2.new.store)) (c.drop_all-2.ensures.went c.args.c.now.tracker (right_still c.args.c.now c.args.shape.now c.args._at c.args.left.now c.args.right.now c.pop-one.new.self c.pop-other.new.self c.pop-one.result c.pop-other.result (g.St.Store.holds c.args.store.now) (g.St.Store.signs c.args.store.now) c.requires.may.op c.requires.may.between c.requires.top c.pop-one.ensures.streams c.pop-other.ensures.streams (g.E.Emit.client c.args.emit.now) c.leaf_by_table-result.new.left c.leaf_by_table-result.new.right (g.St.Store.holds c.leaf_by_table-result.new.store) (g.St.Store.signs c.leaf_by_table-result.new.store) c.leaf_by_table-result.ensures.streams c.leaf_by_table-result.ensures.hands.emitter.grows (scene c.drop_all.new.self (g.St.Store.holds c.drop_all.new.store) (g.St.Store.signs c.drop_all.new.store)) (c.drop_all.ensures.went c.args.c.now.tracker c.leaf_by_table-result.ensures.streams.left_shape) c.drop_all.ensures.value)) c.drop_all-2.ensures.value c.pop-one.ensures.blocks c.pop-other.ensures.blocks c.pop-one.ensures.levels c.pop-other.ensures.levels in
    let beside : IsBeside c.args.c.now.tracker (g.E.Emit.client c.leaf_by_table-result.new.emit) h1 = beside_read c.args.c.now.tracker (g.E.Emit.admits c.args.emit.now) (g.E.Emit.admits c.leaf_by_table-result.new.emit) (g.E.Emit.client c.args.emit.now) (g.E.Emit.client c.leaf_by_table-result.new.emit) (g.E.Emit.faults c.args.emit.now) (g.E.Emit.faults c.leaf_by_table-result.new.emit) (g.St.Store.holds c.args.store.now) h1 (g.St.Store.signs c.args.store.now) (g.St.Store.signs c.leaf_by_table-result.new.store) c.requires.may.emits.emitter c.leaf_by_table-result.ensures.hands.emitter in
    let still : (taken : List (List Value)) → g.E.Emit.took c.leaf_by_table-result.new.emit h1 taken → g.E.Emit.took c.leaf_by_table-result.new.emit h3 taken =
    λ taken. g.met.E.Emit.asks_own c.leaf_by_table-result.new.emit h1 h3 taken (same_beside c.args.c.now.tracker (g.E.Emit.client c.leaf_by_table-result.new.emit) h1 h3 (g.St.Store.signs c.leaf_by_table-result.new.store) (g.St.Store.signs c.drop_all-2.new.store) beside.apart gone) in
    on_ok c.leaf_by_table-result.result
    (λ came lefts rights shows. (
      shows_paired c.args.c.now c.args.shape.now c.args._at c.args.left.now c.args.right.now c.pop-one.new.self c.pop-other.new.self c.pop-one.result c.pop-other.result (g.St.Store.holds c.args.store.now) (g.St.Store.signs c.args.store.now) c.requires.may.op c.requires.may.between c.requires.top c.pop-one.ensures.streams c.pop-other.ensures.streams (g.E.Emit.client c.args.emit.now) c.leaf_by_table-result.new.left c.leaf_by_table-result.new.right (g.St.Store.holds c.leaf_by_table-result.new.store) (g.St.Store.signs c.leaf_by_table-result.new.store) c.leaf_by_table-result.ensures.streams c.leaf_by_table-result.ensures.hands.emitter.grows (scene c.drop_all.new.self (g.St.Store.holds c.drop_all.new.store) (g.St.Store.signs c.drop_all.new.store)) (c.drop_all.ensures.went c.args.c.now.tracker c.leaf_by_table-result.ensures.streams.left_shape) c.drop_all.ensures.value (scene c.drop_all-2.new.self (g.St.Store.holds c.drop_all-2.new.store) (g.St.Store.signs c.drop_all-2.new.store)) (c.drop_all-2.ensures.went c.args.c.now.tracker (right_still c.args.c.now c.args.shape.now c.args._at c.args.left.now c.args.right.now c.pop-one.new.self c.pop-other.new.self c.pop-one.result c.pop-other.result (g.St.Store.holds c.args.store.now) (g.St.Store.signs c.args.store.now) c.requires.may.op c.requires.may.between c.requires.top c.pop-one.ensures.streams c.pop-other.ensures.streams (g.E.Emit.client c.args.emit.now) c.leaf_by_table-result.new.left c.leaf_by_table-result.new.right (g.St.Store.holds c.leaf_by_table-result.new.store) (g.St.Store.signs c.leaf_by_table-result.new.store) c.leaf_by_table-result.ensures.streams c.leaf_by_table-result.ensures.hands.emitter.grows (scene c.drop_all.new.self (g.St.Store.holds c.drop_all.new.store) (g.St.Store.signs c.drop_all.new.store)) (c.drop_all.ensures.went c.args.c.now.tracker c.leaf_by_table-result.ensures.streams.left_shape) c.drop_all.ensures.value)) c.drop_all-2.ensures.value c.pop-one.ensures.blocks c.pop-other.ensures.blocks c.pop-one.ensures.levels c.pop-other.ensures.levels lefts rights shows,
      emitted_on (g.E.Emit.took c.args.emit.now (g.St.Store.holds c.args.store.now)) (g.E.Emit.took c.leaf_by_table-result.new.emit h1) (g.E.Emit.took c.leaf_by_table-result.new.emit h3) (stored_pairs c.args.shape.now (lefts c.args._at) (rights c.args._at)) still (came (lefts c.args._at) (rights c.args._at) shows.told (left_rows c.args.c.now c.args.shape.now c.args._at c.args.left.now c.args.right.now c.pop-one.new.self c.pop-other.new.self c.pop-one.result c.pop-other.result (g.St.Store.holds c.args.store.now) (g.St.Store.signs c.args.store.now) c.requires.may.op c.requires.may.between c.requires.top c.pop-one.ensures.streams c.pop-other.ensures.streams lefts rights shows) (right_rows c.args.c.now c.args.shape.now c.args._at c.args.left.now c.args.right.now c.pop-one.new.self c.pop-other.new.self c.pop-one.result c.pop-other.result (g.St.Store.holds c.args.store.now) (g.St.Store.signs c.args.store.now) c.requires.may.op c.requires.may.between c.requires.top c.pop-one.ensures.streams c.pop-other.ensures.streams lefts rights shows)),
    ))
    c.leaf_by_table-result.ensures.hands.ok

pub returns-clause-hands : goal.returns-clause-hands
returns-clause-hands g c =
    let h1 = g.St.Store.holds c.leaf_by_table-result.new.store in
    let h3 = g.St.Store.holds c.drop_all-2.new.store in
    let gone = leaves_gone c.args.c.now c.args.shape.now c.args._at c.args.left.now c.args.right.now c.pop-one.new.self c.pop-other.new.self c.pop-one.result c.pop-other.result (g.St.Store.holds c.args.store.now) (g.St.Store.signs c.args.store.now) c.requires.may.op c.requires.may.between c.requires.top c.pop-one.ensures.streams c.pop-other.ensures.streams (g.E.Emit.client c.args.emit.now) c.leaf_by_table-result.new.left c.leaf_by_table-result.new.right (g.St.Store.holds c.leaf_by_table-result.new.store) (g.St.Store.signs c.leaf_by_table-result.new.store) c.leaf_by_table-result.ensures.streams c.leaf_by_table-result.ensures.hands.emitter.grows (scene c.drop_all.new.self (g.St.Store.holds c.drop_all.new.store) (g.St.Store.signs c.drop_all.new.store)) (c.drop_all.ensures.went c.args.c.now.tracker c.leaf_by_table-result.ensures.streams.left_shape) c.drop_all.ensures.value (scene c.drop_all-2.new.self (g.St.Store.holds c.drop_all-2.new.store) (g.St.Store.signs c.drop_all-2.new.store)) (c.drop_all-2.ensures.went c.args.c.now.tracker (right_still c.args.c.now c.args.shape.now c.args._at c.args.left.now c.args.right.now c.pop-one.new.self c.pop-other.new.self c.pop-one.result c.pop-other.result (g.St.Store.holds c.args.store.now) (g.St.Store.signs c.args.store.now) c.requires.may.op c.requires.may.between c.requires.top c.pop-one.ensures.streams c.pop-other.ensures.streams (g.E.Emit.client c.args.emit.now) c.leaf_by_table-result.new.left c.leaf_by_table-result.new.right (g.St.Store.holds c.leaf_by_table-result.new.store) (g.St.Store.signs c.leaf_by_table-result.new.store) c.leaf_by_table-result.ensures.streams c.leaf_by_table-result.ensures.hands.emitter.grows (scene c.drop_all.new.self (g.St.Store.holds c.drop_all.new.store) (g.St.Store.signs c.drop_all.new.store)) (c.drop_all.ensures.went c.args.c.now.tracker c.leaf_by_table-result.ensures.streams.left_shape) c.drop_all.ensures.value)) c.drop_all-2.ensures.value c.pop-one.ensures.blocks c.pop-other.ensures.blocks c.pop-one.ensures.levels c.pop-other.ensures.levels in
    let beside : IsBeside c.args.c.now.tracker (g.E.Emit.client c.leaf_by_table-result.new.emit) h1 = beside_read c.args.c.now.tracker (g.E.Emit.admits c.args.emit.now) (g.E.Emit.admits c.leaf_by_table-result.new.emit) (g.E.Emit.client c.args.emit.now) (g.E.Emit.client c.leaf_by_table-result.new.emit) (g.E.Emit.faults c.args.emit.now) (g.E.Emit.faults c.leaf_by_table-result.new.emit) (g.St.Store.holds c.args.store.now) h1 (g.St.Store.signs c.args.store.now) (g.St.Store.signs c.leaf_by_table-result.new.store) c.requires.may.emits.emitter c.leaf_by_table-result.ensures.hands.emitter in
    let still : (taken : List (List Value)) → g.E.Emit.took c.leaf_by_table-result.new.emit h1 taken → g.E.Emit.took c.leaf_by_table-result.new.emit h3 taken =
    λ taken. g.met.E.Emit.asks_own c.leaf_by_table-result.new.emit h1 h3 taken (same_beside c.args.c.now.tracker (g.E.Emit.client c.leaf_by_table-result.new.emit) h1 h3 (g.St.Store.signs c.leaf_by_table-result.new.store) (g.St.Store.signs c.drop_all-2.new.store) beside.apart gone) in
    let same : g.E.Emit.slots c.leaf_by_table-result.new.emit h3 ≡ g.E.Emit.slots c.leaf_by_table-result.new.emit h1 =
    g.met.E.Emit.slots_own c.leaf_by_table-result.new.emit h1 h3 (same_beside c.args.c.now.tracker (g.E.Emit.client c.leaf_by_table-result.new.emit) h1 h3 (g.St.Store.signs c.leaf_by_table-result.new.store) (g.St.Store.signs c.drop_all-2.new.store) beside.apart gone) in
    record {
      err = on_err c.leaf_by_table-result.result
          (λ came lefts rights shows. some_on (g.E.Emit.took c.args.emit.now (g.St.Store.holds c.args.store.now)) (g.E.Emit.took c.leaf_by_table-result.new.emit h1) (g.E.Emit.took c.leaf_by_table-result.new.emit h3) (stored_pairs c.args.shape.now (lefts c.args._at) (rights c.args._at)) still (came (lefts c.args._at) (rights c.args._at) shows.told (left_rows c.args.c.now c.args.shape.now c.args._at c.args.left.now c.args.right.now c.pop-one.new.self c.pop-other.new.self c.pop-one.result c.pop-other.result (g.St.Store.holds c.args.store.now) (g.St.Store.signs c.args.store.now) c.requires.may.op c.requires.may.between c.requires.top c.pop-one.ensures.streams c.pop-other.ensures.streams lefts rights shows) (right_rows c.args.c.now c.args.shape.now c.args._at c.args.left.now c.args.right.now c.pop-one.new.self c.pop-other.new.self c.pop-one.result c.pop-other.result (g.St.Store.holds c.args.store.now) (g.St.Store.signs c.args.store.now) c.requires.may.op c.requires.may.between c.requires.top c.pop-one.ensures.streams c.pop-other.ensures.streams lefts rights shows)))
          c.leaf_by_table-result.ensures.hands.err;
      op = op_paired c.args.c.now c.args.shape.now c.args._at c.args.left.now c.args.right.now c.pop-one.new.self c.pop-other.new.self c.pop-one.result c.pop-other.result (g.St.Store.holds c.args.store.now) (g.St.Store.signs c.args.store.now) c.requires.may.op c.requires.may.between c.requires.top c.pop-one.ensures.streams c.pop-other.ensures.streams (g.E.Emit.client c.args.emit.now) c.leaf_by_table-result.new.left c.leaf_by_table-result.new.right (g.St.Store.holds c.leaf_by_table-result.new.store) (g.St.Store.signs c.leaf_by_table-result.new.store) c.leaf_by_table-result.ensures.streams c.leaf_by_table-result.ensures.hands.emitter.grows (scene c.drop_all.new.self (g.St.Store.holds c.drop_all.new.store) (g.St.Store.signs c.drop_all.new.store)) (c.drop_all.ensures.went c.args.c.now.tracker c.leaf_by_table-result.ensures.streams.left_shape) c.drop_all.ensures.value (scene c.drop_all-2.new.self (g.St.Store.holds c.drop_all-2.new.store) (g.St.Store.signs c.drop_all-2.new.store)) (c.drop_all-2.ensures.went c.args.c.now.tracker (right_still c.args.c.now c.args.shape.now c.args._at c.args.left.now c.args.right.now c.pop-one.new.self c.pop-other.new.self c.pop-one.result c.pop-other.result (g.St.Store.holds c.args.store.now) (g.St.Store.signs c.args.store.now) c.requires.may.op c.requires.may.between c.requires.top c.pop-one.ensures.streams c.pop-other.ensures.streams (g.E.Emit.client c.args.emit.now) c.leaf_by_table-result.new.left c.leaf_by_table-result.new.right (g.St.Store.holds c.leaf_by_table-result.new.store) (g.St.Store.signs c.leaf_by_table-result.new.store) c.leaf_by_table-result.ensures.streams c.leaf_by_table-result.ensures.hands.emitter.grows (scene c.drop_all.new.self (g.St.Store.holds c.drop_all.new.store) (g.St.Store.signs c.drop_all.new.store)) (c.drop_all.ensures.went c.args.c.now.tracker c.leaf_by_table-result.ensures.streams.left_shape) c.drop_all.ensures.value)) c.drop_all-2.ensures.value c.pop-one.ensures.blocks c.pop-other.ensures.blocks c.pop-one.ensures.levels c.pop-other.ensures.levels;
      leaves = leaves_paired c.args.c.now c.args.shape.now c.args._at c.args.left.now c.args.right.now c.pop-one.new.self c.pop-other.new.self c.pop-one.result c.pop-other.result (g.St.Store.holds c.args.store.now) (g.St.Store.signs c.args.store.now) c.requires.may.op c.requires.may.between c.requires.top c.pop-one.ensures.streams c.pop-other.ensures.streams (g.E.Emit.client c.args.emit.now) c.leaf_by_table-result.new.left c.leaf_by_table-result.new.right (g.St.Store.holds c.leaf_by_table-result.new.store) (g.St.Store.signs c.leaf_by_table-result.new.store) c.leaf_by_table-result.ensures.streams c.leaf_by_table-result.ensures.hands.emitter.grows (scene c.drop_all.new.self (g.St.Store.holds c.drop_all.new.store) (g.St.Store.signs c.drop_all.new.store)) (c.drop_all.ensures.went c.args.c.now.tracker c.leaf_by_table-result.ensures.streams.left_shape) c.drop_all.ensures.value (scene c.drop_all-2.new.self (g.St.Store.holds c.drop_all-2.new.store) (g.St.Store.signs c.drop_all-2.new.store)) (c.drop_all-2.ensures.went c.args.c.now.tracker (right_still c.args.c.now c.args.shape.now c.args._at c.args.left.now c.args.right.now c.pop-one.new.self c.pop-other.new.self c.pop-one.result c.pop-other.result (g.St.Store.holds c.args.store.now) (g.St.Store.signs c.args.store.now) c.requires.may.op c.requires.may.between c.requires.top c.pop-one.ensures.streams c.pop-other.ensures.streams (g.E.Emit.client c.args.emit.now) c.leaf_by_table-result.new.left c.leaf_by_table-result.new.right (g.St.Store.holds c.leaf_by_table-result.new.store) (g.St.Store.signs c.leaf_by_table-result.new.store) c.leaf_by_table-result.ensures.streams c.leaf_by_table-result.ensures.hands.emitter.grows (scene c.drop_all.new.self (g.St.Store.holds c.drop_all.new.store) (g.St.Store.signs c.drop_all.new.store)) (c.drop_all.ensures.went c.args.c.now.tracker c.leaf_by_table-result.ensures.streams.left_shape) c.drop_all.ensures.value)) c.drop_all-2.ensures.value c.pop-one.ensures.blocks c.pop-other.ensures.blocks c.pop-one.ensures.levels c.pop-other.ensures.levels;
      emitter = stands_then _ _ _ _ _ _ _ _ _ (g.E.Emit.took c.args.emit.now (g.St.Store.holds c.args.store.now)) (g.E.Emit.took c.leaf_by_table-result.new.emit h1) (g.E.Emit.took c.leaf_by_table-result.new.emit h3) h1 h3
          (stands_read _ _ _ _ _ _ (g.E.Emit.took c.args.emit.now (g.St.Store.holds c.args.store.now)) (g.E.Emit.took c.leaf_by_table-result.new.emit h1) h1 (g.St.Store.signs c.args.store.now) (g.St.Store.signs c.leaf_by_table-result.new.store) c.leaf_by_table-result.ensures.hands.emitter c.leaf_by_table-result.ensures.hands.stands)
          (stands_left _ _ _ (g.E.Emit.took c.leaf_by_table-result.new.emit h1) (g.E.Emit.took c.leaf_by_table-result.new.emit h3) c.args.c.now.tracker h1 h3 (g.St.Store.signs c.leaf_by_table-result.new.store) (g.St.Store.signs c.drop_all-2.new.store) beside gone still);
      slots = slots_paired c.args.c.now c.args.shape.now c.args._at c.args.left.now c.args.right.now c.pop-one.new.self c.pop-other.new.self c.pop-one.result c.pop-other.result (g.St.Store.holds c.args.store.now) (g.St.Store.signs c.args.store.now) c.requires.may.op c.requires.may.between c.requires.top c.pop-one.ensures.streams c.pop-other.ensures.streams (g.E.Emit.client c.args.emit.now) c.leaf_by_table-result.new.left c.leaf_by_table-result.new.right (g.St.Store.holds c.leaf_by_table-result.new.store) (g.St.Store.signs c.leaf_by_table-result.new.store) c.leaf_by_table-result.ensures.streams c.leaf_by_table-result.ensures.hands.emitter.grows (scene c.drop_all.new.self (g.St.Store.holds c.drop_all.new.store) (g.St.Store.signs c.drop_all.new.store)) (c.drop_all.ensures.went c.args.c.now.tracker c.leaf_by_table-result.ensures.streams.left_shape) c.drop_all.ensures.value (scene c.drop_all-2.new.self (g.St.Store.holds c.drop_all-2.new.store) (g.St.Store.signs c.drop_all-2.new.store)) (c.drop_all-2.ensures.went c.args.c.now.tracker (right_still c.args.c.now c.args.shape.now c.args._at c.args.left.now c.args.right.now c.pop-one.new.self c.pop-other.new.self c.pop-one.result c.pop-other.result (g.St.Store.holds c.args.store.now) (g.St.Store.signs c.args.store.now) c.requires.may.op c.requires.may.between c.requires.top c.pop-one.ensures.streams c.pop-other.ensures.streams (g.E.Emit.client c.args.emit.now) c.leaf_by_table-result.new.left c.leaf_by_table-result.new.right (g.St.Store.holds c.leaf_by_table-result.new.store) (g.St.Store.signs c.leaf_by_table-result.new.store) c.leaf_by_table-result.ensures.streams c.leaf_by_table-result.ensures.hands.emitter.grows (scene c.drop_all.new.self (g.St.Store.holds c.drop_all.new.store) (g.St.Store.signs c.drop_all.new.store)) (c.drop_all.ensures.went c.args.c.now.tracker c.leaf_by_table-result.ensures.streams.left_shape) c.drop_all.ensures.value)) c.drop_all-2.ensures.value c.pop-one.ensures.blocks c.pop-other.ensures.blocks c.pop-one.ensures.levels c.pop-other.ensures.levels _ _ _ c.leaf_by_table-result.ensures.hands.slots same;
      alone = λ none.
          if_err c.leaf_by_table-result.result
          (λ e came. want_paired c.args.c.now c.args.shape.now c.args._at c.args.left.now c.args.right.now c.pop-one.new.self c.pop-other.new.self c.pop-one.result c.pop-other.result (g.St.Store.holds c.args.store.now) (g.St.Store.signs c.args.store.now) c.requires.may.op c.requires.may.between c.requires.top c.pop-one.ensures.streams c.pop-other.ensures.streams (g.E.Emit.client c.args.emit.now) c.leaf_by_table-result.new.left c.leaf_by_table-result.new.right (g.St.Store.holds c.leaf_by_table-result.new.store) (g.St.Store.signs c.leaf_by_table-result.new.store) c.leaf_by_table-result.ensures.streams c.leaf_by_table-result.ensures.hands.emitter.grows (scene c.drop_all.new.self (g.St.Store.holds c.drop_all.new.store) (g.St.Store.signs c.drop_all.new.store)) (c.drop_all.ensures.went c.args.c.now.tracker c.leaf_by_table-result.ensures.streams.left_shape) c.drop_all.ensures.value _ _ c.leaf_by_table-result.ensures.hands.slots none c.law_stack.ensures c.law_stack-2.ensures e (came.full none))
          c.leaf_by_table-result.ensures.hands.cause;
      want = λ same.
          if_err c.leaf_by_table-result.result
          (λ e want. want_beside_paired c.args.c.now c.args.shape.now c.args._at c.args.left.now c.args.right.now c.pop-one.new.self c.pop-other.new.self c.pop-one.result c.pop-other.result (g.St.Store.holds c.args.store.now) (g.St.Store.signs c.args.store.now) c.requires.may.op c.requires.may.between c.requires.top c.pop-one.ensures.streams c.pop-other.ensures.streams (g.E.Emit.client c.args.emit.now) c.leaf_by_table-result.new.left c.leaf_by_table-result.new.right (g.St.Store.holds c.leaf_by_table-result.new.store) (g.St.Store.signs c.leaf_by_table-result.new.store) c.leaf_by_table-result.ensures.streams c.leaf_by_table-result.ensures.hands.emitter.grows (scene c.drop_all.new.self (g.St.Store.holds c.drop_all.new.store) (g.St.Store.signs c.drop_all.new.store)) (c.drop_all.ensures.went c.args.c.now.tracker c.leaf_by_table-result.ensures.streams.left_shape) c.drop_all.ensures.value _ _ c.leaf_by_table-result.ensures.hands.slots c.law_stack.ensures c.law_stack-2.ensures e want)
          (c.leaf_by_table-result.ensures.hands.want (same ∙ sym (c.law_stack.ensures.each c.args._at c.pop-one.result (left_there c.args.c.now c.args.shape.now c.args._at c.args.left.now c.args.right.now c.pop-one.new.self c.pop-other.new.self c.pop-one.result c.pop-other.result (g.St.Store.holds c.args.store.now) (g.St.Store.signs c.args.store.now) c.requires.may.op c.requires.may.between c.requires.top c.pop-one.ensures.streams c.pop-other.ensures.streams))));
      enough = if_err c.leaf_by_table-result.result
          (λ e came lefts rights shows.
          some_on (g.E.Emit.took c.args.emit.now (g.St.Store.holds c.args.store.now)) (Crowds (g.E.Emit.slots_for c.args.emit.now) c.pop-one.result.page_blocks (with_more (g.E.Emit.slots c.leaf_by_table-result.new.emit (g.St.Store.holds c.leaf_by_table-result.new.store)) (g.St.Store.holds c.leaf_by_table-result.new.store).free_slots) e)
          (Crowds (g.E.Emit.slots_for c.args.emit.now) (slots_by (both c.args.left.now c.args.right.now (g.St.Store.holds c.args.store.now) (g.St.Store.signs c.args.store.now)) lefts rights) (with_more (g.E.Emit.slots c.args.emit.now (g.St.Store.holds c.args.store.now)) (slots_both (both c.args.left.now c.args.right.now (g.St.Store.holds c.args.store.now) (g.St.Store.signs c.args.store.now)))) e) (stored_pairs c.args.shape.now (lefts c.args._at) (rights c.args._at))
          (crowd_paired c.args.c.now c.args.shape.now c.args._at c.args.left.now c.args.right.now c.pop-one.new.self c.pop-other.new.self c.pop-one.result c.pop-other.result (g.St.Store.holds c.args.store.now) (g.St.Store.signs c.args.store.now) c.requires.may.op c.requires.may.between c.requires.top c.pop-one.ensures.streams c.pop-other.ensures.streams (g.E.Emit.client c.args.emit.now) c.leaf_by_table-result.new.left c.leaf_by_table-result.new.right (g.St.Store.holds c.leaf_by_table-result.new.store) (g.St.Store.signs c.leaf_by_table-result.new.store) c.leaf_by_table-result.ensures.streams c.leaf_by_table-result.ensures.hands.emitter.grows (scene c.drop_all.new.self (g.St.Store.holds c.drop_all.new.store) (g.St.Store.signs c.drop_all.new.store)) (c.drop_all.ensures.went c.args.c.now.tracker c.leaf_by_table-result.ensures.streams.left_shape) c.drop_all.ensures.value c.law_scratch.ensures.few _ _ c.leaf_by_table-result.ensures.hands.slots c.law_stack.ensures c.law_stack-2.ensures
          (some_len c.args.left.now.page_blocks (g.St.Store.holds c.args.store.now).block_len c.requires.may.op.sized (let least = c.block_len-len.ensures.least in let value = c.block_len-len.ensures.value in omega (arith, least, value))) lefts rights shows (g.E.Emit.slots_for c.args.emit.now) e)
          (came (lefts c.args._at) (rights c.args._at) shows.told (left_rows c.args.c.now c.args.shape.now c.args._at c.args.left.now c.args.right.now c.pop-one.new.self c.pop-other.new.self c.pop-one.result c.pop-other.result (g.St.Store.holds c.args.store.now) (g.St.Store.signs c.args.store.now) c.requires.may.op c.requires.may.between c.requires.top c.pop-one.ensures.streams c.pop-other.ensures.streams lefts rights shows) (right_rows c.args.c.now c.args.shape.now c.args._at c.args.left.now c.args.right.now c.pop-one.new.self c.pop-other.new.self c.pop-one.result c.pop-other.result (g.St.Store.holds c.args.store.now) (g.St.Store.signs c.args.store.now) c.requires.may.op c.requires.may.between c.requires.top c.pop-one.ensures.streams c.pop-other.ensures.streams lefts rights shows)))
          c.leaf_by_table-result.ensures.hands.crowded;
      most = search rules;
      cause = came_till c.leaf_by_table-result.result _ _ _ _ _ (leaves_gone c.args.c.now c.args.shape.now c.args._at c.args.left.now c.args.right.now c.pop-one.new.self c.pop-other.new.self c.pop-one.result c.pop-other.result (g.St.Store.holds c.args.store.now) (g.St.Store.signs c.args.store.now) c.requires.may.op c.requires.may.between c.requires.top c.pop-one.ensures.streams c.pop-other.ensures.streams (g.E.Emit.client c.args.emit.now) c.leaf_by_table-result.new.left c.leaf_by_table-result.new.right (g.St.Store.holds c.leaf_by_table-result.new.store) (g.St.Store.signs c.leaf_by_table-result.new.store) c.leaf_by_table-result.ensures.streams c.leaf_by_table-result.ensures.hands.emitter.grows (scene c.drop_all.new.self (g.St.Store.holds c.drop_all.new.store) (g.St.Store.signs c.drop_all.new.store)) (c.drop_all.ensures.went c.args.c.now.tracker c.leaf_by_table-result.ensures.streams.left_shape) c.drop_all.ensures.value (scene c.drop_all-2.new.self (g.St.Store.holds c.drop_all-2.new.store) (g.St.Store.signs c.drop_all-2.new.store)) (c.drop_all-2.ensures.went c.args.c.now.tracker (right_still c.args.c.now c.args.shape.now c.args._at c.args.left.now c.args.right.now c.pop-one.new.self c.pop-other.new.self c.pop-one.result c.pop-other.result (g.St.Store.holds c.args.store.now) (g.St.Store.signs c.args.store.now) c.requires.may.op c.requires.may.between c.requires.top c.pop-one.ensures.streams c.pop-other.ensures.streams (g.E.Emit.client c.args.emit.now) c.leaf_by_table-result.new.left c.leaf_by_table-result.new.right (g.St.Store.holds c.leaf_by_table-result.new.store) (g.St.Store.signs c.leaf_by_table-result.new.store) c.leaf_by_table-result.ensures.streams c.leaf_by_table-result.ensures.hands.emitter.grows (scene c.drop_all.new.self (g.St.Store.holds c.drop_all.new.store) (g.St.Store.signs c.drop_all.new.store)) (c.drop_all.ensures.went c.args.c.now.tracker c.leaf_by_table-result.ensures.streams.left_shape) c.drop_all.ensures.value)) c.drop_all-2.ensures.value c.pop-one.ensures.blocks c.pop-other.ensures.blocks c.pop-one.ensures.levels c.pop-other.ensures.levels).grows (if_err c.leaf_by_table-result.result (λ e came. came.came) c.leaf_by_table-result.ensures.hands.cause);
    }

pub returns-clause-popped : goal.returns-clause-popped
returns-clause-popped g c = popped c.args.c.now c.args.shape.now c.args._at c.args.left.now c.args.right.now c.pop-one.new.self c.pop-other.new.self c.pop-one.result c.pop-other.result (g.St.Store.holds c.args.store.now) (g.St.Store.signs c.args.store.now) c.requires.may.op c.requires.may.between c.requires.top c.pop-one.ensures.streams c.pop-other.ensures.streams (g.E.Emit.client c.args.emit.now) c.leaf_by_table-result.new.left c.leaf_by_table-result.new.right (g.St.Store.holds c.leaf_by_table-result.new.store) (g.St.Store.signs c.leaf_by_table-result.new.store) c.leaf_by_table-result.ensures.streams c.leaf_by_table-result.ensures.hands.emitter.grows (scene c.drop_all.new.self (g.St.Store.holds c.drop_all.new.store) (g.St.Store.signs c.drop_all.new.store)) (c.drop_all.ensures.went c.args.c.now.tracker c.leaf_by_table-result.ensures.streams.left_shape) c.drop_all.ensures.value (scene c.drop_all-2.new.self (g.St.Store.holds c.drop_all-2.new.store) (g.St.Store.signs c.drop_all-2.new.store)) (c.drop_all-2.ensures.went c.args.c.now.tracker (right_still c.args.c.now c.args.shape.now c.args._at c.args.left.now c.args.right.now c.pop-one.new.self c.pop-other.new.self c.pop-one.result c.pop-other.result (g.St.Store.holds c.args.store.now) (g.St.Store.signs c.args.store.now) c.requires.may.op c.requires.may.between c.requires.top c.pop-one.ensures.streams c.pop-other.ensures.streams (g.E.Emit.client c.args.emit.now) c.leaf_by_table-result.new.left c.leaf_by_table-result.new.right (g.St.Store.holds c.leaf_by_table-result.new.store) (g.St.Store.signs c.leaf_by_table-result.new.store) c.leaf_by_table-result.ensures.streams c.leaf_by_table-result.ensures.hands.emitter.grows (scene c.drop_all.new.self (g.St.Store.holds c.drop_all.new.store) (g.St.Store.signs c.drop_all.new.store)) (c.drop_all.ensures.went c.args.c.now.tracker c.leaf_by_table-result.ensures.streams.left_shape) c.drop_all.ensures.value)) c.drop_all-2.ensures.value c.pop-one.ensures.blocks c.pop-other.ensures.blocks c.pop-one.ensures.levels c.pop-other.ensures.levels

pub returns-clause-made : goal.returns-clause-made
returns-clause-made g c =
    let h1 = g.St.Store.holds c.leaf_by_table-result.new.store in
    let s1 = g.St.Store.signs c.leaf_by_table-result.new.store in
    let h2 = g.St.Store.holds c.drop_all.new.store in
    let s2 = g.St.Store.signs c.drop_all.new.store in
    let s3 = g.St.Store.signs c.drop_all-2.new.store in
    counts_both 0 0 0 (g.E.Emit.creates c.args.emit.now) (g.E.Emit.creates c.leaf_by_table-result.new.emit) (g.E.Emit.creates c.leaf_by_table-result.new.emit) (g.St.Store.signs c.args.store.now) s1 s3 (omega arith) c.leaf_by_table-result.ensures.hands.emitter.made
    (few_counts 0 (g.E.Emit.creates c.leaf_by_table-result.new.emit) s1 s3
    (few_both 0 0 0 s1 s2 s3 (omega arith)
    (emptied_makes c.args.c.now.tracker (scene c.leaf_by_table-result.new.left h1 s1) (scene c.drop_all.new.self h2 s2) (c.drop_all.ensures.went c.args.c.now.tracker c.leaf_by_table-result.ensures.streams.left_shape))
    (emptied_makes c.args.c.now.tracker (scene c.leaf_by_table-result.new.right h2 s2) (scene c.drop_all-2.new.self (g.St.Store.holds c.drop_all-2.new.store) s3) (c.drop_all-2.ensures.went c.args.c.now.tracker (right_still c.args.c.now c.args.shape.now c.args._at c.args.left.now c.args.right.now c.pop-one.new.self c.pop-other.new.self c.pop-one.result c.pop-other.result (g.St.Store.holds c.args.store.now) (g.St.Store.signs c.args.store.now) c.requires.may.op c.requires.may.between c.requires.top c.pop-one.ensures.streams c.pop-other.ensures.streams (g.E.Emit.client c.args.emit.now) c.leaf_by_table-result.new.left c.leaf_by_table-result.new.right (g.St.Store.holds c.leaf_by_table-result.new.store) (g.St.Store.signs c.leaf_by_table-result.new.store) c.leaf_by_table-result.ensures.streams c.leaf_by_table-result.ensures.hands.emitter.grows (scene c.drop_all.new.self (g.St.Store.holds c.drop_all.new.store) (g.St.Store.signs c.drop_all.new.store)) (c.drop_all.ensures.went c.args.c.now.tracker c.leaf_by_table-result.ensures.streams.left_shape) c.drop_all.ensures.value)))))

pub returns-clause-first : goal.returns-clause-first
returns-clause-first g c =
    let gone = leaves_gone c.args.c.now c.args.shape.now c.args._at c.args.left.now c.args.right.now c.pop-one.new.self c.pop-other.new.self c.pop-one.result c.pop-other.result (g.St.Store.holds c.args.store.now) (g.St.Store.signs c.args.store.now) c.requires.may.op c.requires.may.between c.requires.top c.pop-one.ensures.streams c.pop-other.ensures.streams (g.E.Emit.client c.args.emit.now) c.leaf_by_table-result.new.left c.leaf_by_table-result.new.right (g.St.Store.holds c.leaf_by_table-result.new.store) (g.St.Store.signs c.leaf_by_table-result.new.store) c.leaf_by_table-result.ensures.streams c.leaf_by_table-result.ensures.hands.emitter.grows (scene c.drop_all.new.self (g.St.Store.holds c.drop_all.new.store) (g.St.Store.signs c.drop_all.new.store)) (c.drop_all.ensures.went c.args.c.now.tracker c.leaf_by_table-result.ensures.streams.left_shape) c.drop_all.ensures.value (scene c.drop_all-2.new.self (g.St.Store.holds c.drop_all-2.new.store) (g.St.Store.signs c.drop_all-2.new.store)) (c.drop_all-2.ensures.went c.args.c.now.tracker (right_still c.args.c.now c.args.shape.now c.args._at c.args.left.now c.args.right.now c.pop-one.new.self c.pop-other.new.self c.pop-one.result c.pop-other.result (g.St.Store.holds c.args.store.now) (g.St.Store.signs c.args.store.now) c.requires.may.op c.requires.may.between c.requires.top c.pop-one.ensures.streams c.pop-other.ensures.streams (g.E.Emit.client c.args.emit.now) c.leaf_by_table-result.new.left c.leaf_by_table-result.new.right (g.St.Store.holds c.leaf_by_table-result.new.store) (g.St.Store.signs c.leaf_by_table-result.new.store) c.leaf_by_table-result.ensures.streams c.leaf_by_table-result.ensures.hands.emitter.grows (scene c.drop_all.new.self (g.St.Store.holds c.drop_all.new.store) (g.St.Store.signs c.drop_all.new.store)) (c.drop_all.ensures.went c.args.c.now.tracker c.leaf_by_table-result.ensures.streams.left_shape) c.drop_all.ensures.value)) c.drop_all-2.ensures.value c.pop-one.ensures.blocks c.pop-other.ensures.blocks c.pop-one.ensures.levels c.pop-other.ensures.levels in
    on_ok c.leaf_by_table-result.result
    (λ pins left right. pinned_then _ _ _ (pins (left_rests c.args.c.now c.args.shape.now c.args._at c.args.left.now c.args.right.now c.pop-one.new.self c.pop-other.new.self c.pop-one.result c.pop-other.result (g.St.Store.holds c.args.store.now) (g.St.Store.signs c.args.store.now) c.requires.may.op c.requires.may.between c.requires.top c.pop-one.ensures.streams c.pop-other.ensures.streams left) (right_rests c.args.c.now c.args.shape.now c.args._at c.args.left.now c.args.right.now c.pop-one.new.self c.pop-other.new.self c.pop-one.result c.pop-other.result (g.St.Store.holds c.args.store.now) (g.St.Store.signs c.args.store.now) c.requires.may.op c.requires.may.between c.requires.top c.pop-one.ensures.streams c.pop-other.ensures.streams right)) gone.grows.trail)
    c.leaf_by_table-result.ensures.first
