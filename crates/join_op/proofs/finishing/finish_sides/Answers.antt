use Rattle.std.proofs.Common.{rules, ◌≡◌, ◌+◌, ◌*◌, [], List, length, arith}
use Rattle.row_codec.specs.declared.values.Value.{Value}
use Rattle.partition_stack.specs.Emitting.{IsBeside}
use Rattle.partition_stack.specs.Stack.{over}
use Rattle.partition_stack.proofs.Emitters.{beside_stands, beside_then, left_beside, same_beside, stands_left, stands_then}
use Rattle.tuple_stream.specs.Families.{family}
use Rattle.partition_stack.proofs.Making.{counts_both, ending_makes, few_both, few_counts}
use Rattle.partition_stack.proofs.Results.{on_err, on_ok}
use Rattle.partition_stack.proofs.Slots.{keep_own, keep_then}
use Rattle.join_op.specs.Joining.{both, slots_both}
use Rattle.join_op.specs.Pairs.{pairs_of}
use Rattle.join_op.proofs.BothSlots.{cleared_slots}
use Rattle.join_op.proofs.Cleared.{cleared_closed, cleared_first, cleared_leaves, cleared_op, right_still}
use Rattle.join_op.proofs.Handed.{emitted_on, from_two, some_on}
use Rattle.join_op.proofs.LaidSides.{holds_more}
use Rattle.join_op.proofs.FinishSteps.{cause_till}
use Rattle.join_op.proofs.finishing.finish_sides.Goals as goal

pub clear-requires : goal.clear-requires
clear-requires g c = c.join_sides-result.ensures.finishes.op.owns.left_shaped

pub clear-requires-2 : goal.clear-requires-2
clear-requires-2 g c = right_still c.args.c.now c.args.shape.now c.join_sides-result.new.left c.join_sides-result.new.right c.clear.new.self (g.St.Store.holds c.join_sides-result.new.store) (g.St.Store.holds c.clear.new.store) (g.St.Store.signs c.join_sides-result.new.store) (g.St.Store.signs c.clear.new.store) c.join_sides-result.ensures.finishes.op c.clear.ensures.ends

pub returns-clause-finishes : goal.returns-clause-finishes
returns-clause-finishes g c =
    let gone = cleared_leaves c.args.c.now c.args.shape.now c.join_sides-result.new.left c.join_sides-result.new.right c.clear.new.self c.clear-2.new.self (g.St.Store.holds c.join_sides-result.new.store) (g.St.Store.holds c.clear.new.store) (g.St.Store.holds c.clear-2.new.store) (g.St.Store.signs c.join_sides-result.new.store) (g.St.Store.signs c.clear.new.store) (g.St.Store.signs c.clear-2.new.store) c.join_sides-result.ensures.finishes.op c.clear.ensures.ends c.clear-2.ensures.ends c.clear.ensures.none c.clear-2.ensures.none in
    let beside : IsBeside c.args.c.now.tracker (g.E.Emit.client c.join_sides-result.new.emit) (g.St.Store.holds c.join_sides-result.new.store) = beside_stands c.args.c.now.tracker _ _ _ _ _ _ _ _ _ _ c.requires.may.emits.emitter c.join_sides-result.ensures.finishes.emitter in
    let still : (taken : List (List Value)) → (g.E.Emit.took c.join_sides-result.new.emit (g.St.Store.holds c.join_sides-result.new.store)) taken → (g.E.Emit.took c.join_sides-result.new.emit (g.St.Store.holds c.clear-2.new.store)) taken =
    λ taken. g.met.E.Emit.asks_own c.join_sides-result.new.emit (g.St.Store.holds c.join_sides-result.new.store) (g.St.Store.holds c.clear-2.new.store) taken (same_beside c.args.c.now.tracker (g.E.Emit.client c.join_sides-result.new.emit) (g.St.Store.holds c.join_sides-result.new.store) (g.St.Store.holds c.clear-2.new.store) (g.St.Store.signs c.join_sides-result.new.store) (g.St.Store.signs c.clear-2.new.store) beside.apart gone) in
    let h1 = g.St.Store.holds c.join_sides-result.new.store in
    let h3 = g.St.Store.holds c.clear-2.new.store in
    let s1 = g.St.Store.signs c.join_sides-result.new.store in
    let s3 = g.St.Store.signs c.clear-2.new.store in
    record {
      ok = on_ok c.join_sides-result.result (λ came start lefts rights keeps told. emitted_on (g.E.Emit.took c.args.emit.now (g.St.Store.holds c.args.store.now)) (g.E.Emit.took c.join_sides-result.new.emit (g.St.Store.holds c.join_sides-result.new.store)) (g.E.Emit.took c.join_sides-result.new.emit (g.St.Store.holds c.clear-2.new.store)) (pairs_of c.args.shape.now lefts rights) still (came start lefts rights keeps told)) c.join_sides-result.ensures.finishes.ok;
      err = on_err c.join_sides-result.result (λ came start lefts rights keeps told. some_on (g.E.Emit.took c.args.emit.now (g.St.Store.holds c.args.store.now)) (g.E.Emit.took c.join_sides-result.new.emit (g.St.Store.holds c.join_sides-result.new.store)) (g.E.Emit.took c.join_sides-result.new.emit (g.St.Store.holds c.clear-2.new.store)) (pairs_of c.args.shape.now lefts rights) still (came start lefts rights keeps told)) c.join_sides-result.ensures.finishes.err;
      kept = from_two c.join_sides-result.result
          (λ kept between start lefts rights keeps.
          holds_more (c.join_sides-result.new.emit ≡ c.args.emit.now) c.args.shape.now lefts rights (over c.join_sides-result.new.left (g.St.Store.holds c.join_sides-result.new.store) (g.St.Store.signs c.join_sides-result.new.store)) (over c.join_sides-result.new.right (g.St.Store.holds c.join_sides-result.new.store) (g.St.Store.signs c.join_sides-result.new.store)) (over c.clear.new.self (g.St.Store.holds c.clear-2.new.store) (g.St.Store.signs c.clear-2.new.store)) (over c.clear-2.new.self (g.St.Store.holds c.clear-2.new.store) (g.St.Store.signs c.clear-2.new.store)) start (g.St.Store.signs c.join_sides-result.new.store).trail (g.St.Store.signs c.clear-2.new.store).trail
          (cleared_closed c.join_sides-result.new.left.page_blocks c.clear.new.self (g.St.Store.holds c.clear-2.new.store) (g.St.Store.signs c.clear-2.new.store) c.clear.ensures.none) (cleared_closed c.join_sides-result.new.right.page_blocks c.clear-2.new.self (g.St.Store.holds c.clear-2.new.store) (g.St.Store.signs c.clear-2.new.store) c.clear-2.ensures.none)
          (kept start lefts rights keeps) (cleared_first c.args.c.now c.args.shape.now c.join_sides-result.new.left c.join_sides-result.new.right c.clear.new.self c.clear-2.new.self (g.St.Store.holds c.join_sides-result.new.store) (g.St.Store.holds c.clear.new.store) (g.St.Store.holds c.clear-2.new.store) (g.St.Store.signs c.join_sides-result.new.store) (g.St.Store.signs c.clear.new.store) (g.St.Store.signs c.clear-2.new.store) c.join_sides-result.ensures.finishes.op c.clear.ensures.ends c.clear-2.ensures.ends c.clear.ensures.none c.clear-2.ensures.none between))
          c.join_sides-result.ensures.finishes.kept c.join_sides-result.ensures.closed;
      client = search rules;
      op = cleared_op c.args.c.now c.args.shape.now c.join_sides-result.new.left c.join_sides-result.new.right c.clear.new.self c.clear-2.new.self (g.St.Store.holds c.join_sides-result.new.store) (g.St.Store.holds c.clear.new.store) (g.St.Store.holds c.clear-2.new.store) (g.St.Store.signs c.join_sides-result.new.store) (g.St.Store.signs c.clear.new.store) (g.St.Store.signs c.clear-2.new.store) c.join_sides-result.ensures.finishes.op c.clear.ensures.ends c.clear-2.ensures.ends c.clear.ensures.none c.clear-2.ensures.none;
      leaves = beside_then c.args.c.now.tracker (g.E.Emit.client c.args.emit.now) (g.St.Store.holds c.args.store.now) (g.St.Store.holds c.join_sides-result.new.store) (g.St.Store.holds c.clear-2.new.store) (g.St.Store.signs c.args.store.now) (g.St.Store.signs c.join_sides-result.new.store) (g.St.Store.signs c.clear-2.new.store) c.join_sides-result.ensures.finishes.leaves (left_beside c.args.c.now.tracker (g.E.Emit.client c.args.emit.now) _ _ _ _ (cleared_leaves c.args.c.now c.args.shape.now c.join_sides-result.new.left c.join_sides-result.new.right c.clear.new.self c.clear-2.new.self (g.St.Store.holds c.join_sides-result.new.store) (g.St.Store.holds c.clear.new.store) (g.St.Store.holds c.clear-2.new.store) (g.St.Store.signs c.join_sides-result.new.store) (g.St.Store.signs c.clear.new.store) (g.St.Store.signs c.clear-2.new.store) c.join_sides-result.ensures.finishes.op c.clear.ensures.ends c.clear-2.ensures.ends c.clear.ensures.none c.clear-2.ensures.none));
      made = λ start lefts rights keeps told.
          counts_both (15 * (length lefts + length rights)) 0 (15 * (length lefts + length rights)) (g.E.Emit.creates c.args.emit.now) (g.E.Emit.creates c.join_sides-result.new.emit) (g.E.Emit.creates c.join_sides-result.new.emit) (g.St.Store.signs c.args.store.now) (g.St.Store.signs c.join_sides-result.new.store) (g.St.Store.signs c.clear-2.new.store) (omega arith) (c.join_sides-result.ensures.finishes.made start lefts rights keeps told)
          (few_counts 0 (g.E.Emit.creates c.join_sides-result.new.emit) (g.St.Store.signs c.join_sides-result.new.store) (g.St.Store.signs c.clear-2.new.store)
          (few_both 0 0 0 (g.St.Store.signs c.join_sides-result.new.store) (g.St.Store.signs c.clear.new.store) (g.St.Store.signs c.clear-2.new.store) (omega arith)
          (ending_makes c.args.c.now.tracker (over c.join_sides-result.new.left (g.St.Store.holds c.join_sides-result.new.store) (g.St.Store.signs c.join_sides-result.new.store)) (family [] (g.St.Store.holds c.clear.new.store) (g.St.Store.signs c.clear.new.store)) c.clear.ensures.ends)
          (ending_makes c.args.c.now.tracker (over c.join_sides-result.new.right (g.St.Store.holds c.clear.new.store) (g.St.Store.signs c.clear.new.store)) (family [] (g.St.Store.holds c.clear-2.new.store) (g.St.Store.signs c.clear-2.new.store)) c.clear-2.ensures.ends)));
      emitter = stands_then _ _ _ _ _ _ _ _ _ (g.E.Emit.took c.args.emit.now (g.St.Store.holds c.args.store.now)) (g.E.Emit.took c.join_sides-result.new.emit (g.St.Store.holds c.join_sides-result.new.store)) (g.E.Emit.took c.join_sides-result.new.emit (g.St.Store.holds c.clear-2.new.store)) (g.St.Store.holds c.join_sides-result.new.store) (g.St.Store.holds c.clear-2.new.store) c.join_sides-result.ensures.finishes.emitter
          (stands_left _ _ _ (g.E.Emit.took c.join_sides-result.new.emit (g.St.Store.holds c.join_sides-result.new.store)) (g.E.Emit.took c.join_sides-result.new.emit (g.St.Store.holds c.clear-2.new.store)) c.args.c.now.tracker (g.St.Store.holds c.join_sides-result.new.store) (g.St.Store.holds c.clear-2.new.store) (g.St.Store.signs c.join_sides-result.new.store) (g.St.Store.signs c.clear-2.new.store) beside gone still);
      cause = cause_till c.join_sides-result.result _ _ _ _ _ _ _ _ (cleared_leaves c.args.c.now c.args.shape.now c.join_sides-result.new.left c.join_sides-result.new.right c.clear.new.self c.clear-2.new.self (g.St.Store.holds c.join_sides-result.new.store) (g.St.Store.holds c.clear.new.store) (g.St.Store.holds c.clear-2.new.store) (g.St.Store.signs c.join_sides-result.new.store) (g.St.Store.signs c.clear.new.store) (g.St.Store.signs c.clear-2.new.store) c.join_sides-result.ensures.finishes.op c.clear.ensures.ends c.clear-2.ensures.ends c.clear.ensures.none c.clear-2.ensures.none).grows c.join_sides-result.ensures.finishes.cause;
      slots = keep_then (g.E.Emit.client c.args.emit.now) _ (slots_both (both c.join_sides-result.new.left c.join_sides-result.new.right h1 s1)) (slots_both (both c.clear.new.self c.clear-2.new.self h3 s3)) _ _ _ c.join_sides-result.ensures.finishes.slots
          (keep_own (g.E.Emit.client c.args.emit.now) (slots_both (both c.join_sides-result.new.left c.join_sides-result.new.right h1 s1)) (slots_both (both c.clear.new.self c.clear-2.new.self h3 s3)) _ _
          (cleared_slots c.args.c.now.tracker c.join_sides-result.new.left c.join_sides-result.new.right c.clear.new.self c.clear-2.new.self h1 (g.St.Store.holds c.clear.new.store) h3 s1 (g.St.Store.signs c.clear.new.store) s3 c.join_sides-result.ensures.finishes.op.owns c.clear.ensures.ends.touches c.clear-2.ensures.ends.touches c.clear.ensures.none c.clear-2.ensures.none)
          (g.met.E.Emit.slots_own c.join_sides-result.new.emit h1 h3 (same_beside c.args.c.now.tracker (g.E.Emit.client c.join_sides-result.new.emit) h1 h3 s1 s3 beside.apart gone)));
      want = search rules;
      enough = search rules;
    }
