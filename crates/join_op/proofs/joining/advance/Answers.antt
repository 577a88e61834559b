use Rattle.std.proofs.Common.{rules, ◌≡◌, refl, ◌+◌, ◌-◌, ◌<◌, ℕ, ◌*◌, ◌∙◌, List, length, arith, ap}
use Rattle.row_codec.specs.declared.values.Value.{Value}
use Rattle.store_api.specs.declared.op_err.OpErr.TheVariants.{Pool}
use Rattle.partition_stack.proofs.Emitters.{left_beside, same_beside, stands_left}
use Rattle.partition_stack.proofs.Making.{counts_less, few_counts, few_less}
use Rattle.partition_stack.proofs.Results.{if_err, on_err, on_ok}
use Rattle.partition_stack.proofs.Slots.{keep_own}
use Rattle.partition_stack.proofs.Weights.{less_popped}
use Rattle.partition_stack.specs.Slots.{with_more}
use Rattle.join_op.proofs.Crowding.{own_some, want_more}
use Rattle.join_op.specs.Slots.{Crowds}
use Rattle.join_op.specs.Handing.{EmittedSome}
use Rattle.join_op.specs.Joining.{ShowBoth, both, owed_both, pairs_down, slots_both, slots_by}
use Rattle.join_op.proofs.Advances.{advances_popped, owed_gone, owed_top, some_top}
use Rattle.join_op.proofs.Handed.{any_ok, handed_err, some_none, some_on}
use Rattle.join_op.proofs.Stepped.{advances_divided, advances_gone, before_pinned, before_still}
use Rattle.join_op.proofs.joining.advance.Goals as goal

pub returns-then-not-have_rows-clause-ok : goal.returns-then-not-have_rows-clause-ok
returns-then-not-have_rows-clause-ok g c =
    let top : length c.args.left.now.streams ≡ (c.len-at.result - 1) + 1 = (let len = c.len-at.ensures in let some = c.requires.some in omega (arith, len, some)) in
    let still : (taken : List (List Value)) → (g.E.Emit.took c.args.emit.now (g.St.Store.holds c.args.store.now)) taken → (g.E.Emit.took c.args.emit.now (g.St.Store.holds c.drop_top.new.store)) taken =
    λ taken. g.met.E.Emit.asks_own c.args.emit.now (g.St.Store.holds c.args.store.now) (g.St.Store.holds c.drop_top.new.store) taken (same_beside c.args.c.now.tracker (g.E.Emit.client c.args.emit.now) (g.St.Store.holds c.args.store.now) (g.St.Store.holds c.drop_top.new.store) (g.St.Store.signs c.args.store.now) (g.St.Store.signs c.drop_top.new.store) c.requires.may.emits.emitter.apart c.drop_top.ensures.leaves) in (
      c.drop_top.ensures.between,
      λ lefts rights shows.
          advances_gone c.args.shape.now (g.E.Emit.took c.args.emit.now (g.St.Store.holds c.args.store.now)) (g.E.Emit.took c.args.emit.now (g.St.Store.holds c.drop_top.new.store)) lefts rights still (c.len-at.result - 1) c.args.left.now c.args.right.now (g.St.Store.holds c.args.store.now) (g.St.Store.signs c.args.store.now) (both c.drop_top.new.left c.drop_top.new.right (g.St.Store.holds c.drop_top.new.store) (g.St.Store.signs c.drop_top.new.store)) top c.requires.may.between.many c.drop_top.ensures.popped.many (let now = c.drop_top.ensures.between.many in let low = c.drop_top.ensures.popped.many in let many = c.requires.may.between.many in omega (arith, now, low, many, top)) shows
          (c.drop_top.ensures.shows lefts rights shows) (c.have_rows.ensures.none c.if-not-have_rows.true)
          (owed_gone lefts rights (both c.args.left.now c.args.right.now (g.St.Store.holds c.args.store.now) (g.St.Store.signs c.args.store.now)) (both c.drop_top.new.left c.drop_top.new.right (g.St.Store.holds c.drop_top.new.store) (g.St.Store.signs c.drop_top.new.store)) (c.len-at.result - 1) c.level-level.result c.level-level.ensures.value c.requires.may.between.levels c.drop_top.ensures.popped.levels c.drop_top.ensures.between.levels) c.drop_top.ensures.made,
    )

pub returns-then-not-have_rows-clause-less : goal.returns-then-not-have_rows-clause-less
returns-then-not-have_rows-clause-less g c = less_popped c.args.left.now.levels c.drop_top.new.left.levels (c.len-at.result - 1) c.level-level.result c.level-level.ensures.value c.drop_top.ensures.popped.levels

pub returns-then-not-have_rows-clause-first : goal.returns-then-not-have_rows-clause-first
returns-then-not-have_rows-clause-first g c = before_still (c.args.emit.now ≡ c.args.emit.now) _ _ refl c.drop_top.ensures.first

pub returns-then-not-have_rows-clause-hands : goal.returns-then-not-have_rows-clause-hands
returns-then-not-have_rows-clause-hands g c =
    let still : (taken : List (List Value)) → (g.E.Emit.took c.args.emit.now (g.St.Store.holds c.args.store.now)) taken → (g.E.Emit.took c.args.emit.now (g.St.Store.holds c.drop_top.new.store)) taken =
    λ taken. g.met.E.Emit.asks_own c.args.emit.now (g.St.Store.holds c.args.store.now) (g.St.Store.holds c.drop_top.new.store) taken (same_beside c.args.c.now.tracker (g.E.Emit.client c.args.emit.now) (g.St.Store.holds c.args.store.now) (g.St.Store.holds c.drop_top.new.store) (g.St.Store.signs c.args.store.now) (g.St.Store.signs c.drop_top.new.store) c.requires.may.emits.emitter.apart c.drop_top.ensures.leaves) in
    record {
      err = search rules;
      op = search rules;
      leaves = left_beside c.args.c.now.tracker (g.E.Emit.client c.args.emit.now) _ _ _ _ c.drop_top.ensures.leaves;
      emitter = stands_left _ _ _ (g.E.Emit.took c.args.emit.now (g.St.Store.holds c.args.store.now)) (g.E.Emit.took c.args.emit.now (g.St.Store.holds c.drop_top.new.store)) c.args.c.now.tracker (g.St.Store.holds c.args.store.now) (g.St.Store.holds c.drop_top.new.store) (g.St.Store.signs c.args.store.now) (g.St.Store.signs c.drop_top.new.store) c.requires.may.emits.emitter c.drop_top.ensures.leaves still;
      slots = keep_own (g.E.Emit.client c.args.emit.now) _ _ _ _ c.drop_top.ensures.slots (g.met.E.Emit.slots_own c.args.emit.now (g.St.Store.holds c.args.store.now) (g.St.Store.holds c.drop_top.new.store) (same_beside c.args.c.now.tracker (g.E.Emit.client c.args.emit.now) (g.St.Store.holds c.args.store.now) (g.St.Store.holds c.drop_top.new.store) (g.St.Store.signs c.args.store.now) (g.St.Store.signs c.drop_top.new.store) c.requires.may.emits.emitter.apart c.drop_top.ensures.leaves));
      alone = search rules;
      want = search rules;
      enough = search rules;
      most = search rules;
      cause = search rules;
    }

pub returns-in_err-divide_both-clause-hands : goal.returns-in_err-divide_both-clause-hands
returns-in_err-divide_both-clause-hands g c =
    let still : (taken : List (List Value)) → (g.E.Emit.took c.args.emit.now (g.St.Store.holds c.args.store.now)) taken → (g.E.Emit.took c.args.emit.now (g.St.Store.holds c.divide_both.new.store)) taken =
    λ taken. g.met.E.Emit.asks_own c.args.emit.now (g.St.Store.holds c.args.store.now) (g.St.Store.holds c.divide_both.new.store) taken (same_beside c.args.c.now.tracker (g.E.Emit.client c.args.emit.now) (g.St.Store.holds c.args.store.now) (g.St.Store.holds c.divide_both.new.store) (g.St.Store.signs c.args.store.now) (g.St.Store.signs c.divide_both.new.store) c.requires.may.emits.emitter.apart c.divide_both.ensures.leaves) in
    let some : (lefts rights : ℕ → List (List ℕ)) → ShowBoth lefts rights (both c.args.left.now c.args.right.now (g.St.Store.holds c.args.store.now) (g.St.Store.signs c.args.store.now)) → EmittedSome (g.E.Emit.took c.args.emit.now (g.St.Store.holds c.args.store.now)) (g.E.Emit.took c.args.emit.now (g.St.Store.holds c.divide_both.new.store)) (pairs_down c.args.shape.now (length c.args.left.now.streams) lefts rights) =
    λ lefts rights shows. some_on (g.E.Emit.took c.args.emit.now (g.St.Store.holds c.args.store.now)) (g.E.Emit.took c.args.emit.now (g.St.Store.holds c.args.store.now)) (g.E.Emit.took c.args.emit.now (g.St.Store.holds c.divide_both.new.store)) (pairs_down c.args.shape.now (length c.args.left.now.streams) lefts rights) still (some_none (g.E.Emit.took c.args.emit.now (g.St.Store.holds c.args.store.now)) (pairs_down c.args.shape.now (length c.args.left.now.streams) lefts rights)) in
    record {
      err = search (rules, some);
      op = search rules;
      leaves = left_beside c.args.c.now.tracker (g.E.Emit.client c.args.emit.now) _ _ _ _ c.divide_both.ensures.leaves;
      emitter = stands_left _ _ _ (g.E.Emit.took c.args.emit.now (g.St.Store.holds c.args.store.now)) (g.E.Emit.took c.args.emit.now (g.St.Store.holds c.divide_both.new.store)) c.args.c.now.tracker (g.St.Store.holds c.args.store.now) (g.St.Store.holds c.divide_both.new.store) (g.St.Store.signs c.args.store.now) (g.St.Store.signs c.divide_both.new.store) c.requires.may.emits.emitter c.divide_both.ensures.leaves still;
      slots = keep_own (g.E.Emit.client c.args.emit.now) _ _ _ _ c.divide_both.ensures.slots (g.met.E.Emit.slots_own c.args.emit.now (g.St.Store.holds c.args.store.now) (g.St.Store.holds c.divide_both.new.store) (same_beside c.args.c.now.tracker (g.E.Emit.client c.args.emit.now) (g.St.Store.holds c.args.store.now) (g.St.Store.holds c.divide_both.new.store) (g.St.Store.signs c.args.store.now) (g.St.Store.signs c.divide_both.new.store) c.requires.may.emits.emitter.apart c.divide_both.ensures.leaves));
      alone = search rules;
      want = λ same.
          let whole = g.met.E.Emit.slots_whole c.args.emit.now (g.St.Store.holds c.args.store.now) c.requires.may.emits.stands.0 c.requires.may.emits.stands.1 in
          handed_err _ c.from_residual.result (Pool c.in_err-divide_both.field-0.0) c.from_residual.ensures
          (want_more c.args.left.now.page_blocks whole.0 (g.E.Emit.slots c.args.emit.now (g.St.Store.holds c.args.store.now)) (slots_both (both c.args.left.now c.args.right.now (g.St.Store.holds c.args.store.now) (g.St.Store.signs c.args.store.now))) c.in_err-divide_both.field-0.0 (whole.1 ∙ ap (λ (n : ℕ). whole.0 * n) same) c.in_err-divide_both.ensures.want);
      enough = handed_err _ c.from_residual.result (Pool c.in_err-divide_both.field-0.0) c.from_residual.ensures
          (λ lefts rights shows. own_some (g.E.Emit.took c.args.emit.now (g.St.Store.holds c.args.store.now)) (g.E.Emit.slots_for c.args.emit.now) (slots_by (both c.args.left.now c.args.right.now (g.St.Store.holds c.args.store.now) (g.St.Store.signs c.args.store.now)) lefts rights) (g.E.Emit.slots c.args.emit.now (g.St.Store.holds c.args.store.now)) (slots_both (both c.args.left.now c.args.right.now (g.St.Store.holds c.args.store.now) (g.St.Store.signs c.args.store.now))) c.in_err-divide_both.field-0.0 (pairs_down c.args.shape.now (length c.args.left.now.streams) lefts rights)
          (λ rows took. g.met.E.Emit.slots_fit c.args.emit.now (g.St.Store.holds c.args.store.now) rows took) (c.in_err-divide_both.ensures.enough lefts rights shows));
      most = search rules;
      cause = search rules;
    }

pub returns-then-not-is_few-clause-ok : goal.returns-then-not-is_few-clause-ok
returns-then-not-is_few-clause-ok g c =
    let still : (taken : List (List Value)) → (g.E.Emit.took c.args.emit.now (g.St.Store.holds c.args.store.now)) taken → (g.E.Emit.took c.args.emit.now (g.St.Store.holds c.divide_both.new.store)) taken =
    λ taken. g.met.E.Emit.asks_own c.args.emit.now (g.St.Store.holds c.args.store.now) (g.St.Store.holds c.divide_both.new.store) taken (same_beside c.args.c.now.tracker (g.E.Emit.client c.args.emit.now) (g.St.Store.holds c.args.store.now) (g.St.Store.holds c.divide_both.new.store) (g.St.Store.signs c.args.store.now) (g.St.Store.signs c.divide_both.new.store) c.requires.may.emits.emitter.apart c.divide_both.ensures.leaves) in (
      c.in_ok-divide_both.ensures.divided.between,
      λ lefts rights shows. advances_divided c.args.shape.now (g.E.Emit.took c.args.emit.now (g.St.Store.holds c.args.store.now)) (g.E.Emit.took c.args.emit.now (g.St.Store.holds c.divide_both.new.store)) lefts rights still (both c.args.left.now c.args.right.now (g.St.Store.holds c.args.store.now) (g.St.Store.signs c.args.store.now)) (both c.divide_both.new.left c.divide_both.new.right (g.St.Store.holds c.divide_both.new.store) (g.St.Store.signs c.divide_both.new.store)) (c.in_ok-divide_both.ensures.divided.rows lefts rights shows),
    )

pub returns-then-not-is_few-clause-less : goal.returns-then-not-is_few-clause-less
returns-then-not-is_few-clause-less g c = c.in_ok-divide_both.ensures.divided.less

pub returns-then-not-is_few-clause-first : goal.returns-then-not-is_few-clause-first
returns-then-not-is_few-clause-first g c = before_pinned (c.args.emit.now ≡ c.args.emit.now) _ _ c.in_ok-divide_both.ensures.divided.first

pub returns-then-not-is_few-clause-hands : goal.returns-then-not-is_few-clause-hands
returns-then-not-is_few-clause-hands g c =
    let still : (taken : List (List Value)) → (g.E.Emit.took c.args.emit.now (g.St.Store.holds c.args.store.now)) taken → (g.E.Emit.took c.args.emit.now (g.St.Store.holds c.divide_both.new.store)) taken =
    λ taken. g.met.E.Emit.asks_own c.args.emit.now (g.St.Store.holds c.args.store.now) (g.St.Store.holds c.divide_both.new.store) taken (same_beside c.args.c.now.tracker (g.E.Emit.client c.args.emit.now) (g.St.Store.holds c.args.store.now) (g.St.Store.holds c.divide_both.new.store) (g.St.Store.signs c.args.store.now) (g.St.Store.signs c.divide_both.new.store) c.requires.may.emits.emitter.apart c.divide_both.ensures.leaves) in
    record {
      err = search rules;
      op = search rules;
      leaves = left_beside c.args.c.now.tracker (g.E.Emit.client c.args.emit.now) _ _ _ _ c.divide_both.ensures.leaves;
      emitter = stands_left _ _ _ (g.E.Emit.took c.args.emit.now (g.St.Store.holds c.args.store.now)) (g.E.Emit.took c.args.emit.now (g.St.Store.holds c.divide_both.new.store)) c.args.c.now.tracker (g.St.Store.holds c.args.store.now) (g.St.Store.holds c.divide_both.new.store) (g.St.Store.signs c.args.store.now) (g.St.Store.signs c.divide_both.new.store) c.requires.may.emits.emitter c.divide_both.ensures.leaves still;
      slots = keep_own (g.E.Emit.client c.args.emit.now) _ _ _ _ c.divide_both.ensures.slots (g.met.E.Emit.slots_own c.args.emit.now (g.St.Store.holds c.args.store.now) (g.St.Store.holds c.divide_both.new.store) (same_beside c.args.c.now.tracker (g.E.Emit.client c.args.emit.now) (g.St.Store.holds c.args.store.now) (g.St.Store.holds c.divide_both.new.store) (g.St.Store.signs c.args.store.now) (g.St.Store.signs c.divide_both.new.store) c.requires.may.emits.emitter.apart c.divide_both.ensures.leaves));
      alone = search rules;
      want = search rules;
      enough = search rules;
      most = search rules;
      cause = search rules;
    }

pub returns-clause-ok : goal.returns-clause-ok
returns-clause-ok g c =
    let top : length c.args.left.now.streams ≡ (c.len-at.result - 1) + 1 = (let len = c.len-at.ensures in let some = c.requires.some in omega (arith, len, some)) in
    on_ok c.pair_top.result
    (λ handed. (
      c.pair_top.ensures.popped.1,
      λ lefts rights shows.
          let came = handed lefts rights shows in
          advances_popped c.args.shape.now (g.E.Emit.took c.args.emit.now (g.St.Store.holds c.args.store.now)) (g.E.Emit.took c.pair_top.new.emit (g.St.Store.holds c.pair_top.new.store)) lefts rights (both c.args.left.now c.args.right.now (g.St.Store.holds c.args.store.now) (g.St.Store.signs c.args.store.now)) (both c.pair_top.new.left c.pair_top.new.right (g.St.Store.holds c.pair_top.new.store) (g.St.Store.signs c.pair_top.new.store)) (c.len-at.result - 1) top c.pair_top.ensures.popped.0.many (let now = c.pair_top.ensures.popped.1.many in let low = c.pair_top.ensures.popped.0.many in let many = c.requires.may.between.many in omega (arith, now, low, many, top)) came.0 came.1
          (owed_gone lefts rights (both c.args.left.now c.args.right.now (g.St.Store.holds c.args.store.now) (g.St.Store.signs c.args.store.now)) (both c.pair_top.new.left c.pair_top.new.right (g.St.Store.holds c.pair_top.new.store) (g.St.Store.signs c.pair_top.new.store)) (c.len-at.result - 1) c.level-level.result c.level-level.ensures.value c.requires.may.between.levels c.pair_top.ensures.popped.0.levels c.pair_top.ensures.popped.1.levels) c.pair_top.ensures.made,
    ))
    c.pair_top.ensures.ok

pub returns-clause-hands : goal.returns-clause-hands
returns-clause-hands g c =
    let top : length c.args.left.now.streams ≡ (c.len-at.result - 1) + 1 = (let len = c.len-at.ensures in let some = c.requires.some in omega (arith, len, some)) in
    record {
      err = on_err c.pair_top.result (λ handed lefts rights shows. some_top c.args.shape.now (g.E.Emit.took c.args.emit.now (g.St.Store.holds c.args.store.now)) (g.E.Emit.took c.pair_top.new.emit (g.St.Store.holds c.pair_top.new.store)) lefts rights (length c.args.left.now.streams) (c.len-at.result - 1) top (handed lefts rights shows)) c.pair_top.ensures.hands.err;
      op = search rules;
      leaves = search rules;
      emitter = search rules;
      slots = search rules;
      alone = search rules;
      want = search rules;
      enough = if_err c.pair_top.result
          (λ e enough lefts rights shows. some_top c.args.shape.now (g.E.Emit.took c.args.emit.now (g.St.Store.holds c.args.store.now)) (Crowds (g.E.Emit.slots_for c.args.emit.now) (slots_by (both c.args.left.now c.args.right.now (g.St.Store.holds c.args.store.now) (g.St.Store.signs c.args.store.now)) lefts rights) (with_more (g.E.Emit.slots c.args.emit.now (g.St.Store.holds c.args.store.now)) (slots_both (both c.args.left.now c.args.right.now (g.St.Store.holds c.args.store.now) (g.St.Store.signs c.args.store.now)))) e) lefts rights (length c.args.left.now.streams) (c.len-at.result - 1) top (enough lefts rights shows))
          c.pair_top.ensures.hands.enough;
      most = search rules;
      cause = search rules;
    }

pub returns-clause-less : goal.returns-clause-less
returns-clause-less g c = any_ok c.pair_top.result (less_popped c.args.left.now.levels c.pair_top.new.left.levels (c.len-at.result - 1) c.level-level.result c.level-level.ensures.value c.pair_top.ensures.popped.0.levels)

pub returns-clause-first : goal.returns-clause-first
returns-clause-first g c =
    let some = c.have_rows.ensures.some c.if-not-have_rows.false in
    on_ok c.pair_top.result (λ pins. before_pinned (c.pair_top.new.emit ≡ c.args.emit.now) _ _ (pins some.0 some.1)) c.pair_top.ensures.first

pub returns-then-not-have_rows-clause-made : goal.returns-then-not-have_rows-clause-made
returns-then-not-have_rows-clause-made g c =
    λ lefts rights shows.
    few_counts (owed_both (both c.args.left.now c.args.right.now (g.St.Store.holds c.args.store.now) (g.St.Store.signs c.args.store.now)) lefts rights) (g.E.Emit.creates c.args.emit.now) (g.St.Store.signs c.args.store.now) (g.St.Store.signs c.drop_top.new.store) (few_less 0 (owed_both (both c.args.left.now c.args.right.now (g.St.Store.holds c.args.store.now) (g.St.Store.signs c.args.store.now)) lefts rights) (g.St.Store.signs c.args.store.now) (g.St.Store.signs c.drop_top.new.store) (omega arith) c.drop_top.ensures.made)

pub returns-in_err-divide_both-clause-made : goal.returns-in_err-divide_both-clause-made
returns-in_err-divide_both-clause-made g c =
    λ lefts rights shows.
    let deep : c.level-level.result < 16 = let placed = c.level-level.ensures.placed.deep in let not = c.is_few.ensures.last c.if-not-is_few.true in omega (arith, placed, not) in
    few_counts (owed_both (both c.args.left.now c.args.right.now (g.St.Store.holds c.args.store.now) (g.St.Store.signs c.args.store.now)) lefts rights) (g.E.Emit.creates c.args.emit.now) (g.St.Store.signs c.args.store.now) (g.St.Store.signs c.divide_both.new.store)
    (few_less (length (lefts (c.len-at.result - 1)) + length (rights (c.len-at.result - 1))) (owed_both (both c.args.left.now c.args.right.now (g.St.Store.holds c.args.store.now) (g.St.Store.signs c.args.store.now)) lefts rights) (g.St.Store.signs c.args.store.now) (g.St.Store.signs c.divide_both.new.store) (owed_top lefts rights (both c.args.left.now c.args.right.now (g.St.Store.holds c.args.store.now) (g.St.Store.signs c.args.store.now)) (c.len-at.result - 1) c.level-level.result c.level-level.ensures.value c.requires.may.between.levels deep)
    (c.divide_both.ensures.made lefts rights shows))

pub returns-then-not-is_few-clause-made : goal.returns-then-not-is_few-clause-made
returns-then-not-is_few-clause-made g c =
    λ lefts rights shows.
    let deep : c.level-level.result < 16 = let placed = c.level-level.ensures.placed.deep in let not = c.is_few.ensures.last c.if-not-is_few.true in omega (arith, placed, not) in
    few_counts (owed_both (both c.args.left.now c.args.right.now (g.St.Store.holds c.args.store.now) (g.St.Store.signs c.args.store.now)) lefts rights) (g.E.Emit.creates c.args.emit.now) (g.St.Store.signs c.args.store.now) (g.St.Store.signs c.divide_both.new.store)
    (few_less (length (lefts (c.len-at.result - 1)) + length (rights (c.len-at.result - 1))) (owed_both (both c.args.left.now c.args.right.now (g.St.Store.holds c.args.store.now) (g.St.Store.signs c.args.store.now)) lefts rights) (g.St.Store.signs c.args.store.now) (g.St.Store.signs c.divide_both.new.store) (owed_top lefts rights (both c.args.left.now c.args.right.now (g.St.Store.holds c.args.store.now) (g.St.Store.signs c.args.store.now)) (c.len-at.result - 1) c.level-level.result c.level-level.ensures.value c.requires.may.between.levels deep)
    (c.divide_both.ensures.made lefts rights shows))

pub returns-clause-made : goal.returns-clause-made
returns-clause-made g c = λ lefts rights shows. counts_less 0 (owed_both (both c.args.left.now c.args.right.now (g.St.Store.holds c.args.store.now) (g.St.Store.signs c.args.store.now)) lefts rights) (g.E.Emit.creates c.args.emit.now) (g.E.Emit.creates c.pair_top.new.emit) (g.St.Store.signs c.args.store.now) (g.St.Store.signs c.pair_top.new.store) (omega arith) c.pair_top.ensures.made
