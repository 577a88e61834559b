use Rattle.std.proofs.Common.{rules, ◌≡◌, ◌∙◌, ℕ, ◌+◌, ◌*◌, List, Option, true, length, subst, arith, ap, refl, sym}
use Rattle.pool_model.specs.declared.entry.Entry.{Entry}
use Rattle.row_codec.specs.declared.values.Value.{Value}
use Rattle.store_api.specs.declared.op_err.OpErr.TheVariants.{Pool}
use Rattle.partition_stack.specs.Slots.{IsWantOf, with_more}
use Rattle.partition_stack.specs.Stack.{over}
use Rattle.partition_stack.proofs.Emitters.{beside_then, came_behind, left_beside, same_beside, stands_left, stands_then}
use Rattle.partition_stack.proofs.Making.{counts_both, counts_less, few_counts}
use Rattle.partition_stack.proofs.Results.{any_err, if_err, on_err, on_ok}
use Rattle.partition_stack.proofs.Slots.{keep_own, keep_then}
use Rattle.join_op.proofs.Crowding.{own_some, same_total, some_more_of, want_more}
use Rattle.join_op.specs.Slots.{Crowds}
use Rattle.join_op.specs.Handing.{EmittedSome}
use Rattle.join_op.specs.Joining.{both, owed_both, slots_both, slots_by}
use Rattle.join_op.specs.Operator.{Keeps, operator, slots_for}
use Rattle.join_op.specs.Pairs.{pairs_of}
use Rattle.join_op.proofs.Enough.{by_rested}
use Rattle.join_op.proofs.Handed.{from_two, handed_err, some_none, some_on}
use Rattle.join_op.proofs.LaidSides.{holds_sides}
use Rattle.join_op.proofs.Wholes.{beside_left, emitted_from, owed_rested, pairs_rested, shows_rested, some_from}
use Rattle.join_op.proofs.Crowding.{came_beside}
use Rattle.join_op.proofs.FinishSteps.{enough_of}
use Rattle.join_op.proofs.finishing.join_sides.Goals as goal

pub returns-in_err-rest_both-clause-finishes : goal.returns-in_err-rest_both-clause-finishes
returns-in_err-rest_both-clause-finishes g c =
    let still : (taken : List (List Value)) → (g.E.Emit.took c.args.emit.now (g.St.Store.holds c.args.store.now)) taken → (g.E.Emit.took c.args.emit.now (g.St.Store.holds c.rest_both.new.store)) taken =
    λ taken. g.met.E.Emit.asks_own c.args.emit.now (g.St.Store.holds c.args.store.now) (g.St.Store.holds c.rest_both.new.store) taken (same_beside c.args.c.now.tracker (g.E.Emit.client c.args.emit.now) (g.St.Store.holds c.args.store.now) (g.St.Store.holds c.rest_both.new.store) (g.St.Store.signs c.args.store.now) (g.St.Store.signs c.rest_both.new.store) c.requires.may.emits.emitter.apart c.rest_both.ensures.leaves) in
    let some : (start : Option (List Entry)) (lefts rights : List (List Value)) → Keeps start lefts rights (operator c.args.c.now c.args.shape.now c.args.left.now c.args.right.now) (g.St.Store.holds c.args.store.now) (g.St.Store.signs c.args.store.now) → (g.St.Store.holds c.args.store.now).told ≡ true → EmittedSome (g.E.Emit.took c.args.emit.now (g.St.Store.holds c.args.store.now)) (g.E.Emit.took c.args.emit.now (g.St.Store.holds c.rest_both.new.store)) (pairs_of c.args.shape.now lefts rights) =
    λ start lefts rights keeps told. some_on (g.E.Emit.took c.args.emit.now (g.St.Store.holds c.args.store.now)) (g.E.Emit.took c.args.emit.now (g.St.Store.holds c.args.store.now)) (g.E.Emit.took c.args.emit.now (g.St.Store.holds c.rest_both.new.store)) (pairs_of c.args.shape.now lefts rights) still (some_none (g.E.Emit.took c.args.emit.now (g.St.Store.holds c.args.store.now)) (pairs_of c.args.shape.now lefts rights)) in
    record {
      ok = search rules;
      err = any_err c.from_residual.result some;
      kept = search rules;
      client = search rules;
      op = search rules;
      leaves = left_beside c.args.c.now.tracker (g.E.Emit.client c.args.emit.now) _ _ _ _ c.rest_both.ensures.leaves;
      made = λ start lefts rights keeps told.
          counts_less 0 (15 * (length lefts + length rights)) (g.E.Emit.creates c.args.emit.now) (g.E.Emit.creates c.args.emit.now) (g.St.Store.signs c.args.store.now) (g.St.Store.signs c.rest_both.new.store) (omega arith) (few_counts 0 (g.E.Emit.creates c.args.emit.now) (g.St.Store.signs c.args.store.now) (g.St.Store.signs c.rest_both.new.store) c.rest_both.ensures.made);
      emitter = stands_left _ _ _ (g.E.Emit.took c.args.emit.now (g.St.Store.holds c.args.store.now)) (g.E.Emit.took c.args.emit.now (g.St.Store.holds c.rest_both.new.store)) c.args.c.now.tracker (g.St.Store.holds c.args.store.now) (g.St.Store.holds c.rest_both.new.store) (g.St.Store.signs c.args.store.now) (g.St.Store.signs c.rest_both.new.store) c.requires.may.emits.emitter c.rest_both.ensures.leaves still;
      cause = handed_err _ c.from_residual.result (Pool c.in_err-rest_both.field-0.0) c.from_residual.ensures (record { came = c.in_err-rest_both.ensures.cause; want = λ none. c.in_err-rest_both.ensures.want });
      slots = keep_own (g.E.Emit.client c.args.emit.now) (slots_both (both c.args.left.now c.args.right.now (g.St.Store.holds c.args.store.now) (g.St.Store.signs c.args.store.now))) (slots_both (both c.rest_both.new.left c.rest_both.new.right (g.St.Store.holds c.rest_both.new.store) (g.St.Store.signs c.rest_both.new.store))) _ _ c.rest_both.ensures.slots
          (g.met.E.Emit.slots_own c.args.emit.now (g.St.Store.holds c.args.store.now) (g.St.Store.holds c.rest_both.new.store) (same_beside c.args.c.now.tracker (g.E.Emit.client c.args.emit.now) (g.St.Store.holds c.args.store.now) (g.St.Store.holds c.rest_both.new.store) (g.St.Store.signs c.args.store.now) (g.St.Store.signs c.rest_both.new.store) c.requires.may.emits.emitter.apart c.rest_both.ensures.leaves));
      want = λ same.
          let whole = g.met.E.Emit.slots_whole c.args.emit.now (g.St.Store.holds c.args.store.now) c.requires.may.emits.stands.0 c.requires.may.emits.stands.1 in
          handed_err _ c.from_residual.result (Pool c.in_err-rest_both.field-0.0) c.from_residual.ensures
          (want_more c.args.left.now.page_blocks whole.0 (g.E.Emit.slots c.args.emit.now (g.St.Store.holds c.args.store.now)) (slots_both (both c.args.left.now c.args.right.now (g.St.Store.holds c.args.store.now) (g.St.Store.signs c.args.store.now))) c.in_err-rest_both.field-0.0 (whole.1 ∙ ap (λ (n : ℕ). whole.0 * n) same) c.in_err-rest_both.ensures.want);
      enough = enough_of g.St.Store g.E.Emit (operator c.args.c.now c.args.shape.now c.args.left.now c.args.right.now) c.args.emit.now c.args.store.now c.from_residual.result
          (handed_err _ c.from_residual.result (Pool c.in_err-rest_both.field-0.0) c.from_residual.ensures
          (λ start lefts rights keeps told. own_some (g.E.Emit.took c.args.emit.now (g.St.Store.holds c.args.store.now)) (g.E.Emit.slots_for c.args.emit.now) (slots_for (operator c.args.c.now c.args.shape.now c.args.left.now c.args.right.now) (g.St.Store.holds c.args.store.now) lefts rights) (g.E.Emit.slots c.args.emit.now (g.St.Store.holds c.args.store.now)) (slots_both (both c.args.left.now c.args.right.now (g.St.Store.holds c.args.store.now) (g.St.Store.signs c.args.store.now))) c.in_err-rest_both.field-0.0 (pairs_of c.args.shape.now lefts rights)
          (λ rows took. g.met.E.Emit.slots_fit c.args.emit.now (g.St.Store.holds c.args.store.now) rows took) (c.in_err-rest_both.ensures.enough start lefts rights keeps)));
    }

pub join_parts-requires-clause-may : goal.join_parts-requires-clause-may
join_parts-requires-clause-may g c =
    let still : (taken : List (List Value)) → (g.E.Emit.took c.args.emit.now (g.St.Store.holds c.args.store.now)) taken → (g.E.Emit.took c.args.emit.now (g.St.Store.holds c.rest_both.new.store)) taken =
    λ taken. g.met.E.Emit.asks_own c.args.emit.now (g.St.Store.holds c.args.store.now) (g.St.Store.holds c.rest_both.new.store) taken (same_beside c.args.c.now.tracker (g.E.Emit.client c.args.emit.now) (g.St.Store.holds c.args.store.now) (g.St.Store.holds c.rest_both.new.store) (g.St.Store.signs c.args.store.now) (g.St.Store.signs c.rest_both.new.store) c.requires.may.emits.emitter.apart c.rest_both.ensures.leaves) in
    record {
      op = search rules;
      between = search rules;
      emits = record {
        emitter = beside_left c.args.c.now.tracker (g.E.Emit.client c.args.emit.now) (g.St.Store.holds c.args.store.now) (g.St.Store.holds c.rest_both.new.store) (g.St.Store.signs c.args.store.now) (g.St.Store.signs c.rest_both.new.store) c.requires.may.emits.emitter c.rest_both.ensures.leaves;
        stands = (c.requires.may.emits.stands.0, still c.requires.may.emits.stands.0 c.requires.may.emits.stands.1);
        admits = search rules;
      };
    }

pub returns-clause-finishes : goal.returns-clause-finishes
returns-clause-finishes g c =
    let still : (taken : List (List Value)) → (g.E.Emit.took c.args.emit.now (g.St.Store.holds c.args.store.now)) taken → (g.E.Emit.took c.args.emit.now (g.St.Store.holds c.rest_both.new.store)) taken =
    λ taken. g.met.E.Emit.asks_own c.args.emit.now (g.St.Store.holds c.args.store.now) (g.St.Store.holds c.rest_both.new.store) taken (same_beside c.args.c.now.tracker (g.E.Emit.client c.args.emit.now) (g.St.Store.holds c.args.store.now) (g.St.Store.holds c.rest_both.new.store) (g.St.Store.signs c.args.store.now) (g.St.Store.signs c.rest_both.new.store) c.requires.may.emits.emitter.apart c.rest_both.ensures.leaves) in
    let total : with_more (g.E.Emit.slots c.args.emit.now (g.St.Store.holds c.rest_both.new.store)) (slots_both (both c.rest_both.new.left c.rest_both.new.right (g.St.Store.holds c.rest_both.new.store) (g.St.Store.signs c.rest_both.new.store))) ≡ with_more (g.E.Emit.slots c.args.emit.now (g.St.Store.holds c.args.store.now)) (slots_both (both c.args.left.now c.args.right.now (g.St.Store.holds c.args.store.now) (g.St.Store.signs c.args.store.now))) =
    same_total _ _ _ _
    (sym (g.met.E.Emit.slots_own c.args.emit.now (g.St.Store.holds c.args.store.now) (g.St.Store.holds c.rest_both.new.store) (same_beside c.args.c.now.tracker (g.E.Emit.client c.args.emit.now) (g.St.Store.holds c.args.store.now) (g.St.Store.holds c.rest_both.new.store) (g.St.Store.signs c.args.store.now) (g.St.Store.signs c.rest_both.new.store) c.requires.may.emits.emitter.apart c.rest_both.ensures.leaves)))
    c.rest_both.ensures.slots in
    record {
      ok = on_ok c.join_parts.result
          (λ came start lefts rights keeps told.
          let rested = c.in_ok-rest_both.ensures.kept start lefts rights keeps in
          emitted_from (g.E.Emit.took c.args.emit.now (g.St.Store.holds c.args.store.now)) (g.E.Emit.took c.args.emit.now (g.St.Store.holds c.rest_both.new.store)) (g.E.Emit.took c.join_parts.new.emit (g.St.Store.holds c.join_parts.new.store)) _ (pairs_of c.args.shape.now lefts rights) still
          (pairs_rested start c.args.shape.now lefts rights (both c.rest_both.new.left c.rest_both.new.right (g.St.Store.holds c.rest_both.new.store) (g.St.Store.signs c.rest_both.new.store)) rested (length c.rest_both.new.left.streams) c.in_ok-rest_both.ensures.rested.first.sixteen)
          (came rested.left.rows rested.right.rows (shows_rested start c.args.shape.now lefts rights (both c.rest_both.new.left c.rest_both.new.right (g.St.Store.holds c.rest_both.new.store) (g.St.Store.signs c.rest_both.new.store)) rested (c.rest_both.ensures.leaves.others.told ∙ told))))
          c.join_parts.ensures.ok;
      err = on_err c.join_parts.result
          (λ came start lefts rights keeps told.
          let rested = c.in_ok-rest_both.ensures.kept start lefts rights keeps in
          some_from (g.E.Emit.took c.args.emit.now (g.St.Store.holds c.args.store.now)) (g.E.Emit.took c.args.emit.now (g.St.Store.holds c.rest_both.new.store)) (g.E.Emit.took c.join_parts.new.emit (g.St.Store.holds c.join_parts.new.store)) _ (pairs_of c.args.shape.now lefts rights) still
          (pairs_rested start c.args.shape.now lefts rights (both c.rest_both.new.left c.rest_both.new.right (g.St.Store.holds c.rest_both.new.store) (g.St.Store.signs c.rest_both.new.store)) rested (length c.rest_both.new.left.streams) c.in_ok-rest_both.ensures.rested.first.sixteen)
          (came rested.left.rows rested.right.rows (shows_rested start c.args.shape.now lefts rights (both c.rest_both.new.left c.rest_both.new.right (g.St.Store.holds c.rest_both.new.store) (g.St.Store.signs c.rest_both.new.store)) rested (c.rest_both.ensures.leaves.others.told ∙ told))))
          c.join_parts.ensures.hands.err;
      kept = from_two c.join_parts.result
          (λ first between start lefts rights keeps.
          let rested = c.in_ok-rest_both.ensures.kept start lefts rights keeps in
          holds_sides c.args.c.now.tracker c.args.shape.now lefts rights start (both c.rest_both.new.left c.rest_both.new.right (g.St.Store.holds c.rest_both.new.store) (g.St.Store.signs c.rest_both.new.store)) c.rest_both.ensures.op.owns c.in_ok-rest_both.ensures.rested.between c.in_ok-rest_both.ensures.rested.first.sixteen rested
          (c.join_parts.new.emit ≡ c.args.emit.now) (over c.join_parts.new.left (g.St.Store.holds c.join_parts.new.store) (g.St.Store.signs c.join_parts.new.store)) (over c.join_parts.new.right (g.St.Store.holds c.join_parts.new.store) (g.St.Store.signs c.join_parts.new.store)) (g.St.Store.signs c.join_parts.new.store).trail between.left_closed between.right_closed
          first)
          c.join_parts.ensures.first c.join_parts.ensures.closed;
      client = search rules;
      op = search rules;
      leaves = beside_then c.args.c.now.tracker (g.E.Emit.client c.args.emit.now) (g.St.Store.holds c.args.store.now) (g.St.Store.holds c.rest_both.new.store) (g.St.Store.holds c.join_parts.new.store) (g.St.Store.signs c.args.store.now) (g.St.Store.signs c.rest_both.new.store) (g.St.Store.signs c.join_parts.new.store) (left_beside c.args.c.now.tracker (g.E.Emit.client c.args.emit.now) _ _ _ _ c.rest_both.ensures.leaves) c.join_parts.ensures.hands.leaves;
      made = λ start lefts rights keeps told.
          let rested = c.in_ok-rest_both.ensures.kept start lefts rights keeps in
          let few = owed_rested start c.args.shape.now lefts rights (both c.rest_both.new.left c.rest_both.new.right (g.St.Store.holds c.rest_both.new.store) (g.St.Store.signs c.rest_both.new.store)) rested c.in_ok-rest_both.ensures.rested in
          counts_both 0 (owed_both (both c.rest_both.new.left c.rest_both.new.right (g.St.Store.holds c.rest_both.new.store) (g.St.Store.signs c.rest_both.new.store)) rested.left.rows rested.right.rows) (15 * (length lefts + length rights)) (g.E.Emit.creates c.args.emit.now) (g.E.Emit.creates c.args.emit.now) (g.E.Emit.creates c.join_parts.new.emit) (g.St.Store.signs c.args.store.now) (g.St.Store.signs c.rest_both.new.store) (g.St.Store.signs c.join_parts.new.store) (omega (arith, few)) (few_counts 0 (g.E.Emit.creates c.args.emit.now) (g.St.Store.signs c.args.store.now) (g.St.Store.signs c.rest_both.new.store) c.rest_both.ensures.made)
          (c.join_parts.ensures.made rested.left.rows rested.right.rows (shows_rested start c.args.shape.now lefts rights (both c.rest_both.new.left c.rest_both.new.right (g.St.Store.holds c.rest_both.new.store) (g.St.Store.signs c.rest_both.new.store)) rested (c.rest_both.ensures.leaves.others.told ∙ told)));
      emitter = stands_then _ _ _ _ _ _ _ _ _ (g.E.Emit.took c.args.emit.now (g.St.Store.holds c.args.store.now)) (g.E.Emit.took c.args.emit.now (g.St.Store.holds c.rest_both.new.store)) (g.E.Emit.took c.join_parts.new.emit (g.St.Store.holds c.join_parts.new.store)) (g.St.Store.holds c.rest_both.new.store) (g.St.Store.holds c.join_parts.new.store)
          (stands_left _ _ _ (g.E.Emit.took c.args.emit.now (g.St.Store.holds c.args.store.now)) (g.E.Emit.took c.args.emit.now (g.St.Store.holds c.rest_both.new.store)) c.args.c.now.tracker (g.St.Store.holds c.args.store.now) (g.St.Store.holds c.rest_both.new.store) (g.St.Store.signs c.args.store.now) (g.St.Store.signs c.rest_both.new.store) c.requires.may.emits.emitter c.rest_both.ensures.leaves still) c.join_parts.ensures.hands.emitter;
      cause = came_beside c.join_parts.result _ _ _ _ _ _ _ (if_err c.join_parts.result (λ e came. came_behind _ _ _ (g.St.Store.signs c.args.store.now) (g.St.Store.signs c.rest_both.new.store) (g.St.Store.signs c.join_parts.new.store) e (omega arith) c.rest_both.ensures.leaves.grows came) c.join_parts.ensures.hands.cause)
          (λ none.
          let total : Option ℕ = slots_both (both c.args.left.now c.args.right.now (g.St.Store.holds c.args.store.now) (g.St.Store.signs c.args.store.now)) in
          if_err c.join_parts.result (λ e want. subst (λ (n : ℕ). IsWantOf n total e) c.rest_both.ensures.blocks (subst (λ (o : Option ℕ). IsWantOf c.rest_both.new.left.page_blocks o e) c.rest_both.ensures.slots want)) (c.join_parts.ensures.hands.alone none));
      slots = keep_then (g.E.Emit.client c.args.emit.now) _ _ _ _ _ _
          (keep_own (g.E.Emit.client c.args.emit.now) (slots_both (both c.args.left.now c.args.right.now (g.St.Store.holds c.args.store.now) (g.St.Store.signs c.args.store.now))) (slots_both (both c.rest_both.new.left c.rest_both.new.right (g.St.Store.holds c.rest_both.new.store) (g.St.Store.signs c.rest_both.new.store))) _ _ c.rest_both.ensures.slots
          (g.met.E.Emit.slots_own c.args.emit.now (g.St.Store.holds c.args.store.now) (g.St.Store.holds c.rest_both.new.store) (same_beside c.args.c.now.tracker (g.E.Emit.client c.args.emit.now) (g.St.Store.holds c.args.store.now) (g.St.Store.holds c.rest_both.new.store) (g.St.Store.signs c.args.store.now) (g.St.Store.signs c.rest_both.new.store) c.requires.may.emits.emitter.apart c.rest_both.ensures.leaves)))
          c.join_parts.ensures.hands.slots;
      want = λ same.
          let total : with_more (g.E.Emit.slots c.args.emit.now (g.St.Store.holds c.rest_both.new.store)) (slots_both (both c.rest_both.new.left c.rest_both.new.right (g.St.Store.holds c.rest_both.new.store) (g.St.Store.signs c.rest_both.new.store))) ≡ with_more (g.E.Emit.slots c.args.emit.now (g.St.Store.holds c.args.store.now)) (slots_both (both c.args.left.now c.args.right.now (g.St.Store.holds c.args.store.now) (g.St.Store.signs c.args.store.now))) =
          same_total _ _ _ _
          (sym (g.met.E.Emit.slots_own c.args.emit.now (g.St.Store.holds c.args.store.now) (g.St.Store.holds c.rest_both.new.store) (same_beside c.args.c.now.tracker (g.E.Emit.client c.args.emit.now) (g.St.Store.holds c.args.store.now) (g.St.Store.holds c.rest_both.new.store) (g.St.Store.signs c.args.store.now) (g.St.Store.signs c.rest_both.new.store) c.requires.may.emits.emitter.apart c.rest_both.ensures.leaves)))
          c.rest_both.ensures.slots in
          if_err c.join_parts.result
          (λ e want. subst (λ (o : Option ℕ). IsWantOf c.args.left.now.page_blocks o e) total (subst (λ (n : ℕ). IsWantOf n (with_more (g.E.Emit.slots c.args.emit.now (g.St.Store.holds c.rest_both.new.store)) (slots_both (both c.rest_both.new.left c.rest_both.new.right (g.St.Store.holds c.rest_both.new.store) (g.St.Store.signs c.rest_both.new.store)))) e) c.rest_both.ensures.blocks want))
          (c.join_parts.ensures.hands.want (same ∙ sym c.rest_both.ensures.blocks));
      enough = enough_of g.St.Store g.E.Emit (operator c.args.c.now c.args.shape.now c.args.left.now c.args.right.now) c.args.emit.now c.args.store.now c.join_parts.result
          (if_err c.join_parts.result
          (λ e enough start lefts rights keeps told.
          let rested = c.in_ok-rest_both.ensures.kept start lefts rights keeps in
          let first = c.in_ok-rest_both.ensures.rested in
          let most : slots_by (both c.rest_both.new.left c.rest_both.new.right (g.St.Store.holds c.rest_both.new.store) (g.St.Store.signs c.rest_both.new.store)) rested.left.rows rested.right.rows ≡ slots_for (operator c.args.c.now c.args.shape.now c.args.left.now c.args.right.now) (g.St.Store.holds c.args.store.now) lefts rights =
          by_rested c.args.c.now c.args.shape.now c.args.left.now c.args.right.now c.rest_both.new.left c.rest_both.new.right (g.St.Store.holds c.args.store.now) (g.St.Store.holds c.rest_both.new.store) (g.St.Store.signs c.args.store.now) (g.St.Store.signs c.rest_both.new.store) start lefts rights rested first.first.sixteen (first.between.many ∙ first.first.sixteen)
          c.rest_both.ensures.blocks c.rest_both.ensures.leaves.others.block_len in
          some_from (g.E.Emit.took c.args.emit.now (g.St.Store.holds c.args.store.now)) (g.E.Emit.took c.args.emit.now (g.St.Store.holds c.rest_both.new.store))
          (Crowds (g.E.Emit.slots_for c.args.emit.now) (slots_for (operator c.args.c.now c.args.shape.now c.args.left.now c.args.right.now) (g.St.Store.holds c.args.store.now) lefts rights) (with_more (g.E.Emit.slots c.args.emit.now (g.St.Store.holds c.args.store.now)) (slots_both (both c.args.left.now c.args.right.now (g.St.Store.holds c.args.store.now) (g.St.Store.signs c.args.store.now)))) e) _ (pairs_of c.args.shape.now lefts rights) still
          (pairs_rested start c.args.shape.now lefts rights (both c.rest_both.new.left c.rest_both.new.right (g.St.Store.holds c.rest_both.new.store) (g.St.Store.signs c.rest_both.new.store)) rested (length c.rest_both.new.left.streams) c.in_ok-rest_both.ensures.rested.first.sixteen)
          (some_more_of (g.E.Emit.took c.args.emit.now (g.St.Store.holds c.rest_both.new.store)) _ (g.E.Emit.slots_for c.args.emit.now) (g.E.Emit.slots_for c.args.emit.now) (slots_by (both c.rest_both.new.left c.rest_both.new.right (g.St.Store.holds c.rest_both.new.store) (g.St.Store.signs c.rest_both.new.store)) rested.left.rows rested.right.rows) (slots_for (operator c.args.c.now c.args.shape.now c.args.left.now c.args.right.now) (g.St.Store.holds c.args.store.now) lefts rights) _ _ e (λ rows. refl) (omega (arith, most)) total
          (enough rested.left.rows rested.right.rows (shows_rested start c.args.shape.now lefts rights (both c.rest_both.new.left c.rest_both.new.right (g.St.Store.holds c.rest_both.new.store) (g.St.Store.signs c.rest_both.new.store)) rested (c.rest_both.ensures.leaves.others.told ∙ told)))))
          c.join_parts.ensures.hands.enough);
    }
