use Rattle.std.proofs.Common.{rules, ◌∙◌, ℕ, List, sym, subst}
use Rattle.row_codec.specs.declared.values.Value.{Value}
use Rattle.store_api.specs.Conditions.{IsBlockCount}
use Rattle.bucket_table.specs.Lending.{Lends}
use Rattle.partition_stack.proofs.Results.{if_err, on_err, on_ok}
use Rattle.partition_stack.specs.Slots.{with_more}
use Rattle.join_op.specs.Slots.{Crowds}
use Rattle.join_op.specs.Chunks.{stored_pairs}
use Rattle.join_op.specs.Holding.{LeavesRoom, loans_in}
use Rattle.join_op.proofs.LeafEnds.{beside_lent, emitted_since, some_since, stays_since, went_since}
use Rattle.join_op.proofs.LeafSlots.{full_since, keep_lent}
use Rattle.join_op.proofs.LentBoth.{own_lent, readable_lent, rows_stay, told_lent}
use Rattle.join_op.proofs.PinsRows.{pins_later}
use Rattle.join_op.proofs.chunks.leaf_by_table.Goals as goal

pub hold-held-requires-clause-blocks : goal.hold-held-requires-clause-blocks
hold-held-requires-clause-blocks g c = subst IsBlockCount (sym c.requires.blocks) c.requires.streams.left_shape.sized

pub join_pair-requires-clause-streams : goal.join_pair-requires-clause-streams
join_pair-requires-clause-streams g c =
    readable_lent c.args.c.now c.args.left.now c.args.right.now _ _ _ c.hold-held.ensures.lends
    (subst (λ (n : ℕ). LeavesRoom c.args.c.now.tracker n (g.St.Store.holds c.args.store.now) (g.St.Store.holds c.hold-held.new.store)) c.requires.blocks c.hold-held.ensures.room) c.requires.streams

pub join_pair-requires-clause-emits : goal.join_pair-requires-clause-emits
join_pair-requires-clause-emits g c =
    let t = c.args.c.now.tracker in
    let h0 = g.St.Store.holds c.args.store.now in
    let h1 = g.St.Store.holds c.hold-held.new.store in
    let lends : Lends t (loans_in c.hold-held.result.table) h0 h1 = c.hold-held.ensures.lends in
    let still : (rows : List (List Value)) → g.E.Emit.took c.args.emit.now h0 rows → g.E.Emit.took c.args.emit.now h1 rows =
    λ rows. g.met.E.Emit.asks_own c.args.emit.now h0 h1 rows (own_lent t (loans_in c.hold-held.result.table) h0 h1 lends (g.E.Emit.client c.args.emit.now) c.requires.emits.emitter.apart) in
    record {
      emitter = beside_lent c.args.c.now.tracker _ _ _ _ c.hold-held.ensures.lends c.requires.emits.emitter;
      stands = (c.requires.emits.stands.0, still c.requires.emits.stands.0 c.requires.emits.stands.1);
      admits = search rules;
    }

pub returns-clause-hands : goal.returns-clause-hands
returns-clause-hands g c =
    let t = c.args.c.now.tracker in
    let h0 = g.St.Store.holds c.args.store.now in
    let h1 = g.St.Store.holds c.hold-held.new.store in
    let lends : Lends t (loans_in c.hold-held.result.table) h0 h1 = c.hold-held.ensures.lends in
    let still : (rows : List (List Value)) → g.E.Emit.took c.args.emit.now h0 rows → g.E.Emit.took c.args.emit.now h1 rows =
    λ rows. g.met.E.Emit.asks_own c.args.emit.now h0 h1 rows (own_lent t (loans_in c.hold-held.result.table) h0 h1 lends (g.E.Emit.client c.args.emit.now) c.requires.emits.emitter.apart) in
    record {
      ok = on_ok c.join_pair.result (λ came lefts rights told one two. emitted_since (g.E.Emit.took c.args.emit.now h0) (g.E.Emit.took c.args.emit.now h1) (g.E.Emit.took c.join_pair.new.emit (g.St.Store.holds c.join_pair.new.store)) still (stored_pairs c.args.shape.now lefts rights) (came lefts rights (told_lent t (loans_in c.hold-held.result.table) h0 h1 lends ∙ told) (rows_stay t (loans_in c.hold-held.result.table) h0 h1 lends c.args.left.now lefts c.requires.streams.left_shape one) (rows_stay t (loans_in c.hold-held.result.table) h0 h1 lends c.args.right.now rights c.requires.streams.right_shape two))) c.join_pair.ensures.hands.ok;
      err = on_err c.join_pair.result (λ came lefts rights told one two. some_since (g.E.Emit.took c.args.emit.now h0) (g.E.Emit.took c.args.emit.now h1) (g.E.Emit.took c.join_pair.new.emit (g.St.Store.holds c.join_pair.new.store)) still (stored_pairs c.args.shape.now lefts rights) (came lefts rights (told_lent t (loans_in c.hold-held.result.table) h0 h1 lends ∙ told) (rows_stay t (loans_in c.hold-held.result.table) h0 h1 lends c.args.left.now lefts c.requires.streams.left_shape one) (rows_stay t (loans_in c.hold-held.result.table) h0 h1 lends c.args.right.now rights c.requires.streams.right_shape two))) c.join_pair.ensures.hands.err;
      stands = went_since (g.E.Emit.took c.args.emit.now h0) (g.E.Emit.took c.args.emit.now h1) (g.E.Emit.took c.join_pair.new.emit (g.St.Store.holds c.join_pair.new.store)) still c.join_pair.ensures.hands.stands;
      cause = if_err c.join_pair.result (λ e came. full_since _ _ _ _ _ _ _ _ e c.hold-held.ensures.grows came) c.join_pair.ensures.hands.cause;
      want = search rules;
      crowded = if_err c.join_pair.result
          (λ e came lefts rights told one two. some_since (g.E.Emit.took c.args.emit.now h0) (g.E.Emit.took c.args.emit.now h1) (Crowds (g.E.Emit.slots_for c.args.emit.now) c.args.left.now.page_blocks (with_more (g.E.Emit.slots c.join_pair.new.emit (g.St.Store.holds c.join_pair.new.store)) (g.St.Store.holds c.join_pair.new.store).free_slots) e) still (stored_pairs c.args.shape.now lefts rights) (came lefts rights (told_lent t (loans_in c.hold-held.result.table) h0 h1 lends ∙ told) (rows_stay t (loans_in c.hold-held.result.table) h0 h1 lends c.args.left.now lefts c.requires.streams.left_shape one) (rows_stay t (loans_in c.hold-held.result.table) h0 h1 lends c.args.right.now rights c.requires.streams.right_shape two)))
          c.join_pair.ensures.hands.crowded;
      most = search rules;
      slots = keep_lent t (loans_in c.hold-held.result.table) h0 h1 (g.St.Store.holds c.join_pair.new.store) c.args.left.now c.args.right.now c.join_pair.new.left c.join_pair.new.right (g.E.Emit.client c.args.emit.now) _ _ _ lends (g.met.E.Emit.slots_own c.args.emit.now h0 h1 (own_lent t (loans_in c.hold-held.result.table) h0 h1 lends (g.E.Emit.client c.args.emit.now) c.requires.emits.emitter.apart)) c.join_pair.ensures.hands.slots;
      emitter = stays_since _ _ _ _ _ _ _ _ _ _ c.hold-held.ensures.grows c.hold-held.ensures.made c.join_pair.ensures.hands.emitter;
    }

pub returns-clause-streams : goal.returns-clause-streams
returns-clause-streams g c = c.join_pair.ensures.streams _ c.hold-held.ensures.lends c.requires.streams

pub returns-clause-first : goal.returns-clause-first
returns-clause-first g c = on_ok c.join_pair.result (λ pins left right. pins_later _ _ _ c.hold-held.ensures.first (pins left right)) c.join_pair.ensures.first
