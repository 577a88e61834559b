use Rattle.std.proofs.Common.{rules, ◌≢◌, ◌∙◌, ℕ, ◌≡◌, List, Some, sym, Option, arith, refl, subst}
use Rattle.row_codec.specs.declared.values.Value.{Value}
use Rattle.bucket_table.specs.Lending.{Lends}
use Rattle.partition_stack.proofs.Results.{if_err, on_err, on_ok}
use Rattle.partition_stack.specs.Slots.{IsWantOf, with_more}
use Rattle.join_op.proofs.Crowding.{same_total, some_more_of}
use Rattle.join_op.specs.Chunks.{stored_pairs}
use Rattle.join_op.specs.Holding.{IsTableAt, loans_in}
use Rattle.join_op.proofs.Dealing.{pinned_then}
use Rattle.join_op.proofs.Handed.{emitted_on, some_on}
use Rattle.join_op.proofs.LeafEnds.{lends_as, stays_later, went_later}
use Rattle.join_op.proofs.LeafSlots.{free_lent, full_later, keep_given}
use Rattle.join_op.proofs.LentBoth.{both_lent, own_given, table_read}
use Rattle.join_op.proofs.chunks.join_pair.Goals as goal

pub give-requires : goal.give-requires
give-requires g c =
    let t = c.args.c.now.tracker in
    let h1 = g.St.Store.holds c.args.store.now in
    let h2 = g.St.Store.holds c.join_streams-result.new.store in
    let at : IsTableAt t c.join_streams-result.new.held.table h2 = table_read t _ _ _ _ _ h1 h2 c.join_streams-result.ensures.streams c.args.held.table c.join_streams-result.new.held.table c.join_streams-result.ensures.held.table c.requires.table in
    (t, at)

pub returns-clause-hands : goal.returns-clause-hands
returns-clause-hands g c =
    let t = c.args.c.now.tracker in
    let h1 = g.St.Store.holds c.args.store.now in
    let h2 = g.St.Store.holds c.join_streams-result.new.store in
    let h3 = g.St.Store.holds c.give.new.store in
    let at : IsTableAt t c.join_streams-result.new.held.table h2 = table_read t _ _ _ _ _ h1 h2 c.join_streams-result.ensures.streams c.args.held.table c.join_streams-result.new.held.table c.join_streams-result.ensures.held.table c.requires.table in
    let lends : Lends t (loans_in c.args.held.table) h3 h2 = lends_as t c.args.held.table c.join_streams-result.new.held.table h3 h2 c.join_streams-result.ensures.held.table (c.give.ensures.lends t at) in
    let free : g.E.Emit.client c.join_streams-result.new.emit ≢ Some t = λ is. c.requires.emits.emitter.apart (sym c.join_streams-result.ensures.hands.emitter.client_same ∙ is) in
    let still : (rows : List (List Value)) → g.E.Emit.took c.join_streams-result.new.emit h2 rows → g.E.Emit.took c.join_streams-result.new.emit h3 rows =
    λ rows. g.met.E.Emit.asks_own c.join_streams-result.new.emit h2 h3 rows (own_given t (loans_in c.args.held.table) h3 h2 lends (g.E.Emit.client c.join_streams-result.new.emit) free) in
    let total : with_more (g.E.Emit.slots c.join_streams-result.new.emit h2) h2.free_slots ≡ with_more (g.E.Emit.slots c.join_streams-result.new.emit h3) h3.free_slots =
    same_total _ _ _ _ (g.met.E.Emit.slots_own c.join_streams-result.new.emit h2 h3 (own_given t (loans_in c.args.held.table) h3 h2 lends (g.E.Emit.client c.join_streams-result.new.emit) free)) (free_lent t (loans_in c.args.held.table) h3 h2 lends) in
    record {
      ok = on_ok c.join_streams-result.result (λ came lefts rights told one two. emitted_on (g.E.Emit.took c.args.emit.now h1) (g.E.Emit.took c.join_streams-result.new.emit h2) (g.E.Emit.took c.join_streams-result.new.emit h3) (stored_pairs c.args.shape.now lefts rights) still (came lefts rights told one two)) c.join_streams-result.ensures.hands.ok;
      err = on_err c.join_streams-result.result (λ came lefts rights told one two. some_on (g.E.Emit.took c.args.emit.now h1) (g.E.Emit.took c.join_streams-result.new.emit h2) (g.E.Emit.took c.join_streams-result.new.emit h3) (stored_pairs c.args.shape.now lefts rights) still (came lefts rights told one two)) c.join_streams-result.ensures.hands.err;
      stands = went_later (g.E.Emit.took c.args.emit.now h1) (g.E.Emit.took c.join_streams-result.new.emit h2) (g.E.Emit.took c.join_streams-result.new.emit h3) still c.join_streams-result.ensures.hands.stands;
      cause = if_err c.join_streams-result.result (λ e came. full_later _ _ _ _ _ _ _ _ _ e c.give.ensures.grows (sym (free_lent t (loans_in c.args.held.table) h3 h2 lends)) came) c.join_streams-result.ensures.hands.cause;
      want = λ same.
          let t = c.args.c.now.tracker in
          let h1 = g.St.Store.holds c.args.store.now in
          let h2 = g.St.Store.holds c.join_streams-result.new.store in
          let h3 = g.St.Store.holds c.give.new.store in
          let at : IsTableAt t c.join_streams-result.new.held.table h2 = table_read t _ _ _ _ _ h1 h2 c.join_streams-result.ensures.streams c.args.held.table c.join_streams-result.new.held.table c.join_streams-result.ensures.held.table c.requires.table in
          let lends : Lends t (loans_in c.args.held.table) h3 h2 = lends_as t c.args.held.table c.join_streams-result.new.held.table h3 h2 c.join_streams-result.ensures.held.table (c.give.ensures.lends t at) in
          let free : g.E.Emit.client c.join_streams-result.new.emit ≢ Some t = λ is. c.requires.emits.emitter.apart (sym c.join_streams-result.ensures.hands.emitter.client_same ∙ is) in
          let total : with_more (g.E.Emit.slots c.join_streams-result.new.emit h2) h2.free_slots ≡ with_more (g.E.Emit.slots c.join_streams-result.new.emit h3) h3.free_slots =
          same_total _ _ _ _ (g.met.E.Emit.slots_own c.join_streams-result.new.emit h2 h3 (own_given t (loans_in c.args.held.table) h3 h2 lends (g.E.Emit.client c.join_streams-result.new.emit) free)) (free_lent t (loans_in c.args.held.table) h3 h2 lends) in
          if_err c.join_streams-result.result (λ e want. subst (λ (o : Option ℕ). IsWantOf c.args.left.now.page_blocks o e) total want) (c.join_streams-result.ensures.hands.want same);
      crowded = if_err c.join_streams-result.result
          (λ e came lefts rights told one two. some_more_of (g.E.Emit.took c.args.emit.now h1) (stored_pairs c.args.shape.now lefts rights) (g.E.Emit.slots_for c.args.emit.now) (g.E.Emit.slots_for c.args.emit.now) c.args.left.now.page_blocks c.args.left.now.page_blocks _ _ e (λ rows. refl) (omega arith) total (came lefts rights told one two))
          c.join_streams-result.ensures.hands.crowded;
      most = search rules;
      slots = keep_given t (loans_in c.args.held.table) h1 h3 h2 c.args.left.now c.args.right.now c.join_streams-result.new.left c.join_streams-result.new.right (g.E.Emit.client c.args.emit.now) _ _ _ lends (g.met.E.Emit.slots_own c.join_streams-result.new.emit h2 h3 (own_given t (loans_in c.args.held.table) h3 h2 lends (g.E.Emit.client c.join_streams-result.new.emit) free)) c.join_streams-result.ensures.hands.slots;
      emitter = stays_later t (loans_in c.args.held.table) _ _ _ _ _ _ h3 h2 _ _ _ c.requires.emits.emitter.apart lends c.give.ensures.grows c.give.ensures.made c.join_streams-result.ensures.hands.emitter;
    }

pub returns-clause-streams : goal.returns-clause-streams
returns-clause-streams g c =
    let t = c.args.c.now.tracker in
    let h1 = g.St.Store.holds c.args.store.now in
    let h2 = g.St.Store.holds c.join_streams-result.new.store in
    let h3 = g.St.Store.holds c.give.new.store in
    let at : IsTableAt t c.join_streams-result.new.held.table h2 = table_read t _ _ _ _ _ h1 h2 c.join_streams-result.ensures.streams c.args.held.table c.join_streams-result.new.held.table c.join_streams-result.ensures.held.table c.requires.table in
    let lends : Lends t (loans_in c.args.held.table) h3 h2 = lends_as t c.args.held.table c.join_streams-result.new.held.table h3 h2 c.join_streams-result.ensures.held.table (c.give.ensures.lends t at) in
    λ less came is. both_lent t _ _ _ _ _ (loans_in c.args.held.table) less h1 h2 h3 came lends is.left_shape is.right_shape c.join_streams-result.ensures.streams

pub returns-clause-first : goal.returns-clause-first
returns-clause-first g c = on_ok c.join_streams-result.result (λ pins left right. pinned_then _ _ _ (pins left right) c.give.ensures.grows.trail) c.join_streams-result.ensures.first
