use Rattle.partition_stack.proofs.Results.{if_err, on_err, on_ok}
use Rattle.std.proofs.Common.{rules, ◌∙◌, ℕ, arith, refl, sym, subst}
use Rattle.partition_stack.specs.Slots.{IsWantOf, with_more}
use Rattle.join_op.proofs.Crowding.{some_more_of}
use Rattle.join_op.specs.Chunks.{stored_pairs}
use Rattle.join_op.proofs.BothFrames.{both_turned}
use Rattle.join_op.proofs.HeldSame.{readable_turned}
use Rattle.join_op.proofs.LeafSlots.{full_as, keep_turned}
use Rattle.join_op.proofs.chunks.join_streams.Goals as goal

pub join_held-requires-clause-streams : goal.join_held-requires-clause-streams
join_held-requires-clause-streams g c = readable_turned c.args.c.now c.args.left.now c.args.right.now _ c.requires.streams

pub returns-then-turned-clause-hands : goal.returns-then-turned-clause-hands
returns-then-turned-clause-hands g c =
    let alike = c.requires.streams.alike in
    record {
      ok = on_ok c.join_held.result (λ came lefts rights told one two. came rights lefts told two one) c.join_held.ensures.hands.ok;
      err = on_err c.join_held.result (λ came lefts rights told one two. came rights lefts told two one) c.join_held.ensures.hands.err;
      stands = search rules;
      cause = if_err c.join_held.result (λ e came. full_as _ _ _ _ _ _ _ _ e c.requires.streams.alike came) c.join_held.ensures.hands.cause;
      want = λ same.
          if_err c.join_held.result (λ e want. subst (λ (n : ℕ). IsWantOf n (with_more (g.E.Emit.slots c.join_held.new.emit (g.St.Store.holds c.join_held.new.store)) (g.St.Store.holds c.join_held.new.store).free_slots) e) c.requires.streams.alike want) (c.join_held.ensures.hands.want (same ∙ sym c.requires.streams.alike));
      crowded = if_err c.join_held.result
          (λ e came lefts rights told one two. some_more_of (g.E.Emit.took c.args.emit.now (g.St.Store.holds c.args.store.now)) (stored_pairs c.args.shape.now lefts rights) (g.E.Emit.slots_for c.args.emit.now) (g.E.Emit.slots_for c.args.emit.now) c.args.right.now.page_blocks c.args.left.now.page_blocks (with_more (g.E.Emit.slots c.join_held.new.emit (g.St.Store.holds c.join_held.new.store)) (g.St.Store.holds c.join_held.new.store).free_slots) (with_more (g.E.Emit.slots c.join_held.new.emit (g.St.Store.holds c.join_held.new.store)) (g.St.Store.holds c.join_held.new.store).free_slots) e (λ rows. refl) (omega (arith, alike)) refl (came rights lefts told two one))
          c.join_held.ensures.hands.crowded;
      most = search rules;
      slots = keep_turned (g.E.Emit.client c.args.emit.now) _ _ c.args.right.now c.join_held.new.reads c.args.left.now c.join_held.new.builds (g.St.Store.holds c.args.store.now) (g.St.Store.holds c.join_held.new.store) c.join_held.ensures.hands.slots;
      emitter = search rules;
    }

pub returns-then-turned-clause-streams : goal.returns-then-turned-clause-streams
returns-then-turned-clause-streams g c = both_turned _ _ _ _ _ _ _ _ c.join_held.ensures.streams

pub returns-clause-hands : goal.returns-clause-hands
returns-clause-hands g c =
    record {
      ok = search rules;
      err = search rules;
      stands = search rules;
      cause = search rules;
      want = search rules;
      crowded = if_err c.join_held-2.result (λ e came lefts rights told one two. came lefts rights told one two) c.join_held-2.ensures.hands.crowded;
      most = search rules;
      slots = search rules;
      emitter = search rules;
    }

pub returns-then-turned-clause-first : goal.returns-then-turned-clause-first
returns-then-turned-clause-first g c = on_ok c.join_held.result (λ pins left right. pins left) c.join_held.ensures.first

pub returns-clause-first : goal.returns-clause-first
returns-clause-first g c = on_ok c.join_held-2.result (λ pins left right. pins right) c.join_held-2.ensures.first
