use Rattle.std.proofs.Common.{◌∙◌, ap, sym, take, arith}
use Rattle.tuple_stream.specs.Trails.{PinsFirst}
use Rattle.tuple_stream.proofs.PinsFirst.{both_pin_first}
use Rattle.tuple_stream.proofs.Sinces.{since_joined}
use Rattle.partition_stack.proofs.Left.{leaves_both}
use Rattle.partition_stack.proofs.Making.{few_both}
use Rattle.join_op.proofs.BothSlots.{sides_slots}
use Rattle.join_op.proofs.joining.drop_top.Goals as goal

pub returns-clause-leaves : goal.returns-clause-leaves
returns-clause-leaves g c = leaves_both c.args.c.now.tracker _ _ _ _ _ _ c.drop_one.ensures.called.leaves c.drop_one-2.ensures.called.leaves

pub returns-clause-between : goal.returns-clause-between
returns-clause-between g c =
    let left = c.drop_one.ensures.popped c.args._at c.requires.top in
    let right = c.drop_one-2.ensures.popped c.args._at (c.requires.between.many ∙ c.requires.top) in
    record {
      levels = right.levels ∙ ap (take c.args._at) c.requires.between.levels ∙ sym left.levels;
      many = right.many ∙ sym left.many;
      left_closed = c.drop_one.ensures.closed c.requires.between.left_closed;
      right_closed = c.drop_one-2.ensures.closed c.requires.between.right_closed;
    }

pub returns-clause-shows : goal.returns-clause-shows
returns-clause-shows g c = λ lefts rights shows.
    record {
      told = c.drop_one-2.ensures.called.leaves.others.told ∙ c.drop_one.ensures.called.leaves.others.told ∙ shows.told;
      left = c.drop_one-2.ensures.called.shows lefts (c.drop_one.ensures.shows lefts shows.left);
      right = c.drop_one-2.ensures.shows rights (c.drop_one.ensures.called.shows rights shows.right);
      left_whole = c.drop_one.ensures.whole shows.left_whole;
      right_whole = c.drop_one-2.ensures.whole shows.right_whole;
    }

pub returns-clause-first : goal.returns-clause-first
returns-clause-first g c =
    since_joined PinsFirst PinsFirst PinsFirst _ _ _ both_pin_first (c.drop_one.ensures.first c.requires.between.left_closed) (c.drop_one-2.ensures.first c.requires.between.right_closed)

pub returns-clause-made : goal.returns-clause-made
returns-clause-made g c = few_both 0 0 0 (g.St.Store.signs c.args.store.now) (g.St.Store.signs c.drop_one.new.store) (g.St.Store.signs c.drop_one-2.new.store) (omega arith) c.drop_one.ensures.made c.drop_one-2.ensures.made

pub returns-clause-slots : goal.returns-clause-slots
returns-clause-slots g c =
    (sides_slots c.args.left.now c.args.right.now c.drop_one.new.parts c.drop_one-2.new.parts (g.St.Store.holds c.args.store.now) (g.St.Store.holds c.drop_one.new.store) (g.St.Store.holds c.drop_one-2.new.store) (g.St.Store.signs c.args.store.now) (g.St.Store.signs c.drop_one.new.store) (g.St.Store.signs c.drop_one-2.new.store)
    c.requires.op.alike c.drop_one.ensures.called.slots c.drop_one-2.ensures.called.slots).sum
