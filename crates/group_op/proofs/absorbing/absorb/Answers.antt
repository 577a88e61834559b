use Rattle.std.proofs.Common.{◌≡◌, Err, arith, rules}
use Rattle.store_api.proofs.Answered.{answered_before}
use Rattle.partition_stack.proofs.Results.{any_err}
use Rattle.group_op.specs.Held.{state}
use Rattle.group_op.proofs.Absorbs.{all_rows, first_absorbs, less_none, less_read, made_refused, made_unspent, more_absorbs, none_first, none_place, none_rows, place_called, serves_called, spent_none, spent_row, stand_refused, stand_unspent}
use Rattle.group_op.proofs.Keeping.{room_of_read}
use Rattle.group_op.proofs.Makings.{less_few}
use Rattle.group_op.proofs.Serving.{serves_then}
use Rattle.group_op.proofs.absorbing.absorb.Goals as goal

pub loop-left-init : goal.loop-left-init
loop-left-init g c =
    first_absorbs c.args.c.now.tracker c.args.shape.now c.args.at c.args.level c.rows-left.result (state c.args.table.now c.args.parts.now (g.St.Store.holds c.args.store.now) (g.St.Store.signs c.args.store.now)) c.requires.held c.requires.entries c.requires.between c.requires.top c.rows-left.ensures

pub spend-requires-clause-room : goal.spend-requires-clause-room
spend-requires-clause-room g c =
    (c.args.at, omega arith, room_of_read c.args.c.now.tracker c.args.at c.args.level c.loop-left.divided c.loop-left.table c.args.parts.now c.loop-left.parts (g.St.Store.holds c.loop-left.store) (g.St.Store.signs c.loop-left.store) c.loop-left.invariant.serves.held c.loop-left.invariant.place)

pub returns-in_err-spend-clause-serves : goal.returns-in_err-spend-clause-serves
returns-in_err-spend-clause-serves g c =
    serves_called c.args.c.now.tracker c.args.shape.now c.args.at c.args.level c.loop-left.divided c.loop-left.left (state c.args.table.now c.args.parts.now (g.St.Store.holds c.args.store.now) (g.St.Store.signs c.args.store.now)) c.loop-left.table c.loop-left.parts c.spend.new.self
    (g.St.Store.holds c.loop-left.store) (g.St.Store.holds c.spend.new.store) (g.St.Store.signs c.loop-left.store) (g.St.Store.signs c.spend.new.store) c.loop-left.invariant c.in_err-spend.ensures.err.steps c.spend.ensures.changes

pub returns-in_err-spend-clause-cause : goal.returns-in_err-spend-clause-cause
returns-in_err-spend-clause-cause g c =
    let same : c.from_residual.result ≡ Err c.in_err-spend.field-0.0 = search rules in
    rw same (answered_before c.in_err-spend.field-0.0 (g.St.Store.signs c.args.store.now) (g.St.Store.signs c.loop-left.store) (g.St.Store.signs c.spend.new.store) c.loop-left.invariant.serves.leaves.grows c.in_err-spend.ensures.cause)

pub returns-then-not-branch-clause-rows : goal.returns-then-not-branch-clause-rows
returns-then-not-branch-clause-rows g c =
    none_rows c.args.c.now.tracker c.args.shape.now c.args.at c.args.level c.loop-left.divided c.loop-left.left (state c.args.table.now c.args.parts.now (g.St.Store.holds c.args.store.now) (g.St.Store.signs c.args.store.now)) c.loop-left.table c.loop-left.parts c.spend.new.self
    (g.St.Store.holds c.loop-left.store) (g.St.Store.holds c.spend.new.store) (g.St.Store.signs c.loop-left.store) (g.St.Store.signs c.spend.new.store) c.loop-left.invariant
    (spent_none c.args.c.now.tracker c.args.shape.now c.args.at c.args.level c.loop-left.divided c.loop-left.left (state c.args.table.now c.args.parts.now (g.St.Store.holds c.args.store.now) (g.St.Store.signs c.args.store.now)) c.loop-left.table c.loop-left.parts c.spend.new.self
    (g.St.Store.holds c.loop-left.store) (g.St.Store.holds c.spend.new.store) (g.St.Store.signs c.loop-left.store) (g.St.Store.signs c.spend.new.store) c.loop-left.invariant
    c.in_ok-spend.field-0 c.spend.new.out.items c.in_ok-spend.ensures.ok c.if-not-branch.true)

pub returns-then-not-branch-clause-read : goal.returns-then-not-branch-clause-read
returns-then-not-branch-clause-read g c =
    none_place c.args.c.now.tracker c.args.shape.now c.args.at c.args.level c.loop-left.divided c.loop-left.left (state c.args.table.now c.args.parts.now (g.St.Store.holds c.args.store.now) (g.St.Store.signs c.args.store.now)) c.loop-left.table c.loop-left.parts c.spend.new.self
    (g.St.Store.holds c.loop-left.store) (g.St.Store.holds c.spend.new.store) (g.St.Store.signs c.loop-left.store) (g.St.Store.signs c.spend.new.store) c.loop-left.invariant
    (spent_none c.args.c.now.tracker c.args.shape.now c.args.at c.args.level c.loop-left.divided c.loop-left.left (state c.args.table.now c.args.parts.now (g.St.Store.holds c.args.store.now) (g.St.Store.signs c.args.store.now)) c.loop-left.table c.loop-left.parts c.spend.new.self
    (g.St.Store.holds c.loop-left.store) (g.St.Store.holds c.spend.new.store) (g.St.Store.signs c.loop-left.store) (g.St.Store.signs c.spend.new.store) c.loop-left.invariant
    c.in_ok-spend.field-0 c.spend.new.out.items c.in_ok-spend.ensures.ok c.if-not-branch.true) c.spend.ensures.changes

pub take_in-requires-clause-held : goal.take_in-requires-clause-held
take_in-requires-clause-held g c =
    (serves_called c.args.c.now.tracker c.args.shape.now c.args.at c.args.level c.loop-left.divided c.loop-left.left (state c.args.table.now c.args.parts.now (g.St.Store.holds c.args.store.now) (g.St.Store.signs c.args.store.now)) c.loop-left.table c.loop-left.parts c.spend.new.self
    (g.St.Store.holds c.loop-left.store) (g.St.Store.holds c.spend.new.store) (g.St.Store.signs c.loop-left.store) (g.St.Store.signs c.spend.new.store) c.loop-left.invariant
    (spent_row c.args.c.now.tracker c.args.shape.now c.args.at c.args.level c.loop-left.divided c.loop-left.left (state c.args.table.now c.args.parts.now (g.St.Store.holds c.args.store.now) (g.St.Store.signs c.args.store.now)) c.loop-left.table c.loop-left.parts c.spend.new.self
    (g.St.Store.holds c.loop-left.store) (g.St.Store.holds c.spend.new.store) (g.St.Store.signs c.loop-left.store) (g.St.Store.signs c.spend.new.store) c.loop-left.invariant
    c.in_ok-spend.field-0 c.spend.new.out.items c.in_ok-spend.ensures.ok c.if-not-branch.false).steps c.spend.ensures.changes).held

pub take_in-requires-clause-read : goal.take_in-requires-clause-read
take_in-requires-clause-read g c = (
  c.args.parts.now,
  c.requires.level,
  place_called c.args.c.now.tracker c.args.shape.now c.args.at c.args.level c.loop-left.divided c.loop-left.left (state c.args.table.now c.args.parts.now (g.St.Store.holds c.args.store.now) (g.St.Store.signs c.args.store.now)) c.loop-left.table c.loop-left.parts c.spend.new.self
      (g.St.Store.holds c.loop-left.store) (g.St.Store.holds c.spend.new.store) (g.St.Store.signs c.loop-left.store) (g.St.Store.signs c.spend.new.store) c.loop-left.invariant
      c.spend.ensures.changes (spent_row c.args.c.now.tracker c.args.shape.now c.args.at c.args.level c.loop-left.divided c.loop-left.left (state c.args.table.now c.args.parts.now (g.St.Store.holds c.args.store.now) (g.St.Store.signs c.args.store.now)) c.loop-left.table c.loop-left.parts c.spend.new.self
      (g.St.Store.holds c.loop-left.store) (g.St.Store.holds c.spend.new.store) (g.St.Store.signs c.loop-left.store) (g.St.Store.signs c.spend.new.store) c.loop-left.invariant
      c.in_ok-spend.field-0 c.spend.new.out.items c.in_ok-spend.ensures.ok c.if-not-branch.false).steps.long,
)

pub returns-in_err-divided-clause-serves : goal.returns-in_err-divided-clause-serves
returns-in_err-divided-clause-serves g c =
    let spent = spent_row c.args.c.now.tracker c.args.shape.now c.args.at c.args.level c.loop-left.divided c.loop-left.left (state c.args.table.now c.args.parts.now (g.St.Store.holds c.args.store.now) (g.St.Store.signs c.args.store.now)) c.loop-left.table c.loop-left.parts c.spend.new.self
    (g.St.Store.holds c.loop-left.store) (g.St.Store.holds c.spend.new.store) (g.St.Store.signs c.loop-left.store) (g.St.Store.signs c.spend.new.store) c.loop-left.invariant
    c.in_ok-spend.field-0 c.spend.new.out.items c.in_ok-spend.ensures.ok c.if-not-branch.false in
    serves_then c.args.c.now.tracker c.args.shape.now _ _ _ (serves_called c.args.c.now.tracker c.args.shape.now c.args.at c.args.level c.loop-left.divided c.loop-left.left (state c.args.table.now c.args.parts.now (g.St.Store.holds c.args.store.now) (g.St.Store.signs c.args.store.now)) c.loop-left.table c.loop-left.parts c.spend.new.self
    (g.St.Store.holds c.loop-left.store) (g.St.Store.holds c.spend.new.store) (g.St.Store.signs c.loop-left.store) (g.St.Store.signs c.spend.new.store) c.loop-left.invariant spent.steps c.spend.ensures.changes) c.take_in.ensures.serves

pub returns-in_err-divided-clause-cause : goal.returns-in_err-divided-clause-cause
returns-in_err-divided-clause-cause g c =
    let spent = spent_row c.args.c.now.tracker c.args.shape.now c.args.at c.args.level c.loop-left.divided c.loop-left.left (state c.args.table.now c.args.parts.now (g.St.Store.holds c.args.store.now) (g.St.Store.signs c.args.store.now)) c.loop-left.table c.loop-left.parts c.spend.new.self
    (g.St.Store.holds c.loop-left.store) (g.St.Store.holds c.spend.new.store) (g.St.Store.signs c.loop-left.store) (g.St.Store.signs c.spend.new.store) c.loop-left.invariant
    c.in_ok-spend.field-0 c.spend.new.out.items c.in_ok-spend.ensures.ok c.if-not-branch.false in
    let same : c.from_residual-in_err-divided.result ≡ Err c.in_err-divided.field-0.0 = search rules in
    let serves = serves_called c.args.c.now.tracker c.args.shape.now c.args.at c.args.level c.loop-left.divided c.loop-left.left (state c.args.table.now c.args.parts.now (g.St.Store.holds c.args.store.now) (g.St.Store.signs c.args.store.now)) c.loop-left.table c.loop-left.parts c.spend.new.self
    (g.St.Store.holds c.loop-left.store) (g.St.Store.holds c.spend.new.store) (g.St.Store.signs c.loop-left.store) (g.St.Store.signs c.spend.new.store) c.loop-left.invariant spent.steps c.spend.ensures.changes in
    rw same (answered_before c.in_err-divided.field-0.0 (g.St.Store.signs c.args.store.now) (g.St.Store.signs c.spend.new.store) (g.St.Store.signs c.take_in.new.store) serves.leaves.grows c.in_err-divided.ensures.cause)

pub loop-left-preserved : goal.loop-left-preserved
loop-left-preserved g c =
    more_absorbs c.args.c.now.tracker c.args.shape.now c.args.at c.args.level c.loop-left.divided c.loop-left.left (state c.args.table.now c.args.parts.now (g.St.Store.holds c.args.store.now) (g.St.Store.signs c.args.store.now)) c.loop-left.table c.loop-left.parts c.spend.new.self
    (g.St.Store.holds c.loop-left.store) (g.St.Store.holds c.spend.new.store) (g.St.Store.signs c.loop-left.store) (g.St.Store.signs c.spend.new.store) c.loop-left.invariant
    c.spend.new.out.items (spent_row c.args.c.now.tracker c.args.shape.now c.args.at c.args.level c.loop-left.divided c.loop-left.left (state c.args.table.now c.args.parts.now (g.St.Store.holds c.args.store.now) (g.St.Store.signs c.args.store.now)) c.loop-left.table c.loop-left.parts c.spend.new.self
    (g.St.Store.holds c.loop-left.store) (g.St.Store.holds c.spend.new.store) (g.St.Store.signs c.loop-left.store) (g.St.Store.signs c.spend.new.store) c.loop-left.invariant
    c.in_ok-spend.field-0 c.spend.new.out.items c.in_ok-spend.ensures.ok c.if-not-branch.false) c.spend.ensures.changes c.in_ok-divided.divided
    (state c.take_in.new.table c.take_in.new.parts (g.St.Store.holds c.take_in.new.store) (g.St.Store.signs c.take_in.new.store)) c.take_in.ensures.serves c.in_ok-divided.ensures.read c.in_ok-divided.ensures.rows c.in_ok-divided.ensures.less (omega (arith, c.loop-left-test.true))

pub returns-clause-rows : goal.returns-clause-rows
returns-clause-rows g c =
    all_rows c.args.c.now.tracker c.args.shape.now c.args.at c.args.level c.loop-left.divided c.loop-left.left (state c.args.table.now c.args.parts.now (g.St.Store.holds c.args.store.now) (g.St.Store.signs c.args.store.now)) c.loop-left.table c.loop-left.parts c.loop-left.parts
    (g.St.Store.holds c.loop-left.store) (g.St.Store.holds c.loop-left.store) (g.St.Store.signs c.loop-left.store) (g.St.Store.signs c.loop-left.store) c.loop-left.invariant (omega (arith, c.loop-left-test.false))

pub returns-then-not-branch-clause-first : goal.returns-then-not-branch-clause-first
returns-then-not-branch-clause-first g c =
    none_first c.args.c.now.tracker c.args.shape.now c.args.at c.args.level c.loop-left.divided c.loop-left.left (state c.args.table.now c.args.parts.now (g.St.Store.holds c.args.store.now) (g.St.Store.signs c.args.store.now)) c.loop-left.table c.loop-left.parts c.spend.new.self
    (g.St.Store.holds c.loop-left.store) (g.St.Store.holds c.spend.new.store) (g.St.Store.signs c.loop-left.store) (g.St.Store.signs c.spend.new.store) c.loop-left.invariant
    (spent_none c.args.c.now.tracker c.args.shape.now c.args.at c.args.level c.loop-left.divided c.loop-left.left (state c.args.table.now c.args.parts.now (g.St.Store.holds c.args.store.now) (g.St.Store.signs c.args.store.now)) c.loop-left.table c.loop-left.parts c.spend.new.self
    (g.St.Store.holds c.loop-left.store) (g.St.Store.holds c.spend.new.store) (g.St.Store.signs c.loop-left.store) (g.St.Store.signs c.spend.new.store) c.loop-left.invariant
    c.in_ok-spend.field-0 c.spend.new.out.items c.in_ok-spend.ensures.ok c.if-not-branch.true)

pub returns-clause-first : goal.returns-clause-first
returns-clause-first g c = c.loop-left.invariant.first

pub returns-in_err-spend-clause-made : goal.returns-in_err-spend-clause-made
returns-in_err-spend-clause-made g c =
    made_unspent c.args.c.now.tracker c.args.shape.now c.args.at c.args.level c.loop-left.divided c.loop-left.left (state c.args.table.now c.args.parts.now (g.St.Store.holds c.args.store.now) (g.St.Store.signs c.args.store.now)) c.loop-left.table c.loop-left.parts c.spend.new.self
    (g.St.Store.holds c.loop-left.store) (g.St.Store.holds c.spend.new.store) (g.St.Store.signs c.loop-left.store) (g.St.Store.signs c.spend.new.store) c.loop-left.invariant c.in_err-spend.ensures.err.steps

pub returns-then-not-branch-clause-less : goal.returns-then-not-branch-clause-less
returns-then-not-branch-clause-less g c =
    less_none c.args.c.now.tracker c.args.shape.now c.args.at c.args.level c.loop-left.divided c.loop-left.left (state c.args.table.now c.args.parts.now (g.St.Store.holds c.args.store.now) (g.St.Store.signs c.args.store.now)) c.loop-left.table c.loop-left.parts c.spend.new.self
    (g.St.Store.holds c.loop-left.store) (g.St.Store.holds c.spend.new.store) (g.St.Store.signs c.loop-left.store) (g.St.Store.signs c.spend.new.store) c.loop-left.invariant
    (spent_none c.args.c.now.tracker c.args.shape.now c.args.at c.args.level c.loop-left.divided c.loop-left.left (state c.args.table.now c.args.parts.now (g.St.Store.holds c.args.store.now) (g.St.Store.signs c.args.store.now)) c.loop-left.table c.loop-left.parts c.spend.new.self
    (g.St.Store.holds c.loop-left.store) (g.St.Store.holds c.spend.new.store) (g.St.Store.signs c.loop-left.store) (g.St.Store.signs c.spend.new.store) c.loop-left.invariant
    c.in_ok-spend.field-0 c.spend.new.out.items c.in_ok-spend.ensures.ok c.if-not-branch.true)

pub returns-then-not-branch-clause-made : goal.returns-then-not-branch-clause-made
returns-then-not-branch-clause-made g c = λ s there. less_few _ _ _ _ (returns-then-not-branch-clause-less g c s there)

pub returns-in_err-divided-clause-made : goal.returns-in_err-divided-clause-made
returns-in_err-divided-clause-made g c =
    made_refused c.args.c.now.tracker c.args.shape.now c.args.at c.args.level c.loop-left.divided c.loop-left.left (state c.args.table.now c.args.parts.now (g.St.Store.holds c.args.store.now) (g.St.Store.signs c.args.store.now)) c.loop-left.table c.loop-left.parts c.spend.new.self
    (g.St.Store.holds c.loop-left.store) (g.St.Store.holds c.spend.new.store) (g.St.Store.signs c.loop-left.store) (g.St.Store.signs c.spend.new.store) c.loop-left.invariant
    (spent_row c.args.c.now.tracker c.args.shape.now c.args.at c.args.level c.loop-left.divided c.loop-left.left (state c.args.table.now c.args.parts.now (g.St.Store.holds c.args.store.now) (g.St.Store.signs c.args.store.now)) c.loop-left.table c.loop-left.parts c.spend.new.self
    (g.St.Store.holds c.loop-left.store) (g.St.Store.holds c.spend.new.store) (g.St.Store.signs c.loop-left.store) (g.St.Store.signs c.spend.new.store) c.loop-left.invariant
    c.in_ok-spend.field-0 c.spend.new.out.items c.in_ok-spend.ensures.ok c.if-not-branch.false).steps (g.St.Store.signs c.take_in.new.store) c.in_err-divided.ensures.made

pub returns-clause-less : goal.returns-clause-less
returns-clause-less g c =
    less_read c.args.c.now.tracker c.args.shape.now c.args.at c.args.level c.loop-left.divided c.loop-left.left (state c.args.table.now c.args.parts.now (g.St.Store.holds c.args.store.now) (g.St.Store.signs c.args.store.now)) c.loop-left.table c.loop-left.parts c.loop-left.parts
    (g.St.Store.holds c.loop-left.store) (g.St.Store.holds c.loop-left.store) (g.St.Store.signs c.loop-left.store) (g.St.Store.signs c.loop-left.store) c.loop-left.invariant

pub returns-clause-made : goal.returns-clause-made
returns-clause-made g c = λ s there. less_few _ _ _ _ (returns-clause-less g c s there)

pub returns-in_err-spend-clause-stand : goal.returns-in_err-spend-clause-stand
returns-in_err-spend-clause-stand g c =
    any_err c.from_residual.result
    (stand_unspent c.args.c.now.tracker c.args.shape.now c.args.at c.args.level c.loop-left.divided c.loop-left.left (state c.args.table.now c.args.parts.now (g.St.Store.holds c.args.store.now) (g.St.Store.signs c.args.store.now)) c.loop-left.table c.loop-left.parts c.spend.new.self
    (g.St.Store.holds c.loop-left.store) (g.St.Store.holds c.spend.new.store) (g.St.Store.signs c.loop-left.store) (g.St.Store.signs c.spend.new.store) c.loop-left.invariant
    c.in_err-spend.ensures.err c.requires.deep.0 c.requires.deep.1)

pub returns-in_err-divided-clause-stand : goal.returns-in_err-divided-clause-stand
returns-in_err-divided-clause-stand g c =
    any_err c.from_residual-in_err-divided.result
    (stand_refused c.args.c.now.tracker c.args.shape.now c.args.at c.args.level c.loop-left.divided c.loop-left.left (state c.args.table.now c.args.parts.now (g.St.Store.holds c.args.store.now) (g.St.Store.signs c.args.store.now)) c.loop-left.table c.loop-left.parts c.spend.new.self
    (g.St.Store.holds c.loop-left.store) (g.St.Store.holds c.spend.new.store) (g.St.Store.signs c.loop-left.store) (g.St.Store.signs c.spend.new.store) c.loop-left.invariant
    c.spend.new.out.items (spent_row c.args.c.now.tracker c.args.shape.now c.args.at c.args.level c.loop-left.divided c.loop-left.left (state c.args.table.now c.args.parts.now (g.St.Store.holds c.args.store.now) (g.St.Store.signs c.args.store.now)) c.loop-left.table c.loop-left.parts c.spend.new.self
    (g.St.Store.holds c.loop-left.store) (g.St.Store.holds c.spend.new.store) (g.St.Store.signs c.loop-left.store) (g.St.Store.signs c.spend.new.store) c.loop-left.invariant
    c.in_ok-spend.field-0 c.spend.new.out.items c.in_ok-spend.ensures.ok c.if-not-branch.false)
    (state c.take_in.new.table c.take_in.new.parts (g.St.Store.holds c.take_in.new.store) (g.St.Store.signs c.take_in.new.store)) c.in_err-divided.ensures.stand)
