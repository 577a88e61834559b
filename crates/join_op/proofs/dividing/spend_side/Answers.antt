use Rattle.std.proofs.Common.{◌≡◌, ℕ, Err, subst, arith, rules}
use Rattle.store_api.proofs.Answered.{answered_before}
use Rattle.tuple_stream.specs.Touches.{IsFull}
use Rattle.partition_stack.proofs.Results.{any_err}
use Rattle.join_op.specs.Dividing.{side_of}
use Rattle.join_op.proofs.Calls.{called_of, calls_none}
use Rattle.join_op.proofs.Dealing.{all_dealt, all_first, calls_more, deals_none, fan_more, made_all, made_none, made_sent, made_unspent, more_deals, none_beside, none_dealt, none_fan, none_first, part_read, part_sent, some_all, spent_none, spent_row, whole_more}
use Rattle.join_op.proofs.Fans.{beside_then, may_after, room_of_fan}
use Rattle.join_op.proofs.Spent.{whole_sent}
use Rattle.join_op.proofs.dividing.spend_side.Goals as goal

pub loop-left-init : goal.loop-left-init
loop-left-init g c =
    deals_none c.args.c.now.tracker (side_of c.args.kinds.now c.args.columns.now) c.args.level c.args.at c.rows-left.result c.args.parts.now c.args.other.now (g.St.Store.holds c.args.store.now) (g.St.Store.signs c.args.store.now)
    (calls_none c.args.c.now.tracker c.args.parts.now c.args.other.now (g.St.Store.holds c.args.store.now) (g.St.Store.signs c.args.store.now) c.requires.may.own) c.requires.fan c.rows-left.ensures

pub spend-requires-clause-room : goal.spend-requires-clause-room
spend-requires-clause-room g c =
    let h = g.St.Store.holds c.args.store.now in
    let s = g.St.Store.signs c.args.store.now in
    let h1 = g.St.Store.holds c.loop-left.store in
    let s1 = g.St.Store.signs c.loop-left.store in (
      c.args.at,
      omega arith,
      room_of_fan c.args.c.now c.args.level c.args.at c.loop-left.parts c.args.other.now h1 s1
          (may_after c.args.c.now c.args.parts.now c.loop-left.parts c.args.other.now h h1 s s1 c.requires.may (called_of c.args.c.now.tracker c.args.parts.now c.loop-left.parts c.args.other.now h h1 s s1 c.loop-left.invariant.beside)) c.loop-left.invariant.fan,
    )

pub returns-in_err-spend-clause-fan : goal.returns-in_err-spend-clause-fan
returns-in_err-spend-clause-fan g c =
    fan_more c.args.c.now.tracker (side_of c.args.kinds.now c.args.columns.now) c.args.level c.args.at c.loop-left.left c.args.parts.now c.loop-left.parts c.spend.new.self c.args.other.now _ _ (g.St.Store.holds c.spend.new.store) _ _ (g.St.Store.signs c.spend.new.store) c.loop-left.invariant
    c.spend.ensures.changes c.in_err-spend.ensures.err.steps.long

pub returns-in_err-spend-clause-beside : goal.returns-in_err-spend-clause-beside
returns-in_err-spend-clause-beside g c =
    calls_more c.args.c.now.tracker (side_of c.args.kinds.now c.args.columns.now) c.args.level c.args.at c.loop-left.left c.args.parts.now c.loop-left.parts c.spend.new.self c.args.other.now _ _ (g.St.Store.holds c.spend.new.store) _ _ (g.St.Store.signs c.spend.new.store) c.loop-left.invariant
    c.in_err-spend.ensures.err.steps c.spend.ensures.changes

pub returns-in_err-spend-clause-answers : goal.returns-in_err-spend-clause-answers
returns-in_err-spend-clause-answers g c =
    let same : c.from_residual.result ≡ Err c.in_err-spend.field-0.0 = search rules in
    rw same (
      answered_before c.in_err-spend.field-0.0 (g.St.Store.signs c.args.store.now) (g.St.Store.signs c.loop-left.store) (g.St.Store.signs c.spend.new.store) c.loop-left.invariant.beside.leaves.grows c.in_err-spend.ensures.cause,
      subst (λ (n : ℕ). IsFull n (g.St.Store.holds c.spend.new.store).free_slots c.in_err-spend.field-0.0) c.loop-left.invariant.beside.blocks c.in_err-spend.ensures.full,
    )

pub returns-then-not-branch-clause-dealt : goal.returns-then-not-branch-clause-dealt
returns-then-not-branch-clause-dealt g c =
    none_dealt c.args.c.now.tracker (side_of c.args.kinds.now c.args.columns.now) c.args.level c.args.at c.loop-left.left c.args.parts.now c.loop-left.parts c.spend.new.self c.args.other.now _ _ (g.St.Store.holds c.spend.new.store) _ _ (g.St.Store.signs c.spend.new.store) c.loop-left.invariant
    (spent_none c.args.c.now.tracker (side_of c.args.kinds.now c.args.columns.now) c.args.level c.args.at c.loop-left.left c.args.parts.now c.loop-left.parts c.spend.new.self c.args.other.now _ _ (g.St.Store.holds c.spend.new.store) _ _ (g.St.Store.signs c.spend.new.store) c.loop-left.invariant
    c.in_ok-spend.field-0 c.spend.new.out.items c.in_ok-spend.ensures.ok c.if-not-branch.true)

pub returns-then-not-branch-clause-first : goal.returns-then-not-branch-clause-first
returns-then-not-branch-clause-first g c =
    none_first c.args.c.now.tracker (side_of c.args.kinds.now c.args.columns.now) c.args.level c.args.at c.loop-left.left c.args.parts.now c.loop-left.parts c.spend.new.self c.args.other.now _ _ (g.St.Store.holds c.spend.new.store) _ _ (g.St.Store.signs c.spend.new.store) c.loop-left.invariant
    (some_all c.args.level c.args.at c.args.parts.now c.requires.fan c.requires.some)
    (spent_none c.args.c.now.tracker (side_of c.args.kinds.now c.args.columns.now) c.args.level c.args.at c.loop-left.left c.args.parts.now c.loop-left.parts c.spend.new.self c.args.other.now _ _ (g.St.Store.holds c.spend.new.store) _ _ (g.St.Store.signs c.spend.new.store) c.loop-left.invariant
    c.in_ok-spend.field-0 c.spend.new.out.items c.in_ok-spend.ensures.ok c.if-not-branch.true)

pub returns-then-not-branch-clause-fan : goal.returns-then-not-branch-clause-fan
returns-then-not-branch-clause-fan g c =
    none_fan c.args.c.now.tracker (side_of c.args.kinds.now c.args.columns.now) c.args.level c.args.at c.loop-left.left c.args.parts.now c.loop-left.parts c.spend.new.self c.args.other.now _ _ (g.St.Store.holds c.spend.new.store) _ _ (g.St.Store.signs c.spend.new.store) c.loop-left.invariant
    (spent_none c.args.c.now.tracker (side_of c.args.kinds.now c.args.columns.now) c.args.level c.args.at c.loop-left.left c.args.parts.now c.loop-left.parts c.spend.new.self c.args.other.now _ _ (g.St.Store.holds c.spend.new.store) _ _ (g.St.Store.signs c.spend.new.store) c.loop-left.invariant
    c.in_ok-spend.field-0 c.spend.new.out.items c.in_ok-spend.ensures.ok c.if-not-branch.true) c.spend.ensures.changes

pub returns-then-not-branch-clause-beside : goal.returns-then-not-branch-clause-beside
returns-then-not-branch-clause-beside g c =
    none_beside c.args.c.now.tracker (side_of c.args.kinds.now c.args.columns.now) c.args.level c.args.at c.loop-left.left c.args.parts.now c.loop-left.parts c.spend.new.self c.args.other.now _ _ (g.St.Store.holds c.spend.new.store) _ _ (g.St.Store.signs c.spend.new.store) c.loop-left.invariant
    (spent_none c.args.c.now.tracker (side_of c.args.kinds.now c.args.columns.now) c.args.level c.args.at c.loop-left.left c.args.parts.now c.loop-left.parts c.spend.new.self c.args.other.now _ _ (g.St.Store.holds c.spend.new.store) _ _ (g.St.Store.signs c.spend.new.store) c.loop-left.invariant
    c.in_ok-spend.field-0 c.spend.new.out.items c.in_ok-spend.ensures.ok c.if-not-branch.true) c.spend.ensures.changes

pub send-requires-clause-may : goal.send-requires-clause-may
send-requires-clause-may g c =
    let spent = spent_row c.args.c.now.tracker (side_of c.args.kinds.now c.args.columns.now) c.args.level c.args.at c.loop-left.left c.args.parts.now c.loop-left.parts c.spend.new.self c.args.other.now _ _ (g.St.Store.holds c.spend.new.store) _ _ (g.St.Store.signs c.spend.new.store) c.loop-left.invariant
    c.in_ok-spend.field-0 c.spend.new.out.items c.in_ok-spend.ensures.ok c.if-not-branch.false in
    may_after c.args.c.now c.args.parts.now c.spend.new.self c.args.other.now _ _ _ _ c.requires.may
    (called_of c.args.c.now.tracker c.args.parts.now c.spend.new.self c.args.other.now _ _ _ _
    (calls_more c.args.c.now.tracker (side_of c.args.kinds.now c.args.columns.now) c.args.level c.args.at c.loop-left.left c.args.parts.now c.loop-left.parts c.spend.new.self c.args.other.now _ _ (g.St.Store.holds c.spend.new.store) _ _ (g.St.Store.signs c.spend.new.store) c.loop-left.invariant spent.steps c.spend.ensures.changes))

pub send-requires-clause-fan : goal.send-requires-clause-fan
send-requires-clause-fan g c =
    let spent = spent_row c.args.c.now.tracker (side_of c.args.kinds.now c.args.columns.now) c.args.level c.args.at c.loop-left.left c.args.parts.now c.loop-left.parts c.spend.new.self c.args.other.now _ _ (g.St.Store.holds c.spend.new.store) _ _ (g.St.Store.signs c.spend.new.store) c.loop-left.invariant
    c.in_ok-spend.field-0 c.spend.new.out.items c.in_ok-spend.ensures.ok c.if-not-branch.false in
    fan_more c.args.c.now.tracker (side_of c.args.kinds.now c.args.columns.now) c.args.level c.args.at c.loop-left.left c.args.parts.now c.loop-left.parts c.spend.new.self c.args.other.now _ _ (g.St.Store.holds c.spend.new.store) _ _ (g.St.Store.signs c.spend.new.store) c.loop-left.invariant
    c.spend.ensures.changes spent.steps.long

pub returns-in_err-send-clause-beside : goal.returns-in_err-send-clause-beside
returns-in_err-send-clause-beside g c =
    let spent = spent_row c.args.c.now.tracker (side_of c.args.kinds.now c.args.columns.now) c.args.level c.args.at c.loop-left.left c.args.parts.now c.loop-left.parts c.spend.new.self c.args.other.now _ _ (g.St.Store.holds c.spend.new.store) _ _ (g.St.Store.signs c.spend.new.store) c.loop-left.invariant
    c.in_ok-spend.field-0 c.spend.new.out.items c.in_ok-spend.ensures.ok c.if-not-branch.false in
    beside_then c.args.c.now.tracker c.args.parts.now c.spend.new.self c.send.new.parts c.args.other.now _ _ _ _ _ _
    (calls_more c.args.c.now.tracker (side_of c.args.kinds.now c.args.columns.now) c.args.level c.args.at c.loop-left.left c.args.parts.now c.loop-left.parts c.spend.new.self c.args.other.now _ _ (g.St.Store.holds c.spend.new.store) _ _ (g.St.Store.signs c.spend.new.store) c.loop-left.invariant spent.steps c.spend.ensures.changes)
    c.send.ensures.beside

pub returns-in_err-send-clause-answers : goal.returns-in_err-send-clause-answers
returns-in_err-send-clause-answers g c =
    let spent = spent_row c.args.c.now.tracker (side_of c.args.kinds.now c.args.columns.now) c.args.level c.args.at c.loop-left.left c.args.parts.now c.loop-left.parts c.spend.new.self c.args.other.now _ _ (g.St.Store.holds c.spend.new.store) _ _ (g.St.Store.signs c.spend.new.store) c.loop-left.invariant
    c.in_ok-spend.field-0 c.spend.new.out.items c.in_ok-spend.ensures.ok c.if-not-branch.false in
    let beside = calls_more c.args.c.now.tracker (side_of c.args.kinds.now c.args.columns.now) c.args.level c.args.at c.loop-left.left c.args.parts.now c.loop-left.parts c.spend.new.self c.args.other.now _ _ (g.St.Store.holds c.spend.new.store) _ _ (g.St.Store.signs c.spend.new.store) c.loop-left.invariant spent.steps c.spend.ensures.changes in
    let same : c.from_residual-in_err-send.result ≡ Err c.in_err-send.field-0.0 = search rules in
    rw same (
      answered_before c.in_err-send.field-0.0 _ _ _ beside.leaves.grows c.in_err-send.ensures.answers.0,
      subst (λ (n : ℕ). IsFull n (g.St.Store.holds c.send.new.store).free_slots c.in_err-send.field-0.0) beside.blocks c.in_err-send.ensures.answers.1,
    )

pub loop-left-preserved : goal.loop-left-preserved
loop-left-preserved g c =
    more_deals c.args.c.now.tracker (side_of c.args.kinds.now c.args.columns.now) c.args.level c.args.at c.loop-left.left c.args.parts.now c.loop-left.parts c.spend.new.self c.args.other.now _ _ (g.St.Store.holds c.spend.new.store) _ _ (g.St.Store.signs c.spend.new.store) c.loop-left.invariant c.spend.new.out.items
    (spent_row c.args.c.now.tracker (side_of c.args.kinds.now c.args.columns.now) c.args.level c.args.at c.loop-left.left c.args.parts.now c.loop-left.parts c.spend.new.self c.args.other.now _ _ (g.St.Store.holds c.spend.new.store) _ _ (g.St.Store.signs c.spend.new.store) c.loop-left.invariant
    c.in_ok-spend.field-0 c.spend.new.out.items c.in_ok-spend.ensures.ok c.if-not-branch.false)
    c.spend.ensures.changes c.send.new.parts (g.St.Store.holds c.send.new.store) (g.St.Store.signs c.send.new.store) c.send.ensures.beside c.send.ensures.fan c.in_ok-send.ensures.went c.send.ensures.made c.send.ensures.spent (omega (arith, c.loop-left-test.true))

pub returns-clause-dealt : goal.returns-clause-dealt
returns-clause-dealt g c =
    all_dealt c.args.c.now.tracker (side_of c.args.kinds.now c.args.columns.now) c.args.level c.args.at c.loop-left.left c.args.parts.now c.loop-left.parts c.loop-left.parts c.args.other.now _ _ (g.St.Store.holds c.loop-left.store) _ _ (g.St.Store.signs c.loop-left.store) c.loop-left.invariant (omega (arith, c.loop-left-test.false))

pub returns-clause-first : goal.returns-clause-first
returns-clause-first g c =
    all_first c.args.c.now.tracker (side_of c.args.kinds.now c.args.columns.now) c.args.level c.args.at c.loop-left.left c.args.parts.now c.loop-left.parts c.loop-left.parts c.args.other.now _ _ (g.St.Store.holds c.loop-left.store) _ _ (g.St.Store.signs c.loop-left.store) c.loop-left.invariant
    (some_all c.args.level c.args.at c.args.parts.now c.requires.fan c.requires.some) (omega (arith, c.loop-left-test.false))

pub returns-in_err-spend-clause-made : goal.returns-in_err-spend-clause-made
returns-in_err-spend-clause-made g c =
    made_unspent c.args.c.now.tracker (side_of c.args.kinds.now c.args.columns.now) c.args.level c.args.at c.loop-left.left c.args.parts.now c.loop-left.parts c.spend.new.self c.args.other.now _ _ (g.St.Store.holds c.spend.new.store) _ _ (g.St.Store.signs c.spend.new.store) c.loop-left.invariant
    c.in_err-spend.ensures.err.steps

pub returns-then-not-branch-clause-made : goal.returns-then-not-branch-clause-made
returns-then-not-branch-clause-made g c =
    made_none c.args.c.now.tracker (side_of c.args.kinds.now c.args.columns.now) c.args.level c.args.at c.loop-left.left c.args.parts.now c.loop-left.parts c.spend.new.self c.args.other.now _ _ (g.St.Store.holds c.spend.new.store) _ _ (g.St.Store.signs c.spend.new.store) c.loop-left.invariant
    (spent_none c.args.c.now.tracker (side_of c.args.kinds.now c.args.columns.now) c.args.level c.args.at c.loop-left.left c.args.parts.now c.loop-left.parts c.spend.new.self c.args.other.now _ _ (g.St.Store.holds c.spend.new.store) _ _ (g.St.Store.signs c.spend.new.store) c.loop-left.invariant
    c.in_ok-spend.field-0 c.spend.new.out.items c.in_ok-spend.ensures.ok c.if-not-branch.true)

pub returns-in_err-send-clause-made : goal.returns-in_err-send-clause-made
returns-in_err-send-clause-made g c =
    let spent = spent_row c.args.c.now.tracker (side_of c.args.kinds.now c.args.columns.now) c.args.level c.args.at c.loop-left.left c.args.parts.now c.loop-left.parts c.spend.new.self c.args.other.now _ _ (g.St.Store.holds c.spend.new.store) _ _ (g.St.Store.signs c.spend.new.store) c.loop-left.invariant
    c.in_ok-spend.field-0 c.spend.new.out.items c.in_ok-spend.ensures.ok c.if-not-branch.false in
    made_sent c.args.c.now.tracker (side_of c.args.kinds.now c.args.columns.now) c.args.level c.args.at c.loop-left.left c.args.parts.now c.loop-left.parts c.spend.new.self c.args.other.now _ _ (g.St.Store.holds c.spend.new.store) _ _ (g.St.Store.signs c.spend.new.store) c.loop-left.invariant
    spent.steps (omega (arith, c.loop-left-test.true)) (g.St.Store.signs c.send.new.store) c.send.ensures.made

pub returns-clause-made : goal.returns-clause-made
returns-clause-made g c =
    made_all c.args.c.now.tracker (side_of c.args.kinds.now c.args.columns.now) c.args.level c.args.at c.loop-left.left c.args.parts.now c.loop-left.parts c.loop-left.parts c.args.other.now _ _ (g.St.Store.holds c.loop-left.store) _ _ (g.St.Store.signs c.loop-left.store) c.loop-left.invariant

pub returns-in_err-spend-clause-part : goal.returns-in_err-spend-clause-part
returns-in_err-spend-clause-part g c =
    any_err c.from_residual.result (part_read c.args.c.now.tracker (side_of c.args.kinds.now c.args.columns.now) c.args.level c.args.at c.loop-left.left c.args.parts.now c.loop-left.parts c.spend.new.self c.args.other.now _ _ (g.St.Store.holds c.spend.new.store) _ _ (g.St.Store.signs c.spend.new.store) c.loop-left.invariant c.in_err-spend.ensures.err)

pub returns-in_err-send-clause-part : goal.returns-in_err-send-clause-part
returns-in_err-send-clause-part g c =
    let spent = spent_row c.args.c.now.tracker (side_of c.args.kinds.now c.args.columns.now) c.args.level c.args.at c.loop-left.left c.args.parts.now c.loop-left.parts c.spend.new.self c.args.other.now _ _ (g.St.Store.holds c.spend.new.store) _ _ (g.St.Store.signs c.spend.new.store) c.loop-left.invariant
    c.in_ok-spend.field-0 c.spend.new.out.items c.in_ok-spend.ensures.ok c.if-not-branch.false in
    any_err c.from_residual-in_err-send.result
    (part_sent c.args.c.now.tracker (side_of c.args.kinds.now c.args.columns.now) c.args.level c.args.at c.loop-left.left c.args.parts.now c.loop-left.parts c.spend.new.self c.args.other.now _ _ (g.St.Store.holds c.spend.new.store) _ _ (g.St.Store.signs c.spend.new.store) c.loop-left.invariant c.spend.new.out.items spent c.send.new.parts (g.St.Store.holds c.send.new.store) (g.St.Store.signs c.send.new.store) c.in_err-send.ensures.stays)

pub returns-in_err-spend-clause-whole : goal.returns-in_err-spend-clause-whole
returns-in_err-spend-clause-whole g c = λ none. whole_more c.args.c.now.tracker (side_of c.args.kinds.now c.args.columns.now) c.args.level c.args.at c.loop-left.left c.args.parts.now c.loop-left.parts c.spend.new.self c.args.other.now _ _ (g.St.Store.holds c.spend.new.store) _ _ (g.St.Store.signs c.spend.new.store) c.loop-left.invariant c.spend.ensures.changes none

pub returns-then-not-branch-clause-whole : goal.returns-then-not-branch-clause-whole
returns-then-not-branch-clause-whole g c = λ none. whole_more c.args.c.now.tracker (side_of c.args.kinds.now c.args.columns.now) c.args.level c.args.at c.loop-left.left c.args.parts.now c.loop-left.parts c.spend.new.self c.args.other.now _ _ (g.St.Store.holds c.spend.new.store) _ _ (g.St.Store.signs c.spend.new.store) c.loop-left.invariant c.spend.ensures.changes none

pub returns-in_err-send-clause-whole : goal.returns-in_err-send-clause-whole
returns-in_err-send-clause-whole g c = λ none.
    whole_sent c.args.at c.spend.new.self c.send.new.parts (g.St.Store.holds c.spend.new.store) (g.St.Store.holds c.send.new.store) (g.St.Store.signs c.spend.new.store) (g.St.Store.signs c.send.new.store) c.send.ensures.spent
    (whole_more c.args.c.now.tracker (side_of c.args.kinds.now c.args.columns.now) c.args.level c.args.at c.loop-left.left c.args.parts.now c.loop-left.parts c.spend.new.self c.args.other.now _ _ (g.St.Store.holds c.spend.new.store) _ _ (g.St.Store.signs c.spend.new.store) c.loop-left.invariant c.spend.ensures.changes none)

pub returns-clause-whole : goal.returns-clause-whole
returns-clause-whole g c = c.loop-left.invariant.whole
