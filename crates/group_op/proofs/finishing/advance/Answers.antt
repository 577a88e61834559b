use Rattle.std.proofs.Common.{rules, ◌≡◌, ◌∙◌, ◌+◌, ◌-◌, ◌<◌, ℕ, Bool, List, Err, length, take, Some, ap, sym, subst, arith}
use Rattle.std.specs.Prelude.{slice_get}
use Rattle.store_api.specs.declared.op_err.OpErr.TheVariants.{Pool}
use Rattle.tuple_stream.specs.Trails.{EnteredEvents}
use Rattle.group_op.specs.Emission.{EmittedFront}
use Rattle.group_op.specs.Finishing.{Stacked, said_down}
use Rattle.group_op.specs.Held.{State, state, streams_of}
use Rattle.group_op.specs.Causes.{IsWant}
use Rattle.group_op.specs.Pinning.{HasBegun}
use Rattle.group_op.specs.Wanting.{IsWantAmongOf, slots_among}
use Rattle.tuple_stream.specs.Families.{slots_in}
use Rattle.tuple_stream.specs.FamilyCalls.{shares}
use Rattle.partition_stack.specs.Stack.{over}
use Rattle.group_op.proofs.Sharing.{want_as}
use Rattle.group_op.proofs.Begun.{gone_divided, gone_handed, not_last}
use Rattle.group_op.proofs.Advancing.{advances_divided, advances_popped, came_later, front_popped, front_same, ok_both}
use Rattle.group_op.proofs.Besides.{own_same, serves_own, serves_then, stands_own}
use Rattle.partition_stack.specs.Making.{owed}
use Rattle.partition_stack.proofs.Emitters.{stands_then}
use Rattle.partition_stack.proofs.Making.{counts_both, counts_less, few_counted, few_counts, few_less}
use Rattle.partition_stack.proofs.Owing.{owed_less, owed_popped}
use Rattle.group_op.proofs.Divided.{less_popped}
use Rattle.partition_stack.proofs.Results.{if_err, on_err, on_ok}
use Rattle.group_op.proofs.finishing.advance.Goals as goal

pub returns-then-level-eq16-clause-ok : goal.returns-then-level-eq16-clause-ok
returns-then-level-eq16-clause-ok g c =
    let some = c.requires.some in
    let len = c.len-at.ensures in
    let top : length c.args.parts.now.streams ≡ c.len-at.result - 1 + 1 = omega (arith, some, len) in
    ok_both c.leaf.result
    (λ came popped. (popped.0, λ rows stacked. advances_popped c.args.shape.now (c.len-at.result - 1) rows (state c.args.table.now c.args.parts.now (g.St.Store.holds c.args.store.now) (g.St.Store.signs c.args.store.now)) (state c.args.table.now c.leaf.new.parts (g.St.Store.holds c.leaf.new.store) (g.St.Store.signs c.leaf.new.store)) top (g.E.Emit.took c.args.emit.now (g.St.Store.holds c.args.store.now)) (g.E.Emit.took c.args.emit.now (g.St.Store.holds c.args.store.now)) (g.E.Emit.took c.leaf.new.emit (g.St.Store.holds c.leaf.new.store)) (λ taken took. took) stacked c.leaf.ensures.serves.leaves.told popped.1 (came rows stacked).0 (came rows stacked).1 0 (let all = owed_popped c.args.parts.now.levels (c.len-at.result - 1) c.level-level.result rows c.level-level.ensures.value in omega (arith, all)) c.leaf.ensures.made))
    c.leaf.ensures.ok c.leaf.ensures.popped

pub returns-then-level-eq16-clause-err : goal.returns-then-level-eq16-clause-err
returns-then-level-eq16-clause-err g c =
    let some = c.requires.some in
    let len = c.len-at.ensures in
    let top : length c.args.parts.now.streams ≡ c.len-at.result - 1 + 1 = omega (arith, some, len) in
    on_err c.leaf.result
    (λ front rows stacked. front_popped c.args.shape.now (c.len-at.result - 1) rows (state c.args.table.now c.args.parts.now (g.St.Store.holds c.args.store.now) (g.St.Store.signs c.args.store.now)) (state c.args.table.now c.leaf.new.parts (g.St.Store.holds c.leaf.new.store) (g.St.Store.signs c.leaf.new.store)) top (g.E.Emit.took c.args.emit.now (g.St.Store.holds c.args.store.now)) (g.E.Emit.took c.args.emit.now (g.St.Store.holds c.args.store.now)) (g.E.Emit.took c.leaf.new.emit (g.St.Store.holds c.leaf.new.store)) (λ taken took. took) (front rows stacked))
    c.leaf.ensures.err

pub returns-then-level-eq16-clause-less : goal.returns-then-level-eq16-clause-less
returns-then-level-eq16-clause-less g c =
    on_ok c.leaf.result (λ popped. less_popped c.args.parts.now.levels c.leaf.new.parts.levels (c.len-at.result - 1) c.level-level.result c.level-level.ensures.value popped.1.levels) c.leaf.ensures.popped

pub returns-in_err-spend_top-clause-err : goal.returns-in_err-spend_top-clause-err
returns-in_err-spend_top-clause-err g c =
    let front : (rows : ℕ → List (List ℕ)) → Stacked c.args.shape.now rows (state c.args.table.now c.args.parts.now (g.St.Store.holds c.args.store.now) (g.St.Store.signs c.args.store.now)) → EmittedFront c.args.shape.now (g.E.Emit.took c.args.emit.now (g.St.Store.holds c.args.store.now)) (g.E.Emit.took c.args.emit.now (g.St.Store.holds c.spend_top.new.store)) (said_down c.args.shape.now (length c.args.parts.now.streams) rows) =
    λ rows stacked. front_same c.args.shape.now (g.E.Emit.took c.args.emit.now (g.St.Store.holds c.args.store.now)) (g.E.Emit.took c.args.emit.now (g.St.Store.holds c.spend_top.new.store)) _ (λ taken took. g.met.E.Emit.asks_own c.args.emit.now (g.St.Store.holds c.args.store.now) (g.St.Store.holds c.spend_top.new.store) taken (own_same c.args.c.now.tracker _ (state c.args.table.now c.args.parts.now (g.St.Store.holds c.args.store.now) (g.St.Store.signs c.args.store.now)) (state c.spend_top.new.table c.spend_top.new.parts (g.St.Store.holds c.spend_top.new.store) (g.St.Store.signs c.spend_top.new.store)) c.requires.emitter.apart c.spend_top.ensures.serves.leaves) took) in
    search (rules, front)

pub returns-in_err-spend_top-clause-serves : goal.returns-in_err-spend_top-clause-serves
returns-in_err-spend_top-clause-serves g c = serves_own _ _ _ _ _ _ _ (g.met.E.Emit.slots_own c.args.emit.now (g.St.Store.holds c.args.store.now) (g.St.Store.holds c.spend_top.new.store) (own_same c.args.c.now.tracker _ (state c.args.table.now c.args.parts.now (g.St.Store.holds c.args.store.now) (g.St.Store.signs c.args.store.now)) (state c.spend_top.new.table c.spend_top.new.parts (g.St.Store.holds c.spend_top.new.store) (g.St.Store.signs c.spend_top.new.store)) c.requires.emitter.apart c.spend_top.ensures.serves.leaves)) c.spend_top.ensures.serves

pub returns-in_err-spend_top-clause-emitter : goal.returns-in_err-spend_top-clause-emitter
returns-in_err-spend_top-clause-emitter g c = stands_own _ _ _ _ _ c.args.c.now.tracker (state c.args.table.now c.args.parts.now (g.St.Store.holds c.args.store.now) (g.St.Store.signs c.args.store.now)) (state c.spend_top.new.table c.spend_top.new.parts (g.St.Store.holds c.spend_top.new.store) (g.St.Store.signs c.spend_top.new.store)) c.requires.emitter c.spend_top.ensures.serves.leaves (λ taken took. g.met.E.Emit.asks_own c.args.emit.now (g.St.Store.holds c.args.store.now) (g.St.Store.holds c.spend_top.new.store) taken (own_same c.args.c.now.tracker _ (state c.args.table.now c.args.parts.now (g.St.Store.holds c.args.store.now) (g.St.Store.signs c.args.store.now)) (state c.spend_top.new.table c.spend_top.new.parts (g.St.Store.holds c.spend_top.new.store) (g.St.Store.signs c.spend_top.new.store)) c.requires.emitter.apart c.spend_top.ensures.serves.leaves) took)

pub returns-then-branch-clause-ok : goal.returns-then-branch-clause-ok
returns-then-branch-clause-ok g c =
    let some = c.requires.some in
    let len = c.len-at.ensures in
    let top : length c.args.parts.now.streams ≡ c.len-at.result - 1 + 1 = omega (arith, some, len) in
    let divided = c.in_ok-spend_top.ensures.divided c.if-branch.true in (
      divided.0,
      λ rows stacked. advances_divided c.args.shape.now (c.len-at.result - 1) rows (state c.args.table.now c.args.parts.now (g.St.Store.holds c.args.store.now) (g.St.Store.signs c.args.store.now)) (state c.spend_top.new.table c.spend_top.new.parts (g.St.Store.holds c.spend_top.new.store) (g.St.Store.signs c.spend_top.new.store)) top (g.E.Emit.took c.args.emit.now (g.St.Store.holds c.args.store.now)) (g.E.Emit.took c.args.emit.now (g.St.Store.holds c.spend_top.new.store)) (λ taken took. g.met.E.Emit.asks_own c.args.emit.now (g.St.Store.holds c.args.store.now) (g.St.Store.holds c.spend_top.new.store) taken (own_same c.args.c.now.tracker _ (state c.args.table.now c.args.parts.now (g.St.Store.holds c.args.store.now) (g.St.Store.signs c.args.store.now)) (state c.spend_top.new.table c.spend_top.new.parts (g.St.Store.holds c.spend_top.new.store) (g.St.Store.signs c.spend_top.new.store)) c.requires.emitter.apart c.spend_top.ensures.serves.leaves) took) (divided.2 rows stacked)
          (few_counts (length (rows (c.len-at.result - 1))) (g.E.Emit.creates c.args.emit.now) (g.St.Store.signs c.args.store.now) (g.St.Store.signs c.spend_top.new.store) (few_counted rows (over c.args.parts.now (g.St.Store.holds c.args.store.now) (g.St.Store.signs c.args.store.now)) (c.len-at.result - 1) (g.St.Store.signs c.args.store.now) (g.St.Store.signs c.spend_top.new.store) (omega (arith, top)) stacked.shows c.spend_top.ensures.made)),
    )

pub returns-then-branch-clause-serves : goal.returns-then-branch-clause-serves
returns-then-branch-clause-serves g c = serves_own _ _ _ _ _ _ _ (g.met.E.Emit.slots_own c.args.emit.now (g.St.Store.holds c.args.store.now) (g.St.Store.holds c.spend_top.new.store) (own_same c.args.c.now.tracker _ (state c.args.table.now c.args.parts.now (g.St.Store.holds c.args.store.now) (g.St.Store.signs c.args.store.now)) (state c.spend_top.new.table c.spend_top.new.parts (g.St.Store.holds c.spend_top.new.store) (g.St.Store.signs c.spend_top.new.store)) c.requires.emitter.apart c.spend_top.ensures.serves.leaves)) c.spend_top.ensures.serves

pub returns-then-branch-clause-emitter : goal.returns-then-branch-clause-emitter
returns-then-branch-clause-emitter g c = stands_own _ _ _ _ _ c.args.c.now.tracker (state c.args.table.now c.args.parts.now (g.St.Store.holds c.args.store.now) (g.St.Store.signs c.args.store.now)) (state c.spend_top.new.table c.spend_top.new.parts (g.St.Store.holds c.spend_top.new.store) (g.St.Store.signs c.spend_top.new.store)) c.requires.emitter c.spend_top.ensures.serves.leaves (λ taken took. g.met.E.Emit.asks_own c.args.emit.now (g.St.Store.holds c.args.store.now) (g.St.Store.holds c.spend_top.new.store) taken (own_same c.args.c.now.tracker _ (state c.args.table.now c.args.parts.now (g.St.Store.holds c.args.store.now) (g.St.Store.signs c.args.store.now)) (state c.spend_top.new.table c.spend_top.new.parts (g.St.Store.holds c.spend_top.new.store) (g.St.Store.signs c.spend_top.new.store)) c.requires.emitter.apart c.spend_top.ensures.serves.leaves) took)

pub hand_on-requires-clause-stands : goal.hand_on-requires-clause-stands
hand_on-requires-clause-stands g c =
    (c.requires.stands.0, g.met.E.Emit.asks_own c.args.emit.now (g.St.Store.holds c.args.store.now) (g.St.Store.holds c.spend_top.new.store) c.requires.stands.0 (own_same c.args.c.now.tracker _ (state c.args.table.now c.args.parts.now (g.St.Store.holds c.args.store.now) (g.St.Store.signs c.args.store.now)) (state c.spend_top.new.table c.spend_top.new.parts (g.St.Store.holds c.spend_top.new.store) (g.St.Store.signs c.spend_top.new.store)) c.requires.emitter.apart c.spend_top.ensures.serves.leaves) c.requires.stands.1)

pub returns-clause-ok : goal.returns-clause-ok
returns-clause-ok g c =
    let some = c.requires.some in
    let len = c.len-at.ensures in
    let top : length c.args.parts.now.streams ≡ c.len-at.result - 1 + 1 = omega (arith, some, len) in
    let deep : c.level-level.result < 16 = let placed = c.level-level.ensures.placed.deep in let not = c.if-level-eq16.false in omega (arith, placed, not) in
    let whole = c.in_ok-spend_top.ensures.whole c.if-branch.false in
    ok_both c.hand_on.result
    (λ came popped. (
      popped.0,
      λ rows stacked.
          let both = came rows c.level-level.result (whole.1 rows stacked) in
          advances_popped c.args.shape.now (c.len-at.result - 1) rows (state c.args.table.now c.args.parts.now (g.St.Store.holds c.args.store.now) (g.St.Store.signs c.args.store.now)) (state c.hand_on.new.table c.hand_on.new.parts (g.St.Store.holds c.hand_on.new.store) (g.St.Store.signs c.hand_on.new.store)) top (g.E.Emit.took c.args.emit.now (g.St.Store.holds c.args.store.now)) (g.E.Emit.took c.args.emit.now (g.St.Store.holds c.spend_top.new.store)) (g.E.Emit.took c.hand_on.new.emit (g.St.Store.holds c.hand_on.new.store)) (λ taken took. g.met.E.Emit.asks_own c.args.emit.now (g.St.Store.holds c.args.store.now) (g.St.Store.holds c.spend_top.new.store) taken (own_same c.args.c.now.tracker _ (state c.args.table.now c.args.parts.now (g.St.Store.holds c.args.store.now) (g.St.Store.signs c.args.store.now)) (state c.spend_top.new.table c.spend_top.new.parts (g.St.Store.holds c.spend_top.new.store) (g.St.Store.signs c.spend_top.new.store)) c.requires.emitter.apart c.spend_top.ensures.serves.leaves) took) stacked
          (c.hand_on.ensures.serves.leaves.told ∙ c.spend_top.ensures.serves.leaves.others.told)
          (record { many = popped.1.many; levels = popped.1.levels ∙ ap (take (c.len-at.result - 1)) whole.0.1 })
          both.0 both.1 (length (rows (c.len-at.result - 1))) (let all = owed_less c.args.parts.now.levels (c.len-at.result - 1) c.level-level.result rows c.level-level.ensures.value deep in omega (arith, all))
          (counts_both (length (rows (c.len-at.result - 1))) 0 (length (rows (c.len-at.result - 1))) (g.E.Emit.creates c.args.emit.now) (g.E.Emit.creates c.args.emit.now) (g.E.Emit.creates c.hand_on.new.emit) (g.St.Store.signs c.args.store.now) (g.St.Store.signs c.spend_top.new.store) (g.St.Store.signs c.hand_on.new.store) (omega arith)
          (few_counts (length (rows (c.len-at.result - 1))) (g.E.Emit.creates c.args.emit.now) (g.St.Store.signs c.args.store.now) (g.St.Store.signs c.spend_top.new.store) (few_counted rows (over c.args.parts.now (g.St.Store.holds c.args.store.now) (g.St.Store.signs c.args.store.now)) (c.len-at.result - 1) (g.St.Store.signs c.args.store.now) (g.St.Store.signs c.spend_top.new.store) (omega (arith, top)) stacked.shows c.spend_top.ensures.made)) c.hand_on.ensures.made),
    ))
    c.hand_on.ensures.ok c.hand_on.ensures.popped

pub returns-clause-err : goal.returns-clause-err
returns-clause-err g c =
    let some = c.requires.some in
    let len = c.len-at.ensures in
    let top : length c.args.parts.now.streams ≡ c.len-at.result - 1 + 1 = omega (arith, some, len) in
    let whole = c.in_ok-spend_top.ensures.whole c.if-branch.false in
    on_err c.hand_on.result
    (λ front rows stacked. front_popped c.args.shape.now (c.len-at.result - 1) rows (state c.args.table.now c.args.parts.now (g.St.Store.holds c.args.store.now) (g.St.Store.signs c.args.store.now)) (state c.hand_on.new.table c.hand_on.new.parts (g.St.Store.holds c.hand_on.new.store) (g.St.Store.signs c.hand_on.new.store)) top (g.E.Emit.took c.args.emit.now (g.St.Store.holds c.args.store.now)) (g.E.Emit.took c.args.emit.now (g.St.Store.holds c.spend_top.new.store)) (g.E.Emit.took c.hand_on.new.emit (g.St.Store.holds c.hand_on.new.store)) (λ taken took. g.met.E.Emit.asks_own c.args.emit.now (g.St.Store.holds c.args.store.now) (g.St.Store.holds c.spend_top.new.store) taken (own_same c.args.c.now.tracker _ (state c.args.table.now c.args.parts.now (g.St.Store.holds c.args.store.now) (g.St.Store.signs c.args.store.now)) (state c.spend_top.new.table c.spend_top.new.parts (g.St.Store.holds c.spend_top.new.store) (g.St.Store.signs c.spend_top.new.store)) c.requires.emitter.apart c.spend_top.ensures.serves.leaves) took) (front rows c.level-level.result (whole.1 rows stacked)))
    c.hand_on.ensures.err

pub returns-clause-less : goal.returns-clause-less
returns-clause-less g c =
    let whole = c.in_ok-spend_top.ensures.whole c.if-branch.false in
    on_ok c.hand_on.result (λ popped. less_popped c.args.parts.now.levels c.hand_on.new.parts.levels (c.len-at.result - 1) c.level-level.result c.level-level.ensures.value (popped.1.levels ∙ ap (take (c.len-at.result - 1)) whole.0.1)) c.hand_on.ensures.popped

pub returns-clause-serves : goal.returns-clause-serves
returns-clause-serves g c = serves_then _ _ _ _ _ _ _ _ _ (serves_own _ _ _ _ _ _ _ (g.met.E.Emit.slots_own c.args.emit.now (g.St.Store.holds c.args.store.now) (g.St.Store.holds c.spend_top.new.store) (own_same c.args.c.now.tracker _ (state c.args.table.now c.args.parts.now (g.St.Store.holds c.args.store.now) (g.St.Store.signs c.args.store.now)) (state c.spend_top.new.table c.spend_top.new.parts (g.St.Store.holds c.spend_top.new.store) (g.St.Store.signs c.spend_top.new.store)) c.requires.emitter.apart c.spend_top.ensures.serves.leaves)) c.spend_top.ensures.serves) c.hand_on.ensures.serves

pub returns-clause-emitter : goal.returns-clause-emitter
returns-clause-emitter g c =
    stands_then _ _ _ _ _ _ _ _ _ _ _ _ _ _ (stands_own _ _ _ _ _ c.args.c.now.tracker (state c.args.table.now c.args.parts.now (g.St.Store.holds c.args.store.now) (g.St.Store.signs c.args.store.now)) (state c.spend_top.new.table c.spend_top.new.parts (g.St.Store.holds c.spend_top.new.store) (g.St.Store.signs c.spend_top.new.store)) c.requires.emitter c.spend_top.ensures.serves.leaves (λ taken took. g.met.E.Emit.asks_own c.args.emit.now (g.St.Store.holds c.args.store.now) (g.St.Store.holds c.spend_top.new.store) taken (own_same c.args.c.now.tracker _ (state c.args.table.now c.args.parts.now (g.St.Store.holds c.args.store.now) (g.St.Store.signs c.args.store.now)) (state c.spend_top.new.table c.spend_top.new.parts (g.St.Store.holds c.spend_top.new.store) (g.St.Store.signs c.spend_top.new.store)) c.requires.emitter.apart c.spend_top.ensures.serves.leaves) took)) c.hand_on.ensures.emitter

pub returns-clause-cause : goal.returns-clause-cause
returns-clause-cause g c = came_later c.hand_on.result _ _ _ _ _ _ (omega arith) c.spend_top.ensures.serves.leaves.grows c.hand_on.ensures.cause

pub returns-then-level-eq16-clause-first : goal.returns-then-level-eq16-clause-first
returns-then-level-eq16-clause-first g c =
    let last : slice_get c.args.parts.now.levels (c.len-at.result - 1) ≡ Some 16 = c.level-level.ensures.value ∙ ap Some c.if-level-eq16.true in
    on_ok c.leaf.result (λ popped shallow. absurd (not_last c.args.parts.now.levels (c.len-at.result - 1) shallow last)) c.leaf.ensures.popped

pub returns-then-branch-clause-first : goal.returns-then-branch-clause-first
returns-then-branch-clause-first g c = λ shallow.
    gone_divided c.spend_top.new.parts.levels (state c.spend_top.new.table c.spend_top.new.parts (g.St.Store.holds c.spend_top.new.store) (g.St.Store.signs c.spend_top.new.store)) (g.St.Store.signs c.args.store.now).trail (g.St.Store.signs c.spend_top.new.store).trail (subst (λ (d : Bool). EnteredEvents (HasBegun d (state c.spend_top.new.table c.spend_top.new.parts (g.St.Store.holds c.spend_top.new.store) (g.St.Store.signs c.spend_top.new.store))) (g.St.Store.signs c.args.store.now).trail (g.St.Store.signs c.spend_top.new.store).trail) c.if-branch.true c.in_ok-spend_top.ensures.first)

pub returns-clause-first : goal.returns-clause-first
returns-clause-first g c =
    let whole = c.in_ok-spend_top.ensures.whole c.if-branch.false in
    ok_both c.hand_on.result
    (λ first popped shallow.
    gone_handed (state c.spend_top.new.table c.spend_top.new.parts (g.St.Store.holds c.spend_top.new.store) (g.St.Store.signs c.spend_top.new.store)) c.args.parts.now.levels c.hand_on.new.parts.levels (c.len-at.result - 1) (g.St.Store.signs c.args.store.now).trail (g.St.Store.signs c.spend_top.new.store).trail (g.St.Store.signs c.hand_on.new.store).trail
    (popped.1.levels ∙ ap (take (c.len-at.result - 1)) whole.0.1) shallow
    (subst (λ (d : Bool). EnteredEvents (HasBegun d (state c.spend_top.new.table c.spend_top.new.parts (g.St.Store.holds c.spend_top.new.store) (g.St.Store.signs c.spend_top.new.store))) (g.St.Store.signs c.args.store.now).trail (g.St.Store.signs c.spend_top.new.store).trail) c.if-branch.false c.in_ok-spend_top.ensures.first)
    c.hand_on.ensures.serves.leaves.grows.trail first)
    c.hand_on.ensures.first c.hand_on.ensures.popped

pub returns-in_err-spend_top-clause-want : goal.returns-in_err-spend_top-clause-want
returns-in_err-spend_top-clause-want g c = λ none.
    let want : IsWant c.args.parts.now.page_blocks (slots_in (over c.args.parts.now (g.St.Store.holds c.args.store.now) (g.St.Store.signs c.args.store.now))) c.in_err-spend_top.field-0.0 = c.in_err-spend_top.ensures.want in
    search (rules, want)

pub returns-clause-want : goal.returns-clause-want
returns-clause-want g c = λ none. want_as c.hand_on.result c.spend_top.new.parts.page_blocks c.args.parts.now.page_blocks _ _ c.spend_top.ensures.serves.blocks c.spend_top.ensures.serves.slots.sum (c.hand_on.ensures.want none)

pub returns-then-level-eq16-clause-made : goal.returns-then-level-eq16-clause-made
returns-then-level-eq16-clause-made g c = λ rows stacked. counts_less 0 (owed c.args.parts.now.levels rows) (g.E.Emit.creates c.args.emit.now) (g.E.Emit.creates c.leaf.new.emit) (g.St.Store.signs c.args.store.now) (g.St.Store.signs c.leaf.new.store) (omega arith) c.leaf.ensures.made

pub returns-in_err-spend_top-clause-made : goal.returns-in_err-spend_top-clause-made
returns-in_err-spend_top-clause-made g c = λ rows stacked.
    let some = c.requires.some in
    let len = c.len-at.ensures in
    let top : length c.args.parts.now.streams ≡ c.len-at.result - 1 + 1 = omega (arith, some, len) in
    let deep : c.level-level.result < 16 = let placed = c.level-level.ensures.placed.deep in let not = c.if-level-eq16.false in omega (arith, placed, not) in
    few_counts (owed c.args.parts.now.levels rows) (g.E.Emit.creates c.args.emit.now) (g.St.Store.signs c.args.store.now) (g.St.Store.signs c.spend_top.new.store)
    (few_less (length (rows (c.len-at.result - 1))) (owed c.args.parts.now.levels rows) (g.St.Store.signs c.args.store.now) (g.St.Store.signs c.spend_top.new.store) (let all = owed_less c.args.parts.now.levels (c.len-at.result - 1) c.level-level.result rows c.level-level.ensures.value deep in omega (arith, all))
    (few_counted rows (over c.args.parts.now (g.St.Store.holds c.args.store.now) (g.St.Store.signs c.args.store.now)) (c.len-at.result - 1) (g.St.Store.signs c.args.store.now) (g.St.Store.signs c.spend_top.new.store) (omega (arith, top)) stacked.shows c.spend_top.ensures.made))

pub returns-then-branch-clause-made : goal.returns-then-branch-clause-made
returns-then-branch-clause-made g c = λ rows stacked.
    let some = c.requires.some in
    let len = c.len-at.ensures in
    let top : length c.args.parts.now.streams ≡ c.len-at.result - 1 + 1 = omega (arith, some, len) in
    let deep : c.level-level.result < 16 = let placed = c.level-level.ensures.placed.deep in let not = c.if-level-eq16.false in omega (arith, placed, not) in
    few_counts (owed c.args.parts.now.levels rows) (g.E.Emit.creates c.args.emit.now) (g.St.Store.signs c.args.store.now) (g.St.Store.signs c.spend_top.new.store)
    (few_less (length (rows (c.len-at.result - 1))) (owed c.args.parts.now.levels rows) (g.St.Store.signs c.args.store.now) (g.St.Store.signs c.spend_top.new.store) (let all = owed_less c.args.parts.now.levels (c.len-at.result - 1) c.level-level.result rows c.level-level.ensures.value deep in omega (arith, all))
    (few_counted rows (over c.args.parts.now (g.St.Store.holds c.args.store.now) (g.St.Store.signs c.args.store.now)) (c.len-at.result - 1) (g.St.Store.signs c.args.store.now) (g.St.Store.signs c.spend_top.new.store) (omega (arith, top)) stacked.shows c.spend_top.ensures.made))

pub returns-clause-made : goal.returns-clause-made
returns-clause-made g c = λ rows stacked.
    let some = c.requires.some in
    let len = c.len-at.ensures in
    let top : length c.args.parts.now.streams ≡ c.len-at.result - 1 + 1 = omega (arith, some, len) in
    let deep : c.level-level.result < 16 = let placed = c.level-level.ensures.placed.deep in let not = c.if-level-eq16.false in omega (arith, placed, not) in
    counts_both (owed c.args.parts.now.levels rows) 0 (owed c.args.parts.now.levels rows) (g.E.Emit.creates c.args.emit.now) (g.E.Emit.creates c.args.emit.now) (g.E.Emit.creates c.hand_on.new.emit) (g.St.Store.signs c.args.store.now) (g.St.Store.signs c.spend_top.new.store) (g.St.Store.signs c.hand_on.new.store) (omega arith)
    (few_counts (owed c.args.parts.now.levels rows) (g.E.Emit.creates c.args.emit.now) (g.St.Store.signs c.args.store.now) (g.St.Store.signs c.spend_top.new.store)
    (few_less (length (rows (c.len-at.result - 1))) (owed c.args.parts.now.levels rows) (g.St.Store.signs c.args.store.now) (g.St.Store.signs c.spend_top.new.store) (let all = owed_less c.args.parts.now.levels (c.len-at.result - 1) c.level-level.result rows c.level-level.ensures.value deep in omega (arith, all))
    (few_counted rows (over c.args.parts.now (g.St.Store.holds c.args.store.now) (g.St.Store.signs c.args.store.now)) (c.len-at.result - 1) (g.St.Store.signs c.args.store.now) (g.St.Store.signs c.spend_top.new.store) (omega (arith, top)) stacked.shows c.spend_top.ensures.made)))
    c.hand_on.ensures.made

pub returns-then-level-eq16-clause-enough : goal.returns-then-level-eq16-clause-enough
returns-then-level-eq16-clause-enough g c =
    let a : State = (state c.args.table.now c.args.parts.now (g.St.Store.holds c.args.store.now) (g.St.Store.signs c.args.store.now)) in
    let some = c.requires.some in
    let len = c.len-at.ensures in
    let top : length c.args.parts.now.streams ≡ c.len-at.result - 1 + 1 = omega (arith, some, len) in
    λ none. if_err c.leaf.result (λ e want rows stacked. subst (λ (n : ℕ). IsWantAmongOf 544 (shares n rows) a e) (sym top) (want rows stacked)) (c.leaf.ensures.enough none)

pub returns-in_err-spend_top-clause-enough : goal.returns-in_err-spend_top-clause-enough
returns-in_err-spend_top-clause-enough g c = λ none.
    let a : State = (state c.args.table.now c.args.parts.now (g.St.Store.holds c.args.store.now) (g.St.Store.signs c.args.store.now)) in
    let some = c.requires.some in
    let len = c.len-at.ensures in
    let top : length c.args.parts.now.streams ≡ c.len-at.result - 1 + 1 = omega (arith, some, len) in
    let same : c.from_residual.result ≡ Err (Pool c.in_err-spend_top.field-0.0) = search rules in
    rw same (λ rows stacked. subst (λ (n : ℕ). IsWantAmongOf 544 (shares n rows) a (Pool c.in_err-spend_top.field-0.0)) (sym top) (c.in_err-spend_top.ensures.enough rows stacked))

pub returns-clause-enough : goal.returns-clause-enough
returns-clause-enough g c =
    let a : State = (state c.args.table.now c.args.parts.now (g.St.Store.holds c.args.store.now) (g.St.Store.signs c.args.store.now)) in
    λ none. if_err c.hand_on.result (λ e want rows stacked long. want (slots_among 544 (shares (length c.args.parts.now.streams) rows) a) (slots_in (streams_of a))) (c.hand_on.ensures.enough none)
