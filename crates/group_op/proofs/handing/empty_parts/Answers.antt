use Rattle.std.proofs.Common.{rules, ◌≡◌, Err, ◌∙◌, ◌++◌, ℕ, List, Option, length, subst, arith}
use Rattle.store_api.specs.Emitters.{CameOf}
use Rattle.group_op.specs.Causes.{IsWantOf}
use Rattle.group_op.specs.Emission.{EmittedFront}
use Rattle.group_op.specs.Finishing.{Stacked, said_down}
use Rattle.tuple_stream.specs.Families.{slots_in}
use Rattle.tuple_stream.specs.FamilyCalls.{shares}
use Rattle.partition_stack.specs.Stack.{over}
use Rattle.group_op.specs.Held.{State, state}
use Rattle.group_op.proofs.Advancing.{advances_all, advances_few, advances_front, advances_made, advances_none, advances_then}
use Rattle.partition_stack.proofs.Emitters.{beside_stands, came_behind, stands_none, stands_then}
use Rattle.group_op.proofs.Besides.{serves_more, serves_none}
use Rattle.group_op.proofs.Begun.{gone_all, gone_more, gone_none}
use Rattle.group_op.proofs.Wants.{among_more_of, among_since}
use Rattle.group_op.proofs.handing.empty_parts.Goals as goal

pub down-init : goal.down-init
down-init g c =
    record {
      between = c.requires.between;
      serves = serves_none c.args.c.now.tracker _ _ c.args.shape.now (state c.args.table.now c.args.parts.now (g.St.Store.holds c.args.store.now) (g.St.Store.signs c.args.store.now)) c.requires.held c.requires.entries;
      stands = stands_none _ _ _ _ _ c.requires.emitter.lives;
      first = λ shallow. gone_none c.args.parts.now.levels (g.St.Store.signs c.args.store.now).trail shallow;
      rows = λ rows stacked. advances_none c.args.shape.now (g.E.Emit.took c.args.emit.now (g.St.Store.holds c.args.store.now)) rows (state c.args.table.now c.args.parts.now (g.St.Store.holds c.args.store.now) (g.St.Store.signs c.args.store.now)) stacked;
    }

pub advance-requires-clause-held : goal.advance-requires-clause-held
advance-requires-clause-held g c = c.down.invariant.serves.held

pub advance-requires-clause-entries : goal.advance-requires-clause-entries
advance-requires-clause-entries g c = c.down.invariant.serves.entries

pub advance-requires-clause-between : goal.advance-requires-clause-between
advance-requires-clause-between g c = c.down.invariant.between

pub advance-requires-clause-emitter : goal.advance-requires-clause-emitter
advance-requires-clause-emitter g c = beside_stands c.args.c.now.tracker _ _ _ _ _ _ _ _ _ _ c.requires.emitter c.down.invariant.stands

pub advance-requires-clause-admits : goal.advance-requires-clause-admits
advance-requires-clause-admits g c = λ row is kinds. (c.down.invariant.stands.admits_same row).0 (c.requires.admits row is kinds)

pub advance-requires-clause-stands : goal.advance-requires-clause-stands
advance-requires-clause-stands g c =
    let more = c.down.invariant.stands.took c.requires.stands.0 c.requires.stands.1 in
    (c.requires.stands.0 ++ more.0, more.1)

pub down-smaller : goal.down-smaller
down-smaller g c = c.in_ok-advance.ensures.less

pub down-preserved : goal.down-preserved
down-preserved g c =
    let was = c.down.invariant in
    record {
      between = c.in_ok-advance.ensures.ok.0;
      serves = serves_more c.args.c.now.tracker _ _ _ _ _ c.args.shape.now (state c.args.table.now c.args.parts.now (g.St.Store.holds c.args.store.now) (g.St.Store.signs c.args.store.now)) (state c.down.table c.down.parts (g.St.Store.holds c.down.store) (g.St.Store.signs c.down.store)) (state c.advance.new.table c.advance.new.parts (g.St.Store.holds c.advance.new.store) (g.St.Store.signs c.advance.new.store)) was.stands.client_same was.serves c.advance.ensures.serves;
      stands = stands_then _ _ _ _ _ _ _ _ _ _ _ _ _ _ was.stands c.advance.ensures.emitter;
      first = λ shallow.
          gone_more c.down.parts.levels c.advance.new.parts.levels (g.St.Store.signs c.args.store.now).trail (g.St.Store.signs c.down.store).trail (g.St.Store.signs c.advance.new.store).trail
          (was.first shallow) c.advance.ensures.serves.leaves.grows.trail c.in_ok-advance.ensures.first;
      rows = λ rows stacked.
          let first = was.rows rows stacked in
          advances_then c.args.shape.now (g.E.Emit.took c.args.emit.now (g.St.Store.holds c.args.store.now)) (g.E.Emit.took c.down.emit (g.St.Store.holds c.down.store)) (g.E.Emit.took c.advance.new.emit (g.St.Store.holds c.advance.new.store)) rows (state c.args.table.now c.args.parts.now (g.St.Store.holds c.args.store.now) (g.St.Store.signs c.args.store.now)) (state c.down.table c.down.parts (g.St.Store.holds c.down.store) (g.St.Store.signs c.down.store)) (state c.advance.new.table c.advance.new.parts (g.St.Store.holds c.advance.new.store) (g.St.Store.signs c.advance.new.store)) first (c.in_ok-advance.ensures.ok.1 first.left first.stacked);
    }

pub returns-in_err-advance-clause-err : goal.returns-in_err-advance-clause-err
returns-in_err-advance-clause-err g c =
    let front : (rows : ℕ → List (List ℕ)) → Stacked c.args.shape.now rows (state c.args.table.now c.args.parts.now (g.St.Store.holds c.args.store.now) (g.St.Store.signs c.args.store.now)) → EmittedFront c.args.shape.now (g.E.Emit.took c.args.emit.now (g.St.Store.holds c.args.store.now)) (g.E.Emit.took c.advance.new.emit (g.St.Store.holds c.advance.new.store)) (said_down c.args.shape.now (length c.args.parts.now.streams) rows) =
    λ rows stacked. (let first = c.down.invariant.rows rows stacked in advances_front c.args.shape.now (g.E.Emit.took c.args.emit.now (g.St.Store.holds c.args.store.now)) (g.E.Emit.took c.down.emit (g.St.Store.holds c.down.store)) (g.E.Emit.took c.advance.new.emit (g.St.Store.holds c.advance.new.store)) rows (state c.args.table.now c.args.parts.now (g.St.Store.holds c.args.store.now) (g.St.Store.signs c.args.store.now)) (state c.down.table c.down.parts (g.St.Store.holds c.down.store) (g.St.Store.signs c.down.store)) (state c.advance.new.table c.advance.new.parts (g.St.Store.holds c.advance.new.store) (g.St.Store.signs c.advance.new.store)) first (c.in_err-advance.ensures.err first.left first.stacked)) in
    search (rules, front)

pub returns-in_err-advance-clause-serves : goal.returns-in_err-advance-clause-serves
returns-in_err-advance-clause-serves g c =
    let was = c.down.invariant in
    serves_more c.args.c.now.tracker _ _ _ _ _ c.args.shape.now (state c.args.table.now c.args.parts.now (g.St.Store.holds c.args.store.now) (g.St.Store.signs c.args.store.now)) (state c.down.table c.down.parts (g.St.Store.holds c.down.store) (g.St.Store.signs c.down.store)) (state c.advance.new.table c.advance.new.parts (g.St.Store.holds c.advance.new.store) (g.St.Store.signs c.advance.new.store)) was.stands.client_same was.serves c.advance.ensures.serves

pub returns-in_err-advance-clause-emitter : goal.returns-in_err-advance-clause-emitter
returns-in_err-advance-clause-emitter g c = stands_then _ _ _ _ _ _ _ _ _ _ _ _ _ _ c.down.invariant.stands c.advance.ensures.emitter

pub returns-in_err-advance-clause-cause : goal.returns-in_err-advance-clause-cause
returns-in_err-advance-clause-cause g c =
    let came : CameOf (g.E.Emit.faults c.args.emit.now) (g.E.Emit.faults c.advance.new.emit) (g.St.Store.signs c.args.store.now) (g.St.Store.signs c.advance.new.store) c.in_err-advance.field-0.0 =
    came_behind _ _ _ _ _ _ _ c.down.invariant.stands.never_falls c.down.invariant.serves.leaves.grows c.in_err-advance.ensures.cause in
    search (rules, came)

pub returns-clause-ok : goal.returns-clause-ok
returns-clause-ok g c =
    λ rows stacked.
    let end = c.down-test.false in
    let len = c.len.ensures in
    advances_all c.args.shape.now (g.E.Emit.took c.args.emit.now (g.St.Store.holds c.args.store.now)) (g.E.Emit.took c.down.emit (g.St.Store.holds c.down.store)) (g.E.Emit.took c.down.emit (g.St.Store.holds c.down.store)) rows (state c.args.table.now c.args.parts.now (g.St.Store.holds c.args.store.now) (g.St.Store.signs c.args.store.now)) (state c.down.table c.down.parts (g.St.Store.holds c.down.store) (g.St.Store.signs c.down.store)) (state c.down.table c.down.parts (g.St.Store.holds c.down.store) (g.St.Store.signs c.down.store)) (c.down.invariant.rows rows stacked) (omega (arith, end, len))

pub returns-clause-serves : goal.returns-clause-serves
returns-clause-serves g c = c.down.invariant.serves

pub returns-clause-emitter : goal.returns-clause-emitter
returns-clause-emitter g c = c.down.invariant.stands

pub returns-clause-first : goal.returns-clause-first
returns-clause-first g c = λ shallow. gone_all c.down.parts.levels (over c.down.parts (g.St.Store.holds c.down.store) (g.St.Store.signs c.down.store)) (g.St.Store.signs c.args.store.now).trail (g.St.Store.signs c.down.store).trail c.down.invariant.between.closed (c.down.invariant.first shallow)

pub returns-in_err-advance-clause-want : goal.returns-in_err-advance-clause-want
returns-in_err-advance-clause-want g c = λ none.
    let was = c.down.invariant in
    let want : IsWantOf c.args.parts.now.page_blocks (slots_in (over c.args.parts.now (g.St.Store.holds c.args.store.now) (g.St.Store.signs c.args.store.now))) c.in_err-advance.field-0.0 =
    subst (λ (n : ℕ). IsWantOf n (slots_in (over c.args.parts.now (g.St.Store.holds c.args.store.now) (g.St.Store.signs c.args.store.now))) c.in_err-advance.field-0.0) was.serves.blocks
    (subst (λ (o : Option ℕ). IsWantOf c.down.parts.page_blocks o c.in_err-advance.field-0.0) (was.serves.slots.alone none) (c.in_err-advance.ensures.want (was.stands.client_same ∙ none))) in
    search (rules, want)

pub returns-in_err-advance-clause-made : goal.returns-in_err-advance-clause-made
returns-in_err-advance-clause-made g c = λ rows stacked.
    let first = c.down.invariant.rows rows stacked in
    advances_made c.args.shape.now (g.E.Emit.took c.args.emit.now (g.St.Store.holds c.args.store.now)) (g.E.Emit.took c.down.emit (g.St.Store.holds c.down.store)) (g.E.Emit.took c.advance.new.emit (g.St.Store.holds c.advance.new.store)) rows (state c.args.table.now c.args.parts.now (g.St.Store.holds c.args.store.now) (g.St.Store.signs c.args.store.now)) (state c.down.table c.down.parts (g.St.Store.holds c.down.store) (g.St.Store.signs c.down.store)) (state c.advance.new.table c.advance.new.parts (g.St.Store.holds c.advance.new.store) (g.St.Store.signs c.advance.new.store)) first (g.E.Emit.creates c.advance.new.emit) (c.advance.ensures.made first.left first.stacked)

pub returns-clause-made : goal.returns-clause-made
returns-clause-made g c = λ rows stacked.
    advances_few c.args.shape.now (g.E.Emit.took c.args.emit.now (g.St.Store.holds c.args.store.now)) (g.E.Emit.took c.down.emit (g.St.Store.holds c.down.store)) (g.E.Emit.took c.down.emit (g.St.Store.holds c.down.store)) rows (state c.args.table.now c.args.parts.now (g.St.Store.holds c.args.store.now) (g.St.Store.signs c.args.store.now)) (state c.down.table c.down.parts (g.St.Store.holds c.down.store) (g.St.Store.signs c.down.store)) (state c.down.table c.down.parts (g.St.Store.holds c.down.store) (g.St.Store.signs c.down.store)) (c.down.invariant.rows rows stacked)

pub returns-in_err-advance-clause-enough : goal.returns-in_err-advance-clause-enough
returns-in_err-advance-clause-enough g c = λ none.
    let a : State = (state c.args.table.now c.args.parts.now (g.St.Store.holds c.args.store.now) (g.St.Store.signs c.args.store.now)) in
    let b : State = (state c.down.table c.down.parts (g.St.Store.holds c.down.store) (g.St.Store.signs c.down.store)) in
    let was = c.down.invariant in
    let same : c.from_residual.result ≡ Err c.in_err-advance.field-0.0 = search rules in
    rw same
    (λ rows stacked.
    let first = was.rows rows stacked in
    among_since 544 (shares (length c.args.parts.now.streams) rows) a b c.in_err-advance.field-0.0 was.serves.blocks was.serves.leaves.block_len (was.serves.slots.alone none)
    (among_more_of 544 (shares (length c.down.parts.streams) first.left) (shares (length c.args.parts.now.streams) rows) b c.in_err-advance.field-0.0 first.no_more
    (c.in_err-advance.ensures.enough (was.stands.client_same ∙ none) first.left first.stacked)))
