use Rattle.std.proofs.Common.{rules, suc, [], ◌∷◌, ◌++◌, ◌≤◌, length, drop, refl, sym, subst, List}
use Rattle.std.specs.Prelude.{slice_index_or}
use Rattle.std.proofs.lemmas.List.{take_all}
use Rattle.row_codec.specs.declared.values.Value.{Value}
use Rattle.store_api.specs.Emitters.{CameOf, HasClient}
use Rattle.bucket_table.specs.Tables.{row_of}
use Rattle.group_rows.specs.Partials.{Partial}
use Rattle.group_op.specs.Emission.{Emitted, EmittedFront, Says}
use Rattle.group_op.specs.InOrder.{said_at}
use Rattle.group_op.specs.Stored.{partial_at}
use Rattle.partition_stack.proofs.Slots.{keep_after, keep_none}
use Rattle.partition_stack.proofs.Emitters.{came_behind, stood_more, stood_none}
use Rattle.group_op.proofs.Emitting.{emitted_behind, emitted_none, front_behind, front_none}
use Rattle.group_op.proofs.Finding.{entry_row}
use Rattle.group_op.proofs.Saying.{all_one, none_inside, said_more, said_split, said_there}
use Rattle.group_op.proofs.emission.emit_places.Goals as goal

pub returns-in_default-clause-err : goal.returns-in_default-clause-err
returns-in_default-clause-err g c = front_none _ _ _

pub loop-place-init : goal.loop-place-init
loop-place-init g c =
    record {
      emitted = emitted_none _ _;
      still = λ none. refl;
      stood = stood_none _ _ _ _ _ c.requires.client;
      slots = keep_none _ _ _;
    }

pub emit_place-requires-clause-formed : goal.emit_place-requires-clause-formed
emit_place-requires-clause-formed g c =
    entry_row _ c.requires.entries.0 _ _ c.requires.entries.1 (c.requires.nodes c.loop-place.place-index 0 c.loop-place-test.true)

pub emit_place-requires-clause-admits : goal.emit_place-requires-clause-admits
emit_place-requires-clause-admits g c =
    all_one (λ (p : Partial). (row : List Value) → Says c.args.shape.now p row → g.E.Emit.admits c.loop-place.emit row) _
    (λ row says. (c.loop-place.invariant.stood.admits_same row).0
    (said_there c.args.shape.now c.args.table.now.nodes (λ (p : Partial). (row : List Value) → Says c.args.shape.now p row → g.E.Emit.admits c.args.emit.now row)
    c.args.places.now c.loop-place.place-index c.loop-place-test.true c.requires.admits row says))

pub emit_place-requires-clause-client : goal.emit_place-requires-clause-client
emit_place-requires-clause-client g c =
    subst (λ o. HasClient o (g.St.Store.holds c.loop-place.store)) (sym c.loop-place.invariant.stood.client_same) c.loop-place.invariant.stood.lives

pub emit_place-requires-clause-stands : goal.emit_place-requires-clause-stands
emit_place-requires-clause-stands g c =
    let emitted = c.loop-place.invariant.emitted in
    (c.requires.stands.0 ++ emitted.rows, emitted.came c.requires.stands.0 c.requires.stands.1)

pub returns-in_err-emit_place-clause-err : goal.returns-in_err-emit_place-clause-err
returns-in_err-emit_place-clause-err g c =
    let shape = c.args.shape.now in
    let nodes = c.args.table.now.nodes in
    let i = c.loop-place.place-index in
    let front : EmittedFront shape (g.E.Emit.took c.args.emit.now (g.St.Store.holds c.args.store.now)) (g.E.Emit.took c.emit_place.new.emit (g.St.Store.holds c.emit_place.new.store)) (said_at shape nodes c.args.places.now) =
    front_behind shape _ (g.E.Emit.took c.loop-place.emit (g.St.Store.holds c.loop-place.store)) _ _ c.loop-place.invariant.emitted (partial_at shape (row_of (slice_index_or c.args.places.now i 0) nodes) ∷ []) (said_at shape nodes (drop (suc i) c.args.places.now)) _
    (said_split shape nodes c.args.places.now i c.loop-place-test.true) c.in_err-emit_place.ensures.err in
    search (rules, front)

pub returns-in_err-emit_place-clause-cause : goal.returns-in_err-emit_place-clause-cause
returns-in_err-emit_place-clause-cause g c =
    let stood = c.loop-place.invariant.stood in
    let came : CameOf (g.E.Emit.faults c.args.emit.now) (g.E.Emit.faults c.emit_place.new.emit) (g.St.Store.signs c.args.store.now) (g.St.Store.signs c.emit_place.new.store) c.in_err-emit_place.field-0.0 =
    came_behind _ _ _ _ _ _ _ stood.never_falls stood.grows c.in_err-emit_place.ensures.cause in
    search (rules, came)

pub returns-in_err-emit_place-clause-stood : goal.returns-in_err-emit_place-clause-stood
returns-in_err-emit_place-clause-stood g c = stood_more _ _ _ _ _ _ _ _ _ _ _ _ _ _ _ c.loop-place.invariant.stood c.emit_place.ensures.stood

pub loop-place-preserved : goal.loop-place-preserved
loop-place-preserved g c =
    record {
      still = λ none. absurd (none_inside _ _ none c.loop-place-test.true);
      emitted = subst (Emitted c.args.shape.now _ _) (sym (said_more c.args.shape.now c.args.table.now.nodes c.args.places.now c.loop-place.place-index c.loop-place-test.true))
          (emitted_behind _ _ _ _ _ c.loop-place.invariant.emitted _ c.in_ok-emit_place.ensures.ok);
      stood = stood_more _ _ _ _ _ _ _ _ _ _ _ _ _ _ _ c.loop-place.invariant.stood c.emit_place.ensures.stood;
      slots = keep_after _ _ _ _ _ _ _ _ c.loop-place.invariant.stood.client_same c.loop-place.invariant.slots c.emit_place.ensures.slots;
    }

pub returns-clause-ok : goal.returns-clause-ok
returns-clause-ok g c =
    let end : length c.args.places.now ≤ c.loop-place.place-index = c.loop-place-test.false in
    subst (λ ps. Emitted c.args.shape.now (g.E.Emit.took c.args.emit.now (g.St.Store.holds c.args.store.now)) (g.E.Emit.took c.loop-place.emit (g.St.Store.holds c.loop-place.store)) (said_at c.args.shape.now c.args.table.now.nodes ps)) (take_all c.loop-place.place-index c.args.places.now end) c.loop-place.invariant.emitted

pub returns-clause-stood : goal.returns-clause-stood
returns-clause-stood g c = c.loop-place.invariant.stood

pub returns-in_err-emit_place-clause-still : goal.returns-in_err-emit_place-clause-still
returns-in_err-emit_place-clause-still g c = λ none. absurd (none_inside _ _ none c.loop-place-test.true)

pub returns-clause-still : goal.returns-clause-still
returns-clause-still g c = c.loop-place.invariant.still

pub returns-in_default-clause-slots : goal.returns-in_default-clause-slots
returns-in_default-clause-slots g c = keep_none _ _ _

pub returns-in_err-emit_place-clause-slots : goal.returns-in_err-emit_place-clause-slots
returns-in_err-emit_place-clause-slots g c = keep_after _ _ _ _ _ _ _ _ c.loop-place.invariant.stood.client_same c.loop-place.invariant.slots c.emit_place.ensures.slots

pub returns-clause-slots : goal.returns-clause-slots
returns-clause-slots g c = c.loop-place.invariant.slots
