use Rattle.std.proofs.Common.{rules, ◌≡◌, ℕ, suc, [], ◌∷◌, ◌++◌, ◌≤◌, length, drop, ap, sym, ◌∙◌, subst, List}
use Rattle.std.specs.Prelude.{slice_index_or}
use Rattle.std.proofs.lemmas.List.{take_all}
use Rattle.row_codec.specs.declared.values.Value.{Value}
use Rattle.store_api.specs.Emitters.{CameOf, HasClient}
use Rattle.group_rows.specs.Partials.{Partial}
use Rattle.group_op.specs.Emission.{Emitted, EmittedFront, Says}
use Rattle.group_op.specs.declared.lowest.Entry.{Entry}
use Rattle.group_op.specs.Keepings.{kept_in}
use Rattle.group_op.specs.Stored.{partial_at}
use Rattle.partition_stack.proofs.Slots.{keep_after, keep_none}
use Rattle.partition_stack.proofs.Emitters.{came_behind, stood_more, stood_none}
use Rattle.group_op.proofs.Emitting.{emitted_behind, emitted_none, front_behind, front_none}
use Rattle.group_op.proofs.KeptList.{kept_more, kept_split, kept_there}
use Rattle.group_op.proofs.scanning.hand_on.Goals as goal

pub returns-in_default-clause-err : goal.returns-in_default-clause-err
returns-in_default-clause-err g c = front_none _ _ _

pub returns-in_default-clause-stood : goal.returns-in_default-clause-stood
returns-in_default-clause-stood g c = stood_none _ _ _ _ _ c.requires.client

pub loop-entry-init : goal.loop-entry-init
loop-entry-init g c =
    record {
      emitted = emitted_none _ _;
      stood = stood_none _ _ _ _ _ c.requires.client;
      slots = keep_none _ _ _;
    }

pub hand_row-requires-clause-admits : goal.hand_row-requires-clause-admits
hand_row-requires-clause-admits g c =
    let row_so : c.deref.result.now ≡ (slice_index_or c.args.entries.now c.loop-entry.entry-index c.entry-item.result).row.items = c.deref.ensures.value ∙ ap (λ (e : Entry). e.row.items) c.entry-item.is in
    λ values says. (c.loop-entry.invariant.stood.admits_same values).0
    (kept_there c.args.shape.now (λ (p : Partial). (row : List Value) → Says c.args.shape.now p row → g.E.Emit.admits c.args.emit.now row)
    c.args.entries.now c.loop-entry.entry-index c.entry-item.result c.loop-entry-test.true c.requires.admits values (subst (λ (bytes : List ℕ). Says c.args.shape.now (partial_at c.args.shape.now bytes) values) row_so says))

pub hand_row-requires-clause-client : goal.hand_row-requires-clause-client
hand_row-requires-clause-client g c =
    subst (λ o. HasClient o (g.St.Store.holds c.loop-entry.store)) (sym c.loop-entry.invariant.stood.client_same) c.loop-entry.invariant.stood.lives

pub hand_row-requires-clause-stands : goal.hand_row-requires-clause-stands
hand_row-requires-clause-stands g c =
    let emitted = c.loop-entry.invariant.emitted in
    (c.requires.stands.0 ++ emitted.rows, emitted.came c.requires.stands.0 c.requires.stands.1)

pub returns-in_err-hand_row-clause-err : goal.returns-in_err-hand_row-clause-err
returns-in_err-hand_row-clause-err g c =
    let row_so : c.deref.result.now ≡ (slice_index_or c.args.entries.now c.loop-entry.entry-index c.entry-item.result).row.items = c.deref.ensures.value ∙ ap (λ (e : Entry). e.row.items) c.entry-item.is in
    let shape = c.args.shape.now in
    let i = c.loop-entry.entry-index in
    let one = subst (λ (bytes : List ℕ). EmittedFront shape (g.E.Emit.took c.loop-entry.emit (g.St.Store.holds c.loop-entry.store)) (g.E.Emit.took c.hand_row.new.emit (g.St.Store.holds c.hand_row.new.store)) (partial_at shape bytes ∷ [])) row_so c.in_err-hand_row.ensures.err in
    let front : EmittedFront shape (g.E.Emit.took c.args.emit.now (g.St.Store.holds c.args.store.now)) (g.E.Emit.took c.hand_row.new.emit (g.St.Store.holds c.hand_row.new.store)) (kept_in shape c.args.entries.now) =
    front_behind shape _ (g.E.Emit.took c.loop-entry.emit (g.St.Store.holds c.loop-entry.store)) _ _ c.loop-entry.invariant.emitted (partial_at shape (slice_index_or c.args.entries.now i c.entry-item.result).row.items ∷ []) (kept_in shape (drop (suc i) c.args.entries.now)) _
    (kept_split shape c.args.entries.now i c.entry-item.result c.loop-entry-test.true) one in
    search (rules, front)

pub returns-in_err-hand_row-clause-cause : goal.returns-in_err-hand_row-clause-cause
returns-in_err-hand_row-clause-cause g c =
    let stood = c.loop-entry.invariant.stood in
    let came : CameOf (g.E.Emit.faults c.args.emit.now) (g.E.Emit.faults c.hand_row.new.emit) (g.St.Store.signs c.args.store.now) (g.St.Store.signs c.hand_row.new.store) c.in_err-hand_row.field-0.0 =
    came_behind _ _ _ _ _ _ _ stood.never_falls stood.grows c.in_err-hand_row.ensures.cause in
    search (rules, came)

pub returns-in_err-hand_row-clause-stood : goal.returns-in_err-hand_row-clause-stood
returns-in_err-hand_row-clause-stood g c = stood_more _ _ _ _ _ _ _ _ _ _ _ _ _ _ _ c.loop-entry.invariant.stood c.hand_row.ensures.stood

pub loop-entry-preserved : goal.loop-entry-preserved
loop-entry-preserved g c =
    let row_so : c.deref.result.now ≡ (slice_index_or c.args.entries.now c.loop-entry.entry-index c.entry-item.result).row.items = c.deref.ensures.value ∙ ap (λ (e : Entry). e.row.items) c.entry-item.is in
    let shape = c.args.shape.now in
    let one = subst (λ (bytes : List ℕ). Emitted shape (g.E.Emit.took c.loop-entry.emit (g.St.Store.holds c.loop-entry.store)) (g.E.Emit.took c.hand_row.new.emit (g.St.Store.holds c.hand_row.new.store)) (partial_at shape bytes ∷ [])) row_so c.in_ok-hand_row.ensures.ok in
    record {
      emitted = subst (Emitted shape _ _) (sym (kept_more shape c.args.entries.now c.loop-entry.entry-index c.entry-item.result c.loop-entry-test.true))
          (emitted_behind _ _ _ _ _ c.loop-entry.invariant.emitted _ one);
      stood = stood_more _ _ _ _ _ _ _ _ _ _ _ _ _ _ _ c.loop-entry.invariant.stood c.hand_row.ensures.stood;
      slots = keep_after _ _ _ _ _ _ _ _ c.loop-entry.invariant.stood.client_same c.loop-entry.invariant.slots c.hand_row.ensures.slots;
    }

pub returns-clause-ok : goal.returns-clause-ok
returns-clause-ok g c =
    let end : length c.args.entries.now ≤ c.loop-entry.entry-index = c.loop-entry-test.false in
    subst (λ es. Emitted c.args.shape.now (g.E.Emit.took c.args.emit.now (g.St.Store.holds c.args.store.now)) (g.E.Emit.took c.loop-entry.emit (g.St.Store.holds c.loop-entry.store)) (kept_in c.args.shape.now es)) (take_all c.loop-entry.entry-index c.args.entries.now end) c.loop-entry.invariant.emitted

pub returns-clause-stood : goal.returns-clause-stood
returns-clause-stood g c = c.loop-entry.invariant.stood

pub returns-in_default-clause-slots : goal.returns-in_default-clause-slots
returns-in_default-clause-slots g c = keep_none _ _ _

pub returns-in_err-hand_row-clause-slots : goal.returns-in_err-hand_row-clause-slots
returns-in_err-hand_row-clause-slots g c = keep_after _ _ _ _ _ _ _ _ c.loop-entry.invariant.stood.client_same c.loop-entry.invariant.slots c.hand_row.ensures.slots

pub returns-clause-slots : goal.returns-clause-slots
returns-clause-slots g c = c.loop-entry.invariant.slots
