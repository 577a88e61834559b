use Rattle.std.proofs.Common.{◌≡◌, sym, ◌∙◌, subst, List, []}
use Rattle.std.proofs.lemmas.List.Elements.{All-head}
use Rattle.bucket_table.specs.Tables.{row_of}
use Rattle.row_codec.specs.declared.values.Value.{Value}
use Rattle.group_rows.specs.Partials.{Partial}
use Rattle.group_op.specs.Emission.{Says}
use Rattle.group_op.specs.Stored.{partial_at, values_at}
use Rattle.group_op.proofs.Emitting.{emitted_one, front_none, front_one, says_read}
use Rattle.partition_stack.proofs.Slots.{keep_none}
use Rattle.partition_stack.proofs.Emitters.{stood_row}
use Rattle.partition_stack.proofs.Results.{on_err, on_ok}
use Rattle.group_op.proofs.ReadingBack.{values_so}
use Rattle.group_op.proofs.emission.emit_place.Goals as goal

pub returns-in_default-clause-err : goal.returns-in_default-clause-err
returns-in_default-clause-err g c = front_none _ _ _

pub row-requires-clause-admits : goal.row-requires-clause-admits
row-requires-clause-admits g c =
    let is : c.deref.result.now ≡ values_at c.args.shape.now (row_of c.args.place c.args.table.now.nodes) =
    c.deref.ensures.value ∙ c.in-Ok.ensures ∙ values_so c.args.shape.now c.args.kinds.now (row_of c.args.place c.args.table.now.nodes) c.requires.kinds in
    let says = subst (Says c.args.shape.now (partial_at c.args.shape.now (row_of c.args.place c.args.table.now.nodes))) (sym is) (says_read c.args.shape.now (row_of c.args.place c.args.table.now.nodes) c.requires.formed) in
    All-head (λ (p : Partial). (row : List Value) → Says c.args.shape.now p row → g.E.Emit.admits c.args.emit.now row) (partial_at c.args.shape.now (row_of c.args.place c.args.table.now.nodes)) [] c.requires.admits c.deref.result.now says

pub returns-clause-ok : goal.returns-clause-ok
returns-clause-ok g c =
    let is : c.deref.result.now ≡ values_at c.args.shape.now (row_of c.args.place c.args.table.now.nodes) =
    c.deref.ensures.value ∙ c.in-Ok.ensures ∙ values_so c.args.shape.now c.args.kinds.now (row_of c.args.place c.args.table.now.nodes) c.requires.kinds in
    let says = subst (Says c.args.shape.now (partial_at c.args.shape.now (row_of c.args.place c.args.table.now.nodes))) (sym is) (says_read c.args.shape.now (row_of c.args.place c.args.table.now.nodes) c.requires.formed) in
    on_ok c.row.result (emitted_one _ _ _ _ _ says) c.row.ensures.ok

pub returns-clause-err : goal.returns-clause-err
returns-clause-err g c =
    let is : c.deref.result.now ≡ values_at c.args.shape.now (row_of c.args.place c.args.table.now.nodes) =
    c.deref.ensures.value ∙ c.in-Ok.ensures ∙ values_so c.args.shape.now c.args.kinds.now (row_of c.args.place c.args.table.now.nodes) c.requires.kinds in
    let says = subst (Says c.args.shape.now (partial_at c.args.shape.now (row_of c.args.place c.args.table.now.nodes))) (sym is) (says_read c.args.shape.now (row_of c.args.place c.args.table.now.nodes) c.requires.formed) in
    on_err c.row.result (front_one _ _ _ _ _ says) c.row.ensures.err

pub returns-in_default-clause-slots : goal.returns-in_default-clause-slots
returns-in_default-clause-slots g c = keep_none _ _ _

pub returns-clause-slots : goal.returns-clause-slots
returns-clause-slots g c = record { sum = c.row.ensures.slots; alone = λ none. (c.row.ensures.others.alone none).rest.free_slots }

pub returns-clause-stood : goal.returns-clause-stood
returns-clause-stood g c = stood_row _ _ _ _ _ _ _ _ _ _ _ _ c.row.ensures.same c.row.ensures.client_lives c.row.ensures.never_falls c.row.ensures.others c.row.ensures.room c.row.ensures.grows
