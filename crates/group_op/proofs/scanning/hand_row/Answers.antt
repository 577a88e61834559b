use Rattle.std.proofs.Common.{rules, ◌≡◌, ◌∙◌, sym, subst}
use Rattle.group_op.specs.Emission.{Says}
use Rattle.group_op.specs.Stored.{partial_at, values_at}
use Rattle.row_reading.specs.Reading as spelled
use Rattle.group_op.proofs.ReadingBack.{values_so}
use Rattle.group_op.proofs.Emitting.{emitted_one, front_none, front_one, says_read}
use Rattle.partition_stack.proofs.Slots.{keep_none}
use Rattle.partition_stack.proofs.Emitters.{stood_none, stood_row}
use Rattle.partition_stack.proofs.Results.{on_err, on_ok}
use Rattle.group_op.proofs.scanning.hand_row.Goals as goal

pub returns-in_default-clause-err : goal.returns-in_default-clause-err
returns-in_default-clause-err g c = front_none _ _ _

pub returns-in_default-clause-stood : goal.returns-in_default-clause-stood
returns-in_default-clause-stood g c = stood_none _ _ _ _ _ c.requires.client

pub row-requires-clause-admits : goal.row-requires-clause-admits
row-requires-clause-admits g c =
    let read : c.deref.result.now ≡ spelled.values_at c.args.kinds.now c.args.row.now = search rules in
    let is : c.deref.result.now ≡ values_at c.args.shape.now c.args.row.now = read ∙ values_so c.args.shape.now c.args.kinds.now c.args.row.now c.requires.kinds in
    let says = subst (Says c.args.shape.now (partial_at c.args.shape.now c.args.row.now)) (sym is) (says_read c.args.shape.now c.args.row.now c.requires.row) in
    c.requires.admits c.deref.result.now says

pub returns-clause-ok : goal.returns-clause-ok
returns-clause-ok g c =
    let read : c.deref.result.now ≡ spelled.values_at c.args.kinds.now c.args.row.now = search rules in
    let is : c.deref.result.now ≡ values_at c.args.shape.now c.args.row.now = read ∙ values_so c.args.shape.now c.args.kinds.now c.args.row.now c.requires.kinds in
    let says = subst (Says c.args.shape.now (partial_at c.args.shape.now c.args.row.now)) (sym is) (says_read c.args.shape.now c.args.row.now c.requires.row) in
    on_ok c.row.result (emitted_one _ _ _ _ _ says) c.row.ensures.ok

pub returns-clause-err : goal.returns-clause-err
returns-clause-err g c =
    let read : c.deref.result.now ≡ spelled.values_at c.args.kinds.now c.args.row.now = search rules in
    let is : c.deref.result.now ≡ values_at c.args.shape.now c.args.row.now = read ∙ values_so c.args.shape.now c.args.kinds.now c.args.row.now c.requires.kinds in
    let says = subst (Says c.args.shape.now (partial_at c.args.shape.now c.args.row.now)) (sym is) (says_read c.args.shape.now c.args.row.now c.requires.row) in
    on_err c.row.result (front_one _ _ _ _ _ says) c.row.ensures.err

pub returns-in_default-clause-slots : goal.returns-in_default-clause-slots
returns-in_default-clause-slots g c = keep_none _ _ _

pub returns-clause-slots : goal.returns-clause-slots
returns-clause-slots g c = record { sum = c.row.ensures.slots; alone = λ none. (c.row.ensures.others.alone none).rest.free_slots }

pub returns-clause-stood : goal.returns-clause-stood
returns-clause-stood g c = stood_row _ _ _ _ _ _ _ _ _ _ _ _ c.row.ensures.same c.row.ensures.client_lives c.row.ensures.never_falls c.row.ensures.others c.row.ensures.room c.row.ensures.grows
