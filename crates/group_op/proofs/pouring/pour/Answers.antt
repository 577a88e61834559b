use Rattle.std.proofs.Common.{◌∙◌, [], ap, sym}
use Rattle.partition_stack.proofs.Results.{on_ok}
use Rattle.group_op.specs.Stored.{partial_kinds}
use Rattle.group_op.proofs.Inlets.{left_store}
use Rattle.group_op.proofs.pouring.pour.Goals as goal

pub finish-result-requires-clause-admits : goal.finish-result-requires-clause-admits
finish-result-requires-clause-admits g c = λ row is kinds. kinds ∙ sym (ap partial_kinds c.requires.shape)

pub returns-clause-ok : goal.returns-clause-ok
returns-clause-ok g c = on_ok c.finish-result.result (λ emitted fed holds told.
    let all = emitted fed holds told in
    record { rows = all.rows; say = all.say; poured = all.came [] c.requires.none }) c.finish-result.ensures.ok

pub returns-clause-any : goal.returns-clause-any
returns-clause-any g c = c.finish-result.ensures.emitter.took [] c.requires.none

pub returns-clause-leaves : goal.returns-clause-leaves
returns-clause-leaves g c = left_store c.args.op.now c.finish-result.new.self _ _ _ _ c.finish-result.ensures.op c.finish-result.ensures.leaves

pub returns-clause-into : goal.returns-clause-into
returns-clause-into g c = (c.finish-result.ensures.emitter.took [] c.requires.none).1.op_named ∙ sym c.requires.none.op_named

pub returns-clause-beside : goal.returns-clause-beside
returns-clause-beside g c = (c.finish-result.ensures.emitter.took [] c.requires.none).1.store_named ∙ sym c.requires.none.store_named
