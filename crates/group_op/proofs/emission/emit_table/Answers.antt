use Rattle.std.proofs.Common.{◌∙◌}
use Rattle.group_op.proofs.Emitting.{front_none}
use Rattle.group_op.proofs.Saying.{no_places}
use Rattle.group_op.proofs.emission.emit_table.Goals as goal

pub returns-in_default-clause-err : goal.returns-in_default-clause-err
returns-in_default-clause-err g c = λ distinct. front_none _ _ _

pub returns-clause-still : goal.returns-clause-still
returns-clause-still g c = λ none. c.emit_places.ensures.still (c.deref.ensures.value ∙ no_places c.args.table.now.nodes c.in-Ok.places.items none c.in-Ok.ensures.nodes)
