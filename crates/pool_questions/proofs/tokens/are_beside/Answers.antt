use Rattle.pin_core.specs.StateOf.{state_of}
use Rattle.pool_questions.proofs.CheckedClients.{client_as}
use Rattle.pool_questions.proofs.tokens.are_beside.Goals as goal

pub returns : goal.returns
returns g c = λ is. client_as (state_of c.args.pool.now) _ _ c.session.result c.tracker.result c.session.ensures c.tracker.ensures (c.is_client_of.ensures is)
