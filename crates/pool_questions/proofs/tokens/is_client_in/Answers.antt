use Rattle.std.proofs.Common.{refl}
use Rattle.pin_core.specs.StateOf.{state_of}
use Rattle.pool_questions.proofs.CheckedClients.{client_as}
use Rattle.pool_questions.proofs.tokens.is_client_in.Goals as goal

pub returns : goal.returns
returns g c = λ is. client_as (state_of c.args.pool.now) _ _ c.args.s c.tracker.result refl c.tracker.ensures (c.is_client_of.ensures is)
