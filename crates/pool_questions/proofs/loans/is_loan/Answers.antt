use Rattle.std.proofs.Common.{ℕ, subst, refl}
use Rattle.pool_model.specs.Owning.{IsClientOf}
use Rattle.pin_core.specs.StateOf.{state_of}
use Rattle.pool_questions.proofs.loans.is_loan.Goals as goal

pub returns-then-is_client_of-clause-own : goal.returns-then-is_client_of-clause-own
returns-then-is_client_of-clause-own g c = λ is. subst (λ (t : ℕ). IsClientOf (state_of c.args.pool.now) c.args.s t) c.client.ensures (c.if-is_client_of.ensures refl)
