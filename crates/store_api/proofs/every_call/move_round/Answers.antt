use Rattle.std.proofs.Common.{ap, ◌∙◌}
use Rattle.store_api.specs.Tokens.{LoanToken}
use Rattle.store_api.specs.Changes.{after_free}
use Rattle.store_api.proofs.Handed.{freed_alike}
use Rattle.store_api.proofs.every_call.move_round.Goals as goal

pub returns-in-Ok-clause-freed : goal.returns-in-Ok-clause-freed
returns-in-Ok-clause-freed g c =
    freed_alike _ (g.St.Store.holds c.move_buffer.new.self) _ _ _ c.requires.other c.requires.unused c.in-Ok.ensures.ok
    (c.free.ensures.value ∙ ap (λ (l : LoanToken). after_free l.number (g.St.Store.holds c.move_buffer.new.self)) c.in-Ok.ensures.moved)
