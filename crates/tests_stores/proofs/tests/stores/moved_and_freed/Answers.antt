use Rattle.std.proofs.Common.{ap, ◌∙◌}
use Rattle.store_api.specs.Tokens.{LoanToken}
use Rattle.store_api.specs.Changes.{after_free}
use Rattle.store_api.proofs.Handed.{freed_alike}
use Rattle.tests_stores.proofs.tests.stores.moved_and_freed.Goals as goal

pub returns : goal.returns
returns g c = record {
  freed = freed_alike _ (g.St.Store.holds c.moved.new.store) _ _ _ c.requires.other c.requires.unused c.in_ok-loan.ensures.ok
      (c.free.ensures.value ∙ ap (λ (l : LoanToken). after_free l.number (g.St.Store.holds c.moved.new.store)) c.in_ok-loan.ensures.moved);
}
