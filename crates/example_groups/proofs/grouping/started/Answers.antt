use Rattle.std.proofs.Common.{IsSome, refl, sym, subst}
use Rattle.store_api.specs.Tokens.{ClientToken}
use Rattle.group_op.specs.Operator.{IsOperator, Operator}
use Rattle.example_groups.proofs.grouping.started.Goals as goal

pub fed_and_finished-having-requires-clause-op : goal.fed_and_finished-having-requires-clause-op
fed_and_finished-having-requires-clause-op g c =
    let h = g.St.Store.holds c.args.store.now in
    let signs = g.St.Store.signs c.args.store.now in
    subst (λ (op : Operator). IsOperator op h signs) (sym c.in-Ok.ensures.ok) (c.law_starts.ensures.law c.args.c 1 c.args.shape.now h signs c.requires.shape refl c.requires.start).op

pub returns-in-Ok-clause-client : goal.returns-in-Ok-clause-client
returns-in-Ok-clause-client g c =
    let new = g.St.Store.holds c.end.new.store in
    subst (λ (client : ClientToken). IsSome (new.clients client.tracker)) (sym c.end.ensures.client) c.end.ensures.again.lives
