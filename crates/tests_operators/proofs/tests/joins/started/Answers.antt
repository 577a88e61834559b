use Rattle.std.proofs.Common.{◌<◌, IsSome, refl, sym, subst, arith}
use Rattle.store_api.specs.Tokens.{ClientToken}
use Rattle.join_op.specs.Operator.{IsOperator, Operator}
use Rattle.tests_operators.proofs.Clients.{still_lives}
use Rattle.tests_operators.proofs.tests.joins.started.Goals as goal

pub fed-told-requires-clause-op : goal.fed-told-requires-clause-op
fed-told-requires-clause-op g c =
    let h = g.St.Store.holds c.args.store.now in
    let signs = g.St.Store.signs c.args.store.now in
    subst (λ (op : Operator). IsOperator op h signs) (sym c.in-Ok.ensures.ok) (c.law_starts.ensures.law c.args.c 1 c.args.shape.now h signs c.requires.shape refl c.requires.start).op

pub returns-in-Ok-clause-client : goal.returns-in-Ok-clause-client
returns-in-Ok-clause-client g c =
    let op = c.fed-told.new.op in
    let mid = g.St.Store.holds c.fed-told.new.store in
    let new = g.St.Store.holds c.end.new.store in
    let is = c.fed-told.ensures.op in
    let len : 0 < mid.block_len = (let value = c.block_len-len.ensures.value in let least = c.block_len-len.ensures.least in omega (arith, value, least)) in
    subst (λ (client : ClientToken). IsSome (new.clients client.tracker)) (sym c.end.ensures.client)
    (still_lives op.client.tracker op.left.page_blocks mid new is.sized len is.least c.end.ensures.leaves.reserved)
