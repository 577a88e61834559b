use Rattle.std.proofs.Common.{◌<◌, IsSome, refl, sym, subst, arith}
use Rattle.store_api.specs.Tokens.{ClientToken}
use Rattle.group_op.specs.Operator.{IsOperator, Operator}
use Rattle.tests_operators.proofs.Clients.{still_lives}
use Rattle.tests_operators.proofs.tests.partials.started.Goals as goal

pub groups_of-groups-requires-clause-op : goal.groups_of-groups-requires-clause-op
groups_of-groups-requires-clause-op g c =
    let h = g.St.Store.holds c.args.store.now in
    let signs = g.St.Store.signs c.args.store.now in
    subst (λ (op : Operator). IsOperator op h signs) (sym c.in-Ok.ensures.ok) (c.law_starts.ensures.law c.args.c 1 c.args.shape.now h signs c.requires.shape refl c.requires.start).op

pub returns-in-Ok-clause-client : goal.returns-in-Ok-clause-client
returns-in-Ok-clause-client g c =
    let op = c.groups_of-groups.new.op in
    let mid = g.St.Store.holds c.groups_of-groups.new.store in
    let new = g.St.Store.holds c.end.new.store in
    let is = c.groups_of-groups.ensures.op in
    let len : 0 < mid.block_len = (let value = c.block_len-len.ensures.value in let least = c.block_len-len.ensures.least in omega (arith, value, least)) in
    subst (λ (client : ClientToken). IsSome (new.clients client.tracker)) (sym c.end.ensures.client)
    (still_lives op.client.tracker op.parts.page_blocks mid new is.sized len is.least c.end.ensures.leaves.reserved)
