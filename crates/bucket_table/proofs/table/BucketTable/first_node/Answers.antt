use Rattle.std.proofs.Common.{◌<◌, sym, ◌∙◌, arith}
use Rattle.bucket_table.specs.Tables.{used_by}
use Rattle.bucket_table.specs.Threads.{nodes_in}
use Rattle.bucket_table.proofs.LookedUp.{oldest_is, oldest_none}
use Rattle.bucket_table.proofs.table.BucketTable.first_node.Goals as goal

pub returns-then-self-eq0 : goal.returns-then-self-eq0
returns-then-self-eq0 c =
    let t = c.self.inside in
    let nodes = nodes_in t.chains.len t.heads.bytes t.nodes.bytes in
    rw (← c.self.view_is) (record { value = sym (oldest_none nodes (sym c.self.invariant.laid.table.used_is ∙ c.if-self-eq0.true)); node = tt })

pub returns : goal.returns
returns c =
    let t = c.self.inside in
    let nodes = nodes_in t.chains.len t.heads.bytes t.nodes.bytes in
    let some : 0 < used_by nodes = omega (arith, c.if-self-eq0.false, c.self.invariant.laid.table.used_is) in
    let first = oldest_is t.chains.len t.nodes.bytes nodes c.self.invariant.laid.table.threaded.stand some in
    rw (← c.self.view_is) (record { value = sym first.0; node = first.1 })
