use Rattle.std.proofs.Common.{◌≡◌, ap, ◌∙◌, arith}
use Rattle.bucket_table.specs.Tables.{HasNode, next_on_chain}
use Rattle.bucket_table.specs.Threads.{node_in, nodes_in}
use Rattle.bucket_table.proofs.LookedUp.{next_is}
use Rattle.bucket_table.proofs.TheRow.{found_next, there}
use Rattle.bucket_table.proofs.table.BucketTable.find_next.Goals as goal

pub link-requires : goal.link-requires
link-requires c =
    let t = c.self.inside in
    let has : HasNode c.args.node (nodes_in t.chains.len t.heads.bytes t.nodes.bytes) = rw (← c.self.view_is) at c.requires in
    let is = there t.chains.len t.used c.args.node t.heads.bytes t.nodes.bytes c.self.invariant.laid.table has in
    omega (arith, is.ends, is.inside)

pub returns : goal.returns
returns c =
    let t = c.self.inside in
    let nodes = nodes_in t.chains.len t.heads.bytes t.nodes.bytes in
    let has : HasNode c.args.node nodes = rw (← c.self.view_is) at c.requires in
    let value : c.node_of.result ≡ next_on_chain c.args.node nodes =
    c.node_of.ensures ∙ ap node_in c.link.ensures ∙ next_is c.args.node t.chains.len t.nodes.bytes nodes c.self.invariant.laid.table.threaded.stand has
    in
    rw (← c.self.view_is) (record { value = value; node = found_next c.args.node nodes c.node_of.result value })
