use Rattle.std.proofs.Common.{◌≤◌, ◌+◌, length, refl, arith}
use Rattle.std.specs.Int.{w128, to_be_bytes}
use Rattle.bucket_table.specs.Tables.{HasNode, rewritten, row_of, with_number}
use Rattle.bucket_table.specs.Threads.{nodes_in}
use Rattle.bucket_table.proofs.Changed.{rewritten_table}
use Rattle.bucket_table.proofs.Counted.{as_many}
use Rattle.bucket_table.proofs.TheRow.{number_framed, there}
use Rattle.bucket_table.proofs.Views.{laid_now, nodes_now, view_now}
use Rattle.bucket_table.proofs.table.BucketTable.set_number_at.Goals as goal

pub overflow_add-node-2 : goal.overflow_add-node-2
overflow_add-node-2 c =
    let t = c.self.inside in
    let nodes = nodes_in t.chains.len t.heads.bytes t.nodes.bytes in
    let has : HasNode c.args.node nodes = rw (← c.self.view_is) at c.requires.node in
    let wide : c.args.at + 16 ≤ length (row_of c.args.node nodes) = rw (← c.self.view_is) at c.requires.inside in
    let is = there t.chains.len t.used c.args.node t.heads.bytes t.nodes.bytes c.self.invariant.laid.table has in
    omega (arith, is.ends, is.inside, is.short, wide)

pub set_wide-requires : goal.set_wide-requires
set_wide-requires c =
    let t = c.self.inside in
    let nodes = nodes_in t.chains.len t.heads.bytes t.nodes.bytes in
    let has : HasNode c.args.node nodes = rw (← c.self.view_is) at c.requires.node in
    let wide : c.args.at + 16 ≤ length (row_of c.args.node nodes) = rw (← c.self.view_is) at c.requires.inside in
    let is = there t.chains.len t.used c.args.node t.heads.bytes t.nodes.bytes c.self.invariant.laid.table has in
    omega (arith, is.ends, is.inside, wide)

pub invariant_of-self : goal.invariant_of-self
invariant_of-self c =
    let t = c.self.inside in
    let p = c.args.node in
    let nodes = nodes_in t.chains.len t.heads.bytes t.nodes.bytes in
    let has : HasNode p nodes = rw (← c.self.view_is) at c.requires.node in
    let wide : c.args.at + 16 ≤ length (row_of p nodes) = rw (← c.self.view_is) at c.requires.inside in
    let is = there t.chains.len t.used p t.heads.bytes t.nodes.bytes c.self.invariant.laid.table has in
    let framed = number_framed c.args.at c.args.value (row_of p nodes) is.framed c.requires.behind wide in
    let now = rewritten_table t.chains.len t.used p c.args.at t.heads.bytes t.nodes.bytes (to_be_bytes w128 c.args.value) _ c.self.invariant.laid.table has refl wide framed in
    record {
      laid = laid_now t.chains.len t.heads t.nodes t.heads c.set_wide.new.self t.heads.bytes _ refl c.set_wide.ensures t.used t.used c.self.invariant.laid now.0;
      counted = as_many t.count (rewritten p (with_number c.args.at c.args.value (row_of p nodes))) nodes _ c.self.invariant.counted (nodes_now t.chains.len t.heads t.nodes t.heads c.set_wide.new.self t.heads.bytes _ refl c.set_wide.ensures _ now.1);
    }

pub returns : goal.returns
returns c =
    let t = c.self.inside in
    let p = c.args.node in
    let nodes = nodes_in t.chains.len t.heads.bytes t.nodes.bytes in
    let has : HasNode p nodes = rw (← c.self.view_is) at c.requires.node in
    let wide : c.args.at + 16 ≤ length (row_of p nodes) = rw (← c.self.view_is) at c.requires.inside in
    let is = there t.chains.len t.used p t.heads.bytes t.nodes.bytes c.self.invariant.laid.table has in
    let framed = number_framed c.args.at c.args.value (row_of p nodes) is.framed c.requires.behind wide in
    let now = rewritten_table t.chains.len t.used p c.args.at t.heads.bytes t.nodes.bytes (to_be_bytes w128 c.args.value) _ c.self.invariant.laid.table has refl wide framed in
    rw (← c.self.view_is) (view_now t.chains.len t.heads t.nodes t.heads c.set_wide.new.self t.heads.bytes _ _ refl c.set_wide.ensures now.2 now.1)
