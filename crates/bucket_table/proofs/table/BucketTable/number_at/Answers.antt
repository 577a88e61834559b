use Rattle.std.proofs.Common.{◌≤◌, ◌+◌, length, ap, sym, ◌∙◌, arith}
use Rattle.row_codec.specs.RowReading.{number_in}
use Rattle.bucket_table.specs.Tables.{HasNode, row_of}
use Rattle.bucket_table.specs.Threads.{nodes_in}
use Rattle.bucket_table.proofs.TheRow.{part_there, there}
use Rattle.bucket_table.proofs.table.BucketTable.number_at.Goals as goal

pub overflow_add-node-2 : goal.overflow_add-node-2
overflow_add-node-2 c =
    let t = c.self.inside in
    let nodes = nodes_in t.chains.len t.heads.bytes t.nodes.bytes in
    let has : HasNode c.args.node nodes = rw (← c.self.view_is) at c.requires.node in
    let wide : c.args.at + 16 ≤ length (row_of c.args.node nodes) = rw (← c.self.view_is) at c.requires.inside in
    let is = there t.chains.len t.used c.args.node t.heads.bytes t.nodes.bytes c.self.invariant.laid.table has in
    omega (arith, is.ends, is.inside, is.short, wide)

pub wide-requires : goal.wide-requires
wide-requires c =
    let t = c.self.inside in
    let nodes = nodes_in t.chains.len t.heads.bytes t.nodes.bytes in
    let has : HasNode c.args.node nodes = rw (← c.self.view_is) at c.requires.node in
    let wide : c.args.at + 16 ≤ length (row_of c.args.node nodes) = rw (← c.self.view_is) at c.requires.inside in
    let is = there t.chains.len t.used c.args.node t.heads.bytes t.nodes.bytes c.self.invariant.laid.table has in
    omega (arith, is.ends, is.inside, wide)

pub returns : goal.returns
returns c =
    let t = c.self.inside in
    let nodes = nodes_in t.chains.len t.heads.bytes t.nodes.bytes in
    let has : HasNode c.args.node nodes = rw (← c.self.view_is) at c.requires.node in
    let wide : c.args.at + 16 ≤ length (row_of c.args.node nodes) = rw (← c.self.view_is) at c.requires.inside in
    let is = there t.chains.len t.used c.args.node t.heads.bytes t.nodes.bytes c.self.invariant.laid.table has in
    rw (← c.self.view_is) (c.wide.ensures ∙ ap number_in (sym (part_there c.args.node c.args.at 16 _ _ t.nodes.bytes is wide)))
