use Rattle.std.proofs.Common.{◌≡◌, ◌+◌, ℕ, length, ap, ◌∙◌, arith}
use Rattle.bucket_table.specs.Tables.{HasNode, row_of}
use Rattle.bucket_table.specs.Threads.{nodes_in}
use Rattle.bucket_table.proofs.TheRow.{there}
use Rattle.bucket_table.proofs.table.BucketTable.row_len.Goals as goal

pub link-requires : goal.link-requires
link-requires c =
    let t = c.self.inside in
    let has : HasNode c.args.node (nodes_in t.chains.len t.heads.bytes t.nodes.bytes) = rw (← c.self.view_is) at c.requires in
    let is = there t.chains.len t.used c.args.node t.heads.bytes t.nodes.bytes c.self.invariant.laid.table has in
    omega (arith, is.long, is.ends, is.inside)

pub returns : goal.returns
returns c =
    let t = c.self.inside in
    let has : HasNode c.args.node (nodes_in t.chains.len t.heads.bytes t.nodes.bytes) = rw (← c.self.view_is) at c.requires in
    let is = there t.chains.len t.used c.args.node t.heads.bytes t.nodes.bytes c.self.invariant.laid.table has in
    let value : c.link.result + 4 ≡ length (row_of c.args.node (nodes_in t.chains.len t.heads.bytes t.nodes.bytes)) = ap (λ (n : ℕ). n + 4) c.link.ensures ∙ is.head in
    rw (← c.self.view_is) (record {
      value = value;
      some = omega arith;
      inside = omega (arith, value, is.ends);
      used = is.inside;
      short = is.short;
    })
