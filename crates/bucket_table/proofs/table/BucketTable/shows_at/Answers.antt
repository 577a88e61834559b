use Rattle.std.proofs.Common.{◌≡◌, ◌≤◌, ◌+◌, length, sym, ◌∙◌, arith}
use Rattle.bucket_table.specs.Tables.{HasNode, row_of}
use Rattle.bucket_table.specs.Threads.{nodes_in}
use Rattle.bucket_table.proofs.TheRow.{part_there, there}
use Rattle.bucket_table.proofs.table.BucketTable.shows_at.Goals as goal

pub returns : goal.returns
returns c =
    let t = c.self.inside in
    let p = c.args.node in
    let n = length c.args.bytes.now in
    let nodes = nodes_in t.chains.len t.heads.bytes t.nodes.bytes in
    let has : HasNode p nodes = rw (← c.self.view_is) at c.requires in
    let len : c.row_len-len.result ≡ length (row_of p nodes) = rw (← c.self.view_is) at c.row_len-len.ensures.value in
    let inside : c.args.at + n ≤ length (row_of p nodes) = omega (arith, len, c.if-len-at.false, c.if-len-at-2.false) in
    let part = part_there p c.args.at n _ _ t.nodes.bytes (there t.chains.len t.used p t.heads.bytes t.nodes.bytes c.self.invariant.laid.table has) inside in
    rw (← c.self.view_is) ((λ yes. part ∙ c.shows.ensures.0 yes), (λ same. c.shows.ensures.1 (sym part ∙ same)))
