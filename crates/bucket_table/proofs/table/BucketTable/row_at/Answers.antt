use Rattle.std.proofs.Common.{◌≡◌, ◌+◌, ℕ, length, drop, ap, sym, ◌∙◌}
use Rattle.std.proofs.lemmas.List.{take_at}
use Rattle.bucket_table.specs.Tables.{HasNode, row_of}
use Rattle.bucket_table.specs.Regions.{cut}
use Rattle.bucket_table.specs.Threads.{nodes_in}
use Rattle.bucket_table.proofs.TheRow.{there}
use Rattle.bucket_table.proofs.table.BucketTable.row_at.Goals as goal

pub returns : goal.returns
returns c =
    let t = c.self.inside in
    let p = c.args.node in
    let nodes = nodes_in t.chains.len t.heads.bytes t.nodes.bytes in
    let has : HasNode p nodes = rw (← c.self.view_is) at c.requires in
    let is = there t.chains.len t.used p t.heads.bytes t.nodes.bytes c.self.invariant.laid.table has in
    let out = c.read.new.out in
    let now = c.resize.new.self in
    let asked : length c.deref_mut.result.now ≡ c.row_len-len.result = c.deref_mut.ensures.len ∙ c.in_ok-resize.ensures.len in
    let width : length c.deref_mut.result.now ≡ length (row_of p nodes) = asked ∙ (rw (← c.self.view_is) at c.row_len-len.ensures.value) in
    let read : out ≡ row_of p nodes = c.read.ensures ∙ ap (λ (n : ℕ). cut (p + 4) n t.nodes.bytes) width ∙ is.bytes in
    let long : length out ≡ now.len = ap length read ∙ sym width ∙ c.deref_mut.ensures.len in
    rw (← c.self.view_is) (record { ok = take_at out (drop (length out) now.items) now.len long ∙ read })
