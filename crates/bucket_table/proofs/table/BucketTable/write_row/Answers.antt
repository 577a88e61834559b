use Rattle.std.proofs.Common.{◌≡◌, ◌+◌, ℕ, length, refl, ap, sym, ◌∙◌, arith, add-zero}
use Rattle.block_arena.specs.Bytes.{written}
use Rattle.bucket_table.specs.Tables.{HasNode, rewritten, row_of}
use Rattle.bucket_table.specs.Regions.{with_bytes}
use Rattle.bucket_table.specs.Threads.{nodes_in}
use Rattle.bucket_table.proofs.Changed.{rewritten_table}
use Rattle.bucket_table.proofs.Counted.{as_many}
use Rattle.bucket_table.proofs.Cuts.{written_all}
use Rattle.bucket_table.proofs.TheRow.{there}
use Rattle.bucket_table.proofs.Views.{laid_now, nodes_now, view_now}
use Rattle.bucket_table.proofs.table.BucketTable.write_row.Goals as goal

pub write-requires-clause-inside : goal.write-requires-clause-inside
write-requires-clause-inside c =
    let t = c.self.inside in
    let p = c.args.node in
    let nodes = nodes_in t.chains.len t.heads.bytes t.nodes.bytes in
    let has : HasNode p nodes = rw (← c.self.view_is) at c.requires.node in
    let same : length c.args.row.now ≡ length (row_of p nodes) = rw (← c.self.view_is) at c.requires.same in
    let is = there t.chains.len t.used p t.heads.bytes t.nodes.bytes c.self.invariant.laid.table has in
    omega (arith, is.ends, is.inside, same)

pub invariant_of-self : goal.invariant_of-self
invariant_of-self c =
    let t = c.self.inside in
    let p = c.args.node in
    let row = c.args.row.now in
    let nodes = nodes_in t.chains.len t.heads.bytes t.nodes.bytes in
    let has : HasNode p nodes = rw (← c.self.view_is) at c.requires.node in
    let same : length row ≡ length (row_of p nodes) = rw (← c.self.view_is) at c.requires.same in
    let now = rewritten_table t.chains.len t.used p 0 t.heads.bytes t.nodes.bytes row row c.self.invariant.laid.table has (sym (written_all row (row_of p nodes) same)) (omega (arith, same)) c.requires.framed in
    let wrote = c.write.ensures ∙ ap (λ (at : ℕ). with_bytes (written at row t.nodes.bytes) t.nodes) (sym (add-zero (p + 4))) in
    record {
      laid = laid_now t.chains.len t.heads t.nodes t.heads c.write.new.self t.heads.bytes _ refl wrote t.used t.used c.self.invariant.laid now.0;
      counted = as_many t.count (rewritten p row) nodes _ c.self.invariant.counted (nodes_now t.chains.len t.heads t.nodes t.heads c.write.new.self t.heads.bytes _ refl wrote _ now.1);
    }

pub returns : goal.returns
returns c =
    let t = c.self.inside in
    let p = c.args.node in
    let row = c.args.row.now in
    let nodes = nodes_in t.chains.len t.heads.bytes t.nodes.bytes in
    let has : HasNode p nodes = rw (← c.self.view_is) at c.requires.node in
    let same : length row ≡ length (row_of p nodes) = rw (← c.self.view_is) at c.requires.same in
    let now = rewritten_table t.chains.len t.used p 0 t.heads.bytes t.nodes.bytes row row c.self.invariant.laid.table has (sym (written_all row (row_of p nodes) same)) (omega (arith, same)) c.requires.framed in
    let wrote = c.write.ensures ∙ ap (λ (at : ℕ). with_bytes (written at row t.nodes.bytes) t.nodes) (sym (add-zero (p + 4))) in
    rw (← c.self.view_is) (view_now t.chains.len t.heads t.nodes t.heads c.write.new.self t.heads.bytes _ _ refl wrote now.2 now.1)
