use Rattle.std.proofs.Common.{[], length, refl, ap, sym}
use Rattle.bucket_table.proofs.Emptied.{empty_table}
use Rattle.bucket_table.proofs.Views.{laid_now, nodes_now, view_now}
use Rattle.bucket_table.proofs.table.BucketTable.clear.Goals as goal

pub invariant_of-self : goal.invariant_of-self
invariant_of-self c =
    let t = c.self.inside in
    let is = c.self.invariant.laid.table in
    let now = empty_table t.chains.len (length t.heads.bytes) t.nodes.bytes is.sized is.some is.few is.short in
    record {
      laid = laid_now t.chains.len t.heads t.nodes c.zero.new.self t.nodes _ t.nodes.bytes c.zero.ensures refl t.used 0 c.self.invariant.laid now.0;
      counted = sym (ap length (nodes_now t.chains.len t.heads t.nodes c.zero.new.self t.nodes _ t.nodes.bytes c.zero.ensures refl [] now.1));
    }

pub returns : goal.returns
returns c =
    let t = c.self.inside in
    let is = c.self.invariant.laid.table in
    let now = empty_table t.chains.len (length t.heads.bytes) t.nodes.bytes is.sized is.some is.few is.short in
    rw (← c.self.view_is) (view_now t.chains.len t.heads t.nodes c.zero.new.self t.nodes _ t.nodes.bytes [] c.zero.ensures refl refl now.1)
