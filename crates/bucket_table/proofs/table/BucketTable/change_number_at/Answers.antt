use Rattle.std.proofs.Common.{◌≤◌, ◌+◌, ℕ, List, length, refl, sym, subst, arith}
use Rattle.std.specs.Int.{w128, to_be_bytes}
use Rattle.row_codec.specs.RowReading.{number_in}
use Rattle.bucket_table.specs.Tables.{HasNode, rewritten, row_of, with_number}
use Rattle.bucket_table.specs.Threads.{nodes_in}
use Rattle.bucket_table.proofs.Changed.{rewritten_table}
use Rattle.bucket_table.proofs.Counted.{as_many}
use Rattle.bucket_table.proofs.TheRow.{number_framed, part_there, there}
use Rattle.bucket_table.proofs.Views.{laid_now, nodes_now, view_now}
use Rattle.bucket_table.proofs.table.BucketTable.change_number_at.Goals as goal

pub overflow_add-node-2 : goal.overflow_add-node-2
overflow_add-node-2 g c =
    let t = c.self.inside in
    let nodes = nodes_in t.chains.len t.heads.bytes t.nodes.bytes in
    let has : HasNode c.args.node nodes = rw (← c.self.view_is) at c.requires.node in
    let wide : c.args.at + 16 ≤ length (row_of c.args.node nodes) = rw (← c.self.view_is) at c.requires.inside in
    let is = there t.chains.len t.used c.args.node t.heads.bytes t.nodes.bytes c.self.invariant.laid.table has in
    omega (arith, is.ends, is.inside, is.short, wide)

pub change_wide-requires : goal.change_wide-requires
change_wide-requires g c =
    let t = c.self.inside in
    let nodes = nodes_in t.chains.len t.heads.bytes t.nodes.bytes in
    let has : HasNode c.args.node nodes = rw (← c.self.view_is) at c.requires.node in
    let wide : c.args.at + 16 ≤ length (row_of c.args.node nodes) = rw (← c.self.view_is) at c.requires.inside in
    let is = there t.chains.len t.used c.args.node t.heads.bytes t.nodes.bytes c.self.invariant.laid.table has in
    let part = part_there c.args.node c.args.at 16 _ _ t.nodes.bytes is wide in
    record {
      inside = omega (arith, is.ends, is.inside, wide);
      call = subst (λ (bytes : List ℕ). goal.F-pre g c.args.change (number_in bytes)) part (rw (← c.self.view_is) at c.requires.call);
    }

pub invariant_of-self : goal.invariant_of-self
invariant_of-self g c =
    let t = c.self.inside in
    let p = c.args.node in
    let nodes = nodes_in t.chains.len t.heads.bytes t.nodes.bytes in
    let has : HasNode p nodes = rw (← c.self.view_is) at c.requires.node in
    let wide : c.args.at + 16 ≤ length (row_of p nodes) = rw (← c.self.view_is) at c.requires.inside in
    let is = there t.chains.len t.used p t.heads.bytes t.nodes.bytes c.self.invariant.laid.table has in
    let number = c.change_wide.ensures.0 in
    let framed = number_framed c.args.at number (row_of p nodes) is.framed c.requires.behind wide in
    let now = rewritten_table t.chains.len t.used p c.args.at t.heads.bytes t.nodes.bytes (to_be_bytes w128 number) _ c.self.invariant.laid.table has refl wide framed in
    record {
      laid = laid_now t.chains.len t.heads t.nodes t.heads c.change_wide.new.self t.heads.bytes _ refl c.change_wide.ensures.2 t.used t.used c.self.invariant.laid now.0;
      counted = as_many t.count (rewritten p (with_number c.args.at number (row_of p nodes))) nodes _ c.self.invariant.counted (nodes_now t.chains.len t.heads t.nodes t.heads c.change_wide.new.self t.heads.bytes _ refl c.change_wide.ensures.2 _ now.1);
    }

pub returns : goal.returns
returns g c =
    let t = c.self.inside in
    let p = c.args.node in
    let nodes = nodes_in t.chains.len t.heads.bytes t.nodes.bytes in
    let has : HasNode p nodes = rw (← c.self.view_is) at c.requires.node in
    let wide : c.args.at + 16 ≤ length (row_of p nodes) = rw (← c.self.view_is) at c.requires.inside in
    let is = there t.chains.len t.used p t.heads.bytes t.nodes.bytes c.self.invariant.laid.table has in
    let number = c.change_wide.ensures.0 in
    let framed = number_framed c.args.at number (row_of p nodes) is.framed c.requires.behind wide in
    let now = rewritten_table t.chains.len t.used p c.args.at t.heads.bytes t.nodes.bytes (to_be_bytes w128 number) _ c.self.invariant.laid.table has refl wide framed in
    let part = part_there p c.args.at 16 _ _ t.nodes.bytes is wide in
    rw (← c.self.view_is) (
      number,
      subst (λ (bytes : List ℕ). goal.F-post g c.args.change (number_in bytes) number) (sym part) c.change_wide.ensures.1,
      view_now t.chains.len t.heads t.nodes t.heads c.change_wide.new.self t.heads.bytes _ _ refl c.change_wide.ensures.2 now.2 now.1,
    )
