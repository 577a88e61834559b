use Rattle.std.proofs.Common.{◌≡◌, ◌≤◌, ◌+◌, ℕ, ap, ◌∙◌, length, subst, arith}
use Rattle.bucket_table.specs.Rethreading.{AreRows}
use Rattle.bucket_table.specs.Tables.{Table, used_by}
use Rattle.bucket_table.proofs.Standing.{Passing, next_row, passes_all, passes_none, passes_one, rows_of}
use Rattle.bucket_table.proofs.table.BucketTable.longest_row.Goals as goal

pub loop-node-init : goal.loop-node-init
loop-node-init c = passes_none c.args.self.now.nodes

pub link-requires : goal.link-requires
link-requires c =
    let t = c.self.inside in
    let inv = c.loop-node.invariant in
    let rows = rows_of t.chains.len t.nodes.bytes _ c.self.invariant.laid.table.threaded.stand in
    let is : AreRows t.nodes.bytes c.args.self.now.nodes = subst (λ (x : Table). AreRows t.nodes.bytes x.nodes) c.self.view_is rows in
    let used : t.used ≡ used_by c.args.self.now.nodes = subst (λ (x : Table). t.used ≡ used_by x.nodes) c.self.view_is c.self.invariant.laid.table.used_is in
    let inside : used_by c.args.self.now.nodes ≤ length t.nodes.bytes = subst (λ (x : Table). used_by x.nodes ≤ length t.nodes.bytes) c.self.view_is c.self.invariant.laid.table.threaded.inside in
    let next = next_row t.nodes.bytes c.args.self.now.nodes inv.left c.loop-node.node is inv.few inv.is_at (omega (arith, c.loop-node-test.true, used)) in
    omega (arith, next.inside, next.long, inside)

pub loop-node-preserved : goal.loop-node-preserved
loop-node-preserved c =
    let t = c.self.inside in
    let inv = c.loop-node.invariant in
    let rows = rows_of t.chains.len t.nodes.bytes _ c.self.invariant.laid.table.threaded.stand in
    let is : AreRows t.nodes.bytes c.args.self.now.nodes = subst (λ (x : Table). AreRows t.nodes.bytes x.nodes) c.self.view_is rows in
    let used : t.used ≡ used_by c.args.self.now.nodes = subst (λ (x : Table). t.used ≡ used_by x.nodes) c.self.view_is c.self.invariant.laid.table.used_is in
    let next = next_row t.nodes.bytes c.args.self.now.nodes inv.left c.loop-node.node is inv.few inv.is_at (omega (arith, c.loop-node-test.true, used)) in
    let len : c.link.result + 4 ≡ length next.node.row = ap (λ (n : ℕ). n + 4) c.link.ensures ∙ next.head in
    let one = passes_one c.loop-node.longest c.max-longest.result c.loop-node.node t.nodes.bytes c.args.self.now.nodes inv next (omega (arith, c.max-longest.ensures)) (omega (arith, c.max-longest.ensures, len)) in
    let width : c.loop-node.node + 4 + length next.node.row ≡ c.loop-node.node + (4 + (c.link.result + 4)) = omega (arith, len) in
    subst (λ (k : ℕ). Passing c.max-longest.result k c.args.self.now.nodes) width one

pub returns : goal.returns
returns c =
    let t = c.self.inside in
    let rows = rows_of t.chains.len t.nodes.bytes _ c.self.invariant.laid.table.threaded.stand in
    let is : AreRows t.nodes.bytes c.args.self.now.nodes = subst (λ (x : Table). AreRows t.nodes.bytes x.nodes) c.self.view_is rows in
    let used : t.used ≡ used_by c.args.self.now.nodes = subst (λ (x : Table). t.used ≡ used_by x.nodes) c.self.view_is c.self.invariant.laid.table.used_is in
    passes_all c.loop-node.longest c.loop-node.node t.nodes.bytes c.args.self.now.nodes is c.loop-node.invariant (omega (arith, c.loop-node-test.false, used))
