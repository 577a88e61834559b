use Rattle.std.proofs.Common.{◌≡◌, ◌≢◌, ◌+◌, ℕ, length, Some, ap, sym, ◌∙◌, subst}
use Rattle.bucket_table.specs.Tables.{HasNode, row_of, used_by}
use Rattle.bucket_table.specs.Threads.{nodes_in}
use Rattle.bucket_table.proofs.LookedUp.{newer_is, newest_of_all}
use Rattle.bucket_table.proofs.table.BucketTable.next_node.Goals as goal

pub returns-then-next-self : goal.returns-then-next-self
returns-then-next-self c =
    let t = c.self.inside in
    let p = c.args.node in
    let nodes = nodes_in t.chains.len t.heads.bytes t.nodes.bytes in
    let has : HasNode p nodes = rw (← c.self.view_is) at c.requires in
    let len : c.row_len.result ≡ length (row_of p nodes) = rw (← c.self.view_is) at c.row_len.ensures.value in
    let end : p + 4 + length (row_of p nodes) ≡ used_by nodes = ap (λ (n : ℕ). p + 4 + n) (sym len) ∙ c.if-next-self.true ∙ c.self.invariant.laid.table.used_is in
    rw (← c.self.view_is) (record { value = sym (newest_of_all p t.chains.len t.nodes.bytes nodes c.self.invariant.laid.table.threaded.stand has end); node = tt })

pub returns : goal.returns
returns c =
    let t = c.self.inside in
    let p = c.args.node in
    let nodes = nodes_in t.chains.len t.heads.bytes t.nodes.bytes in
    let has : HasNode p nodes = rw (← c.self.view_is) at c.requires in
    let len : c.row_len.result ≡ length (row_of p nodes) = rw (← c.self.view_is) at c.row_len.ensures.value in
    let width : p + 4 + c.row_len.result ≡ p + 4 + length (row_of p nodes) = ap (λ (n : ℕ). p + 4 + n) len in
    let before : p + 4 + length (row_of p nodes) ≢ used_by nodes = λ end. c.if-next-self.false (width ∙ end ∙ sym c.self.invariant.laid.table.used_is) in
    let next = newer_is p t.chains.len t.nodes.bytes nodes c.self.invariant.laid.table.threaded.stand has before in
    rw (← c.self.view_is) (record { value = ap Some width ∙ sym next.0; node = subst (λ (q : ℕ). HasNode q nodes) (sym width) next.1 })
