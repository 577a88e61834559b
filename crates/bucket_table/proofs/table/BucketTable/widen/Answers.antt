use Rattle.std.proofs.Common.{◌≡◌, ◌≤◌, ◌*◌, ℕ, length, ap, sym, ◌∙◌, subst}
use Rattle.std.specs.Prelude.{All}
use Rattle.bucket_table.specs.Lending.{AreHeld, IsTableOf}
use Rattle.bucket_table.specs.Threads.{client_in, nodes_in, table_of}
use Rattle.bucket_table.proofs.Counted.{as_many}
use Rattle.bucket_table.proofs.Held.{held_start}
use Rattle.bucket_table.proofs.Widened.{has_rows, laid_wide, widened, widened_held}
use Rattle.bucket_table.proofs.table.BucketTable.widen.Goals as goal

pub double-requires-clause-held : goal.double-requires-clause-held
double-requires-clause-held g c =
    let t = c.self.inside in
    let h = g.St.Store.holds c.args.store.now in
    let client : client_in t.heads.loans ≡ c.args.c.now.tracker = sym (rw (← c.self.view_is) at c.requires.client) in
    subst (λ (k : ℕ). AreHeld k h t.heads.loans) client (held_start _ t.heads.loans t.nodes.loans h (rw (← c.self.view_is) at c.requires.table.held))

pub rethread-requires-clause-rows : goal.rethread-requires-clause-rows
rethread-requires-clause-rows g c =
    let t = c.self.inside in
    let fits : All (λ n. length n.row ≤ c.longest_row-longest.result) (nodes_in t.chains.len t.heads.bytes t.nodes.bytes) = rw (← c.self.view_is) at c.longest_row-longest.ensures in
    (nodes_in t.chains.len t.heads.bytes t.nodes.bytes, has_rows t.chains.len t.used c.longest_row-longest.result (length c.deref_mut.result.now) t.heads t.nodes c.self.invariant.laid (c.deref_mut.ensures.len ∙ c.in-Ok.ensures.len) fits)

pub invariant_of-self-2 : goal.invariant_of-self-2
invariant_of-self-2 g c =
    let t = c.self.inside in
    let fits : All (λ n. length n.row ≤ c.longest_row-longest.result) (nodes_in t.chains.len t.heads.bytes t.nodes.bytes) = rw (← c.self.view_is) at c.longest_row-longest.ensures in
    let rows = has_rows t.chains.len t.used c.longest_row-longest.result (length c.deref_mut.result.now) t.heads t.nodes c.self.invariant.laid (c.deref_mut.ensures.len ∙ c.in-Ok.ensures.len) fits in
    record {
      laid = laid_wide _ _ _ _ _ t.heads t.nodes c.double.new.self _ _ _ _ c.self.invariant.laid c.in_ok-double.ensures.ok (c.rethread.ensures _ rows);
      counted = as_many t.count _ (nodes_in t.chains.len t.heads.bytes t.nodes.bytes) _ c.self.invariant.counted (c.rethread.ensures _ rows).nodes;
    }

pub returns-clause-ok : goal.returns-clause-ok
returns-clause-ok g c =
    let t = c.self.inside in
    let fits : All (λ n. length n.row ≤ c.longest_row-longest.result) (nodes_in t.chains.len t.heads.bytes t.nodes.bytes) = rw (← c.self.view_is) at c.longest_row-longest.ensures in
    let rows = has_rows t.chains.len t.used c.longest_row-longest.result (length c.deref_mut.result.now) t.heads t.nodes c.self.invariant.laid (c.deref_mut.ensures.len ∙ c.in-Ok.ensures.len) fits in
    let twice = c.of-chains.ensures ∙ ap (λ (n : ℕ). 2 * n) c.len.ensures.value in
    rw (← c.self.view_is) (widened _ _ _ _ _ t.heads t.nodes c.double.new.self _ _ _ _ c.self.invariant.laid c.in_ok-double.ensures.ok (c.rethread.ensures _ rows) twice (rw (← c.self.view_is) at c.requires.client))

pub returns-clause-table : goal.returns-clause-table
returns-clause-table g c =
    let t = c.self.inside in
    let old = g.St.Store.holds c.args.store.now in
    let fits : All (λ n. length n.row ≤ c.longest_row-longest.result) (nodes_in t.chains.len t.heads.bytes t.nodes.bytes) = rw (← c.self.view_is) at c.longest_row-longest.ensures in
    let rows = has_rows t.chains.len t.used c.longest_row-longest.result (length c.deref_mut.result.now) t.heads t.nodes c.self.invariant.laid (c.deref_mut.ensures.len ∙ c.in-Ok.ensures.len) fits in
    let twice = c.of-chains.ensures ∙ ap (λ (n : ℕ). 2 * n) c.len.ensures.value in
    let was : IsTableOf (table_of t.chains.len t.heads t.nodes) old = rw (← c.self.view_is) at c.requires.table in
    widened_held _ (table_of t.chains.len t.heads t.nodes) _ old _ was (widened _ _ _ _ _ t.heads t.nodes c.double.new.self _ _ _ _ c.self.invariant.laid c.in_ok-double.ensures.ok (c.rethread.ensures _ rows) twice (rw (← c.self.view_is) at c.requires.client))
