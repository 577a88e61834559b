use Rattle.std.proofs.Common.{◌%◌, ◌<◌, ℕ, Option, Some, None, length, sym, ◌∙◌, subst}
use Rattle.std.proofs.lemmas.Bool.{iff_false}
use Rattle.bucket_table.specs.Tables.{Table}
use Rattle.bucket_table.specs.Threads.{AreNodes}
use Rattle.bucket_table.proofs.Shown.{Leaves, begins, goes_on, is_shown, none_sought, rest_from}
use Rattle.bucket_table.proofs.table.BucketTable.find_row.Goals as goal

pub returns-then-is_empty-clause-value : goal.returns-then-is_empty-clause-value
returns-then-is_empty-clause-value c =
    let table = c.args.self.now in
    let k = c.args.hash % table.heads in
    c.find_first-next.ensures.value ∙ sym (none_sought k c.args.at c.args.bytes.now table.nodes (sym c.is_empty.ensures ∙ c.if-is_empty.true))

pub loop-next-init : goal.loop-next-init
loop-next-init c =
    let t = c.self.inside in
    let table = c.args.self.now in
    let k = c.args.hash % table.heads in
    let are : AreNodes table.heads t.nodes.bytes table.nodes = subst (λ (x : Table). AreNodes x.heads t.nodes.bytes x.nodes) c.self.view_is c.self.invariant.laid.table.threaded.stand in
    subst (λ (next : Option ℕ). Leaves k c.args.at c.args.bytes.now next table.nodes table.nodes) (sym c.find_first-next.ensures.value) (begins k c.args.at c.args.bytes.now table.heads t.nodes.bytes table.nodes are)

pub returns-then-look-clause-value : goal.returns-then-look-clause-value
returns-then-look-clause-value c =
    let table = c.args.self.now in
    let k = c.args.hash % table.heads in
    let inv : Leaves k c.args.at c.args.bytes.now (Some c.in-Some.node) table.nodes table.nodes = subst (λ (next : Option ℕ). Leaves k c.args.at c.args.bytes.now next table.nodes table.nodes) c.in-Some.is c.loop-next.invariant in
    sym (inv.same ∙ is_shown k c.args.at c.args.bytes.now c.in-Some.node table.nodes inv.on (c.look_at-look.ensures.shows.0 c.if-look.true))

pub loop-next-smaller : goal.loop-next-smaller
loop-next-smaller c =
    let t = c.self.inside in
    let table = c.args.self.now in
    let k = c.args.hash % table.heads in
    let are : AreNodes table.heads t.nodes.bytes table.nodes = subst (λ (x : Table). AreNodes x.heads t.nodes.bytes x.nodes) c.self.view_is c.self.invariant.laid.table.threaded.stand in
    let inv : Leaves k c.args.at c.args.bytes.now (Some c.in-Some.node) table.nodes table.nodes = subst (λ (next : Option ℕ). Leaves k c.args.at c.args.bytes.now next table.nodes table.nodes) c.in-Some.is c.loop-next.invariant in
    let on = goes_on k c.args.at c.args.bytes.now table.heads c.in-Some.node t.nodes.bytes table.nodes are inv.on (iff_false c.look_at-look.ensures.shows c.if-look.false) in
    subst (λ (next : Option ℕ). length (rest_from c.look_at-look.result.next table.nodes) < length (rest_from next table.nodes)) (sym c.in-Some.is)
    (subst (λ (next : Option ℕ). length (rest_from next table.nodes) < length (rest_from (Some c.in-Some.node) table.nodes)) (sym c.look_at-look.ensures.next) on.1)

pub loop-next-preserved : goal.loop-next-preserved
loop-next-preserved c =
    let t = c.self.inside in
    let table = c.args.self.now in
    let k = c.args.hash % table.heads in
    let are : AreNodes table.heads t.nodes.bytes table.nodes = subst (λ (x : Table). AreNodes x.heads t.nodes.bytes x.nodes) c.self.view_is c.self.invariant.laid.table.threaded.stand in
    let inv : Leaves k c.args.at c.args.bytes.now (Some c.in-Some.node) table.nodes table.nodes = subst (λ (next : Option ℕ). Leaves k c.args.at c.args.bytes.now next table.nodes table.nodes) c.in-Some.is c.loop-next.invariant in
    let on = goes_on k c.args.at c.args.bytes.now table.heads c.in-Some.node t.nodes.bytes table.nodes are inv.on (iff_false c.look_at-look.ensures.shows c.if-look.false) in
    subst (λ (next : Option ℕ). Leaves k c.args.at c.args.bytes.now next table.nodes table.nodes) (sym c.look_at-look.ensures.next) (record { same = inv.same ∙ on.0.same; on = on.0.on })

pub returns-clause-value : goal.returns-clause-value
returns-clause-value c =
    let table = c.args.self.now in
    let k = c.args.hash % table.heads in
    let inv : Leaves k c.args.at c.args.bytes.now None table.nodes table.nodes = subst (λ (next : Option ℕ). Leaves k c.args.at c.args.bytes.now next table.nodes table.nodes) c.in_default.is c.loop-next.invariant in
    sym inv.same
