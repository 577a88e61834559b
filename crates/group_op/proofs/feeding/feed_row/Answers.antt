use Rattle.std.proofs.Common.{◌≡◌, Err, rules, ◌<◌, ℕ, ◌*◌, List, ap, Option, Some, IfSome, OnOk, refl, subst}
use Rattle.row_codec.specs.declared.values.Value.{Value}
use Rattle.store_api.specs.Holdings.{Holdings}
use Rattle.store_api.specs.Signs.{Signs}
use Rattle.tuple_stream.specs.Families.{slots_in}
use Rattle.bucket_table.specs.Tables.{Table}
use Rattle.group_op.specs.Held.{state}
use Rattle.partition_stack.specs.Stack.{over}
use Rattle.partition_stack.specs.Slots.{IsWantBelow}
use Rattle.group_op.specs.Feeding.{HasOpened}
use Rattle.group_op.specs.Operator.{Holds, Operator, operator, page_of, slots_for}
use Rattle.group_op.specs.Putting.{HasPut}
use Rattle.group_op.proofs.Chained.{leaves_then}
use Rattle.group_op.proofs.Entering.{cause_after, works_len}
use Rattle.group_op.proofs.Kept.{holds_put, keeps_put}
use Rattle.group_op.proofs.Made.{makes_put, makes_unput}
use Rattle.group_op.proofs.Paging.{made_then}
use Rattle.group_op.proofs.Wants.{want_put, want_unput}
use Rattle.partition_stack.proofs.Slots.{slots_then}
use Rattle.group_op.proofs.feeding.feed_row.Goals as goal

pub returns-clause-keeps : goal.returns-clause-keeps
returns-clause-keeps g c =
    let h0 : Holdings = g.St.Store.holds c.args.store.now in
    let h1 : Holdings = g.St.Store.holds c.open_table.new.store in
    let h2 : Holdings = g.St.Store.holds c.put.new.store in
    let s0 : Signs = g.St.Store.signs c.args.store.now in
    let s1 : Signs = g.St.Store.signs c.open_table.new.store in
    let s2 : Signs = g.St.Store.signs c.put.new.store in
    let opened : HasOpened c.args.shape.now c.args.table.now c.in-Some.own (state c.in-Some.own c.args.parts.now h0 s0) (state c.in-Some.own c.args.parts.now h1 s1) =
    subst (λ (o : Option Table). IfSome o (λ own. HasOpened c.args.shape.now c.args.table.now own (state own c.args.parts.now h0 s0) (state own c.args.parts.now h1 s1))) c.in-Some.is c.in_ok-open_table.ensures.has in
    keeps_put c.args.c.now c.args.shape.now c.args.fed.now.row.items c.args.table.now c.in-Some.own c.put.new.table c.args.parts.now c.put.new.parts h0 h1 h2 s0 s1 s2 c.put.result c.requires.op.shape c.requires.row.row
    (ap (λ (n : ℕ). c.args.parts.now.page_blocks * n) c.in_ok-open_table.ensures.leaves.others.block_len)
    (works_len c.args.c.now.tracker c.args.shape.now (state c.in-Some.own c.args.parts.now h1 s1) (state c.put.new.table c.put.new.parts h2 s2) c.put.ensures.works) opened
    (subst (λ (bytes : List ℕ). OnOk c.put.result (HasPut c.args.shape.now 0 0 bytes (state c.in-Some.own c.args.parts.now h1 s1) (state c.put.new.table c.put.new.parts h2 s2))) c.deref-2.ensures.value c.put.ensures.ok)

pub returns-clause-holds : goal.returns-clause-holds
returns-clause-holds g c =
    let h0 : Holdings = g.St.Store.holds c.args.store.now in
    let h1 : Holdings = g.St.Store.holds c.open_table.new.store in
    let h2 : Holdings = g.St.Store.holds c.put.new.store in
    let s0 : Signs = g.St.Store.signs c.args.store.now in
    let s1 : Signs = g.St.Store.signs c.open_table.new.store in
    let s2 : Signs = g.St.Store.signs c.put.new.store in
    let opened : HasOpened c.args.shape.now c.args.table.now c.in-Some.own (state c.in-Some.own c.args.parts.now h0 s0) (state c.in-Some.own c.args.parts.now h1 s1) =
    subst (λ (o : Option Table). IfSome o (λ own. HasOpened c.args.shape.now c.args.table.now own (state own c.args.parts.now h0 s0) (state own c.args.parts.now h1 s1))) c.in-Some.is c.in_ok-open_table.ensures.has in
    holds_put c.args.c.now c.args.shape.now c.args.fed.now.row.items c.args.table.now c.in-Some.own c.put.new.table c.args.parts.now c.put.new.parts h0 h1 h2 s0 s1 s2 c.put.result c.requires.op.shape c.requires.row.row
    (ap (λ (n : ℕ). c.args.parts.now.page_blocks * n) c.in_ok-open_table.ensures.leaves.others.block_len)
    (works_len c.args.c.now.tracker c.args.shape.now (state c.in-Some.own c.args.parts.now h1 s1) (state c.put.new.table c.put.new.parts h2 s2) c.put.ensures.works) opened
    (subst (λ (bytes : List ℕ). OnOk c.put.result (HasPut c.args.shape.now 0 0 bytes (state c.in-Some.own c.args.parts.now h1 s1) (state c.put.new.table c.put.new.parts h2 s2))) c.deref-2.ensures.value c.put.ensures.ok)

pub returns-in_err-open_table-clause-makes : goal.returns-in_err-open_table-clause-makes
returns-in_err-open_table-clause-makes g c =
    makes_unput c.args.c.now c.args.shape.now c.args.table.now c.args.parts.now (g.St.Store.holds c.args.store.now) (g.St.Store.signs c.args.store.now) c.requires.feeding
    c.open_table.new.table (g.St.Store.holds c.open_table.new.store) (g.St.Store.signs c.open_table.new.store) c.open_table.ensures.made

pub returns-clause-makes : goal.returns-clause-makes
returns-clause-makes g c =
    let h0 : Holdings = g.St.Store.holds c.args.store.now in
    let h1 : Holdings = g.St.Store.holds c.open_table.new.store in
    let h2 : Holdings = g.St.Store.holds c.put.new.store in
    let s0 : Signs = g.St.Store.signs c.args.store.now in
    let s1 : Signs = g.St.Store.signs c.open_table.new.store in
    let s2 : Signs = g.St.Store.signs c.put.new.store in
    let opened : HasOpened c.args.shape.now c.args.table.now c.in-Some.own (state c.in-Some.own c.args.parts.now h0 s0) (state c.in-Some.own c.args.parts.now h1 s1) =
    subst (λ (o : Option Table). IfSome o (λ own. HasOpened c.args.shape.now c.args.table.now own (state own c.args.parts.now h0 s0) (state own c.args.parts.now h1 s1))) c.in-Some.is c.in_ok-open_table.ensures.has in
    makes_put c.args.c.now c.args.shape.now c.args.table.now c.args.parts.now h0 s0 c.requires.feeding c.in-Some.own c.put.new.table (Some c.put.new.table) c.put.new.parts h1 h2 s1 s2 opened
    (made_then (over c.args.parts.now h0 s0) (over c.args.parts.now h1 s1) (over c.put.new.parts h2 s2) c.in_ok-open_table.ensures.made c.put.ensures.works.made) c.put.ensures.works.few

pub returns-clause-leaves : goal.returns-clause-leaves
returns-clause-leaves g c =
    let h0 : Holdings = g.St.Store.holds c.args.store.now in
    let h1 : Holdings = g.St.Store.holds c.open_table.new.store in
    let h2 : Holdings = g.St.Store.holds c.put.new.store in
    let s0 : Signs = g.St.Store.signs c.args.store.now in
    let s1 : Signs = g.St.Store.signs c.open_table.new.store in
    let s2 : Signs = g.St.Store.signs c.put.new.store in
    leaves_then c.args.c.now.tracker (state c.in-Some.own c.args.parts.now h0 s0) (state c.in-Some.own c.args.parts.now h1 s1) (state c.put.new.table c.put.new.parts h2 s2) c.in_ok-open_table.ensures.leaves c.put.ensures.works.leaves

pub returns-clause-cause : goal.returns-clause-cause
returns-clause-cause g c =
    cause_after (g.St.Store.signs c.args.store.now) (g.St.Store.signs c.open_table.new.store) (g.St.Store.signs c.put.new.store) c.put.result c.in_ok-open_table.ensures.leaves.grows c.put.ensures.cause

pub returns-clause-slots : goal.returns-clause-slots
returns-clause-slots g c = slots_then c.args.parts.now.page_blocks c.args.parts.now.page_blocks _ _ _ refl c.in_ok-open_table.ensures.slots c.put.ensures.works.slots

pub returns-in_err-open_table-clause-enough : goal.returns-in_err-open_table-clause-enough
returns-in_err-open_table-clause-enough g c =
    let h0 : Holdings = g.St.Store.holds c.args.store.now in
    let s0 : Signs = g.St.Store.signs c.args.store.now in
    let op : Operator = operator c.args.c.now c.args.shape.now c.args.parts.now c.args.table.now in
    let want : (rows : List (List Value)) → Holds rows op h0 s0 → 0 < page_of op h0 → IsWantBelow (slots_for 16 op h0 rows) (slots_in (over c.args.parts.now h0 s0)) c.in_err-open_table.field-0.0 =
    want_unput c.law_scratch.ensures.pages c.law_scratch.ensures.want c.args.c.now c.args.shape.now c.args.table.now c.args.parts.now h0 s0 c.law_stack.ensures c.requires.feeding (g.St.Store.holds c.open_table.new.store) (g.St.Store.signs c.open_table.new.store) c.in_err-open_table.field-0.0
    c.requires.op.has c.open_table.ensures.slots c.in_err-open_table.ensures.full in
    let same : c.from_residual.result ≡ Err c.in_err-open_table.field-0.0 = search rules in
    rw same want

pub returns-clause-enough : goal.returns-clause-enough
returns-clause-enough g c =
    let h0 : Holdings = g.St.Store.holds c.args.store.now in
    let h1 : Holdings = g.St.Store.holds c.open_table.new.store in
    let h2 : Holdings = g.St.Store.holds c.put.new.store in
    let s0 : Signs = g.St.Store.signs c.args.store.now in
    let s1 : Signs = g.St.Store.signs c.open_table.new.store in
    let s2 : Signs = g.St.Store.signs c.put.new.store in
    let opened : HasOpened c.args.shape.now c.args.table.now c.in-Some.own (state c.in-Some.own c.args.parts.now h0 s0) (state c.in-Some.own c.args.parts.now h1 s1) =
    subst (λ (o : Option Table). IfSome o (λ own. HasOpened c.args.shape.now c.args.table.now own (state own c.args.parts.now h0 s0) (state own c.args.parts.now h1 s1))) c.in-Some.is c.in_ok-open_table.ensures.has in
    want_put c.law_scratch.ensures.pages c.law_scratch.ensures.want c.args.c.now c.args.shape.now c.args.table.now c.args.parts.now h0 s0 c.law_stack.ensures c.requires.feeding c.in-Some.own c.put.new.table c.put.new.parts
    h1 h2 s1 s2 c.put.result opened (returns-clause-slots g c) c.put.ensures.works c.in_ok-open_table.ensures.leaves.others.block_len c.put.ensures.stand c.put.ensures.full
