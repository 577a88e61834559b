use Rattle.std.proofs.Common.{rules, ◌≡◌, ◌*◌, ℕ, [], length, Some, ap, sym, ◌∙◌, subst, arith}
use Rattle.store_api.specs.Holdings.{length_of}
use Rattle.store_api.specs.Signs.{WasAnswered}
use Rattle.store_api.proofs.Answered.{answered_before}
use Rattle.tuple_stream.proofs.FamilyChains.{lays_both}
use Rattle.bucket_table.specs.Tables.{newer_than}
use Rattle.group_op.proofs.NodeLists.{left_from}
use Rattle.partition_stack.specs.Stack.{over}
use Rattle.partition_stack.proofs.Results.{any_err}
use Rattle.group_op.specs.Stored.{IsPartialRow}
use Rattle.group_op.specs.Held.{IsEntry}
use Rattle.group_op.proofs.Keeping.{emptied_entries, works_nodes, works_touched}
use Rattle.group_op.proofs.Walking.{HasWalked, entry_is, few_stopped, few_walked, fan_kept, has_node, less, row_is, stand_stopped, stand_walked, walked_all, walked_more, walked_next, walked_none, walked_pages}
use Rattle.group_op.proofs.flushing.flush.Goals as goal

pub loop-next-init : goal.loop-next-init
loop-next-init g c =
    rw c.first_node-next.ensures.value (walked_none c.args.c.now.tracker c.args.shape.now c.args.fan.level c.args.fan.base c.args.fan.from c.args.table.now.nodes c.args.parts.now _ _ c.requires.held.owns.shaped c.requires.fan)

pub row_at-requires : goal.row_at-requires
row_at-requires g c =
    let walked : HasWalked c.args.c.now.tracker c.args.shape.now c.args.fan.level c.args.fan.base c.args.fan.from c.args.table.now.nodes (Some c.in-Some.node) (over c.args.parts.now (g.St.Store.holds c.args.store.now) (g.St.Store.signs c.args.store.now)) c.args.parts.now c.loop-next.parts (g.St.Store.holds c.loop-next.store) (g.St.Store.signs c.loop-next.store) =
    rw c.in-Some.is at c.loop-next.invariant in
    has_node _ _ _ _ _ _ _ _ _ _ _ _ c.requires.entries.behind walked

pub returns-in_err-row_at-clause-works : goal.returns-in_err-row_at-clause-works
returns-in_err-row_at-clause-works g c =
    let walked = c.loop-next.invariant in
    works_touched c.args.c.now.tracker c.args.shape.now c.args.table.now c.args.parts.now c.loop-next.parts _ _ _ _ c.requires.held c.requires.entries walked.feeds.steps walked.blocks walked.levels (few_walked _ _ _ _ _ _ c.args.table.now _ _ _ _ _ _ walked)

pub returns-in_default-hash_of_partial-clause-works : goal.returns-in_default-hash_of_partial-clause-works
returns-in_default-hash_of_partial-clause-works g c =
    let walked = c.loop-next.invariant in
    works_touched c.args.c.now.tracker c.args.shape.now c.args.table.now c.args.parts.now c.loop-next.parts _ _ _ _ c.requires.held c.requires.entries walked.feeds.steps walked.blocks walked.levels (few_walked _ _ _ _ _ _ c.args.table.now _ _ _ _ _ _ walked)

pub send-requires-clause-row : goal.send-requires-clause-row
send-requires-clause-row g c =
    let walked : HasWalked c.args.c.now.tracker c.args.shape.now c.args.fan.level c.args.fan.base c.args.fan.from c.args.table.now.nodes (Some c.in-Some.node) (over c.args.parts.now (g.St.Store.holds c.args.store.now) (g.St.Store.signs c.args.store.now)) c.args.parts.now c.loop-next.parts (g.St.Store.holds c.loop-next.store) (g.St.Store.signs c.loop-next.store) =
    rw c.in-Some.is at c.loop-next.invariant in
    let entry = entry_is _ _ _ _ _ _ _ _ _ _ _ _ c.requires.entries.behind walked (IsEntry c.args.shape.now (length_of c.args.parts.now.page_blocks (g.St.Store.holds c.args.store.now)) c.args.table.now.heads) c.requires.entries.each in
    let row = c.deref-in-Some.ensures.value ∙ c.in_ok-row_at.ensures.ok ∙ row_is _ _ _ _ _ _ _ _ _ _ _ _ c.requires.entries.behind walked in
    subst (IsPartialRow c.args.shape.now) (sym row) entry.row

pub send-requires-clause-short : goal.send-requires-clause-short
send-requires-clause-short g c =
    let walked : HasWalked c.args.c.now.tracker c.args.shape.now c.args.fan.level c.args.fan.base c.args.fan.from c.args.table.now.nodes (Some c.in-Some.node) (over c.args.parts.now (g.St.Store.holds c.args.store.now) (g.St.Store.signs c.args.store.now)) c.args.parts.now c.loop-next.parts (g.St.Store.holds c.loop-next.store) (g.St.Store.signs c.loop-next.store) =
    rw c.in-Some.is at c.loop-next.invariant in
    let entry = entry_is _ _ _ _ _ _ _ _ _ _ _ _ c.requires.entries.behind walked (IsEntry c.args.shape.now (length_of c.args.parts.now.page_blocks (g.St.Store.holds c.args.store.now)) c.args.table.now.heads) c.requires.entries.each in
    let row = c.deref-in-Some.ensures.value ∙ c.in_ok-row_at.ensures.ok ∙ row_is _ _ _ _ _ _ _ _ _ _ _ _ c.requires.entries.behind walked in
    let len : length_of c.loop-next.parts.page_blocks (g.St.Store.holds c.loop-next.store) ≡ length_of c.args.parts.now.page_blocks (g.St.Store.holds c.args.store.now) =
    ap (λ (n : ℕ). n * (g.St.Store.holds c.loop-next.store).block_len) walked.blocks ∙ ap (λ (n : ℕ). c.args.parts.now.page_blocks * n) walked.feeds.steps.touches.block_len in
    let short = entry.short in
    let long = ap length row in
    omega (arith, len, short, long)

pub returns-in_err-send-clause-works : goal.returns-in_err-send-clause-works
returns-in_err-send-clause-works g c =
    let walked = c.loop-next.invariant in
    works_touched c.args.c.now.tracker c.args.shape.now c.args.table.now c.args.parts.now c.send.new.parts _ _ _ _ c.requires.held c.requires.entries
    (lays_both _ _ _ c.args.c.now.tracker walked.feeds.at_end (λ (never : ⊥). never) walked.feeds.steps c.send.ensures.went.steps)
    (c.send.ensures.changes.blocks ∙ walked.blocks) (c.send.ensures.changes.levels ∙ walked.levels)
    (few_stopped _ _ _ _ _ _ _ c.args.table.now c.args.parts.now c.loop-next.parts c.send.new.parts _ _ _ _ _ _ walked c.in_err-send.ensures.went)

pub returns-in_err-send-clause-fan : goal.returns-in_err-send-clause-fan
returns-in_err-send-clause-fan g c =
    let walked = c.loop-next.invariant in
    fan_kept _ _ _ _ _ _ walked.fan (omega arith) c.send.ensures.changes c.send.ensures.went.steps.long

pub returns-in_err-send-clause-cause : goal.returns-in_err-send-clause-cause
returns-in_err-send-clause-cause g c =
    let came : WasAnswered c.in_err-send.field-0.0 (g.St.Store.signs c.args.store.now) (g.St.Store.signs c.send.new.store) =
    answered_before c.in_err-send.field-0.0 _ _ _ c.loop-next.invariant.feeds.steps.grows c.in_err-send.ensures.cause in
    search (rules, came)

pub next_node-next-requires : goal.next_node-next-requires
next_node-next-requires g c =
    let walked : HasWalked c.args.c.now.tracker c.args.shape.now c.args.fan.level c.args.fan.base c.args.fan.from c.args.table.now.nodes (Some c.in-Some.node) (over c.args.parts.now (g.St.Store.holds c.args.store.now) (g.St.Store.signs c.args.store.now)) c.args.parts.now c.loop-next.parts (g.St.Store.holds c.loop-next.store) (g.St.Store.signs c.loop-next.store) =
    rw c.in-Some.is at c.loop-next.invariant in
    has_node _ _ _ _ _ _ _ _ _ _ _ _ c.requires.entries.behind walked

pub loop-next-smaller : goal.loop-next-smaller
loop-next-smaller g c =
    let walked : HasWalked c.args.c.now.tracker c.args.shape.now c.args.fan.level c.args.fan.base c.args.fan.from c.args.table.now.nodes (Some c.in-Some.node) (over c.args.parts.now (g.St.Store.holds c.args.store.now) (g.St.Store.signs c.args.store.now)) c.args.parts.now c.loop-next.parts (g.St.Store.holds c.loop-next.store) (g.St.Store.signs c.loop-next.store) =
    rw c.in-Some.is at c.loop-next.invariant in
    let fewer = less _ _ _ _ _ _ _ _ _ _ _ _ c.requires.entries.behind walked in
    let now : left_from c.args.table.now.nodes c.next_node-next.result ≡ left_from c.args.table.now.nodes (newer_than c.in-Some.node c.args.table.now.nodes) = ap (left_from c.args.table.now.nodes) c.next_node-next.ensures.value in
    let was : left_from c.args.table.now.nodes c.loop-next.next ≡ left_from c.args.table.now.nodes (Some c.in-Some.node) = ap (left_from c.args.table.now.nodes) c.in-Some.is in
    omega (arith, fewer, now, was)

pub loop-next-preserved : goal.loop-next-preserved
loop-next-preserved g c =
    let walked : HasWalked c.args.c.now.tracker c.args.shape.now c.args.fan.level c.args.fan.base c.args.fan.from c.args.table.now.nodes (Some c.in-Some.node) (over c.args.parts.now (g.St.Store.holds c.args.store.now) (g.St.Store.signs c.args.store.now)) c.args.parts.now c.loop-next.parts (g.St.Store.holds c.loop-next.store) (g.St.Store.signs c.loop-next.store) =
    rw c.in-Some.is at c.loop-next.invariant in
    rw c.next_node-next.ensures.value
    (walked_more _ _ _ _ _ _ _ _ _ _ _ _ c.requires.entries.behind walked c.send.new.parts _ _ c.deref-in-Some.result.now (c.deref-in-Some.ensures.value ∙ c.in_ok-row_at.ensures.ok) c.in_ok-send.ensures.went c.in_ok-send.ensures.at_end c.in_ok-send.ensures.changes c.send.ensures.few)

pub returns-clause-ok : goal.returns-clause-ok
returns-clause-ok g c =
    record {
      table = c.clear.ensures;
      feeds = walked_all _ _ _ _ _ _ _ _ _ _ _ _ c.loop-next.invariant c.in_default.is;
    }

pub returns-clause-works : goal.returns-clause-works
returns-clause-works g c =
    let walked = c.loop-next.invariant in
    let works = works_touched c.args.c.now.tracker c.args.shape.now c.args.table.now c.args.parts.now c.loop-next.parts _ _ _ _ c.requires.held c.requires.entries walked.feeds.steps walked.blocks walked.levels (few_walked _ _ _ _ _ _ c.args.table.now _ _ _ _ _ _ walked) in
    rw c.clear.ensures (works_nodes _ _ _ [] c.args.table.now c.loop-next.parts _ _ works (emptied_entries _ _ c.args.table.now works.entries))

pub returns-in_err-row_at-clause-few : goal.returns-in_err-row_at-clause-few
returns-in_err-row_at-clause-few g c = walked_pages _ _ _ _ _ _ _ _ _ _ _ _ c.loop-next.invariant

pub returns-in_default-hash_of_partial-clause-few : goal.returns-in_default-hash_of_partial-clause-few
returns-in_default-hash_of_partial-clause-few g c = walked_pages _ _ _ _ _ _ _ _ _ _ _ _ c.loop-next.invariant

pub returns-in_err-send-clause-few : goal.returns-in_err-send-clause-few
returns-in_err-send-clause-few g c =
    let walked : HasWalked c.args.c.now.tracker c.args.shape.now c.args.fan.level c.args.fan.base c.args.fan.from c.args.table.now.nodes (Some c.in-Some.node) (over c.args.parts.now (g.St.Store.holds c.args.store.now) (g.St.Store.signs c.args.store.now)) c.args.parts.now c.loop-next.parts (g.St.Store.holds c.loop-next.store) (g.St.Store.signs c.loop-next.store) =
    rw c.in-Some.is at c.loop-next.invariant in
    walked_next _ _ _ _ _ _ _ _ _ _ _ _ c.requires.entries.behind walked c.send.new.parts (g.St.Store.holds c.send.new.store) (g.St.Store.signs c.send.new.store) c.send.ensures.few

pub returns-clause-few : goal.returns-clause-few
returns-clause-few g c = walked_pages _ _ _ _ _ _ _ _ _ _ _ _ c.loop-next.invariant

pub returns-in_err-row_at-clause-stand : goal.returns-in_err-row_at-clause-stand
returns-in_err-row_at-clause-stand g c = any_err c.from_residual.result (stand_walked _ _ _ _ _ _ c.args.table.now c.args.parts.now c.loop-next.parts _ _ _ _ c.loop-next.invariant)

pub returns-in_default-hash_of_partial-clause-stand : goal.returns-in_default-hash_of_partial-clause-stand
returns-in_default-hash_of_partial-clause-stand g c = stand_walked _ _ _ _ _ _ c.args.table.now c.args.parts.now c.loop-next.parts _ _ _ _ c.loop-next.invariant

pub returns-in_err-send-clause-stand : goal.returns-in_err-send-clause-stand
returns-in_err-send-clause-stand g c =
    any_err c.from_residual-in_err-send.result
    (stand_stopped _ _ _ _ _ _ _ c.args.table.now c.args.parts.now c.loop-next.parts c.send.new.parts _ _ _ _ _ _ c.loop-next.invariant c.in_err-send.ensures.went)
