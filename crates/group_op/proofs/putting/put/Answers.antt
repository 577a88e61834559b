use Rattle.std.proofs.Common.{◌≡◌, ◌≤◌, ℕ, Err, length, ap, sym, subst, arith, rules}
use Rattle.store_api.proofs.Answered.{answered_before}
use Rattle.bucket_table.specs.Tables.{Table, used_by}
use Rattle.partition_stack.proofs.Results.{any_err}
use Rattle.group_op.specs.Held.{State, page_len, rows_of, state}
use Rattle.group_op.specs.Putting.{HasGrown, IsTooLong}
use Rattle.group_op.proofs.Growth.{grown_none, grown_then_works}
use Rattle.group_op.proofs.Entering.{cause_after, entries_new, flushed_moved, four_long, put_grown, put_of_here, rows_formed, works_len}
use Rattle.group_op.proofs.Keeping.{room_of_fan, works_nodes}
use Rattle.group_op.proofs.RowForms.{partial_is_framed}
use Rattle.group_op.proofs.Weighing.{crowded_long, too_long}
use Rattle.group_op.proofs.Wants.{stand_after}
use Rattle.group_op.proofs.Passing.{put_passed, some_rows, stand_passed, works_passed}
use Rattle.group_op.proofs.putting.put.Goals as goal

pub returns-in_err-flush-clause-works : goal.returns-in_err-flush-clause-works
returns-in_err-flush-clause-works g c =
    let a : State = state c.args.table.now c.args.parts.now (g.St.Store.holds c.args.store.now) (g.St.Store.signs c.args.store.now) in
    let m : State = state c.put_here.new.table c.args.parts.now (g.St.Store.holds c.put_here.new.store) (g.St.Store.signs c.put_here.new.store) in
    let b : State = state c.flush.new.table c.flush.new.parts (g.St.Store.holds c.flush.new.store) (g.St.Store.signs c.flush.new.store) in
    grown_then_works c.args.c.now.tracker c.args.shape.now a m b (c.put_here.ensures.grown c.if-put_here.false) c.flush.ensures.works

pub returns-in_err-flush-clause-cause : goal.returns-in_err-flush-clause-cause
returns-in_err-flush-clause-cause g c =
    let same : c.from_residual.result ≡ Err c.in_err-flush.field-0.0 = search rules in
    rw same (answered_before c.in_err-flush.field-0.0 (g.St.Store.signs c.args.store.now) (g.St.Store.signs c.put_here.new.store) (g.St.Store.signs c.flush.new.store) c.put_here.ensures.works.leaves.grows c.in_err-flush.ensures.cause)

pub add_entry-requires-clause-row : goal.add_entry-requires-clause-row
add_entry-requires-clause-row g c = partial_is_framed c.args.shape.now c.args.row.now c.requires.row

pub add_entry-requires-clause-room : goal.add_entry-requires-clause-room
add_entry-requires-clause-room g c =
    let t : ℕ = c.args.c.now.tracker in
    let table = c.in_ok-flush.ensures.ok.table in
    let none : used_by c.flush.new.table.nodes ≡ 0 = ap (λ (x : Table). used_by x.nodes) table in
    let room : c.flush.new.table.room ≡ c.put_here.new.table.room = ap (λ (x : Table). x.room) table in
    let roomy = c.put_here.ensures.works.entries.roomy in
    let len : page_len (state c.put_here.new.table c.args.parts.now (g.St.Store.holds c.put_here.new.store) (g.St.Store.signs c.put_here.new.store)) ≡ page_len (state c.args.table.now c.args.parts.now (g.St.Store.holds c.args.store.now) (g.St.Store.signs c.args.store.now)) = works_len t c.args.shape.now _ _ c.put_here.ensures.works in
    let short = c.requires.short in
    let four = four_long c.args.shape.now c.args.row.now c.requires.row in
    omega (arith, none, room, roomy, len, short, four)

pub returns-clause-ok : goal.returns-clause-ok
returns-clause-ok g c =
    let t : ℕ = c.args.c.now.tracker in
    let shape = c.args.shape.now in
    let a : State = state c.args.table.now c.args.parts.now (g.St.Store.holds c.args.store.now) (g.St.Store.signs c.args.store.now) in
    let m : State = state c.put_here.new.table c.args.parts.now (g.St.Store.holds c.put_here.new.store) (g.St.Store.signs c.put_here.new.store) in
    let b : State = state c.flush.new.table c.flush.new.parts (g.St.Store.holds c.flush.new.store) (g.St.Store.signs c.flush.new.store) in
    let grown : HasGrown t shape a m = c.put_here.ensures.grown c.if-put_here.false in
    rw c.add_entry.ensures
    (put_grown shape c.args.fan.level c.args.fan.base c.args.hash c.args.row.now t a m c.flush.new.table c.flush.new.parts (g.St.Store.holds c.flush.new.store) (g.St.Store.signs c.flush.new.store) grown (c.put_here.ensures.lacks c.if-put_here.false)
    (subst (λ (n : ℕ). IsTooLong shape n c.args.row.now (rows_of c.args.table.now)) (works_len t shape a m c.put_here.ensures.works)
    (too_long shape (page_len m) c.args.row.now m.table (rows_of c.args.table.now) grown.rows c.put_here.ensures.works.entries (c.put_here.ensures.full c.if-put_here.false) (c.put_here.ensures.lacks c.if-put_here.false)))
    (flushed_moved t shape c.args.fan.level c.args.fan.base m b (rows_formed shape _ m.table.heads m.table.nodes grown.works.entries.each) c.in_ok-flush.ensures.ok))

pub returns-clause-works : goal.returns-clause-works
returns-clause-works g c =
    let t : ℕ = c.args.c.now.tracker in
    let a : State = state c.args.table.now c.args.parts.now (g.St.Store.holds c.args.store.now) (g.St.Store.signs c.args.store.now) in
    let m : State = state c.put_here.new.table c.args.parts.now (g.St.Store.holds c.put_here.new.store) (g.St.Store.signs c.put_here.new.store) in
    let b : State = state c.flush.new.table c.flush.new.parts (g.St.Store.holds c.flush.new.store) (g.St.Store.signs c.flush.new.store) in
    let works = grown_then_works t c.args.shape.now a m b (c.put_here.ensures.grown c.if-put_here.false) c.in_ok-flush.ensures.works in
    let len : page_len (state c.flush.new.table c.flush.new.parts (g.St.Store.holds c.flush.new.store) (g.St.Store.signs c.flush.new.store)) ≡ page_len (state c.args.table.now c.args.parts.now (g.St.Store.holds c.args.store.now) (g.St.Store.signs c.args.store.now)) = works_len t c.args.shape.now a b works in
    rw c.add_entry.ensures
    (works_nodes t c.args.shape.now a _ c.flush.new.table c.flush.new.parts (g.St.Store.holds c.flush.new.store) (g.St.Store.signs c.flush.new.store) works
    (entries_new c.args.shape.now _ c.args.hash c.args.row.now c.flush.new.table works.entries c.requires.row (subst (λ (n : ℕ). length c.args.row.now ≤ n) (sym len) c.requires.short) c.requires.hash))

pub returns-then-put_here-clause-ok : goal.returns-then-put_here-clause-ok
returns-then-put_here-clause-ok g c =
    put_of_here c.args.shape.now c.args.fan.level c.args.fan.base c.args.row.now (state c.args.table.now c.args.parts.now (g.St.Store.holds c.args.store.now) (g.St.Store.signs c.args.store.now)) (state c.put_here.new.table c.args.parts.now (g.St.Store.holds c.put_here.new.store) (g.St.Store.signs c.put_here.new.store))
    (c.put_here.ensures.put c.if-put_here.true)

pub returns-then-put_here-clause-few : goal.returns-then-put_here-clause-few
returns-then-put_here-clause-few g c = omega arith

pub returns-then-put_here-clause-left : goal.returns-then-put_here-clause-left
returns-then-put_here-clause-left g c = let fewer = (c.put_here.ensures.put c.if-put_here.true).fewer in omega (arith, fewer)

pub returns-in_err-flush-clause-few : goal.returns-in_err-flush-clause-few
returns-in_err-flush-clause-few g c =
    let few = c.flush.ensures.few in
    let rows = ap length (c.put_here.ensures.grown c.if-put_here.false).rows in
    omega (arith, few, rows)

pub returns-clause-few : goal.returns-clause-few
returns-clause-few g c =
    let few = c.flush.ensures.few in
    let rows = ap length (c.put_here.ensures.grown c.if-put_here.false).rows in
    omega (arith, few, rows)

pub returns-clause-left : goal.returns-clause-left
returns-clause-left g c =
    let few = c.flush.ensures.few in
    let rows = ap length (c.put_here.ensures.grown c.if-put_here.false).rows in
    let none : length (rows_of c.flush.new.table) ≡ 0 = ap (λ (x : Table). length (rows_of x)) c.in_ok-flush.ensures.ok.table in
    rw c.add_entry.ensures (omega (arith, few, rows, none))

pub returns-in_err-flush-clause-stand : goal.returns-in_err-flush-clause-stand
returns-in_err-flush-clause-stand g c =
    let a : State = state c.args.table.now c.args.parts.now (g.St.Store.holds c.args.store.now) (g.St.Store.signs c.args.store.now) in
    let m : State = state c.put_here.new.table c.args.parts.now (g.St.Store.holds c.put_here.new.store) (g.St.Store.signs c.put_here.new.store) in
    let b : State = state c.flush.new.table c.flush.new.parts (g.St.Store.holds c.flush.new.store) (g.St.Store.signs c.flush.new.store) in
    let grown = c.put_here.ensures.grown c.if-put_here.false in
    any_err c.from_residual.result (stand_after a m b grown.rows grown.works.many grown.deals c.in_err-flush.ensures.stand)

-- ---- a crowded table that is bypassed

pub send-requires-clause-room : goal.send-requires-clause-room
send-requires-clause-room g c =
    room_of_fan c.args.c.now.tracker c.args.fan.level c.args.fan.base c.args.fan.from c.args.table.now c.args.parts.now (g.St.Store.holds c.args.store.now) (g.St.Store.signs c.args.store.now) c.requires.held c.requires.fan

pub returns-then-is_crowded-clause-ok : goal.returns-then-is_crowded-clause-ok
returns-then-is_crowded-clause-ok g c =
    let t : ℕ = c.args.c.now.tracker in
    let shape = c.args.shape.now in
    let a : State = state c.args.table.now c.args.parts.now (g.St.Store.holds c.args.store.now) (g.St.Store.signs c.args.store.now) in
    let four = four_long shape c.args.row.now c.requires.row in
    put_passed t shape c.args.fan.level c.args.fan.base c.args.fan.from c.args.row.now a c.args.table.now c.args.parts.now c.send.new.parts (g.St.Store.holds c.args.store.now) (g.St.Store.holds c.send.new.store) (g.St.Store.signs c.args.store.now) (g.St.Store.signs c.send.new.store)
    (grown_none t shape c.args.table.now c.args.parts.now (g.St.Store.holds c.args.store.now) (g.St.Store.signs c.args.store.now) c.requires.held c.requires.entries) c.send.result c.requires.row
    (crowded_long shape (page_len a) c.args.row.now c.args.table.now c.requires.entries (c.is_crowded.ensures.0 c.if-is_crowded.true) c.requires.short four)
    c.send.ensures.went c.send.ensures.at_end

pub returns-then-is_crowded-clause-works : goal.returns-then-is_crowded-clause-works
returns-then-is_crowded-clause-works g c =
    let t : ℕ = c.args.c.now.tracker in
    let shape = c.args.shape.now in
    let a : State = state c.args.table.now c.args.parts.now (g.St.Store.holds c.args.store.now) (g.St.Store.signs c.args.store.now) in
    let crowded = c.is_crowded.ensures.0 c.if-is_crowded.true in
    let some = some_rows c.args.table.now.nodes (page_len a) c.args.table.now.room (length c.args.row.now) c.requires.entries.roomy crowded.1 c.requires.short (four_long shape c.args.row.now c.requires.row) in
    works_passed t shape c.args.fan.level c.args.fan.base c.args.fan.from c.args.row.now a c.args.table.now c.args.parts.now c.send.new.parts (g.St.Store.holds c.args.store.now) (g.St.Store.holds c.send.new.store) (g.St.Store.signs c.args.store.now) (g.St.Store.signs c.send.new.store)
    (grown_none t shape c.args.table.now c.args.parts.now (g.St.Store.holds c.args.store.now) (g.St.Store.signs c.args.store.now) c.requires.held c.requires.entries) _ c.send.ensures.went c.send.ensures.changes some c.send.ensures.few

pub returns-then-is_crowded-clause-few : goal.returns-then-is_crowded-clause-few
returns-then-is_crowded-clause-few g c =
    let a : State = state c.args.table.now c.args.parts.now (g.St.Store.holds c.args.store.now) (g.St.Store.signs c.args.store.now) in
    let crowded = c.is_crowded.ensures.0 c.if-is_crowded.true in
    let some = some_rows c.args.table.now.nodes (page_len a) c.args.table.now.room (length c.args.row.now) c.requires.entries.roomy crowded.1 c.requires.short (four_long c.args.shape.now c.args.row.now c.requires.row) in
    let few = c.send.ensures.few in
    omega (arith, few, some)

pub returns-then-is_crowded-clause-stand : goal.returns-then-is_crowded-clause-stand
returns-then-is_crowded-clause-stand g c =
    let t : ℕ = c.args.c.now.tracker in
    let shape = c.args.shape.now in
    let a : State = state c.args.table.now c.args.parts.now (g.St.Store.holds c.args.store.now) (g.St.Store.signs c.args.store.now) in
    stand_passed t shape c.args.fan.level c.args.fan.base c.args.fan.from c.args.row.now a c.args.table.now c.args.parts.now c.send.new.parts (g.St.Store.holds c.args.store.now) (g.St.Store.holds c.send.new.store) (g.St.Store.signs c.args.store.now) (g.St.Store.signs c.send.new.store)
    (grown_none t shape c.args.table.now c.args.parts.now (g.St.Store.holds c.args.store.now) (g.St.Store.signs c.args.store.now) c.requires.held c.requires.entries) c.send.result c.requires.fan c.send.ensures.went

-- ---- a full one, which hasn't the row's key

pub returns-then-lets_pass-clause-ok : goal.returns-then-lets_pass-clause-ok
returns-then-lets_pass-clause-ok g c =
    let t : ℕ = c.args.c.now.tracker in
    let shape = c.args.shape.now in
    let a : State = state c.args.table.now c.args.parts.now (g.St.Store.holds c.args.store.now) (g.St.Store.signs c.args.store.now) in
    let m : State = state c.put_here.new.table c.args.parts.now (g.St.Store.holds c.put_here.new.store) (g.St.Store.signs c.put_here.new.store) in
    let grown : HasGrown t shape a m = c.put_here.ensures.grown c.if-put_here.false in
    put_passed c.args.c.now.tracker c.args.shape.now c.args.fan.level c.args.fan.base c.args.fan.from c.args.row.now (state c.args.table.now c.args.parts.now (g.St.Store.holds c.args.store.now) (g.St.Store.signs c.args.store.now)) c.put_here.new.table c.args.parts.now c.send-then-lets_pass.new.parts (g.St.Store.holds c.put_here.new.store) (g.St.Store.holds c.send-then-lets_pass.new.store) (g.St.Store.signs c.put_here.new.store) (g.St.Store.signs c.send-then-lets_pass.new.store) (c.put_here.ensures.grown c.if-put_here.false) c.send-then-lets_pass.result c.requires.row
    (subst (λ (n : ℕ). IsTooLong shape n c.args.row.now (rows_of c.args.table.now)) (works_len t shape a m c.put_here.ensures.works)
    (too_long shape (page_len m) c.args.row.now m.table (rows_of c.args.table.now) grown.rows c.put_here.ensures.works.entries (c.put_here.ensures.full c.if-put_here.false) (c.put_here.ensures.lacks c.if-put_here.false)))
    c.send-then-lets_pass.ensures.went c.send-then-lets_pass.ensures.at_end

pub returns-then-lets_pass-clause-works : goal.returns-then-lets_pass-clause-works
returns-then-lets_pass-clause-works g c =
    let t : ℕ = c.args.c.now.tracker in
    let a : State = state c.args.table.now c.args.parts.now (g.St.Store.holds c.args.store.now) (g.St.Store.signs c.args.store.now) in
    let m : State = state c.put_here.new.table c.args.parts.now (g.St.Store.holds c.put_here.new.store) (g.St.Store.signs c.put_here.new.store) in
    let short : length c.args.row.now ≤ page_len m = subst (λ (n : ℕ). length c.args.row.now ≤ n) (sym (works_len t c.args.shape.now a m c.put_here.ensures.works)) c.requires.short in
    let some =
    some_rows c.put_here.new.table.nodes (page_len m) c.put_here.new.table.room (length c.args.row.now) c.put_here.ensures.works.entries.roomy (c.put_here.ensures.full c.if-put_here.false) short (four_long c.args.shape.now c.args.row.now c.requires.row) in
    works_passed c.args.c.now.tracker c.args.shape.now c.args.fan.level c.args.fan.base c.args.fan.from c.args.row.now (state c.args.table.now c.args.parts.now (g.St.Store.holds c.args.store.now) (g.St.Store.signs c.args.store.now)) c.put_here.new.table c.args.parts.now c.send-then-lets_pass.new.parts (g.St.Store.holds c.put_here.new.store) (g.St.Store.holds c.send-then-lets_pass.new.store) (g.St.Store.signs c.put_here.new.store) (g.St.Store.signs c.send-then-lets_pass.new.store) (c.put_here.ensures.grown c.if-put_here.false) _ c.send-then-lets_pass.ensures.went c.send-then-lets_pass.ensures.changes some c.send-then-lets_pass.ensures.few

pub returns-then-lets_pass-clause-few : goal.returns-then-lets_pass-clause-few
returns-then-lets_pass-clause-few g c =
    let t : ℕ = c.args.c.now.tracker in
    let a : State = state c.args.table.now c.args.parts.now (g.St.Store.holds c.args.store.now) (g.St.Store.signs c.args.store.now) in
    let m : State = state c.put_here.new.table c.args.parts.now (g.St.Store.holds c.put_here.new.store) (g.St.Store.signs c.put_here.new.store) in
    let short : length c.args.row.now ≤ page_len m = subst (λ (n : ℕ). length c.args.row.now ≤ n) (sym (works_len t c.args.shape.now a m c.put_here.ensures.works)) c.requires.short in
    let some =
    some_rows c.put_here.new.table.nodes (page_len m) c.put_here.new.table.room (length c.args.row.now) c.put_here.ensures.works.entries.roomy (c.put_here.ensures.full c.if-put_here.false) short (four_long c.args.shape.now c.args.row.now c.requires.row) in
    let few = c.send-then-lets_pass.ensures.few in
    let rows = ap length (c.put_here.ensures.grown c.if-put_here.false).rows in
    omega (arith, few, rows, some)

pub returns-then-lets_pass-clause-stand : goal.returns-then-lets_pass-clause-stand
returns-then-lets_pass-clause-stand g c = stand_passed c.args.c.now.tracker c.args.shape.now c.args.fan.level c.args.fan.base c.args.fan.from c.args.row.now (state c.args.table.now c.args.parts.now (g.St.Store.holds c.args.store.now) (g.St.Store.signs c.args.store.now)) c.put_here.new.table c.args.parts.now c.send-then-lets_pass.new.parts (g.St.Store.holds c.put_here.new.store) (g.St.Store.holds c.send-then-lets_pass.new.store) (g.St.Store.signs c.put_here.new.store) (g.St.Store.signs c.send-then-lets_pass.new.store) (c.put_here.ensures.grown c.if-put_here.false) c.send-then-lets_pass.result c.requires.fan c.send-then-lets_pass.ensures.went

pub returns-then-lets_pass-clause-cause : goal.returns-then-lets_pass-clause-cause
returns-then-lets_pass-clause-cause g c =
    cause_after (g.St.Store.signs c.args.store.now) (g.St.Store.signs c.put_here.new.store) (g.St.Store.signs c.send-then-lets_pass.new.store) c.send-then-lets_pass.result c.put_here.ensures.works.leaves.grows c.send-then-lets_pass.ensures.cause
