use Rattle.std.proofs.Common.{◌∙◌, ℕ, sym}
use Rattle.store_api.specs.Holdings.{Holdings, length_of}
use Rattle.bucket_table.proofs.Widened.{alike_same}
use Rattle.bucket_table.specs.Tables.{Table}
use Rattle.group_op.proofs.Entering.{so_ok}
use Rattle.group_op.proofs.Gained.{so_err, widened_got}
use Rattle.group_op.proofs.Growth.{grown_none, grown_untouched, grown_whole, held_reserved, on_ok}
use Rattle.group_op.proofs.growing.widen.Goals as goal

pub returns-then-len : goal.returns-then-len
returns-then-len g c =
    grown_none c.args.c.now.tracker c.args.shape.now c.args.table.now c.args._parts.now (g.St.Store.holds c.args.store.now) (g.St.Store.signs c.args.store.now) c.requires.held c.requires.entries

pub returns-then-is_err : goal.returns-then-is_err
returns-then-is_err g c =
    grown_untouched c.args.c.now.tracker c.args.shape.now c.args.table.now c.args._parts.now (g.St.Store.holds c.args.store.now) (g.St.Store.holds c.reserve.new.self) (g.St.Store.signs c.args.store.now) (g.St.Store.signs c.reserve.new.self)
    c.requires.held c.requires.entries c.reserve.ensures.grows c.reserve.result (sym c.is_err.ensures.value ∙ c.if-is_err.true) c.reserve.ensures.err

pub widen-widened-requires-clause-table : goal.widen-widened-requires-clause-table
widen-widened-requires-clause-table g c =
    let old : Holdings = g.St.Store.holds c.args.store.now in
    let mid : Holdings = g.St.Store.holds c.reserve.new.self in
    let is = on_ok c.reserve.result (sym c.is_err.ensures.value ∙ c.if-is_err.false) c.reserve.ensures.ok in
    (held_reserved c.args.c.now.tracker c.head_bytes-len.result c.args.table.now c.args._parts.now old mid (g.St.Store.signs c.args.store.now) (g.St.Store.signs c.reserve.new.self) c.requires.held is).table

pub returns : goal.returns
returns g c =
    let t : ℕ = c.args.c.now.tracker in
    let table : Table = c.args.table.now in
    let old : Holdings = g.St.Store.holds c.args.store.now in
    let mid : Holdings = g.St.Store.holds c.reserve.new.self in
    let new : Holdings = g.St.Store.holds c.widen-widened.new.store in
    let well = sym c.is_err.ensures.value ∙ c.if-is_err.false in
    let is = on_ok c.reserve.result well c.reserve.ensures.ok in
    let made = on_ok c.reserve.result well c.reserve.ensures.entries in
    let wide = c.widen-widened.ensures in
    grown_whole t c.args.shape.now table c.args._parts.now old mid (g.St.Store.signs c.args.store.now) (g.St.Store.signs c.reserve.new.self) c.requires.held c.requires.entries
    old.session c.head_bytes-len.result is c.reserve.ensures.grows made c.widen-widened.new.self new (g.St.Store.signs c.widen-widened.new.store) c.widen-widened.result
    wide.grows wide.entries wide.table
    (so_ok _ _ c.widen-widened.result (widened_got c.law_row_back.ensures.law t c.head_bytes-len.result c.args.shape.now (length_of c.args._parts.now.page_blocks mid) table c.widen-widened.new.self mid new c.requires.held.client (sym c.head_bytes-len.ensures)) wide.ok)
    wide.err (so_err _ _ c.widen-widened.result (alike_same mid new) wide.held)
