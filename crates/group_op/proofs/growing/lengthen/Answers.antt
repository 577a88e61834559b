use Rattle.std.proofs.Common.{◌≡◌, ◌∙◌, ◌*◌, ℕ, ap, sym}
use Rattle.store_api.specs.Holdings.{Holdings, length_of}
use Rattle.bucket_table.specs.Tables.{Table}
use Rattle.group_op.proofs.Entering.{so_ok}
use Rattle.group_op.proofs.Gained.{grew_got}
use Rattle.group_op.proofs.Growth.{grown_none, grown_untouched, grown_whole, held_reserved, on_ok}
use Rattle.group_op.proofs.growing.lengthen.Goals as goal

pub returns-then-room-len : goal.returns-then-room-len
returns-then-room-len g c =
    grown_none c.args.c.now.tracker c.args._shape.now c.args.table.now c.args.parts.now (g.St.Store.holds c.args.store.now) (g.St.Store.signs c.args.store.now) c.requires.held c.requires.entries

pub returns-then-is_err : goal.returns-then-is_err
returns-then-is_err g c =
    grown_untouched c.args.c.now.tracker c.args._shape.now c.args.table.now c.args.parts.now (g.St.Store.holds c.args.store.now) (g.St.Store.holds c.reserve.new.self) (g.St.Store.signs c.args.store.now) (g.St.Store.signs c.reserve.new.self)
    c.requires.held c.requires.entries c.reserve.ensures.grows c.reserve.result (sym c.is_err.ensures.value ∙ c.if-is_err.true) c.reserve.ensures.err

pub grow-grown-requires-clause-table : goal.grow-grown-requires-clause-table
grow-grown-requires-clause-table g c =
    let old : Holdings = g.St.Store.holds c.args.store.now in
    let mid : Holdings = g.St.Store.holds c.reserve.new.self in
    let is = on_ok c.reserve.result (sym c.is_err.ensures.value ∙ c.if-is_err.false) c.reserve.ensures.ok in
    (held_reserved c.args.c.now.tracker (c.from.result * c.from-2.result) c.args.table.now c.args.parts.now old mid (g.St.Store.signs c.args.store.now) (g.St.Store.signs c.reserve.new.self) c.requires.held is).table

pub returns : goal.returns
returns g c =
    let t : ℕ = c.args.c.now.tracker in
    let table : Table = c.args.table.now in
    let old : Holdings = g.St.Store.holds c.args.store.now in
    let mid : Holdings = g.St.Store.holds c.reserve.new.self in
    let new : Holdings = g.St.Store.holds c.grow-grown.new.store in
    let len : c.from.result * c.from-2.result ≡ length_of c.args.parts.now.page_blocks old =
    ap (λ (n : ℕ). n * c.from-2.result) (c.from.ensures ∙ c.page_blocks.ensures) ∙ ap (λ (n : ℕ). c.args.parts.now.page_blocks * n) (c.from-2.ensures ∙ c.block_len.ensures.value) in
    let page : table.page_blocks * table.block_len ≡ c.from.result * c.from-2.result =
    ap (λ (n : ℕ). n * table.block_len) c.requires.held.blocks ∙ ap (λ (n : ℕ). c.args.parts.now.page_blocks * n) c.requires.held.table.block_len ∙ sym len in
    let well = sym c.is_err.ensures.value ∙ c.if-is_err.false in
    let is = on_ok c.reserve.result well c.reserve.ensures.ok in
    let made = on_ok c.reserve.result well c.reserve.ensures.entries in
    let grown = c.grow-grown.ensures in
    grown_whole t c.args._shape.now table c.args.parts.now old mid (g.St.Store.signs c.args.store.now) (g.St.Store.signs c.reserve.new.self) c.requires.held c.requires.entries
    old.session (c.from.result * c.from-2.result) is c.reserve.ensures.grows made c.grow-grown.new.self new (g.St.Store.signs c.grow-grown.new.store) c.grow-grown.result
    grown.grows grown.entries grown.table
    (so_ok _ _ c.grow-grown.result (grew_got t (c.from.result * c.from-2.result) c.args._shape.now (length_of c.args.parts.now.page_blocks mid) table c.grow-grown.new.self mid new c.requires.held.client page) grown.ok)
    grown.err grown.held
