use Rattle.std.proofs.Common.{◌≡◌, ◌≤◌, ◌+◌, ◌*◌, ℕ, refl, ap, sym, ◌∙◌, subst, arith}
use Rattle.store_api.specs.Holdings.{Account, Holdings, unused_of}
use Rattle.bucket_table.specs.Tables.{Table}
use Rattle.bucket_table.specs.Lending.{IsOpened, Lends, buffer_len, bytes_of, loans_of}
use Rattle.bucket_table.proofs.Grown.{grew_closed}
use Rattle.bucket_table.proofs.Opened.{closed_again}
use Rattle.tests_stores.proofs.tests.tables.wide.Goals as goal

has_unused : (t : ℕ) (table : Table) (old new : Holdings) → IsOpened t 2 2 1 old new table → 17 * old.block_len ≤ unused_of t old → buffer_len table ≤ unused_of table.client new
has_unused t table old new is enough =
    let len : buffer_len table ≡ 2 * old.block_len = ap (λ (n : ℕ). n * table.block_len) is.page_blocks ∙ ap (λ (n : ℕ). 2 * n) is.block_len in
    let spent : unused_of t old ≡ unused_of t new + bytes_of (loans_of table) = ap (λ (a : Account). a.unused) is.lends.charged in
    subst (λ (k : ℕ). buffer_len table ≤ unused_of k new) (sym is.client) (omega (arith, len, spent, is.bytes, enough))

pub grow-requires-clause-unused : goal.grow-requires-clause-unused
grow-requires-clause-unused g c = has_unused c.args.c.now.tracker c.in_ok-table.table _ _ c.in_ok-table.ensures.ok c.requires.unused

pub returns-in-Ok : goal.returns-in-Ok
returns-in-Ok g c =
    grew_closed c.args.c.now.tracker c.in_ok-table.table c.grow.new.self c.taken-seen.new.table _ _ _ _ c.in_ok-table.ensures.ok.client c.in-Ok.ensures.ok c.taken-seen.ensures c.in_ok-table.ensures.ok.lends c.close.ensures.lends

pub returns-in-Err : goal.returns-in-Err
returns-in-Err g c =
    let table = c.in_ok-table.table in
    let new = g.St.Store.holds c.close-in-Err.new.store in
    let back : Lends table.client (loans_of table) new (g.St.Store.holds c.open_wide.new.store) =
    subst (λ (h : Holdings). Lends table.client (loans_of table) new h) c.in-Err.ensures.held
    (subst (λ (x : Table). Lends x.client (loans_of x) new (g.St.Store.holds c.grow.new.store)) c.in-Err.ensures.err c.close-in-Err.ensures.lends)
    in
    closed_again c.args.c.now.tracker table table _ _ _ c.in_ok-table.ensures.ok.client refl c.in_ok-table.ensures.ok.lends back
