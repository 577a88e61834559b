use Rattle.std.proofs.Common.{◌≡◌, ◌≤◌, ◌<◌, ◌+◌, ◌*◌, ◌^◌, ℕ, ap, sym, ◌∙◌, subst, arith}
use Rattle.store_api.specs.Holdings.{Account, Holdings, unused_of}
use Rattle.bucket_table.specs.Tables.{Table, with_nodes}
use Rattle.bucket_table.specs.Lending.{IsOpened, Lends, bytes_of, loans_of}
use Rattle.bucket_table.proofs.Opened.{closed_again}
use Rattle.bucket_table.proofs.Widened.{alike_same, widened_closed}
use Rattle.tests_stores.proofs.tests.tables.widened.Goals as goal

has_unused : (t : ℕ) (table now : Table) (old new : Holdings) → IsOpened t 1 1 8 old new table → now ≡ with_nodes now.nodes table → 17 * old.block_len ≤ unused_of t old → bytes_of now.head_loans ≤ unused_of now.client new
has_unused t table now old new is same enough =
    let heads : bytes_of now.head_loans ≡ bytes_of table.head_loans = ap (λ (x : Table). bytes_of x.head_loans) same in
    let client : now.client ≡ t = ap (λ (x : Table). x.client) same ∙ is.client in
    let spent : unused_of t old ≡ unused_of t new + bytes_of (loans_of table) = ap (λ (a : Account). a.unused) is.lends.charged in
    subst (λ (k : ℕ). bytes_of now.head_loans ≤ unused_of k new) (sym client) (omega (arith, heads, spent, is.bytes, is.head_bytes, enough))

few_bytes : (t : ℕ) (table now : Table) (old new : Holdings) → IsOpened t 1 1 8 old new table → now ≡ with_nodes now.nodes table → old.block_len ≤ 65536 → 2 * bytes_of now.head_loans < 2 ^ 32
few_bytes t table now old new is same short =
    let heads : bytes_of now.head_loans ≡ bytes_of table.head_loans = ap (λ (x : Table). bytes_of x.head_loans) same in
    omega (arith, heads, is.head_bytes, short)

pub widen-requires-clause-unused : goal.widen-requires-clause-unused
widen-requires-clause-unused g c = has_unused c.args.c.now.tracker c.in_ok-table.table _ _ _ c.in_ok-table.ensures.ok c.taken-first.ensures c.requires.unused

pub widen-requires-clause-short : goal.widen-requires-clause-short
widen-requires-clause-short g c = few_bytes c.args.c.now.tracker c.in_ok-table.table _ _ _ c.in_ok-table.ensures.ok c.taken-first.ensures c.requires.short

pub returns-in-Ok : goal.returns-in-Ok
returns-in-Ok g c = widened_closed c.args.c.now.tracker _ c.in_ok-table.table _ _ _ _ _ _ _ c.in_ok-table.ensures.ok.client c.taken-first.ensures c.in-Ok.ensures.ok c.taken-seen.ensures c.in_ok-table.ensures.ok.lends c.close.ensures.lends

pub returns : goal.returns
returns g c =
    let first = c.taken-first.new.table in
    let new = g.St.Store.holds c.close-in-Err.new.store in
    let back : Lends first.client (loans_of first) new (g.St.Store.holds c.open.new.store) =
    subst (λ (h : Holdings). Lends first.client (loans_of first) new h) (alike_same _ _ c.in-Err.ensures.held)
    (subst (λ (x : Table). Lends x.client (loans_of x) new (g.St.Store.holds c.widen.new.store)) c.in-Err.ensures.err c.close-in-Err.ensures.lends)
    in
    closed_again c.args.c.now.tracker c.in_ok-table.table first _ _ _ c.in_ok-table.ensures.ok.client c.taken-first.ensures c.in_ok-table.ensures.ok.lends back
