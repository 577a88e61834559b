use Rattle.std.proofs.Common.{rules, ◌≡◌, ◌≤◌, ◌<◌, ◌+◌, ◌*◌, ◌^◌, ℕ, length, IsSome, ap, sym, ◌∙◌, subst}
use Rattle.store_api.specs.Conditions.{IsBlockCount}
use Rattle.store_api.specs.Holdings.{length_of, unused_of}
use Rattle.bucket_table.specs.Tables.{Table}
use Rattle.bucket_table.specs.Regions.{Region}
use Rattle.bucket_table.specs.Lending.{IsTableOf, WasShort}
use Rattle.bucket_table.proofs.Held.{any_err}
use Rattle.bucket_table.specs.Threads.{client_in, table_of}
use Rattle.bucket_table.proofs.Grown.{grew, grew_held, grown_table, nodes_kept}
use Rattle.bucket_table.proofs.table.BucketTable.grow.Goals as goal

pub add-requires : goal.add-requires
add-requires g c =
    let t = c.self.inside in
    let h = g.St.Store.holds c.args.store.now in
    let sized : IsBlockCount t.nodes.blocks = rw (← c.self.view_is) at c.requires.table.sized in
    let len : t.nodes.block_len ≡ h.block_len = rw (← c.self.view_is) at c.requires.table.block_len in
    let client : c.args.c.now.tracker ≡ client_in t.heads.loans = rw (← c.self.view_is) at c.requires.client in
    let lives : IsSome (h.clients (client_in t.heads.loans)) = rw (← c.self.view_is) at c.requires.table.held.lives in
    let room : t.nodes.blocks * t.nodes.block_len ≤ unused_of (client_in t.heads.loans) h = rw (← c.self.view_is) at c.requires.unused in
    let short : length t.nodes.bytes + t.nodes.blocks * t.nodes.block_len < 2 ^ 32 = rw (← c.self.view_is) at c.requires.short in
    record {
      client = subst (λ (k : ℕ). IsSome (h.clients k)) (sym client) lives;
      blocks = sized;
      block_len = len;
      unused = subst (λ (k : ℕ). length_of t.nodes.blocks h ≤ unused_of k h) (sym client) (subst (λ (n : ℕ). t.nodes.blocks * n ≤ unused_of (client_in t.heads.loans) h) len room);
      short = short;
    }

pub invariant_of-self-2 : goal.invariant_of-self-2
invariant_of-self-2 g c =
    let t = c.self.inside in
    let kept = nodes_kept c.args.c.now.tracker t.chains.len t.used t.heads t.nodes c.add.new.self _ _ c.self.invariant.laid.table c.in_ok-add.ensures.ok (rw (← c.self.view_is) at c.requires.short) in
    record {
      laid = record {
        table = grown_table c.args.c.now.tracker t.chains.len t.used t.heads t.nodes c.add.new.self _ _ c.self.invariant.laid.table c.in_ok-add.ensures.ok (rw (← c.self.view_is) at c.requires.short);
        blocks = c.self.invariant.laid.blocks ∙ sym (ap (λ (r : Region). r.blocks) c.in_ok-add.ensures.ok.region);
        block_len = c.self.invariant.laid.block_len ∙ sym (ap (λ (r : Region). r.block_len) c.in_ok-add.ensures.ok.region);
      };
      counted = c.self.invariant.counted ∙ sym (ap length kept);
    }

pub returns : goal.returns
returns g c =
    let t = c.self.inside in
    let old = g.St.Store.holds c.args.store.now in
    let client : client_in t.heads.loans ≡ c.args.c.now.tracker = sym (rw (← c.self.view_is) at c.requires.client) in
    let grew_so = grew c.args.c.now.tracker t.chains.len t.used t.heads t.nodes c.add.new.self old _ c.self.invariant.laid.table c.in_ok-add.ensures.ok (rw (← c.self.view_is) at c.requires.short) client in
    let was : IsTableOf (table_of t.chains.len t.heads t.nodes) old = rw (← c.self.view_is) at c.requires.table in
    rw (← c.self.view_is) (record { ok = grew_so; err = tt; held = tt; table = grew_held _ _ old _ was grew_so; cause = tt; grows = c.in_ok-add.ensures.grows; entries = c.in_ok-add.ensures.entries })

pub returns-in_err-add-clause-err : goal.returns-in_err-add-clause-err
returns-in_err-add-clause-err g c =
    let t = c.self.inside in
    any_err c.from_residual.result (ap (table_of t.chains.len t.heads) c.in_err-add.ensures.err ∙ c.self.view_is)

pub returns-in_err-add-clause-table : goal.returns-in_err-add-clause-table
returns-in_err-add-clause-table g c =
    let t = c.self.inside in
    let same : table_of t.chains.len t.heads c.add.new.self ≡ c.args.self.now = ap (table_of t.chains.len t.heads) c.in_err-add.ensures.err ∙ c.self.view_is in
    subst (λ (table : Table). IsTableOf table (g.St.Store.holds c.add.new.store)) (sym same)
    (subst (IsTableOf c.args.self.now) (sym c.in_err-add.ensures.held) c.requires.table)

pub returns-in_err-add-clause-cause : goal.returns-in_err-add-clause-cause
returns-in_err-add-clause-cause g c =
    let blocks : c.self.inside.nodes.blocks ≡ c.args.self.now.page_blocks = ap (λ (table : Table). table.page_blocks) c.self.view_is in
    let came : WasShort c.args.self.now.client c.args.self.now.page_blocks (g.St.Store.signs c.args.store.now) (g.St.Store.signs c.add.new.store) c.in_err-add.field-0.0 =
    subst (λ (n : ℕ). WasShort c.args.self.now.client n (g.St.Store.signs c.args.store.now) (g.St.Store.signs c.add.new.store) c.in_err-add.field-0.0) blocks
    (subst (λ (k : ℕ). WasShort k c.self.inside.nodes.blocks (g.St.Store.signs c.args.store.now) (g.St.Store.signs c.add.new.store) c.in_err-add.field-0.0) c.requires.client c.in_err-add.ensures.cause)
    in
    search (rules, came)
