use Rattle.std.proofs.Common.{◌≡◌, ◌/◌, ℕ, length, ap, sym, subst}
use Rattle.store_api.proofs.Growing.{grows_trans}
use Rattle.bucket_table.specs.Tables.{Table}
use Rattle.bucket_table.specs.Regions.{Region}
use Rattle.bucket_table.specs.Lending.{IsTableOf, WasShort}
use Rattle.bucket_table.proofs.Entered.{loans_more}
use Rattle.bucket_table.proofs.Held.{short_after}
use Rattle.bucket_table.proofs.Lent.{lends_same}
use Rattle.bucket_table.proofs.Opened.{both_held, both_lends, from_empty, opened, table_of_both}
use Rattle.bucket_table.proofs.table.BucketTable.open_wide.Goals as goal

pub give_both-requires : goal.give_both-requires
give_both-requires g c =
    let t = c.args.c.now.tracker in
    let some = c.in-Err.ensures.err in
    let is = from_empty t some.0 some.1 c.args.page_blocks c.block_len-block_len.result _ _ _ _ _ _ c.empty-heads.ensures c.empty-nodes.ensures some.2 in
    (t, both_held t some.0 some.1 c.args.page_blocks c.block_len-block_len.result _ _ _ _ is)

pub returns-in-Ok : goal.returns-in-Ok
returns-in-Ok g c =
    let t = c.args.c.now.tracker in
    let old = g.St.Store.holds c.args.store.now in
    let new = g.St.Store.holds c.fill_both.new.store in
    let is = from_empty t c.args.head_bufs c.args.node_bufs c.args.page_blocks c.block_len-block_len.result _ _ _ _ _ _ c.empty-heads.ensures c.empty-nodes.ensures c.in-Ok.ensures.ok in
    record {
      ok = opened t c.args.head_bufs c.args.node_bufs c.args.page_blocks c.block_len-block_len.result _ _ _ _ is c.over.result c.requires.some c.block_len-block_len.ensures.value c.over.ensures;
      table = subst (λ (table : Table). IsTableOf table new) (sym c.over.ensures)
          (table_of_both t c.args.head_bufs c.args.node_bufs c.args.page_blocks c.block_len-block_len.result _ _ _ _ is (length c.fill_both.new.heads.bytes / 4) c.requires.some c.block_len-block_len.ensures.value c.requires.blocks);
      err = tt;
      cause = tt;
      grows = c.in-Ok.ensures.grows;
      entries = c.in-Ok.ensures.entries;
    }

pub returns-in-Err : goal.returns-in-Err
returns-in-Err g c =
    let t = c.args.c.now.tracker in
    let some = c.in-Err.ensures.err in
    let is = from_empty t some.0 some.1 c.args.page_blocks c.block_len-block_len.result _ _ _ _ _ _ c.empty-heads.ensures c.empty-nodes.ensures some.2 in
    let blocks : c.empty-heads.result.blocks ≡ c.args.page_blocks = ap (λ (r : Region). r.blocks) c.empty-heads.ensures in
    record {
      ok = tt;
      table = tt;
      err = lends_same t _ _ _ _ (both_lends t some.0 some.1 c.args.page_blocks c.block_len-block_len.result _ _ _ _ is) (c.give_both.ensures.lends t (both_held t some.0 some.1 c.args.page_blocks c.block_len-block_len.result _ _ _ _ is));
      cause =
          subst (λ (n : ℕ). WasShort t n (g.St.Store.signs c.args.store.now) (g.St.Store.signs c.give_both.new.store) c.in-Err.e) blocks
          (short_after c.in-Err.e t c.empty-heads.result.blocks _ _ _ c.in-Err.ensures.cause c.give_both.ensures.grows);
      grows = grows_trans _ _ _ c.in-Err.ensures.grows c.give_both.ensures.grows;
      entries = loans_more _ _ _ c.in-Err.ensures.entries c.give_both.ensures.entries;
    }
