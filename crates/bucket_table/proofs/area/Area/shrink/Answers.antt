use Rattle.std.proofs.Common.{arith}
use Rattle.store_api.proofs.Growing.{grows_refl, grows_trans}
use Rattle.bucket_table.proofs.Entered.{loans_more, loans_none}
use Rattle.bucket_table.proofs.Filled.{shrinks_more, shrinks_none}
use Rattle.bucket_table.proofs.area.Area.shrink.Goals as goal

pub loop-self-init : goal.loop-self-init
loop-self-init g c = record {
  went = shrinks_none c.args.self.now (g.St.Store.holds c.args.store.now);
  keep = c.requires.keep;
  grows = grows_refl (g.St.Store.signs c.args.store.now);
  entries = loans_none (g.St.Store.signs c.args.store.now).trail;
}

pub loop-self-preserved : goal.loop-self-preserved
loop-self-preserved g c = record {
  went = shrinks_more _ _ _ _ _ _ c.loop-self.invariant.went c.free_last.ensures.went;
  keep = omega (arith, c.loop-self-test.true, c.count.ensures, c.free_last.ensures.one);
  grows = grows_trans _ _ _ c.loop-self.invariant.grows c.free_last.ensures.grows;
  entries = loans_more _ _ _ c.loop-self.invariant.entries c.free_last.ensures.entries;
}
