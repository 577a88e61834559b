use Rattle.std.specs.Prelude.{None, false, true, vec_len}
use Rattle.pin_core.specs.Tallies.{tally_of}
use Rattle.spill_top.specs.Pooled.{all_tell}
use Rattle.pool.specs.Sitting.{shared}
use Rattle.spill_top.proofs.queries.run_queries.Given as goal

abbrev pub ghosts-run_shared : goal.ghosts-run_shared
ghosts-run_shared g a = record {
  opening = record { blocks = a.plan.now.blocks; block_len = a.plan.now.block_len; marked = false; first_name = 0; slots = vec_len a.slots.now; faults = 0; stores = 0 };
  outset = shared (all_tell (tally_of g.D.Slot a.slots.now.items));
  first = tally_of g.D.Slot a.slots.now.items;
  named = true;
  table = None;
}
