use Rattle.pin_core.specs.Tallies.{tally_of}
use Rattle.std.specs.Prelude.{◌==◌, None, true, vec_len}
use Rattle.spill_top.specs.Pooled.{all_tell}
use Rattle.pool.specs.Sitting.{shared}
use Rattle.spill_top.proofs.pooled.run_pooled.Given as goal

abbrev pub ghosts-run_counted : goal.ghosts-run_counted
ghosts-run_counted g a = record {
  opening = record { blocks = a.run.now.conf.blocks; block_len = a.run.now.conf.block_len; marked = (a.run.now.conf.profile == 2); first_name = a.run.now.conf.first_name; slots = vec_len a.slots.now; faults = 0; stores = 0 };
  outset = shared (all_tell (tally_of g.D.Slot a.slots.now.items));
  first = tally_of g.D.Slot a.slots.now.items;
  named = true;
  table = None;
}
