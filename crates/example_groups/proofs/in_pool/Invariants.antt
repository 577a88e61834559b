use Rattle.std.proofs.Common.{◌==◌, None, length, false, true}
use Rattle.pin_core.specs.Tallies.{tally_of}
use Rattle.pool.specs.Sitting.{shared}
use Rattle.example_groups.proofs.in_pool.Given as goal

-- what the pool opens with: its numbers, that nothing is known of what slots hold, and what they counted
abbrev pub ghosts-in_pool_as : goal.ghosts-in_pool_as
ghosts-in_pool_as g a = record {
  opening = record {
    blocks = a.conf.now.blocks;
    block_len = a.conf.now.block_len;
    marked = (a.conf.now.profile == 2);
    first_name = a.conf.now.first_name;
    slots = length a.slots.items;
    faults = 0;
    stores = 0;
  };
  outset = shared false;
  first = tally_of g.D.Slot a.slots.items;
  named = true;
  table = None;
}
