use Rattle.std.specs.Prelude.{None, false, true, vec_len}
use Rattle.pin_core.specs.Tallies.{tally_of}
use Rattle.store_api.specs.Holdings.{Shared}
use Rattle.tests_pool.proofs.tests.stores.rows_over.Given as goal

abbrev pub ghosts-slots_after : goal.ghosts-slots_after
ghosts-slots_after g a = record {
  opening = record { blocks = 20; block_len = 64; marked = false; first_name = 0; slots = vec_len a.slots; faults = 0; stores = 0 };
  outset = record { above = Shared; told = false };
  first = tally_of g.D.Slot a.slots.items;
  named = true;
  table = None;
}
