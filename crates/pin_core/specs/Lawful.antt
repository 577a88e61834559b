-- What each part keeps by itself, whatever the others have.
use Rattle.std.specs.Prelude.{eqb}
use Rattle.std.specs.List.{IsDistinct}
use Rattle.page_table.specs.Pages.{IsProper}
use Rattle.client_lists.specs.Clients.{IsWhole}
use Rattle.scratch_dev.specs.Pool.{IsCounted}
use Rattle.reservation_tree.specs.Tree.{charge_of}
use Rattle.reservation_tree.specs.Tracker.{IsTree, FitsTree, AreBelow}
use Rattle.buffer_transfer.specs.Buffers.{IsProper as IsProperBook}
use Rattle.session_table.specs.Seats.{AreProper}
use Rattle.pin_core.specs.declared.parts.Parts.{Parts}

pub record Lawful {D : Type 0} (v : Parts D) : Type 0 where
  pub proper : IsProper v.pages
  pub whole : IsWhole v.lists
  pub counted : IsCounted v.slots
  pub once : IsDistinct eqb v.clean.keys
  pub tree : IsTree v.tree.trackers
  pub fits : FitsTree (charge_of v.tree) v.tree.trackers
  pub numbers : AreBelow 4096 v.tree.trackers
  pub book : IsProperBook v.buffers
  pub seats : AreProper v.seats
