-- Trackers, quotas and sessions come, change and go. Pages and buffers stay.
use Rattle.std.specs.Prelude.{ℕ, ◌+◌, Bool, List, Option}
use Rattle.reservation_tree.specs.Tree.{TreeState, charge_of as charge_in, with_trackers, with_new, without}
use Rattle.reservation_tree.specs.Tracker.{Trackers}
use Rattle.reservation_tree.specs.Change.{grow, lacking, shrink, move_to}
use Rattle.scratch_dev.specs.declared.quota.Quota.{Quota}
use Rattle.scratch_dev.specs.Pool.{with_open, with_closed}
use Rattle.client_lists.specs.Clients.{opened, closed}
use Rattle.session_table.specs.Seats.{Seats, changed, with_seat, without_seat, with_member, without_member, forgotten}
use Rattle.pool_model.specs.State.{shown}
use Rattle.pin_core.specs.declared.parts.Parts.{Parts}

module _ {D : Type 0} where
  -- another tree, other open lists, quotas and sessions, and an entry more
  abbrev pub rearranged : TreeState → List Bool → List (Option Quota) → ℕ → Seats → Parts D → Parts D
  rearranged tree opens quotas spare seats v = record v {
    tree = tree;
    lists = record v.lists { is_open = opens };
    slots = record v.slots { quotas = quotas; spare = spare };
    seats = seats;
    entries = shown (v.entries + 1);
  }

  -- a session forgot the failures of its clients
  abbrev pub asked : ℕ → Parts D → Parts D
  asked s v = record v { seats = changed s forgotten v.seats; entries = shown (v.entries + 1) }

  -- the trackers are these
  abbrev pub retracked : Trackers → Parts D → Parts D
  retracked ts v = record v { tree = with_trackers ts v.tree; entries = shown (v.entries + 1) }

  -- a reservation grew
  abbrev pub grown : ℕ → ℕ → Parts D → Parts D
  grown t bytes v = retracked (grow (charge_in v.tree) bytes t v.tree.trackers) v

  -- a reservation grew until so much is unused
  abbrev pub grown_to_fit : ℕ → ℕ → Parts D → Parts D
  grown_to_fit t bytes v = grown t (lacking (charge_in v.tree) bytes t v.tree.trackers) v

  -- a reservation fell
  abbrev pub shrunk : ℕ → ℕ → Parts D → Parts D
  shrunk t bytes v = retracked (shrink bytes t v.tree.trackers) v

  -- reservation went from one tracker to another
  abbrev pub transferred : ℕ → ℕ → ℕ → Parts D → Parts D
  transferred from to bytes v = retracked (move_to bytes from to v.tree.trackers) v

  -- a client of the session came, under its query tracker
  abbrev pub joined : ℕ → ℕ → ℕ → ℕ → Parts D → Parts D
  joined s query limit t v = record v {
    tree = with_new t query limit v.tree;
    lists = opened t v.lists;
    seats = changed s (with_member t) v.seats;
    entries = shown (v.entries + 1);
  }

  -- a client of the session has left
  abbrev pub parted : ℕ → ℕ → Parts D → Parts D
  parted s t v = record v {
    tree = without t v.tree;
    lists = closed t v.lists;
    seats = changed s (without_member t) v.seats;
    entries = shown (v.entries + 1);
  }

  -- a session came, with its query tracker and its quota
  abbrev pub seated : ℕ → ℕ → ℕ → ℕ → Parts D → Parts D
  seated s limit quota t v = record v {
    tree = with_new t 0 limit v.tree;
    slots = with_open s quota v.slots;
    seats = with_seat s t quota v.seats;
    entries = shown (v.entries + 1);
  }

  -- a session has ended, with its query tracker
  abbrev pub unseated : ℕ → ℕ → Parts D → Parts D
  unseated s t v = record v {
    tree = without t v.tree;
    slots = with_closed s v.slots;
    seats = without_seat s v.seats;
    entries = shown (v.entries + 1);
  }
