-- What a pool of one owner holds, and what it shows.
use Rattle.std.specs.Prelude.{◌==◌, ◌+◌, ◌-◌, leb, Bool, Some, filter, length}
use Rattle.outside.specs.declared.slot.Slot.{Ghosts}
use Rattle.pool_model.specs.State.{Opening, State}
use Rattle.pool_model.specs.Sums.{memory}
use Rattle.pool_model.specs.LookingBack.{names_in}
use Rattle.pool_model.specs.Failures.{is_own, is_for_own, failures_in}
use Rattle.store_api.specs.Holdings.{Holdings, Room}
use Rattle.store_api.specs.Signs.{Signs, is_stale_load, refuses_unpin}
use Rattle.own_entries.specs.OwnHoldings.{Outset, holdings_of}
use Rattle.session_calls.specs.Moving.{slots_out}
use Rattle.pin_core.specs.declared.parts.Parts.{Parts}
use Rattle.pin_core.specs.StateOf.{state_of}
use Rattle.pin_core.specs.Standing.{slots_home}
use Rattle.pin_core.specs.Tallies.{silence}
use Rattle.session_calls.specs.declared.hand.Hand.{Hand}

module _ {D : Type 0} (slot : Ghosts D) where
  -- each slot tells what it holds
  abbrev pub all_tell : Parts D → Bool
  all_tell v = slots_home (silence slot) v == 0

  -- its query is the root's one child, so all memory is above it
  abbrev pub outset_of : Parts D → Outset
  outset_of v = record { above = Room (memory (state_of v)); told = all_tell v }

  -- with what the pool opened, as its value and its trail tell: what it counted then is named elsewhere
  abbrev pub opening_of : Hand D → Opening
  opening_of own = record {
    blocks = (state_of own.state).blocks;
    block_len = (state_of own.state).block_len;
    marked = (state_of own.state).marked;
    first_name = (state_of own.state).next_name - length (names_in own.trail);
    slots = slots_home (λ d. 1) own.state + slots_out (state_of own.state).pages;
    faults = 0;
    stores = 0;
  }

  -- what the owner holds, by its own entries
  unfoldable pub held_of : Hand D → Holdings
  held_of own = holdings_of (state_of own.state).block_len own.session (outset_of own.state) own.trail

-- the greatest name is never given
abbrev pub is_spent : State → Bool
is_spent s = leb 18446744073709551615 s.next_name

-- what only grows
unfoldable pub signs_of : {D : Type 0} → Hand D → Signs
signs_of own = record {
  failures = failures_in (is_own own.session) own.trail;
  failures_of = λ t. failures_in (is_for_own own.session t) own.trail;
  refused_unpins = length (filter (λ e. refuses_unpin e.event) own.trail);
  stale = length (filter (λ e. is_stale_load e.event) own.trail);
  spent = is_spent (state_of own.state);
  trail = Some own.trail;
}
