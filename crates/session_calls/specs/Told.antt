-- What a session holds, and what shows of it, after a history in which others may have entries too.
use Rattle.std.specs.Prelude.{ℕ, ◌+◌, leb, List, Some, filter, length}
use Rattle.pool_model.specs.State.{Opening}
use Rattle.pool_model.specs.declared.entry.Entry.{Entry}
use Rattle.pool_model.specs.LookingBack.{made_by, names_in}
use Rattle.pool_model.specs.Failures.{is_own, is_for_own, failures_in}
use Rattle.store_api.specs.Holdings.{Holdings}
use Rattle.store_api.specs.Signs.{Signs, is_stale_load, refuses_unpin}
use Rattle.own_entries.specs.OwnHoldings.{Outset}
use Rattle.own_entries.specs.HeldLaws.{own_holdings}

-- what the session of this number holds, as its own entries tell
unfoldable pub held_in : Opening → Outset → ℕ → List Entry → Holdings
held_in o u m h = own_holdings o u h m

-- what only grows: failures of the session's pages, whoever wrote or read them; its refused unpins and stale loads;
-- whether the greatest name is next, which is never given; and its own entries
unfoldable pub signs_in : Opening → ℕ → List Entry → Signs
signs_in o m h = record {
  failures = failures_in (is_own m) h;
  failures_of = λ t. failures_in (is_for_own m t) h;
  refused_unpins = length (filter (λ e. refuses_unpin e.event) (made_by h m));
  stale = length (filter (λ e. is_stale_load e.event) (made_by h m));
  spent = leb 18446744073709551615 (o.first_name + length (names_in h));
  trail = Some (made_by h m);
}
