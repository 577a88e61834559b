-- What a session entered while it had the value in hand.
use Rattle.std.proofs.Common.{◌≡◌, List, ◌++◌, ap, ◌∙◌}
use Rattle.pool_model.specs.declared.event.Event.{Event}
use Rattle.pool_model.specs.declared.entry.Entry.{Entry}
use Rattle.pool_model.specs.State.{Opening}
use Rattle.pool_model.specs.LookingBack.{made_by}
use Rattle.store_api.specs.Entries.{by}
use Rattle.own_entries.specs.OwnHoldings.{Outset, after_events}
use Rattle.session_calls.proofs.Lists.{NoneOpens}
use Rattle.session_calls.specs.declared.hand.Hand.{Hand}
use Rattle.session_calls.specs.Acting.{Acts, ActsThese, held_by}
use Rattle.session_calls.proofs.Steps.{made_on, these_held}

-- its own entries then
pub own_then : {D : Type 0} {P : List Event → Type 0} (old new : Hand D) (acts : Acts P old new) → made_by new.trail old.session ≡ made_by old.trail old.session ++ by old.session acts.events
own_then old new acts = ap (λ (h : List Entry). made_by h old.session) acts.trail ∙ made_on old.session old.trail acts.events acts.opens

module _ {D : Type 0} {these : List Event} (old new : Hand D) (acts : ActsThese these old new) (none : NoneOpens these) where
  -- what it holds then
  pub held_then : (o : Opening) (u : Outset) → held_by o u new ≡ after_events (held_by o u old) these
  held_then o u = these_held old new these acts none o u
