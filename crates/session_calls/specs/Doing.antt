-- What a session did between two histories that it saw, whatever others did between them.
use Rattle.std.specs.Prelude.{◌≡◌, ◌++◌, ℕ, List, filter}
use Rattle.pool_model.specs.declared.entry.Entry.{Entry}
use Rattle.pool_model.specs.declared.event.Event.{Event}
use Rattle.pool_model.specs.LookingBack.{is_by, made_by}
use Rattle.store_api.specs.Entries.{by}

-- the history grew, and of the events that this session entered in it this holds
pub record Does (m : ℕ) (P : List Event → Type 0) (before now : List Entry) : Type 0 where
  pub events : List Event
  pub is : P events
  pub own : made_by now m ≡ made_by before m ++ by m events
  pub more : List Entry
  pub grew : now ≡ before ++ more
  pub mine : filter (is_by m) more ≡ by m events
