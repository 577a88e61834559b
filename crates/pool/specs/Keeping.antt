-- What a session's seat keeps true between two turns.
use Rattle.std.specs.Prelude.{◌≡◌, ℕ, Bool}
use Rattle.block_arena.specs.Blocks.{IsBlockLen}
use Rattle.pool_model.specs.State.{Opening}
use Rattle.own_entries.specs.ClientLaws.{IsWholeIdle}
use Rattle.own_entries.specs.FitLaws.{FitsHeld}
use Rattle.pool.specs.declared.ledger.Ledger.{Ledger}
use Rattle.pool.specs.Ledgers.{TellsHeld}
use Rattle.pool.specs.Sitting.{Sits, Sitting, held_by}

-- the session sits; its blocks have this length; its ledger tells what it holds; what it holds fits; and clients and
-- the query have all of their reservation unused where nothing is under them
pub record KeepsSeat (o : Opening) (told : Bool) (block_len : ℕ) (ledger : Ledger) (s : Sitting) : Type 0 where
  pub sits : Sits o told s
  pub power : IsBlockLen block_len
  pub len : block_len ≡ o.block_len
  pub tells : TellsHeld ledger (held_by o told s)
  pub fits : FitsHeld (held_by o told s)
  pub whole : IsWholeIdle (held_by o told s)
