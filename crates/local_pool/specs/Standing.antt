-- What one owner's pool keeps true between calls.
use Rattle.std.specs.Prelude.{◌≡◌, ◌<◌, Option, length}
use Rattle.outside.specs.declared.slot.Slot.{Ghosts}
use Rattle.pool_model.specs.LookingBack.{made_by}
use Rattle.own_entries.specs.AboveLaws.{AllBy}
use Rattle.session_calls.specs.declared.hand.Hand.{Hand}
use Rattle.session_calls.specs.Ready.{IsReady}
use Rattle.local_pool.specs.Told.{opening_of, outset_of}
use Rattle.local_pool.specs.Counting.{AtOpening, BeginsNames, CountsFrom, HasBlocks}

-- the owner is a session between two calls, which made the whole history alone from its opening on, and its counts begin
-- with what the slots counted then; `first` names that, the name of the first page and how many blocks the pool has, or
-- nothing
pub record Stands {D : Type 0} (slot : Ghosts D) (first : Option AtOpening) (own : Hand D) : Type 0 where
  pub ready : IsReady slot (opening_of slot own) (outset_of slot own.state) own
  pub alone : AllBy own.session own.trail
  pub whole : made_by own.trail own.session ≡ own.trail
  pub counted : 0 < length own.counts
  pub sums : CountsFrom first own.counts
  pub names : BeginsNames first (opening_of slot own).first_name
  pub blocks : HasBlocks first (opening_of slot own).blocks
