-- How a pool opens and closes.
use Rattle.std.specs.Prelude.{◌≡◌, List, Bool, true, length}
use Rattle.std.specs.List.{AllByRecursion, sum_by}
use Rattle.outside.specs.declared.slot.Slot.{Ghosts}
use Rattle.pool_model.specs.State.{Opening}
use Rattle.pool_model.specs.Legal.{IsLegal}
use Rattle.pool_model.specs.Traces.{IsLegalTrace}
use Rattle.pin_core.specs.declared.conf.PoolConf.{PoolConf}
use Rattle.pin_core.specs.calls.Setup.{IsOpeningOf}
use Rattle.pin_core.specs.declared.tally.Tally.{Tally}
use Rattle.pin_core.specs.Tallies.{Counted, all_failures, all_stale, silence, tally_of, written_blocks}
use Rattle.turn_table.specs.Knowledge.{GrewBeside}
use Rattle.turn_table.specs.Face.{Spot}
use Rattle.session_calls.specs.declared.trace.Trace.{Trace}
use Rattle.session_calls.specs.Kept.{IsTraceOf}
use Rattle.pool.specs.declared.item.Item.{Item}
use Rattle.pool.specs.Items.{history, needs_of}
use Rattle.pool.specs.Standing.{IsMarked}

-- the trace has the numbers with which the pool opened
pub record HasNumbers (o : Opening) (trace : Trace) : Type 0 where
  pub blocks : trace.blocks ≡ o.blocks
  pub block_len : trace.block_len ≡ o.block_len
  pub first_name : trace.first_name ≡ o.first_name

module _ {D : Type 0} (slot : Ghosts D) where
  -- this is with what a pool opens that has these numbers and slots; each slot tells what it holds, where that is said;
  -- and so they count
  pub record OpensAs (conf : PoolConf) (slots : List D) (o : Opening) (told : Bool) (first : Tally) : Type 0 where
    pub numbers : IsOpeningOf conf (length slots) o
    pub tell : told ≡ true → sum_by (silence slot) slots ≡ 0
    pub counts : tally_of slot slots ≡ first

  -- a pool closed with these slots, which are as many as it opened with: the history is legal, begins with what the pass
  -- had seen, has no session but those that items say, and tells what the slots count beside what they counted when the pool opened
  pub record ClosesWith (o : Opening) (told : Bool) (first : Tally) (pass : Spot Item) (slots : List D) : Type 0 where
    pub items : List Item
    pub grew : GrewBeside needs_of pass.knows.rights pass.knows.seen items
    pub legal : IsLegal o (history items)
    pub marked : AllByRecursion IsMarked items
    pub count : length slots ≡ o.slots
    pub tell : told ≡ true → sum_by (silence slot) slots ≡ 0
    pub counted : Counted (all_failures (history items)) (written_blocks (history items)) (all_stale (history items)) first (tally_of slot slots)

  -- and with this trace, which is legal: it has the pool's numbers and the first entries of the history, and tells whether there were more
  pub record ClosesTraced (o : Opening) (told : Bool) (first : Tally) (pass : Spot Item) (slots : List D) (trace : Trace) : Type 0 where
    pub closes : ClosesWith o told first pass slots
    pub opening : HasNumbers o trace
    pub entries : IsTraceOf (history closes.items) trace
    pub legal : IsLegalTrace o trace.entries.items
