-- The trail of one owner's pool is a legal history of the session's own.
use Rattle.std.proofs.Common.{Option, Some, None, sym}
use Rattle.outside.specs.declared.slot.Slot.{Ghosts}
use Rattle.local_pool.specs.Counting.{AtOpening}
use Rattle.local_pool.specs.History.{IsHistory}
use Rattle.local_pool.specs.Standing.{Stands}
use Rattle.local_pool.specs.Told.{opening_of, held_of}
use Rattle.session_calls.specs.declared.hand.Hand.{Hand}
use Rattle.local_pool.proofs.Lasting.{len_is}

pub history_of : {D : Type 0} (slot : Ghosts D) (first : Option AtOpening) (own : Hand D) → Stands slot first own → IsHistory first (held_of slot own).block_len own.session own.trail
history_of slot None own is = tt
history_of slot (Some first) own is = record {
  opening = opening_of slot own;
  blocks_are = is.blocks;
  len_is = sym (len_is slot own);
  legal = is.ready.whole.stands.legal;
  alone = is.alone;
  whole = is.whole;
}
