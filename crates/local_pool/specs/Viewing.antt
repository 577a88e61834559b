-- How the owner of a pool sees its calls.
use Rattle.std.specs.Prelude.{◌≡◌}
use Rattle.outside.specs.declared.slot.Slot.{Ghosts}
use Rattle.pin_core.specs.StateOf.{state_of}
use Rattle.session_calls.specs.declared.hand.Hand.{Hand}
use Rattle.session_calls.specs.Calls.{View}
use Rattle.local_pool.specs.Told.{held_of, opening_of, signs_of}
use Rattle.local_pool.specs.Making.{Makes}
use Rattle.local_pool.specs.Refusing.{Refuses}

-- a call of the owner, by its value before and after
abbrev pub owned : {D : Type 0} → Ghosts D → Hand D → Hand D → View
owned slot old new = record {
  holds = held_of slot old;
  signs = signs_of old;
  opening = opening_of slot new;
  history = new.trail;
  state = state_of new.state;
  did = λ P. Makes slot P old new;
  same = new ≡ old;
  refused = λ t what. Refuses slot t what old new;
}
