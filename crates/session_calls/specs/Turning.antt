-- One turn of a call that wants room, and what a refused call leaves.
use Rattle.std.specs.Prelude.{◌≡◌, ◌<◌, ℕ, [], None, Some, ⊤}
use Rattle.reservation_tree.specs.declared.errors.PoolErr.{PoolErr}
use Rattle.pool_model.specs.declared.call.Call.{Call}
use Rattle.pool_model.specs.State.{Opening}
use Rattle.pool_model.specs.Sums.{HasRoom}
use Rattle.pin_core.specs.StateOf.{state_of}
use Rattle.pin_core.specs.calls.Turns.{LacksRoom, IsWriting}
use Rattle.store_api.specs.Signs.{Grows}
use Rattle.store_api.specs.Refusals.{WasRefused}
use Rattle.store_api.specs.Entries.{IsRefusal}
use Rattle.own_entries.specs.OwnHoldings.{Outset}
use Rattle.session_calls.specs.Writing.{IsWrite, writes_left}
use Rattle.session_calls.specs.declared.hand.Hand.{Hand}
use Rattle.session_calls.specs.declared.turning.Turn.{Turn}
use Rattle.session_calls.specs.declared.turning.Turn.TheVariants.{Ready, Refused, Waited, Wrote}
use Rattle.session_calls.specs.Acting.{held_by, signs_by}
use Rattle.session_calls.specs.Jobs.{DoesIn}

module _ {D : Type 0} (o : Opening) (u : Outset) where
  -- whether the call has its room, is refused for a failure, or lacked room, and a page was written or waited for
  abbrev pub TurnIs : ℕ → ℕ → Turn → Hand D → Hand D → Type 0
  TurnIs t amount Ready old new = HasRoom (state_of old.state) t amount × (new ≡ old)
  TurnIs t amount (Refused entry) old new = LacksRoom (state_of old.state) old.session t amount (Some entry) × (new ≡ old)
  TurnIs t amount Wrote old new = LacksRoom (state_of old.state) old.session t amount None × DoesIn (IsWrite t (held_by o u old)) old new
  TurnIs t amount Waited old new = LacksRoom (state_of old.state) old.session t amount None × IsWriting (state_of old.state) t × DoesIn (λ events. events ≡ []) old new

  -- a call that needs room of this client was refused with this error, as a call of a store is: the session entered
  -- what such a call does, and its signs only grew
  pub record Refuses (t : ℕ) (what : Call) (old new : Hand D) (e : PoolErr) : Type 0 where
    pub did : DoesIn (IsRefusal t (held_by o u old) what e) old new
    pub was : WasRefused t what (held_by o u old) (held_by o u new) (signs_by o old) (signs_by o new) e
    pub grows : Grows (signs_by o old) (signs_by o new)

-- fewer writes may come after a turn that wrote, where the session is alone, and it waits for nobody
abbrev pub GoesFurther : {D : Type 0} → ℕ → Turn → Hand D → Hand D → Type 0
GoesFurther t Wrote old new = writes_left new.session t (state_of new.state) < writes_left old.session t (state_of old.state)
GoesFurther t Waited old new = ⊥
GoesFurther t _ old new = ⊤
