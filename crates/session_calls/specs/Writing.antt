-- A page of a client is written.
use Rattle.std.specs.Prelude.{◌≡◌, ℕ, ◌+◌, List, [], ◌∷◌, length, is_some, if◌then◌else◌}
use Rattle.pool_model.specs.declared.event.Event.{Event}
use Rattle.pool_model.specs.declared.event.Event.TheVariants.{StartWrite, WriteOk, WriteFailed}
use Rattle.pool_model.specs.State.{State, dirty_of}
use Rattle.store_api.specs.Holdings.{Holdings, IsPageOf}
use Rattle.pin_core.specs.calls.Turns.{failure_of}

-- a write of this page ended, well or not
abbrev pub IsEnd : ℕ → Event → Type 0
IsEnd p (WriteOk q) = q ≡ p
IsEnd p (WriteFailed q before now) = q ≡ p
IsEnd p _ = ⊥

-- so many blocks were stored, where the write ended well
abbrev pub stored_with : ℕ → Event → ℕ
stored_with blocks (WriteOk p) = blocks
stored_with blocks _ = 0

-- a page of the client was written, or a store of it failed
pub record IsWrite (t : ℕ) (h : Holdings) (events : List Event) : Type 0 where
  pub page : ℕ
  pub own : IsPageOf t h page
  pub end : Event
  pub ended : IsEnd page end
  pub are : events ≡ StartWrite page ∷ end ∷ []

-- how many writes may come before the call has its room or is refused: none once one has failed
abbrev pub writes_left : ℕ → ℕ → State → ℕ
writes_left m t s = if is_some (failure_of s m t) then 0 else length (dirty_of s t) + 1
