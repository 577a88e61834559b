-- Which writes and evictions of a session are needed by a call that wants so many bytes for a client.
use Rattle.std.specs.Prelude.{◌≡◌, ◌<◌, ◌++◌, ℕ, List, [], ◌∷◌, ⊤}
use Rattle.pool_model.specs.declared.event.Event.{Event}
use Rattle.pool_model.specs.declared.event.Event.TheVariants.{StartWrite, Evict}
use Rattle.pool_model.specs.declared.entry.Entry.{Entry}
use Rattle.pool_model.specs.State.{State}
use Rattle.pool_model.specs.Sums.{HasRoom, free_bytes}
use Rattle.pool_model.specs.Effects.{after}
use Rattle.pool_model.specs.Legal.{run}
use Rattle.pin_core.specs.StateOf.{state_of}
use Rattle.session_calls.specs.declared.hand.Hand.{Hand}

-- a page is written only while the client lacks room, and one is evicted only while fewer bytes are free
abbrev pub IsNeeded : ℕ → ℕ → State → Event → Type 0
IsNeeded t amount s (StartWrite p) = HasRoom s t amount → ⊥
IsNeeded t amount s (Evict p) = free_bytes s < amount
IsNeeded t amount s _ = ⊤

-- each entry of this maker was needed in the state that those before it left
abbrev pub AreNeeded : ℕ → ℕ → ℕ → State → List Entry → Type 0
AreNeeded m t amount s [] = ⊤
AreNeeded m t amount s (e ∷ es) = (e.maker ≡ m → IsNeeded t amount s e.event) × AreNeeded m t amount (after s e) es

-- so the history grew, and what the session entered was needed
pub record EntersNeeded {D : Type 0} (t amount : ℕ) (old new : Hand D) : Type 0 where
  pub entries : List Entry
  pub trail : new.trail ≡ old.trail ++ entries
  pub state : state_of new.state ≡ run (state_of old.state) entries
  pub needed : AreNeeded old.session t amount (state_of old.state) entries
