-- What holds after every legal history, whoever makes its entries. Statements alone.
use Rattle.std.specs.Prelude.{◌≡◌, ℕ, ◌+◌, ◌≤◌, ◌==◌, List}
use Rattle.reservation_tree.specs.Tracker.{FitsTree}
use Rattle.pool_model.specs.declared.event.Event.TheVariants.{PinAgain, UnpinOnce}
use Rattle.pool_model.specs.declared.entry.Entry.{Entry}
use Rattle.pool_model.specs.Bytes.{only_if}
use Rattle.pool_model.specs.State.{Opening, State}
use Rattle.pool_model.specs.Sums.{length_of, charge_of, held_by, HasRoom, IsClient, clean_bytes, bytes_in_memory, free_bytes, FitsClients, FitsPages, FitsMemory, FitsQuotas}
use Rattle.pool_model.specs.PageRows.{MayPinAgain, MayUnpinOnce}
use Rattle.pool_model.specs.Effects.{effect}
use Rattle.pool_model.specs.Legal.{state_after, IsLegal}
use Rattle.pool_model.specs.Sound.{IsSound}

-- this holds of the state after each legal history
abbrev pub HoldsAfterAll : (State → Type 0) → Type 0
HoldsAfterAll holds = (o : Opening) (h : List Entry) → IsLegal o h → holds (state_after o h)

-- charges and children fit each reservation, and each reservation fits its limit
abbrev pub LegalFitsTrackers : Type 0
LegalFitsTrackers = HoldsAfterAll (λ s. FitsTree (charge_of s) s.trackers)

-- what each client holds fits its reservation
abbrev pub LegalFitsClients : Type 0
LegalFitsClients = HoldsAfterAll FitsClients

-- what a client holds of each page fits its reservation
abbrev pub LegalFitsPages : Type 0
LegalFitsPages = HoldsAfterAll FitsPages

-- what is in memory fits the pool
abbrev pub LegalFitsMemory : Type 0
LegalFitsMemory = HoldsAfterAll FitsMemory

-- a client that has room for so many bytes finds them free or clean
abbrev pub FindsRoom : State → Type 0
FindsRoom s = (c bytes : ℕ) → IsClient s.trackers c → HasRoom s c bytes → bytes ≤ free_bytes s + clean_bytes s

abbrev pub LegalFindsRoom : Type 0
LegalFindsRoom = HoldsAfterAll FindsRoom

-- a session's slots in use are within its quota
abbrev pub LegalFitsQuotas : Type 0
LegalFitsQuotas = HoldsAfterAll FitsQuotas

abbrev pub LegalIsSound : Type 0
LegalIsSound = HoldsAfterAll IsSound

-- the client is charged so much more in the second state, and holds so much more; nobody else does, and as many
-- bytes are in memory
pub record IsChargedMore (client bytes : ℕ) (s more : State) : Type 0 where
  pub charge : (c : ℕ) → charge_of more c ≡ charge_of s c + only_if (client == c) bytes
  pub held : (c : ℕ) → held_by more c ≡ held_by s c + only_if (client == c) bytes
  pub memory : bytes_in_memory more ≡ bytes_in_memory s

-- another pin is charged the page's length and takes no block; where one of several ends, the same is given back
pub record PinsAreCharged (s : State) (maker p : ℕ) : Type 0 where
  pub again : (may : MayPinAgain s maker p) → IsChargedMore may.page.client (length_of s may.page.blocks) s (effect maker (PinAgain p) s)
  pub once : (may : MayUnpinOnce s maker p) → IsChargedMore may.page.client (length_of s may.page.blocks) (effect maker (UnpinOnce p) s) s

abbrev pub AllPinsAreCharged : Type 0
AllPinsAreCharged = (s : State) (maker p : ℕ) → PinsAreCharged s maker p
