-- When a call may be refused.
use Rattle.std.specs.Prelude.{◌≡◌, ℕ, ◌⊎◌, List, Option, Some, option_map}
use Rattle.std.specs.FinMap.{get}
use Rattle.pool_model.specs.declared.call.Call.{Call}
use Rattle.pool_model.specs.declared.call.Call.TheVariants.{Pin, PinAgain, Create, Alloc, GiveBack, MoveReservation, MoveBuffer}
use Rattle.pool_model.specs.declared.entry.Entry.{Entry}
use Rattle.pool_model.specs.State.{Dirty, Flying, Page, Buffer, Session, State, shown}
use Rattle.pool_model.specs.Sums.{length_of, HasRoom}
use Rattle.pool_model.specs.Owning.{IsClientOf, IsTrackerOf, IsPageOf}
use Rattle.pool_model.specs.LookingBack.{HasAsked}
use Rattle.pool_model.specs.Failures.{last_failed_read}

-- a live buffer of one of the maker's clients
pub record IsBufferOf (s : State) (maker f : ℕ) : Type 0 where
  pub buffer : Buffer
  pub lives : get s.buffers f ≡ Some buffer
  pub own : IsClientOf s maker buffer.client

-- the call is on what the maker has: its clients and trackers, its pages and its buffers
abbrev pub IsOwnCall : State → ℕ → Call → Type 0
IsOwnCall s maker (Pin p) = (page : Page) × IsPageOf s maker p page
IsOwnCall s maker (PinAgain p) = (page : Page) × IsPageOf s maker p page
IsOwnCall s maker (Create client blocks) = IsClientOf s maker client
IsOwnCall s maker (Alloc client blocks) = IsClientOf s maker client
IsOwnCall s maker (GiveBack client bytes) = IsClientOf s maker client
IsOwnCall s maker (MoveReservation from to bytes) = IsClientOf s maker from × IsTrackerOf s maker to
IsOwnCall s maker (MoveBuffer f to) = IsBufferOf s maker f × IsClientOf s maker to

-- the client that a call needs room for, or that loses reservation
abbrev pub client_of : State → Call → Option ℕ
client_of s (Pin p) = option_map (λ x. x.client) (get s.pages p)
client_of s (PinAgain p) = option_map (λ x. x.client) (get s.pages p)
client_of s (Create client blocks) = Some client
client_of s (Alloc client blocks) = Some client
client_of s (GiveBack client bytes) = Some client
client_of s (MoveReservation from to bytes) = Some from
client_of s (MoveBuffer f to) = Some to

-- a page that is pinned without more room, or for which there is room
pub record CanBePinned (s : State) (p : ℕ) : Type 0 where
  pub page : Page
  pub lives : get s.pages p ≡ Some page
  pub here : (page.place ≡ Dirty) ⊎ ((writer : ℕ) × (page.place ≡ Flying writer)) ⊎ HasRoom s page.client (length_of s page.blocks)

-- there is room for the page once more
pub record CanBePinnedAgain (s : State) (p : ℕ) : Type 0 where
  pub page : Page
  pub lives : get s.pages p ≡ Some page
  pub room : HasRoom s page.client (length_of s page.blocks)

pub record CanBeMoved (s : State) (f to : ℕ) : Type 0 where
  pub buffer : Buffer
  pub lives : get s.buffers f ≡ Some buffer
  pub room : HasRoom s to (length_of s buffer.blocks)

-- the call has the room that it needs
abbrev pub IsEnabled : State → Call → Type 0
IsEnabled s (Pin p) = CanBePinned s p
IsEnabled s (PinAgain p) = CanBePinnedAgain s p
IsEnabled s (Create client blocks) = HasRoom s client (length_of s blocks)
IsEnabled s (Alloc client blocks) = HasRoom s client (length_of s blocks)
IsEnabled s (GiveBack client bytes) = HasRoom s client bytes
IsEnabled s (MoveReservation from to bytes) = HasRoom s from bytes
IsEnabled s (MoveBuffer f to) = CanBeMoved s f to

-- the call lacks room, and this is the first failure on a page of its client since the Ask
pub record LacksRoom (s : State) (maker : ℕ) (call : Call) (entry : ℕ) : Type 0 where
  pub client : ℕ
  pub of : client_of s call ≡ Some client
  pub full : IsEnabled s call → ⊥
  pub session : Session
  pub opened : get s.sessions maker ≡ Some session
  pub first : get session.failures client ≡ Some entry

-- the call is a pin, and this is its read that failed
pub record FailedToLoad (before : List Entry) (maker : ℕ) (call : Call) (entry : ℕ) : Type 0 where
  pub p : ℕ
  pub is : call ≡ Pin p
  pub failure : ℕ
  pub last : last_failed_read before maker p ≡ Some failure
  pub shows : entry ≡ shown failure

pub record MayRefuse (before : List Entry) (s : State) (maker : ℕ) (call : Call) (entry : ℕ) : Type 0 where
  pub asked : HasAsked before maker
  pub own : IsOwnCall s maker call
  pub why : LacksRoom s maker call entry ⊎ FailedToLoad before maker call entry
