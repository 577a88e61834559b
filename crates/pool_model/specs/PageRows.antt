-- When pages and buffers may come, change and go. Each row is what its event needs.
use Rattle.std.specs.Prelude.{◌≡◌, ◌≢◌, ℕ, ◌<◌, ◌≤◌, ◌⊎◌, List, length, true, false, Some, None}
use Rattle.std.specs.FinMap.{get}
use Rattle.pool_model.specs.State.{Pinned, Dirty, Flying, Loading, Clean, Evicted, Page, Buffer, State}
use Rattle.pool_model.specs.Sums.{length_of, HasRoom, free_bytes, free_slots}
use Rattle.pool_model.specs.Owning.{IsClientOf, IsPageOf}

-- there is room for so many blocks, and so many are free
pub record CanTake (s : State) (client blocks : ℕ) : Type 0 where
  pub room : HasRoom s client (length_of s blocks)
  pub free : length_of s blocks ≤ free_bytes s

pub record MayCreate (s : State) (maker p client blocks : ℕ) : Type 0 where
  pub next : p ≡ s.next_name
  pub left : p < 18446744073709551615
  pub own : IsClientOf s maker client
  pub takes : CanTake s client blocks

-- a clean page is charged again
pub record IsCleanWithRoom (s : State) (page : Page) : Type 0 where
  pub clean : page.place ≡ Clean
  pub room : HasRoom s page.client (length_of s page.blocks)

pub record MayPinHere (s : State) (maker p : ℕ) : Type 0 where
  pub page : Page
  pub own : IsPageOf s maker p page
  pub here : (page.place ≡ Dirty) ⊎ IsCleanWithRoom s page

pub record MayPinLoad (s : State) (maker p : ℕ) : Type 0 where
  pub page : Page
  pub own : IsPageOf s maker p page
  pub evicted : page.place ≡ Evicted
  pub takes : CanTake s page.client page.blocks

-- a pinned page is charged once more
pub record MayPinAgain (s : State) (maker p : ℕ) : Type 0 where
  pub page : Page
  pub own : IsPageOf s maker p page
  pub count : ℕ
  pub pinned : page.place ≡ Pinned count
  pub room : HasRoom s page.client (length_of s page.blocks)

-- one of several pins ends
pub record MayUnpinOnce (s : State) (maker p : ℕ) : Type 0 where
  pub page : Page
  pub own : IsPageOf s maker p page
  pub count : ℕ
  pub pinned : page.place ≡ Pinned count
  pub several : 2 ≤ count

-- a page is left with bytes by its only pin; the first time it takes slots
pub record MayUnpin (s : State) (maker p : ℕ) (content : List ℕ) : Type 0 where
  pub page : Page
  pub own : IsPageOf s maker p page
  pub pinned : page.place ≡ Pinned 1
  pub whole : length content ≡ length_of s page.blocks
  pub slots : (page.has_slots ≡ true) ⊎ (page.blocks ≤ free_slots s maker)

pub record MayRefuseUnpin (s : State) (maker p : ℕ) : Type 0 where
  pub page : Page
  pub own : IsPageOf s maker p page
  pub pinned : page.place ≡ Pinned 1
  pub none : page.has_slots ≡ false
  pub few : free_slots s maker < page.blocks

pub record MayExtract (s : State) (maker p f : ℕ) : Type 0 where
  pub page : Page
  pub own : IsPageOf s maker p page
  pub pinned : page.place ≡ Pinned 1
  pub fresh : get s.buffers f ≡ None

pub record MayDestroy (s : State) (maker p : ℕ) : Type 0 where
  pub page : Page
  pub own : IsPageOf s maker p page
  pub not_flying : (writer : ℕ) → page.place ≢ Flying writer
  pub not_loading : page.place ≢ Loading

pub record MayAlloc (s : State) (maker f client blocks : ℕ) : Type 0 where
  pub fresh : get s.buffers f ≡ None
  pub own : IsClientOf s maker client
  pub takes : CanTake s client blocks

pub record MayFree (s : State) (maker f : ℕ) : Type 0 where
  pub buffer : Buffer
  pub lives : get s.buffers f ≡ Some buffer
  pub own : IsClientOf s maker buffer.client

pub record MayMoveBuffer (s : State) (maker f to : ℕ) : Type 0 where
  pub buffer : Buffer
  pub lives : get s.buffers f ≡ Some buffer
  pub own : IsClientOf s maker buffer.client
  pub own_to : IsClientOf s maker to
  pub other : buffer.client ≢ to
  pub room : HasRoom s to (length_of s buffer.blocks)
