-- A page ends: what its end needs, and what it enters.
use Rattle.std.specs.Prelude.{ℕ, ◌≢◌, Bool, true, false}
use Rattle.block_arena.specs.Memory.{Buffer, IsBufferOf}
use Rattle.pool_model.specs.declared.entry.Entry.{Entry as Event}
use Rattle.pool_model.specs.declared.event.Event.TheVariants as event
use Rattle.pool_model.specs.State.{Place, Pinned, Flying, Loading, State, page_at}
use Rattle.store_api.specs.Tokens.{PageToken}
use Rattle.pin_core.specs.calls.Needs.{IsPage}
use Rattle.pin_core.specs.calls.Pins.{IsPinned}

-- the page is pinned, however often, and this is its buffer
pub record IsPinnedWith (s : State) (p : PageToken) (buf : Buffer) : Type 0 where
  pub pinned : IsPinned s p
  pub buffer : IsBufferOf (page_at s p.name).blocks s.block_len buf

abbrev pub is_flying : Place → Bool
is_flying (Flying writer) = true
is_flying _ = false

-- the page is neither pinned nor loading
pub record IsUnpinned (s : State) (p : PageToken) : Type 0 where
  pub page : IsPage s p
  pub not_pinned : (count : ℕ) → (page_at s p.name).place ≢ Pinned count
  pub not_loading : (page_at s p.name).place ≢ Loading

-- the page's session ended the page
abbrev pub destroy_entry : State → ℕ → Event
destroy_entry s name = record { maker = (page_at s name).session; event = event.Destroy name }

-- and made its blocks a buffer of this number
abbrev pub extract_entry : State → ℕ → ℕ → Event
extract_entry s name f = record { maker = (page_at s name).session; event = event.Extract name f }
