-- Pages are pinned once more, or once less.
use Rattle.std.specs.Prelude.{ℕ, ◌≡◌, ◌+◌, ◌-◌, ◌<◌, ◌≤◌, Some}
use Rattle.std.specs.FinMap.{get}
use Rattle.page_table.specs.declared.page_id.PageId.{PageId}
use Rattle.page_table.specs.declared.entry.Place.{Place as Spot}
use Rattle.page_table.specs.declared.entry.Place.TheVariants as spot
use Rattle.page_table.specs.declared.entry.Entry.{Entry}
use Rattle.page_table.specs.Pages.{with_entry}
use Rattle.reservation_tree.specs.Tree.{charge_of as charge_in, set_charge}
use Rattle.reservation_tree.specs.Tracker.{IsLive, unused}
use Rattle.pool_model.specs.Bytes.{bytes_of}
use Rattle.pool_model.specs.State.{Pinned, State, page_at, pins_of, shown}
use Rattle.pool_model.specs.Sums.{HasRoom, length_of}
use Rattle.pool_model.specs.Parts.{pins_at}
use Rattle.store_api.specs.Tokens.{PageToken}
use Rattle.pin_core.specs.declared.kept.Kept.{Kept}
use Rattle.pin_core.specs.declared.parts.Parts.{Parts}
use Rattle.pin_core.specs.StateOf.{place_in}
use Rattle.pin_core.specs.calls.Needs.{IsPage}

-- the page is live and pinned, however often
pub record IsPinned (s : State) (p : PageToken) : Type 0 where
  pub page : IsPage s p
  pub pinned : (page_at s p.name).place ≡ Pinned (pins_at s p.name)

-- the page is live with two pins at least
pub record HasPinToSpare (s : State) (p : PageToken) : Type 0 where
  pub pinned : IsPinned s p
  pub several : 2 ≤ pins_at s p.name

-- the page's client can hold its length once more
abbrev pub HasRoomFor : State → ℕ → Type 0
HasRoomFor s p = HasRoom s (page_at s p).client (length_of s (page_at s p).blocks)

-- how often a page in this place is pinned
abbrev pub pins_in : Spot → ℕ
pins_in at = pins_of (place_in at)

module _ {D : Type 0} where
  -- the page is live and pinned
  pub record CanRepin (v : Parts D) (id : PageId) (x : Entry (Kept D)) : Type 0 where
    pub live : get v.pages.names id.key ≡ Some id.name
    pub there : get v.pages.entries id.name ≡ Some x
    pub pinned : x.place ≡ spot.Pinned (pins_in x.place)

  -- what the parts need of each other for one pin more
  pub record ReadyAgain (v : Parts D) (x : Entry (Kept D)) : Type 0 where
    pub few : pins_in x.place < 4294967295
    pub live : IsLive v.tree.trackers x.client
    pub unused : bytes_of v.block_len x.blocks ≤ unused (charge_in v.tree) v.tree.trackers x.client
    pub len : v.block_len ≡ v.arena.block_len

  -- and for one less
  pub record ReadyOnce (v : Parts D) (x : Entry (Kept D)) : Type 0 where
    pub some : 0 < pins_in x.place
    pub live : IsLive v.tree.trackers x.client
    pub used : bytes_of v.block_len x.blocks ≤ charge_in v.tree x.client
    pub len : v.block_len ≡ v.arena.block_len

  abbrev pub with_pins : ℕ → Entry (Kept D) → Entry (Kept D)
  with_pins count x = record x { place = spot.Pinned count }

  -- a page has so many pins, and its client this charge
  abbrev pub repinned : ℕ → ℕ → PageId → Entry (Kept D) → Parts D → Parts D
  repinned count charge id x v = record v {
    pages = with_entry v.pages id (with_pins count x);
    tree = set_charge charge x.client v.tree;
    entries = shown (v.entries + 1);
  }

  -- a page has one pin more
  abbrev pub pinned_again : PageId → Entry (Kept D) → Parts D → Parts D
  pinned_again id x v = repinned (pins_in x.place + 1) (charge_in v.tree x.client + bytes_of v.arena.block_len x.blocks) id x v

  -- and one less
  abbrev pub unpinned_once : PageId → Entry (Kept D) → Parts D → Parts D
  unpinned_once id x v = repinned (pins_in x.place - 1) (charge_in v.tree x.client - bytes_of v.arena.block_len x.blocks) id x v
