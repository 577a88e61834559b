-- How a live page's row changes: the page goes to another place, and with it what its client has and what is free.
use Rattle.std.specs.Prelude.{◌≡◌, ℕ, ◌+◌, ◌*◌}
use Rattle.std.specs.FinMap.{insert}
use Rattle.trace_follow.specs.declared.rows.Place.{Place}
use Rattle.trace_follow.specs.declared.rows.Place.TheVariants as spot
use Rattle.trace_follow.specs.declared.rows.Load.{Load}
use Rattle.trace_follow.specs.declared.rows.PageRow.{PageRow}
use Rattle.trace_follow.specs.declared.follower.Follower.{Follower}
use Rattle.trace_follow.specs.Rows.{load_at}

-- how often a page in this place is charged to its client, how often the client holds it, and whether it has blocks
abbrev pub charges_of : Place → ℕ
charges_of (spot.Pinned count) = count
charges_of spot.Loading = 1
charges_of _ = 0

abbrev pub holds_of : Place → ℕ
holds_of (spot.Pinned count) = count
holds_of spot.Clean = 0
holds_of spot.Evicted = 0
holds_of _ = 1

abbrev pub blocks_of : Place → ℕ
blocks_of spot.Evicted = 0
blocks_of _ = 1

-- how often a page in this place is pinned
abbrev pub pins_in : Place → ℕ
pins_in (spot.Pinned count) = count
pins_in _ = 0

-- what a client has of pages, after one of this length went from one place to another
pub record Reloads (len : ℕ) (old new : Place) (before after : Load) : Type 0 where
  pub charge : after.charge + charges_of old * len ≡ before.charge + charges_of new * len
  pub held : after.held + holds_of old * len ≡ before.held + holds_of new * len
  pub count : after.count ≡ before.count

-- the page has another row, in another place
pub record Moves (old new : Follower) (p : ℕ) (was row : PageRow) : Type 0 where
  pub load : Load
  pub free : ℕ
  pub is : new ≡ record old { pages = insert old.pages p row; loads = insert old.loads was.client load; free = free }
  pub loads : Reloads (was.blocks * old.block_len) was.place row.place (load_at old.loads was.client) load
  pub frees : free + blocks_of row.place * (was.blocks * old.block_len) ≡ old.free + blocks_of was.place * (was.blocks * old.block_len)
