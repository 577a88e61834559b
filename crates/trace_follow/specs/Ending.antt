-- How pages and buffers come and go, with what their client has, what is free, and the slots in use.
use Rattle.std.specs.Prelude.{◌≡◌, ℕ, ◌+◌, ◌*◌}
use Rattle.std.specs.FinMap.{insert, remove}
use Rattle.pool_model.specs.Bytes.{only_if}
use Rattle.trace_follow.specs.declared.rows.Load.{Load}
use Rattle.trace_follow.specs.declared.rows.PageRow.{PageRow}
use Rattle.trace_follow.specs.declared.rows.BufferRow.{BufferRow}
use Rattle.trace_follow.specs.declared.follower.Follower.{Follower}
use Rattle.trace_follow.specs.Tables.{amount_at}
use Rattle.trace_follow.specs.Rows.{load_at}
use Rattle.trace_follow.specs.Moving.{charges_of, holds_of, blocks_of}

-- what a client has, with one thing more of this length, charged and held so often
pub record Gains (len charges holds : ℕ) (before after : Load) : Type 0 where
  pub charge : after.charge ≡ before.charge + charges * len
  pub held : after.held ≡ before.held + holds * len
  pub count : after.count ≡ before.count + 1

-- a page ends
pub record EndsPage (old new : Follower) (p : ℕ) (row : PageRow) : Type 0 where
  pub load : Load
  pub free : ℕ
  pub lent : ℕ
  pub is : new ≡ record old { pages = remove old.pages p; loads = insert old.loads row.client load; lent = insert old.lent row.session lent; free = free }
  pub loads : Gains (row.blocks * old.block_len) (charges_of row.place) (holds_of row.place) load (load_at old.loads row.client)
  pub frees : free ≡ old.free + blocks_of row.place * (row.blocks * old.block_len)
  pub slots : lent + only_if row.has_slots row.blocks ≡ amount_at old.lent row.session

-- a page comes, pinned once and without slots
pub record AddsPage (old new : Follower) (p : ℕ) (row : PageRow) : Type 0 where
  pub load : Load
  pub free : ℕ
  pub is : new ≡ record old { pages = insert old.pages p row; loads = insert old.loads row.client load; free = free }
  pub loads : Gains (row.blocks * old.block_len) 1 1 (load_at old.loads row.client) load
  pub takes : free + row.blocks * old.block_len ≡ old.free

-- a buffer comes
pub record AddsBuffer (old new : Follower) (f : ℕ) (row : BufferRow) : Type 0 where
  pub load : Load
  pub free : ℕ
  pub is : new ≡ record old { buffers = insert old.buffers f row; loads = insert old.loads row.client load; free = free }
  pub loads : Gains (row.blocks * old.block_len) 1 1 (load_at old.loads row.client) load
  pub takes : free + row.blocks * old.block_len ≡ old.free

-- a buffer ends
pub record EndsBuffer (old new : Follower) (f : ℕ) (row : BufferRow) : Type 0 where
  pub load : Load
  pub free : ℕ
  pub is : new ≡ record old { buffers = remove old.buffers f; loads = insert old.loads row.client load; free = free }
  pub loads : Gains (row.blocks * old.block_len) 1 1 load (load_at old.loads row.client)
  pub frees : free ≡ old.free + row.blocks * old.block_len
