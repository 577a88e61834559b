-- What calls need of the state of a pool.
use Rattle.std.specs.Prelude.{◌≡◌, Some}
use Rattle.std.specs.FinMap.{get}
use Rattle.block_arena.specs.Memory.{Buffer, IsBufferOf}
use Rattle.page_table.specs.declared.page_id.PageId.{PageId}
use Rattle.pool_model.specs.State.{Pinned, State, page_at}
use Rattle.store_api.specs.Tokens.{PageToken}

-- by what the table finds a page
abbrev pub id_in : PageToken → PageId
id_in p = record { name = p.name; key = p.key }

-- the page is live
pub record IsPage (s : State) (p : PageToken) : Type 0 where
  pub lives : get s.pages p.name ≡ Some (page_at s p.name)
  pub key : (page_at s p.name).key ≡ p.key

-- the page is live with one pin, and this is its buffer
pub record IsLastPin (s : State) (p : PageToken) (buf : Buffer) : Type 0 where
  pub page : IsPage s p
  pub pinned : (page_at s p.name).place ≡ Pinned 1
  pub buffer : IsBufferOf (page_at s p.name).blocks s.block_len buf
