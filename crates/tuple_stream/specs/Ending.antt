-- A stream whose pages go one by one, from the front. About inner calls; no public clause cites this.
use Rattle.std.specs.Prelude.{◌≡◌, ℕ, ◌-◌, ◌==◌, List, [], ◌∷◌, drop, slice_get, All, if◌then◌else◌, Option, Some, None, IfSome}
use Rattle.block_arena.specs.Memory.{Buffer}
use Rattle.store_api.specs.Tokens.{PageToken}
use Rattle.store_api.specs.Holdings.{Holdings, page_of}
use Rattle.tuple_stream.specs.Streamed.{OpenPage, Streamed}
use Rattle.tuple_stream.specs.Streams.{AreApart, IsOwnPage, IsOpen, pins_at}

-- the pages are the client's and apart, and at most one is pinned
pub record HasPages (t : ℕ) (s : Streamed) (h : Holdings) : Type 0 where
  pub apart : AreApart s.pages
  pub own : All (IsOwnPage t s.page_blocks h) s.pages
  pub pins : (place : ℕ) (p : PageToken) → slice_get s.pages place ≡ Some p → (page_of p.name h).pins ≡ pins_at s.pinned place
  pub opened : IfSome s.pinned (IsOpen s h)

-- the buffer of the first page, where that one is pinned
abbrev pub first_buf : Option OpenPage → Option Buffer
first_buf None = None
first_buf (Some page) = if page.place == 0 then Some page.buf else None

-- the pinned page once the first page is gone: another one stands one place nearer
abbrev pub behind_first : Option OpenPage → Option OpenPage
behind_first None = None
behind_first (Some page) = if page.place == 0 then None else Some (record page { place = page.place - 1 })

-- the stream without its first page
abbrev pub without_first : Streamed → Streamed
without_first s = record s { pages = drop 1 s.pages; pinned = behind_first s.pinned }

-- how far the last page is used, where there is one
abbrev pub used_in : List PageToken → ℕ → ℕ
used_in [] used = 0
used_in (p ∷ pages) used = used

-- the stream without its first page, of which all rows were spent
abbrev pub with_next : Streamed → Streamed
with_next s = record (without_first s) { spent = 0; used = used_in (drop 1 s.pages) s.used }
