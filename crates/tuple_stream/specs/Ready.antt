-- What a stream is before a row is written at its end. No public clause says this.
use Rattle.std.specs.Prelude.{◌≡◌, ℕ, ◌+◌, ◌<◌, ◌≤◌, List, [], ◌∷◌, ◌++◌, length, drop, All, slice_get, Some, option_map}
use Rattle.block_arena.specs.Bytes.{written}
use Rattle.block_arena.specs.Memory.{Buffer, with_bytes}
use Rattle.store_api.specs.Tokens.{PageToken}
use Rattle.store_api.specs.Holdings.{Holdings, page_of}
use Rattle.tuple_stream.specs.PageRows.{rows_on}
use Rattle.tuple_stream.specs.Streamed.{OpenPage, Streamed, len_in, all_bytes, rows_by_page, rows_of}
use Rattle.tuple_stream.specs.Streams.{IsFilled, IsPacked, pins_at, start_of, unspent}

-- the pinned page with a row written from this byte on
abbrev pub with_row_at : ℕ → List ℕ → OpenPage → OpenPage
with_row_at at row page = record page { buf = with_bytes page.buf (written at row page.buf.bytes) }

-- the stream with a row more in its pinned page, and so many rows
abbrev pub with_row : List ℕ → ℕ → Streamed → Streamed
with_row row count s = record s {
  pinned = option_map (with_row_at s.used row) s.pinned;
  used = s.used + length row;
  count = count;
}

-- the rows page by page, if such a row stood at the end of the last page
abbrev pub rows_then : List (List (List ℕ)) → List (List ℕ) → List ℕ → List (List (List ℕ))
rows_then pages last row = pages ++ (last ++ row ∷ []) ∷ []

-- a stream whose last page is pinned and has room for a row of so many bytes; that page may have no row yet
pub record IsReady (bytes : ℕ) (s : Streamed) (h : Holdings) : Type 0 where
  pub before : List PageToken
  pub last : PageToken
  pub buf : Buffer
  pub pages_are : s.pages ≡ before ++ last ∷ []
  pub pinned_is : s.pinned ≡ Some (record { place = length before; buf = buf })
  pub pins : (place : ℕ) (p : PageToken) → slice_get s.pages place ≡ Some p → (page_of p.name h).pins ≡ pins_at s.pinned place
  pub filled : IsFilled (start_of s (length before)) s.used buf.bytes
  pub room : s.used + bytes ≤ length buf.bytes
  pub each : All (λ rows. 0 < length rows) (rows_by_page s.spent (all_bytes s h before))
  pub counted : s.count ≡ length (rows_of s h)
  pub packed : (row : List ℕ) → length row ≡ bytes → IsPacked (len_in s h) (unspent s (rows_then (rows_by_page s.spent (all_bytes s h before)) (rows_on (drop (start_of s (length before)) buf.bytes)) row))
