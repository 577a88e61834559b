-- What is so of a stream over its store, after each call.
use Rattle.std.specs.Prelude.{◌≡◌, ◌≢◌, ℕ, ◌+◌, ◌-◌, ◌<◌, ◌≤◌, ◌⊎◌, ◌==◌, List, [], ◌∷◌, length, drop, replicate, All, slice_get, if◌then◌else◌, Option, Some, None, IfSome, IsSome, option_map, ⊤}
use Rattle.std.specs.List.{concat}
use Rattle.store_api.specs.Tokens.{PageToken}
use Rattle.store_api.specs.Holdings.{Holdings, page_of, unused_of}
use Rattle.store_api.specs.Conditions.{IsBlockCount, IsPage, Fits}
use Rattle.tuple_stream.specs.PageRows.{rows_on}
use Rattle.tuple_stream.specs.Streamed.{OpenPage, Streamed, len_in, bytes_of, page_rows, rows_of}

-- no page of these has this name
abbrev pub IsApart : ℕ → List PageToken → Type 0
IsApart name pages = All (λ p. p.name ≢ name) pages

-- no two of these have one name
abbrev pub AreApart : List PageToken → Type 0
AreApart [] = ⊤
AreApart (p ∷ pages) = IsApart p.name pages × AreApart pages

-- a page is the store's, of this client, and has so many blocks
pub record IsOwnPage (t blocks : ℕ) (h : Holdings) (p : PageToken) : Type 0 where
  pub page : IsPage p h
  pub client : p.client ≡ t
  pub blocks_are : (page_of p.name h).blocks ≡ blocks

-- how often the page at a place is pinned
abbrev pub pins_at : Option OpenPage → ℕ → ℕ
pins_at None place = 0
pins_at (Some page) place = if place == page.place then 1 else 0

-- the buffer is that of a page of the stream
pub record IsOpen (s : Streamed) (h : Holdings) (page : OpenPage) : Type 0 where
  pub inside : page.place < length s.pages
  pub fits : Fits s.page_blocks h page.buf

-- how far a page is spent
abbrev pub start_of : Streamed → ℕ → ℕ
start_of s place = if place == 0 then s.spent else 0

-- rows from one byte up to another, and zeros from there on
pub record IsFilled (start used : ℕ) (bytes : List ℕ) : Type 0 where
  pub rows : start + length (concat (rows_on (drop start bytes))) ≡ used
  pub zeros : drop used bytes ≡ replicate (length bytes - used) 0

-- of two neighbours the rows take more than one page
abbrev pub IsPacked : ℕ → List (List (List ℕ)) → Type 0
IsPacked len [] = ⊤
IsPacked len (a ∷ []) = ⊤
IsPacked len (a ∷ b ∷ rest) = (len < length (concat a) + length (concat b)) × IsPacked len (b ∷ rest)

-- the pages of which nothing is spent
abbrev pub unspent : Streamed → List (List (List ℕ)) → List (List (List ℕ))
unspent s pages = if s.spent == 0 then pages else drop 1 pages

-- a stream of a client, whatever its pages show: they are the client's and apart, and at most one is pinned
pub record IsShaped (t : ℕ) (s : Streamed) (h : Holdings) : Type 0 where
  pub sized : IsBlockCount s.page_blocks
  pub apart : AreApart s.pages
  pub own : All (IsOwnPage t s.page_blocks h) s.pages
  pub pins : (place : ℕ) (p : PageToken) → slice_get s.pages place ≡ Some p → (page_of p.name h).pins ≡ pins_at s.pinned place
  pub opened : IfSome s.pinned (IsOpen s h)
  pub begins : s.pages ≡ [] → (s.spent ≡ 0) × (s.used ≡ 0)

-- these rows stand on its pages: each page has one, and the last is filled up to where the next row may stand
pub record HasRows (rows : List (List ℕ)) (s : Streamed) (h : Holdings) : Type 0 where
  pub are : rows_of s h ≡ rows
  pub counted : s.count ≡ length rows
  pub filled : (place : ℕ) (p : PageToken) → slice_get s.pages place ≡ Some p → place + 1 ≡ length s.pages → IsFilled (start_of s place) s.used (bytes_of s h p)
  pub each : All (λ rows. 0 < length rows) (page_rows s h)
  pub packed : IsPacked (len_in s h) (unspent s (page_rows s h))

-- the page at this place is pinned
abbrev pub IsOpenAt : ℕ → Streamed → Type 0
IsOpenAt place s = option_map (λ p. p.place) s.pinned ≡ Some place

-- rows can be appended without a pin: the last page is pinned, or there is none
abbrev pub IsAtEnd : Streamed → Type 0
IsAtEnd s = 0 < length s.pages → option_map (λ p. p.place + 1) s.pinned ≡ Some (length s.pages)

-- the client has room for one page more, or the stream has one that it can let rest
abbrev pub HasPageRoom : ℕ → Streamed → Holdings → Type 0
HasPageRoom t s h = (len_in s h ≤ unused_of t h) ⊎ IsSome s.pinned
