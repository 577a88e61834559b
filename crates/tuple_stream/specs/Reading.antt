-- A row is read at a place. What a page shows is known only where pins are told.
use Rattle.std.specs.Prelude.{◌≡◌, ℕ, ◌+◌, ◌<◌, List, ◌∷◌, ◌++◌, length, take, slice_get, Option, Some, None}
use Rattle.tuple_stream.specs.Places.{Place, IsWithin, rows_from}
use Rattle.tuple_stream.specs.Streams.{IsOpenAt}
use Rattle.tuple_stream.specs.Steps.{Scene, Shows, Stands, Tells, Reads}

-- the first byte of the page behind
abbrev pub next_page : Place → Place
next_page place = record { page = place.page + 1; byte = 0; row = place.row }

-- the place behind a row that ends at this byte
abbrev pub behind_row : Place → ℕ → Place
behind_row place byte = record { page = place.page; byte = byte; row = place.row + 1 }

-- this row stands at the place
pub record HasRowAt (place behind : Place) (row : List ℕ) (b : Scene) : Type 0 where
  pub row_is : rows_from place b.stream b.held ≡ row ∷ rows_from behind b.stream b.held
  pub stands : Stands b place → Stands b behind

-- what was found in the place's page: a row that ends at this byte, or none, and then reading goes on in the next page
abbrev pub IsFoundAt : Option ℕ → Place → List ℕ → Scene → Type 0
IsFoundAt (Some byte) place row b = (rows : List (List ℕ)) → Shows b rows → HasRowAt place (behind_row place byte) row b
IsFoundAt None place row b = (rows : List (List ℕ)) → Shows b rows → place.page + 1 < length b.stream.pages → Stands b place → Stands b (next_page place)

-- the page that the row stands on is pinned; where it was so before, and the place stood in it, the store is as before
pub record KeepsOpen (place behind : Place) (a b : Scene) : Type 0 where
  pub pinned : IsOpenAt behind.page b.stream
  pub still : IsOpenAt behind.page a.stream → place.page ≡ behind.page → (b.held ≡ a.held) × (b.signs ≡ a.signs)

-- a row was read, and the place is behind it; where pins are told, it is the row of that number
pub record ReadsRow (place behind : Place) (row : List ℕ) (a b : Scene) : Type 0 where
  pub moved : behind.row ≡ place.row + 1
  pub within : IsWithin behind b.stream
  pub open_page : KeepsOpen place behind a b
  pub row_is : (rows : List (List ℕ)) → Tells a → Shows a rows → Stands a place → (slice_get rows place.row ≡ Some row) × Stands b behind

-- there was a row exactly where fewer were read than there are
abbrev pub Keeps : Option (List ℕ) → Place → Place → Scene → Scene → Type 0
Keeps (Some row) place behind a b = ReadsRow place behind row a b
Keeps None place behind a b = (place.row ≡ a.stream.count) × (behind ≡ place)

-- a stream was read to its end: as many rows came as it has, and where pins are told, those that it has
pub record ReadsAll (before after : List (List ℕ)) (a : Scene) : Type 0 where
  pub counted : length after ≡ length before + a.stream.count
  pub rows_are : (rows : List (List ℕ)) → Tells a → Shows a rows → after ≡ before ++ rows

-- a stream is being read from its start on, and reading stands at this place
pub record HasRead (t : ℕ) (before now : List (List ℕ)) (place : Place) (a b : Scene) : Type 0 where
  pub went : Reads t a b
  pub same : b.stream ≡ record a.stream { pinned = b.stream.pinned }
  pub within : IsWithin place b.stream
  pub counted : length now ≡ length before + place.row
  pub rows_are : (rows : List (List ℕ)) → Tells a → Shows a rows → Stands b place × (now ≡ before ++ take place.row rows)
