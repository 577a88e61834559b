-- What an open input still holds.
use Rattle.std.specs.Prelude.{◌++◌, ℕ, List, flat_map}
use Rattle.csv_edge.specs.declared.header.Placed.{Placed}
use Rattle.csv_edge.specs.Pieces.{later_pieces}
use Rattle.csv_edge.specs.Typed.{Typed, records_in, rows_under}

-- bytes that were taken from a source and belong to later pieces, and how many more may be taken
pub record Taken : Type 0 where
  pub ahead : List ℕ
  pub allowed : ℕ

-- the records of a piece that are still to come, and what was taken for later ones
pub record Feed : Type 0 where
  pub records : List (List (List ℕ))
  pub taken : Taken

-- what is still to come, the columns and width of each record, the number of the next one, and how many are allowed
pub record Unread : Type 0 where
  pub feed : Feed
  pub width : ℕ
  pub columns : List Placed
  pub number : ℕ
  pub most : ℕ

-- the records that are still to come, where the source has these bytes left
abbrev pub records_left : Feed → List ℕ → List (List (List ℕ))
records_left feed bytes = feed.records ++ flat_map records_in (later_pieces (feed.taken.ahead ++ bytes))

-- the rows that are still to come, where the source has these bytes left
abbrev pub typed_left : Unread → List ℕ → Typed
typed_left unread bytes = rows_under unread.width unread.columns unread.most unread.number (records_left unread.feed bytes)
