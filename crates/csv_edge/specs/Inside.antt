-- What the parts of the reading keep.
use Rattle.std.specs.Prelude.{◌≡◌, ◌+◌, ◌-◌, ◌++◌, ℕ, List, [], Option, Some, None, Vec, IfSome, drop, length, flat_map, option_map, take}
use Rattle.std.specs.Io.Cursor.{cursor_remaining}
use Rattle.std.specs.declared.io.Cursor.{Cursor}
use Rattle.std.specs.declared.alloc.Global.{Global}
use Rattle.std.specs.Io.KnownBytes.{Consumes}
use Rattle.csv_edge.specs.Pieces.{front_len, later_pieces, piece_bytes}
use Rattle.csv_edge.specs.Typed.{Typed, records_in}
use Rattle.csv_edge.specs.Unread.{Feed, Unread, records_left, typed_left}
use Rattle.csv_edge.specs.declared.scan.Scan.TheVariants as scan
use Rattle.csv.specs.Reading.{Ready, default_config, records_from, source_of}
use Rattle.csv.specs.declared.parser.State.{State}
use Rattle.csv.specs.declared.reader.Reader.{Reader}
use Rattle.csv.specs.declared.reader.Trim.TheVariants as trim

-- the records of these bytes, from a state on
abbrev pub records_in_state : State → Option (List ℕ) → List (List (List ℕ))
records_in_state state None = []
records_in_state state (Some bytes) = records_from default_config (length bytes + 1) state bytes

-- the bytes that a piece still gives
abbrev pub piece_left : Cursor (Vec ℕ Global) → Option (List ℕ)
piece_left piece = cursor_remaining (λ v. Some v.items) piece

-- the records that a reader of a piece still gives
abbrev pub records_behind : Reader (Cursor (Vec ℕ Global)) → List (List (List ℕ))
records_behind reader = records_in_state reader.state (source_of piece_left reader)

-- a reader of a piece as this crate makes it, which has not failed
pub record IsSound (reader : Reader (Cursor (Vec ℕ Global))) : Type 0 where
  pub plain : reader.trim ≡ trim.None
  pub ready : Ready reader
  pub default : reader.config ≡ default_config
  pub left : List ℕ
  pub source : source_of piece_left reader ≡ Some left

-- bytes moved from the source to the end of a piece, up to the first cut at which it is long enough, or up to the end
pub record Fills (before now : Option (List ℕ)) (old piece : List ℕ) : Type 0 where
  pub front : List ℕ
  pub grown : piece ≡ old ++ front
  pub taken : Consumes before now front
  pub len : IfSome before (λ bytes. length front ≡ front_len scan.Start (piece_bytes - length old) bytes)

-- told bytes begin with a piece of this length, and lose it
abbrev pub Cuts : (List ℕ → ℕ) → Option (List ℕ) → Option (List ℕ) → List ℕ → Type 0
Cuts len before now piece = IfSome before (λ bytes. (piece ≡ take (len bytes) bytes) × (now ≡ Some (drop (len bytes) bytes)))

-- the records of the pieces that stand behind a cut
abbrev pub later_records : List ℕ → List (List (List ℕ))
later_records bytes = flat_map records_in (later_pieces bytes)

-- the records that are still to come, where the bytes of the source are told
abbrev pub records_told : Feed → Option (List ℕ) → Option (List (List (List ℕ)))
records_told feed told = option_map (records_left feed) told

-- the rows that are still to come, where the bytes of the source are told
abbrev pub typed_told : Unread → Option (List ℕ) → Option Typed
typed_told unread told = option_map (typed_left unread) told
