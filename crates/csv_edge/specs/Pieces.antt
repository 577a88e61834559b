-- How an input is cut into pieces, which are read one after the other.
-- A cut is a place behind a newline that stands in no quotes. A piece is the shortest front of what
-- is left that has at least `piece_bytes` bytes and ends at a cut, or all of what is left.
use Rattle.std.specs.Prelude.{◌==◌, ◌&&◌, ◌||◌, ◌+◌, ◌-◌, if◌then◌else◌, ℕ, zero, suc, Bool, false, List, [], ◌∷◌, take, drop, length, nat_le}
use Rattle.csv.specs.Reading.{is_bom}
use Rattle.csv_edge.specs.declared.scan.Scan.{Scan}
use Rattle.csv_edge.specs.declared.scan.Scan.TheVariants.{Start, Plain, Quoted, Closing}

-- a piece has at least so many bytes, if another one follows
abbrev pub piece_bytes : ℕ
piece_bytes = 1048576

-- whether a byte is a quote
abbrev pub is_quote : ℕ → Bool
is_quote byte = byte == 34

-- whether a byte outside quotes ends a field
abbrev pub ends_field : ℕ → Bool
ends_field byte = (byte == 44) || (byte == 10) || (byte == 13)

-- where the scan stands behind a byte
abbrev pub after_byte : Scan → ℕ → Scan
after_byte Start byte = if is_quote byte then Quoted else if ends_field byte then Start else Plain
after_byte Plain byte = if ends_field byte then Start else Plain
after_byte Quoted byte = if is_quote byte then Closing else Quoted
after_byte Closing byte = if is_quote byte then Quoted else if ends_field byte then Start else Plain

-- whether a cut stands behind a byte
abbrev pub is_cut : Scan → ℕ → Bool
is_cut Start byte = byte == 10
is_cut Plain byte = byte == 10
is_cut Quoted byte = false
is_cut Closing byte = byte == 10

-- the length of the shortest front that has at least so many bytes and ends at a cut, or of all
abbrev pub front_len : Scan → ℕ → List ℕ → ℕ
front_len scan least [] = 0
front_len scan least (byte ∷ rest) = suc (if is_cut scan byte && nat_le least 1 then 0 else front_len (after_byte scan byte) (least - 1) rest)

-- the length of a byte order mark at the front of an input
abbrev pub mark_len : List ℕ → ℕ
mark_len [] = 0
mark_len (a ∷ []) = 0
mark_len (a ∷ b ∷ []) = 0
mark_len (a ∷ b ∷ c ∷ rest) = if is_bom a b c then 3 else 0

-- the length of the first piece: the scan starts behind a byte order mark
abbrev pub first_len : List ℕ → ℕ
first_len bytes = mark_len bytes + front_len Start (piece_bytes - mark_len bytes) (drop (mark_len bytes) bytes)

-- the length of a later piece
abbrev pub next_len : List ℕ → ℕ
next_len bytes = front_len Start piece_bytes bytes

-- the pieces of what is left behind a cut, at most so many
abbrev pub pieces_left : ℕ → List ℕ → List (List ℕ)
pieces_left zero bytes = []
pieces_left (suc most) [] = []
pieces_left (suc most) (byte ∷ rest) = take (next_len (byte ∷ rest)) (byte ∷ rest) ∷ pieces_left most (drop (next_len (byte ∷ rest)) (byte ∷ rest))

-- all the pieces of what is left behind a cut: each has a byte
abbrev pub later_pieces : List ℕ → List (List ℕ)
later_pieces bytes = pieces_left (length bytes) bytes

-- the pieces of an input, one after the other
abbrev pub pieces_of : List ℕ → List (List ℕ)
pieces_of bytes = take (first_len bytes) bytes ∷ later_pieces (drop (first_len bytes) bytes)
