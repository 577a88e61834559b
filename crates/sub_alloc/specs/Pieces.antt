-- What contracts see of a suballocator and its pieces. Lengths of pieces go by their classes: class c is 64 * 2 ^ c bytes. A
-- place is 64 bytes of a buffer; the places of all buffers are numbered through, those of buffer 0 first.
use Rattle.std.specs.Prelude.{◌≡◌, ℕ, zero, suc, ◌+◌, ◌-◌, ◌*◌, ◌/◌, ◌%◌, ◌^◌, ◌<◌, List, [], get_or, length, Option, None, Some, IsSome, option_map, set, take, drop}
use Rattle.index_list.specs.Listing.{Listing, list_with}
use Rattle.block_arena.specs.Bytes.{written}
use Rattle.block_arena.specs.Memory.{with_bytes}
use Rattle.store_api.specs.Tokens.{LoanToken, with_buf}

-- a piece: so many bytes of a buffer, from one of its bytes on
pub record PieceToken : Type 0 where
  pub buf : ℕ
  pub at : ℕ
  pub len : ℕ

-- a suballocator: the block length of its store and the blocks of each buffer; how many lengths a piece may have; its
-- buffers by number, with none where a buffer is closed; for each class the places where its free pieces begin, in the order
-- in which they became free; and for each place 0, or one more than the class of the live piece that begins there
pub record Division : Type 0 where
  pub block_len : ℕ
  pub page_blocks : ℕ
  pub classes : ℕ
  pub buffers : List (Option LoanToken)
  pub free : Listing
  pub live : List ℕ

-- the places of a buffer, and its bytes
abbrev pub places : Division → ℕ
places d = 2 ^ (d.classes - 1)

abbrev pub buffer_len : Division → ℕ
buffer_len d = 64 * places d

-- the buffer of a number, if it is open
abbrev pub buffer : ℕ → Division → Option LoanToken
buffer u d = get_or d.buffers u None

abbrev pub IsOpen : ℕ → Division → Type 0
IsOpen u d = IsSome (buffer u d)

-- the class that a mark stands for
abbrev pub marked : ℕ → Option ℕ
marked zero = None
marked (suc c) = Some c

-- the first that there is
abbrev pub either : Option ℕ → Option ℕ → Option ℕ
either None other = other
either (Some c) other = Some c

-- the class of the free piece that begins at a place, of the live one, and of either
abbrev pub free_at : Division → ℕ → Option ℕ
free_at d n = list_with n d.free

abbrev pub live_at : Division → ℕ → Option ℕ
live_at d n = marked (get_or d.live n 0)

abbrev pub size_at : Division → ℕ → Option ℕ
size_at d n = either (free_at d n) (live_at d n)

-- the piece of a class at a place
abbrev pub piece_at : Division → ℕ → ℕ → PieceToken
piece_at d c n = record { buf = n / places d; at = 64 * (n % places d); len = 64 * 2 ^ c }

-- the place where a piece begins
abbrev pub place_of : Division → PieceToken → ℕ
place_of d p = p.buf * places d + p.at / 64

-- the piece is one of the allocator's, and live
pub record IsLive (p : PieceToken) (d : Division) : Type 0 where
  pub class : ℕ
  pub live : live_at d (place_of d p) ≡ Some class
  pub is : p ≡ piece_at d class (place_of d p)

-- a live piece is of this class, and begins at this place
pub record BeginsAt (d : Division) (p : PieceToken) (class begin : ℕ) : Type 0 where
  pub place : begin ≡ place_of d p
  pub mark : get_or d.live begin 0 ≡ suc class
  pub short : class < d.classes
  pub aligned : (r : ℕ) × (begin ≡ r * 2 ^ class)
  pub inside : begin < d.free.nodes

-- no piece is live
abbrev pub HasNoLive : Division → Type 0
HasNoLive d = (n : ℕ) → live_at d n ≡ None

-- the bytes of a buffer, and those of a piece
abbrev pub bytes_in : Option LoanToken → List ℕ
bytes_in None = []
bytes_in (Some loan) = loan.buf.bytes

abbrev pub bytes_of : PieceToken → Division → List ℕ
bytes_of p d = take p.len (drop p.at (bytes_in (buffer p.buf d)))

-- a loan where these bytes were written over what stood from a byte on
abbrev pub with_written : ℕ → List ℕ → LoanToken → LoanToken
with_written at bytes loan = with_buf loan (with_bytes loan.buf (written at bytes loan.buf.bytes))

-- the same in a piece
abbrev pub written_in : PieceToken → ℕ → List ℕ → Division → Division
written_in p at bytes d = record d { buffers = set d.buffers p.buf (option_map (with_written (p.at + at) bytes) (buffer p.buf d)) }

-- a live piece stays so, with its bytes
pub record Stays (was now : Division) (p : PieceToken) : Type 0 where
  pub live : IsLive p now
  pub bytes : bytes_of p now ≡ bytes_of p was

-- the lengths of blocks, buffers and pieces stay, and how many buffers there are
pub record SameSizes (was now : Division) : Type 0 where
  pub block_len : now.block_len ≡ was.block_len
  pub page_blocks : now.page_blocks ≡ was.page_blocks
  pub classes : now.classes ≡ was.classes
  pub bufs : length now.buffers ≡ length was.buffers
