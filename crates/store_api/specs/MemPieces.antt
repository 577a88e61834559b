-- How a store in memory keeps its pages and loans. About private fields; no public clause cites it.
use Rattle.std.specs.Prelude.{◌≡◌, ℕ, ◌+◌, ◌*◌, ◌^◌, ◌<◌, ◌≤◌, ◌==◌, if◌then◌else◌, [], false, Option, Some, None, IsSome}
use Rattle.slab.specs.Slab.{Slab, get, Updates}
use Rattle.block_arena.specs.Memory.{Buffer, IsBufferOf}
use Rattle.store_api.specs.Holdings.{Account, LivePage, LiveLoan, put, or_else, no_account, no_page, no_loan}
use Rattle.store_api.specs.MemAccounts.{slot_sum, weight_of}
use Rattle.store_api.specs.declared.mem_store.piece.Piece.{Piece}
use Rattle.store_api.specs.declared.mem_store.piece.Stand.{Stand}
use Rattle.store_api.specs.declared.mem_store.piece.Stand.TheVariants.{Resting, Pinned, Lent}

-- the page that stands so
abbrev pub page_standing : ℕ → ℕ → Stand → Option LivePage
page_standing client blocks (Resting buf) = Some (record { key = 0; client = client; blocks = blocks; pins = 0; left = buf.bytes; has_slots = false })
page_standing client blocks (Pinned count) = Some (record { key = 0; client = client; blocks = blocks; pins = count; left = []; has_slots = false })
page_standing client blocks Lent = None

abbrev pub loan_standing : ℕ → ℕ → Stand → Option LiveLoan
loan_standing client blocks Lent = Some (record { client = client; blocks = blocks })
loan_standing client blocks _ = None

-- the page in a slot, and the loan in a slot
abbrev pub page_in : Option Piece → Option LivePage
page_in None = None
page_in (Some piece) = page_standing piece.client piece.blocks piece.stand

abbrev pub loan_in : Option Piece → Option LiveLoan
loan_in None = None
loan_in (Some piece) = loan_standing piece.client piece.blocks piece.stand

abbrev pub pages_of : Slab Piece → ℕ → Option LivePage
pages_of pieces p = page_in (get pieces p)

abbrev pub loans_of : Slab Piece → ℕ → Option LiveLoan
loans_of pieces f = loan_in (get pieces f)

-- the bytes that a piece is charged: its length for each of its pins, or once for a loan
abbrev pub charge_standing : ℕ → Stand → ℕ
charge_standing len (Resting buf) = 0
charge_standing len (Pinned count) = count * len
charge_standing len Lent = len

-- what a client is charged for a piece
abbrev pub charge_for : ℕ → ℕ → Piece → ℕ
charge_for block t piece = if piece.client == t then charge_standing (piece.blocks * block) piece.stand else 0

-- what a client is charged for all
abbrev pub charge_in : ℕ → ℕ → Slab Piece → ℕ
charge_in block t pieces = slot_sum (charge_for block t) pieces.slots

-- one slot changed, and with it a page, a loan and a charge
pub record Changed (old new : Slab Piece) (key : ℕ) (slot : Option Piece) : Type 0 where
  pub slots : Updates old new key slot
  pub pages : pages_of new ≡ put key (page_in slot) (pages_of old)
  pub loans : loans_of new ≡ put key (loan_in slot) (loans_of old)
  pub charges : (block t : ℕ) → charge_in block t new + weight_of (charge_for block t) (get old key) ≡ charge_in block t old + weight_of (charge_for block t) slot

-- what holds of every piece: its number fits a loan's, its client is live, it has a block, it has a pin where it is
-- pinned, and it rests in a buffer of its length
pub record IsSound (block : ℕ) (clients : ℕ → Option Account) (key : ℕ) (piece : Piece) : Type 0 where
  pub short : key < 2 ^ 32
  pub owned : IsSome (clients piece.client)
  pub blocks : 1 ≤ piece.blocks
  pub counted : (count : ℕ) → piece.stand ≡ Pinned count → 1 ≤ count
  pub whole : (buf : Buffer) → piece.stand ≡ Resting buf → IsBufferOf piece.blocks block buf

-- of a piece that isn't there, for readers that want one
abbrev pub no_piece : Piece
no_piece = record { client = 0; blocks = 0; stand = Lent }

abbrev pub piece_at : ℕ → Slab Piece → Piece
piece_at key pieces = or_else no_piece (get pieces key)

-- what a store in memory keeps: every piece is sound, and each client's unused bytes and charges are its reservation
pub record IsKept (block : ℕ) (clients : ℕ → Option Account) (pieces : Slab Piece) : Type 0 where
  pub sound : (k : ℕ) (piece : Piece) → get pieces k ≡ Some piece → IsSound block clients k piece
  pub balanced : (t : ℕ) → (or_else no_account (clients t)).unused + charge_in block t pieces ≡ (or_else no_account (clients t)).reservation

-- of a page that isn't there, and of a loan
abbrev pub page_at : ℕ → Slab Piece → LivePage
page_at key pieces = or_else no_page (pages_of pieces key)

abbrev pub loan_at : ℕ → Slab Piece → LiveLoan
loan_at key pieces = or_else no_loan (loans_of pieces key)
