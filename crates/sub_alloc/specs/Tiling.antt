-- How the pieces lie in the buffers.
use Rattle.std.specs.Prelude.{◌≡◌, ◌≢◌, ℕ, suc, ◌+◌, ◌-◌, ◌*◌, ◌<◌, ◌≤◌, ◌^◌, length, Option, None, Some, replicate}
use Rattle.index_list.specs.Listing.{empty}
use Rattle.block_arena.specs.Memory.{IsBufferOf}
use Rattle.store_api.specs.Conditions.{IsBlockCount}
use Rattle.store_api.specs.Tokens.{LoanToken}
use Rattle.sub_alloc.specs.Pieces.{Division, buffer, buffer_len, free_at, IsOpen, live_at, places, size_at}

-- pieces, given by their classes at the places where they begin, cover the open buffers of so many places without overlap
pub record AreTiles (most buf : ℕ) (open_now : ℕ → Type 0) (size : ℕ → Option ℕ) : Type 0 where
  pub short : (c n : ℕ) → size n ≡ Some c → c < most
  pub aligned : (c n : ℕ) → size n ≡ Some c → (r : ℕ) × (n ≡ r * 2 ^ c)
  pub within : (c n : ℕ) → size n ≡ Some c → (u : ℕ) × open_now u × (u * buf ≤ n) × (n + 2 ^ c ≤ u * buf + buf)
  pub apart : (c e m n : ℕ) → size m ≡ Some c → size n ≡ Some e → m < n → m + 2 ^ c ≤ n
  pub cover : (u i : ℕ) → open_now u → i < buf → (c : ℕ) × (n : ℕ) × (size n ≡ Some c) × (n ≤ u * buf + i) × (u * buf + i < n + 2 ^ c)

-- no two free pieces are the two halves of one interval, and none is a whole buffer
pub record AreMerged (most : ℕ) (free : ℕ → Option ℕ) : Type 0 where
  pub halves : (c r : ℕ) → free (r * 2 ^ suc c) ≡ Some c → free (r * 2 ^ suc c + 2 ^ c) ≢ Some c
  pub whole : (n : ℕ) → free n ≢ Some (most - 1)

-- the tiling of a suballocator
pub record IsTiled (d : Division) : Type 0 where
  pub tiles : AreTiles d.classes (places d) (λ u. IsOpen u d) (size_at d)
  pub merged : AreMerged d.classes (free_at d)
  pub single : (n c : ℕ) → free_at d n ≡ Some c → live_at d n ≡ None

-- the numbers of a suballocator fit each other
pub record IsSized (d : Division) : Type 0 where
  pub some : 0 < d.classes
  pub few : d.classes ≤ 15
  pub blocks : IsBlockCount d.page_blocks
  pub len : d.page_blocks * d.block_len ≡ 64 * places d
  pub bufs : length d.buffers ≤ 64
  pub nodes : d.free.nodes ≡ length d.buffers * places d
  pub lists : length d.free.lists ≡ d.classes
  pub marks : length d.live ≡ length d.buffers * places d

-- all that is true of a suballocator
pub record IsWhole (d : Division) : Type 0 where
  pub sized : IsSized d
  pub tiled : IsTiled d
  pub loans : (u : ℕ) (loan : LoanToken) → buffer u d ≡ Some loan → IsBufferOf d.page_blocks d.block_len loan.buf

-- an allocator of which no buffer is open
pub record IsNew (b blocks many : ℕ) (d : Division) : Type 0 where
  pub block_len : d.block_len ≡ b
  pub page_blocks : d.page_blocks ≡ blocks
  pub len : buffer_len d ≡ blocks * b
  pub buffers : d.buffers ≡ replicate many None
  pub free : d.free ≡ empty (many * places d) d.classes
  pub live : d.live ≡ replicate (many * places d) 0
