-- What a store in memory holds, and what it shows: no device stands behind it, so no sign ever grows.
use Rattle.std.specs.Prelude.{◌≡◌, ℕ, ◌*◌, ◌-◌, ◌<◌, ◌^◌, true, false, Some, None, replicate}
use Rattle.block_arena.specs.Memory.{Buffer, IsBufferOf}
use Rattle.slab.specs.Slab.{get, slab_len}
use Rattle.store_api.specs.Holdings.{Nothing, Holdings, put}
use Rattle.store_api.specs.Signs.{Signs}
use Rattle.store_api.specs.MemAccounts.{clients_of, account_at}
use Rattle.store_api.specs.MemPieces.{page_in, loan_in, pages_of, loans_of}
use Rattle.store_api.specs.declared.mem_store.piece.Piece.{Piece}
use Rattle.store_api.specs.declared.mem_store.held.MemStore.{MemStore}

-- the query's tracker is 1; nothing is above it, there is no quota, and pages show what was left in them
abbrev pub held_in : MemStore → Holdings
held_in s = record {
  block_len = s.block_len;
  session = 0;
  query = 1;
  limit = s.accounts.limit;
  reservation = s.accounts.reservation;
  room = s.accounts.room;
  above = Nothing;
  live_clients = slab_len s.accounts.clients;
  clients = clients_of s.accounts.clients;
  pages = pages_of s.pieces;
  loans = loans_of s.pieces;
  free_slots = None;
  told = true;
}

abbrev pub no_signs : Signs
no_signs = record { failures = 0; failures_of = λ t. 0; refused_unpins = 0; stale = 0; spent = false; trail = None }

-- a piece came at this key, with a buffer of zeros, and its client is charged for it; nothing else changed
pub record AddsPiece (piece : Piece) (key : ℕ) (buf : Buffer) (old new : MemStore) : Type 0 where
  pub fresh : get old.pieces key ≡ None
  pub short : key < 2 ^ 32
  pub pages : pages_of new.pieces ≡ put key (page_in (Some piece)) (pages_of old.pieces)
  pub loans : loans_of new.pieces ≡ put key (loan_in (Some piece)) (loans_of old.pieces)
  pub no_page : page_in (Some piece) ≡ None → pages_of new.pieces ≡ pages_of old.pieces
  pub no_loan : loan_in (Some piece) ≡ None → loans_of new.pieces ≡ loans_of old.pieces
  pub fits : IsBufferOf piece.blocks old.block_len buf
  pub zeros : buf.bytes ≡ replicate (piece.blocks * old.block_len) 0
  pub clients : clients_of new.accounts.clients ≡ put piece.client (Some (record (account_at piece.client old.accounts.clients) { unused = (account_at piece.client old.accounts.clients).unused - piece.blocks * old.block_len })) (clients_of old.accounts.clients)
  pub live : slab_len new.accounts.clients ≡ slab_len old.accounts.clients
  pub limit : new.accounts.limit ≡ old.accounts.limit
  pub reservation : new.accounts.reservation ≡ old.accounts.reservation
  pub room : new.accounts.room ≡ old.accounts.room

-- a store as it is opened: nothing is live, and all of its reservation is room
pub record IsOpened (block most least : ℕ) (h : Holdings) : Type 0 where
  pub block_len : h.block_len ≡ block
  pub limit : h.limit ≡ most
  pub reservation : h.reservation ≡ least
  pub room : h.room ≡ least
  pub above : h.above ≡ Nothing
  pub live_clients : h.live_clients ≡ 0
  pub clients : (t : ℕ) → h.clients t ≡ None
  pub pages : (q : ℕ) → h.pages q ≡ None
  pub loans : (q : ℕ) → h.loans q ≡ None
  pub free_slots : h.free_slots ≡ None
  pub told : h.told ≡ true
