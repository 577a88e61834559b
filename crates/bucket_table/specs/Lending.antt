-- What a table has of a store, and what its calls change of the store. Lengths are in bytes.
use Rattle.std.specs.Prelude.{◌≡◌, ◌≢◌, ℕ, ◌+◌, ◌*◌, ◌/◌, List, [], ◌∷◌, ◌++◌, All, IsSome, None, ⊤}
use Rattle.reservation_tree.specs.declared.errors.PoolErr.{PoolErr}
use Rattle.pool_model.specs.declared.call.Call.TheVariants as call
use Rattle.store_api.specs.Conditions.{IsBlockCount}
use Rattle.store_api.specs.Holdings.{Holdings, account_of, length_of, loan_of, unused_of}
use Rattle.store_api.specs.Signs.{Signs, WasAnswered}
use Rattle.store_api.specs.Refusals.{MayRefuse}
use Rattle.bucket_table.specs.Tables.{Lent, Table}

-- none of these loans has this number
abbrev pub IsApart : ℕ → List Lent → Type 0
IsApart number loans = All (λ l. l.number ≢ number) loans

-- no two of these have one number
abbrev pub AreApart : List Lent → Type 0
AreApart [] = ⊤
AreApart (l ∷ loans) = IsApart l.number loans × AreApart loans

-- a loan of this client is the store's, and live
pub record IsOwn (t : ℕ) (h : Holdings) (l : Lent) : Type 0 where
  pub lives : IsSome (h.loans l.number)
  pub held : (loan_of l.number h).client ≡ t
  pub client : l.client ≡ t
  pub blocks : (loan_of l.number h).blocks ≡ l.blocks
  pub block_len : h.block_len ≡ l.block_len

-- the bytes of all these loans
abbrev pub bytes_of : List Lent → ℕ
bytes_of [] = 0
bytes_of (l ∷ loans) = l.blocks * l.block_len + bytes_of loans

-- these loans of the client are lent in `more`, and not in `less`; the client is charged for them there; and all else
-- that the store holds is the same in both
pub record Lends (t : ℕ) (loans : List Lent) (less more : Holdings) : Type 0 where
  pub rest : more ≡ record less { clients = more.clients; loans = more.loans }
  pub was : IsSome (less.clients t)
  pub is : IsSome (more.clients t)
  pub charged : account_of t less ≡ record (account_of t more) { unused = unused_of t more + bytes_of loans }
  pub clients : (q : ℕ) → q ≢ t → more.clients q ≡ less.clients q
  pub others : (q : ℕ) → IsApart q loans → more.loans q ≡ less.loans q
  pub fresh : All (λ l. less.loans l.number ≡ None) loans
  pub own : All (IsOwn t more) loans
  pub apart : AreApart loans

-- these loans are the store's, and this client's
pub record AreHeld (t : ℕ) (h : Holdings) (loans : List Lent) : Type 0 where
  pub lives : IsSome (h.clients t)
  pub own : All (IsOwn t h) loans
  pub apart : AreApart loans

-- all loans of a table
abbrev pub loans_of : Table → List Lent
loans_of table = table.head_loans ++ table.node_loans

-- the table's loans are the store's, and its client's
pub record IsTableOf (table : Table) (h : Holdings) : Type 0 where
  pub held : AreHeld table.client h (loans_of table)
  pub sized : IsBlockCount table.page_blocks
  pub block_len : table.block_len ≡ h.block_len

-- the bytes of one of a table's buffers
abbrev pub buffer_len : Table → ℕ
buffer_len table = table.page_blocks * table.block_len

-- a table without rows, of this client, with so many buffers of heads and of nodes of this many blocks each, which were
-- lent to it
pub record IsOpened (t blocks head_bufs node_bufs : ℕ) (old new : Holdings) (table : Table) : Type 0 where
  pub client : table.client ≡ t
  pub page_blocks : table.page_blocks ≡ blocks
  pub block_len : table.block_len ≡ old.block_len
  pub heads : table.heads ≡ head_bufs * length_of blocks old / 4
  pub room : table.room ≡ node_bufs * length_of blocks old
  pub nodes : table.nodes ≡ []
  pub bytes : bytes_of (loans_of table) ≡ (head_bufs + node_bufs) * length_of blocks old
  pub head_bytes : bytes_of table.head_loans ≡ head_bufs * length_of blocks old
  pub lends : Lends t (loans_of table) old new

-- the store lent no buffer to this client, and this shows it: there was no memory, or a write of one of the client's
-- pages failed
pub record WasShort (t blocks : ℕ) (before after : Signs) (e : PoolErr) : Type 0 where
  pub cause : MayRefuse t (call.Alloc t blocks) before after e
  pub answered : WasAnswered e before after

-- a table got one buffer of nodes more, which its client is charged for
pub record Grew (was now : Table) (old new : Holdings) : Type 0 where
  pub loan : Lent
  pub table : now ≡ record was { room = was.room + buffer_len was; node_loans = was.node_loans ++ loan ∷ [] }
  pub bytes : loan.blocks * loan.block_len ≡ buffer_len was
  pub lends : Lends was.client (loan ∷ []) old new
