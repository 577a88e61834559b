-- What the calls of a suballocator leave. The store comes as the ghost members of its trait, as one value.
use Rattle.std.specs.Prelude.{◌≡◌, ◌≢◌, ℕ, ◌*◌, ◌<◌, ◌≤◌, [], ◌∷◌}
use Rattle.reservation_tree.specs.declared.errors.PoolErr.{PoolErr}
use Rattle.pool_model.specs.declared.call.Call.TheVariants as call
use Rattle.pool_model.specs.declared.event.Event.TheVariants as event
use Rattle.store_api.specs.Conditions.{IsNewLoan}
use Rattle.store_api.specs.Entries.{IsTaken, Made}
use Rattle.store_api.specs.Refusals.{WasRefused}
use Rattle.store_api.specs.Tokens.{ClientToken, LoanToken}
use Rattle.store_api.specs.declared.store.Store.{Ghosts as StoreGhosts}
use Rattle.sub_alloc.specs.declared.sub_err.SubErr.{SubErr}
use Rattle.sub_alloc.specs.declared.sub_err.SubErr.TheVariants.{Pool}
use Rattle.sub_alloc.specs.Pieces.{Division, IsLive, PieceToken, SameSizes, Stays, piece_at, places}
use Rattle.sub_alloc.specs.Rules.{class_for, first_closed, first_from, newest, taken_free, taken_new}

-- the least length of a piece that has so many bytes
pub record IsLeastFor (bytes len : ℕ) : Type 0 where
  pub fits : bytes ≤ len
  pub least : 64 < len → len < 2 * bytes

-- the piece is live now, and was none of the live ones
pub record IsFresh (was now : Division) (p : PieceToken) : Type 0 where
  pub live : IsLive p now
  pub other : (q : PieceToken) → IsLive q was → q ≢ p

-- each live piece stays so, with its bytes
pub record KeepsPieces (was now : Division) : Type 0 where
  pub sizes : SameSizes was now
  pub pieces : (q : PieceToken) → IsLive q was → Stays was now q

-- each live piece but this one stays so, with its bytes
pub record KeepsOthers (p : PieceToken) (was now : Division) : Type 0 where
  pub sizes : SameSizes was now
  pub pieces : (q : PieceToken) → IsLive q was → q ≢ p → Stays was now q

module _ {St : Type 0} (store : StoreGhosts St) where
  -- the shortest free piece that is long enough was taken, as one of class c, and the store wasn't asked
  pub record TakesFree (c : ℕ) (was now : Division) (s s_new : St) (p : PieceToken) : Type 0 where
    pub division : now ≡ taken_free c (first_from c was.free) was
    pub piece : p ≡ piece_at was c (newest (first_from c was.free) was.free)
    pub untouched : s_new ≡ s

  -- a buffer was opened, and its first piece taken, as one of class c
  pub record TakesNew (client : ClientToken) (c : ℕ) (was now : Division) (s s_new : St) (p : PieceToken) : Type 0 where
    pub loan : LoanToken
    pub division : now ≡ taken_new c (first_closed was) loan was
    pub piece : p ≡ piece_at was c (first_closed was * places was)
    pub lent : IsNewLoan client was.page_blocks loan (store.holds s) (store.holds s_new)
    pub entries :
        Made (store.holds s).session (IsTaken client.tracker (store.holds s) (event.Alloc loan.number client.tracker was.page_blocks ∷ []))
        (store.signs s) (store.signs s_new)

  -- a piece was taken for so many bytes: a free one where one is long enough
  pub record Takes (client : ClientToken) (bytes : ℕ) (was now : Division) (s s_new : St) (p : PieceToken) : Type 0 where
    pub free : first_from (class_for was bytes) was.free < was.classes → TakesFree (class_for was bytes) was now s s_new p
    pub new : first_from (class_for was bytes) was.free ≡ was.classes → TakesNew client (class_for was bytes) was now s s_new p
    pub fresh : IsFresh was now p
    pub len : IsLeastFor bytes p.len

  -- the store was asked for a buffer of so many blocks, and refused it
  pub record IsOfStore (t blocks : ℕ) (s s_new : St) (e : SubErr) : Type 0 where
    pub error : PoolErr
    pub is : e ≡ Pool error
    pub was : WasRefused t (call.Alloc t blocks) (store.holds s) (store.holds s_new) (store.signs s) (store.signs s_new) error
