-- In a store in memory a client without pages and loans has its whole reservation unused, and a query without clients
-- has its whole reservation as room. The store's laws of the trait cite this.
use Rattle.std.specs.Prelude.{◌≡◌, ◌≢◌, ℕ, suc, ◌+◌, List, [], ◌∷◌, false, Option, Some, None, refl}
use Rattle.std.proofs.Common.{ap, ◌∙◌, get_or, arith, ne_eqb, is_some, cond, count_by}
use Rattle.std.proofs.lemmas.List.Sums.{sum_by-cons}
use Rattle.slab.specs.Slab.{Slab, get, slab_len}
use Rattle.store_api.specs.Holdings.{Account, LivePage, LiveLoan, or_else, no_account}
use Rattle.store_api.specs.MemAccounts.{slot_sum, reserved}
use Rattle.store_api.specs.declared.mem_store.account.MemAccount.{MemAccount}
use Rattle.store_api.specs.declared.mem_store.accounts.Accounts.{Accounts}
use Rattle.store_api.specs.MemPieces.{page_standing, loan_standing, page_in, loan_in, pages_of, loans_of, charge_for, charge_in, IsKept}
use Rattle.store_api.specs.declared.mem_store.piece.Piece.{Piece}
use Rattle.store_api.specs.declared.mem_store.piece.Stand.{Stand}
use Rattle.store_api.specs.declared.mem_store.piece.Stand.TheVariants.{Resting, Pinned, Lent}

-- a client without pieces is charged nothing
weightless : (block t : ℕ) (piece : Piece) → piece.client ≢ t → charge_for block t piece ≡ 0
weightless block t piece apart = rw (ne_eqb piece.client t apart) refl

pub no_charge : (block t : ℕ) (slots : List (Option Piece)) → ((k : ℕ) (piece : Piece) → get_or slots k None ≡ Some piece → piece.client ≢ t) → slot_sum (charge_for block t) slots ≡ 0
no_charge block t [] idle = refl
no_charge block t (None ∷ rest) idle = no_charge block t rest (λ k piece is. idle (suc k) piece is)
no_charge block t (Some piece ∷ rest) idle =
    let one = weightless block t piece (idle 0 piece refl) in
    let others = no_charge block t rest (λ k other is. idle (suc k) other is) in
    omega (arith, one, others)

-- a store without a page and a loan of a client has no piece of it
pub idle_pieces : (pieces : Slab Piece) (t : ℕ) → ((q : ℕ) (page : LivePage) → pages_of pieces q ≡ Some page → page.client ≢ t) → ((q : ℕ) (loan : LiveLoan) → loans_of pieces q ≡ Some loan → loan.client ≢ t) → (k : ℕ) (piece : Piece) → get pieces k ≡ Some piece → piece.client ≢ t
idle_pieces pieces t pages loans k piece is wrong = by_stand piece.stand refl
  where
    by_stand : (stand : Stand) → piece.stand ≡ stand → ⊥
    by_stand (Resting buf) e = pages k (record { key = 0; client = piece.client; blocks = piece.blocks; pins = 0; left = buf.bytes; has_slots = false }) (ap page_in is ∙ ap (page_standing piece.client piece.blocks) e) wrong
    by_stand (Pinned count) e = pages k (record { key = 0; client = piece.client; blocks = piece.blocks; pins = count; left = []; has_slots = false }) (ap page_in is ∙ ap (page_standing piece.client piece.blocks) e) wrong
    by_stand Lent e = loans k (record { client = piece.client; blocks = piece.blocks }) (ap loan_in is ∙ ap (loan_standing piece.client piece.blocks) e) wrong

-- what isn't charged is unused
pub all_unused : (block : ℕ) (clients : ℕ → Option Account) (pieces : Slab Piece) → IsKept block clients pieces → (t : ℕ)
    → ((q : ℕ) (page : LivePage) → pages_of pieces q ≡ Some page → page.client ≢ t) → ((q : ℕ) (loan : LiveLoan) → loans_of pieces q ≡ Some loan → loan.client ≢ t)
    → (or_else no_account (clients t)).unused ≡ (or_else no_account (clients t)).reservation
all_unused block clients pieces kept t pages loans =
    let none : charge_in block t pieces ≡ 0 = no_charge block t pieces.slots (idle_pieces pieces t pages loans) in
    let was : (or_else no_account (clients t)).unused + charge_in block t pieces ≡ (or_else no_account (clients t)).reservation = kept.balanced t in
    omega (arith, none, was)

-- no clients have nothing reserved
none_reserved : (slots : List (Option MemAccount)) → count_by is_some slots ≡ 0 → slot_sum (λ a. a.reservation) slots ≡ 0
none_reserved [] none = refl
none_reserved (None ∷ rest) none = none_reserved rest (omega (arith, none, sum_by-cons (λ (o : Option MemAccount). cond (is_some o) 1 0) None rest))
none_reserved (Some a ∷ rest) none = absurd (omega (arith, none, sum_by-cons (λ (o : Option MemAccount). cond (is_some o) 1 0) (Some a) rest))

pub all_room : (a : Accounts) → slab_len a.clients ≡ 0 → a.room ≡ a.reservation
all_room a none =
    let nothing : reserved a.clients ≡ 0 = none_reserved a.clients.slots none in
    let whole : reserved a.clients + a.room ≡ a.reservation = a.whole in
    omega (arith, nothing, whole)
