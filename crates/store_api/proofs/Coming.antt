-- A store in memory is kept where a piece comes, once room for it was made.
use Rattle.std.proofs.Common.{◌≡◌, ℕ, ◌+◌, List, get_or, Option, None, ap, sym, ◌∙◌, arith}
use Rattle.slab.specs.Slab.{Slab, get}
use Rattle.store_api.specs.Holdings.{Account}
use Rattle.store_api.specs.declared.mem_store.piece.Piece.{Piece}
use Rattle.store_api.specs.MemAccounts.{slot_sum}
use Rattle.store_api.specs.MemPieces.{pages_of, page_in, loans_of, loan_in, charge_for, charge_in, Changed, IsKept}
use Rattle.store_api.proofs.Pieces.{changed}
use Rattle.store_api.proofs.Keeping.{at}
use Rattle.store_api.proofs.Standing.{pages_same, loans_same}

-- slots are the same where only room was made
module _ (s r : Slab Piece) (e : r.slots ≡ s.slots) where
  pub regrown : (new : Slab Piece) (key : ℕ) (slot : Option Piece) → Changed r new key slot → Changed s new key slot
  regrown new key slot ch =
      changed s new key slot (record {
        changed = ch.slots.changed;
        others = λ q apart. ch.slots.others q apart ∙ ap (λ (xs : List (Option Piece)). get_or xs q None) e;
      })

  pub kept_regrown : (block : ℕ) (clients : ℕ → Option Account) → IsKept block clients s → IsKept block clients r
  kept_regrown block clients kept =
      record {
        sound = λ k piece is. kept.sound k piece (ap (λ (xs : List (Option Piece)). get_or xs k None) (sym e) ∙ is);
        balanced = λ t.
            let same : charge_in block t r ≡ charge_in block t s = ap (slot_sum (charge_for block t)) e in
            let was : (at t clients).unused + charge_in block t s ≡ (at t clients).reservation = kept.balanced t in
            omega (arith, same, was);
      }

  fresh_so : (key : ℕ) → get r key ≡ None → get s key ≡ None
  fresh_so key none = ap (λ (xs : List (Option Piece)). get_or xs key None) (sym e) ∙ none

  pub come_no_page : (new : Slab Piece) (key : ℕ) (slot : Option Piece) → Changed r new key slot → get r key ≡ None → page_in slot ≡ None → pages_of new ≡ pages_of s
  come_no_page new key slot ch fresh none =
      pages_same s new key slot (regrown new key slot ch) (ap page_in (fresh_so key fresh) ∙ sym none)

  pub come_no_loan : (new : Slab Piece) (key : ℕ) (slot : Option Piece) → Changed r new key slot → get r key ≡ None → loan_in slot ≡ None → loans_of new ≡ loans_of s
  come_no_loan new key slot ch fresh none =
      loans_same s new key slot (regrown new key slot ch) (ap loan_in (fresh_so key fresh) ∙ sym none)
