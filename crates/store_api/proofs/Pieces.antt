-- What a change of one slot of pieces says of pages, loans and charges.
use Rattle.std.proofs.Common.{◌≡◌, ℕ, Option, Some, ap, sym, subst}
use Rattle.slab.specs.Slab.{Slab, get, Updates, with_value, ContainsKey}
use Rattle.slab.proofs.SlabLemmas.{Updates-with_value}
use Rattle.store_api.specs.declared.mem_store.piece.Piece.{Piece}
use Rattle.store_api.specs.Holdings.{or_else}
use Rattle.store_api.specs.MemPieces.{no_piece, piece_at, page_in, loan_in, pages_of, loans_of, charge_for, Changed}
use Rattle.store_api.proofs.Puts.{puts}
use Rattle.store_api.proofs.Totals.{slot_sum-updates}

pub changed : (old new : Slab Piece) (key : ℕ) (slot : Option Piece) → Updates old new key slot → Changed old new key slot
changed old new key slot u =
    record {
      slots = u;
      pages = puts (pages_of old) (pages_of new) key (page_in slot) (ap page_in u.changed) (λ q apart. ap page_in (u.others q apart));
      loans = puts (loans_of old) (loans_of new) key (loan_in slot) (ap loan_in u.changed) (λ q apart. ap loan_in (u.others q apart));
      charges = λ block t. slot_sum-updates (charge_for block t) old new key slot u;
    }

pub changed_by_write : (s : Slab Piece) (key : ℕ) (piece : Piece) → ContainsKey s key → Changed s (with_value s key piece) key (Some piece)
changed_by_write s key piece there = changed s (with_value s key piece) key (Some piece) (Updates-with_value s key piece there)

-- the piece that a write found is the one at its key
pub changed_from : (s : Slab Piece) (key : ℕ) (found : Piece) (f : Piece → Piece) → ContainsKey s key → get s key ≡ Some found → Changed s (with_value s key (f found)) key (Some (f (piece_at key s)))
changed_from s key found f there is =
    let e : found ≡ piece_at key s = sym (ap (or_else no_piece) is) in
    subst (λ (q : Piece). Changed s (with_value s key (f found)) key (Some (f q))) e (changed_by_write s key (f found) there)
