-- What a call leaves that ends a loan, or gives it to another client.
use Rattle.std.proofs.Common.{◌≡◌, ◌≢◌, ℕ, [], ◌∷◌, sym, subst}
use Rattle.outside.specs.declared.slot.Slot.{Ghosts}
use Rattle.pool_model.specs.Owning.{IsClientOf}
use Rattle.store_api.specs.Tokens.{ClientToken, LoanToken}
use Rattle.pin_core.specs.declared.parts.Parts.{Parts}
use Rattle.pin_core.specs.StateOf.{state_of}
use Rattle.pin_core.specs.Invariant.{IsKept}
use Rattle.pin_core.specs.Standing.{Enters}
use Rattle.pin_core.specs.calls.Lending.{IsLoan, CanMoveTo, ReadyFree, ReadyMove, freed, lent_to, free_entry, move_entry}
use Rattle.pin_core.proofs.Relending.{free_ready, free_kept, free_enters, move_ready, move_kept, move_enters}

module _ {D : Type 0} where
  -- a loan has ended
  pub record Frees (v old : Parts D) (loan : LoanToken) : Type 1 where
    pub ready : ReadyFree v loan
    pub kept : (new : Parts D) → new ≡ freed loan v → IsKept new
    pub enters : (slot : Ghosts D) (new : Parts D) → new ≡ freed loan v → (maker : ℕ) → IsClientOf (state_of old) maker loan.client → Enters slot (free_entry maker loan.number ∷ []) [] [] old new

  frees : (v : Parts D) → IsKept v → (loan : LoanToken) → IsLoan (state_of v) loan → Frees v v loan
  frees v is_kept loan l = record {
    ready = free_ready v is_kept loan l;
    kept = λ new is. subst IsKept (sym is) (free_kept v is_kept loan l);
    enters = λ slot new is maker own. subst (Enters slot (free_entry maker loan.number ∷ []) [] [] v) (sym is) (free_enters v is_kept loan l maker own slot);
  }

  pub free_is : (v old : Parts D) (loan : LoanToken) → v ≡ old → IsKept v → IsLoan (state_of old) loan → Frees v old loan
  free_is v old loan same kept l = subst (λ (z : Parts D). Frees v z loan) same (frees v kept loan (subst (λ (z : Parts D). IsLoan (state_of z) loan) (sym same) l))

  -- a loan is another client's
  pub record Moves (v old : Parts D) (loan : LoanToken) (to : ClientToken) (t : ℕ) : Type 1 where
    pub ready : ReadyMove v loan t
    pub kept : (new : Parts D) → new ≡ lent_to loan t v → IsKept new
    pub enters : (slot : Ghosts D) (new : Parts D) → new ≡ lent_to loan t v → Enters slot (move_entry to loan.number ∷ []) [] [] old new

  moves : (v : Parts D) → IsKept v → (loan : LoanToken) → IsLoan (state_of v) loan → (to : ClientToken) → CanMoveTo (state_of v) loan to → loan.client ≢ to.tracker → Moves v v loan to to.tracker
  moves v is_kept loan l to can apart = record {
    ready = move_ready v is_kept loan l to can apart;
    kept = λ new is. subst IsKept (sym is) (move_kept v is_kept loan l to can apart);
    enters = λ slot new is. subst (Enters slot (move_entry to loan.number ∷ []) [] [] v) (sym is) (move_enters v is_kept loan l to can apart slot);
  }

  pub move_is : (v old : Parts D) (loan : LoanToken) (to : ClientToken) (t : ℕ) → v ≡ old → t ≡ to.tracker → IsKept v → IsLoan (state_of old) loan → CanMoveTo (state_of old) loan to
      → loan.client ≢ to.tracker → Moves v old loan to t
  move_is v old loan to t same named kept l can apart =
      subst (λ (z : Parts D). Moves v z loan to t) same (subst (λ (n : ℕ). Moves v v loan to n) (sym named)
      (moves v kept loan (subst (λ (z : Parts D). IsLoan (state_of z) loan) (sym same) l) to (subst (λ (z : Parts D). CanMoveTo (state_of z) loan to) (sym same) can) apart))
