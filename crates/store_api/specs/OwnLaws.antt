-- What a client that isn't touched keeps: its unused bytes, and that it has neither page nor loan. Laws of emitters cite
-- this.
use Rattle.std.specs.Prelude.{ℕ, ◌≤◌, Option, Some, refl}
use Rattle.std.proofs.Common.{subst, sym}
use Rattle.store_api.specs.Holdings.{Account, Holdings, or_else, no_account, unused_of}
use Rattle.store_api.specs.Conditions.{IsIdle}
use Rattle.store_api.specs.Emitters.{SameOwn}

module _ (t : ℕ) (old new : Holdings) (same : SameOwn (Some t) old new) where
  -- a block's length is unused still
  pub still_pays : old.block_len ≤ unused_of t old → new.block_len ≤ unused_of t new
  still_pays pays =
      subst (λ (n : ℕ). n ≤ unused_of t new) (sym same.block_len)
      (subst (λ (o : Option Account). old.block_len ≤ (or_else no_account o).unused) (sym (same.own t refl).account) pays)

  pub still_idle : IsIdle t old → IsIdle t new
  still_idle idle =
      record {
        pages = λ q page is own. idle.pages q page (((same.own t refl).pages q page own).0 is) own;
        loans = λ q loan is own. idle.loans q loan (((same.own t refl).loans q loan own).0 is) own;
      }
