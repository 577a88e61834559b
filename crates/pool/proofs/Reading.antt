-- What a session's readers tell, by its seat and its ledger.
use Rattle.std.proofs.Common.{◌≡◌, ℕ, Bool, Option, Some, None, IsSome, is_some, option_map, unwrap_or, sym, ap, ◌∙◌, subst}
use Rattle.std.proofs.lemmas.Bool.{false≢true}
use Rattle.pool.specs.Unused.{unused_in}
use Rattle.pool_model.specs.State.{Opening}
use Rattle.pool_model.specs.LookingBack.{made_by}
use Rattle.store_api.specs.Holdings.{Account, Holdings, or_else, no_account, unused_of}
use Rattle.own_entries.proofs.Outsets.{outsets_stay}
use Rattle.session_calls.specs.Told.{held_in}
use Rattle.pool.specs.declared.ledger.Ledger.{Ledger}
use Rattle.pool.specs.Items.{history}
use Rattle.pool.specs.Ledgers.{TellsHeld}
use Rattle.pool.specs.Sitting.{Sitting, held_by, shared}
use Rattle.pool.proofs.Staying.{has_told}

-- a session holds blocks of the pool's length
pub len_held : (o : Opening) (told : Bool) (s : Sitting) → (held_by o told s).block_len ≡ o.block_len
unfolding held_in
len_held o told s = (outsets_stay o.block_len s.number (shared told) (made_by (history s.spot.knows.seen) s.number)).block

unused_found : (o : Option Account) (n : ℕ) → option_map (λ account. account.unused) o ≡ Some n → n ≡ (or_else no_account o).unused
unused_found None n is = absurd (false≢true (ap is_some is))
unused_found (Some a) n is = sym (ap (λ (o : Option ℕ). unwrap_or o 0) is)

module _ (ledger : Ledger) (h : Holdings) (tells : TellsHeld ledger h) (c t : ℕ) (same : t ≡ c) where
  -- there is an account of a client
  pub account_there : IsSome (h.clients c) → IsSome (unused_in ledger.accounts t)
  account_there some = subst (λ (k : ℕ). IsSome (unused_in ledger.accounts k)) (sym same) ((has_told ledger h tells).each c ∙ some)

  -- which tells what the client may charge
  pub account_tells : (n : ℕ) → unused_in ledger.accounts t ≡ Some n → n ≡ unused_of c h
  account_tells n is = unused_found (h.clients c) n (sym (tells.accounts c) ∙ ap (unused_in ledger.accounts) (sym same) ∙ is)
