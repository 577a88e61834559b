-- Growths, falls and moves of reservation leave all but clients and the query's own numbers.
use Rattle.std.proofs.Common.{◌≡◌, ◌≢◌, ℕ, Option, Some, None, Result, Ok, Err, OnOk, OnErr, IfSome, IfNone, refl, sym, ◌∙◌, subst, ne_eqb}
use Rattle.reservation_tree.specs.declared.errors.PoolErr.{PoolErr}
use Rattle.pool_model.specs.declared.call.Call.{Call}
use Rattle.store_api.specs.Holdings.{Holdings, account_of}
use Rattle.store_api.specs.Changes.{with_account, raised, lowered, after_reserve, after_give_back, after_move_reservation}
use Rattle.store_api.specs.Signs.{Signs}
use Rattle.store_api.specs.Refusals.{IsUntouched, WasRefused}
use Rattle.store_api.specs.Alike.{AlikeButClients}

-- where nothing was called
pub alike : (h : Holdings) → AlikeButClients h h
alike h = record { block_len = refl; session = refl; query = refl; limit = refl; live_clients = refl; free_slots = refl; told = refl; pages = λ q. refl; loans = λ q. refl }

-- one change after another
pub alike_on : (a b c : Holdings) → AlikeButClients a b → AlikeButClients b c → AlikeButClients a c
alike_on a b c first second =
    record {
      block_len = second.block_len ∙ first.block_len;
      session = second.session ∙ first.session;
      query = second.query ∙ first.query;
      limit = second.limit ∙ first.limit;
      live_clients = second.live_clients ∙ first.live_clients;
      free_slots = second.free_slots ∙ first.free_slots;
      told = second.told ∙ first.told;
      pages = λ q. second.pages q ∙ first.pages q;
      loans = λ q. second.loans q ∙ first.loans q;
    }

module _ (a b : Holdings) where
  grown_alike : (t bytes : ℕ) → b ≡ after_reserve t bytes a → AlikeButClients a b
  grown_alike t bytes is =
      subst (λ (h : Holdings). AlikeButClients a h) (sym is)
      (record { block_len = refl; session = refl; query = refl; limit = refl; live_clients = refl; free_slots = refl; told = refl; pages = λ q. refl; loans = λ q. refl })

  pub fallen_alike : (t bytes : ℕ) → b ≡ after_give_back t bytes a → AlikeButClients a b
  fallen_alike t bytes is =
      subst (λ (h : Holdings). AlikeButClients a h) (sym is)
      (record { block_len = refl; session = refl; query = refl; limit = refl; live_clients = refl; free_slots = refl; told = refl; pages = λ q. refl; loans = λ q. refl })

  pub moved_alike : (from to bytes : ℕ) → from ≢ to → b ≡ after_move_reservation from to bytes a → AlikeButClients a b
  moved_alike from to bytes apart is =
      let moved : Holdings = with_account to (raised bytes (account_of to a)) (with_account from (lowered bytes (account_of from a)) a) in
      let now : b ≡ moved = is ∙ rw (ne_eqb from to apart) refl in
      subst (λ (h : Holdings). AlikeButClients a h) (sym now)
      (record { block_len = refl; session = refl; query = refl; limit = refl; live_clients = refl; free_slots = refl; told = refl; pages = λ q. refl; loans = λ q. refl })

  -- whether it was refused or not
  pub reserved_alike : (result : Result Unit PoolErr) (t bytes : ℕ) (before after : Signs) → OnOk result (b ≡ after_reserve t bytes a) → OnErr result (IsUntouched a b before after) → AlikeButClients a b
  reserved_alike (Ok done) t bytes before after ok err = grown_alike t bytes ok
  reserved_alike (Err e) t bytes before after ok err = subst (λ (h : Holdings). AlikeButClients a h) (sym err.held) (alike a)

  -- what changed nothing
  pub kept_alike : b ≡ a → AlikeButClients a b
  kept_alike is = subst (λ (h : Holdings). AlikeButClients a h) (sym is) (alike a)

  -- a move that was refused, beforehand or later
  pub unmoved_alike : (refusal : Option PoolErr) (result : Result Unit PoolErr) (e : PoolErr) (t : ℕ) (what : Call) (before after : Signs) → IfSome refusal (λ x. (result ≡ Err x) × IsUntouched a b before after) → IfNone refusal (WasRefused t what a b before after e) → AlikeButClients a b
  unmoved_alike None result e t what before after refused was = kept_alike was.held
  unmoved_alike (Some x) result e t what before after refused was = kept_alike refused.1.held
