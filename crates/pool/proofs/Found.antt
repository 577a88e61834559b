-- What the account tells that was read at a place, or was found by its tracker.
use Rattle.std.proofs.Common.{◌≡◌, ℕ, ◌<◌, eqb, List, length, get_or, find, Option, None, Some, IsSome, is_some, option_map, refl, ap, sym, ◌∙◌, subst}
use Rattle.std.proofs.lemmas.Bool.{false≢true}
use Rattle.std.proofs.lemmas.List.{get_or-map}
use Rattle.pool.specs.declared.account.ClientAccount.{ClientAccount}
use Rattle.pool.specs.Unused.{tracker_at, unused_in}
use Rattle.pool.proofs.Places.{place_has_account}

module _ (accounts : List ClientAccount) (place : ℕ) (a : ClientAccount) (within : place < length accounts) (read : a ≡ get_or accounts place a) where
  pub tracker_read : a.tracker ≡ tracker_at accounts place
  tracker_read = ap (λ (b : ClientAccount). b.tracker) read ∙ sym (get_or-map (λ (b : ClientAccount). b.tracker) accounts place a 0 within)

  pub there_read : IsSome (unused_in accounts a.tracker)
  there_read = subst (λ (t : ℕ). IsSome (unused_in accounts t)) (sym tracker_read) (place_has_account accounts place within)

module _ {X : Type 0} (account : X → ClientAccount) (accounts : List ClientAccount) (t : ℕ) where
  pub some_found : (r : Option X) → option_map account r ≡ find (λ a. eqb a.tracker t) accounts → IsSome (unused_in accounts t) → IsSome r
  some_found (Some x) found there = refl
  some_found None found there = absurd (false≢true (ap (λ (o : Option ClientAccount). is_some (option_map (λ a. a.unused) o)) found ∙ there))

  pub unused_found : (r : Option X) (x : X) → option_map account r ≡ find (λ a. eqb a.tracker t) accounts → r ≡ Some x → unused_in accounts t ≡ Some (account x).unused
  unused_found r x found is = ap (option_map (λ (a : ClientAccount). a.unused)) (sym found ∙ ap (option_map account) is)
