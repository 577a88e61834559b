-- The ledger sees each client.
use Rattle.std.proofs.Common.{◌≡◌, ℕ, ◌+◌, ◌==◌, ◌≢◌, ◌<◌, ◌≤◌, List, length, slice_index, if◌then◌else◌, Bool, true, false, Option, Some, None, IsSome, is_some, option_map, refl, sym, ap, ◌∙◌, subst, arith, inl, inr, eq-eqb, ne_eqb}
use Rattle.std.proofs.lemmas.Bool.{cases_Bool, cases_eq, cases_lt, false≢true}
use Rattle.std.proofs.lemmas.List.{length-map}
use Rattle.pool.specs.declared.account.ClientAccount.{ClientAccount}
use Rattle.pool.specs.Unused.{tracker_at, trackers_of, unused_in}
use Rattle.pool.proofs.Places.{tracker_has_place}
use Rattle.store_api.specs.Holdings.{Account, Holdings, or_else, no_account, unused_of}
use Rattle.pool.specs.Ledgers.{HasClients}

-- the accounts at the places before this one tell what their clients may charge
pub record SeesSome (start accounts : List ClientAccount) (h : Holdings) (place : ℕ) : Type 0 where
  pub trackers : trackers_of accounts ≡ trackers_of start
  pub clients : HasClients accounts h
  pub written : (p : ℕ) → p < place → unused_in accounts (tracker_at start p) ≡ Some (unused_of (tracker_at start p) h)

pub sees_none : (start : List ClientAccount) (h : Holdings) → HasClients start h → SeesSome start start h 0
sees_none start h has = record { trackers = refl; clients = has; written = λ p within. absurd (omega (arith, within)) }

module _ (start accounts : List ClientAccount) (h : Holdings) (place : ℕ) (sees : SeesSome start accounts h place) where
  same_count : length start ≡ length accounts
  same_count = sym (length-map start (λ (a : ClientAccount). a.tracker)) ∙ ap length (sym sees.trackers) ∙ length-map accounts (λ (a : ClientAccount). a.tracker)

  -- the one at this place was written
  pub sees_more : (new : List ClientAccount) (t bytes : ℕ) → t ≡ tracker_at accounts place → IsSome (unused_in accounts t) → bytes ≡ unused_of t h
      → ((q : ℕ) → unused_in new q ≡ (if q == tracker_at accounts place then Some bytes else unused_in accounts q)) → trackers_of new ≡ trackers_of accounts → length new ≡ length accounts
      → SeesSome start new h (place + 1)
  sees_more new t bytes read there tells wrote trackers count =
      let k : ℕ = tracker_at accounts place in
      let here : k ≡ tracker_at start place = ap (λ (ts : List ℕ). slice_index ts place) sees.trackers in
      let at : (q : ℕ) → q ≡ k → unused_in new q ≡ Some (unused_of q h) = λ q same.
      wrote q ∙ ap (λ (b : Bool). if b then Some bytes else unused_in accounts q) (eq-eqb q k same) ∙ ap Some (tells ∙ ap (λ (j : ℕ). unused_of j h) (read ∙ sym same)) in
      let beside : (q : ℕ) → q ≢ k → unused_in new q ≡ unused_in accounts q = λ q apart.
      wrote q ∙ ap (λ (b : Bool). if b then Some bytes else unused_in accounts q) (ne_eqb q k apart) in
      record {
        trackers = trackers ∙ sees.trackers;
        clients = record {
          each = λ q. elim (cases_eq q k) [
            | inl same ↦ ap is_some (at q same) ∙ sym (subst (λ (j : ℕ). IsSome (unused_in accounts j)) (read ∙ sym same) there) ∙ sees.clients.each q
            | inr apart ↦ ap is_some (beside q apart) ∙ sees.clients.each q
          ];
          count = count ∙ sees.clients.count;
        };
        written = λ p within. elim (cases_eq (tracker_at start p) k) [
          | inl same ↦ at (tracker_at start p) same
          | inr apart ↦ beside (tracker_at start p) apart ∙ sees.written p (elim (cases_lt p place) [
            | inl before ↦ before
            | inr last ↦
                let same : p ≡ place = omega (arith, within, last) in
                absurd (apart (ap (tracker_at start) same ∙ sym here))
          ])
        ];
      }

  -- each was
  none_mapped : (o : Option Account) → is_some o ≡ false → (u : Option ℕ) → is_some u ≡ false → u ≡ option_map (λ account. account.unused) o
  none_mapped None is None so = refl
  none_mapped (Some a) is u so = absurd (false≢true (sym is))
  none_mapped o is (Some n) so = absurd (false≢true (sym so))

  some_mapped : (o : Option Account) → is_some o ≡ true → Some (or_else no_account o).unused ≡ option_map (λ account. account.unused) o
  some_mapped (Some a) is = refl
  some_mapped None is = absurd (false≢true is)

  pub sees_all : length start ≤ place → (t : ℕ) → unused_in accounts t ≡ option_map (λ account. account.unused) (h.clients t)
  sees_all all t = elim (cases_Bool (is_some (unused_in accounts t))) [
    | inl there ↦
        let at = tracker_has_place accounts t there in
        let same : tracker_at start at.0 ≡ t = ap (λ (ts : List ℕ). slice_index ts at.0) (sym sees.trackers) ∙ at.2 in
        let within : at.0 < place = let low = at.1 in let count = same_count in omega (arith, low, all, count) in
        subst (λ (k : ℕ). unused_in accounts k ≡ Some (unused_of k h)) same (sees.written at.0 within) ∙ some_mapped (h.clients t) (sym (sees.clients.each t) ∙ there)
    | inr none ↦ none_mapped (h.clients t) (sym (sees.clients.each t) ∙ none) (unused_in accounts t) none
  ]
