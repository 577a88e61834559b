-- What clients may still charge, by a list of accounts. The list runs by the places of the accounts.
use Rattle.std.specs.Prelude.{ℕ, ◌==◌, ◌≤◌, List, Option, eqb, find, length, map, option_map, slice_index, slice_set}
use Rattle.std.specs.List.{IsDistinct}
use Rattle.pool.specs.declared.account.ClientAccount.{ClientAccount}

-- the trackers of the accounts, in their order
abbrev pub trackers_of : List ClientAccount → List ℕ
trackers_of accounts = map (λ a. a.tracker) accounts

-- the tracker of the account at a place
abbrev pub tracker_at : List ClientAccount → ℕ → ℕ
tracker_at accounts place = slice_index (trackers_of accounts) place

-- the unused bytes in the first account with this tracker
abbrev pub unused_in : List ClientAccount → ℕ → Option ℕ
unused_in accounts t = option_map (λ a. a.unused) (find (λ a. a.tracker == t) accounts)

-- the accounts, where the one at a place has so many unused bytes
abbrev pub with_unused : ℕ → ℕ → List ClientAccount → List ClientAccount
with_unused place bytes accounts = slice_set accounts place (record { tracker = tracker_at accounts place; unused = bytes })

-- at most 16 accounts, and no tracker twice
pub record AreProper (accounts : List ClientAccount) : Type 0 where
  pub few : length accounts ≤ 16
  pub distinct : IsDistinct eqb (trackers_of accounts)
