-- A tree that counts its own charges.
use Rattle.std.specs.Prelude.{ℕ, unwrap_or, refl}
use Rattle.std.specs.Ordering.{nat_cmp}
use Rattle.std.specs.FinMap.{FinMap, get, insert, remove, empty, code}
use Rattle.std.specs.Coded.{Coded, code_by, coded×, coded_ℕ}
use Rattle.reservation_tree.specs.Tracker.{Trackers, trackers_code}
use Rattle.reservation_tree.specs.Change.{root_alone, with_child}

-- the live trackers, and what each of them is charged
pub record TreeState : Type 0 where
  pub trackers : Trackers
  pub charges : FinMap nat_cmp ℕ

-- a state is stored as the pair of its maps
abbrev pub state_code : Coded TreeState
state_code =
    code_by (Trackers × FinMap nat_cmp ℕ) (coded× trackers_code (code coded_ℕ coded_ℕ))
    (λ s. (s.trackers, s.charges)) (λ p. record { trackers = p.0; charges = p.1 }) (λ _. refl)

-- what a tracker is charged
abbrev pub charge_of : TreeState → ℕ → ℕ
charge_of s t = unwrap_or (get s.charges t) 0

-- the tree of a root alone
abbrev pub opened : ℕ → TreeState
opened limit = record { trackers = root_alone limit; charges = insert empty 0 0 }

-- the tracker's charge is this, and nothing else changes
abbrev pub set_charge : ℕ → ℕ → TreeState → TreeState
set_charge bytes t s = record s { charges = insert s.charges t bytes }

-- a child that is charged nothing has come
abbrev pub with_new : ℕ → ℕ → ℕ → TreeState → TreeState
with_new t parent limit s = record { trackers = with_child t parent limit s.trackers; charges = insert s.charges t 0 }

-- a tracker is gone
abbrev pub without : ℕ → TreeState → TreeState
without t s = record { trackers = remove s.trackers t; charges = remove s.charges t }

-- the trackers are these, and the charges stay
abbrev pub with_trackers : Trackers → TreeState → TreeState
with_trackers ts s = record s { trackers = ts }
