-- Trackers, the finite map of the live ones, and what they hold.
-- Bytes are whole numbers without end. What a tracker is charged is a parameter, `charge`, so that a
-- tree that counts its charges and a pool that sums up its pages share these words.
use Rattle.std.specs.Prelude.{◌≡◌, ℕ, ◌+◌, ◌-◌, ◌≤◌, ◌<◌, ◌==◌, if◌then◌else◌, Option, Some, None, IsSome, unwrap_or, refl}
use Rattle.std.specs.Ordering.{nat_cmp}
use Rattle.std.specs.FinMap.{FinMap, get, code}
use Rattle.std.specs.Coded.{Coded, code_by, coded×, coded_ℕ, coded_option}
use Rattle.reservation_tree.specs.Total.{total}

-- what a tracker stands under, how many stand above it, and its bytes
pub record Tracker : Type 0 where
  pub parent : Option ℕ
  pub depth : ℕ
  pub limit : ℕ
  pub reservation : ℕ

-- a tracker is stored as the tuple of its fields
abbrev pub tracker_code : Coded Tracker
tracker_code =
    code_by (Option ℕ × (ℕ × (ℕ × ℕ))) (coded× (coded_option coded_ℕ) (coded× coded_ℕ (coded× coded_ℕ coded_ℕ)))
    (λ x. (x.parent, (x.depth, (x.limit, x.reservation))))
    (λ p. record { parent = p.0; depth = p.1.0; limit = p.1.1.0; reservation = p.1.1.1 })
    (λ _. refl)

-- the live trackers by their numbers
abbrev pub Trackers : Type 0
Trackers = FinMap nat_cmp Tracker

abbrev pub trackers_code : Coded Trackers
trackers_code = code coded_ℕ tracker_code

-- the tracker is live
abbrev pub IsLive : Trackers → ℕ → Type 0
IsLive ts t = IsSome (get ts t)

-- each live tracker's number is below this
abbrev pub AreBelow : ℕ → Trackers → Type 0
AreBelow bound ts = (t : ℕ) → IsLive ts t → t < bound

-- what is read where no tracker is live
abbrev pub no_tracker : Tracker
no_tracker = record { parent = None; depth = 0; limit = 0; reservation = 0 }

abbrev pub tracker_at : Trackers → ℕ → Tracker
tracker_at ts t = unwrap_or (get ts t) no_tracker

abbrev pub reservation_of : Trackers → ℕ → ℕ
reservation_of ts t = (tracker_at ts t).reservation

abbrev pub limit_of : Trackers → ℕ → ℕ
limit_of ts t = (tracker_at ts t).limit

abbrev pub depth_of : Trackers → ℕ → ℕ
depth_of ts t = (tracker_at ts t).depth

-- the tracker above, and for the root the root
abbrev pub parent_of : Trackers → ℕ → ℕ
parent_of ts t = unwrap_or (tracker_at ts t).parent 0

-- what the reservation may still rise by
abbrev pub room_of : Trackers → ℕ → ℕ
room_of ts t = limit_of ts t - reservation_of ts t

-- the bytes where this is the parent, and else none
abbrev pub share_of : ℕ → Option ℕ → ℕ → ℕ
share_of t None bytes = 0
share_of t (Some parent) bytes = if parent == t then bytes else 0

-- the reservations of the live trackers under this one
unfoldable pub children_of : Trackers → ℕ → ℕ
children_of ts t = total (λ _ x. share_of t x.parent x.reservation) ts

-- what of a reservation is neither charged nor the children's
abbrev pub unused : (ℕ → ℕ) → Trackers → ℕ → ℕ
unused charge ts t = reservation_of ts t - (charge t + children_of ts t)

-- no live tracker stands under this one
abbrev pub HasNoChild : Trackers → ℕ → Type 0
HasNoChild ts t = (child : ℕ) (x : Tracker) → get ts child ≡ Some x → (x.parent ≡ Some t → ⊥)

-- charges and children fit the reservation, and the reservation fits the limit
pub record Fits (charge : ℕ → ℕ) (ts : Trackers) (t : ℕ) : Type 0 where
  pub within : charge t + children_of ts t ≤ reservation_of ts t
  pub below : reservation_of ts t ≤ limit_of ts t

-- each live tracker fits
abbrev pub FitsTree : (ℕ → ℕ) → Trackers → Type 0
FitsTree charge ts = (t : ℕ) → IsLive ts t → Fits charge ts t

-- the tracker 0 alone has no parent, and another is one deeper than its parent, which is live
abbrev pub Hangs : Trackers → ℕ → ℕ → Option ℕ → Type 0
Hangs ts t depth None = (t ≡ 0) × (depth ≡ 0)
Hangs ts t depth (Some parent) = (y : Tracker) × (get ts parent ≡ Some y) × (depth ≡ y.depth + 1)

-- the root is live, and each live tracker hangs from it
pub record IsTree (ts : Trackers) : Type 0 where
  pub root : IsLive ts 0
  pub hangs : (t : ℕ) (x : Tracker) → get ts t ≡ Some x → Hangs ts t x.depth x.parent
