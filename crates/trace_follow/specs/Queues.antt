-- Queues: pairs of stamps and names, by ascending stamps.
use Rattle.std.specs.Prelude.{◌≡◌, ℕ, ◌<◌, ◌-◌, List, [], ◌∷◌, ◌++◌, length, map, slice_get, Option, Some, option_map, unwrap_or}
use Rattle.std.specs.Ordering.{nat_cmp}
use Rattle.std.specs.FinMap.{FinMap, get}
use Rattle.std.specs.List.{AllByRecursion}

abbrev pub Queue : Type 0
Queue = List (ℕ × ℕ)

-- the names that wait, the one that has waited longest first
abbrev pub names_in : Queue → List ℕ
names_in queue = map (λ e. e.1) queue

-- the name that has waited longest, and the one that came last
abbrev pub first_in : Queue → Option ℕ
first_in queue = option_map (λ e. e.1) (slice_get queue 0)

abbrev pub last_in : Queue → Option ℕ
last_in queue = option_map (λ e. e.1) (slice_get queue (length queue - 1))

-- a client's queue, and none where it has none
abbrev pub queue_at : FinMap nat_cmp Queue → ℕ → Queue
queue_at queues c = unwrap_or (get queues c) []

-- the name waits under the stamp that is kept of it, the number of an entry before
pub record IsStamped (stamps : FinMap nat_cmp ℕ) (entries : ℕ) (e : ℕ × ℕ) : Type 0 where
  pub earlier : e.0 < entries
  pub kept : get stamps e.1 ≡ Some e.0

abbrev pub AreStamped : FinMap nat_cmp ℕ → ℕ → Queue → Type 0
AreStamped stamps entries queue = AllByRecursion (IsStamped stamps entries) queue

-- the page is the first of these names, or the last
abbrev pub IsFirst : ℕ → List ℕ → Type 0
IsFirst p names = (newer : List ℕ) × (names ≡ p ∷ newer)

abbrev pub IsLast : ℕ → List ℕ → Type 0
IsLast p names = (older : List ℕ) × (names ≡ older ++ p ∷ [])
