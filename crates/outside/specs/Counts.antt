-- Counts of faults and of stores: they stop at the greatest u64, and never fall.
use Rattle.std.specs.Prelude.{◌+◌, ◌-◌, ◌^◌, ◌<◌, ◌≤◌, ℕ, List, min}

-- the greatest number that a count shows
abbrev pub last_count : ℕ
last_count = 2 ^ 64 - 1

-- the count after one more
abbrev pub counted : ℕ → ℕ
counted n = min (n + 1) last_count

-- a count after n more
abbrev pub more_counted : ℕ → ℕ → ℕ
more_counted n count = min (count + n) last_count

-- a count rose, or it stands at its last value
abbrev pub Rose : ℕ → ℕ → Type 0
Rose before now = now < last_count → before < now

-- a count for each name, none of which fell
abbrev pub NoneFell : (List ℕ → ℕ) → (List ℕ → ℕ) → Type 0
NoneFell before now = (name : List ℕ) → before name ≤ now name
