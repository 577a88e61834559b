-- What a contract sees of a pool of slots of some type D. The slots are told apart by their order alone.
use Rattle.std.specs.Prelude.{◌≡◌, ℕ, ◌+◌, ◌-◌, List, ◌++◌, Option, Some, None, length, drop, slice_index_or, slice_set}
use Rattle.std.specs.List.{sum_by}
use Rattle.scratch_dev.specs.declared.quota.Quota.{Quota}

-- the free slots, the next one to go out first, the quotas that are open, and how many slots are in none
pub record Scratch (D : Type 0) : Type 0 where
  pub free : List D
  pub quotas : List (Option Quota)
  pub spare : ℕ

-- how many slots of a quota are free; none where it is closed
abbrev pub free_in : Option Quota → ℕ
free_in None = 0
free_in (Some quota) = quota.free

-- how many of its slots are in rows
abbrev pub lent_in : Option Quota → ℕ
lent_in None = 0
lent_in (Some quota) = quota.lent

module _ {D : Type 0} where
  -- the quota of that number, where it is open
  abbrev pub quota_of : Scratch D → ℕ → Option Quota
  quota_of s q = slice_index_or s.quotas q None

  -- how many of its slots are free, and how many are in rows
  abbrev pub free_of : Scratch D → ℕ → ℕ
  free_of s q = free_in (quota_of s q)

  abbrev pub lent_of : Scratch D → ℕ → ℕ
  lent_of s q = lent_in (quota_of s q)

  -- no quota is open
  abbrev pub NoneIsOpen : Scratch D → Type 0
  NoneIsOpen s = (q : ℕ) → quota_of s q ≡ None

  -- as many slots are free as are spare or free in a quota
  abbrev pub IsCounted : Scratch D → Type 0
  IsCounted s = length s.free ≡ s.spare + sum_by free_in s.quotas

  -- so many spare slots became the quota's
  abbrev pub with_open : ℕ → ℕ → Scratch D → Scratch D
  with_open q size s = record s { quotas = slice_set s.quotas q (Some (record { free = size; lent = 0 })); spare = s.spare - size }

  -- the quota's free slots became spare
  abbrev pub with_closed : ℕ → Scratch D → Scratch D
  with_closed q s = record s { quotas = slice_set s.quotas q None; spare = s.spare + free_of s q }

  -- the first free slots went out, on this quota
  abbrev pub with_taken : ℕ → ℕ → Scratch D → Scratch D
  with_taken q count s = record s { free = drop count s.free; quotas = slice_set s.quotas q (Some (record { free = free_of s q - count; lent = lent_of s q + count })) }

  -- these slots of the quota came back behind the free ones
  abbrev pub with_given : ℕ → List D → Scratch D → Scratch D
  with_given q row s = record s { free = s.free ++ row; quotas = slice_set s.quotas q (Some (record { free = free_of s q + length row; lent = lent_of s q - length row })) }
