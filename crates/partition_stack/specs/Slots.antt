-- Slots of the quota: those that are free, and those of an operator's pages. `f` is before calls and `g` behind them.
use Rattle.std.specs.Prelude.{◌≡◌, ℕ, ◌+◌, ◌*◌, ◌/◌, ◌%◌, ◌<◌, min, Option, Some, None, IfSome, option_map, ⊤}
use Rattle.reservation_tree.specs.declared.errors.PoolErr.{PoolErr}
use Rattle.reservation_tree.specs.declared.errors.PoolErr.TheVariants.{ScratchFull}
use Rattle.store_api.specs.declared.op_err.OpErr.{OpErr}
use Rattle.store_api.specs.declared.op_err.OpErr.TheVariants.{Pool, Sink}
use Rattle.tuple_stream.specs.Families.{AllSized, Family, slots_in}

-- what is left of the slots that were free at the start, when as many pages as they hold have theirs; nothing was
-- ever wanting where there is no quota
abbrev pub IsRest : ℕ → Option ℕ → ℕ → Type 0
IsRest blocks None free = ⊥
IsRest blocks (Some start) free = free ≡ start % blocks

-- a want of slots names the blocks of a page, and the slots that are left
abbrev pub IsWant : ℕ → Option ℕ → PoolErr → Type 0
IsWant blocks start (ScratchFull need free) = (need ≡ blocks) × IsRest blocks start free
IsWant blocks start _ = ⊤

abbrev pub IsWantOf : ℕ → Option ℕ → OpErr → Type 0
IsWantOf blocks start (Pool e) = IsWant blocks start e
IsWantOf blocks start Sink = ⊤

-- calls left the free slots and those of all pages together the same, and pages of so many blocks have so many still
pub record SameSlots (blocks : ℕ) (f g : Family) : Type 0 where
  pub sum : slots_in g ≡ slots_in f
  pub sized : AllSized blocks f → AllSized blocks g

-- so many slots, where there is a quota, and so many more
abbrev pub with_more : ℕ → Option ℕ → Option ℕ
with_more more total = option_map (λ n. n + more) total

-- the slots that an operator counts and those of the pages of an emitter's client stay together the same, and where the
-- emitter has no client, the operator's do
pub record KeepSlots (client mine_old mine : Option ℕ) (theirs_old theirs : ℕ) : Type 0 where
  pub sum : with_more theirs mine ≡ with_more theirs_old mine_old
  pub alone : client ≡ None → mine ≡ mine_old

-- the most pages of so many bytes each that rows have which stand in so many streams: no more than there are rows, and but for one
-- a stream no more than twice the bytes of the rows fill
abbrev pub most_pages : ℕ → ℕ → ℕ → ℕ → ℕ
most_pages len streams rows bytes = min rows (2 * bytes / len + streams)

-- a want of slots comes only where there are fewer than so many, the free ones and those of an operator's pages together
abbrev pub IsWantBelow : ℕ → Option ℕ → PoolErr → Type 0
IsWantBelow most total (ScratchFull need free) = IfSome total (λ n. n < most)
IsWantBelow most total _ = ⊤

abbrev pub IsWantBelowOf : ℕ → Option ℕ → OpErr → Type 0
IsWantBelowOf most total (Pool e) = IsWantBelow most total e
IsWantBelowOf most total Sink = ⊤
