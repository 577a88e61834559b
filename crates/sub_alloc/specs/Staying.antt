-- An allocator stays one of its client's, whatever else of the store changes. Statements alone.
use Rattle.std.specs.Prelude.{◌≡◌, ℕ, ◌≤◌}
use Rattle.store_api.specs.Changes.{after_give_back, after_reserve}
use Rattle.store_api.specs.Emitters.{SameFor}
use Rattle.store_api.specs.Holdings.{Holdings, unused_of}
use Rattle.sub_alloc.specs.Pieces.{Division}
use Rattle.sub_alloc.specs.Lending.{IsAllocOf}

-- where that client's account, pages and loans are as before
abbrev pub StaysBeside : Type 0
StaysBeside = (t : ℕ) (d : Division) (old new : Holdings) → new.block_len ≡ old.block_len → SameFor t old new → IsAllocOf t old d → IsAllocOf t new d

-- where that client's reservation grows
abbrev pub StaysReserved : Type 0
StaysReserved = (t bytes : ℕ) (d : Division) (h : Holdings) → IsAllocOf t h d → IsAllocOf t (after_reserve t bytes h) d

-- where it falls, by bytes that are unused
abbrev pub StaysGivenBack : Type 0
StaysGivenBack = (t bytes : ℕ) (d : Division) (h : Holdings) → bytes ≤ unused_of t h → IsAllocOf t h d → IsAllocOf t (after_give_back t bytes h) d
