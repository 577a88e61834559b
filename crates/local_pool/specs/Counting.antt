-- What is named of the opening of a pool, and what its trail makes of that: of the sums over its slots, and of the names of pages.
use Rattle.std.specs.Prelude.{◌≡◌, ◌+◌, ◌≤◌, ℕ, Bool, true, List, Option, Some, None, if◌then◌else◌, length, ⊤}
use Rattle.pool_model.specs.LookingBack.{names_in}
use Rattle.pool_model.specs.declared.entry.Entry.{Entry}
use Rattle.pool_model.specs.State.{Opening}
use Rattle.pin_core.specs.declared.tally.Tally.{Tally}
use Rattle.session_calls.specs.declared.count.Count.{Count}
use Rattle.session_calls.specs.Outgoing.{opening_tally}
use Rattle.pin_core.specs.Tallies.{Counted, all_failures, all_stale, written_blocks}

-- what the slots of a pool counted when it opened, the name of its first page, and how many blocks it has
pub record AtOpening : Type 0 where
  pub tally : Tally
  pub first_name : ℕ
  pub blocks : ℕ

abbrev pub at_opening : Tally → ℕ → ℕ → AtOpening
at_opening tally first_name blocks = record { tally = tally; first_name = first_name; blocks = blocks }

-- that, where it is named
abbrev pub named_at : Bool → Opening → Tally → Option AtOpening
named_at named o tally = if named then Some (at_opening tally o.first_name o.blocks) else None

-- where it is named, the slots were counted from there on
abbrev pub CountsFrom : Option AtOpening → List Count → Type 0
CountsFrom None counts = ⊤
CountsFrom (Some first) counts = opening_tally counts ≡ first.tally

-- where it is named, the slots count so now, by what the trail tells
abbrev pub SumsHold : Option AtOpening → List Entry → Tally → Type 0
SumsHold None trail now = ⊤
SumsHold (Some first) trail now = Counted (all_failures trail) (written_blocks trail) (all_stale trail) first.tally now

-- where it is named, the first page had this name
abbrev pub BeginsNames : Option AtOpening → ℕ → Type 0
BeginsNames None name = ⊤
BeginsNames (Some first) name = name ≡ first.first_name

-- where it is named, it has so many blocks
abbrev pub HasBlocks : Option AtOpening → ℕ → Type 0
HasBlocks None blocks = ⊤
HasBlocks (Some first) blocks = blocks ≡ first.blocks

-- where it is named, no name is left only when the trail has made a page of each
abbrev pub SpendsNames : Option AtOpening → List Entry → Bool → Type 0
SpendsNames None trail spent = ⊤
SpendsNames (Some first) trail spent = spent ≡ true → 18446744073709551615 ≤ first.first_name + length (names_in trail)
