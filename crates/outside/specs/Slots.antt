-- What a slot of scratch tells of the block that it holds, and of the stores that went well.
use Rattle.std.specs.Prelude.{◌≡◌, ◌≤◌, ◌<◌, ◌⊎◌, ℕ, Bool, true, false, List, [], Option, Some, None, Result, Ok, Err, ⊤, length, Contains}
use Rattle.outside.specs.Counts.{Rose, last_count}

-- a block as a slot tells it, or nothing where the slot tells nothing
abbrev pub told_block : Bool → List ℕ → Option (List ℕ)
told_block true block = Some block
told_block false block = None

-- the bytes that a load showed are those that the slot held, where it told a block of that length
abbrev pub ShowsHeld : Option (List ℕ) → List ℕ → Type 0
ShowsHeld None shown = ⊤
ShowsHeld (Some block) shown = length block ≡ length shown → shown ≡ block

-- what a slot tells of blocks that its loads give though it holds another one: which blocks these may be, and how
-- many such loads there were
pub record Strays : Type 0 where
  pub further : List (List ℕ)
  pub count : ℕ

-- the blocks stay as they are, where they are told, and the count does not fall
abbrev pub KeepsStrays : Option Strays → Option Strays → Type 0
KeepsStrays None now = now ≡ None
KeepsStrays (Some before) None = ⊥
KeepsStrays (Some before) (Some now) = (now.further ≡ before.further) × (before.count ≤ now.count)

-- a load gave one of these blocks, and was counted; where none are told, it may have given any bytes
abbrev pub Strayed : Option Strays → Option Strays → List ℕ → Type 0
Strayed None now shown = ⊤
Strayed (Some before) None shown = ⊥
Strayed (Some before) (Some now) shown = Contains before.further shown × Rose before.count now.count

-- a load showed what the slot held, or strayed
abbrev pub Gave : Option (List ℕ) → Option Strays → Option Strays → List ℕ → Type 0
Gave held before now shown = ShowsHeld held shown ⊎ Strayed before now shown

-- no load strayed between these two: there is no further block, or the count neither rose nor stands at its last value
abbrev pub GivesHeld : Option Strays → Option Strays → Type 0
GivesHeld None now = ⊥
GivesHeld (Some before) None = ⊥
GivesHeld (Some before) (Some now) = (before.further ≡ []) ⊎ ((now.count ≤ before.count) × (now.count < last_count))

-- a count of stores, where one is told, does not fall, and rises with a store that went well
abbrev pub CountsStore : {E : Type 0} → Option ℕ → Option ℕ → Result Unit E → Type 0
CountsStore None now result = now ≡ None
CountsStore (Some before) None result = ⊥
CountsStore (Some before) (Some now) (Ok _) = (before ≤ now) × Rose before now
CountsStore (Some before) (Some now) (Err _) = before ≤ now
