-- What the objects in memory hold.
use Rattle.std.specs.Prelude.{◌≡◌, ◌==◌, ◌&&◌, ℕ, true, List, [], Option, Some, None, ◌∷◌, if◌then◌else◌, length, map}
use Rattle.outside.specs.Counts.{counted}
use Rattle.outside.specs.Sinks.{first_failure}
use Rattle.outside.specs.Schedule.{Plan, FailsNext, fresh_plan, after_call, after_fault}
use Rattle.outside.specs.Slots.{ShowsHeld, Strays}

-- a source: the bytes to come, the most that one read gives, and which reads fail
pub record SourceState : Type 0 where
  pub left : List ℕ
  pub chunk : ℕ
  pub plan : Plan

-- a source before its first read
abbrev pub fresh_source : List ℕ → ℕ → List ℕ → SourceState
fresh_source bytes chunk fails = record { left = bytes; chunk = chunk; plan = fresh_plan fails }

-- a sink: its bytes, the most that one write takes, which writes fail, and how many found no memory; and its bytes at the
-- first write that failed, if one did
pub record SinkState : Type 0 where
  pub bytes : List ℕ
  pub chunk : ℕ
  pub plan : Plan
  pub starved : ℕ
  pub at_failure : Option (List ℕ)

-- a sink before its first write
abbrev pub fresh_sink : ℕ → List ℕ → SinkState
fresh_sink chunk fails = record { bytes = []; chunk = chunk; plan = fresh_plan fails; starved = 0; at_failure = None }

-- a slot: the block that it holds, which stores and loads fail, how many stores found no memory, and how many went
-- well; which blocks its loads give, each with the number of its call, in the place of what it holds, and how many did
pub record SlotState : Type 0 where
  pub held : Option (List ℕ)
  pub plan : Plan
  pub starved : ℕ
  pub stores : ℕ
  pub lies : List (ℕ × List ℕ)
  pub strays : ℕ

-- a slot before its first call
abbrev pub fresh_slot : List ℕ → List (ℕ × List ℕ) → SlotState
fresh_slot fails lies = record { held = None; plan = fresh_plan fails; starved = 0; stores = 0; lies = lies; strays = 0 }

-- the blocks that are listed, whatever their calls
abbrev pub further_of : List (ℕ × List ℕ) → List (List ℕ)
further_of lies = map (λ lie. lie.1) lies

-- the block that is listed for this call, where one is that has this length
abbrev pub lie_at : ℕ → ℕ → List (ℕ × List ℕ) → Option (List ℕ)
lie_at call len [] = None
lie_at call len (lie ∷ lies) = if (lie.0 == call) && (length lie.1 == len) then Some lie.1 else lie_at call len lies

-- a load went well and showed this: the block that is listed for it, or else the one that the slot holds
abbrev pub ShowsLie : Option (List ℕ) → SlotState → List ℕ → SlotState → Type 0
ShowsLie None old shown new = ShowsHeld old.held shown × (new ≡ record old { plan = after_call old.plan })
ShowsLie (Some lie) old shown new = (shown ≡ lie) × (new ≡ record old { plan = after_call old.plan; strays = counted old.strays })

abbrev pub Loaded : SlotState → List ℕ → SlotState → Type 0
Loaded old shown new = ShowsLie (lie_at old.plan.calls (length shown) old.lies) old shown new

-- what a slot tells of its strays
abbrev pub strays_of : SlotState → Strays
strays_of s = record { further = further_of s.lies; count = s.strays }

-- a sink after a write that failed
abbrev pub after_failure : SinkState → SinkState
after_failure s = record s { plan = after_fault s.plan; at_failure = first_failure true (Some s.bytes) s.at_failure }

-- a write that was listed: nothing was appended
pub record WriteFailed (old new : SinkState) : Type 0 where
  pub listed : FailsNext old.plan
  pub state : new ≡ after_failure old

-- a write that was not listed and found no memory: nothing was appended, and it counts
pub record WriteStarved (old new : SinkState) : Type 0 where
  pub unlisted : FailsNext old.plan → ⊥
  pub state : new ≡ record (after_failure old) { starved = counted old.starved }

-- a store that was listed: the slot holds nothing that is known
pub record StoreFailed (old new : SlotState) : Type 0 where
  pub listed : FailsNext old.plan
  pub state : new ≡ record old { held = None; plan = after_fault old.plan }

-- a store that was not listed and found no memory, likewise, and it counts
pub record StoreStarved (old new : SlotState) : Type 0 where
  pub unlisted : FailsNext old.plan → ⊥
  pub state : new ≡ record old { held = None; plan = after_fault old.plan; starved = counted old.starved }
