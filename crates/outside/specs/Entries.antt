-- One input and one output in memory.
use Rattle.std.specs.Prelude.{◌&&◌, ℕ, Bool, false, not, List, [], Option, Some, None, if◌then◌else◌}
use Rattle.outside.specs.Counts.{counted, more_counted}
use Rattle.outside.specs.Names.{Written}

-- what was put under a name: its bytes, how a source gives them, and the faults of the name
pub record InputFile : Type 0 where
  pub bytes : List ℕ
  pub chunk : ℕ
  pub fails : List ℕ
  pub faults : ℕ

-- an input with n more faults
abbrev pub with_faults : ℕ → InputFile → InputFile
with_faults n file = record file { faults = more_counted n file.faults }

-- what stands under a name that was created, the faults of the name, and how often the end of a whole answer was refused
pub record OutputEntry : Type 0 where
  pub written : Written
  pub faults : ℕ
  pub refused_ends : ℕ

-- an output with n more faults
abbrev pub with_more_faults : ℕ → OutputEntry → OutputEntry
with_more_faults n entry = record entry { faults = more_counted n entry.faults }

-- the refused ends of whole answers, after one more end
abbrev pub ends_after : Bool → Bool → ℕ → ℕ
ends_after whole refused ends = if whole && refused then counted ends else ends

-- an output that was given back with these bytes, which count as a whole answer where that is said and not refused
abbrev pub ended : List ℕ → Bool → Bool → OutputEntry → OutputEntry
ended bytes whole refused entry =
    record entry { written = record { bytes = bytes; whole = whole && not refused }; refused_ends = ends_after whole refused entry.refused_ends }

-- which calls of an output fail: the writes of each of its sinks, counted from 0, and whether every create and every done does
pub record Failing : Type 0 where
  pub fails : List ℕ
  pub create : Bool
  pub done : Bool

-- no call of an output fails
abbrev pub fails_nowhere : Failing
fails_nowhere = record { fails = []; create = false; done = false }

-- the calls that were set to fail: none where nothing was set
abbrev pub failing_of : Option Failing → Failing
failing_of None = fails_nowhere
failing_of (Some failing) = failing

-- a count of the entry under a name, where the names with no entry have one count together
abbrev pub count_by : {X : Type 0} → ℕ → (X → ℕ) → Option X → ℕ
count_by missing count None = missing
count_by missing count (Some entry) = count entry
