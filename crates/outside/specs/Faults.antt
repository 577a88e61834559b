-- What failed of a sink.
use Rattle.std.specs.Prelude.{◌≡◌, ℕ, List, Option}
use Rattle.outside.specs.Counts.{Rose}
use Rattle.outside.specs.Sinks.{EndsAt}
use Rattle.outside.specs.declared.stream.Sink.{Ghosts}

-- the faults of a sink: how many, and its bytes at the first failed write, where one failed and they are told
pub record Faults : Type 0 where
  pub count : ℕ
  pub first : Option (List ℕ)

abbrev pub faults_of : {K : Type 0} → Ghosts K → K → Faults
faults_of sinks sink = record { count = sinks.faults sink; first = sinks.at_failure sink }

-- no write failed
abbrev pub NoneFailed : Faults → Faults → Type 0
NoneFailed before now = (now.count ≡ before.count) × (now.first ≡ before.first)

-- a write failed, and nothing stands behind the first one that did
abbrev pub FailsAt : Faults → Faults → Option (List ℕ) → Type 0
FailsAt before now contents = Rose before.count now.count × EndsAt before.first now.first contents
