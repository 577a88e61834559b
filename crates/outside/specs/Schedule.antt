-- Which calls of an object in memory fail.
use Rattle.std.specs.Prelude.{ℕ, List, Contains}
use Rattle.outside.specs.Counts.{counted}

-- the numbers of the calls that fail, counted from 0; the calls so far; the faults so far
pub record Plan : Type 0 where
  pub fails : List ℕ
  pub calls : ℕ
  pub faults : ℕ

-- a plan before the first call
abbrev pub fresh_plan : List ℕ → Plan
fresh_plan fails = record { fails = fails; calls = 0; faults = 0 }

-- the next call is listed as one that fails
abbrev pub FailsNext : Plan → Type 0
FailsNext p = Contains p.fails p.calls

-- after a call that went well
abbrev pub after_call : Plan → Plan
after_call p = record p { calls = counted p.calls }

-- after a call that failed
abbrev pub after_fault : Plan → Plan
after_fault p = record p { calls = counted p.calls; faults = counted p.faults }
