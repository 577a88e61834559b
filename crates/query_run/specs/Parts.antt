-- A text that is written a part at a time.
use Rattle.std.specs.Prelude.{◌≡◌, ◌⊎◌, ◌++◌, ℕ, List, Option}
use Rattle.std.specs.Io.KnownBytes.{Appends}
use Rattle.reservation_tree.specs.declared.errors.PoolErr.TheVariants.{Memory}
use Rattle.query_plan.specs.declared.outcome.QueryErr.{QueryErr}
use Rattle.query_plan.specs.declared.outcome.QueryErr.TheVariants.{Pool, SinkFault}

-- so much of a text was appended since a start that these bytes of it are left
pub record HasSent (start now : Option (List ℕ)) (left text : List ℕ) : Type 0 where
  pub sent : List ℕ
  pub written : Appends start now sent
  pub whole : sent ++ left ≡ text

-- a front of a text was appended, which may be all of it or nothing
pub record FrontOf (start now : Option (List ℕ)) (text : List ℕ) : Type 0 where
  pub sent : List ℕ
  pub rest : List ℕ
  pub written : Appends start now sent
  pub whole : sent ++ rest ≡ text

-- why a text was not written whole: its sink failed, or memory was wanting
abbrev pub StopsWriting : QueryErr → Type 0
StopsWriting why = (why ≡ SinkFault) ⊎ (why ≡ Pool Memory)
