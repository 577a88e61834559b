-- A text that is being checked, of which some lines were read. For private functions.
use Rattle.std.specs.Prelude.{◌≡◌, ◌≤◌, ◌+◌, ℕ, List, length, Result, Ok, Err}
use Rattle.pool_model.specs.declared.skeleton.Skeleton.{Skeleton}
use Rattle.pool_model.specs.declared.entry.Entry.{Entry}
use Rattle.pool_model.specs.State.{Opening}
use Rattle.pool_model.specs.Traces.{HasTrace}
use Rattle.trace_follow.specs.declared.follower.Follower.{Follower}
use Rattle.trace_follow.specs.Following.{StandsFor}
use Rattle.trace_check.specs.declared.check.Checked.{Checked}
use Rattle.trace_check.specs.declared.trace_err.TraceErr.{TraceErr}
use Rattle.trace_check.specs.Verdicts.{Begins, BeginsLegal, IsAccepted, IsCause}

-- what an answer says of the text
abbrev pub IsVerdict : List ℕ → Result Checked TraceErr → Type 0
IsVerdict text (Ok c) = IsAccepted text c
IsVerdict text (Err why) = IsCause text why

-- so many entries were read, which are a legal trace; the follower stands for each history that has it
pub record IsUnderway (text : List ℕ) (v : Follower) (entries : ℕ) (rest : List ℕ) : Type 0 where
  pub trace : List Skeleton
  pub begins : BeginsLegal text trace rest
  pub stands : (p : Opening) (h : List Entry) → Begins text p trace rest → HasTrace p h trace → StandsFor v p h
  pub count : entries ≡ length trace
  pub fits : entries + length rest ≤ length text
  pub small : length text ≤ 268435456
