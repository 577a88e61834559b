-- What a follower does at one event of a maker.
use Rattle.std.specs.Prelude.{◌≡◌, ℕ, Bool, true, Result, IfOk}
use Rattle.pool_model.specs.declared.bare.Bare.{Bare}
use Rattle.pool_model.specs.declared.skeleton.Skeleton.{Skeleton}
use Rattle.pool_model.specs.Traces.{is_writer}
use Rattle.trace_follow.specs.declared.follower.Follower.{Follower}
use Rattle.trace_follow.specs.Following.{Judges, Follows}

-- the maker's entry of this event, as a trace has it
abbrev pub made : ℕ → Bare → Skeleton
made maker event = record { writer = is_writer maker; maker = maker; event = event }

-- the answer is whether the entry may follow, and then it has followed
pub record Answers {E : Type 0} (old new : Follower) (k : Skeleton) (result : Result Bool E) : Type 0 where
  pub judges : IfOk result (Judges old k)
  pub follows : IfOk result (λ may. may ≡ true → Follows old new k)
