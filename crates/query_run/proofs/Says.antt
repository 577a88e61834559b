-- What errors say of the inputs of a query.
use Rattle.std.proofs.Common.{◌≡◌, ◌≢◌, ◌∙◌, ◌*◌, ℕ, Option, Some, None, IfSome, ap, sym, subst, refl}
use Rattle.std.specs.Prelude.{IsSomeAnd}
use Rattle.std.specs.Io.KnownBytes.{IsAtEnd}
use Rattle.query_plan.specs.Sizes.{page_len}
use Rattle.query_plan.specs.declared.plan.Query.{Query}
use Rattle.query_plan.specs.declared.plan.Side.{Side}
use Rattle.query_plan.specs.declared.plan.Side.TheVariants.{Left, Right}
use Rattle.query_plan.specs.declared.plan.SidePlan.{SidePlan}
use Rattle.reservation_tree.specs.declared.errors.PoolErr.TheVariants.{Memory}
use Rattle.store_api.specs.Holdings.{Holdings}
use Rattle.store_api.specs.Signs.{Signs}
use Rattle.query_run.specs.Both.{Told}
use Rattle.query_run.specs.Causes.{side_of}
use Rattle.query_run.specs.Input.{IsAccepted}
use Rattle.query_run.specs.Refused.{SaysOfInputs, SaysOfRight, SaysOfSide, Source}
use Rattle.query_run.specs.Stopped.{IsWantBelow, MayStop}
use Rattle.query_run.specs.Through.{need}
use Rattle.query_plan.specs.declared.outcome.QueryErr.{QueryErr}
use Rattle.query_plan.specs.declared.outcome.QueryErr.TheVariants as query

-- an error that speaks of no input says nothing that isn't so
pub says_nothing : (plan : Query) (side : Side) (asked : SidePlan) (page : ℕ) (input : Source) (why : QueryErr) → side_of why ≡ None → SaysOfSide plan side asked page input why
says_nothing plan side asked page input query.SinkFault none = record { alone = tt; refused = λ is. absurd is; field = tt; source_fault = λ fault. let is = fault.1 in absurd cc }
says_nothing plan side asked page input (query.Pool e) none = record { alone = tt; refused = λ is. absurd is; field = tt; source_fault = λ fault. let is = fault.1 in absurd cc }
says_nothing plan side asked page input (query.SourceFault other) none = absurd cc
says_nothing plan side asked page input (query.BadHeader other) none = absurd cc
says_nothing plan side asked page input (query.BadCsv other number) none = absurd cc
says_nothing plan side asked page input (query.BadField other number column) none = absurd cc
says_nothing plan side asked page input (query.TooLarge other) none = absurd cc
says_nothing plan side asked page input (query.RowTooLong other number bytes) none = absurd cc

pub says_neither : (plan : Query) (page : ℕ) (lefts rights : Source) (why : QueryErr) → side_of why ≡ None → SaysOfInputs plan page lefts rights why
says_neither plan page lefts rights why none =
    record { left = λ other. says_nothing plan Left plan.left page lefts why none; right = λ is. absurd (let both = sym none ∙ is in cc) }

neither : (o : Option Side) → IfSome o (λ other. other ≡ Right) → o ≢ Some Right → o ≡ None
neither None alone other = refl
neither (Some side) alone other = absurd (other (ap (λ (s : Side). Some s) alone))

-- what is said of the right input, once the left one was accepted and read
pub says_right : (plan : Query) (right : SidePlan) (page : ℕ) (lefts rights : Source) (why : QueryErr) → plan.right ≡ Some right → IfSome lefts.told (IsAccepted plan page) → IsAtEnd lefts.rest
    → SaysOfSide plan Right right page rights why → SaysOfInputs plan page lefts rights why
says_right plan right page lefts rights why planned accepted read says = record {
  left = λ other. says_nothing plan Left plan.left page lefts why (neither (side_of why) says.alone other);
  right = λ is. subst (λ (o : Option SidePlan). IsSomeAnd o (λ asked. SaysOfRight plan asked page lefts rights why)) (sym planned) (record { accepted = accepted; read = read; says = says });
}

-- there may be no memory at any time
any-told : (plan : Query) (start : Holdings) (told : Option Told) → IfSome told (λ both. IsWantBelow (need plan (page_len plan start.block_len) both * plan.page_blocks) start.free_slots Memory)
any-told plan start None = tt
any-told plan start (Some both) = tt

pub memory_stops : (plan : Query) (told : Option Told) (start : Holdings) (old new : Signs) → MayStop plan told start old new (query.Pool Memory)
memory_stops plan told start old new = record { answered = tt; want = tt; enough = λ tells. any-told plan start told }
