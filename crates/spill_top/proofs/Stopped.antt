-- Why a query stopped beside its pool, what it left in its sink then, and how many lines it has, by what it says of both inputs.
use Rattle.std.proofs.Common.{◌≡◌, ◌⊎◌, inl, inr, ℕ, Bool, true, false, List, Option, Some, None, IfSome, IsSome, refl, ap}
use Rattle.std.specs.Option.{IsSomeAnd}
use Rattle.outside.specs.Counts.{Rose}
use Rattle.query_plan.specs.declared.plan.Query.{Query}
use Rattle.query_plan.specs.declared.plan.Side.{Side}
use Rattle.query_plan.specs.declared.plan.Side.TheVariants.{Left, Right}
use Rattle.query_plan.specs.declared.plan.SidePlan.{SidePlan}
use Rattle.query_run.specs.Answer.{Numbers, WroteAnswer, WroteFront, answer_text}
use Rattle.query_run.specs.Both.{Told}
use Rattle.query_run.specs.Causes.{IsOfBytes, IsSourceFault, side_of}
use Rattle.query_run.specs.Input.{IsAccepted, IsRefusalIn}
use Rattle.query_run.specs.Refused.{SaysOfInputs, SaysOfRight, Source}
use Rattle.query_plan.specs.declared.outcome.QueryErr.{QueryErr}
use Rattle.query_plan.specs.declared.outcome.QueryErr.TheVariants as query
use Rattle.query_plan.specs.declared.outcome.Ran.{Ran}
use Rattle.spill_top.specs.Jobs.{LeavesPart}
use Rattle.spill_top.specs.Running.{HasLines, IsRefusedOn}
use Rattle.spill_top.specs.Sides.{RoseOn, if_told, on_sides}

-- why it stopped, but for its pool: the bytes of the input that the cause names are refused for this; or reading that input, or writing, has failed
pub record StopsBeside (plan : Query) (page : ℕ) (bytes : Side → Option (List ℕ)) (read_failed : Side → Type 0) (write_failed : Type 0) (why : QueryErr) : Type 0 where
  pub refused : IsOfBytes why → IsSomeAnd (side_of why) (IsRefusedOn plan page bytes why)
  pub source_fault : (side : Side) → why ≡ query.SourceFault side → read_failed side
  pub sink_fault : why ≡ query.SinkFault → write_failed

-- what bytes are refused for names their side
sided : (why : QueryErr) → IsOfBytes why → side_of why ≡ None → ⊥
sided (query.SourceFault side) of none = of
sided (query.BadHeader side) of none = cc
sided (query.BadCsv side number) of none = cc
sided (query.BadField side number column) of none = cc
sided (query.TooLarge side) of none = cc
sided (query.RowTooLong side number bytes) of none = cc
sided query.SinkFault of none = of
sided (query.Pool e) of none = of

not-both : (side : Option Side) → side ≡ Some Left → side ≡ Some Right → ⊥
not-both side left right = cc

module _ (plan : Query) (page : ℕ) (lefts rights : Source) (why : QueryErr) where
  refused-right : (asked : Option SidePlan) → IsSomeAnd asked (λ side. SaysOfRight plan side page lefts rights why) → IsOfBytes why
      → IfSome lefts.told (IsAccepted plan page) × IsSomeAnd asked (λ side. IfSome rights.told (λ bytes. IsRefusalIn plan Right side page bytes why))
  refused-right None says of = absurd says
  refused-right (Some side) says of = (says.accepted, says.says.refused of)

  refused-on : (side : Option Side) → side_of why ≡ side → SaysOfInputs plan page lefts rights why → IsOfBytes why → IsSomeAnd side (IsRefusedOn plan page (on_sides lefts.told rights.told) why)
  refused-on None is says of = absurd (sided why of is)
  refused-on (Some Left) is says of = (says.left (λ other. not-both (side_of why) is other)).refused of
  refused-on (Some Right) is says of = refused-right plan.right (says.right is) of

  refused-of : SaysOfInputs plan page lefts rights why → IsOfBytes why → IsSomeAnd (side_of why) (IsRefusedOn plan page (on_sides lefts.told rights.told) why)
  refused-of says of = refused-on (side_of why) refl says of

  fault-right : (asked : Option SidePlan) → IsSomeAnd asked (λ side. SaysOfRight plan side page lefts rights why) → IsSourceFault why → Rose rights.faults rights.faults_now
  fault-right None says fault = absurd says
  fault-right (Some side) says fault = says.says.source_fault fault

  fault-of : SaysOfInputs plan page lefts rights why → (side : Side) → why ≡ query.SourceFault side → RoseOn (on_sides lefts.faults rights.faults) (on_sides lefts.faults_now rights.faults_now) side
  fault-of says Left is = (says.left (λ other. not-both (side_of why) (ap side_of is) other)).source_fault (Left, is)
  fault-of says Right is = fault-right plan.right (says.right (ap side_of is)) (Right, is)

  -- so it stopped for this
  pub stopped_for : (write_failed : Type 0) → SaysOfInputs plan page lefts rights why → (why ≡ query.SinkFault → write_failed)
      → StopsBeside plan page (on_sides lefts.told rights.told) (RoseOn (on_sides lefts.faults rights.faults) (on_sides lefts.faults_now rights.faults_now)) write_failed why
  stopped_for write_failed says sink = record { refused = refused-of says; source_fault = fault-of says; sink_fault = sink }

-- what is said of what is told where slots tell what they hold
pub answer_told : (plan : Query) (page : ℕ) (tell : Bool) (told : Option Told) (before now : Option (List ℕ)) → (tell ≡ true → WroteAnswer plan page told before now) → WroteAnswer plan page (if_told tell told) before now
answer_told plan page true told before now wrote = wrote refl
answer_told plan page false told before now wrote = tt

front-told : (plan : Query) (page : ℕ) (tell : Bool) (told : Option Told) (before now : Option (List ℕ)) → (tell ≡ true → WroteFront plan page told before now) → WroteFront plan page (if_told tell told) before now
front-told plan page true told before now front = front refl
front-told plan page false told before now front = tt

-- it left its sink as it was where an input was at fault, and else as it was or with a front
pub part_left : {K A : Type 0} (contents : K → Option (List ℕ)) (plan : Query) (page : ℕ) (tell : Bool) (told : Option Told) (before now : K) (side : Option Side) → (IsSome side → now ≡ before)
    → (now ≡ before) ⊎ (A × (tell ≡ true → WroteFront plan page told (contents before) (contents now))) → LeavesPart plan page (if_told tell told) (contents before) (contents now) side
part_left contents plan page tell told before now (Some side) untouched stopped = ap contents (untouched refl)
part_left contents plan page tell told before now None untouched (inl same) = inl (ap contents same)
part_left contents plan page tell told before now None untouched (inr part) = inr (front-told plan page tell told (contents before) (contents now) part.1)

-- the lines of an answer over what is told
pub lines_of : (plan : Query) (page : ℕ) (tell : Bool) (told : Option Told) (ran : Ran) → IfSome told (Numbers plan page tell ran) → IfSome (if_told tell told) (HasLines plan page ran.lines)
lines_of plan page false told ran numbers = tt
lines_of plan page true None ran numbers = tt
lines_of plan page true (Some both) ran numbers =
    let lines = numbers.lines refl in
    record {
      text = answer_text plan lines.out;
      answer = record { accepted = numbers.accepted; out = lines.out; are = lines.are; is = refl };
      many = lines.lines;
    }
