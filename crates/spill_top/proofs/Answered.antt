-- What stands of a query once it was answered.
use Rattle.std.proofs.Common.{◌≡◌, ◌∙◌, ◌<◌, inl, inr, ℕ, zero, suc, Bool, true, false, List, [], Option, Some, None, IfSome, IsSome, is_some, refl, sym, subst, arith}
use Rattle.std.specs.Option.{IsSomeAnd}
use Rattle.std.specs.Prelude.{⊤}
use Rattle.std.proofs.lemmas.Bool.{false≢true}
use Rattle.outside.specs.Counts.{Rose}
use Rattle.outside.specs.Names.{Written, fresh}
use Rattle.outside.specs.Told.{GivesBytes}
use Rattle.query_plan.specs.Sizes.{joins, page_len}
use Rattle.query_plan.specs.declared.plan.Query.{Query}
use Rattle.query_plan.specs.declared.plan.Side.{Side}
use Rattle.query_plan.specs.declared.plan.Side.TheVariants.{Left, Right}
use Rattle.query_plan.specs.declared.plan.SidePlan.{SidePlan}
use Rattle.query_run.specs.Answer.{WroteAnswer, WroteFront}
use Rattle.query_run.specs.Both.{HoldsInput, Told, both_told, faults_in, told_in}
use Rattle.query_run.specs.Causes.{OfPool, side_of}
use Rattle.query_run.specs.Input.{IsAccepted, IsRefusal, IsRefusalIn}
use Rattle.query_plan.specs.declared.outcome.QueryErr.{QueryErr}
use Rattle.spill_top.specs.declared.ending.Ending.{Ending}
use Rattle.spill_top.specs.declared.ending.Ending.TheVariants.{Lines, Stopped}
use Rattle.spill_top.specs.Pooled.{HaveFailed, IsSharedStop, all_tell}
use Rattle.spill_top.specs.Running.{HasLines, IsRefusedOn, Seen, SomeSpends, told_over}
use Rattle.spill_top.specs.declared.job.Job.{Job}
use Rattle.spill_top.specs.Jobs.{HasFailedOn, HasSides, InputStands, IsWork, LeavesPart, Opened, SinkHolds, faults_of, work_of}
use Rattle.spill_top.specs.Sides.{RoseOn, at_right, bytes_on, faults_on, if_told, on_sides, told_of}
use Rattle.spill_top.proofs.Causes.{told_some}
use Rattle.spill_top.proofs.Sides.{counted, ended_stand, shown, shown_some}
use Rattle.spill_top.proofs.Stopped.{StopsBeside}
use Rattle.spill_top.proofs.Works.{pool_later}

-- ---- what sources give, where their files are told and all slots tell what they hold

-- what both give is what stands under their names, where both are told
abbrev pub GivesTold : Option Told → Option Told → Type 0
GivesTold None given = ⊤
GivesTold (Some told) given = given ≡ Some told

pub gives_both : (left right given_left given_right : Option (List ℕ)) → GivesBytes left given_left → GivesBytes right given_right → GivesTold (both_told left right) (both_told given_left given_right)
gives_both None right given_left given_right lefts rights = tt
gives_both (Some left) None given_left given_right lefts rights = tt
gives_both (Some left) (Some right) given_left given_right lefts rights = rw (lefts, rights) refl

-- and where slots tell, as far as these do
gives-over : (tell tell_now : Bool) (told given : Option Told) → (tell ≡ true → tell_now ≡ true) → GivesTold told given → GivesTold (if_told tell told) (if_told tell_now given)
gives-over true true told given tells gives = gives
gives-over true false told given tells gives = absurd (false≢true (tells refl))
gives-over false tell_now told given tells gives = tt

told-answer : (plan : Query) (page : ℕ) (told given : Option Told) (before now : Option (List ℕ)) → GivesTold told given → WroteAnswer plan page given before now → WroteAnswer plan page told before now
told-answer plan page None given before now gives is = tt
told-answer plan page (Some told) given before now gives is = subst (λ (o : Option Told). WroteAnswer plan page o before now) gives is

told-front : (plan : Query) (page : ℕ) (told given : Option Told) (before now : Option (List ℕ)) → GivesTold told given → WroteFront plan page given before now → WroteFront plan page told before now
told-front plan page None given before now gives is = tt
told-front plan page (Some told) given before now gives is = subst (λ (o : Option Told). WroteFront plan page o before now) gives is

told-lines : (plan : Query) (page lines : ℕ) (told given : Option Told) → GivesTold told given → IfSome given (HasLines plan page lines) → IfSome told (HasLines plan page lines)
told-lines plan page lines None given gives is = tt
told-lines plan page lines (Some told) given gives is = subst (λ (o : Option Told). IfSome o (HasLines plan page lines)) gives is

pub told_so : (told given : Option Told) → GivesTold told given → (A : Told → Type 0) → IfSome given A → IfSome told A
told_so None given gives A is = tt
told_so (Some told) given gives A is = subst (λ (o : Option Told). IfSome o A) gives is

told-right : (plan : Query) (page : ℕ) (why : QueryErr) (asked : Option SidePlan) (told given : Option (List ℕ)) → GivesBytes told given
    → IsSomeAnd asked (λ side. IfSome given (λ bytes. IsRefusalIn plan Right side page bytes why)) → IsSomeAnd asked (λ side. IfSome told (λ bytes. IsRefusalIn plan Right side page bytes why))
told-right plan page why None told given gives is = is
told-right plan page why (Some side) told given gives is = told_some (λ bytes. IsRefusalIn plan Right side page bytes why) told given gives is

told-refused : (plan : Query) (page : ℕ) (why : QueryErr) (bytes given : Side → Option (List ℕ)) (side : Option Side) → ((s : Side) → GivesBytes (bytes s) (given s))
    → IsSomeAnd side (IsRefusedOn plan page given why) → IsSomeAnd side (IsRefusedOn plan page bytes why)
told-refused plan page why bytes given None gives is = is
told-refused plan page why bytes given (Some Left) gives is = told_some (λ left. IsRefusal plan page left why) (bytes Left) (given Left) (gives Left) is
told-refused plan page why bytes given (Some Right) gives is =
    (told_some (IsAccepted plan page) (bytes Left) (given Left) (gives Left) is.0, told-right plan page why plan.right (bytes Right) (given Right) (gives Right) is.1)

-- ---- what the sink holds then

sink-answer : (plan : Query) (page lines : ℕ) (told : Option Told) (before written : Option Written) (contents now : Option (List ℕ)) → WroteAnswer plan page told contents now
    → IfSome before (λ _. (written ≡ Some fresh) × SinkHolds plan page told contents None) → IfSome before (λ _. (written ≡ Some fresh) × SinkHolds plan page told now (Some (Lines lines)))
sink-answer plan page lines told None written contents now wrote is = tt
sink-answer plan page lines told (Some before) written contents now wrote is =
    (is.0, subst (λ (o : Option (List ℕ)). WroteAnswer plan page told o now) is.1 wrote)

part-told : (plan : Query) (page : ℕ) (told given : Option Told) (before now : Option (List ℕ)) (side : Option Side) → GivesTold told given → before ≡ Some [] → LeavesPart plan page given before now side
    → LeavesPart plan page told (Some []) now side
part-told plan page told given before now (Some side) gives empty is = is ∙ empty
part-told plan page told given before now None gives empty (inl same) = inl (same ∙ empty)
part-told plan page told given before now None gives empty (inr front) =
    inr (subst (λ (o : Option (List ℕ)). WroteFront plan page told o now) empty (told-front plan page told given before now gives front))

sink-part : (plan : Query) (page : ℕ) (told given : Option Told) (before written : Option Written) (contents now : Option (List ℕ)) (why : QueryErr) → GivesTold told given
    → LeavesPart plan page given contents now (side_of why)
    → IfSome before (λ _. (written ≡ Some fresh) × SinkHolds plan page told contents None) → IfSome before (λ _. (written ≡ Some fresh) × SinkHolds plan page told now (Some (Stopped why)))
sink-part plan page told given None written contents now why gives left is = tt
sink-part plan page told given (Some before) written contents now why gives left is = (is.0, part-told plan page told given contents now (side_of why) gives is.1 left)

-- ---- faults that rose are there to be counted

rose-some : (now : ℕ) → Rose 0 now → 0 < now
rose-some zero rose = rose (omega arith)
rose-some (suc now) rose = omega arith

has-some : (was now : ℕ) → was ≡ 0 → Rose was now → 0 < now
has-some was now none rose = rose-some now (subst (λ (n : ℕ). Rose n now) none rose)

failed-on : (before now : Side → ℕ) (faults faults_now rights rights_now : ℕ) (left : Opened) (right : Option Opened) → faults ≡ 0 → rights ≡ 0 → left.faults ≡ faults_now → faults_of right ≡ rights_now
    → (side : Side) → RoseOn (on_sides faults rights) (on_sides faults_now rights_now) side → HasFailedOn before now (on_sides (Some left) right) side
failed-on before now faults faults_now rights rights_now left right none none_right left_is right_is Left rose = inr (subst (λ (n : ℕ). 0 < n) (sym left_is) (has-some faults faults_now none rose))
failed-on before now faults faults_now rights rights_now left right none none_right left_is right_is Right rose = inr (subst (λ (n : ℕ). 0 < n) (sym right_is) (has-some rights rights_now none_right rose))

gives-on : (query : Query) (files : List ℕ → Option (List ℕ)) (left right : Option (List ℕ)) → GivesBytes (bytes_on query files Left) left → GivesBytes (bytes_on query files Right) right
    → (side : Side) → GivesBytes (bytes_on query files side) (on_sides left right side)
gives-on query files left right lefts rights Left = lefts
gives-on query files left right lefts rights Right = rights

-- ---- the query is answered over a store that tells what it holds, or not: its right source, if there is one, gives these bytes, and then has these faults

module _ (start at : Seen) (block_len : ℕ) (all : List Query) (query : Query) (refused : Option Ending) (left left_now sink sink_now : Opened) (right right_now : Option Opened)
    (bytes : Option (List ℕ)) (gives : GivesBytes (bytes_on query start.files Right) bytes) (kept : is_some right_now ≡ is_some right) where
  -- what the query is given, where that is told
  abbrev given : Bool → Option Told
  given tell = if_told tell (both_told left.told bytes)

  gives-given : (tell : Bool) → (all_tell start.slots ≡ true → tell ≡ true) → IsWork start at block_len all query (record { refused = refused; left = Some left; right = right; output = Some sink; ended = None })
      → GivesTold (told_over query start) (given tell)
  gives-given tell tells is =
      gives-over (all_tell start.slots) tell (told_of query start.files) (both_told left.told bytes) tells
      (gives_both (bytes_on query start.files Left) (bytes_on query start.files Right) left.told bytes ((is.inputs Left).0) gives)

  answered-so : (tell : Bool) (lines : ℕ) → (all_tell start.slots ≡ true → tell ≡ true) → WroteAnswer query (page_len query block_len) (given tell) sink.told sink_now.told
      → IfSome (given tell) (HasLines query (page_len query block_len) lines)
      → IsWork start at block_len all query (record { refused = refused; left = Some left; right = right; output = Some sink; ended = None })
      → IsWork start at block_len all query (record { refused = refused; left = Some left_now; right = right_now; output = Some sink_now; ended = Some (Lines lines) })
  answered-so tell lines tells wrote many is = record {
    went = is.went;
    ending = (is.ending, told-lines query (page_len query block_len) lines (told_over query start) (given tell) (gives-given tell tells is) many);
    inputs = ended_stand (bytes_on query start.files) (Some left_now) right_now (Lines lines);
    sides = record { only = λ some. is.sides.only (sym kept ∙ some); both = λ on some. absurd cc };
    output = (
      is.output.0,
      sink-answer query (page_len query block_len) lines (told_over query start) (start.written query.output) (at.written query.output) sink.told sink_now.told
          (told-answer query (page_len query block_len) (told_over query start) (given tell) sink.told sink_now.told (gives-given tell tells is) wrote) is.output.1,
    );
    fresh_sink = λ never. absurd cc;
  }

  stopped-so : (tell : Bool) (faults faults_now : ℕ) (why : QueryErr) → (all_tell start.slots ≡ true → tell ≡ true) → faults ≡ 0 → faults_of right_now ≡ faults_now
      → StopsBeside query (page_len query block_len) (on_sides left.told bytes) (RoseOn (on_sides left.faults faults) (on_sides left_now.faults faults_now)) (Rose sink.faults sink_now.faults) why
      → OfPool (IsSharedStop query (page_len query block_len) (given (all_tell start.slots)) query.quota (HaveFailed start.slots at.slots) (SomeSpends all start)) why
      → LeavesPart query (page_len query block_len) (given tell) sink.told sink_now.told (side_of why)
      → IsWork start at block_len all query (record { refused = refused; left = Some left; right = right; output = Some sink; ended = None })
      → IsWork start at block_len all query (record { refused = refused; left = Some left_now; right = right_now; output = Some sink_now; ended = Some (Stopped why) })
  stopped-so tell faults faults_now why tells none counted stopped stop part is = record {
    went = is.went;
    ending = (
      is.ending,
      record {
        refused = λ of. told-refused query (page_len query block_len) why (bytes_on query start.files) (on_sides left.told bytes) (side_of why)
            (gives-on query start.files left.told bytes ((is.inputs Left).0) gives) (stopped.refused of);
        source_fault = λ side fault. failed-on (faults_on query start.reads) (faults_on query at.reads) left.faults left_now.faults faults faults_now left_now right_now
            ((is.inputs Left).1) none refl counted side (stopped.source_fault side fault);
        sink_fault = λ fault. inr (has-some sink.faults sink_now.faults (is.fresh_sink refl) (stopped.sink_fault fault));
        pool = pool_later query (page_len query block_len) (given (all_tell start.slots)) (told_over query start) (HaveFailed start.slots at.slots) (HaveFailed start.slots at.slots) (SomeSpends all start) why
            (told_so (told_over query start) (given (all_tell start.slots)) (gives-given (all_tell start.slots) (λ told. told) is)) (λ failed. failed) stop;
      },
    );
    inputs = ended_stand (bytes_on query start.files) (Some left_now) right_now (Stopped why);
    sides = record { only = λ some. is.sides.only (sym kept ∙ some); both = λ on some. absurd cc };
    output = (
      is.output.0,
      sink-part query (page_len query block_len) (told_over query start) (given tell) (start.written query.output) (at.written query.output) sink.told sink_now.told why (gives-given tell tells is) part is.output.1,
    );
    fresh_sink = λ never. absurd cc;
  }

-- ---- the same of what a job holds

module _ {S : Type 0} (remaining : S → Option (List ℕ)) (reads : S → ℕ) where
  -- where it joins its right source gives the bytes of its file, and where it doesn't none
  pub right_gives : (asked : Option SidePlan) (files : List ℕ → Option (List ℕ)) (right : Option S) → is_some (shown remaining reads right) ≡ is_some asked → InputStands (at_right (Some []) asked files) (shown remaining reads right) None
      → GivesBytes (at_right (Some []) asked files) (told_in remaining right)
  right_gives None files None both stands = refl
  right_gives None files (Some s) both stands = absurd (false≢true (sym both))
  right_gives (Some side) files None both stands = absurd (false≢true both)
  right_gives (Some side) files (Some s) both stands = stands.0

  faultless : (told : Option (List ℕ)) (right : Option S) → InputStands told (shown remaining reads right) None → faults_in reads right ≡ 0
  faultless told None stands = refl
  faultless told (Some s) stands = stands.1

  held : (right right_now : Option S) → HoldsInput reads right right_now → is_some (shown remaining reads right_now) ≡ is_some (shown remaining reads right)
  held None right_now holds = rw holds refl
  held (Some s) None holds = absurd holds
  held (Some s) (Some later) holds = refl

  module _ (start at : Seen) (block_len : ℕ) (all : List Query) (query : Query) (refused : Option Ending) (left left_now sink sink_now : Opened) (right right_now : Option S)
      (holds : HoldsInput reads right right_now) where
    pub job_answered : (tell : Bool) (lines : ℕ) → (all_tell start.slots ≡ true → tell ≡ true)
        → WroteAnswer query (page_len query block_len) (if_told tell (both_told left.told (told_in remaining right))) sink.told sink_now.told
        → IfSome (if_told tell (both_told left.told (told_in remaining right))) (HasLines query (page_len query block_len) lines)
        → IsWork start at block_len all query (record { refused = refused; left = Some left; right = shown remaining reads right; output = Some sink; ended = None })
        → IsWork start at block_len all query (record { refused = refused; left = Some left_now; right = shown remaining reads right_now; output = Some sink_now; ended = Some (Lines lines) })
    job_answered tell lines tells wrote many is =
        answered-so start at block_len all query refused left left_now sink sink_now (shown remaining reads right) (shown remaining reads right_now) (told_in remaining right)
        (right_gives query.right start.files right (is.sides.both refl refl) (is.inputs Right)) (held right right_now holds) tell lines tells wrote many is

    pub job_stopped : (tell : Bool) (why : QueryErr) → (all_tell start.slots ≡ true → tell ≡ true)
        → StopsBeside query (page_len query block_len) (on_sides left.told (told_in remaining right)) (RoseOn (on_sides left.faults (faults_in reads right)) (on_sides left_now.faults (faults_in reads right_now))) (Rose sink.faults sink_now.faults) why
        → OfPool (IsSharedStop query (page_len query block_len) (if_told (all_tell start.slots) (both_told left.told (told_in remaining right))) query.quota (HaveFailed start.slots at.slots) (SomeSpends all start)) why
        → LeavesPart query (page_len query block_len) (if_told tell (both_told left.told (told_in remaining right))) sink.told sink_now.told (side_of why)
        → IsWork start at block_len all query (record { refused = refused; left = Some left; right = shown remaining reads right; output = Some sink; ended = None })
        → IsWork start at block_len all query (record { refused = refused; left = Some left_now; right = shown remaining reads right_now; output = Some sink_now; ended = Some (Stopped why) })
    job_stopped tell why tells stopped stop part is =
        stopped-so start at block_len all query refused left left_now sink sink_now (shown remaining reads right) (shown remaining reads right_now) (told_in remaining right)
        (right_gives query.right start.files right (is.sides.both refl refl) (is.inputs Right)) (held right right_now holds) tell (faults_in reads right) (faults_in reads right_now) why tells
        (faultless (bytes_on query start.files Right) right (is.inputs Right)) (counted remaining reads right_now) stopped stop part is

  pub sides_there : {K St : Type 0} (contents : K → Option (List ℕ)) (writes : K → ℕ) (query : Query) (job : Job S K St) (left : S) → HasSides query (work_of remaining reads contents writes job) → job.ended ≡ None
      → job.left ≡ Some left → is_some job.right ≡ joins query
  sides_there contents writes query job left sides on is = let some : IsSome (shown remaining reads job.left) = rw is refl in shown_some remaining reads job.right ∙ sides.both on some
