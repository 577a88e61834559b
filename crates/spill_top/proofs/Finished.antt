-- What stands of a query once its output was given back.
use Rattle.std.proofs.Common.{◌≡◌, ◌∙◌, ◌++◌, inl, inr, ℕ, Bool, true, false, List, [], Option, Some, None, IfSome, Result, Ok, Err, drop, refl, sym, subst, ap}
use Rattle.std.specs.Io.KnownBytes.{Appends}
use Rattle.std.proofs.lemmas.List.{append-nil, take-append-drop}
use Rattle.outside.specs.Counts.{Rose}
use Rattle.outside.specs.Names.{TakesBytes, TakesFaults, Written, fresh}
use Rattle.query_plan.specs.Sizes.{page_len}
use Rattle.query_plan.specs.declared.plan.Query.{Query}
use Rattle.query_plan.specs.declared.plan.Side.{Side}
use Rattle.query_run.specs.Answer.{IsAnswer, WroteFront}
use Rattle.query_run.specs.Both.{Told}
use Rattle.query_run.specs.Causes.{side_of}
use Rattle.query_plan.specs.declared.outcome.QueryErr.TheVariants.{SinkFault}
use Rattle.spill_top.specs.declared.ending.Ending.{Ending}
use Rattle.spill_top.specs.declared.ending.Ending.TheVariants.{Lines, Reservation, Stopped}
use Rattle.spill_top.specs.Endings.{is_answer}
use Rattle.spill_top.specs.Pooled.{HaveFailed}
use Rattle.spill_top.specs.Running.{HasOutput, Holds, HoldsPart, IsPart, Seen, Went, told_over}
use Rattle.spill_top.specs.Jobs.{HasFailed, HasFailedOn, IsWork, LeavesPart, Opened, SinkHolds, met_so_far}
use Rattle.spill_top.specs.Sides.{bytes_on, faults_on, on_sides}
use Rattle.spill_top.proofs.Sides.{ended_stand, faults_kept}
use Rattle.spill_top.proofs.Works.{failed_later, rose_since, slots_later, so_far_later, went_on, taken}

-- the sink's bytes, once they stand under the name
given : {E : Type 0} (text : List ℕ) (now : Option Written) (contents : Option (List ℕ)) (whole : Bool) (result : Result Unit E)
    → contents ≡ Some text → TakesBytes (Some fresh) now contents whole result → TakesBytes (Some fresh) now (Some text) whole result
given text now contents whole result is takes = subst (λ (o : Option (List ℕ)). TakesBytes (Some fresh) now o whole result) is takes

whole-answer : (E : Type 0) (plan : Query) (page : ℕ) (told : Told) (text : List ℕ) (now : Option Written) (contents : Option (List ℕ)) → IsAnswer plan page told text → Appends (Some []) contents text
    → TakesBytes {E = E} (Some fresh) now contents true (Ok tt) → Holds now true (IsAnswer plan page told)
whole-answer E plan page told text now None answer written takes = absurd written
whole-answer E plan page told text now (Some ys) answer written takes = (ys, takes, subst (λ (t : List ℕ). IsAnswer plan page told t) (sym written) answer)

part-answer : {E : Type 0} (plan : Query) (page : ℕ) (told : Told) (text : List ℕ) (now : Option Written) (contents : Option (List ℕ)) (e : E) → IsAnswer plan page told text → Appends (Some []) contents text
    → TakesBytes (Some fresh) now contents true (Err e) → Holds now false (IsPart plan page told)
part-answer plan page told text now None e answer written takes = absurd written
part-answer plan page told text now (Some ys) e answer written takes = (ys, takes, inr (text, [], answer, append-nil ys ∙ written))

pub finished_answer : (E : Type 0) (plan : Query) (page lines : ℕ) (told : Option Told) (before old now : Option Written) (contents : Option (List ℕ))
    → IfSome before (λ _. (old ≡ Some fresh) × SinkHolds plan page told contents (Some (Lines lines)))
    → TakesBytes {E = E} old now contents true (Ok tt) → HasOutput plan page told before now (Lines lines)
finished_answer E plan page lines told None old now contents is takes = tt
finished_answer E plan page lines None (Some before) old now contents is takes = tt
finished_answer E plan page lines (Some told) (Some before) old now contents is takes =
    whole-answer E plan page told is.1.0 now contents is.1.1 is.1.2 (subst (λ (o : Option Written). TakesBytes {E = E} o now contents true (Ok tt)) is.0 takes)

pub finished_failed : {E : Type 0} (plan : Query) (page lines : ℕ) (told : Option Told) (before old now : Option Written) (contents : Option (List ℕ)) (e : E)
    → IfSome before (λ _. (old ≡ Some fresh) × SinkHolds plan page told contents (Some (Lines lines)))
    → TakesBytes old now contents true (Err e) → HasOutput plan page told before now (Stopped SinkFault)
finished_failed plan page lines told None old now contents e is takes = tt
finished_failed plan page lines None (Some before) old now contents e is takes = tt
finished_failed plan page lines (Some told) (Some before) old now contents e is takes =
    part-answer plan page told is.1.0 now contents e is.1.1 is.1.2 (subst (λ (o : Option Written). TakesBytes o now contents true (Err e)) is.0 takes)

empty-text : {E : Type 0} (now : Option Written) (contents : Option (List ℕ)) (result : Result Unit E) → contents ≡ Some []
    → TakesBytes (Some fresh) now contents false result → now ≡ Some (record { bytes = []; whole = false })
empty-text now contents result empty takes = given [] now contents false result empty takes

front-text : {E : Type 0} (plan : Query) (page : ℕ) (told : Told) (now : Option Written) (contents : Option (List ℕ)) (result : Result Unit E) → WroteFront plan page (Some told) (Some []) contents
    → TakesBytes (Some fresh) now contents false result → Holds now false (IsPart plan page told)
front-text plan page told now None result front takes = absurd front.2.2
front-text plan page told now (Some ys) result front takes =
    (ys, takes, inr (front.0, drop front.2.0 front.0, front.1, ap (λ (t : List ℕ). t ++ drop front.2.0 front.0) front.2.2 ∙ take-append-drop front.2.0 front.0))

held-part : {E : Type 0} (plan : Query) (page : ℕ) (told : Option Told) (now : Option Written) (contents : Option (List ℕ)) (side : Option Side) (result : Result Unit E) → LeavesPart plan page told (Some []) contents side
    → TakesBytes (Some fresh) now contents false result → HoldsPart plan page told now side
held-part plan page told now contents (Some side) result left takes = ([], empty-text now contents result left takes, refl)
held-part plan page None now contents None result left takes = tt
held-part plan page (Some told) now contents None result (inl empty) takes = ([], empty-text now contents result empty takes, inl refl)
held-part plan page (Some told) now contents None result (inr front) takes = front-text plan page told now contents result front takes

pub finished_stopped : {E : Type 0} (plan : Query) (page : ℕ) (told : Option Told) (before old now : Option Written) (contents : Option (List ℕ)) (ending : Ending) (result : Result Unit E) → is_answer ending ≡ false
    → IfSome before (λ _. (old ≡ Some fresh) × SinkHolds plan page told contents (Some ending))
    → TakesBytes old now contents false result → HasOutput plan page told before now ending
finished_stopped plan page told None old now contents ending result short is takes = tt
finished_stopped plan page told (Some before) old now contents (Lines lines) result short is takes = cc
finished_stopped plan page told (Some before) old now contents (Reservation root wanted room) result short is takes = absurd is.1
finished_stopped {E} plan page told (Some before) old now contents (Stopped why) result short is takes =
    held-part plan page told now contents (side_of why) result is.1 (subst (λ (o : Option Written). TakesBytes o now contents false result) is.0 takes)

-- an output was given back, and the ending stays
pub finished_so : (start old now : Seen) (block_len : ℕ) (all : List Query) (query : Query) (refused : Option Ending) (left right : Option Opened) (sink : Opened) (ending : Ending) → Went old now
    → TakesFaults sink.faults (old.writes query.output) (now.writes query.output)
    → HasOutput query (page_len query block_len) (told_over query start) (start.written query.output) (now.written query.output) ending
    → IsWork start old block_len all query (record { refused = refused; left = left; right = right; output = Some sink; ended = Some ending })
    → IsWork start now block_len all query (record { refused = refused; left = left; right = right; output = None; ended = Some ending })
finished_so start old now block_len all query refused left right sink ending went takes has is = record {
  went = went_on start old now is.went went;
  ending = so_far_later query (met_so_far start old block_len all query (record { refused = refused; left = left; right = right; output = Some sink; ended = Some ending }))
      (HasFailedOn (faults_on query start.reads) (faults_on query now.reads) (on_sides left right)) (HasFailed (start.writes query.output) (now.writes query.output) None) (HaveFailed start.slots now.slots)
      (λ side. failed_later (faults_on query start.reads side) (faults_on query old.reads side) (faults_on query now.reads side) (on_sides left right side) (faults_kept query old.reads now.reads went.reads side))
      (taken (start.writes query.output) (old.writes query.output) (now.writes query.output) (Some sink) (is.went.writes query.output) (went.writes query.output) takes)
      (slots_later start.slots old.slots now.slots went.slots) (Some ending) is.ending;
  inputs = is.inputs;
  sides = record { only = is.sides.only; both = λ on some. absurd cc };
  output = inr has;
  fresh_sink = tt;
}

-- the end of an output failed, whose query had an answer
pub not_finished : (start old now : Seen) (block_len lines : ℕ) (all : List Query) (query : Query) (refused : Option Ending) (left right : Option Opened) (sink : Opened) → Went old now
    → Rose (old.writes query.output) (now.writes query.output)
    → HasOutput query (page_len query block_len) (told_over query start) (start.written query.output) (now.written query.output) (Stopped SinkFault)
    → IsWork start old block_len all query (record { refused = refused; left = left; right = right; output = Some sink; ended = Some (Lines lines) })
    → IsWork start now block_len all query (record { refused = refused; left = left; right = right; output = None; ended = Some (Stopped SinkFault) })
not_finished start old now block_len lines all query refused left right sink went rose has is = record {
  went = went_on start old now is.went went;
  ending = (
    is.ending.0,
    record {
      refused = λ never. absurd never;
      source_fault = λ side fault. absurd cc;
      sink_fault = λ _. inl (rose_since (start.writes query.output) (old.writes query.output) (now.writes query.output) (is.went.writes query.output) rose);
      pool = tt;
    },
  );
  inputs = ended_stand (bytes_on query start.files) left right (Stopped SinkFault);
  sides = record { only = is.sides.only; both = λ on some. absurd cc };
  output = inr has;
  fresh_sink = tt;
}
