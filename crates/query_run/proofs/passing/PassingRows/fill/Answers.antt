use Rattle.std.proofs.Common.{◌≡◌, ◌∙◌, ◌+◌, ◌*◌, ◌<◌, ◌++◌, ◌∷◌, [], ap, append-nil, append_assoc, arith, length, refl, rules, slice_set, subst, sym}
use Rattle.std.proofs.lemmas.List.{length-set}
use Rattle.std.proofs.lemmas.List.Elements.{All-push}
use Rattle.query_run.specs.Batches.{first_rows}
use Rattle.query_run.specs.Feeding.{MayBeTaken}
use Rattle.query_run.specs.Passing.{HasGiven, HasGone, HasStepped, StopsReading}
use Rattle.query_run.specs.declared.passing.Found.{Found}
use Rattle.query_run.specs.declared.passing.Found.TheVariants.{Fails, Passes}
use Rattle.query_run.specs.Plans.{kinds_of_columns}
use Rattle.query_run.proofs.Batched.{first_set, first_untouched}
use Rattle.query_run.proofs.passing.PassingRows.fill.Goals as goal

pub returns-in_err-step-clause-gone : goal.returns-in_err-step-clause-gone
returns-in_err-step-clause-gone g c = λ from gone. c.step.ensures.gone from (c.loop-len.invariant.5 from gone)

pub returns-in_err-step-clause-cause : goal.returns-in_err-step-clause-cause
returns-in_err-step-clause-cause g c =
    let stops : HasGone g.S.Source g.B.Reads.input c.args.self.now c.args.self.now → StopsReading g.S.Source g.B.Reads.input c.step.new.self c.in_err-step.field-0.0 =
    λ gone. let here = c.loop-len.invariant.5 c.args.self.now gone in c.in_err-step.ensures.cause (record { given = here.given; faults = here.faults; same = refl }) in
    search (rules, stops)

pub returns-in-End-clause-gone : goal.returns-in-End-clause-gone
returns-in-End-clause-gone g c = λ from gone. c.step.ensures.gone from (c.loop-len.invariant.5 from gone)

pub loop-len-preserved-in-Passes : goal.loop-len-preserved-in-Passes
loop-len-preserved-in-Passes g c =
    let inv = c.loop-len.invariant in
    let len = c.loop-len.len in
    let row = c.step.new.row in
    let behind : len < length c.one_behind.new.rows.items = search rules in
    let same : first_rows len c.one_behind.new.rows.items ≡ first_rows len c.loop-len.rows.items = c.one_behind.ensures.same in
    let more : first_rows (len + 1) (slice_set c.one_behind.new.rows.items len row) ≡ first_rows len c.loop-len.rows.items ++ row.items ∷ [] = first_set len c.one_behind.new.rows.items row behind ∙ ap (λ l. l ++ row.items ∷ []) same in
    let stepped : HasStepped g.S.Source g.B.Reads.input c.loop-len.self c.step.new.self Passes row.items = subst (λ (f : Found). HasStepped g.S.Source g.B.Reads.input c.loop-len.self c.step.new.self f row.items) c.in-Passes.is c.in_ok-step.ensures.step in
    let takes : MayBeTaken (kinds_of_columns g.B.Reads.input.plan.left.columns) (16 * length g.B.Reads.input.plan.aggs) g.B.Reads.input.page row.items = c.in_ok-step.ensures.fed c.in-Passes.is in (
      rw (length-set c.one_behind.new.rows.items len row) (omega (arith, behind)),
      λ passing given. rw (more, sym (append_assoc passing (first_rows len c.loop-len.rows.items) (row.items ∷ []))) (stepped.given (passing ++ first_rows len c.loop-len.rows.items) (inv.1 passing given)),
      rw more (All-push (MayBeTaken (kinds_of_columns g.B.Reads.input.plan.left.columns) (16 * length g.B.Reads.input.plan.aggs) g.B.Reads.input.page) (first_rows len c.loop-len.rows.items) row.items inv.2 takes),
      c.step.ensures.ready,
      stepped.goes_on (λ same. absurd (cc)),
      λ from gone. c.step.ensures.gone from (inv.5 from gone),
    )

pub loop-len-preserved : goal.loop-len-preserved
loop-len-preserved g c =
    let inv = c.loop-len.invariant in
    let len = c.loop-len.len in
    let row = c.step.new.row in
    let behind : len < length c.one_behind.new.rows.items = search rules in
    let same : first_rows len c.one_behind.new.rows.items ≡ first_rows len c.loop-len.rows.items = c.one_behind.ensures.same in
    let still : first_rows len (slice_set c.one_behind.new.rows.items len row) ≡ first_rows len c.loop-len.rows.items = first_untouched len c.one_behind.new.rows.items row behind ∙ same in
    let stepped : HasStepped g.S.Source g.B.Reads.input c.loop-len.self c.step.new.self Fails row.items = subst (λ (f : Found). HasStepped g.S.Source g.B.Reads.input c.loop-len.self c.step.new.self f row.items) c.in-Fails.is c.in_ok-step.ensures.step in (
      rw (length-set c.one_behind.new.rows.items len row) (omega (arith, behind)),
      λ passing given. rw still (subst (HasGiven g.S.Source g.B.Reads.input c.step.new.self) (append-nil (passing ++ first_rows len c.loop-len.rows.items)) (stepped.given (passing ++ first_rows len c.loop-len.rows.items) (inv.1 passing given))),
      rw still inv.2,
      c.step.ensures.ready,
      stepped.goes_on (λ same. absurd (cc)),
      λ from gone. c.step.ensures.gone from (inv.5 from gone),
    )
