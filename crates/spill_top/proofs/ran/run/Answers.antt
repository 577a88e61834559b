use Rattle.std.proofs.Common.{◌≡◌, ◌≢◌, inl, inr, ℕ, List, Ok, Err, length, refl, subst, vec_len, ap, rules, arith}
use Rattle.pin_core.specs.Tallies.{tally_of}
use Rattle.pin_core.proofs.Tallied.{uncounted_yet}
use Rattle.query_plan.specs.PlanOf.{plan_of}
use Rattle.query_plan.specs.Rules.{KeepsRules}
use Rattle.query_plan.specs.declared.error.PlanErr.TheVariants.{Memory}
use Rattle.query_plan.specs.declared.plan.Query.{Query}
use Rattle.outside.specs.Faults.{faults_of}
use Rattle.spill_top.specs.declared.ending.Ending.{Ending}
use Rattle.spill_top.specs.Ran.{Reported, telling}
use Rattle.spill_top.specs.Running.{Went, seen}
use Rattle.spill_top.proofs.Apart.{apart_in_plan}
use Rattle.spill_top.proofs.Plans.{plan_same}
use Rattle.spill_top.proofs.ran.run.Goals as goal

pub returns-in-Err : goal.returns-in-Err
returns-in-Err g c =
    let text : c.as_slice.result.now ≡ c.in-Ok.text.items = search rules in
    let other : c.in-Err.error ≢ Memory = search rules in
    let many : c.len.result ≡ vec_len c.args.slots.now = search rules in
    let is : plan_of c.in-Ok.text.items (vec_len c.args.slots.now) ≡ Err c.in-Err.error = subst (λ (bytes : List ℕ). plan_of bytes (vec_len c.args.slots.now) ≡ Err c.in-Err.error) text (subst (λ (n : ℕ). plan_of c.as_slice.result.now n ≡ Err c.in-Err.error) many (c.in-Err.ensures.cause other)) in
    record {
      ran = inr (
        (λ name. refl),
        inr (inl (record {
          status_is = c.refuse_as-in-Err.ensures.status;
          why = c.in-Err.error;
          refused = plan_same (g.I.Inputs.bytes_at c.args.inputs.now c.args.file.now) c.in-Ok.text.items (vec_len c.args.slots.now) (Err c.in-Err.error) c.in-Ok.ensures.text is;
          tells = c.refuse_as-in-Err.ensures.tells;
        })),
      );
      went = record { files = c.read_file.ensures.inputs; reads = c.read_file.ensures.never_falls; created = λ name is. is; writes = λ name. omega arith; slots = uncounted_yet (tally_of g.D.Slot c.args.slots.now.items) };
      report = c.refuse_as-in-Err.ensures.never_falls;
    }

pub run_queries-requires-clause-apart : goal.run_queries-requires-clause-apart
run_queries-requires-clause-apart g c κs within = apart_in_plan c.as_slice.result.now c.len.result c.in-Ok-read_plan.plan c.in-Ok-read_plan.ensures.plan

pub run_queries-requires-clause-rules : goal.run_queries-requires-clause-rules
run_queries-requires-clause-rules g c κs within =
    let many : c.len.result ≡ vec_len c.args.slots.now = search rules in
    subst (λ (n : ℕ). KeepsRules n c.in-Ok-read_plan.plan) many c.in-Ok-read_plan.ensures.rules

pub returns-in-Ok-run_queries-clause-ran : goal.returns-in-Ok-run_queries-clause-ran
returns-in-Ok-run_queries-clause-ran g c =
    let text : c.as_slice.result.now ≡ c.in-Ok.text.items = search rules in
    let count : c.len.result ≡ vec_len c.args.slots.now = search rules in
    let is : plan_of c.in-Ok.text.items (vec_len c.args.slots.now) ≡ Ok c.in-Ok-read_plan.plan = subst (λ (bytes : List ℕ). plan_of bytes (vec_len c.args.slots.now) ≡ Ok c.in-Ok-read_plan.plan) text (subst (λ (n : ℕ). plan_of c.as_slice.result.now n ≡ Ok c.in-Ok-read_plan.plan) count c.in-Ok-read_plan.ensures.plan) in
    let queries_are : c.as_slice-in-Ok-run_queries.result.now ≡ c.in-Ok-read_plan.plan.queries = search rules in
    let ends_are : c.as_slice-in-Ok-run_queries-2.result.now ≡ c.in-Ok-run_queries.ends.items = search rules in
    let many : length c.in-Ok-run_queries.ends.items ≡ length c.in-Ok-read_plan.plan.queries = search rules in
    let went : Went (seen (g.I.Inputs.bytes_at c.args.inputs.now) (g.I.Inputs.faults_at c.args.inputs.now) (g.O.Outputs.written c.args.outputs.now) (g.O.Outputs.is_created c.args.outputs.now) (g.O.Outputs.faults_at c.args.outputs.now) (tally_of g.D.Slot c.args.slots.now.items)) (seen (g.I.Inputs.bytes_at c.read_file.new.inputs) (g.I.Inputs.faults_at c.read_file.new.inputs) (g.O.Outputs.written c.args.outputs.now) (g.O.Outputs.is_created c.args.outputs.now) (g.O.Outputs.faults_at c.args.outputs.now) (tally_of g.D.Slot c.args.slots.now.items)) = record { files = c.read_file.ensures.inputs; reads = c.read_file.ensures.never_falls; created = λ name is. is; writes = λ name. omega arith; slots = uncounted_yet (tally_of g.D.Slot c.args.slots.now.items) } in
    inl (record {
      plan = c.in-Ok-read_plan.plan;
      is_plan = plan_same (g.I.Inputs.bytes_at c.args.inputs.now c.args.file.now) c.in-Ok.text.items (vec_len c.args.slots.now) (Ok c.in-Ok-read_plan.plan) c.in-Ok.ensures.text is;
      ready = (seen (g.I.Inputs.bytes_at c.read_file.new.inputs) (g.I.Inputs.faults_at c.read_file.new.inputs) (g.O.Outputs.written c.args.outputs.now) (g.O.Outputs.is_created c.args.outputs.now) (g.O.Outputs.faults_at c.args.outputs.now) (tally_of g.D.Slot c.args.slots.now.items));
      read = went;
      untouched = λ name. refl;
      ends = c.in-Ok-run_queries.ends.items;
      as_many = many;
      ended = c.in-Ok-run_queries.ensures.ended;
      stored = c.in-Ok-run_queries.ensures.stored;
      reported = subst (λ (queries : List Query). Reported queries c.in-Ok-run_queries.ends.items (telling (g.R.Sink.contents c.args.report.now) (faults_of g.R.Sink c.args.report.now)) (telling (g.R.Sink.contents c.report_all.new.report) (faults_of g.R.Sink c.report_all.new.report)) c.report_all.result) queries_are
          (subst (λ (ends : List Ending). Reported c.as_slice-in-Ok-run_queries.result.now ends (telling (g.R.Sink.contents c.args.report.now) (faults_of g.R.Sink c.args.report.now)) (telling (g.R.Sink.contents c.report_all.new.report) (faults_of g.R.Sink c.report_all.new.report)) c.report_all.result) ends_are c.report_all.ensures.reported);
    })

pub returns-clause-ran : goal.returns-clause-ran
returns-clause-ran g c =
    let stays : c.run_queries.new.outputs ≡ c.args.outputs.now = search rules in
    inr (
      (λ name. ap (λ (outputs : g.row.O.Denot). g.O.Outputs.written outputs name) stays),
      inr (inr (record { status_is = c.refuse_memory-in-Err-run_queries.ensures.status; tells = c.refuse_memory-in-Err-run_queries.ensures.tells })),
    )
