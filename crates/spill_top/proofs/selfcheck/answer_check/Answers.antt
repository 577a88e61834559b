use Rattle.std.proofs.Common.{◌≡◌, inr, ℕ, List, Option, None, refl, rules, vec_len}
use Rattle.outside.specs.Counts.{Rose}
use Rattle.outside.specs.declared.stream.Failed.{Failed}
use Rattle.pin_core.specs.Tallies.{tally_of}
use Rattle.query_run.specs.Answer.{WroteAnswer}
use Rattle.query_run.specs.Causes.{side_of}
use Rattle.spill_top.specs.CheckPlan.{checking, output_name, refused_of, table_if}
use Rattle.spill_top.specs.Headline.{page_bytes}
use Rattle.spill_top.specs.Jobs.{LeavesPart}
use Rattle.spill_top.specs.Pooled.{HaveFailed, all_tell}
use Rattle.spill_top.specs.declared.ending.Ending.TheVariants.{Stopped}
use Rattle.spill_top.proofs.CheckEnds.{since_created, sink_failed, stop_later}
use Rattle.spill_top.proofs.CheckPlans.{all_rows}
use Rattle.spill_top.proofs.Finished.{finished_answer, finished_failed, finished_stopped}
use Rattle.spill_top.proofs.Works.{rose_since}
use Rattle.spill_top.proofs.selfcheck.answer_check.Goals as goal

pub returns-in-Ok-done-clause-answer : goal.returns-in-Ok-done-clause-answer
returns-in-Ok-done-clause-answer g c =
    let tell = all_tell (tally_of g.D.Slot c.args.slots.now.items) in
    let none : refused_of c.args.check ≡ None = search rules in
    let contents = g.O.Snk.Sink.contents c.run_table.new.sink in
    record {
      reserved = none;
      rows = all_rows c.args.check tell c.in-Ok-run_table.ran c.requires.range c.in-Ok-run_table.ensures.numbers;
      numbers = c.in-Ok-run_table.ensures.numbers;
      output = finished_answer Failed (checking c.args.check) page_bytes c.in-Ok-run_table.ran.lines (table_if tell c.args.check) (g.O.Outputs.written c.args.outputs.now output_name) (g.O.Outputs.written c.create.new.self output_name) (g.O.Outputs.written c.done.new.self output_name) contents
          (since_created _ _ _ (λ (o : Option (List ℕ)). WroteAnswer (checking c.args.check) page_bytes (table_if tell c.args.check) o contents) c.in-Ok.ensures.ok c.in-Ok.ensures.empty c.in-Ok-run_table.ensures.answer) c.in-Ok-done.ensures.bytes;
      stored = c.in-Ok-run_table.ensures.stored;
    }

pub returns-in-Err-done-clause-none : goal.returns-in-Err-done-clause-none
returns-in-Err-done-clause-none g c =
    let tell = all_tell (tally_of g.D.Slot c.args.slots.now.items) in
    let none : refused_of c.args.check ≡ None = search rules in
    let contents = g.O.Snk.Sink.contents c.run_table.new.sink in
    record {
      why = (none, rose_since _ _ _ (c.create.ensures.never_falls output_name) c.in-Err-done.ensures.failed);
      output = inr (finished_failed (checking c.args.check) page_bytes c.in-Ok-run_table.ran.lines (table_if tell c.args.check) (g.O.Outputs.written c.args.outputs.now output_name) (g.O.Outputs.written c.create.new.self output_name) (g.O.Outputs.written c.done.new.self output_name) contents c.in-Err-done.field-0
          (since_created _ _ _ (λ (o : Option (List ℕ)). WroteAnswer (checking c.args.check) page_bytes (table_if tell c.args.check) o contents) c.in-Ok.ensures.ok c.in-Ok.ensures.empty c.in-Ok-run_table.ensures.answer) c.in-Err-done.ensures.bytes);
    }

pub returns-in-Err-clause-none : goal.returns-in-Err-clause-none
returns-in-Err-clause-none g c =
    let tell = all_tell (tally_of g.D.Slot c.args.slots.now.items) in
    let none : refused_of c.args.check ≡ None = search rules in
    let contents = g.O.Snk.Sink.contents c.run_table.new.sink in
    let failed : Rose (g.O.Snk.Sink.faults c.in-Ok.sink) (g.O.Snk.Sink.faults c.run_table.new.sink) → Rose (g.O.Outputs.faults_at c.args.outputs.now output_name) (g.O.Outputs.faults_at c.done-in-Err.new.self output_name) =
    λ rose. rose_since _ _ _ (c.create.ensures.never_falls output_name) (sink_failed _ _ _ _ c.in-Ok.ensures.fresh c.done-in-Err.ensures.takes rose) in
    record {
      why = (none, stop_later c.args.check (all_tell (tally_of g.D.Slot c.args.slots.now.items)) (vec_len c.args.slots.now) (HaveFailed (tally_of g.D.Slot c.args.slots.now.items) (tally_of g.D.Slot c.run_table.new.slots.items)) _ _ c.in-Err.e failed c.in-Err.ensures.stop);
      output = inr (finished_stopped (checking c.args.check) page_bytes (table_if tell c.args.check) (g.O.Outputs.written c.args.outputs.now output_name) (g.O.Outputs.written c.create.new.self output_name) (g.O.Outputs.written c.done-in-Err.new.self output_name) contents (Stopped c.in-Err.e) c.done-in-Err.result refl
          (since_created _ _ _ (λ (o : Option (List ℕ)). LeavesPart (checking c.args.check) page_bytes (table_if tell c.args.check) o contents (side_of c.in-Err.e)) c.in-Ok.ensures.ok c.in-Ok.ensures.empty c.in-Err.ensures.part) c.done-in-Err.ensures.bytes);
    }
