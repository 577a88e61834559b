use Rattle.std.proofs.Common.{◌≡◌, ℕ, List, Option, Some, IfSome, map, string_bytes, vec_len, arith, refl, sym, subst, rules}
use Rattle.pin_core.specs.Tallies.{tally_of}
use Rattle.outside.specs.Faults.{faults_of}
use Rattle.spill_top.specs.Headline.{Counted}
use Rattle.spill_top.specs.Ran.{RanPlan, telling}
use Rattle.spill_top.specs.Running.{seen}
use Rattle.spill_top.specs.Words.{Command, check_of, command_of, plan_file_of}
use Rattle.spill_top.proofs.Causes.{device_fault, never_wants}
use Rattle.spill_top.proofs.CheckEnds.{check_never_one, checked_short, no_call}
use Rattle.spill_top.proofs.CheckWords.{check_in_range}
use Rattle.spill_top.proofs.Tops.{count_never_one, counted_short, of_each, ran_short, run_never_one, words_check, words_count, words_run}
use Rattle.spill_top.proofs.top.spill_top.Goals as goal

pub returns-in_default-clause-count : goal.returns-in_default-clause-count
returns-in_default-clause-count g c = of_each (command_of (map string_bytes c.args.words.now)) _ (λ command. counted_short _ _ _ _ _ _ _ _ _ _ command c.refuse_memory.ensures.status c.refuse_memory.ensures.tells)

pub returns-in_default-clause-run : goal.returns-in_default-clause-run
returns-in_default-clause-run g c = of_each (plan_file_of (map string_bytes c.args.words.now)) _ (λ file. ran_short file _ _ (seen (g.I.Inputs.bytes_at c.args.inputs.now) (g.I.Inputs.faults_at c.args.inputs.now) (g.O.Outputs.written c.args.outputs.now) (g.O.Outputs.is_created c.args.outputs.now) (g.O.Outputs.faults_at c.args.outputs.now) (tally_of g.D.Slot c.args.slots.now.items)) (seen (g.I.Inputs.bytes_at c.args.inputs.now) (g.I.Inputs.faults_at c.args.inputs.now) (g.O.Outputs.written c.args.outputs.now) (g.O.Outputs.is_created c.args.outputs.now) (g.O.Outputs.faults_at c.args.outputs.now) (tally_of g.D.Slot c.args.slots.now.items)) (telling (g.R.Sink.contents c.args.report.now) (faults_of g.R.Sink c.args.report.now)) (telling (g.R.Sink.contents c.refuse_memory.new.report) (faults_of g.R.Sink c.refuse_memory.new.report)) c.refuse_memory.ensures.status (λ name. refl) c.refuse_memory.ensures.tells)

pub returns-in-Some-Count-clause-words : goal.returns-in-Some-Count-clause-words
returns-in-Some-Count-clause-words g c =
    let is : command_of (map string_bytes c.args.words.now) ≡ Some (record { file = c.in-Some-Count.file.now; column = c.in-Some-Count.column.now }) = search rules in
    words_count _ _ _ _ _ is (count_never_one c.answer_count.result c.answer_count.ensures.status)

pub returns-in-Some-Count-clause-usage : goal.returns-in-Some-Count-clause-usage
returns-in-Some-Count-clause-usage g c = λ one. absurd (count_never_one c.answer_count.result c.answer_count.ensures.status one)

pub returns-in-Some-Count-clause-count : goal.returns-in-Some-Count-clause-count
returns-in-Some-Count-clause-count g c =
    let command : Command = record { file = c.in-Some-Count.file.now; column = c.in-Some-Count.column.now } in
    let is : command_of (map string_bytes c.args.words.now) ≡ Some (record { file = c.in-Some-Count.file.now; column = c.in-Some-Count.column.now }) = search rules in
    let counted : Counted (g.I.Inputs.bytes_at c.args.inputs.now) (g.I.Inputs.faults_at c.args.inputs.now) (g.I.Inputs.faults_at c.answer_count.new.inputs) (tally_of g.D.Slot c.args.slots.now.items) (tally_of g.D.Slot c.answer_count.new.slots.items) (g.R.Sink.contents c.args.report.now) (g.R.Sink.contents c.answer_count.new.report) (faults_of g.R.Sink c.args.report.now) (faults_of g.R.Sink c.answer_count.new.report) c.answer_count.result command = record {
      status_is = c.answer_count.ensures.status;
      answer = c.answer_count.ensures.answer;
      input_fault = c.answer_count.ensures.input_fault;
      device_fault = λ eight. device_fault _ _ _ _ _ _ _ _ _ _ _ eight (c.answer_count.ensures.refused (λ (is : c.answer_count.result ≡ 0). omega (arith, is, eight)) (λ (is : c.answer_count.result ≡ 9). omega (arith, is, eight)) (λ (is : c.answer_count.result ≡ 10). omega (arith, is, eight)));
      refused = c.answer_count.ensures.refused;
      lacks_memory = c.answer_count.ensures.lacks_memory;
      quiet = c.answer_count.ensures.quiet;
      stored = c.answer_count.ensures.stored;
      output_fault = c.answer_count.ensures.output_fault;
      part = c.answer_count.ensures.part;
      refuses = c.answer_count.ensures.refuses;
      too_many = c.answer_count.ensures.too_many;
      succeeds = c.answer_count.ensures.succeeds;
      suffices = never_wants _ _ _ _ _ _ _ _ _ _ _ c.answer_count.ensures.refused;
    } in
    rw is counted

pub returns-in-Some-Run-clause-words : goal.returns-in-Some-Run-clause-words
returns-in-Some-Run-clause-words g c =
    let is : plan_file_of (map string_bytes c.args.words.now) ≡ Some c.in-Some-Run.plan.now = search rules in
    words_run _ _ _ _ _ is (run_never_one _ _ _ _ _ _ _ c.run.ensures.ran)

pub returns-in-Some-Run-clause-usage : goal.returns-in-Some-Run-clause-usage
returns-in-Some-Run-clause-usage g c = λ one. absurd (run_never_one _ _ _ _ _ _ _ c.run.ensures.ran one)

pub returns-in_default-clause-selfcheck : goal.returns-in_default-clause-selfcheck
returns-in_default-clause-selfcheck g c = of_each (check_of (map string_bytes c.args.words.now)) _ (λ check. checked_short check _ _ _ (telling (g.R.Sink.contents c.args.report.now) (faults_of g.R.Sink c.args.report.now)) (telling (g.R.Sink.contents c.refuse_memory.new.report) (faults_of g.R.Sink c.refuse_memory.new.report)) _ c.refuse_memory.ensures.status c.refuse_memory.ensures.tells refl (no_call (seen (g.I.Inputs.bytes_at c.args.inputs.now) (g.I.Inputs.faults_at c.args.inputs.now) (g.O.Outputs.written c.args.outputs.now) (g.O.Outputs.is_created c.args.outputs.now) (g.O.Outputs.faults_at c.args.outputs.now) (tally_of g.D.Slot c.args.slots.now.items))))

pub self_check-requires-clause-range : goal.self_check-requires-clause-range
self_check-requires-clause-range g c κs within =
    let is : check_of (map string_bytes c.args.words.now) ≡ Some c.in-Some-Check.check = search rules in
    check_in_range (map string_bytes c.args.words.now) c.in-Some-Check.check is

pub returns-in-Some-Check-clause-words : goal.returns-in-Some-Check-clause-words
returns-in-Some-Check-clause-words g c =
    let is : check_of (map string_bytes c.args.words.now) ≡ Some c.in-Some-Check.check = search rules in
    let checked = c.self_check.ensures.checked (g.I.Inputs.bytes_at c.args.inputs.now) (g.I.Inputs.faults_at c.args.inputs.now) in
    words_check _ _ _ _ _ is (check_never_one c.self_check.result checked.status_is)

pub returns-in-Some-Check-clause-usage : goal.returns-in-Some-Check-clause-usage
returns-in-Some-Check-clause-usage g c =
    let checked = c.self_check.ensures.checked (g.I.Inputs.bytes_at c.args.inputs.now) (g.I.Inputs.faults_at c.args.inputs.now) in
    λ one. absurd (check_never_one c.self_check.result checked.status_is one)

pub returns-in-Some-Check-clause-selfcheck : goal.returns-in-Some-Check-clause-selfcheck
returns-in-Some-Check-clause-selfcheck g c =
    let is : check_of (map string_bytes c.args.words.now) ≡ Some c.in-Some-Check.check = search rules in
    rw is (c.self_check.ensures.checked (g.I.Inputs.bytes_at c.args.inputs.now) (g.I.Inputs.faults_at c.args.inputs.now))

pub returns-in-Some-Check-clause-outputs_never_fall : goal.returns-in-Some-Check-clause-outputs_never_fall
returns-in-Some-Check-clause-outputs_never_fall g c =
    let checked = c.self_check.ensures.checked (g.I.Inputs.bytes_at c.args.inputs.now) (g.I.Inputs.faults_at c.args.inputs.now) in
    checked.went.went.writes

pub returns-in-Some-Run-clause-run : goal.returns-in-Some-Run-clause-run
returns-in-Some-Run-clause-run g c =
    let is : plan_file_of (map string_bytes c.args.words.now) ≡ Some c.in-Some-Run.plan.now = search rules in
    subst
    (λ (file : Option (List ℕ)).
    IfSome file
    (λ name.
    RanPlan name (vec_len c.args.slots.now)
    (seen (g.I.Inputs.bytes_at c.args.inputs.now) (g.I.Inputs.faults_at c.args.inputs.now) (g.O.Outputs.written c.args.outputs.now) (g.O.Outputs.is_created c.args.outputs.now) (g.O.Outputs.faults_at c.args.outputs.now) (tally_of g.D.Slot c.args.slots.now.items))
    (seen (g.I.Inputs.bytes_at c.run.new.inputs) (g.I.Inputs.faults_at c.run.new.inputs) (g.O.Outputs.written c.run.new.outputs) (g.O.Outputs.is_created c.run.new.outputs) (g.O.Outputs.faults_at c.run.new.outputs) (tally_of g.D.Slot c.run.new.slots.items))
    (telling (g.R.Sink.contents c.args.report.now) (faults_of g.R.Sink c.args.report.now)) (telling (g.R.Sink.contents c.run.new.report) (faults_of g.R.Sink c.run.new.report)) c.run.result))
    (sym is) c.run.ensures.ran
