use Rattle.std.proofs.Common.{◌≡◌, ◌∙◌, ◌⊎◌, IsSome, Some, Err, [], ap, false, true, rules, subst, sym, vec_len}
use Rattle.outside.specs.Counts.{Rose}
use Rattle.pin_core.specs.Tallies.{tally_of}
use Rattle.pin_core.specs.declared.conf.PoolConf.{PoolConf}
use Rattle.outside.specs.Faults.{faults_of}
use Rattle.outside.proofs.Stopping.{ends_there, fails_or_not}
use Rattle.spill_top.specs.Pooled.{memory_of}
use Rattle.query_plan.specs.Sizes.{page_len}
use Rattle.query_plan.specs.declared.plan.Query.{Query}
use Rattle.query_plan.specs.declared.plan.Side.TheVariants.{Left}
use Rattle.query_run.specs.Both.{both_told}
use Rattle.query_run.specs.Causes.{IsSourceFault, NamesInt, OfPool, side_of}
use Rattle.query_run.specs.Plans.{IsRunnable, kinds_of_columns}
use Rattle.query_run.specs.Refused.{SaysOfSide, source}
use Rattle.query_plan.specs.declared.outcome.QueryErr.{QueryErr}
use Rattle.query_plan.specs.declared.outcome.QueryErr.TheVariants.{SinkFault}
use Rattle.spill_top.specs.Counting.{counting}
use Rattle.spill_top.specs.Headline.{Answers, AnswersInPart, IsCause, told_with}
use Rattle.spill_top.specs.OneInput.{WroteAnswerOver, WroteFrontOver}
use Rattle.spill_top.specs.Pooled.{HasMemoryFor, HaveFailed, IsPoolStop, all_tell}
use Rattle.spill_top.proofs.Pools.{slots_counted}
use Rattle.spill_top.specs.Refusals.{refusal_for}
use Rattle.spill_top.specs.Stops.{IsStop}
use Rattle.spill_top.specs.Storing.{HaveStored, owed}
use Rattle.spill_top.specs.Words.{Command}
use Rattle.spill_top.specs.declared.report.Refusal.{Refusal}
use Rattle.spill_top.proofs.Causes.{cause_is}
use Rattle.spill_top.proofs.CountPlan.{pool_fits, refused_so, runs}
use Rattle.spill_top.proofs.CountStops.{answer_so, answers_so, front_of, front_so, less_so, memory_alone, no_fault, pool_alone, pool_causes, stays_so, stop_is, stored_so}
use Rattle.query_run.proofs.Alone.{says_alone}
use Rattle.spill_top.proofs.count.count.Goals as goal

pub run_watched-ran-requires-clause-plan : goal.run_watched-ran-requires-clause-plan
run_watched-ran-requires-clause-plan g c κs within = subst (λ (plan : Query). IsRunnable plan) (sym c.in-Ok.ensures) (runs _)

pub run_watched-ran-requires-clause-alone : goal.run_watched-ran-requires-clause-alone
run_watched-ran-requires-clause-alone g c κs within = ap (λ (plan : Query). plan.right) c.in-Ok.ensures

pub run_watched-ran-requires-clause-memory : goal.run_watched-ran-requires-clause-memory
run_watched-ran-requires-clause-memory g c κs within =
    subst (λ (plan : Query). HasMemoryFor plan c.counting_pool-pool.result) (sym c.in-Ok.ensures) (subst (λ (conf : PoolConf). HasMemoryFor (counting (record { file = c.args.file.now; column = c.args.column.now })) conf) (sym c.counting_pool-pool.ensures) (pool_fits (record { file = c.args.file.now; column = c.args.column.now })))

pub of-requires-clause-text : goal.of-requires-clause-text
of-requires-clause-text g c =
    let says : SaysOfSide c.in-Ok.plan Left c.in-Ok.plan.left (page_len c.in-Ok.plan c.counting_pool-pool.result.block_len) (source (g.I.Src.Source.remaining c.in-Ok-open.left) (g.I.Src.Source.remaining c.run_watched-ran.new.left) (g.I.Src.Source.faults c.in-Ok-open.left) (g.I.Src.Source.faults c.run_watched-ran.new.left)) c.in-Err.e =
    says_alone c.in-Ok.plan _ _ _ c.in-Err.e (ap (λ (plan : Query). plan.right) c.in-Ok.ensures) (rw c.in-Err.is at c.run_watched-ran.ensures.outside.input) in
    subst (λ (plan : Query). NamesInt (kinds_of_columns plan.left.columns) c.in-Err.e) c.in-Ok.ensures says.field

pub of-requires-clause-pool : goal.of-requires-clause-pool
of-requires-clause-pool g c =
    let stop : OfPool (IsPoolStop c.in-Ok.plan (page_len c.in-Ok.plan c.counting_pool-pool.result.block_len) (told_with (tally_of g.D.Slot c.args.slots.now.items) (g.I.Src.Source.remaining c.in-Ok-open.left)) (vec_len c.args.slots.now) (HaveFailed (tally_of g.D.Slot c.args.slots.now.items) (tally_of g.D.Slot c.run_watched-ran.new.slots.items))) c.in-Err.e = search rules in
    answers_so c.in-Ok.plan _ (vec_len c.args.slots.now) _ (tally_of g.D.Slot c.args.slots.now.items) (tally_of g.D.Slot c.run_watched-ran.new.slots.items) c.in-Err.e stop

pub returns-in_default-ran-clause-answer : goal.returns-in_default-ran-clause-answer
returns-in_default-ran-clause-answer g c = λ tell.
    let wrote : WroteAnswerOver c.in-Ok.plan (page_len c.in-Ok.plan c.counting_pool-pool.result.block_len) (g.I.Src.Source.remaining c.in-Ok-open.left) (g.R.Sink.contents c.args.report.now) (g.R.Sink.contents c.run_watched-ran.result.1.sink.now) = search (rules, c.run_watched-ran.ensures.outside.answer tell) in
    let here : Answers (g.I.Inputs.bytes_at c.args.inputs.now) (g.R.Sink.contents c.args.report.now) (g.R.Sink.contents c.run_watched-ran.result.1.sink.now) (record { file = c.args.file.now; column = c.args.column.now }) =
    answer_so (record { file = c.args.file.now; column = c.args.column.now }) c.in-Ok.plan c.counting_pool-pool.result.block_len _ _ _ _ c.in-Ok.ensures (ap (λ (conf : PoolConf). conf.block_len) c.counting_pool-pool.ensures) c.in-Ok-open.ensures.gives wrote in
    search (rules, here)

pub returns-in_default-ran-clause-stored : goal.returns-in_default-ran-clause-stored
returns-in_default-ran-clause-stored g c =
    let stored : HaveStored c.counting_pool-pool.result.block_len (owed c.in-Ok.plan (memory_of c.counting_pool-pool.result) (both_told (g.I.Src.Source.remaining c.in-Ok-open.left) (Some []))) (tally_of g.D.Slot c.args.slots.now.items) (tally_of g.D.Slot c.run_watched-ran.new.slots.items) = search rules in
    stored_so (record { file = c.args.file.now; column = c.args.column.now }) c.in-Ok.plan c.counting_pool-pool.result _ _ (tally_of g.D.Slot c.args.slots.now.items) (tally_of g.D.Slot c.run_watched-ran.new.slots.items) c.in-Ok.ensures c.counting_pool-pool.ensures c.in-Ok-open.ensures.gives stored

pub returns-clause-stop : goal.returns-clause-stop
returns-clause-stop g c =
    let command : Command = record { file = c.args.file.now; column = c.args.column.now } in
    let len = ap (λ (conf : PoolConf). conf.block_len) c.counting_pool-pool.ensures in
    let alone = ap (λ (plan : Query). plan.right) c.in-Ok.ensures in
    let told = g.I.Inputs.bytes_at c.args.inputs.now c.args.file.now in
    let faults = g.I.Inputs.faults_at c.args.inputs.now c.args.file.now in
    let faults_now = g.I.Inputs.faults_at c.close.new.self c.args.file.now in
    let slots = tally_of g.D.Slot c.args.slots.now.items in
    let slots_now = tally_of g.D.Slot c.run_watched-ran.new.slots.items in
    let old = g.R.Sink.contents c.args.report.now in
    let new = g.R.Sink.contents c.run_watched-ran.result.1.sink.now in
    let result = c.run_watched-ran.result.0 in
    let written = c.run_watched-ran.result.1.written in
    let counts = c.run_watched-ran.ensures.outside.sink in
    let broken = fails_or_not _ _ _ c.run_watched-ran.ensures.outside.stops in
    let says : SaysOfSide c.in-Ok.plan Left c.in-Ok.plan.left (page_len c.in-Ok.plan c.counting_pool-pool.result.block_len) (source (g.I.Src.Source.remaining c.in-Ok-open.left) (g.I.Src.Source.remaining c.run_watched-ran.new.left) (g.I.Src.Source.faults c.in-Ok-open.left) (g.I.Src.Source.faults c.run_watched-ran.new.left)) c.in-Err.e =
    says_alone c.in-Ok.plan _ _ _ c.in-Err.e (ap (λ (plan : Query). plan.right) c.in-Ok.ensures) (rw c.in-Err.is at c.run_watched-ran.ensures.outside.input) in
    let stop : OfPool (IsPoolStop c.in-Ok.plan (page_len c.in-Ok.plan c.counting_pool-pool.result.block_len) (told_with slots (g.I.Src.Source.remaining c.in-Ok-open.left)) (vec_len c.args.slots.now) (HaveFailed slots slots_now)) c.in-Err.e = search rules in
    let untouched : IsSome (side_of c.in-Err.e) → written ≡ false = search rules in
    let either : (written ≡ false) ⊎ (all_tell slots ≡ true → WroteFrontOver c.in-Ok.plan (page_len c.in-Ok.plan c.counting_pool-pool.result.block_len) (g.I.Src.Source.remaining c.in-Ok-open.left) old new) = search rules in
    let part : (all_tell slots ≡ true → WroteFrontOver c.in-Ok.plan (page_len c.in-Ok.plan c.counting_pool-pool.result.block_len) (g.I.Src.Source.remaining c.in-Ok-open.left) old new) → all_tell slots ≡ true → AnswersInPart (g.I.Inputs.bytes_at c.args.inputs.now) old new command =
    λ front tell. front_so command c.in-Ok.plan c.counting_pool-pool.result.block_len told _ old new c.in-Ok.ensures len c.in-Ok-open.ensures.gives (front tell) in
    let counted : IsSourceFault c.in-Err.e → Rose faults faults_now = let fault = says.source_fault in search (rules, fault) in
    let many : vec_len c.args.slots.now ≡ slots.slots = let counted = slots_counted g.D.Slot c.args.slots.now.items in search (rules, counted) in
    let cause : (why : Refusal) → refusal_for c.in-Err.e ≡ Some why → IsCause told faults faults_now slots slots_now command why =
    λ why is. cause_is told faults faults_now slots slots_now command c.in-Err.e why is (refused_so command c.in-Ok.plan c.counting_pool-pool.result.block_len told _ c.in-Err.e c.in-Ok.ensures len c.in-Ok-open.ensures.gives says.refused) counted
    (pool_causes told _ faults faults_now (vec_len c.args.slots.now) c.counting_pool-pool.result.block_len slots slots_now command c.in-Ok.plan c.in-Err.e c.in-Ok.ensures len c.in-Ok-open.ensures.gives many stop) in
    let here : IsStop (g.I.Inputs.bytes_at c.args.inputs.now) faults faults_now slots slots_now old new (faults_of g.R.Sink c.args.report.now) (faults_of g.R.Sink c.run_watched-ran.result.1.sink.now) command c.of.result =
    stop_is (IsStop (g.I.Inputs.bytes_at c.args.inputs.now) faults faults_now slots slots_now old new (faults_of g.R.Sink c.args.report.now) (faults_of g.R.Sink c.run_watched-ran.result.1.sink.now) command) c.of.result
    (λ is. let failed : result ≡ Err SinkFault = c.in-Err.is ∙ ap (λ (e : QueryErr). Err e) (c.of.ensures.report is) in
    ((counts.fault failed, ends_there _ _ _ c.run_watched-ran.ensures.outside.stops), λ tell. part (λ t. c.run_watched-ran.ensures.outside.front t failed) tell))
    (λ is. absurd (c.of.ensures.apart is))
    (λ is. let memory = c.of.ensures.short is in (
      less_so written old new (all_tell slots ≡ true) (AnswersInPart (g.I.Inputs.bytes_at c.args.inputs.now) old new command) c.run_watched-ran.ensures.kept (λ front. part front) either,
      (stays_so result c.in-Err.e _ _ c.in-Err.is (λ fault. memory_alone c.in-Err.e memory fault) counts.quiet, stays_so result c.in-Err.e _ _ c.in-Err.is (λ fault. memory_alone c.in-Err.e memory fault) broken),
    ))
    (λ why is. let of = c.of.ensures.refused why is in
    (cause why of.0, c.run_watched-ran.ensures.kept of.1, (stays_so result c.in-Err.e _ _ c.in-Err.is (no_fault c.in-Err.e why of.0) counts.quiet, stays_so result c.in-Err.e _ _ c.in-Err.is (no_fault c.in-Err.e why of.0) broken)))
    (λ why is. let of = c.of.ensures.broken why is in (
      cause why of.0,
      pool_alone c.in-Err.e why written of.0 untouched of.1,
      record {
        front = λ tell. part (front_of written (all_tell slots ≡ true → WroteFrontOver c.in-Ok.plan (page_len c.in-Ok.plan c.counting_pool-pool.result.block_len) (g.I.Src.Source.remaining c.in-Ok-open.left) old new) of.1 either) tell;
        some = c.run_watched-ran.ensures.longer of.1;
        quiet = (stays_so result c.in-Err.e _ _ c.in-Err.is (no_fault c.in-Err.e why of.0) counts.quiet, stays_so result c.in-Err.e _ _ c.in-Err.is (no_fault c.in-Err.e why of.0) broken);
      },
    )) in
    let same : c.report-1.given.0 ≡ c.run_watched-ran.result.1.sink.now = search rules in
    subst (λ (sink : g.row.R.Denot). IsStop (g.I.Inputs.bytes_at c.args.inputs.now) faults faults_now slots slots_now old (g.R.Sink.contents sink) (faults_of g.R.Sink c.args.report.now) (faults_of g.R.Sink sink) command c.of.result) (sym same) here
