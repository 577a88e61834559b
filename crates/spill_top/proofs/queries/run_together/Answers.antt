use Rattle.std.proofs.Common.{rules, ◌≡◌, ◌∙◌, ◌≤◌, List, Option, Some, IsSome, All, length, map, vec_len, refl, sym, ap, subst, arith}
use Rattle.std.specs.List.{sum_by}
use Rattle.std.specs.Option.{option_map}
use Rattle.std.specs.Vec.{with_items}
use Rattle.std.proofs.lemmas.List.{length-map, with_items_is}
use Rattle.turn_table.specs.Face.{Spot}
use Rattle.pool_model.specs.Bytes.{bytes_of}
use Rattle.pin_core.proofs.Tallied.{uncounted_yet}
use Rattle.pool.specs.declared.ask.Ask.{Ask}
use Rattle.pool.specs.declared.item.Item.{Item}
use Rattle.pool.specs.Remaining.{quotas_of}
use Rattle.pool.specs.Seats.{live_in, taken_in}
use Rattle.pool.specs.Sitting.{Sitting, held_by, signs_by}
use Rattle.pool.proofs.AtOpen.{none_taken}
use Rattle.query_plan.specs.declared.plan.Query.{Query}
use Rattle.spill_top.specs.Beside.{Waits}
use Rattle.spill_top.specs.Jobs.{HasSides, work_of}
use Rattle.spill_top.specs.Running.{AreApart, seen}
use Rattle.spill_top.specs.Steps.{AreEach, AreMade, AreWorks, KeepsWorks}
use Rattle.spill_top.specs.Together.{AllCanRun, EndAll, ask_of}
use Rattle.spill_top.proofs.Coming.{all_one, seen_in}
use Rattle.spill_top.proofs.Gathered.{ended_works, gathered, refused_kept, refused_of, unknown, works_unknown}
use Rattle.spill_top.proofs.Loops.{went_slots}
use Rattle.spill_top.proofs.OneSession.{none_live}
use Rattle.spill_top.proofs.Opened.{asks_so, len_so, one_each, quotas_are, quotas_once, shapes_so}
use Rattle.spill_top.proofs.Phases.{all_begun, all_closed, all_have_ended, as_many, made_of, sided_of, went_through, works_begin}
use Rattle.spill_top.proofs.Ready.{all_can}
use Rattle.spill_top.proofs.Runs.{are_seated, have_run}
use Rattle.spill_top.proofs.Sessions.{all_idle, lasts_are, numbers_kept, stays_of}
use Rattle.spill_top.proofs.Stays.{all_stays, each_stayed, lasts_of, none_left, none_out}
use Rattle.spill_top.proofs.Stepping.{seen_same}
use Rattle.spill_top.proofs.Waiting.{live_waits, stops_waits, waits_then}
use Rattle.spill_top.proofs.Writing.{all_seen_so}
use Rattle.spill_top.proofs.queries.run_together.Goals as goal

pub sessions-requires-clause-some : goal.sessions-requires-clause-some
sessions-requires-clause-some g c =
    let asks_are : c.as_slice.result.now ≡ map (ask_of g.T.Opened.opening.block_len) c.args.plan.now.queries = asks_so c.as_slice.result.now c.in_ok-asks.asks.items c.as_slice-queries.result.now c.args.plan.now.queries c.args.plan.now.block_len g.T.Opened.opening.block_len (search rules) c.in_ok-asks.ensures (search rules) c.requires.opening.block_len in
    subst (All (λ (ask : Ask). 1 ≤ ask.count)) (sym asks_are) (one_each g.T.Opened.opening.block_len c.args.plan.now.queries)

pub sessions-requires-clause-spare : goal.sessions-requires-clause-spare
sessions-requires-clause-spare g c =
    let asks_are : c.as_slice.result.now ≡ map (ask_of g.T.Opened.opening.block_len) c.args.plan.now.queries = asks_so c.as_slice.result.now c.in_ok-asks.asks.items c.as_slice-queries.result.now c.args.plan.now.queries c.args.plan.now.block_len g.T.Opened.opening.block_len (search rules) c.in_ok-asks.ensures (search rules) c.requires.opening.block_len in
    let quotas : quotas_of c.as_slice.result.now ≡ sum_by (λ query. query.quota) c.args.plan.now.queries = ap quotas_of asks_are ∙ quotas_are g.T.Opened.opening.block_len c.args.plan.now.queries in
    let none : taken_in c.begin_writers-writers.new.pass.knows.seen ≡ 0 = ap taken_in (c.begin_writers-writers.ensures.begin.seen ∙ c.requires.fresh.0) ∙ none_taken in
    let most = c.requires.rules.quotas in
    let once = quotas_once c.args.plan.now.queries in
    omega (arith, quotas, none, most, once)

pub seat_all-jobs-requires-clause-each : goal.seat_all-jobs-requires-clause-each
seat_all-jobs-requires-clause-each g c κs within =
    let asks_are : c.as_slice.result.now ≡ map (ask_of g.T.Opened.opening.block_len) c.args.plan.now.queries = asks_so c.as_slice.result.now c.in_ok-asks.asks.items c.as_slice-queries.result.now c.args.plan.now.queries c.args.plan.now.block_len g.T.Opened.opening.block_len (search rules) c.in_ok-asks.ensures (search rules) c.requires.opening.block_len in
    all_one (λ v. v.items) (λ s. s.seat) c.in-Ok-sessions.answers.items (shapes_so (λ v. v.items) (λ s. s.seat) g.T.Opened.opening g.T.Opened.outset.told c.begin_writers-writers.new.pass c.sessions.new.pass c.args.plan.now.queries c.as_slice.result.now asks_are c.requires.rules.some.1 c.in-Ok-sessions.answers.items c.in-Ok-sessions.ensures.ok (c.in-Ok-sessions.ensures.fresh (none_live c.begin_writers-writers.new.pass.knows.seen (c.begin_writers-writers.ensures.begin.seen ∙ c.requires.fresh.0))))

pub seat_all-jobs-requires-clause-few : goal.seat_all-jobs-requires-clause-few
seat_all-jobs-requires-clause-few g c κs within =
    let asks_are : c.as_slice.result.now ≡ map (ask_of g.T.Opened.opening.block_len) c.args.plan.now.queries = asks_so c.as_slice.result.now c.in_ok-asks.asks.items c.as_slice-queries.result.now c.args.plan.now.queries c.args.plan.now.block_len g.T.Opened.opening.block_len (search rules) c.in_ok-asks.ensures (search rules) c.requires.opening.block_len in
    let len : length c.in-Ok-sessions.answers.items ≡ length c.args.plan.now.queries = len_so (λ v. v.items) (λ s. s.seat) g.T.Opened.opening g.T.Opened.outset.told c.begin_writers-writers.new.pass c.sessions.new.pass c.args.plan.now.queries c.as_slice.result.now asks_are c.requires.rules.some.1 c.in-Ok-sessions.answers.items c.in-Ok-sessions.ensures.ok (c.in-Ok-sessions.ensures.fresh (none_live c.begin_writers-writers.new.pass.knows.seen (c.begin_writers-writers.ensures.begin.seen ∙ c.requires.fresh.0))) _ _ g.I.Src.Source.remaining g.I.Src.Source.faults g.O.Snk.Sink.contents g.O.Snk.Sink.faults in
    let list : vec_len c.in-Ok-sessions.answers ≡ length c.in-Ok-sessions.answers.items = c.in-Ok-sessions.answers.ok.0 in
    let few = c.requires.rules.some.1 in
    omega (arith, len, list, few)

pub seat_all-jobs-requires-clause-room : goal.seat_all-jobs-requires-clause-room
seat_all-jobs-requires-clause-room g c κs within =
    let asks_are : c.as_slice.result.now ≡ map (ask_of g.T.Opened.opening.block_len) c.args.plan.now.queries = asks_so c.as_slice.result.now c.in_ok-asks.asks.items c.as_slice-queries.result.now c.args.plan.now.queries c.args.plan.now.block_len g.T.Opened.opening.block_len (search rules) c.in_ok-asks.ensures (search rules) c.requires.opening.block_len in
    let len : length c.in-Ok-sessions.answers.items ≡ length c.args.plan.now.queries = len_so (λ v. v.items) (λ s. s.seat) g.T.Opened.opening g.T.Opened.outset.told c.begin_writers-writers.new.pass c.sessions.new.pass c.args.plan.now.queries c.as_slice.result.now asks_are c.requires.rules.some.1 c.in-Ok-sessions.answers.items c.in-Ok-sessions.ensures.ok (c.in-Ok-sessions.ensures.fresh (none_live c.begin_writers-writers.new.pass.knows.seen (c.begin_writers-writers.ensures.begin.seen ∙ c.requires.fresh.0))) _ _ g.I.Src.Source.remaining g.I.Src.Source.faults g.O.Snk.Sink.contents g.O.Snk.Sink.faults in
    let queries_are : length c.as_slice-queries.result.now ≡ length c.args.plan.now.queries = ap length (search rules) in
    let list : vec_len c.in-Ok-sessions.answers ≡ length c.in-Ok-sessions.answers.items = c.in-Ok-sessions.answers.ok.0 in
    let room = c.in_ok-jobs.ensures.capacity in
    omega (arith, len, queries_are, list, room)

pub create_all-requires-clause-len : goal.create_all-requires-clause-len
create_all-requires-clause-len g c κs within =
    let asks_are = asks_so c.as_slice.result.now c.in_ok-asks.asks.items c.as_slice-queries.result.now c.args.plan.now.queries c.args.plan.now.block_len g.T.Opened.opening.block_len (search rules) c.in_ok-asks.ensures (search rules) c.requires.opening.block_len in
    let seated =
    are_seated (λ v. v.items) (λ s. s.seat) (λ s. s.seat) g.I.Src.Source.remaining g.I.Src.Source.faults g.O.Snk.Sink.contents g.O.Snk.Sink.faults g.T.Opened.opening g.T.Opened.outset.told c.begin_writers-writers.new.pass c.sessions.new.pass c.args.plan.now.queries c.as_slice.result.now asks_are c.requires.rules.some.1
    c.in-Ok-sessions.answers.items c.in-Ok-sessions.ensures.ok (c.in-Ok-sessions.ensures.fresh (none_live c.begin_writers-writers.new.pass.knows.seen (c.begin_writers-writers.ensures.begin.seen ∙ c.requires.fresh.0))) c.seat_all-jobs.result.items c.seat_all-jobs.ensures in
    let queries_are : c.as_slice-queries.result.now ≡ c.args.plan.now.queries = search rules in
    let same : length c.as_slice-queries.result.now ≡ length c.args.plan.now.queries = ap length queries_are in
    let items : length c.seat_all-jobs.result.items ≡ vec_len c.seat_all-jobs.result = sym c.seat_all-jobs.result.ok.0 in
    same ∙ seated.many ∙ items

pub create_all-requires-clause-apart : goal.create_all-requires-clause-apart
create_all-requires-clause-apart g c κs within =
    let queries_are : c.as_slice-queries.result.now ≡ c.args.plan.now.queries = search rules in
    subst (λ (queries : List Query). AreApart queries) (sym queries_are) c.requires.apart

pub create_all-requires-clause-before : goal.create_all-requires-clause-before
create_all-requires-clause-before g c κs within =
    let asks_are = asks_so c.as_slice.result.now c.in_ok-asks.asks.items c.as_slice-queries.result.now c.args.plan.now.queries c.args.plan.now.block_len g.T.Opened.opening.block_len (search rules) c.in_ok-asks.ensures (search rules) c.requires.opening.block_len in
    let seated =
    are_seated (λ v. v.items) (λ s. s.seat) (λ s. s.seat) g.I.Src.Source.remaining g.I.Src.Source.faults g.O.Snk.Sink.contents g.O.Snk.Sink.faults g.T.Opened.opening g.T.Opened.outset.told c.begin_writers-writers.new.pass c.sessions.new.pass c.args.plan.now.queries c.as_slice.result.now asks_are c.requires.rules.some.1
    c.in-Ok-sessions.answers.items c.in-Ok-sessions.ensures.ok (c.in-Ok-sessions.ensures.fresh (none_live c.begin_writers-writers.new.pass.knows.seen (c.begin_writers-writers.ensures.begin.seen ∙ c.requires.fresh.0))) c.seat_all-jobs.result.items c.seat_all-jobs.ensures in
    all_begun g.I.Src.Source.remaining g.I.Src.Source.faults g.O.Snk.Sink.contents g.O.Snk.Sink.faults g.T.Opened.opening.block_len (bytes_of g.T.Opened.opening.block_len g.T.Opened.opening.blocks) c.args.plan.now.queries c.seat_all-jobs.result.items seated.begin

pub open_all-requires-clause-len : goal.open_all-requires-clause-len
open_all-requires-clause-len g c κs within =
    let asks_are = asks_so c.as_slice.result.now c.in_ok-asks.asks.items c.as_slice-queries.result.now c.args.plan.now.queries c.args.plan.now.block_len g.T.Opened.opening.block_len (search rules) c.in_ok-asks.ensures (search rules) c.requires.opening.block_len in
    let seated =
    are_seated (λ v. v.items) (λ s. s.seat) (λ s. s.seat) g.I.Src.Source.remaining g.I.Src.Source.faults g.O.Snk.Sink.contents g.O.Snk.Sink.faults g.T.Opened.opening g.T.Opened.outset.told c.begin_writers-writers.new.pass c.sessions.new.pass c.args.plan.now.queries c.as_slice.result.now asks_are c.requires.rules.some.1
    c.in-Ok-sessions.answers.items c.in-Ok-sessions.ensures.ok (c.in-Ok-sessions.ensures.fresh (none_live c.begin_writers-writers.new.pass.knows.seen (c.begin_writers-writers.ensures.begin.seen ∙ c.requires.fresh.0))) c.seat_all-jobs.result.items c.seat_all-jobs.ensures in
    let queries_are : c.as_slice-queries.result.now ≡ c.args.plan.now.queries = search rules in
    let same : length c.as_slice-queries.result.now ≡ length c.args.plan.now.queries = ap length queries_are in
    let items : length c.seat_all-jobs.result.items ≡ vec_len c.seat_all-jobs.result = sym c.seat_all-jobs.result.ok.0 in
    same ∙ seated.many ∙ items ∙ sym c.create_all.ensures.len

pub answer_beside-requires-clause-few : goal.answer_beside-requires-clause-few
answer_beside-requires-clause-few g c κs within =
    let queries_are : c.as_slice-queries.result.now ≡ c.args.plan.now.queries = search rules in
    subst (λ (queries : List Query). length queries ≤ 16) (sym queries_are) c.requires.rules.some.1

pub answer_beside-requires-clause-len : goal.answer_beside-requires-clause-len
answer_beside-requires-clause-len g c κs within =
    let asks_are = asks_so c.as_slice.result.now c.in_ok-asks.asks.items c.as_slice-queries.result.now c.args.plan.now.queries c.args.plan.now.block_len g.T.Opened.opening.block_len (search rules) c.in_ok-asks.ensures (search rules) c.requires.opening.block_len in
    let seated =
    are_seated (λ v. v.items) (λ s. s.seat) (λ s. s.seat) g.I.Src.Source.remaining g.I.Src.Source.faults g.O.Snk.Sink.contents g.O.Snk.Sink.faults g.T.Opened.opening g.T.Opened.outset.told c.begin_writers-writers.new.pass c.sessions.new.pass c.args.plan.now.queries c.as_slice.result.now asks_are c.requires.rules.some.1
    c.in-Ok-sessions.answers.items c.in-Ok-sessions.ensures.ok (c.in-Ok-sessions.ensures.fresh (none_live c.begin_writers-writers.new.pass.knows.seen (c.begin_writers-writers.ensures.begin.seen ∙ c.requires.fresh.0))) c.seat_all-jobs.result.items c.seat_all-jobs.ensures in
    let queries_are : c.as_slice-queries.result.now ≡ c.args.plan.now.queries = search rules in
    let same : length c.as_slice-queries.result.now ≡ length c.args.plan.now.queries = ap length queries_are in
    let items : length c.seat_all-jobs.result.items ≡ vec_len c.seat_all-jobs.result = sym c.seat_all-jobs.result.ok.0 in
    let slice : length c.as_mut_slice.result.now ≡ vec_len c.open_all.new.jobs = ap length c.as_mut_slice.ensures.value ∙ sym c.open_all.new.jobs.ok.0 in
    same ∙ seated.many ∙ items ∙ sym c.create_all.ensures.len ∙ sym c.open_all.ensures.len ∙ sym slice

pub answer_beside-requires-clause-can : goal.answer_beside-requires-clause-can
answer_beside-requires-clause-can g c κs within =
    let asks_are = asks_so c.as_slice.result.now c.in_ok-asks.asks.items c.as_slice-queries.result.now c.args.plan.now.queries c.args.plan.now.block_len g.T.Opened.opening.block_len (search rules) c.in_ok-asks.ensures (search rules) c.requires.opening.block_len in
    let seated =
    are_seated (λ v. v.items) (λ s. s.seat) (λ s. s.seat) g.I.Src.Source.remaining g.I.Src.Source.faults g.O.Snk.Sink.contents g.O.Snk.Sink.faults g.T.Opened.opening g.T.Opened.outset.told c.begin_writers-writers.new.pass c.sessions.new.pass c.args.plan.now.queries c.as_slice.result.now asks_are c.requires.rules.some.1
    c.in-Ok-sessions.answers.items c.in-Ok-sessions.ensures.ok (c.in-Ok-sessions.ensures.fresh (none_live c.begin_writers-writers.new.pass.knows.seen (c.begin_writers-writers.ensures.begin.seen ∙ c.requires.fresh.0))) c.seat_all-jobs.result.items c.seat_all-jobs.ensures in
    let queries_are : c.as_slice-queries.result.now ≡ c.args.plan.now.queries = search rules in
    let works : AreWorks (seen (g.I.Inputs.bytes_at c.args.inputs.now) (g.I.Inputs.faults_at c.args.inputs.now) (g.O.Outputs.written c.args.outputs.now) (g.O.Outputs.is_created c.args.outputs.now) (g.O.Outputs.faults_at c.args.outputs.now) g.T.Opened.first) (seen (g.I.Inputs.bytes_at c.args.inputs.now) (g.I.Inputs.faults_at c.args.inputs.now) (g.O.Outputs.written c.args.outputs.now) (g.O.Outputs.is_created c.args.outputs.now) (g.O.Outputs.faults_at c.args.outputs.now) g.T.Opened.first) g.T.Opened.opening.block_len c.args.plan.now.queries (map (work_of g.I.Src.Source.remaining g.I.Src.Source.faults g.O.Snk.Sink.contents g.O.Snk.Sink.faults) c.seat_all-jobs.result.items) = works_begin g.I.Src.Source.remaining g.I.Src.Source.faults g.O.Snk.Sink.contents g.O.Snk.Sink.faults (seen (g.I.Inputs.bytes_at c.args.inputs.now) (g.I.Inputs.faults_at c.args.inputs.now) (g.O.Outputs.written c.args.outputs.now) (g.O.Outputs.is_created c.args.outputs.now) (g.O.Outputs.faults_at c.args.outputs.now) g.T.Opened.first) g.T.Opened.opening.block_len (bytes_of g.T.Opened.opening.block_len g.T.Opened.opening.blocks) c.args.plan.now.queries c.seat_all-jobs.result.items seated.begin in
    let works2 : AreWorks (seen (g.I.Inputs.bytes_at c.args.inputs.now) (g.I.Inputs.faults_at c.args.inputs.now) (g.O.Outputs.written c.args.outputs.now) (g.O.Outputs.is_created c.args.outputs.now) (g.O.Outputs.faults_at c.args.outputs.now) g.T.Opened.first) (seen (g.I.Inputs.bytes_at c.open_all.new.inputs) (g.I.Inputs.faults_at c.open_all.new.inputs) (g.O.Outputs.written c.create_all.new.outputs) (g.O.Outputs.is_created c.create_all.new.outputs) (g.O.Outputs.faults_at c.create_all.new.outputs) g.T.Opened.first) g.T.Opened.opening.block_len c.args.plan.now.queries (map (work_of g.I.Src.Source.remaining g.I.Src.Source.faults g.O.Snk.Sink.contents g.O.Snk.Sink.faults) c.open_all.new.jobs.items) = (subst (λ (queries : List Query). KeepsWorks (seen (g.I.Inputs.bytes_at c.args.inputs.now) (g.I.Inputs.faults_at c.args.inputs.now) (g.O.Outputs.written c.create_all.new.outputs) (g.O.Outputs.is_created c.create_all.new.outputs) (g.O.Outputs.faults_at c.create_all.new.outputs) g.T.Opened.first) (seen (g.I.Inputs.bytes_at c.open_all.new.inputs) (g.I.Inputs.faults_at c.open_all.new.inputs) (g.O.Outputs.written c.create_all.new.outputs) (g.O.Outputs.is_created c.create_all.new.outputs) (g.O.Outputs.faults_at c.create_all.new.outputs) g.T.Opened.first) queries (map (work_of g.I.Src.Source.remaining g.I.Src.Source.faults g.O.Snk.Sink.contents g.O.Snk.Sink.faults) c.create_all.new.jobs.items) (map (work_of g.I.Src.Source.remaining g.I.Src.Source.faults g.O.Snk.Sink.contents g.O.Snk.Sink.faults) c.open_all.new.jobs.items)) queries_are (c.open_all.ensures.works (g.O.Outputs.written c.create_all.new.outputs) (g.O.Outputs.is_created c.create_all.new.outputs) (g.O.Outputs.faults_at c.create_all.new.outputs) g.T.Opened.first)) (seen (g.I.Inputs.bytes_at c.args.inputs.now) (g.I.Inputs.faults_at c.args.inputs.now) (g.O.Outputs.written c.args.outputs.now) (g.O.Outputs.is_created c.args.outputs.now) (g.O.Outputs.faults_at c.args.outputs.now) g.T.Opened.first) g.T.Opened.opening.block_len ((subst (λ (queries : List Query). KeepsWorks (seen (g.I.Inputs.bytes_at c.args.inputs.now) (g.I.Inputs.faults_at c.args.inputs.now) (g.O.Outputs.written c.args.outputs.now) (g.O.Outputs.is_created c.args.outputs.now) (g.O.Outputs.faults_at c.args.outputs.now) g.T.Opened.first) (seen (g.I.Inputs.bytes_at c.args.inputs.now) (g.I.Inputs.faults_at c.args.inputs.now) (g.O.Outputs.written c.create_all.new.outputs) (g.O.Outputs.is_created c.create_all.new.outputs) (g.O.Outputs.faults_at c.create_all.new.outputs) g.T.Opened.first) queries (map (work_of g.I.Src.Source.remaining g.I.Src.Source.faults g.O.Snk.Sink.contents g.O.Snk.Sink.faults) c.seat_all-jobs.result.items) (map (work_of g.I.Src.Source.remaining g.I.Src.Source.faults g.O.Snk.Sink.contents g.O.Snk.Sink.faults) c.create_all.new.jobs.items)) queries_are (c.create_all.ensures.works (g.I.Inputs.bytes_at c.args.inputs.now) (g.I.Inputs.faults_at c.args.inputs.now) g.T.Opened.first)) (seen (g.I.Inputs.bytes_at c.args.inputs.now) (g.I.Inputs.faults_at c.args.inputs.now) (g.O.Outputs.written c.args.outputs.now) (g.O.Outputs.is_created c.args.outputs.now) (g.O.Outputs.faults_at c.args.outputs.now) g.T.Opened.first) g.T.Opened.opening.block_len works) in
    subst (λ (queries : List Query). AllCanRun g.I.Src.Source.remaining g.I.Src.Source.faults g.O.Snk.Sink.contents g.O.Snk.Sink.faults (λ s. held_by g.T.Opened.opening g.T.Opened.outset.told s.seat) (λ s. signs_by g.T.Opened.opening s.seat) queries c.as_mut_slice.result.now) (sym queries_are)
    (subst (AllCanRun g.I.Src.Source.remaining g.I.Src.Source.faults g.O.Snk.Sink.contents g.O.Snk.Sink.faults (λ s. held_by g.T.Opened.opening g.T.Opened.outset.told s.seat) (λ s. signs_by g.T.Opened.opening s.seat) c.args.plan.now.queries) (sym c.as_mut_slice.ensures.value) (all_can (λ s. s.seat) g.I.Src.Source.remaining g.I.Src.Source.faults g.O.Snk.Sink.contents g.O.Snk.Sink.faults g.T.Opened.opening g.T.Opened.outset.told c.sessions.new.pass c.args.plan.now.queries (map (seen_in (λ v. v.items) (λ s. s.seat)) c.in-Ok-sessions.answers.items) seated.shapes seated.admits.sessions c.seat_all-jobs.result.items c.open_all.new.jobs.items seated.first (c.open_all.ensures.refused ∙ c.create_all.ensures.refused) (c.open_all.ensures.sessions ∙ c.create_all.ensures.sessions) (seen (g.I.Inputs.bytes_at c.args.inputs.now) (g.I.Inputs.faults_at c.args.inputs.now) (g.O.Outputs.written c.args.outputs.now) (g.O.Outputs.is_created c.args.outputs.now) (g.O.Outputs.faults_at c.args.outputs.now) g.T.Opened.first) (seen (g.I.Inputs.bytes_at c.open_all.new.inputs) (g.I.Inputs.faults_at c.open_all.new.inputs) (g.O.Outputs.written c.create_all.new.outputs) (g.O.Outputs.is_created c.create_all.new.outputs) (g.O.Outputs.faults_at c.create_all.new.outputs) g.T.Opened.first) c.requires.rules.queries c.open_all.ensures.step works2))

pub close_all-requires-clause-len : goal.close_all-requires-clause-len
close_all-requires-clause-len g c κs within =
    let asks_are = asks_so c.as_slice.result.now c.in_ok-asks.asks.items c.as_slice-queries.result.now c.args.plan.now.queries c.args.plan.now.block_len g.T.Opened.opening.block_len (search rules) c.in_ok-asks.ensures (search rules) c.requires.opening.block_len in
    let seated =
    are_seated (λ v. v.items) (λ s. s.seat) (λ s. s.seat) g.I.Src.Source.remaining g.I.Src.Source.faults g.O.Snk.Sink.contents g.O.Snk.Sink.faults g.T.Opened.opening g.T.Opened.outset.told c.begin_writers-writers.new.pass c.sessions.new.pass c.args.plan.now.queries c.as_slice.result.now asks_are c.requires.rules.some.1
    c.in-Ok-sessions.answers.items c.in-Ok-sessions.ensures.ok (c.in-Ok-sessions.ensures.fresh (none_live c.begin_writers-writers.new.pass.knows.seen (c.begin_writers-writers.ensures.begin.seen ∙ c.requires.fresh.0))) c.seat_all-jobs.result.items c.seat_all-jobs.ensures in
    let queries_are : c.as_slice-queries.result.now ≡ c.args.plan.now.queries = search rules in
    let same : length c.as_slice-queries.result.now ≡ length c.args.plan.now.queries = ap length queries_are in
    let items : length c.seat_all-jobs.result.items ≡ vec_len c.seat_all-jobs.result = sym c.seat_all-jobs.result.ok.0 in
    same ∙ seated.many ∙ items ∙ sym c.create_all.ensures.len ∙ sym c.open_all.ensures.len

pub close_all-requires-clause-before : goal.close_all-requires-clause-before
close_all-requires-clause-before g c κs within =
    let asks_are = asks_so c.as_slice.result.now c.in_ok-asks.asks.items c.as_slice-queries.result.now c.args.plan.now.queries c.args.plan.now.block_len g.T.Opened.opening.block_len (search rules) c.in_ok-asks.ensures (search rules) c.requires.opening.block_len in
    let seated =
    are_seated (λ v. v.items) (λ s. s.seat) (λ s. s.seat) g.I.Src.Source.remaining g.I.Src.Source.faults g.O.Snk.Sink.contents g.O.Snk.Sink.faults g.T.Opened.opening g.T.Opened.outset.told c.begin_writers-writers.new.pass c.sessions.new.pass c.args.plan.now.queries c.as_slice.result.now asks_are c.requires.rules.some.1
    c.in-Ok-sessions.answers.items c.in-Ok-sessions.ensures.ok (c.in-Ok-sessions.ensures.fresh (none_live c.begin_writers-writers.new.pass.knows.seen (c.begin_writers-writers.ensures.begin.seen ∙ c.requires.fresh.0))) c.seat_all-jobs.result.items c.seat_all-jobs.ensures in
    let ran =
    have_run (λ v. v.items) (λ s. s.seat) (λ s. s.seat) g.I.Src.Source.remaining g.I.Src.Source.faults g.O.Snk.Sink.contents g.O.Snk.Sink.faults g.T.Opened.opening g.T.Opened.outset.told c.begin_writers-writers.new.pass c.sessions.new.pass c.args.plan.now.queries
    c.in-Ok-sessions.answers.items c.seat_all-jobs.result.items c.open_all.new.jobs.items (with_items c.open_all.new.jobs c.answer_beside.new.jobs).items seated (sym c.open_all.new.jobs.ok.0 ∙ c.open_all.ensures.len ∙ c.create_all.ensures.len ∙ c.seat_all-jobs.result.ok.0)
    (c.open_all.ensures.refused ∙ c.create_all.ensures.refused) (c.open_all.ensures.sessions ∙ c.create_all.ensures.sessions) c.as_slice-queries.result.now c.as_mut_slice.result.now c.answer_beside.new.jobs (search rules) c.as_mut_slice.ensures.value
    (with_items_is c.open_all.new.jobs c.answer_beside.new.jobs (c.answer_beside.ensures.len ∙ ap length c.as_mut_slice.ensures.value ∙ sym c.open_all.new.jobs.ok.0)) c.answer_beside.ensures.len c.answer_beside.ensures.each in
    let len1 : length c.create_all.new.jobs.items ≡ length c.seat_all-jobs.result.items = sym c.create_all.new.jobs.ok.0 ∙ c.create_all.ensures.len ∙ c.seat_all-jobs.result.ok.0 in
    let len2 : length c.open_all.new.jobs.items ≡ length c.create_all.new.jobs.items = sym c.open_all.new.jobs.ok.0 ∙ c.open_all.ensures.len ∙ c.create_all.new.jobs.ok.0 in
    ended_works g.I.Src.Source.remaining g.I.Src.Source.faults g.O.Snk.Sink.contents g.O.Snk.Sink.faults g.T.Opened.opening g.T.Opened.outset.told (λ s. s.seat) c.args.plan.now.queries c.open_all.new.jobs.items (with_items c.open_all.new.jobs c.answer_beside.new.jobs).items ran.many ran.same ran.answered

pub close_all-requires-clause-sides : goal.close_all-requires-clause-sides
close_all-requires-clause-sides g c κs within =
    let asks_are = asks_so c.as_slice.result.now c.in_ok-asks.asks.items c.as_slice-queries.result.now c.args.plan.now.queries c.args.plan.now.block_len g.T.Opened.opening.block_len (search rules) c.in_ok-asks.ensures (search rules) c.requires.opening.block_len in
    let seated =
    are_seated (λ v. v.items) (λ s. s.seat) (λ s. s.seat) g.I.Src.Source.remaining g.I.Src.Source.faults g.O.Snk.Sink.contents g.O.Snk.Sink.faults g.T.Opened.opening g.T.Opened.outset.told c.begin_writers-writers.new.pass c.sessions.new.pass c.args.plan.now.queries c.as_slice.result.now asks_are c.requires.rules.some.1
    c.in-Ok-sessions.answers.items c.in-Ok-sessions.ensures.ok (c.in-Ok-sessions.ensures.fresh (none_live c.begin_writers-writers.new.pass.knows.seen (c.begin_writers-writers.ensures.begin.seen ∙ c.requires.fresh.0))) c.seat_all-jobs.result.items c.seat_all-jobs.ensures in
    let ran =
    have_run (λ v. v.items) (λ s. s.seat) (λ s. s.seat) g.I.Src.Source.remaining g.I.Src.Source.faults g.O.Snk.Sink.contents g.O.Snk.Sink.faults g.T.Opened.opening g.T.Opened.outset.told c.begin_writers-writers.new.pass c.sessions.new.pass c.args.plan.now.queries
    c.in-Ok-sessions.answers.items c.seat_all-jobs.result.items c.open_all.new.jobs.items (with_items c.open_all.new.jobs c.answer_beside.new.jobs).items seated (sym c.open_all.new.jobs.ok.0 ∙ c.open_all.ensures.len ∙ c.create_all.ensures.len ∙ c.seat_all-jobs.result.ok.0)
    (c.open_all.ensures.refused ∙ c.create_all.ensures.refused) (c.open_all.ensures.sessions ∙ c.create_all.ensures.sessions) c.as_slice-queries.result.now c.as_mut_slice.result.now c.answer_beside.new.jobs (search rules) c.as_mut_slice.ensures.value
    (with_items_is c.open_all.new.jobs c.answer_beside.new.jobs (c.answer_beside.ensures.len ∙ ap length c.as_mut_slice.ensures.value ∙ sym c.open_all.new.jobs.ok.0)) c.answer_beside.ensures.len c.answer_beside.ensures.each in
    let queries_are : c.as_slice-queries.result.now ≡ c.args.plan.now.queries = search rules in
    let len1 : length c.create_all.new.jobs.items ≡ length c.seat_all-jobs.result.items = sym c.create_all.new.jobs.ok.0 ∙ c.create_all.ensures.len ∙ c.seat_all-jobs.result.ok.0 in
    let len2 : length c.open_all.new.jobs.items ≡ length c.create_all.new.jobs.items = sym c.open_all.new.jobs.ok.0 ∙ c.open_all.ensures.len ∙ c.create_all.new.jobs.ok.0 in
    let works3 : AreWorks (seen (g.I.Inputs.bytes_at c.args.inputs.now) (g.I.Inputs.faults_at c.args.inputs.now) (g.O.Outputs.written c.args.outputs.now) (g.O.Outputs.is_created c.args.outputs.now) (g.O.Outputs.faults_at c.args.outputs.now) unknown) (seen (g.I.Inputs.bytes_at c.open_all.new.inputs) (g.I.Inputs.faults_at c.open_all.new.inputs) (g.O.Outputs.written c.create_all.new.outputs) (g.O.Outputs.is_created c.create_all.new.outputs) (g.O.Outputs.faults_at c.create_all.new.outputs) unknown) g.T.Opened.opening.block_len c.args.plan.now.queries (map (work_of g.I.Src.Source.remaining g.I.Src.Source.faults g.O.Snk.Sink.contents g.O.Snk.Sink.faults) (with_items c.open_all.new.jobs c.answer_beside.new.jobs).items) = works_unknown g.I.Src.Source.remaining g.I.Src.Source.faults g.O.Snk.Sink.contents g.O.Snk.Sink.faults g.T.Opened.opening g.T.Opened.outset.told (λ s. s.seat) (seen (g.I.Inputs.bytes_at c.args.inputs.now) (g.I.Inputs.faults_at c.args.inputs.now) (g.O.Outputs.written c.args.outputs.now) (g.O.Outputs.is_created c.args.outputs.now) (g.O.Outputs.faults_at c.args.outputs.now) g.T.Opened.first) (seen (g.I.Inputs.bytes_at c.args.inputs.now) (g.I.Inputs.faults_at c.args.inputs.now) (g.O.Outputs.written c.create_all.new.outputs) (g.O.Outputs.is_created c.create_all.new.outputs) (g.O.Outputs.faults_at c.create_all.new.outputs) g.T.Opened.first) (seen (g.I.Inputs.bytes_at c.open_all.new.inputs) (g.I.Inputs.faults_at c.open_all.new.inputs) (g.O.Outputs.written c.create_all.new.outputs) (g.O.Outputs.is_created c.create_all.new.outputs) (g.O.Outputs.faults_at c.create_all.new.outputs) g.T.Opened.first) c.args.plan.now.queries (bytes_of g.T.Opened.opening.block_len g.T.Opened.opening.blocks) c.seat_all-jobs.result.items c.create_all.new.jobs.items c.open_all.new.jobs.items (with_items c.open_all.new.jobs c.answer_beside.new.jobs).items seated.begin ran.same ran.alike ran.answered ran.come (subst (λ (queries : List Query). KeepsWorks (seen (g.I.Inputs.bytes_at c.args.inputs.now) (g.I.Inputs.faults_at c.args.inputs.now) (g.O.Outputs.written c.args.outputs.now) (g.O.Outputs.is_created c.args.outputs.now) (g.O.Outputs.faults_at c.args.outputs.now) unknown) (seen (g.I.Inputs.bytes_at c.args.inputs.now) (g.I.Inputs.faults_at c.args.inputs.now) (g.O.Outputs.written c.create_all.new.outputs) (g.O.Outputs.is_created c.create_all.new.outputs) (g.O.Outputs.faults_at c.create_all.new.outputs) unknown) queries (map (work_of g.I.Src.Source.remaining g.I.Src.Source.faults g.O.Snk.Sink.contents g.O.Snk.Sink.faults) c.seat_all-jobs.result.items) (map (work_of g.I.Src.Source.remaining g.I.Src.Source.faults g.O.Snk.Sink.contents g.O.Snk.Sink.faults) c.create_all.new.jobs.items)) queries_are (c.create_all.ensures.works (g.I.Inputs.bytes_at c.args.inputs.now) (g.I.Inputs.faults_at c.args.inputs.now) unknown)) (subst (λ (queries : List Query). KeepsWorks (seen (g.I.Inputs.bytes_at c.args.inputs.now) (g.I.Inputs.faults_at c.args.inputs.now) (g.O.Outputs.written c.create_all.new.outputs) (g.O.Outputs.is_created c.create_all.new.outputs) (g.O.Outputs.faults_at c.create_all.new.outputs) unknown) (seen (g.I.Inputs.bytes_at c.open_all.new.inputs) (g.I.Inputs.faults_at c.open_all.new.inputs) (g.O.Outputs.written c.create_all.new.outputs) (g.O.Outputs.is_created c.create_all.new.outputs) (g.O.Outputs.faults_at c.create_all.new.outputs) unknown) queries (map (work_of g.I.Src.Source.remaining g.I.Src.Source.faults g.O.Snk.Sink.contents g.O.Snk.Sink.faults) c.create_all.new.jobs.items) (map (work_of g.I.Src.Source.remaining g.I.Src.Source.faults g.O.Snk.Sink.contents g.O.Snk.Sink.faults) c.open_all.new.jobs.items)) queries_are (c.open_all.ensures.works (g.O.Outputs.written c.create_all.new.outputs) (g.O.Outputs.is_created c.create_all.new.outputs) (g.O.Outputs.faults_at c.create_all.new.outputs) unknown)) in
    subst (λ (queries : List Query). AreEach HasSides queries (map (work_of g.I.Src.Source.remaining g.I.Src.Source.faults g.O.Snk.Sink.contents g.O.Snk.Sink.faults) (with_items c.open_all.new.jobs c.answer_beside.new.jobs).items)) (sym queries_are)
    (sided_of (seen (g.I.Inputs.bytes_at c.args.inputs.now) (g.I.Inputs.faults_at c.args.inputs.now) (g.O.Outputs.written c.args.outputs.now) (g.O.Outputs.is_created c.args.outputs.now) (g.O.Outputs.faults_at c.args.outputs.now) unknown) (seen (g.I.Inputs.bytes_at c.open_all.new.inputs) (g.I.Inputs.faults_at c.open_all.new.inputs) (g.O.Outputs.written c.create_all.new.outputs) (g.O.Outputs.is_created c.create_all.new.outputs) (g.O.Outputs.faults_at c.create_all.new.outputs) unknown) g.T.Opened.opening.block_len c.args.plan.now.queries (map (work_of g.I.Src.Source.remaining g.I.Src.Source.faults g.O.Snk.Sink.contents g.O.Snk.Sink.faults) (with_items c.open_all.new.jobs c.answer_beside.new.jobs).items) works3)

pub finish_all-requires-clause-len : goal.finish_all-requires-clause-len
finish_all-requires-clause-len g c κs within =
    let asks_are = asks_so c.as_slice.result.now c.in_ok-asks.asks.items c.as_slice-queries.result.now c.args.plan.now.queries c.args.plan.now.block_len g.T.Opened.opening.block_len (search rules) c.in_ok-asks.ensures (search rules) c.requires.opening.block_len in
    let seated =
    are_seated (λ v. v.items) (λ s. s.seat) (λ s. s.seat) g.I.Src.Source.remaining g.I.Src.Source.faults g.O.Snk.Sink.contents g.O.Snk.Sink.faults g.T.Opened.opening g.T.Opened.outset.told c.begin_writers-writers.new.pass c.sessions.new.pass c.args.plan.now.queries c.as_slice.result.now asks_are c.requires.rules.some.1
    c.in-Ok-sessions.answers.items c.in-Ok-sessions.ensures.ok (c.in-Ok-sessions.ensures.fresh (none_live c.begin_writers-writers.new.pass.knows.seen (c.begin_writers-writers.ensures.begin.seen ∙ c.requires.fresh.0))) c.seat_all-jobs.result.items c.seat_all-jobs.ensures in
    let queries_are : c.as_slice-queries.result.now ≡ c.args.plan.now.queries = search rules in
    let same : length c.as_slice-queries.result.now ≡ length c.args.plan.now.queries = ap length queries_are in
    let items : length c.seat_all-jobs.result.items ≡ vec_len c.seat_all-jobs.result = sym c.seat_all-jobs.result.ok.0 in
    let four : vec_len c.close_all.new.jobs ≡ vec_len c.open_all.new.jobs = c.close_all.ensures.len in
    same ∙ seated.many ∙ items ∙ sym c.create_all.ensures.len ∙ sym c.open_all.ensures.len ∙ sym four

pub finish_all-requires-clause-apart : goal.finish_all-requires-clause-apart
finish_all-requires-clause-apart g c κs within =
    let queries_are : c.as_slice-queries.result.now ≡ c.args.plan.now.queries = search rules in
    subst (λ (queries : List Query). AreApart queries) (sym queries_are) c.requires.apart

pub finish_all-requires-clause-created : goal.finish_all-requires-clause-created
finish_all-requires-clause-created g c κs within =
    let asks_are = asks_so c.as_slice.result.now c.in_ok-asks.asks.items c.as_slice-queries.result.now c.args.plan.now.queries c.args.plan.now.block_len g.T.Opened.opening.block_len (search rules) c.in_ok-asks.ensures (search rules) c.requires.opening.block_len in
    let seated =
    are_seated (λ v. v.items) (λ s. s.seat) (λ s. s.seat) g.I.Src.Source.remaining g.I.Src.Source.faults g.O.Snk.Sink.contents g.O.Snk.Sink.faults g.T.Opened.opening g.T.Opened.outset.told c.begin_writers-writers.new.pass c.sessions.new.pass c.args.plan.now.queries c.as_slice.result.now asks_are c.requires.rules.some.1
    c.in-Ok-sessions.answers.items c.in-Ok-sessions.ensures.ok (c.in-Ok-sessions.ensures.fresh (none_live c.begin_writers-writers.new.pass.knows.seen (c.begin_writers-writers.ensures.begin.seen ∙ c.requires.fresh.0))) c.seat_all-jobs.result.items c.seat_all-jobs.ensures in
    let ran =
    have_run (λ v. v.items) (λ s. s.seat) (λ s. s.seat) g.I.Src.Source.remaining g.I.Src.Source.faults g.O.Snk.Sink.contents g.O.Snk.Sink.faults g.T.Opened.opening g.T.Opened.outset.told c.begin_writers-writers.new.pass c.sessions.new.pass c.args.plan.now.queries
    c.in-Ok-sessions.answers.items c.seat_all-jobs.result.items c.open_all.new.jobs.items (with_items c.open_all.new.jobs c.answer_beside.new.jobs).items seated (sym c.open_all.new.jobs.ok.0 ∙ c.open_all.ensures.len ∙ c.create_all.ensures.len ∙ c.seat_all-jobs.result.ok.0)
    (c.open_all.ensures.refused ∙ c.create_all.ensures.refused) (c.open_all.ensures.sessions ∙ c.create_all.ensures.sessions) c.as_slice-queries.result.now c.as_mut_slice.result.now c.answer_beside.new.jobs (search rules) c.as_mut_slice.ensures.value
    (with_items_is c.open_all.new.jobs c.answer_beside.new.jobs (c.answer_beside.ensures.len ∙ ap length c.as_mut_slice.ensures.value ∙ sym c.open_all.new.jobs.ok.0)) c.answer_beside.ensures.len c.answer_beside.ensures.each in
    let queries_are : c.as_slice-queries.result.now ≡ c.args.plan.now.queries = search rules in
    let len1 : length c.create_all.new.jobs.items ≡ length c.seat_all-jobs.result.items = sym c.create_all.new.jobs.ok.0 ∙ c.create_all.ensures.len ∙ c.seat_all-jobs.result.ok.0 in
    let len2 : length c.open_all.new.jobs.items ≡ length c.create_all.new.jobs.items = sym c.open_all.new.jobs.ok.0 ∙ c.open_all.ensures.len ∙ c.create_all.new.jobs.ok.0 in
    let works3 : AreWorks (seen (g.I.Inputs.bytes_at c.args.inputs.now) (g.I.Inputs.faults_at c.args.inputs.now) (g.O.Outputs.written c.args.outputs.now) (g.O.Outputs.is_created c.args.outputs.now) (g.O.Outputs.faults_at c.args.outputs.now) unknown) (seen (g.I.Inputs.bytes_at c.open_all.new.inputs) (g.I.Inputs.faults_at c.open_all.new.inputs) (g.O.Outputs.written c.create_all.new.outputs) (g.O.Outputs.is_created c.create_all.new.outputs) (g.O.Outputs.faults_at c.create_all.new.outputs) unknown) g.T.Opened.opening.block_len c.args.plan.now.queries (map (work_of g.I.Src.Source.remaining g.I.Src.Source.faults g.O.Snk.Sink.contents g.O.Snk.Sink.faults) (with_items c.open_all.new.jobs c.answer_beside.new.jobs).items) = works_unknown g.I.Src.Source.remaining g.I.Src.Source.faults g.O.Snk.Sink.contents g.O.Snk.Sink.faults g.T.Opened.opening g.T.Opened.outset.told (λ s. s.seat) (seen (g.I.Inputs.bytes_at c.args.inputs.now) (g.I.Inputs.faults_at c.args.inputs.now) (g.O.Outputs.written c.args.outputs.now) (g.O.Outputs.is_created c.args.outputs.now) (g.O.Outputs.faults_at c.args.outputs.now) g.T.Opened.first) (seen (g.I.Inputs.bytes_at c.args.inputs.now) (g.I.Inputs.faults_at c.args.inputs.now) (g.O.Outputs.written c.create_all.new.outputs) (g.O.Outputs.is_created c.create_all.new.outputs) (g.O.Outputs.faults_at c.create_all.new.outputs) g.T.Opened.first) (seen (g.I.Inputs.bytes_at c.open_all.new.inputs) (g.I.Inputs.faults_at c.open_all.new.inputs) (g.O.Outputs.written c.create_all.new.outputs) (g.O.Outputs.is_created c.create_all.new.outputs) (g.O.Outputs.faults_at c.create_all.new.outputs) g.T.Opened.first) c.args.plan.now.queries (bytes_of g.T.Opened.opening.block_len g.T.Opened.opening.blocks) c.seat_all-jobs.result.items c.create_all.new.jobs.items c.open_all.new.jobs.items (with_items c.open_all.new.jobs c.answer_beside.new.jobs).items seated.begin ran.same ran.alike ran.answered ran.come (subst (λ (queries : List Query). KeepsWorks (seen (g.I.Inputs.bytes_at c.args.inputs.now) (g.I.Inputs.faults_at c.args.inputs.now) (g.O.Outputs.written c.args.outputs.now) (g.O.Outputs.is_created c.args.outputs.now) (g.O.Outputs.faults_at c.args.outputs.now) unknown) (seen (g.I.Inputs.bytes_at c.args.inputs.now) (g.I.Inputs.faults_at c.args.inputs.now) (g.O.Outputs.written c.create_all.new.outputs) (g.O.Outputs.is_created c.create_all.new.outputs) (g.O.Outputs.faults_at c.create_all.new.outputs) unknown) queries (map (work_of g.I.Src.Source.remaining g.I.Src.Source.faults g.O.Snk.Sink.contents g.O.Snk.Sink.faults) c.seat_all-jobs.result.items) (map (work_of g.I.Src.Source.remaining g.I.Src.Source.faults g.O.Snk.Sink.contents g.O.Snk.Sink.faults) c.create_all.new.jobs.items)) queries_are (c.create_all.ensures.works (g.I.Inputs.bytes_at c.args.inputs.now) (g.I.Inputs.faults_at c.args.inputs.now) unknown)) (subst (λ (queries : List Query). KeepsWorks (seen (g.I.Inputs.bytes_at c.args.inputs.now) (g.I.Inputs.faults_at c.args.inputs.now) (g.O.Outputs.written c.create_all.new.outputs) (g.O.Outputs.is_created c.create_all.new.outputs) (g.O.Outputs.faults_at c.create_all.new.outputs) unknown) (seen (g.I.Inputs.bytes_at c.open_all.new.inputs) (g.I.Inputs.faults_at c.open_all.new.inputs) (g.O.Outputs.written c.create_all.new.outputs) (g.O.Outputs.is_created c.create_all.new.outputs) (g.O.Outputs.faults_at c.create_all.new.outputs) unknown) queries (map (work_of g.I.Src.Source.remaining g.I.Src.Source.faults g.O.Snk.Sink.contents g.O.Snk.Sink.faults) c.create_all.new.jobs.items) (map (work_of g.I.Src.Source.remaining g.I.Src.Source.faults g.O.Snk.Sink.contents g.O.Snk.Sink.faults) c.open_all.new.jobs.items)) queries_are (c.open_all.ensures.works (g.O.Outputs.written c.create_all.new.outputs) (g.O.Outputs.is_created c.create_all.new.outputs) (g.O.Outputs.faults_at c.create_all.new.outputs) unknown)) in
    subst (λ (queries : List Query). AreMade (g.O.Outputs.is_created c.create_all.new.outputs) queries (map (work_of g.I.Src.Source.remaining g.I.Src.Source.faults g.O.Snk.Sink.contents g.O.Snk.Sink.faults) c.close_all.new.jobs.items)) (sym queries_are)
    (made_of (seen (g.I.Inputs.bytes_at c.args.inputs.now) (g.I.Inputs.faults_at c.args.inputs.now) (g.O.Outputs.written c.args.outputs.now) (g.O.Outputs.is_created c.args.outputs.now) (g.O.Outputs.faults_at c.args.outputs.now) unknown) (seen (g.I.Inputs.bytes_at c.close_all.new.inputs) (g.I.Inputs.faults_at c.close_all.new.inputs) (g.O.Outputs.written c.create_all.new.outputs) (g.O.Outputs.is_created c.create_all.new.outputs) (g.O.Outputs.faults_at c.create_all.new.outputs) unknown) g.T.Opened.opening.block_len c.args.plan.now.queries (map (work_of g.I.Src.Source.remaining g.I.Src.Source.faults g.O.Snk.Sink.contents g.O.Snk.Sink.faults) c.close_all.new.jobs.items) ((subst (λ (queries : List Query). KeepsWorks (seen (g.I.Inputs.bytes_at c.open_all.new.inputs) (g.I.Inputs.faults_at c.open_all.new.inputs) (g.O.Outputs.written c.create_all.new.outputs) (g.O.Outputs.is_created c.create_all.new.outputs) (g.O.Outputs.faults_at c.create_all.new.outputs) unknown) (seen (g.I.Inputs.bytes_at c.close_all.new.inputs) (g.I.Inputs.faults_at c.close_all.new.inputs) (g.O.Outputs.written c.create_all.new.outputs) (g.O.Outputs.is_created c.create_all.new.outputs) (g.O.Outputs.faults_at c.create_all.new.outputs) unknown) queries (map (work_of g.I.Src.Source.remaining g.I.Src.Source.faults g.O.Snk.Sink.contents g.O.Snk.Sink.faults) (with_items c.open_all.new.jobs c.answer_beside.new.jobs).items) (map (work_of g.I.Src.Source.remaining g.I.Src.Source.faults g.O.Snk.Sink.contents g.O.Snk.Sink.faults) c.close_all.new.jobs.items)) queries_are (c.close_all.ensures.works (g.O.Outputs.written c.create_all.new.outputs) (g.O.Outputs.is_created c.create_all.new.outputs) (g.O.Outputs.faults_at c.create_all.new.outputs) unknown)) (seen (g.I.Inputs.bytes_at c.args.inputs.now) (g.I.Inputs.faults_at c.args.inputs.now) (g.O.Outputs.written c.args.outputs.now) (g.O.Outputs.is_created c.args.outputs.now) (g.O.Outputs.faults_at c.args.outputs.now) unknown) g.T.Opened.opening.block_len works3))

pub endings-ends-requires-clause-ended : goal.endings-ends-requires-clause-ended
endings-ends-requires-clause-ended g c =
    subst (All (λ job. IsSome job.ended)) (sym c.as_slice-2.ensures.value) (all_have_ended g.I.Src.Source.remaining g.I.Src.Source.faults g.O.Snk.Sink.contents g.O.Snk.Sink.faults c.finish_all.new.jobs.items c.finish_all.ensures.step)

pub endings-ends-requires-clause-room : goal.endings-ends-requires-clause-room
endings-ends-requires-clause-room g c =
    let asks_are = asks_so c.as_slice.result.now c.in_ok-asks.asks.items c.as_slice-queries.result.now c.args.plan.now.queries c.args.plan.now.block_len g.T.Opened.opening.block_len (search rules) c.in_ok-asks.ensures (search rules) c.requires.opening.block_len in
    let seated =
    are_seated (λ v. v.items) (λ s. s.seat) (λ s. s.seat) g.I.Src.Source.remaining g.I.Src.Source.faults g.O.Snk.Sink.contents g.O.Snk.Sink.faults g.T.Opened.opening g.T.Opened.outset.told c.begin_writers-writers.new.pass c.sessions.new.pass c.args.plan.now.queries c.as_slice.result.now asks_are c.requires.rules.some.1
    c.in-Ok-sessions.answers.items c.in-Ok-sessions.ensures.ok (c.in-Ok-sessions.ensures.fresh (none_live c.begin_writers-writers.new.pass.knows.seen (c.begin_writers-writers.ensures.begin.seen ∙ c.requires.fresh.0))) c.seat_all-jobs.result.items c.seat_all-jobs.ensures in
    let queries_are : c.as_slice-queries.result.now ≡ c.args.plan.now.queries = search rules in
    let same : length c.as_slice-queries.result.now ≡ length c.args.plan.now.queries = ap length queries_are in
    let items : length c.seat_all-jobs.result.items ≡ vec_len c.seat_all-jobs.result = sym c.seat_all-jobs.result.ok.0 in
    let slice : length c.as_slice-2.result.now ≡ vec_len c.finish_all.new.jobs = ap length c.as_slice-2.ensures.value ∙ sym c.finish_all.new.jobs.ok.0 in
    let room = c.in_ok-ends.ensures.capacity in
    let l1 = c.create_all.ensures.len in
    let l2 = c.open_all.ensures.len in
    let l4 : vec_len c.close_all.new.jobs ≡ vec_len c.open_all.new.jobs = c.close_all.ensures.len in
    let l5 = c.finish_all.ensures.len in
    omega (arith, slice, room, same, seated.many, items, l1, l2, l4, l5)

pub end_all-requires-clause-closed : goal.end_all-requires-clause-closed
end_all-requires-clause-closed g c κs within =
    all_closed g.I.Src.Source.remaining g.I.Src.Source.faults g.O.Snk.Sink.contents g.O.Snk.Sink.faults c.finish_all.new.jobs.items c.finish_all.ensures.step

pub end_all-requires-clause-idle : goal.end_all-requires-clause-idle
end_all-requires-clause-idle g c κs within =
    let asks_are = asks_so c.as_slice.result.now c.in_ok-asks.asks.items c.as_slice-queries.result.now c.args.plan.now.queries c.args.plan.now.block_len g.T.Opened.opening.block_len (search rules) c.in_ok-asks.ensures (search rules) c.requires.opening.block_len in
    let seated =
    are_seated (λ v. v.items) (λ s. s.seat) (λ s. s.seat) g.I.Src.Source.remaining g.I.Src.Source.faults g.O.Snk.Sink.contents g.O.Snk.Sink.faults g.T.Opened.opening g.T.Opened.outset.told c.begin_writers-writers.new.pass c.sessions.new.pass c.args.plan.now.queries c.as_slice.result.now asks_are c.requires.rules.some.1
    c.in-Ok-sessions.answers.items c.in-Ok-sessions.ensures.ok (c.in-Ok-sessions.ensures.fresh (none_live c.begin_writers-writers.new.pass.knows.seen (c.begin_writers-writers.ensures.begin.seen ∙ c.requires.fresh.0))) c.seat_all-jobs.result.items c.seat_all-jobs.ensures in
    let ran =
    have_run (λ v. v.items) (λ s. s.seat) (λ s. s.seat) g.I.Src.Source.remaining g.I.Src.Source.faults g.O.Snk.Sink.contents g.O.Snk.Sink.faults g.T.Opened.opening g.T.Opened.outset.told c.begin_writers-writers.new.pass c.sessions.new.pass c.args.plan.now.queries
    c.in-Ok-sessions.answers.items c.seat_all-jobs.result.items c.open_all.new.jobs.items (with_items c.open_all.new.jobs c.answer_beside.new.jobs).items seated (sym c.open_all.new.jobs.ok.0 ∙ c.open_all.ensures.len ∙ c.create_all.ensures.len ∙ c.seat_all-jobs.result.ok.0)
    (c.open_all.ensures.refused ∙ c.create_all.ensures.refused) (c.open_all.ensures.sessions ∙ c.create_all.ensures.sessions) c.as_slice-queries.result.now c.as_mut_slice.result.now c.answer_beside.new.jobs (search rules) c.as_mut_slice.ensures.value
    (with_items_is c.open_all.new.jobs c.answer_beside.new.jobs (c.answer_beside.ensures.len ∙ ap length c.as_mut_slice.ensures.value ∙ sym c.open_all.new.jobs.ok.0)) c.answer_beside.ensures.len c.answer_beside.ensures.each in
    let len1 : length c.create_all.new.jobs.items ≡ length c.seat_all-jobs.result.items = sym c.create_all.new.jobs.ok.0 ∙ c.create_all.ensures.len ∙ c.seat_all-jobs.result.ok.0 in
    let len2 : length c.open_all.new.jobs.items ≡ length c.create_all.new.jobs.items = sym c.open_all.new.jobs.ok.0 ∙ c.open_all.ensures.len ∙ c.create_all.new.jobs.ok.0 in
    all_idle g.I.Src.Source.remaining g.I.Src.Source.faults g.O.Snk.Sink.contents g.O.Snk.Sink.faults g.T.Opened.opening g.T.Opened.outset.told (λ s. s.seat) c.open_all.new.jobs.items (with_items c.open_all.new.jobs c.answer_beside.new.jobs).items c.finish_all.new.jobs.items ran.alike (c.finish_all.ensures.sessions ∙ c.close_all.ensures.sessions)

pub returns-clause-gone : goal.returns-clause-gone
returns-clause-gone g c =
    let waits : Waits c.sessions.new.pass c.end_writers-2.new.pass =
    waits_then c.sessions.new.pass c.answer_beside.new.pass c.end_writers-2.new.pass (stops_waits c.sessions.new.pass c.answer_beside.new.pass c.law_pass-2.ensures.1 c.answer_beside.ensures.stops) c.end_writers-2.ensures.waits in
    let asks_are = asks_so c.as_slice.result.now c.in_ok-asks.asks.items c.as_slice-queries.result.now c.args.plan.now.queries c.args.plan.now.block_len g.T.Opened.opening.block_len (search rules) c.in_ok-asks.ensures (search rules) c.requires.opening.block_len in
    let seated =
    are_seated (λ v. v.items) (λ s. s.seat) (λ s. s.seat) g.I.Src.Source.remaining g.I.Src.Source.faults g.O.Snk.Sink.contents g.O.Snk.Sink.faults g.T.Opened.opening g.T.Opened.outset.told c.begin_writers-writers.new.pass c.sessions.new.pass c.args.plan.now.queries c.as_slice.result.now asks_are c.requires.rules.some.1
    c.in-Ok-sessions.answers.items c.in-Ok-sessions.ensures.ok (c.in-Ok-sessions.ensures.fresh (none_live c.begin_writers-writers.new.pass.knows.seen (c.begin_writers-writers.ensures.begin.seen ∙ c.requires.fresh.0))) c.seat_all-jobs.result.items c.seat_all-jobs.ensures in
    let ran =
    have_run (λ v. v.items) (λ s. s.seat) (λ s. s.seat) g.I.Src.Source.remaining g.I.Src.Source.faults g.O.Snk.Sink.contents g.O.Snk.Sink.faults g.T.Opened.opening g.T.Opened.outset.told c.begin_writers-writers.new.pass c.sessions.new.pass c.args.plan.now.queries
    c.in-Ok-sessions.answers.items c.seat_all-jobs.result.items c.open_all.new.jobs.items (with_items c.open_all.new.jobs c.answer_beside.new.jobs).items seated (sym c.open_all.new.jobs.ok.0 ∙ c.open_all.ensures.len ∙ c.create_all.ensures.len ∙ c.seat_all-jobs.result.ok.0)
    (c.open_all.ensures.refused ∙ c.create_all.ensures.refused) (c.open_all.ensures.sessions ∙ c.create_all.ensures.sessions) c.as_slice-queries.result.now c.as_mut_slice.result.now c.answer_beside.new.jobs (search rules) c.as_mut_slice.ensures.value
    (with_items_is c.open_all.new.jobs c.answer_beside.new.jobs (c.answer_beside.ensures.len ∙ ap length c.as_mut_slice.ensures.value ∙ sym c.open_all.new.jobs.ok.0)) c.answer_beside.ensures.len c.answer_beside.ensures.each in
    let len1 : length c.create_all.new.jobs.items ≡ length c.seat_all-jobs.result.items = sym c.create_all.new.jobs.ok.0 ∙ c.create_all.ensures.len ∙ c.seat_all-jobs.result.ok.0 in
    let len2 : length c.open_all.new.jobs.items ≡ length c.create_all.new.jobs.items = sym c.open_all.new.jobs.ok.0 ∙ c.open_all.ensures.len ∙ c.create_all.new.jobs.ok.0 in
    let ended : EndAll g.T.Opened.opening g.T.Opened.outset.told (lasts_of (stays_of g.I.Src.Source.remaining g.I.Src.Source.faults g.O.Snk.Sink.contents g.O.Snk.Sink.faults g.T.Opened.opening g.T.Opened.outset.told (λ s. s.seat) c.open_all.new.jobs.items (with_items c.open_all.new.jobs c.answer_beside.new.jobs).items)) c.end_writers-2.new.pass c.end_all.new.pass =
    subst (λ (ss : List (Option Sitting)). EndAll g.T.Opened.opening g.T.Opened.outset.told ss c.end_writers-2.new.pass c.end_all.new.pass) (sym (lasts_are g.I.Src.Source.remaining g.I.Src.Source.faults g.O.Snk.Sink.contents g.O.Snk.Sink.faults g.T.Opened.opening g.T.Opened.outset.told (λ s. s.seat) c.open_all.new.jobs.items (with_items c.open_all.new.jobs c.answer_beside.new.jobs).items ran.alike ∙ sym (seen_same (option_map (λ s. s.seat)) (λ job. job.session) c.finish_all.new.jobs.items (with_items c.open_all.new.jobs c.answer_beside.new.jobs).items (c.finish_all.ensures.sessions ∙ c.close_all.ensures.sessions)))) c.end_all.ensures.ends in (
      none_left g.T.Opened.opening g.T.Opened.outset.told c.args.plan.now.queries c.begin_writers-writers.new.pass c.sessions.new.pass c.end_writers-2.new.pass c.end_all.new.pass c.law_pass.ensures waits c.law_pass-3.ensures (c.begin_writers-writers.ensures.begin.seen ∙ c.requires.fresh.0) (map (seen_in (λ v. v.items) (λ s. s.seat)) c.in-Ok-sessions.answers.items) seated.admits (stays_of g.I.Src.Source.remaining g.I.Src.Source.faults g.O.Snk.Sink.contents g.O.Snk.Sink.faults g.T.Opened.opening g.T.Opened.outset.told (λ s. s.seat) c.open_all.new.jobs.items (with_items c.open_all.new.jobs c.answer_beside.new.jobs).items) ran.firsts (numbers_kept g.I.Src.Source.remaining g.I.Src.Source.faults g.O.Snk.Sink.contents g.O.Snk.Sink.faults g.T.Opened.opening g.T.Opened.outset.told (λ s. s.seat) c.open_all.new.jobs.items (with_items c.open_all.new.jobs c.answer_beside.new.jobs).items ran.alike) ended,
      none_out g.T.Opened.opening g.T.Opened.outset.told c.args.plan.now.queries c.begin_writers-writers.new.pass c.sessions.new.pass c.end_writers-2.new.pass c.end_all.new.pass c.law_pass.ensures waits c.law_pass-3.ensures (c.begin_writers-writers.ensures.begin.seen ∙ c.requires.fresh.0) (map (seen_in (λ v. v.items) (λ s. s.seat)) c.in-Ok-sessions.answers.items) seated.admits (stays_of g.I.Src.Source.remaining g.I.Src.Source.faults g.O.Snk.Sink.contents g.O.Snk.Sink.faults g.T.Opened.opening g.T.Opened.outset.told (λ s. s.seat) c.open_all.new.jobs.items (with_items c.open_all.new.jobs c.answer_beside.new.jobs).items) ran.firsts (numbers_kept g.I.Src.Source.remaining g.I.Src.Source.faults g.O.Snk.Sink.contents g.O.Snk.Sink.faults g.T.Opened.opening g.T.Opened.outset.told (λ s. s.seat) c.open_all.new.jobs.items (with_items c.open_all.new.jobs c.answer_beside.new.jobs).items ran.alike) ended c.end_writers-2.ensures.none,
    )

pub returns-clause-len : goal.returns-clause-len
returns-clause-len g c =
    let asks_are = asks_so c.as_slice.result.now c.in_ok-asks.asks.items c.as_slice-queries.result.now c.args.plan.now.queries c.args.plan.now.block_len g.T.Opened.opening.block_len (search rules) c.in_ok-asks.ensures (search rules) c.requires.opening.block_len in
    let seated =
    are_seated (λ v. v.items) (λ s. s.seat) (λ s. s.seat) g.I.Src.Source.remaining g.I.Src.Source.faults g.O.Snk.Sink.contents g.O.Snk.Sink.faults g.T.Opened.opening g.T.Opened.outset.told c.begin_writers-writers.new.pass c.sessions.new.pass c.args.plan.now.queries c.as_slice.result.now asks_are c.requires.rules.some.1
    c.in-Ok-sessions.answers.items c.in-Ok-sessions.ensures.ok (c.in-Ok-sessions.ensures.fresh (none_live c.begin_writers-writers.new.pass.knows.seen (c.begin_writers-writers.ensures.begin.seen ∙ c.requires.fresh.0))) c.seat_all-jobs.result.items c.seat_all-jobs.ensures in
    let ends_are : map (λ ending. Some ending) c.endings-ends.result.items ≡ map (λ job. job.ended) c.finish_all.new.jobs.items = c.endings-ends.ensures ∙ ap (map (λ job. job.ended)) c.as_slice-2.ensures.value in
    let ends = as_many g.I.Src.Source.remaining g.I.Src.Source.faults g.O.Snk.Sink.contents g.O.Snk.Sink.faults c.finish_all.new.jobs.items c.endings-ends.result.items ends_are in
    let list : vec_len c.endings-ends.result ≡ length c.endings-ends.result.items = c.endings-ends.result.ok.0 in
    let items : length c.seat_all-jobs.result.items ≡ vec_len c.seat_all-jobs.result = sym c.seat_all-jobs.result.ok.0 in
    let last : vec_len c.finish_all.new.jobs ≡ length c.finish_all.new.jobs.items = c.finish_all.new.jobs.ok.0 in
    let l1 = c.create_all.ensures.len in
    let l2 = c.open_all.ensures.len in
    let l4 : vec_len c.close_all.new.jobs ≡ vec_len c.open_all.new.jobs = c.close_all.ensures.len in
    let l5 = c.finish_all.ensures.len in
    omega (arith, ends, list, items, last, seated.many, l1, l2, l4, l5)

pub returns-clause-ran : goal.returns-clause-ran
returns-clause-ran g c =
    let waits : Waits c.sessions.new.pass c.end_writers-2.new.pass =
    waits_then c.sessions.new.pass c.answer_beside.new.pass c.end_writers-2.new.pass (stops_waits c.sessions.new.pass c.answer_beside.new.pass c.law_pass-2.ensures.1 c.answer_beside.ensures.stops) c.end_writers-2.ensures.waits in
    let asks_are = asks_so c.as_slice.result.now c.in_ok-asks.asks.items c.as_slice-queries.result.now c.args.plan.now.queries c.args.plan.now.block_len g.T.Opened.opening.block_len (search rules) c.in_ok-asks.ensures (search rules) c.requires.opening.block_len in
    let seated =
    are_seated (λ v. v.items) (λ s. s.seat) (λ s. s.seat) g.I.Src.Source.remaining g.I.Src.Source.faults g.O.Snk.Sink.contents g.O.Snk.Sink.faults g.T.Opened.opening g.T.Opened.outset.told c.begin_writers-writers.new.pass c.sessions.new.pass c.args.plan.now.queries c.as_slice.result.now asks_are c.requires.rules.some.1
    c.in-Ok-sessions.answers.items c.in-Ok-sessions.ensures.ok (c.in-Ok-sessions.ensures.fresh (none_live c.begin_writers-writers.new.pass.knows.seen (c.begin_writers-writers.ensures.begin.seen ∙ c.requires.fresh.0))) c.seat_all-jobs.result.items c.seat_all-jobs.ensures in
    let ran =
    have_run (λ v. v.items) (λ s. s.seat) (λ s. s.seat) g.I.Src.Source.remaining g.I.Src.Source.faults g.O.Snk.Sink.contents g.O.Snk.Sink.faults g.T.Opened.opening g.T.Opened.outset.told c.begin_writers-writers.new.pass c.sessions.new.pass c.args.plan.now.queries
    c.in-Ok-sessions.answers.items c.seat_all-jobs.result.items c.open_all.new.jobs.items (with_items c.open_all.new.jobs c.answer_beside.new.jobs).items seated (sym c.open_all.new.jobs.ok.0 ∙ c.open_all.ensures.len ∙ c.create_all.ensures.len ∙ c.seat_all-jobs.result.ok.0)
    (c.open_all.ensures.refused ∙ c.create_all.ensures.refused) (c.open_all.ensures.sessions ∙ c.create_all.ensures.sessions) c.as_slice-queries.result.now c.as_mut_slice.result.now c.answer_beside.new.jobs (search rules) c.as_mut_slice.ensures.value
    (with_items_is c.open_all.new.jobs c.answer_beside.new.jobs (c.answer_beside.ensures.len ∙ ap length c.as_mut_slice.ensures.value ∙ sym c.open_all.new.jobs.ok.0)) c.answer_beside.ensures.len c.answer_beside.ensures.each in
    let queries_are : c.as_slice-queries.result.now ≡ c.args.plan.now.queries = search rules in
    let len1 : length c.create_all.new.jobs.items ≡ length c.seat_all-jobs.result.items = sym c.create_all.new.jobs.ok.0 ∙ c.create_all.ensures.len ∙ c.seat_all-jobs.result.ok.0 in
    let len2 : length c.open_all.new.jobs.items ≡ length c.create_all.new.jobs.items = sym c.open_all.new.jobs.ok.0 ∙ c.open_all.ensures.len ∙ c.create_all.new.jobs.ok.0 in
    let len4 : length c.close_all.new.jobs.items ≡ length (with_items c.open_all.new.jobs c.answer_beside.new.jobs).items = sym c.close_all.new.jobs.ok.0 ∙ c.close_all.ensures.len ∙ c.open_all.new.jobs.ok.0 ∙ sym ran.same in
    let len5 : length c.finish_all.new.jobs.items ≡ length c.close_all.new.jobs.items = sym c.finish_all.new.jobs.ok.0 ∙ c.finish_all.ensures.len ∙ c.close_all.new.jobs.ok.0 in
    let ended : EndAll g.T.Opened.opening g.T.Opened.outset.told (lasts_of (stays_of g.I.Src.Source.remaining g.I.Src.Source.faults g.O.Snk.Sink.contents g.O.Snk.Sink.faults g.T.Opened.opening g.T.Opened.outset.told (λ s. s.seat) c.open_all.new.jobs.items (with_items c.open_all.new.jobs c.answer_beside.new.jobs).items)) c.end_writers-2.new.pass c.end_all.new.pass =
    subst (λ (ss : List (Option Sitting)). EndAll g.T.Opened.opening g.T.Opened.outset.told ss c.end_writers-2.new.pass c.end_all.new.pass) (sym (lasts_are g.I.Src.Source.remaining g.I.Src.Source.faults g.O.Snk.Sink.contents g.O.Snk.Sink.faults g.T.Opened.opening g.T.Opened.outset.told (λ s. s.seat) c.open_all.new.jobs.items (with_items c.open_all.new.jobs c.answer_beside.new.jobs).items ran.alike ∙ sym (seen_same (option_map (λ s. s.seat)) (λ job. job.session) c.finish_all.new.jobs.items (with_items c.open_all.new.jobs c.answer_beside.new.jobs).items (c.finish_all.ensures.sessions ∙ c.close_all.ensures.sessions)))) c.end_all.ensures.ends in
    let ends_are : map (λ ending. Some ending) c.endings-ends.result.items ≡ map (λ job. job.ended) c.finish_all.new.jobs.items = c.endings-ends.ensures ∙ ap (map (λ job. job.ended)) c.as_slice-2.ensures.value in
    let all = gathered g.I.Src.Source.remaining g.I.Src.Source.faults g.O.Snk.Sink.contents g.O.Snk.Sink.faults g.T.Opened.opening g.T.Opened.outset.told (λ s. s.seat) (seen (g.I.Inputs.bytes_at c.args.inputs.now) (g.I.Inputs.faults_at c.args.inputs.now) (g.O.Outputs.written c.args.outputs.now) (g.O.Outputs.is_created c.args.outputs.now) (g.O.Outputs.faults_at c.args.outputs.now) g.T.Opened.first) (seen (g.I.Inputs.bytes_at c.args.inputs.now) (g.I.Inputs.faults_at c.args.inputs.now) (g.O.Outputs.written c.create_all.new.outputs) (g.O.Outputs.is_created c.create_all.new.outputs) (g.O.Outputs.faults_at c.create_all.new.outputs) g.T.Opened.first) (seen (g.I.Inputs.bytes_at c.open_all.new.inputs) (g.I.Inputs.faults_at c.open_all.new.inputs) (g.O.Outputs.written c.create_all.new.outputs) (g.O.Outputs.is_created c.create_all.new.outputs) (g.O.Outputs.faults_at c.create_all.new.outputs) g.T.Opened.first) (seen (g.I.Inputs.bytes_at c.close_all.new.inputs) (g.I.Inputs.faults_at c.close_all.new.inputs) (g.O.Outputs.written c.create_all.new.outputs) (g.O.Outputs.is_created c.create_all.new.outputs) (g.O.Outputs.faults_at c.create_all.new.outputs) g.T.Opened.first) (seen (g.I.Inputs.bytes_at c.close_all.new.inputs) (g.I.Inputs.faults_at c.close_all.new.inputs) (g.O.Outputs.written c.finish_all.new.outputs) (g.O.Outputs.is_created c.finish_all.new.outputs) (g.O.Outputs.faults_at c.finish_all.new.outputs) g.T.Opened.first) c.args.plan.now.queries (bytes_of g.T.Opened.opening.block_len g.T.Opened.opening.blocks) c.seat_all-jobs.result.items c.create_all.new.jobs.items c.open_all.new.jobs.items (with_items c.open_all.new.jobs c.answer_beside.new.jobs).items c.close_all.new.jobs.items c.finish_all.new.jobs.items c.endings-ends.result.items seated.begin seated.many len1 len2 ran.same len4 len5
    (λ slots. subst (λ (queries : List Query). KeepsWorks (seen (g.I.Inputs.bytes_at c.args.inputs.now) (g.I.Inputs.faults_at c.args.inputs.now) (g.O.Outputs.written c.args.outputs.now) (g.O.Outputs.is_created c.args.outputs.now) (g.O.Outputs.faults_at c.args.outputs.now) slots) (seen (g.I.Inputs.bytes_at c.args.inputs.now) (g.I.Inputs.faults_at c.args.inputs.now) (g.O.Outputs.written c.create_all.new.outputs) (g.O.Outputs.is_created c.create_all.new.outputs) (g.O.Outputs.faults_at c.create_all.new.outputs) slots) queries (map (work_of g.I.Src.Source.remaining g.I.Src.Source.faults g.O.Snk.Sink.contents g.O.Snk.Sink.faults) c.seat_all-jobs.result.items) (map (work_of g.I.Src.Source.remaining g.I.Src.Source.faults g.O.Snk.Sink.contents g.O.Snk.Sink.faults) c.create_all.new.jobs.items)) queries_are (c.create_all.ensures.works (g.I.Inputs.bytes_at c.args.inputs.now) (g.I.Inputs.faults_at c.args.inputs.now) slots)) (λ slots. subst (λ (queries : List Query). KeepsWorks (seen (g.I.Inputs.bytes_at c.args.inputs.now) (g.I.Inputs.faults_at c.args.inputs.now) (g.O.Outputs.written c.create_all.new.outputs) (g.O.Outputs.is_created c.create_all.new.outputs) (g.O.Outputs.faults_at c.create_all.new.outputs) slots) (seen (g.I.Inputs.bytes_at c.open_all.new.inputs) (g.I.Inputs.faults_at c.open_all.new.inputs) (g.O.Outputs.written c.create_all.new.outputs) (g.O.Outputs.is_created c.create_all.new.outputs) (g.O.Outputs.faults_at c.create_all.new.outputs) slots) queries (map (work_of g.I.Src.Source.remaining g.I.Src.Source.faults g.O.Snk.Sink.contents g.O.Snk.Sink.faults) c.create_all.new.jobs.items) (map (work_of g.I.Src.Source.remaining g.I.Src.Source.faults g.O.Snk.Sink.contents g.O.Snk.Sink.faults) c.open_all.new.jobs.items)) queries_are (c.open_all.ensures.works (g.O.Outputs.written c.create_all.new.outputs) (g.O.Outputs.is_created c.create_all.new.outputs) (g.O.Outputs.faults_at c.create_all.new.outputs) slots)) c.open_all.ensures.step ran.answered (λ slots. subst (λ (queries : List Query). KeepsWorks (seen (g.I.Inputs.bytes_at c.open_all.new.inputs) (g.I.Inputs.faults_at c.open_all.new.inputs) (g.O.Outputs.written c.create_all.new.outputs) (g.O.Outputs.is_created c.create_all.new.outputs) (g.O.Outputs.faults_at c.create_all.new.outputs) slots) (seen (g.I.Inputs.bytes_at c.close_all.new.inputs) (g.I.Inputs.faults_at c.close_all.new.inputs) (g.O.Outputs.written c.create_all.new.outputs) (g.O.Outputs.is_created c.create_all.new.outputs) (g.O.Outputs.faults_at c.create_all.new.outputs) slots) queries (map (work_of g.I.Src.Source.remaining g.I.Src.Source.faults g.O.Snk.Sink.contents g.O.Snk.Sink.faults) (with_items c.open_all.new.jobs c.answer_beside.new.jobs).items) (map (work_of g.I.Src.Source.remaining g.I.Src.Source.faults g.O.Snk.Sink.contents g.O.Snk.Sink.faults) c.close_all.new.jobs.items)) queries_are (c.close_all.ensures.works (g.O.Outputs.written c.create_all.new.outputs) (g.O.Outputs.is_created c.create_all.new.outputs) (g.O.Outputs.faults_at c.create_all.new.outputs) slots)) (λ slots. subst (λ (queries : List Query). KeepsWorks (seen (g.I.Inputs.bytes_at c.close_all.new.inputs) (g.I.Inputs.faults_at c.close_all.new.inputs) (g.O.Outputs.written c.create_all.new.outputs) (g.O.Outputs.is_created c.create_all.new.outputs) (g.O.Outputs.faults_at c.create_all.new.outputs) slots) (seen (g.I.Inputs.bytes_at c.close_all.new.inputs) (g.I.Inputs.faults_at c.close_all.new.inputs) (g.O.Outputs.written c.finish_all.new.outputs) (g.O.Outputs.is_created c.finish_all.new.outputs) (g.O.Outputs.faults_at c.finish_all.new.outputs) slots) queries (map (work_of g.I.Src.Source.remaining g.I.Src.Source.faults g.O.Snk.Sink.contents g.O.Snk.Sink.faults) c.close_all.new.jobs.items) (map (work_of g.I.Src.Source.remaining g.I.Src.Source.faults g.O.Snk.Sink.contents g.O.Snk.Sink.faults) c.finish_all.new.jobs.items)) queries_are (c.finish_all.ensures.works (g.I.Inputs.bytes_at c.close_all.new.inputs) (g.I.Inputs.faults_at c.close_all.new.inputs) slots)) c.finish_all.ensures.step
    c.create_all.ensures.refused c.open_all.ensures.refused (refused_kept g.I.Src.Source.remaining g.I.Src.Source.faults g.O.Snk.Sink.contents g.O.Snk.Sink.faults g.T.Opened.opening g.T.Opened.outset.told (λ s. s.seat) c.args.plan.now.queries c.open_all.new.jobs.items (with_items c.open_all.new.jobs c.answer_beside.new.jobs).items ran.many ran.same ran.answered) c.close_all.ensures.refused c.finish_all.ensures.refused
    c.create_all.ensures.answers c.open_all.ensures.answers c.close_all.ensures.answers c.finish_all.ensures.answers ran.alike ran.come ends_are c.end_all.new.pass (uncounted_yet g.T.Opened.first) (each_stayed g.T.Opened.opening g.T.Opened.outset.told c.args.plan.now.queries c.begin_writers-writers.new.pass c.sessions.new.pass c.end_writers-2.new.pass c.end_all.new.pass c.law_pass.ensures waits c.law_pass-3.ensures (c.begin_writers-writers.ensures.begin.seen ∙ c.requires.fresh.0) (map (seen_in (λ v. v.items) (λ s. s.seat)) c.in-Ok-sessions.answers.items) seated.admits (stays_of g.I.Src.Source.remaining g.I.Src.Source.faults g.O.Snk.Sink.contents g.O.Snk.Sink.faults g.T.Opened.opening g.T.Opened.outset.told (λ s. s.seat) c.open_all.new.jobs.items (with_items c.open_all.new.jobs c.answer_beside.new.jobs).items) ran.firsts (numbers_kept g.I.Src.Source.remaining g.I.Src.Source.faults g.O.Snk.Sink.contents g.O.Snk.Sink.faults g.T.Opened.opening g.T.Opened.outset.told (λ s. s.seat) c.open_all.new.jobs.items (with_items c.open_all.new.jobs c.answer_beside.new.jobs).items ran.alike) ended) (all_stays g.T.Opened.opening g.T.Opened.outset.told c.args.plan.now.queries c.begin_writers-writers.new.pass c.sessions.new.pass c.end_writers-2.new.pass c.end_all.new.pass c.law_pass.ensures waits c.law_pass-3.ensures (c.begin_writers-writers.ensures.begin.seen ∙ c.requires.fresh.0) (map (seen_in (λ v. v.items) (λ s. s.seat)) c.in-Ok-sessions.answers.items) seated.admits (stays_of g.I.Src.Source.remaining g.I.Src.Source.faults g.O.Snk.Sink.contents g.O.Snk.Sink.faults g.T.Opened.opening g.T.Opened.outset.told (λ s. s.seat) c.open_all.new.jobs.items (with_items c.open_all.new.jobs c.answer_beside.new.jobs).items) ran.firsts (numbers_kept g.I.Src.Source.remaining g.I.Src.Source.faults g.O.Snk.Sink.contents g.O.Snk.Sink.faults g.T.Opened.opening g.T.Opened.outset.told (λ s. s.seat) c.open_all.new.jobs.items (with_items c.open_all.new.jobs c.answer_beside.new.jobs).items ran.alike) ended) in
    refused_of g.T.Opened.opening c.args.plan.now g.T.Opened.outset.told (seen (g.I.Inputs.bytes_at c.args.inputs.now) (g.I.Inputs.faults_at c.args.inputs.now) (g.O.Outputs.written c.args.outputs.now) (g.O.Outputs.is_created c.args.outputs.now) (g.O.Outputs.faults_at c.args.outputs.now) g.T.Opened.first) (seen (g.I.Inputs.bytes_at c.close_all.new.inputs) (g.I.Inputs.faults_at c.close_all.new.inputs) (g.O.Outputs.written c.finish_all.new.outputs) (g.O.Outputs.is_created c.finish_all.new.outputs) (g.O.Outputs.faults_at c.finish_all.new.outputs) g.T.Opened.first) c.end_all.new.pass c.endings-ends.result.items c.requires.opening.block_len c.requires.opening.blocks all

pub returns-clause-went : goal.returns-clause-went
returns-clause-went g c =
    λ last back.
    went_through (seen (g.I.Inputs.bytes_at c.args.inputs.now) (g.I.Inputs.faults_at c.args.inputs.now) (g.O.Outputs.written c.args.outputs.now) (g.O.Outputs.is_created c.args.outputs.now) (g.O.Outputs.faults_at c.args.outputs.now) g.T.Opened.first) (seen (g.I.Inputs.bytes_at c.args.inputs.now) (g.I.Inputs.faults_at c.args.inputs.now) (g.O.Outputs.written c.create_all.new.outputs) (g.O.Outputs.is_created c.create_all.new.outputs) (g.O.Outputs.faults_at c.create_all.new.outputs) g.T.Opened.first) (seen (g.I.Inputs.bytes_at c.open_all.new.inputs) (g.I.Inputs.faults_at c.open_all.new.inputs) (g.O.Outputs.written c.create_all.new.outputs) (g.O.Outputs.is_created c.create_all.new.outputs) (g.O.Outputs.faults_at c.create_all.new.outputs) g.T.Opened.first) (seen (g.I.Inputs.bytes_at c.open_all.new.inputs) (g.I.Inputs.faults_at c.open_all.new.inputs) (g.O.Outputs.written c.create_all.new.outputs) (g.O.Outputs.is_created c.create_all.new.outputs) (g.O.Outputs.faults_at c.create_all.new.outputs) last) (seen (g.I.Inputs.bytes_at c.close_all.new.inputs) (g.I.Inputs.faults_at c.close_all.new.inputs) (g.O.Outputs.written c.create_all.new.outputs) (g.O.Outputs.is_created c.create_all.new.outputs) (g.O.Outputs.faults_at c.create_all.new.outputs) last) (seen (g.I.Inputs.bytes_at c.close_all.new.inputs) (g.I.Inputs.faults_at c.close_all.new.inputs) (g.O.Outputs.written c.finish_all.new.outputs) (g.O.Outputs.is_created c.finish_all.new.outputs) (g.O.Outputs.faults_at c.finish_all.new.outputs) last)
    (c.create_all.ensures.went (g.I.Inputs.bytes_at c.args.inputs.now) (g.I.Inputs.faults_at c.args.inputs.now) g.T.Opened.first) (c.open_all.ensures.went (g.O.Outputs.written c.create_all.new.outputs) (g.O.Outputs.is_created c.create_all.new.outputs) (g.O.Outputs.faults_at c.create_all.new.outputs) g.T.Opened.first)
    (went_slots g.T.Opened.first last (seen (g.I.Inputs.bytes_at c.open_all.new.inputs) (g.I.Inputs.faults_at c.open_all.new.inputs) (g.O.Outputs.written c.create_all.new.outputs) (g.O.Outputs.is_created c.create_all.new.outputs) (g.O.Outputs.faults_at c.create_all.new.outputs) g.T.Opened.first) back)
    (c.close_all.ensures.went (g.O.Outputs.written c.create_all.new.outputs) (g.O.Outputs.is_created c.create_all.new.outputs) (g.O.Outputs.faults_at c.create_all.new.outputs) last) (c.finish_all.ensures.went (g.I.Inputs.bytes_at c.close_all.new.inputs) (g.I.Inputs.faults_at c.close_all.new.inputs) last)

pub returns-in_err-ends-clause-gone : goal.returns-in_err-ends-clause-gone
returns-in_err-ends-clause-gone g c = (none_live c.args.pass.now.knows.seen c.requires.fresh.0, c.requires.fresh.2)

pub returns-in_err-asks-clause-gone : goal.returns-in_err-asks-clause-gone
returns-in_err-asks-clause-gone g c = (none_live c.args.pass.now.knows.seen c.requires.fresh.0, c.requires.fresh.2)

pub returns-in_err-jobs-clause-gone : goal.returns-in_err-jobs-clause-gone
returns-in_err-jobs-clause-gone g c = (none_live c.args.pass.now.knows.seen c.requires.fresh.0, c.requires.fresh.2)

pub returns-in_default-clause-gone : goal.returns-in_default-clause-gone
returns-in_default-clause-gone g c = (none_live c.args.pass.now.knows.seen c.requires.fresh.0, c.requires.fresh.2)

pub end_writers-requires-clause-at : goal.end_writers-requires-clause-at
end_writers-requires-clause-at g c =
    let same : c.sessions.new.pass ≡ c.begin_writers-writers.new.pass = search rules in
    all_seen_so (λ w. w.seat.spot.table) c.args.pool.now c.sessions.new.pass.table c.begin_writers-writers.result.items c.begin_writers-writers.result.items refl
    (sym (ap (λ (p : Spot Item). p.table) same ∙ c.begin_writers-writers.ensures.begin.table ∙ c.requires.table)) c.begin_writers-writers.ensures.at

pub returns-in_default-sessions-clause-gone : goal.returns-in_default-sessions-clause-gone
returns-in_default-sessions-clause-gone g c =
    let same : c.sessions.new.pass ≡ c.begin_writers-writers.new.pass = search rules in (
      live_waits c.sessions.new.pass c.end_writers.new.pass c.end_writers.ensures.waits ∙ ap (λ (p : Spot Item). live_in p.knows.seen) same
          ∙ none_live c.begin_writers-writers.new.pass.knows.seen (c.begin_writers-writers.ensures.begin.seen ∙ c.requires.fresh.0),
      c.end_writers.ensures.none,
    )

pub end_writers-requires-2-clause-at : goal.end_writers-requires-2-clause-at
end_writers-requires-2-clause-at g c =
    let at = c.answer_beside.ensures.at in
    let value : c.as_mut_slice-2.result.now ≡ c.begin_writers-writers.result.items = c.as_mut_slice-2.ensures.value in
    let many : length c.answer_beside.new.writers ≡ vec_len c.begin_writers-writers.result =
    sym (length-map c.answer_beside.new.writers (λ w. w.seat.spot.table)) ∙ ap length at ∙ length-map c.as_mut_slice-2.result.now (λ w. w.seat.spot.table) ∙ ap length value ∙ sym c.begin_writers-writers.result.ok.0 in
    all_seen_so (λ w. w.seat.spot.table) c.args.pool.now c.answer_beside.new.pass.table c.begin_writers-writers.result.items (with_items c.begin_writers-writers.result c.answer_beside.new.writers).items
    (ap (map (λ w. w.seat.spot.table)) (with_items_is c.begin_writers-writers.result c.answer_beside.new.writers many) ∙ at ∙ ap (map (λ w. w.seat.spot.table)) value)
    (sym (c.answer_beside.ensures.stops.keeps.table ∙ c.in-Ok-sessions.ensures.ok.table ∙ c.begin_writers-writers.ensures.begin.table ∙ c.requires.table)) c.begin_writers-writers.ensures.at
