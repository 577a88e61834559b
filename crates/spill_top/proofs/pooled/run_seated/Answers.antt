use Rattle.std.proofs.Common.{◌≡◌, ◌∙◌, inr, length, map, sym, ap, arith, rules}
use Rattle.std.specs.Prelude.{vec_len}
use Rattle.std.specs.Vec.{with_items}
use Rattle.std.proofs.lemmas.List.{length-map, with_items_is}
use Rattle.pool.specs.Seats.{taken_in}
use Rattle.pool.proofs.AtOpen.{none_taken}
use Rattle.query_plan.specs.Sizes.{least_of}
use Rattle.query_run.specs.Both.{told_in}
use Rattle.spill_top.specs.Beside.{Waits}
use Rattle.spill_top.proofs.Answering.{all_unmarked}
use Rattle.spill_top.proofs.Asks.{may_come}
use Rattle.spill_top.proofs.OneSession.{none_left, none_live, ran_alone, same_number}
use Rattle.spill_top.proofs.Waiting.{live_waits, stops_waits, waits_then}
use Rattle.spill_top.proofs.Writing.{all_seen_so}
use Rattle.spill_top.proofs.pooled.run_seated.Goals as goal

pub returns-in_default-clause-gone : goal.returns-in_default-clause-gone
returns-in_default-clause-gone g c = (none_live c.args.pass.now.knows.seen c.requires.fresh.0, c.requires.fresh.2)

pub session-requires-clause-spare : goal.session-requires-clause-spare
session-requires-clause-spare g c =
    let none : taken_in c.begin_writers-writers.new.pass.knows.seen ≡ 0 = ap taken_in (c.begin_writers-writers.ensures.begin.seen ∙ c.requires.fresh.0) ∙ none_taken in
    let most = c.requires.quota in
    omega (arith, none, most)

pub end_writers-requires-clause-at : goal.end_writers-requires-clause-at
end_writers-requires-clause-at g c = λ k d small.
    c.begin_writers-writers.ensures.at k d small ∙ sym (c.in-Err-Memory.ensures.err.table ∙ c.begin_writers-writers.ensures.begin.table ∙ c.requires.table)

pub returns-in-Err-Memory-clause-gone : goal.returns-in-Err-Memory-clause-gone
returns-in-Err-Memory-clause-gone g c = (
  live_waits c.session.new.pass c.end_writers.new.pass c.end_writers.ensures.waits ∙ c.in-Err-Memory.ensures.err.count
      ∙ none_live c.begin_writers-writers.new.pass.knows.seen (c.begin_writers-writers.ensures.begin.seen ∙ c.requires.fresh.0),
  c.end_writers.ensures.none,
)

pub unreachable-requires : goal.unreachable-requires
unreachable-requires g c =
    let is = c.in-Err.ensures.fresh (none_live c.begin_writers-writers.new.pass.knows.seen (c.begin_writers-writers.ensures.begin.seen ∙ c.requires.fresh.0))
    (may_come g.T.Opened.opening c.args.run.now.query.now c.args.run.now.conf.block_len c.args.run.now.quota c.least-wanted.result c.least-wanted.ensures.least c.requires.memory) in
    search (rules, is)

pub end_writers-requires-2-clause-at : goal.end_writers-requires-2-clause-at
end_writers-requires-2-clause-at g c =
    let at = c.run_beside-ran.ensures.at in
    let value : c.as_mut_slice.result.now ≡ c.begin_writers-writers.result.items = c.as_mut_slice.ensures.value in
    let many : length c.run_beside-ran.new.writers ≡ vec_len c.begin_writers-writers.result =
    sym (length-map c.run_beside-ran.new.writers (λ w. w.seat.spot.table)) ∙ ap length at ∙ length-map c.as_mut_slice.result.now (λ w. w.seat.spot.table) ∙ ap length value ∙ sym c.begin_writers-writers.result.ok.0 in
    all_seen_so (λ w. w.seat.spot.table) c.args.pool.now c.run_beside-ran.new.pass.table c.begin_writers-writers.result.items (with_items c.begin_writers-writers.result c.run_beside-ran.new.writers).items
    (ap (map (λ w. w.seat.spot.table)) (with_items_is c.begin_writers-writers.result c.run_beside-ran.new.writers many) ∙ at ∙ ap (map (λ w. w.seat.spot.table)) value)
    (sym (c.run_beside-ran.ensures.stops.keeps.table ∙ c.in-Ok-session.ensures.ok.table.0 ∙ c.begin_writers-writers.ensures.begin.table ∙ c.requires.table)) c.begin_writers-writers.ensures.at

pub end-requires-clause-table : goal.end-requires-clause-table
end-requires-clause-table g c κs within =
    c.end_writers-2.ensures.waits.table ∙ c.run_beside-ran.ensures.stops.keeps.table ∙ c.in-Ok-session.ensures.ok.table.0 ∙ c.begin_writers-writers.ensures.begin.table ∙ c.requires.table
    ∙ sym (c.law_there.ensures c.args.pool.now c.requires.named)

pub returns-clause-gone : goal.returns-clause-gone
returns-clause-gone g c =
    let waits : Waits c.session.new.pass c.end_writers-2.new.pass = waits_then c.session.new.pass c.run_beside-ran.new.pass c.end_writers-2.new.pass
    (stops_waits c.session.new.pass c.run_beside-ran.new.pass c.law_pass-2.ensures.1 c.run_beside-ran.ensures.stops) c.end_writers-2.ensures.waits in (
      none_left g.T.Opened.opening g.T.Opened.outset.told c.args.run.now.query.now.limit c.args.run.now.quota c.least-wanted.result g.T.Opened.opening.slots c.begin_writers-writers.new.pass c.session.new.pass c.end_writers-2.new.pass c.end.new.pass c.in-Ok-session.session.seat c.run_beside-ran.new.store.seat
          c.law_pass.ensures c.law_pass-3.ensures c.law_pass-4.ensures (c.begin_writers-writers.ensures.begin.seen ∙ c.requires.fresh.0) c.in-Ok-session.ensures.ok waits c.law_sits.ensures
          (same_number g.T.Opened.opening g.T.Opened.outset.told c.in-Ok-session.session.seat c.run_beside-ran.new.store.seat c.run_beside-ran.ensures.ran.ran.store.left) c.end.ensures,
      c.end.ensures.writers ∙ c.end_writers-2.ensures.none,
    )

pub returns-clause-ran : goal.returns-clause-ran
returns-clause-ran g c =
    let waits : Waits c.session.new.pass c.end_writers-2.new.pass = waits_then c.session.new.pass c.run_beside-ran.new.pass c.end_writers-2.new.pass
    (stops_waits c.session.new.pass c.run_beside-ran.new.pass c.law_pass-2.ensures.1 c.run_beside-ran.ensures.stops) c.end_writers-2.ensures.waits in
    let least : c.least-wanted.result ≡ least_of c.args.run.now.query.now g.T.Opened.opening.block_len = c.least-wanted.ensures.least ∙ ap (least_of c.args.run.now.query.now) c.requires.memory.0 in
    inr (ran_alone g.T.Opened.opening g.T.Opened.outset.told c.args.run.now.query.now c.args.run.now.quota c.least-wanted.result g.T.Opened.opening.slots c.begin_writers-writers.new.pass c.session.new.pass c.end_writers-2.new.pass c.end.new.pass c.in-Ok-session.session.seat c.run_beside-ran.new.store.seat
    c.law_pass.ensures c.law_pass-3.ensures c.law_pass-4.ensures (c.begin_writers-writers.ensures.begin.seen ∙ c.requires.fresh.0) least c.in-Ok-session.ensures.ok waits c.law_sits.ensures c.end.ensures
    (g.S.Source.remaining c.args.left.now) (told_in g.S.Source.remaining c.args.right.now) c.run_beside-ran.result
    c.run_beside-ran.ensures.ran.ran.store (all_unmarked c.args.run.now.query.now _ _ _ _ c.run_beside-ran.result c.run_beside-ran.ensures.ran.ran.pool c.run_beside-ran.ensures.ran.unmarked) c.run_beside-ran.ensures.ran.ran.kept)
