use Rattle.std.proofs.Common.{◌≡◌, arith, sym, ◌∙◌}
use Rattle.spill_top.proofs.Seating.{all_before, of_last}
use Rattle.spill_top.proofs.Waiting.{takes_waits, waits_none, waits_then}
use Rattle.spill_top.proofs.writers.end_writers.Goals as goal

pub loop-writers-init : goal.loop-writers-init
loop-writers-init g c = record { waits = waits_none c.args.pass.now; at = c.requires.at; out = c.requires.out; is = c.law_pass.ensures }

pub end-requires-clause-table : goal.end-requires-clause-table
end-requires-clause-table g c =
    c.loop-writers.invariant.waits.table
    ∙ sym (of_last (λ w. w.seat.spot.table ≡ c.args.pass.now.table) c.loop-writers.writers.items c.take_last.new.self.items c.take_last.result c.take_last.ensures.items c.loop-writers.invariant.at)

pub loop-writers-preserved : goal.loop-writers-preserved
loop-writers-preserved g c = record {
  waits = waits_then c.args.pass.now c.loop-writers.pass c.end.new.pass c.loop-writers.invariant.waits
      (takes_waits c.loop-writers.pass c.end.new.pass c.loop-writers.invariant.is.1 c.take_last.result.seat c.end.ensures);
  at = all_before (λ w. w.seat.spot.table ≡ c.args.pass.now.table) c.loop-writers.writers.items c.take_last.new.self.items c.take_last.result c.take_last.ensures.items c.loop-writers.invariant.at;
  out = omega (arith, c.end.ensures.writers, c.loop-writers.invariant.out, c.take_last.ensures.len);
  is = c.law_pass-in-loop-writers.ensures;
}
