use Rattle.std.proofs.Common.{◌≡◌, IfSome, None, ap, map, option_map, refl, rules, subst, ◌∙◌}
use Rattle.pool.specs.Sitting.{held_by}
use Rattle.spill_top.proofs.Seating.{all_before, gone_none, gone_one, gone_yet, of_last}
use Rattle.spill_top.proofs.seats.end_all.Goals as goal

pub loop-jobs-init : goal.loop-jobs-init
loop-jobs-init g c = record {
  gone = gone_yet g.T.Opened.opening g.T.Opened.outset.told (map (λ job. option_map (λ s. s.seat) job.session) c.args.jobs.items) c.args.pass.now;
  closed = c.requires.closed;
  idle = c.requires.idle;
  table = refl;
}

pub let_go-requires : goal.let_go-requires
let_go-requires g c = (of_last (λ job. (job.left ≡ None) × (job.right ≡ None) × (job.sink ≡ None)) c.loop-jobs.jobs.items c.take_last-left.new.self.items c.take_last-left.result c.take_last-left.ensures.items c.loop-jobs.invariant.closed).0

pub let_go-requires-in-loop-jobs : goal.let_go-requires-in-loop-jobs
let_go-requires-in-loop-jobs g c = (of_last (λ job. (job.left ≡ None) × (job.right ≡ None) × (job.sink ≡ None)) c.loop-jobs.jobs.items c.take_last-left.new.self.items c.take_last-left.result c.take_last-left.ensures.items c.loop-jobs.invariant.closed).1

pub let_go-requires-in-loop-jobs-2 : goal.let_go-requires-in-loop-jobs-2
let_go-requires-in-loop-jobs-2 g c = (of_last (λ job. (job.left ≡ None) × (job.right ≡ None) × (job.sink ≡ None)) c.loop-jobs.jobs.items c.take_last-left.new.self.items c.take_last-left.result c.take_last-left.ensures.items c.loop-jobs.invariant.closed).2

pub end_one-requires-clause-idle : goal.end_one-requires-clause-idle
end_one-requires-clause-idle g c κs within =
    subst (λ session. IfSome session (λ s. (held_by g.T.Opened.opening g.T.Opened.outset.told s.seat).live_clients ≡ 0)) c.in-Some.is
    (of_last (λ job. IfSome job.session (λ s. (held_by g.T.Opened.opening g.T.Opened.outset.told s.seat).live_clients ≡ 0)) c.loop-jobs.jobs.items c.take_last-left.new.self.items c.take_last-left.result c.take_last-left.ensures.items c.loop-jobs.invariant.idle)

pub loop-jobs-preserved-in-Some : goal.loop-jobs-preserved-in-Some
loop-jobs-preserved-in-Some g c = record {
  gone = gone_one g.T.Opened.opening g.T.Opened.outset.told (λ job. option_map (λ s. s.seat) job.session) (map (λ job. option_map (λ s. s.seat) job.session) c.args.jobs.items) c.loop-jobs.jobs.items c.take_last-left.new.self.items c.take_last-left.result c.in-Some.session.seat c.args.pass.now c.loop-jobs.pass c.end_one.new.pass
      c.take_last-left.ensures.items (ap (option_map (λ s. s.seat)) c.in-Some.is) c.loop-jobs.invariant.gone c.end_one.ensures.ends;
  closed = all_before (λ job. (job.left ≡ None) × (job.right ≡ None) × (job.sink ≡ None)) c.loop-jobs.jobs.items c.take_last-left.new.self.items c.take_last-left.result c.take_last-left.ensures.items c.loop-jobs.invariant.closed;
  idle = all_before (λ job. IfSome job.session (λ s. (held_by g.T.Opened.opening g.T.Opened.outset.told s.seat).live_clients ≡ 0)) c.loop-jobs.jobs.items c.take_last-left.new.self.items c.take_last-left.result c.take_last-left.ensures.items c.loop-jobs.invariant.idle;
  table = c.end_one.ensures.table ∙ c.loop-jobs.invariant.table;
}

pub loop-jobs-preserved : goal.loop-jobs-preserved
loop-jobs-preserved g c =
    let none : c.take_last-left.result.session ≡ None = search rules in
    record {
      gone = gone_none g.T.Opened.opening g.T.Opened.outset.told (λ job. option_map (λ s. s.seat) job.session) (map (λ job. option_map (λ s. s.seat) job.session) c.args.jobs.items) c.loop-jobs.jobs.items c.take_last-left.new.self.items c.take_last-left.result c.args.pass.now c.loop-jobs.pass
          c.take_last-left.ensures.items (ap (option_map (λ s. s.seat)) none) c.loop-jobs.invariant.gone;
      closed = all_before (λ job. (job.left ≡ None) × (job.right ≡ None) × (job.sink ≡ None)) c.loop-jobs.jobs.items c.take_last-left.new.self.items c.take_last-left.result c.take_last-left.ensures.items c.loop-jobs.invariant.closed;
      idle = all_before (λ job. IfSome job.session (λ s. (held_by g.T.Opened.opening g.T.Opened.outset.told s.seat).live_clients ≡ 0)) c.loop-jobs.jobs.items c.take_last-left.new.self.items c.take_last-left.result c.take_last-left.ensures.items c.loop-jobs.invariant.idle;
      table = c.loop-jobs.invariant.table;
    }
