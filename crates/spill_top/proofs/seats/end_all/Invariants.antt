use Rattle.std.proofs.Common.{◌≡◌, IfSome, map, option_map, vec_len}
use Rattle.std.specs.List.{All}
use Rattle.pool.specs.Sitting.{held_by}
use Rattle.spill_top.specs.Steps.{AreClosed}
use Rattle.spill_top.proofs.Seating.{AreGone}
use Rattle.spill_top.proofs.seats.end_all.Given as goal

abbrev pub invariant-loop-jobs : goal.invariant-loop-jobs
invariant-loop-jobs g l = record {
  gone : AreGone g.T.Opened.opening g.T.Opened.outset.told (map (λ job. option_map (λ s. s.seat) job.session) l.fn.jobs.items) (map (λ job. option_map (λ s. s.seat) job.session) l.jobs.items) l.fn.pass l.pass;
  closed : AreClosed l.jobs.items;
  idle : All (λ job. IfSome job.session (λ s. (held_by g.T.Opened.opening g.T.Opened.outset.told s.seat).live_clients ≡ 0)) l.jobs.items;
  table : l.pass.table ≡ l.fn.pass.table;
}

abbrev pub decreases-loop-jobs : goal.decreases-loop-jobs
decreases-loop-jobs g l = vec_len l.jobs
