use Rattle.std.proofs.Common.{◌≡◌, ◌≤◌, ◌++◌, Some, drop, length, map, vec_capacity, vec_len}
use Rattle.spill_top.proofs.job.endings.Given as goal

abbrev pub invariant-loop-job : goal.invariant-loop-job
invariant-loop-job g l = record {
  ends : map (λ ending. Some ending) l.ends.items ++ map (λ job. job.ended) (drop l.job-index l.jobs) ≡ map (λ job. job.ended) l.jobs;
  len : vec_len l.ends ≡ l.job-index;
  capacity : length l.jobs ≤ vec_capacity l.ends;
}
