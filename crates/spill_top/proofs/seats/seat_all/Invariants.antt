use Rattle.std.proofs.Common.{◌≡◌, ◌+◌, ◌≤◌, ◌++◌, map, reverse, vec_capacity, vec_len}
use Rattle.std.specs.List.{All}
use Rattle.pool.specs.Asking.{answer_of}
use Rattle.spill_top.specs.Together.{IsOneOrRefused, job_with, over_seat}
use Rattle.spill_top.proofs.seats.seat_all.Given as goal

-- the answers that are left stand from the last to the first
abbrev pub invariant-loop-answers : goal.invariant-loop-answers
invariant-loop-answers g l = record {
  jobs : map (over_seat (λ s. s.seat)) l.jobs.items ++ map (λ answer. job_with (answer_of (λ v. v.items) (λ s. s.seat) answer)) (reverse l.answers.items) ≡ map (λ answer. job_with (answer_of (λ v. v.items) (λ s. s.seat) answer)) l.fn.answers.items;
  each : All (λ answer. IsOneOrRefused (answer_of (λ v. v.items) (λ s. s.seat) answer)) l.answers.items;
  few : vec_len l.answers + vec_len l.jobs ≤ 16;
  room : vec_len l.answers + vec_len l.jobs ≤ vec_capacity l.jobs;
}

abbrev pub decreases-loop-answers : goal.decreases-loop-answers
decreases-loop-answers g l = vec_len l.answers
