use Rattle.std.proofs.Common.{◌≡◌, ℕ, List, Option, map, vec_len}
use Rattle.pin_core.specs.declared.tally.Tally.{Tally}
use Rattle.spill_top.specs.Running.{Went, seen}
use Rattle.spill_top.specs.Jobs.{work_of}
use Rattle.spill_top.specs.Steps.{GiveNoAnswers, IsBegun, IsCreated, KeepsWorks}
use Rattle.spill_top.proofs.Loops.{Going}
use Rattle.spill_top.proofs.run.create_all.Given as goal

abbrev pub invariant-loop-place : goal.invariant-loop-place
invariant-loop-place g l = record {
  len : vec_len l.jobs ≡ vec_len l.initial.jobs;
  going : Going IsBegun IsCreated l.place (map (work_of g.S.Source.remaining g.S.Source.faults g.O.Snk.Sink.contents g.O.Snk.Sink.faults) l.initial.jobs.items) (map (work_of g.S.Source.remaining g.S.Source.faults g.O.Snk.Sink.contents g.O.Snk.Sink.faults) l.jobs.items);
  answers : GiveNoAnswers (map (work_of g.S.Source.remaining g.S.Source.faults g.O.Snk.Sink.contents g.O.Snk.Sink.faults) l.initial.jobs.items) (map (work_of g.S.Source.remaining g.S.Source.faults g.O.Snk.Sink.contents g.O.Snk.Sink.faults) l.jobs.items);
  sessions : map (λ job. job.session) l.jobs.items ≡ map (λ job. job.session) l.initial.jobs.items;
  works : (files : List ℕ → Option (List ℕ)) (reads : List ℕ → ℕ) (slots : Tally) → KeepsWorks (seen files reads (g.O.Outputs.written l.initial.outputs) (g.O.Outputs.is_created l.initial.outputs) (g.O.Outputs.faults_at l.initial.outputs) slots) (seen files reads (g.O.Outputs.written l.outputs) (g.O.Outputs.is_created l.outputs) (g.O.Outputs.faults_at l.outputs) slots) l.queries (map (work_of g.S.Source.remaining g.S.Source.faults g.O.Snk.Sink.contents g.O.Snk.Sink.faults) l.initial.jobs.items) (map (work_of g.S.Source.remaining g.S.Source.faults g.O.Snk.Sink.contents g.O.Snk.Sink.faults) l.jobs.items);
  went : (files : List ℕ → Option (List ℕ)) (reads : List ℕ → ℕ) (slots : Tally) → Went (seen files reads (g.O.Outputs.written l.initial.outputs) (g.O.Outputs.is_created l.initial.outputs) (g.O.Outputs.faults_at l.initial.outputs) slots) (seen files reads (g.O.Outputs.written l.outputs) (g.O.Outputs.is_created l.outputs) (g.O.Outputs.faults_at l.outputs) slots);
}
