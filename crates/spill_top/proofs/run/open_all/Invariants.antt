use Rattle.std.proofs.Common.{◌≡◌, ℕ, Bool, List, Option, map, vec_len}
use Rattle.outside.specs.Names.{Written}
use Rattle.pin_core.specs.declared.tally.Tally.{Tally}
use Rattle.spill_top.specs.Running.{Went, seen}
use Rattle.spill_top.specs.Jobs.{work_of}
use Rattle.spill_top.specs.Steps.{GiveNoAnswers, IsCreated, IsOpen, KeepsWorks}
use Rattle.spill_top.proofs.Loops.{Going}
use Rattle.spill_top.proofs.run.open_all.Given as goal

abbrev pub invariant-loop-place : goal.invariant-loop-place
invariant-loop-place g l = record {
  len : vec_len l.jobs ≡ vec_len l.initial.jobs;
  going : Going IsCreated IsOpen l.place (map (work_of g.I.Src.Source.remaining g.I.Src.Source.faults g.K.Sink.contents g.K.Sink.faults) l.initial.jobs.items) (map (work_of g.I.Src.Source.remaining g.I.Src.Source.faults g.K.Sink.contents g.K.Sink.faults) l.jobs.items);
  answers : GiveNoAnswers (map (work_of g.I.Src.Source.remaining g.I.Src.Source.faults g.K.Sink.contents g.K.Sink.faults) l.initial.jobs.items) (map (work_of g.I.Src.Source.remaining g.I.Src.Source.faults g.K.Sink.contents g.K.Sink.faults) l.jobs.items);
  sessions : map (λ job. job.session) l.jobs.items ≡ map (λ job. job.session) l.initial.jobs.items;
  works : (written : List ℕ → Option Written) (created : List ℕ → Bool) (writes : List ℕ → ℕ) (slots : Tally) → KeepsWorks (seen (g.I.Inputs.bytes_at l.initial.inputs) (g.I.Inputs.faults_at l.initial.inputs) written created writes slots) (seen (g.I.Inputs.bytes_at l.inputs) (g.I.Inputs.faults_at l.inputs) written created writes slots) l.queries (map (work_of g.I.Src.Source.remaining g.I.Src.Source.faults g.K.Sink.contents g.K.Sink.faults) l.initial.jobs.items) (map (work_of g.I.Src.Source.remaining g.I.Src.Source.faults g.K.Sink.contents g.K.Sink.faults) l.jobs.items);
  went : (written : List ℕ → Option Written) (created : List ℕ → Bool) (writes : List ℕ → ℕ) (slots : Tally) → Went (seen (g.I.Inputs.bytes_at l.initial.inputs) (g.I.Inputs.faults_at l.initial.inputs) written created writes slots) (seen (g.I.Inputs.bytes_at l.inputs) (g.I.Inputs.faults_at l.inputs) written created writes slots);
}
