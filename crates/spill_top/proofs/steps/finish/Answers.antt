use Rattle.std.proofs.Common.{◌≡◌, ◌∙◌, false, true, Err, refl, sym, rules, arith}
use Rattle.outside.specs.declared.stream.Failed.{Failed}
use Rattle.pin_core.proofs.Tallied.{uncounted_yet}
use Rattle.spill_top.specs.Running.{Went, seen}
use Rattle.spill_top.proofs.Ended.{job_failed, job_given, job_short}
use Rattle.spill_top.proofs.steps.finish.Goals as goal

pub returns-in-Ok-clause-work : goal.returns-in-Ok-clause-work
returns-in-Ok-clause-work g c = λ files reads slots start block_len all is.
    let went : Went (seen files reads (g.O.Outputs.written c.args.outputs.now) (g.O.Outputs.is_created c.args.outputs.now) (g.O.Outputs.faults_at c.args.outputs.now) slots) (seen files reads (g.O.Outputs.written c.done.new.self) (g.O.Outputs.is_created c.done.new.self) (g.O.Outputs.faults_at c.done.new.self) slots) = record { files = λ name. refl; reads = λ name. omega arith; created = c.done.ensures.stays; writes = c.done.ensures.never_falls; slots = uncounted_yet slots } in
    job_given g.S.Source.remaining g.S.Source.faults g.O.Snk.Sink.contents g.O.Snk.Sink.faults Failed start (seen files reads (g.O.Outputs.written c.args.outputs.now) (g.O.Outputs.is_created c.args.outputs.now) (g.O.Outputs.faults_at c.args.outputs.now) slots) (seen files reads (g.O.Outputs.written c.done.new.self) (g.O.Outputs.is_created c.done.new.self) (g.O.Outputs.faults_at c.done.new.self) slots) block_len all c.args.query.now c.args.job.now c.in-Some.sink c.take.new.self c.is_answered-whole.result
    (search rules) (search rules) c.is_answered-whole.ensures c.requires.begun.0 went (search rules) (search rules) is

pub returns-else-whole-clause-work : goal.returns-else-whole-clause-work
returns-else-whole-clause-work g c = λ files reads slots start block_len all is.
    let went : Went (seen files reads (g.O.Outputs.written c.args.outputs.now) (g.O.Outputs.is_created c.args.outputs.now) (g.O.Outputs.faults_at c.args.outputs.now) slots) (seen files reads (g.O.Outputs.written c.done.new.self) (g.O.Outputs.is_created c.done.new.self) (g.O.Outputs.faults_at c.done.new.self) slots) = record { files = λ name. refl; reads = λ name. omega arith; created = c.done.ensures.stays; writes = c.done.ensures.never_falls; slots = uncounted_yet slots } in
    let short : c.is_answered-whole.result ≡ false = search rules in
    job_short g.S.Source.remaining g.S.Source.faults g.O.Snk.Sink.contents g.O.Snk.Sink.faults Failed start (seen files reads (g.O.Outputs.written c.args.outputs.now) (g.O.Outputs.is_created c.args.outputs.now) (g.O.Outputs.faults_at c.args.outputs.now) slots) (seen files reads (g.O.Outputs.written c.done.new.self) (g.O.Outputs.is_created c.done.new.self) (g.O.Outputs.faults_at c.done.new.self) slots) block_len all c.args.query.now c.args.job.now c.in-Some.sink c.take.new.self (Err c.in-Err.field-0)
    (search rules) (search rules) (sym c.is_answered-whole.ensures ∙ short) c.requires.begun.0 went (search rules) (search rules) is

pub returns-then-whole-clause-work : goal.returns-then-whole-clause-work
returns-then-whole-clause-work g c = λ files reads slots start block_len all is.
    let went : Went (seen files reads (g.O.Outputs.written c.args.outputs.now) (g.O.Outputs.is_created c.args.outputs.now) (g.O.Outputs.faults_at c.args.outputs.now) slots) (seen files reads (g.O.Outputs.written c.done.new.self) (g.O.Outputs.is_created c.done.new.self) (g.O.Outputs.faults_at c.done.new.self) slots) = record { files = λ name. refl; reads = λ name. omega arith; created = c.done.ensures.stays; writes = c.done.ensures.never_falls; slots = uncounted_yet slots } in
    let whole : c.is_answered-whole.result ≡ true = search rules in
    job_failed g.S.Source.remaining g.S.Source.faults g.O.Snk.Sink.contents g.O.Snk.Sink.faults Failed start (seen files reads (g.O.Outputs.written c.args.outputs.now) (g.O.Outputs.is_created c.args.outputs.now) (g.O.Outputs.faults_at c.args.outputs.now) slots) (seen files reads (g.O.Outputs.written c.done.new.self) (g.O.Outputs.is_created c.done.new.self) (g.O.Outputs.faults_at c.done.new.self) slots) block_len all c.args.query.now c.args.job.now c.in-Some.sink c.take.new.self c.in-Err.field-0
    (search rules) (search rules) (sym c.is_answered-whole.ensures ∙ whole) went (search rules) (search rules) is
