use Rattle.std.proofs.Common.{◌≡◌, ◌∙◌, ℕ, List, vec_len, sym, subst, rules}
use Rattle.pin_core.specs.Tallies.{tally_of}
use Rattle.pin_core.specs.declared.tally.Tally.{Tally}
use Rattle.query_plan.specs.Rules.{KeepsRules}
use Rattle.spill_top.specs.Running.{Went, seen}
use Rattle.spill_top.proofs.Closing.{slots_back}
use Rattle.spill_top.proofs.Loops.{went_slots}
use Rattle.spill_top.proofs.Plans.{opens_with}
use Rattle.spill_top.proofs.Pools.{same_slots}
use Rattle.spill_top.proofs.PlanClosed.{ended_so, opening_so, stored_so}
use Rattle.spill_top.proofs.queries.run_shared.Goals as goal

pub open-requires-clause-conf : goal.open-requires-clause-conf
open-requires-clause-conf g c = opens_with (vec_len c.args.slots.now) c.args.plan.now c.requires.rules

pub run_together-ends-requires-clause-rules : goal.run_together-ends-requires-clause-rules
run_together-ends-requires-clause-rules g c κs within = subst (λ (n : ℕ). KeepsRules n c.args.plan.now) (c.args.slots.now.ok.0 ∙ sym c.requires.opens.numbers.slots) c.requires.rules

pub run_together-ends-requires-clause-opening : goal.run_together-ends-requires-clause-opening
run_together-ends-requires-clause-opening g c κs within =
    opening_so (record { blocks = c.args.plan.now.blocks; block_len = c.args.plan.now.block_len; first_name = 0; profile = 1; trace = 0 }) _ g.T.Opened.opening c.requires.opens.numbers

pub returns-in-Err-clause-went : goal.returns-in-Err-clause-went
returns-in-Err-clause-went g c =
    let taken : c.replace-taken.result.items ≡ c.args.slots.now.items = search rules in
    subst
    (λ (ds : List g.row.D.Denot).
    Went (seen (g.I.Inputs.bytes_at c.args.inputs.now) (g.I.Inputs.faults_at c.args.inputs.now) (g.O.Outputs.written c.args.outputs.now) (g.O.Outputs.is_created c.args.outputs.now) (g.O.Outputs.faults_at c.args.outputs.now) (tally_of g.D.Slot ds))
    (seen (g.I.Inputs.bytes_at c.args.inputs.now) (g.I.Inputs.faults_at c.args.inputs.now) (g.O.Outputs.written c.args.outputs.now) (g.O.Outputs.is_created c.args.outputs.now) (g.O.Outputs.faults_at c.args.outputs.now) (tally_of g.D.Slot c.in-Err.back.items)))
    taken
    (went_slots (tally_of g.D.Slot c.replace-taken.result.items) (tally_of g.D.Slot c.in-Err.back.items)
    (seen (g.I.Inputs.bytes_at c.args.inputs.now) (g.I.Inputs.faults_at c.args.inputs.now) (g.O.Outputs.written c.args.outputs.now) (g.O.Outputs.is_created c.args.outputs.now) (g.O.Outputs.faults_at c.args.outputs.now) (tally_of g.D.Slot c.args.slots.now.items))
    (same_slots g.D.Slot c.replace-taken.result.items c.in-Err.back.items c.in-Err.ensures.back))

pub returns-clause-ended : goal.returns-clause-ended
returns-clause-ended g c =
    ended_so g.D.Slot g.T.Opened.opening g.T.Opened.outset.told g.T.Opened.first c.run_together-ends.new.pass c.close.result.items c.close.ensures (vec_len c.args.slots.now) c.args.plan.now c.requires.rules _ c.requires.opens.numbers _ c.requires.told c.requires.first
    (g.I.Inputs.bytes_at c.args.inputs.now) (g.I.Inputs.faults_at c.args.inputs.now) (g.O.Outputs.written c.args.outputs.now) (g.O.Outputs.is_created c.args.outputs.now) (g.O.Outputs.faults_at c.args.outputs.now)
    (g.I.Inputs.bytes_at c.run_together-ends.new.inputs) (g.I.Inputs.faults_at c.run_together-ends.new.inputs) (g.O.Outputs.written c.run_together-ends.new.outputs) (g.O.Outputs.is_created c.run_together-ends.new.outputs) (g.O.Outputs.faults_at c.run_together-ends.new.outputs)
    (λ ends. ends.items) c.run_together-ends.result c.run_together-ends.ensures.ran c.law_shares.ensures.names

pub returns-clause-stored : goal.returns-clause-stored
returns-clause-stored g c =
    stored_so g.D.Slot g.T.Opened.opening g.T.Opened.outset.told g.T.Opened.first c.run_together-ends.new.pass c.close.result.items c.close.ensures (vec_len c.args.slots.now) c.args.plan.now c.requires.rules _ c.requires.opens.numbers _ c.requires.told c.requires.first
    (g.I.Inputs.bytes_at c.args.inputs.now) (g.I.Inputs.faults_at c.args.inputs.now) (g.O.Outputs.written c.args.outputs.now) (g.O.Outputs.is_created c.args.outputs.now) (g.O.Outputs.faults_at c.args.outputs.now)
    (g.I.Inputs.bytes_at c.run_together-ends.new.inputs) (g.I.Inputs.faults_at c.run_together-ends.new.inputs) (g.O.Outputs.written c.run_together-ends.new.outputs) (g.O.Outputs.is_created c.run_together-ends.new.outputs) (g.O.Outputs.faults_at c.run_together-ends.new.outputs)
    (λ ends. ends.items) c.run_together-ends.result c.run_together-ends.ensures.ran c.law_spill.ensures.law c.law_shares.ensures.stored c.law_shares.ensures.parts

pub returns-clause-went : goal.returns-clause-went
returns-clause-went g c =
    let back = slots_back g.D.Slot g.T.Opened.opening g.T.Opened.outset.told g.T.Opened.first c.run_together-ends.new.pass c.close.result.items c.close.ensures in
    subst
    (λ (t : Tally).
    Went (seen (g.I.Inputs.bytes_at c.args.inputs.now) (g.I.Inputs.faults_at c.args.inputs.now) (g.O.Outputs.written c.args.outputs.now) (g.O.Outputs.is_created c.args.outputs.now) (g.O.Outputs.faults_at c.args.outputs.now) t)
    (seen (g.I.Inputs.bytes_at c.run_together-ends.new.inputs) (g.I.Inputs.faults_at c.run_together-ends.new.inputs) (g.O.Outputs.written c.run_together-ends.new.outputs) (g.O.Outputs.is_created c.run_together-ends.new.outputs) (g.O.Outputs.faults_at c.run_together-ends.new.outputs) (tally_of g.D.Slot c.close.result.items)))
    c.requires.first (c.run_together-ends.ensures.went (tally_of g.D.Slot c.close.result.items) back)
