use Rattle.std.proofs.Common.{refl, sym, ap, ◌∙◌}
use Rattle.std.specs.FinMap.{get}
use Rattle.pin_core.specs.declared.parts.Parts.{Parts}
use Rattle.pin_core.specs.StateOf.{state_of}
use Rattle.pin_core.specs.Standing.{slots_home}
use Rattle.pool.proofs.AllRights.{once, is_pass}
use Rattle.pool.proofs.AtClose.{none_opened}
use Rattle.pool.proofs.AtOpen.{first_count, stands_open}
use Rattle.pool.proofs.pool.Pool.open.Goals as goal

pub with-requires-clause-stands : goal.with-requires-clause-stands
with-requires-clause-stands g c = (
  stands_open g.D.Slot g.T.Opened.opening g.T.Opened.outset.told g.T.Opened.first c.args.conf.now c.args.slots.items (record { trail = c.in-Ok.trail; counts = c.count_opening.new.counts }) c.in-Ok-open-3.state
      c.requires.opens c.in-Ok.ensures (first_count g.D.Slot c.args.slots.items c.as_slice.result.now c.in-Ok-open.counts c.count_opening.new.counts c.in-Ok-open.ensures c.count_opening.ensures c.as_slice.ensures.value)
      c.in-Ok-open-3.ensures.stands c.in-Ok-open-3.ensures.slots c.in-Ok-open-3.ensures.spare,
  refl,
)

pub with-requires-clause-rights : goal.with-requires-clause-rights
with-requires-clause-rights g c = once

pub invariant_of-result : goal.invariant_of-result
invariant_of-result g c =
    is_pass g.T.Opened.opening.slots c.len-spare.result c.in-Ok-with.seat c.in-Ok-with.ensures.ok.1
    (c.len-spare.ensures ∙ c.args.slots.ok.0 ∙ sym c.requires.opens.numbers.slots)

pub close-requires : goal.close-requires
close-requires g c = record {
  ended = λ m.
      ap (λ (v : Parts g.row.D.Denot). get (state_of v).sessions m) (ap (λ x. x.state) c.in-Err-with.ensures.err)
      ∙ none_opened g.D.Slot g.T.Opened.opening g.T.Opened.outset.told g.T.Opened.first (record { trail = c.in-Ok.trail; counts = c.count_opening.new.counts }) c.in-Ok-open-3.state
      (stands_open g.D.Slot g.T.Opened.opening g.T.Opened.outset.told g.T.Opened.first c.args.conf.now c.args.slots.items (record { trail = c.in-Ok.trail; counts = c.count_opening.new.counts }) c.in-Ok-open-3.state
      c.requires.opens c.in-Ok.ensures (first_count g.D.Slot c.args.slots.items c.as_slice.result.now c.in-Ok-open.counts c.count_opening.new.counts c.in-Ok-open.ensures c.count_opening.ensures c.as_slice.ensures.value)
      c.in-Ok-open-3.ensures.stands c.in-Ok-open-3.ensures.slots c.in-Ok-open-3.ensures.spare) m;
}

pub returns-in-Err-with-clause-back : goal.returns-in-Err-with-clause-back
returns-in-Err-with-clause-back g c measure =
    c.close.ensures.slots measure ∙ ap (λ (v : Parts g.row.D.Denot). slots_home measure v) (ap (λ x. x.state) c.in-Err-with.ensures.err) ∙ c.in-Ok-open-3.ensures.slots measure
