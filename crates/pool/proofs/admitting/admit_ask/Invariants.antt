use Rattle.std.proofs.Common.{◌≡◌, ◌-◌, ◌*◌, ◌≤◌, List, None, vec_capacity, vec_len}
use Rattle.pin_core.specs.StateOf.{state_of}
use Rattle.pin_core.specs.calls.Opening.{spare_of}
use Rattle.pool.specs.declared.item.Item.{Item}
use Rattle.pool.specs.Standing.{StandsAs}
use Rattle.pool.specs.Admitting.{HasItems}
use Rattle.pool.specs.Remaining.{first_refusal, left_in}
use Rattle.pool.proofs.Admitted.{Coming}
use Rattle.pool.proofs.admitting.admit_ask.Given as goal

abbrev pub invariant-loop-i : goal.invariant-loop-i
invariant-loop-i g l =
    (vec_len l.numbers ≡ l._i) × (l.ask.count ≤ vec_capacity l.numbers)
    × HasItems g.D.Slot g.T.Opened.opening g.T.Opened.outset.told g.T.Opened.first (record { trail = l.shared.trail; counts = l.shared.counts }) l.shared.state
    × (first_refusal (l.ask.count - l._i) l.ask (left_in (state_of l.shared.state)) ≡ None)
    × ((l.ask.count - l._i) * l.ask.quota ≤ spare_of l.shared.state)
    × ((before : List Item) → StandsAs g.D.Slot g.T.Opened.opening g.T.Opened.outset.told g.T.Opened.first before (record { trail = l.initial.shared.trail; counts = l.initial.shared.counts }) l.initial.shared.state
    → Coming g.D.Slot g.T.Opened.opening g.T.Opened.outset.told g.T.Opened.first l.ask before l.numbers.items (l.ask.count - l._i) l.initial.shared.state (record { trail = l.shared.trail; counts = l.shared.counts }) l.shared.state)
    × (l.shared.stopped ≡ l.initial.shared.stopped)
