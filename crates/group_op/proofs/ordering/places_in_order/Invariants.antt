use Rattle.std.proofs.Common.{◌≡◌, map, take}
use Rattle.group_op.proofs.ordering.places_in_order.Given as goal

abbrev pub invariant-loop-entry : goal.invariant-loop-entry
invariant-loop-entry l = l.places.items ≡ map (λ e. e.1) (take l.entry-index l.entry-items)
