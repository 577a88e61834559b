use Rattle.std.proofs.Common.{◌≡◌, ◌≢◌, ◌<◌, ◌≤◌, ◌-◌, length, take}
use Rattle.std.specs.Prelude.{All}
use Rattle.std.specs.List.{HoldsAt}
use Rattle.std.specs.Cmp.Lexicographic.{slice_cmp}
use Rattle.std.specs.Ordering.{nat_cmp}
use Rattle.std.specs.declared.cmp.Ordering.TheVariants.{Greater}
use Rattle.group_op.proofs.lowest.place.Given as goal

abbrev pub invariant-loop-low : goal.invariant-loop-low
invariant-loop-low l = record {
  inside : l.low ≤ l.high;
  short : l.high ≤ length l.entries;
  below : All (λ e. slice_cmp nat_cmp l.key e.key.items ≡ Greater) (take l.low l.entries);
  next : l.high < length l.entries → HoldsAt (λ e. slice_cmp nat_cmp l.key e.key.items ≢ Greater) l.entries l.high;
}

abbrev pub decreases-loop-low : goal.decreases-loop-low
decreases-loop-low l = l.high - l.low
