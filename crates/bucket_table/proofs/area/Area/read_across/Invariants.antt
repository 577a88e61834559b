use Rattle.std.proofs.Common.{◌≡◌, ◌-◌, ◌≤◌, length, take}
use Rattle.bucket_table.specs.Regions.{cut}
use Rattle.bucket_table.proofs.area.Area.read_across.Given as goal

abbrev pub invariant-loop-done : goal.invariant-loop-done
invariant-loop-done l = record {
  within : l.done ≤ length l.out;
  same : length l.out ≡ length l.initial.out;
  read : take l.done l.out ≡ cut l.at l.done l.self.bytes;
}

abbrev pub decreases-loop-done : goal.decreases-loop-done
decreases-loop-done l = length l.initial.out - l.done
