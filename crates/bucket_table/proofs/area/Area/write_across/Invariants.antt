use Rattle.std.proofs.Common.{◌≡◌, ◌-◌, ◌≤◌, length, take}
use Rattle.block_arena.specs.Bytes.{written}
use Rattle.bucket_table.specs.Regions.{with_bytes}
use Rattle.bucket_table.proofs.area.Area.write_across.Given as goal

abbrev pub invariant-loop-done : goal.invariant-loop-done
invariant-loop-done l = record {
  within : l.done ≤ length l.bytes;
  wrote : l.self ≡ with_bytes (written l.at (take l.done l.bytes) l.initial.self.bytes) l.initial.self;
}

abbrev pub decreases-loop-done : goal.decreases-loop-done
decreases-loop-done l = length l.bytes - l.done
