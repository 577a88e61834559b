use Rattle.std.proofs.Common.{◌≡◌, ◌+◌, ◌-◌, ◌≤◌, ◌++◌, replicate, vec_len, vec_capacity}
use Rattle.partition_stack.specs.Stack.{empty}
use Rattle.partition_stack.proofs.streams.push_sixteen.Given as goal

abbrev pub invariant-loop-i : goal.invariant-loop-i
invariant-loop-i l = record {
  streams : l.streams.items ≡ l.initial.streams.items ++ replicate l._i (empty l.page_blocks);
  levels : l.levels.items ≡ l.initial.levels.items ++ replicate l._i l.level;
  room : vec_len l.streams + (16 - l._i) ≤ vec_capacity l.streams;
  room_for_levels : vec_len l.levels + (16 - l._i) ≤ vec_capacity l.levels;
}
