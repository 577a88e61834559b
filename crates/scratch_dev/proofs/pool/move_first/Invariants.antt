use Rattle.std.proofs.Common.{◌≡◌, ◌+◌, take, drop, ◌++◌, vec_len, vec_capacity}
use Rattle.std.specs.VecDeque.{deque_len, deque_capacity}
use Rattle.scratch_dev.proofs.pool.move_first.Given as goal

abbrev pub invariant-loop-i : goal.invariant-loop-i
invariant-loop-i g l = record {
  moved : l.list.items ≡ l.initial.list.items ++ take l._i l.initial.queue.items;
  left : l.queue.items ≡ drop l._i l.initial.queue.items;
  list_len : vec_len l.list ≡ vec_len l.initial.list + l._i;
  queue_len : deque_len l.queue + l._i ≡ deque_len l.initial.queue;
  list_capacity : vec_capacity l.list ≡ vec_capacity l.initial.list;
  queue_capacity : deque_capacity l.queue ≡ deque_capacity l.initial.queue;
}
