use Rattle.std.proofs.Common.{◌≡◌, ◌^◌, All, vec_len, vec_capacity}
use Rattle.block_arena.proofs.supply.Arena.open.Given as goal

abbrev pub invariant-loop-i : goal.invariant-loop-i
invariant-loop-i l = record {
  count : vec_len l.unused ≡ l._i;
  room : vec_capacity l.unused ≡ l.blocks;
  rooms : All (λ room. room ≡ 2 ^ l.each.shift) l.unused.items;
}
