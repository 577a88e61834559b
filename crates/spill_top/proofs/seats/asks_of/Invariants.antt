use Rattle.std.proofs.Common.{◌≡◌, ◌≤◌, ◌++◌, drop, length, map, vec_capacity, vec_len}
use Rattle.spill_top.specs.Together.{ask_of}
use Rattle.spill_top.proofs.seats.asks_of.Given as goal

abbrev pub invariant-loop-query : goal.invariant-loop-query
invariant-loop-query l = record {
  asks : l.asks.items ++ map (ask_of l.block_len) (drop l.query-index l.queries) ≡ map (ask_of l.block_len) l.queries;
  len : vec_len l.asks ≡ l.query-index;
  capacity : length l.queries ≤ vec_capacity l.asks;
}
