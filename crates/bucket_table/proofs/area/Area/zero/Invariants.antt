use Rattle.std.proofs.Common.{◌≡◌, length, map, replicate, take}
use Rattle.bucket_table.specs.Regions.{AreParts, lent, pieces}
use Rattle.bucket_table.proofs.area.Area.zero.Given as goal

abbrev pub invariant-loop-i : goal.invariant-loop-i
invariant-loop-i l =
    let now = l.self-inside in
    let was = l.initial.self-inside in
    record {
      blocks : now.blocks ≡ was.blocks;
      block : now.block ≡ was.block;
      each : now.each ≡ was.each;
      count : length now.parts.items ≡ length was.parts.items;
      parts : AreParts was.blocks was.block.len was.each.len now.parts.items;
      lent_is : map lent now.parts.items ≡ map lent was.parts.items;
      zeros : take l.i (pieces now.parts.items) ≡ replicate l.i (replicate was.each.len 0);
    }
