use Rattle.std.proofs.Common.{◌≡◌, drop, map, string_bytes}
use Rattle.std.specs.List.{list_all}
use Rattle.spill_top.specs.Words.{is_operand}
use Rattle.spill_top.proofs.words.are_operands.Given as goal

abbrev pub invariant-loop-word : goal.invariant-loop-word
invariant-loop-word l = list_all is_operand (map string_bytes l.words) ≡ list_all is_operand (map string_bytes (drop l.word-index l.words))
