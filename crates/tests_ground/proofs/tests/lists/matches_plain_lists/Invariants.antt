use Rattle.std.proofs.Common.{◌≡◌, length}
use Rattle.tests_ground.proofs.tests.lists.matches_plain_lists.Given as goal

abbrev pub invariant-loop-turn_no : goal.invariant-loop-turn_no
invariant-loop-turn_no g l = (l.lists.nodes ≡ 7) × (length l.lists.lists ≡ 2)
