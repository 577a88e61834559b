use Rattle.std.proofs.Common.{◌≡◌, ◌∷◌, [], true}
use Rattle.client_lists.proofs.tests.matches_plain_lists.Given as goal

abbrev pub invariant-loop-number : goal.invariant-loop-number
invariant-loop-number g l = (l.lists.pages.lists.nodes ≡ 7) × (l.lists.is_open ≡ true ∷ true ∷ [])
