-- Both clients stay open.
use Rattle.std.proofs.Common.{ℕ, ◌≡◌, ◌<◌, ◌%◌, zero, suc, Bool, true, false, List, [], ◌∷◌, get_or, refl, arith}
use Rattle.client_lists.proofs.tests.matches_plain_lists.Goals as goal

both : (n : ℕ) → n < 2 → get_or (true ∷ true ∷ []) n false ≡ true
both zero l = refl
both (suc zero) l = refl
both (suc (suc n)) l = absurd (omega arith)

one_of : (m : ℕ) (xs : List Bool) → xs ≡ true ∷ true ∷ [] → get_or xs (m % 2) false ≡ true
one_of m xs e = rw e (both (m % 2) (omega arith))

pub turn-done-requires-clause-open : goal.turn-done-requires-clause-open
turn-done-requires-clause-open _ c = one_of _ c.loop-number.lists.is_open c.loop-number.invariant.1
