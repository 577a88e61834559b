-- The query's room over a call of a stream.
use Rattle.std.proofs.Common.{◌≡◌, ◌∙◌, inl, inr, ℕ, ◌≤◌, Option, Some, None, IsSome, ap, sym, subst, arith}
use Rattle.std.proofs.lemmas.Bool.{cases_eq}
use Rattle.store_api.specs.Holdings.{Account, Holdings, account_of, no_account, or_else, unused_of}
use Rattle.tuple_stream.specs.Streamed.{Streamed}
use Rattle.tuple_stream.specs.Touches.{Touches}
use Rattle.partition_stack.specs.Emitting.{room_with}
use Rattle.partition_stack.proofs.Left.{account_reservation}

-- a call of a stream touches no room and no reservation
pub room_touched : (t : ℕ) (client : Option ℕ) (s now : Streamed) (h new : Holdings) → IsSome (h.clients t) → Touches t s now h new → room_with t client h ≤ room_with t client new
room_touched t client s now h new lives touches = go client
  where
    own : (account_of t new).reservation ≡ (account_of t h).reservation
    own = ap (λ (o : Option Account). (or_else no_account o).reservation) (touches.account lives) ∙ account_reservation (h.clients t) (unused_of t new)

    go : (o : Option ℕ) → room_with t o h ≤ room_with t o new
    go None = let room = touches.room in let mine = own in omega (arith, room, mine)
    go (Some u) =
        let room = touches.room in
        let mine = own in
        let theirs : (account_of u new).reservation ≡ (account_of u h).reservation = elim (cases_eq u t) [
          | inl same ↦ subst (λ (k : ℕ). (account_of k new).reservation ≡ (account_of k h).reservation) (sym same) own
          | inr other ↦ ap (λ (o : Option Account). (or_else no_account o).reservation) (touches.clients u other)
        ] in
        omega (arith, room, mine, theirs)
