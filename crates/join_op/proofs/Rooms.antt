-- The query's room, over calls of a stream and of an emitter beside it.
use Rattle.std.proofs.Common.{◌≡◌, ◌≢◌, ℕ, ◌≤◌, Option, Some, IsSome, subst, arith}
use Rattle.store_api.specs.Emitters.{KeepsRoom, OthersStay}
use Rattle.store_api.specs.Holdings.{Holdings}
use Rattle.tuple_stream.specs.Streamed.{Streamed}
use Rattle.tuple_stream.specs.Touches.{Touches}
use Rattle.partition_stack.specs.Emitting.{room_with}
use Rattle.partition_stack.proofs.Emitters.{emit_room}
use Rattle.partition_stack.proofs.Rooms.{room_touched}

module _ (t : ℕ) (client : Option ℕ) (h0 h new : Holdings) (room : room_with t client h0 ≤ room_with t client h) where
  pub room_read : (s now : Streamed) → IsSome (h.clients t) → Touches t s now h new → room_with t client h0 ≤ room_with t client new
  room_read s now lives touches = let more = room_touched t client s now h new lives touches in omega (arith, room, more)

  pub room_handed : (now : Option ℕ) → now ≡ client → client ≢ Some t → OthersStay now h new → KeepsRoom now h new → room_with t client h0 ≤ room_with t client new
  room_handed now is free stays keeps =
      let more = emit_room t client h new free (subst (λ (o : Option ℕ). OthersStay o h new) is stays) (subst (λ (o : Option ℕ). KeepsRoom o h new) is keeps) in
      omega (arith, room, more)
