use Rattle.std.proofs.Common.{◌≡◌, ◌↔◌, true, sym, ◌∙◌}
use Rattle.pool_model.specs.TrackerRows.{CanLose, MayMoveReservation}
use Rattle.trace_follow.specs.Looking.{IsSpare}
use Rattle.trace_follow.proofs.Growing.{spare_exactly}
use Rattle.trace_follow.proofs.Moving.{move_exactly}
use Rattle.trace_follow.proofs.follower.Follower.may_move.Goals as goal

pub returns : goal.returns
returns c s shows sound =
    move_exactly s sound c.args.maker c.args.bytes c.args.from c.args.to ((c.owns_tracker.ensures s shows).0 c.if-not-owns_tracker.false) ((c.owns_tracker-2.ensures s shows).0 c.if-not-owns_tracker-2.false)
    c.can_lose.result c.can_arrive.result (c.can_lose.ensures s shows) (c.can_arrive.ensures s shows) c.if-not-can_lose.false

pub returns-then-not-can_lose : goal.returns-then-not-can_lose
returns-then-not-can_lose c s shows sound = (
  λ is. cc,
  λ may.
      let m : MayMoveReservation s c.args.maker c.args.from c.args.to c.args.bytes = may in
      let spare : IsSpare s c.args.from c.args.bytes ↔ CanLose s c.args.from c.args.bytes = spare_exactly s sound c.args.maker c.args.from m.own c.args.bytes in
      let is : c.can_lose.result ≡ true = (c.can_lose.ensures s shows).1 (spare.1 m.spare) in
      sym c.if-not-can_lose.true ∙ is,
)
