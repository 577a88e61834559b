use Rattle.std.proofs.Common.{refl}
use Rattle.pool_model.specs.declared.event.Event.TheVariants.{MoveReservation}
use Rattle.pool_model.specs.declared.bare.Bare.TheVariants as bare
use Rattle.pool_model.specs.Legal.{state_after}
use Rattle.trace_follow.proofs.Told.{told_as}
use Rattle.trace_follow.proofs.Standing.{plain_refused}
use Rattle.trace_follow.proofs.Growing.{moved_accepted, trackers_changed}
use Rattle.trace_follow.proofs.follower.Follower.move_reservation.Goals as goal

pub returns-then-not-may_move : goal.returns-then-not-may_move
returns-then-not-may_move c =
    plain_refused c.args.self.now c.args.self.now c.args.maker (MoveReservation c.args.from c.args.to c.args.bytes) (λ e is. told_as e (bare.MoveReservation c.args.from c.args.to c.args.bytes) is)
    c.may_move.result (λ o h stands sound. c.may_move.ensures (state_after o h) stands.shows sound) c.if-not-may_move.true

pub returns : goal.returns
returns c =
    moved_accepted c.args.self.now c.carry.new.self c.enter.new.self c.args.maker (MoveReservation c.args.from c.args.to c.args.bytes) (λ e is. told_as e (bare.MoveReservation c.args.from c.args.to c.args.bytes) is)
    c.may_move.result (λ o h stands sound. c.may_move.ensures (state_after o h) stands.shows sound) c.carry.ensures.rest
    c.if-not-may_move.false c.requires c.enter.result c.enter.ensures.followed c.enter.ensures.counted c.enter.ensures.few
    (record { no_start = refl; no_call = refl; no_failure = λ p. refl })
    (λ o h stands sound may. trackers_changed c.args.self.now c.carry.new.self (state_after o h) _ stands.shows c.carry.ensures.rest (c.in_ok-carry.ensures.shows (state_after o h) stands.shows sound may))
