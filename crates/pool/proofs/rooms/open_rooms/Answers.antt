use Rattle.std.proofs.Common.{sym, subst, arith}
use Rattle.std.specs.List.{All}
use Rattle.std.proofs.lemmas.List.Elements.{All-nil, All-push, All-weaker}
use Rattle.pool.specs.Rooms.{IsEmptyRoom, IsRoom}
use Rattle.pool.proofs.rooms.open_rooms.Goals as goal

pub loop-i-init : goal.loop-i-init
loop-i-init g c = (
  c.in_ok-rooms.ensures.len,
  c.in_ok-rooms.ensures.capacity,
  subst (All (IsRoom c.args.most)) (sym c.in_ok-rooms.ensures.items) (All-nil (IsRoom c.args.most)),
)

pub loop-i-preserved : goal.loop-i-preserved
loop-i-preserved g c =
    let len = c.push_reserved.ensures.len in
    let len_was = c.loop-i.invariant.0 in
    let cap = c.push_reserved.ensures.capacity in
    let cap_was = c.loop-i.invariant.1 in (
      omega (arith, len, len_was),
      omega (arith, cap, cap_was),
      subst (All (IsRoom c.args.most)) (sym c.push_reserved.ensures.items) (All-push (IsRoom c.args.most) c.loop-i.rooms.items c.in-Ok.room c.loop-i.invariant.2 c.in-Ok.ensures),
    )

pub close_rooms-requires : goal.close_rooms-requires
close_rooms-requires g c = All-weaker (IsRoom c.args.most) IsEmptyRoom (λ room is. is.sessions.0) c.loop-i.rooms.items c.loop-i.invariant.2
