use Rattle.std.proofs.Common.{sym, subst, arith}
use Rattle.std.specs.List.{All}
use Rattle.std.proofs.lemmas.List.Elements.{All-nil, All-push}
use Rattle.pool.specs.Admitting.{HasRoomFor}
use Rattle.pool.proofs.rooms.open_slates.Goals as goal

pub loop-i-init : goal.loop-i-init
loop-i-init c = (
  c.in_ok-slates.ensures.len,
  c.in_ok-slates.ensures.capacity,
  subst (All (HasRoomFor c.args.most)) (sym c.in_ok-slates.ensures.items) (All-nil (HasRoomFor c.args.most)),
)

pub loop-i-preserved : goal.loop-i-preserved
loop-i-preserved c =
    let len = c.push_reserved.ensures.len in
    let len_was = c.loop-i.invariant.0 in
    let cap = c.push_reserved.ensures.capacity in
    let cap_was = c.loop-i.invariant.1 in (
      omega (arith, len, len_was),
      omega (arith, cap, cap_was),
      subst (All (HasRoomFor c.args.most)) (sym c.push_reserved.ensures.items)
          (All-push (HasRoomFor c.args.most) c.loop-i.slates.items c.in_ok-slate.slate c.loop-i.invariant.2 (c.in_ok-slate.ensures.items, c.in_ok-slate.ensures.capacity)),
    )
