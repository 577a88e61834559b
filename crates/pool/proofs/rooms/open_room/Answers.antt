use Rattle.std.proofs.Common.{◌≡◌, [], sym, subst, arith}
use Rattle.std.specs.List.{All}
use Rattle.std.proofs.lemmas.List.Elements.{All-nil, All-push}
use Rattle.pool.proofs.rooms.open_room.Goals as goal

pub loop-i-init : goal.loop-i-init
loop-i-init g c = (
  c.in_ok-accounts.ensures.len,
  c.in_ok-accounts.ensures.capacity,
  subst (All (λ accounts. accounts ≡ [])) (sym c.in_ok-accounts.ensures.items) (All-nil (λ accounts. accounts ≡ [])),
)

pub loop-i-preserved : goal.loop-i-preserved
loop-i-preserved g c =
    let len = c.push_reserved.ensures.len in
    let len_was = c.loop-i.invariant.0 in
    let cap = c.push_reserved.ensures.capacity in
    let cap_was = c.loop-i.invariant.1 in (
      omega (arith, len, len_was),
      omega (arith, cap, cap_was),
      subst (All (λ accounts. accounts ≡ [])) (sym c.push_reserved.ensures.items) (All-push (λ accounts. accounts ≡ []) c.loop-i.accounts.items c.in_ok-none.none c.loop-i.invariant.2 c.in_ok-none.ensures),
    )

pub returns : goal.returns
returns g c =
    let len : _ = c.loop-i.accounts.ok.0 in
    let len_was = c.loop-i.invariant.0 in
    let done = c.loop-i-test.false in
    record {
      sessions = (c.in_ok-sessions.ensures.items, c.in_ok-sessions.ensures.capacity);
      accounts = omega (arith, len, len_was, done);
      bare = c.loop-i.invariant.2;
    }
