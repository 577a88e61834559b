use Rattle.std.proofs.Common.{◌≤◌, ℕ, subst}
use Rattle.session_calls.specs.Acting.{held_by}
use Rattle.pool.proofs.Seen.{sees_all, sees_more}
use Rattle.pool.proofs.ledger.Ledger.see.Goals as goal

pub loop-place-preserved : goal.loop-place-preserved
loop-place-preserved g c = (
  sees_more c.args.self.now.accounts c.loop-place.self.accounts (held_by g.O.Opened.opening g.O.Opened.outset c.args.hand.now) c.loop-place.place c.loop-place.invariant.0 c.set.new.self
      c.tracker.result c.unused-unused.result c.tracker.ensures.tracker c.tracker.ensures.there c.unused-unused.ensures.value c.set.ensures.unused c.set.ensures.trackers c.set.ensures.count,
  c.loop-place.invariant.1,
)

pub returns : goal.returns
returns g c = record {
  room = c.loop-place.invariant.1;
  accounts =
      sees_all c.args.self.now.accounts c.loop-place.self.accounts (held_by g.O.Opened.opening g.O.Opened.outset c.args.hand.now) c.loop-place.place c.loop-place.invariant.0
      (subst (λ (n : ℕ). n ≤ c.loop-place.place) c.len-place-end.ensures.count c.loop-place-test.false);
  count = c.loop-place.invariant.0.clients.count;
}
