use Rattle.std.proofs.Common.{◌↔◌, ◌≤◌, ◌+◌, ℕ, IsTrue, subst}
use Rattle.std.specs.FinMap.{get}
use Rattle.trace_follow.specs.Rows.{load_at}
use Rattle.trace_follow.specs.Looking.{reserved_in}
use Rattle.trace_follow.proofs.Rooms.{room_told}
use Rattle.trace_follow.proofs.follower.Follower.has_room_for.Goals as goal

pub returns : goal.returns
returns c = λ s shows.
    room_told c.args.self.now s shows c.args.client c.args.blocks c.fits_client.result
    (subst (λ (n : ℕ). IsTrue c.fits_client.result ↔ ((load_at c.args.self.now.loads c.args.client).held + n ≤ reserved_in (get c.args.self.now.trackers c.args.client))) c.len_of.ensures c.fits_client.ensures)
