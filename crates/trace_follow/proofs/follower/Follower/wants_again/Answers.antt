use Rattle.std.proofs.Common.{◌≡◌, ◌*◌, ◌-◌, ◌≤◌, ◌↔◌, ℕ, IsTrue, sym, ap, ◌∙◌, subst}
use Rattle.reservation_tree.specs.Tracker.{reservation_of}
use Rattle.pool_model.specs.Sums.{held_by}
use Rattle.pool_model.specs.Legal.{state_after}
use Rattle.trace_follow.proofs.Refusing.{again_wanted}
use Rattle.trace_follow.proofs.follower.Follower.wants_again.Goals as goal

pub returns : goal.returns
returns c o h stands sound =
    let len : c.len_of.result ≡ c.in_ok-row.row.blocks * (state_after o h).block_len = c.len_of.ensures ∙ ap (λ (n : ℕ). c.in_ok-row.row.blocks * n) stands.shows.block_len in
    again_wanted c.args.self.now o h stands sound c.args.maker c.args.p c.in_ok-row.row (sym c.in_ok-row.was ∙ c.own_page.ensures) c.has_room-enabled.result
    (subst (λ (n : ℕ). IsTrue c.has_room-enabled.result ↔ (n ≤ reservation_of (state_after o h).trackers c.in_ok-row.row.client - held_by (state_after o h) c.in_ok-row.row.client)) len (c.has_room-enabled.ensures (state_after o h) stands.shows))
