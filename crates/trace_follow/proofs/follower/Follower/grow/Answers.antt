use Rattle.std.proofs.Common.{◌≡◌, ◌-◌, ℕ, ap, sym, ◌∙◌, subst}
use Rattle.reservation_tree.specs.Tracker.{parent_of, unused}
use Rattle.reservation_tree.specs.Change.{lacking}
use Rattle.pool_model.specs.Sums.{charge_of}
use Rattle.trace_follow.proofs.Reserving.{then_ok}
use Rattle.trace_follow.specs.Changing.{Raises}
use Rattle.trace_follow.proofs.Levels.{query_grown, client_grown}
use Rattle.trace_follow.proofs.follower.Follower.grow.Goals as goal

pub returns-then-parent-eq0-clause-shows : goal.returns-then-parent-eq0-clause-shows
returns-then-parent-eq0-clause-shows c =
    then_ok c.raise-then-parent-eq0.result c.raise-then-parent-eq0.ensures.shows (λ second s maker shows sound own.
    let is : parent_of s.trackers c.args.t ≡ 0 = sym (c.parent-parent.ensures s shows) ∙ c.if-parent-eq0.true in
    let above : c.saturating_sub-above.result ≡ lacking (charge_of s) c.args.bytes 0 s.trackers =
    c.saturating_sub-above.ensures ∙ ap (λ (n : ℕ). c.args.bytes - n) (c.unused.ensures s shows ∙ ap (unused (charge_of s) s.trackers) c.if-parent-eq0.true) in
    let first : Raises c.args.self.now c.raise.new.self (lacking (charge_of s) c.args.bytes 0 s.trackers) 0 = subst (λ (n : ℕ). Raises c.args.self.now c.raise.new.self n 0) above c.in_ok-raise.ensures.shows in
    query_grown s sound maker c.args.t c.args.bytes own c.args.self.now c.raise.new.self c.raise-then-parent-eq0.new.self shows.trackers is first second)

pub returns-clause-shows : goal.returns-clause-shows
returns-clause-shows c =
    then_ok c.raise-4.result c.raise-4.ensures.shows (λ third s maker shows sound own.
    let q : ℕ = c.parent-parent.result in
    let is : c.parent-parent.result ≡ parent_of s.trackers c.args.t = c.parent-parent.ensures s shows in
    let above : c.saturating_sub-above.result ≡ lacking (charge_of s) c.args.bytes c.parent-parent.result s.trackers =
    c.saturating_sub-above.ensures ∙ ap (λ (n : ℕ). c.args.bytes - n) (c.unused.ensures s shows) in
    let top : c.saturating_sub-top.result ≡ lacking (charge_of s) (lacking (charge_of s) c.args.bytes c.parent-parent.result s.trackers) 0 s.trackers =
    c.saturating_sub-top.ensures ∙ ap (λ (n : ℕ). c.saturating_sub-above.result - n) (c.unused-2.ensures s shows) ∙ ap (λ (n : ℕ). n - unused (charge_of s) s.trackers 0) above in
    let first : Raises c.args.self.now c.raise-2.new.self (lacking (charge_of s) (lacking (charge_of s) c.args.bytes c.parent-parent.result s.trackers) 0 s.trackers) 0 =
    subst (λ (n : ℕ). Raises c.args.self.now c.raise-2.new.self n 0) top c.in_ok-raise-2.ensures.shows in
    let second : Raises c.raise-2.new.self c.raise-3.new.self (lacking (charge_of s) c.args.bytes c.parent-parent.result s.trackers) c.parent-parent.result =
    subst (λ (n : ℕ). Raises c.raise-2.new.self c.raise-3.new.self n c.parent-parent.result) above c.in_ok-raise-3.ensures.shows in
    client_grown s sound maker c.args.t c.args.bytes own c.args.self.now c.raise-2.new.self c.raise-3.new.self c.raise-4.new.self c.parent-parent.result
    shows.trackers is c.if-parent-eq0.false first second third)
