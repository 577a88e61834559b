use Rattle.std.proofs.Common.{◌≡◌, ℕ, ◌+◌, ap, sym, ◌∙◌, refl, rules}
use Rattle.pool_model.specs.State as model
use Rattle.pool_model.specs.State.{State}
use Rattle.pool_model.specs.Parts.{put_in}
use Rattle.pool_model.specs.declared.event.Event.TheVariants.{PinAgain}
use Rattle.pool_model.specs.declared.bare.Bare.TheVariants as bare
use Rattle.pool_model.specs.Legal.{state_after}
use Rattle.trace_follow.specs.declared.rows.Place.TheVariants as spot
use Rattle.trace_follow.specs.Moving.{pins_in}
use Rattle.trace_follow.proofs.Told.{told_as}
use Rattle.trace_follow.proofs.Places.{pins_told}
use Rattle.trace_follow.proofs.Placing.{placed_accepted}
use Rattle.trace_follow.proofs.follower.Follower.pin_again.Goals as goal

pub returns : goal.returns
returns c =
    let one_more : c.in_ok-count.count ≡ pins_in c.in-Some.row.place + 1 = search rules in
    placed_accepted c.args.self.now c.put_page.new.self c.enter.new.self c.args.maker c.args.p (PinAgain c.args.p) (λ e is. told_as e (bare.PinAgain c.args.p) is)
    c.pinnable_again.result (λ o h stands sound. c.pinnable_again.ensures.judges (state_after o h) stands.shows)
    c.in-Some.row (spot.Pinned c.in_ok-count.count) (model.Pinned c.in_ok-count.count) c.in-Some.is c.in-Some.ensures.row refl c.in_ok-put_page.ensures
    c.requires c.enter.result c.enter.ensures.followed c.enter.ensures.counted c.enter.ensures.few
    (record { no_start = refl; no_call = refl; no_failure = λ p. refl }) (λ s shows. ap (λ (n : ℕ). put_in (model.Pinned n) c.args.p s) (ap (λ (n : ℕ). n + 1) (pins_told c.args.self.now s c.args.p c.in-Some.row shows c.in-Some.ensures.row) ∙ sym one_more))
