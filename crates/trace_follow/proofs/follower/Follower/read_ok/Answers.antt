use Rattle.std.proofs.Common.{refl}
use Rattle.pool_model.specs.State as model
use Rattle.pool_model.specs.declared.event.Event.TheVariants.{ReadOk}
use Rattle.pool_model.specs.declared.bare.Bare.TheVariants as bare
use Rattle.pool_model.specs.Legal.{state_after}
use Rattle.trace_follow.specs.declared.rows.Place.TheVariants as spot
use Rattle.trace_follow.proofs.Told.{told_as}
use Rattle.trace_follow.proofs.Placing.{placed_accepted}
use Rattle.trace_follow.proofs.follower.Follower.read_ok.Goals as goal

pub returns : goal.returns
returns c =
    placed_accepted c.args.self.now c.put_page.new.self c.enter.new.self c.args.maker c.args.p (ReadOk c.args.p) (λ e is. told_as e (bare.ReadOk c.args.p) is)
    c.loading.result (λ o h stands sound. c.loading.ensures.judges (state_after o h) stands.shows)
    c.in-Some.row (spot.Pinned 1) (model.Pinned 1) c.in-Some.is c.in-Some.ensures.row refl c.in_ok-put_page.ensures
    c.requires c.enter.result c.enter.ensures.followed c.enter.ensures.counted c.enter.ensures.few
    (record { no_start = refl; no_call = refl; no_failure = λ p. refl }) (λ s shows. refl)
