use Rattle.std.proofs.Common.{◌∙◌, ◌<◌, ℕ, [], ap, sym, subst}
use Rattle.store_api.specs.declared.shapes.JoinShape.{JoinShape}
use Rattle.query_run.proofs.Going.{of_pool_so}
use Rattle.query_run.proofs.JoinWants.{left_below, right_below}
use Rattle.query_run.proofs.Made.{join_makes_none}
use Rattle.query_run.proofs.Results.{of_bad, of_done, of_ok}
use Rattle.query_run.proofs.Says.{says_right}
use Rattle.query_run.proofs.Alone.{says_left}
use Rattle.query_run.proofs.Sides.{fed_accepted, fed_both}
use Rattle.query_run.proofs.Taken.{join_goes_none, join_goes_then, join_stops, left_feeds_none, left_still, right_feeds_none}
use Rattle.query_run.proofs.Counted.{both_taken, left_taken}
use Rattle.query_run.proofs.joined.feed_both.Goals as goal

pub feed_side-fed-requires-clause-kinds : goal.feed_side-fed-requires-clause-kinds
feed_side-fed-requires-clause-kinds g c = ap (λ (s : JoinShape). s.left) c.requires.begins.shape_is

pub returns-in-Err-clause-input : goal.returns-in-Err-clause-input
returns-in-Err-clause-input g c = says_left c.args.plan.now c.args.page _ _ c.in-Err.e (of_bad _ c.feed_side-fed.result c.in-Err.e c.in-Err.is c.feed_side-fed.ensures.input)

pub feed_side-fed-requires-2-clause-asked : goal.feed_side-fed-requires-2-clause-asked
feed_side-fed-requires-2-clause-asked g c = let side = c.requires.plan.right in rw c.requires.right at side

pub feed_side-fed-requires-2-clause-kinds : goal.feed_side-fed-requires-2-clause-kinds
feed_side-fed-requires-2-clause-kinds g c = ap (λ (s : JoinShape). s.right) (c.feed_side-fed.ensures.goes.same.shape ∙ c.requires.begins.shape_is)

pub feed_side-fed-requires-2-clause-page : goal.feed_side-fed-requires-2-clause-page
feed_side-fed-requires-2-clause-page g c = c.requires.begins.page_is ∙ sym (left_still _ _ _ _ _ _ c.feed_side-fed.ensures.goes).page_same

pub returns-in-Ok-fed-clause-ok : goal.returns-in-Ok-fed-clause-ok
returns-in-Ok-fed-clause-ok g c =
    fed_both c.args.plan.now c.args.asked.now c.args.page _ _ _ _ _ _ _ (of_ok _ c.feed_side-fed.result c.in-Ok.fed c.in-Ok.is c.feed_side-fed.ensures.ok) (of_ok _ c.feed_side-fed-2.result c.in-Ok-fed.fed c.in-Ok-fed.is c.feed_side-fed-2.ensures.ok)
    (λ lefts rights first second. second _ lefts [] (first _ [] c.requires.begins.keeps))

pub returns-in-Ok-fed-clause-goes : goal.returns-in-Ok-fed-clause-goes
returns-in-Ok-fed-clause-goes g c = join_goes_then _ _ _ _ _ _ _ _ _ c.feed_side-fed.ensures.goes c.feed_side-fed-2.ensures.goes

pub returns-in-Err-fed-clause-input : goal.returns-in-Err-fed-clause-input
returns-in-Err-fed-clause-input g c =
    says_right c.args.plan.now c.args.asked.now c.args.page _ _ c.in-Err-fed.e c.requires.right (fed_accepted c.args.plan.now c.args.page _ _ _ (of_ok _ c.feed_side-fed.result c.in-Ok.fed c.in-Ok.is c.feed_side-fed.ensures.ok)) (of_done c.feed_side-fed.result c.in-Ok.fed c.in-Ok.is c.feed_side-fed.ensures.read) (of_bad _ c.feed_side-fed-2.result c.in-Err-fed.e c.in-Err-fed.is c.feed_side-fed-2.ensures.input)

pub returns-in-Err-fed-clause-pool : goal.returns-in-Err-fed-clause-pool
returns-in-Err-fed-clause-pool g c =
    of_pool_so _ _ (λ why stopped. join_stops _ _ _ _ _ _ _ why c.feed_side-fed.ensures.goes stopped) c.in-Err-fed.e (of_bad _ c.feed_side-fed-2.result c.in-Err-fed.e c.in-Err-fed.is c.feed_side-fed-2.ensures.pool)

pub returns-in-Err-fed-clause-goes : goal.returns-in-Err-fed-clause-goes
returns-in-Err-fed-clause-goes g c = join_goes_then _ _ _ _ _ _ _ _ _ c.feed_side-fed.ensures.goes c.feed_side-fed-2.ensures.goes

pub feed_side-fed-requires-clause-feeds : goal.feed_side-fed-requires-clause-feeds
feed_side-fed-requires-clause-feeds g c = left_feeds_none _ _ _

pub feed_side-fed-requires-clause-goes : goal.feed_side-fed-requires-clause-goes
feed_side-fed-requires-clause-goes g c = join_goes_none _ _ _ c.requires.begins.stands.stands

pub feed_side-fed-requires-2-clause-feeds : goal.feed_side-fed-requires-2-clause-feeds
feed_side-fed-requires-2-clause-feeds g c = right_feeds_none _ _ _

pub feed_side-fed-requires-2-clause-goes : goal.feed_side-fed-requires-2-clause-goes
feed_side-fed-requires-2-clause-goes g c = join_goes_none _ _ _ c.feed_side-fed.ensures.stands.stands

pub feed_side-fed-requires-2-clause-stands : goal.feed_side-fed-requires-2-clause-stands
feed_side-fed-requires-2-clause-stands g c = c.feed_side-fed.ensures.stands.stands

pub feed_side-fed-requires-clause-memory : goal.feed_side-fed-requires-clause-memory
feed_side-fed-requires-clause-memory g c = λ after. record { answered = tt; want = tt }

pub feed_side-fed-requires-2-clause-memory : goal.feed_side-fed-requires-2-clause-memory
feed_side-fed-requires-2-clause-memory g c = λ after. record { answered = tt; want = tt }

pub feed_side-fed-requires-clause-makes : goal.feed_side-fed-requires-clause-makes
feed_side-fed-requires-clause-makes g c = join_makes_none (g.St.Store.signs c.args.store.now)

pub feed_side-fed-requires-2-clause-makes : goal.feed_side-fed-requires-2-clause-makes
feed_side-fed-requires-2-clause-makes g c = join_makes_none (g.St.Store.signs c.feed_side-fed.new.store)

pub returns-in-Err-clause-made : goal.returns-in-Err-clause-made
returns-in-Err-clause-made g c =
    left_taken c.args.plan.now c.args.asked.now c.requires.right c.args.page (g.S.Source.remaining c.args.left.now) (g.S.Source.remaining c.args.right.now)
    (g.St.Store.signs c.args.store.now) (g.St.Store.signs c.feed_side-fed.new.store) c.feed_side-fed.ensures.few

pub returns-in-Ok-fed-clause-made : goal.returns-in-Ok-fed-clause-made
returns-in-Ok-fed-clause-made g c =
    both_taken c.args.plan.now c.args.asked.now c.requires.right c.args.page (g.S.Source.remaining c.args.left.now) (g.S.Source.remaining c.args.right.now)
    (g.St.Store.signs c.args.store.now) (g.St.Store.signs c.feed_side-fed.new.store) (g.St.Store.signs c.feed_side-fed-2.new.store)
    c.feed_side-fed.ensures.few c.feed_side-fed-2.ensures.few

pub returns-in-Err-fed-clause-made : goal.returns-in-Err-fed-clause-made
returns-in-Err-fed-clause-made g c =
    both_taken c.args.plan.now c.args.asked.now c.requires.right c.args.page (g.S.Source.remaining c.args.left.now) (g.S.Source.remaining c.args.right.now)
    (g.St.Store.signs c.args.store.now) (g.St.Store.signs c.feed_side-fed.new.store) (g.St.Store.signs c.feed_side-fed-2.new.store)
    c.feed_side-fed.ensures.few c.feed_side-fed-2.ensures.few

pub feed_side-fed-requires-clause-none : goal.feed_side-fed-requires-clause-none
feed_side-fed-requires-clause-none g c = λ start lefts keeps. tt

pub feed_side-fed-requires-2-clause-none : goal.feed_side-fed-requires-2-clause-none
feed_side-fed-requires-2-clause-none g c = λ start lefts rights keeps. tt

pub returns-in-Err-clause-enough : goal.returns-in-Err-clause-enough
returns-in-Err-clause-enough g c =
    let long = subst (λ (n : ℕ). 0 < n) c.requires.begins.page_is c.requires.begins.long in
    of_pool_so _ _ (λ why taken. left_below c.args.plan.now c.args.page (g.S.Source.remaining c.args.left.now) (g.S.Source.remaining c.args.right.now) c.args.op
    (g.St.Store.holds c.args.store.now) (g.St.Store.signs c.args.store.now) _ why long c.requires.begins.keeps taken) c.in-Err.e (of_bad _ c.feed_side-fed.result c.in-Err.e c.in-Err.is c.feed_side-fed.ensures.enough)

pub returns-in-Err-fed-clause-enough : goal.returns-in-Err-fed-clause-enough
returns-in-Err-fed-clause-enough g c =
    let long = subst (λ (n : ℕ). 0 < n) c.requires.begins.page_is c.requires.begins.long in
    let has = of_ok _ c.feed_side-fed.result c.in-Ok.fed c.in-Ok.is c.feed_side-fed.ensures.ok in
    of_pool_so _ _ (λ why taken. right_below c.args.plan.now c.args.asked.now c.args.page (g.S.Source.remaining c.args.left.now) (g.S.Source.remaining c.args.right.now) _ c.args.op c.feed_side-fed.new.op.op (g.St.Store.holds c.args.store.now) (g.St.Store.holds c.feed_side-fed.new.store)
    (g.St.Store.signs c.args.store.now) (g.St.Store.signs c.feed_side-fed.new.store) _ why c.requires.right long c.requires.begins.keeps c.feed_side-fed.ensures.goes has taken)
    c.in-Err-fed.e (of_bad _ c.feed_side-fed-2.result c.in-Err-fed.e c.in-Err-fed.is c.feed_side-fed-2.ensures.enough)
