use Rattle.std.proofs.Common.{◌≡◌, ◌+◌, ℕ, None, option_map, refl, ap, sym, ◌∙◌, subst, rules}
use Rattle.std.specs.FinMap.{get}
use Rattle.pool_model.specs.declared.event.Event.{Event}
use Rattle.pool_model.specs.declared.event.Event.TheVariants.{Create}
use Rattle.pool_model.specs.declared.bare.Bare.TheVariants as bare
use Rattle.pool_model.specs.State.{State}
use Rattle.pool_model.specs.PageRows.{MayCreate}
use Rattle.pool_model.specs.Parts.{create_page}
use Rattle.pool_model.specs.MayFollow.{Allows}
use Rattle.pool_model.specs.Effects.{effect, count_entry}
use Rattle.pool_model.specs.Legal.{state_after}
use Rattle.trace_follow.specs.declared.rows.Asked.{Asked}
use Rattle.trace_follow.specs.declared.follower.Follower.{Follower}
use Rattle.trace_follow.specs.Showing.{Shows}
use Rattle.trace_follow.proofs.Told.{Told, told_as}
use Rattle.trace_follow.proofs.Standing.{IsQuiet}
use Rattle.trace_follow.proofs.Entered.{counted}
use Rattle.trace_follow.proofs.Pushed.{hidden_accepted}
use Rattle.trace_follow.proofs.Arriving.{unnamed, page_came}
use Rattle.trace_follow.proofs.follower.Follower.create.Goals as goal

pub returns : goal.returns
returns c =
    let p : ℕ = c.args.p in
    let m : ℕ = c.args.maker in
    let client : ℕ = c.args.client in
    let blocks : ℕ = c.args.blocks in
    let old : Follower = c.args.self.now in
    let added : Follower = c.add_page.new.self in
    let next : ℕ = c.in_ok-next.next in
    let mid : Follower = record added { next_name = next } in
    let adds = c.in_ok-add_page.ensures in
    let one_more : next ≡ p + 1 = search rules in
    hidden_accepted old mid c.enter.new.self m (bare.Create p client blocks)
    (λ e same. let t : Told e (bare.Create p client blocks) = told_as e (bare.Create p client blocks) same in subst IsQuiet (sym t.1) (record { no_start = refl; no_call = refl; no_failure = λ q. refl }))
    (λ maker. ap (λ (u : Follower). option_map (λ (x : Asked). x.reads) (get u.asked maker)) adds.is) (ap (λ (u : Follower). u.entries) adds.is)
    (λ o h e stands sound same allows few.
    let s : State = state_after o h in
    let t : Told e (bare.Create p client blocks) = told_as e (bare.Create p client blocks) same in
    let may : MayCreate s m p client blocks = subst (λ (d : Event). Allows h s m d) t.1 allows in
    let none : get s.pages p ≡ None = ap (get s.pages) may.next ∙ unnamed s sound (get s.pages s.next_name) refl in
    let came : Shows mid (create_page m p client blocks t.0 s) = page_came old added s p m client blocks t.0 stands.shows none adds next (one_more ∙ ap (λ (n : ℕ). n + 1) may.next) in
    subst (λ (d : Event). Shows (record mid { entries = mid.entries + 1 }) (count_entry (effect m d s))) (sym t.1) (counted mid (create_page m p client blocks t.0 s) came few))
    c.enter.result c.enter.ensures.followed c.enter.ensures.counted c.enter.ensures.few
    (λ o h stands sound. record { event = Create p client blocks 0; same = refl; makes = c.requires; allows = (c.may_create.ensures (state_after o h) stands.shows).0 c.if-not-may_create.false })
