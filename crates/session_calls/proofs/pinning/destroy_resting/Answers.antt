use Rattle.std.proofs.Common.{◌≡◌, ℕ, [], ◌∷◌, ◌++◌, refl, sym, ap, ◌∙◌, subst}
use Rattle.pool_model.specs.declared.event.Event.TheVariants.{Destroy}
use Rattle.store_api.specs.Tokens.{PageToken}
use Rattle.store_api.specs.Entries.{by}
use Rattle.session_calls.specs.declared.hand.Hand.{Hand}
use Rattle.session_calls.specs.Jobs.{DoesIn}
use Rattle.session_calls.proofs.Alone.{all_worked}
use Rattle.session_calls.proofs.Ending.{unpinned, works_ended, did_ended, flies_never, comes_down, page_still, pins_still, then_did, same_works, waits_more, waits_none}
use Rattle.session_calls.proofs.pinning.destroy_resting.Goals as goal

pub loop-hand-init : goal.loop-hand-init
loop-hand-init g c = (c.requires.turns, c.requires.at_work, waits_none c.args.hand, refl)

pub destroy_unpinned-requires : goal.destroy_unpinned-requires
destroy_unpinned-requires g c = record {
  unpinned =
      unpinned g.D.Slot g.O.Opened.opening g.O.Opened.outset (g.A.Access.seen c.loop-hand.place) c.loop-hand.hand c.loop-hand.invariant.1 c.loop-hand.p
      (page_still g.O.Opened.opening g.O.Opened.outset c.args.hand c.loop-hand.hand c.loop-hand.invariant.2 c.args.p c.loop-hand.p c.loop-hand.invariant.3 c.requires.page)
      (pins_still g.O.Opened.opening g.O.Opened.outset c.args.hand c.loop-hand.hand c.loop-hand.invariant.2 c.args.p c.loop-hand.p c.loop-hand.invariant.3 c.requires.rests);
}

pub returns-in-Ok-clause-at_work : goal.returns-in-Ok-clause-at_work
returns-in-Ok-clause-at_work g c =
    let hand : Hand g.row.D.Denot = c.loop-hand.hand in
    let new : Hand g.row.D.Denot = record { state = c.destroy_unpinned.new.self; trail = c.enter.new.trail; counts = hand.counts; session = hand.session; gone = hand.gone } in
    let name : c.name-page.result ≡ c.loop-hand.p.name = c.name-page.ensures ∙ ap (λ (q : PageToken). q.name) (sym c.loop-hand.invariant.3) in
    works_ended g.D.Slot g.O.Opened.opening g.O.Opened.outset (g.A.Access.seen c.loop-hand.place) hand c.loop-hand.invariant.1 c.loop-hand.p
    (page_still g.O.Opened.opening g.O.Opened.outset c.args.hand hand c.loop-hand.invariant.2 c.args.p c.loop-hand.p c.loop-hand.invariant.3 c.requires.page) new
    (subst (λ (q : ℕ). new.trail ≡ hand.trail ++ by hand.session (Destroy q ∷ [])) name c.enter.ensures) refl refl c.in-Ok.ensures.enters

pub returns-in-Ok-clause-did : goal.returns-in-Ok-clause-did
returns-in-Ok-clause-did g c =
    let hand : Hand g.row.D.Denot = c.loop-hand.hand in
    let new : Hand g.row.D.Denot = record { state = c.destroy_unpinned.new.self; trail = c.enter.new.trail; counts = hand.counts; session = hand.session; gone = hand.gone } in
    let name : c.name-page.result ≡ c.loop-hand.p.name = c.name-page.ensures ∙ ap (λ (q : PageToken). q.name) (sym c.loop-hand.invariant.3) in
    subst (λ (q : PageToken). DoesIn (λ events. events ≡ Destroy q.name ∷ []) c.args.hand new) c.loop-hand.invariant.3
    (then_did g.O.Opened.opening g.O.Opened.outset c.args.hand hand c.loop-hand.invariant.2 (Destroy c.loop-hand.p.name ∷ []) new
    (did_ended g.D.Slot g.O.Opened.opening g.O.Opened.outset (g.A.Access.seen c.loop-hand.place) hand c.loop-hand.invariant.1 c.loop-hand.p
    (page_still g.O.Opened.opening g.O.Opened.outset c.args.hand hand c.loop-hand.invariant.2 c.args.p c.loop-hand.p c.loop-hand.invariant.3 c.requires.page) new
    (subst (λ (q : ℕ). new.trail ≡ hand.trail ++ by hand.session (Destroy q ∷ [])) name c.enter.ensures) refl refl c.in-Ok.ensures.enters))

pub wait-hand-requires-clause-at_work : goal.wait-hand-requires-clause-at_work
wait-hand-requires-clause-at_work g c =
    same_works g.D.Slot g.O.Opened.opening g.O.Opened.outset (g.A.Access.seen c.loop-hand.place) c.loop-hand.hand c.destroy_unpinned.new.self c.loop-hand.hand.gone c.loop-hand.invariant.1 c.in-Err.ensures.err refl

pub loop-hand-preserved : goal.loop-hand-preserved
loop-hand-preserved g c = (
  c.wait-hand.ensures.turns,
  c.wait-hand.ensures.at_work,
  waits_more g.O.Opened.opening g.O.Opened.outset c.args.hand c.loop-hand.hand c.loop-hand.invariant.2 c.destroy_unpinned.new.self c.wait-hand.result c.wait-hand.ensures.waited,
  c.in-Err.ensures.back ∙ c.loop-hand.invariant.3,
)

pub loop-hand-smaller : goal.loop-hand-smaller
loop-hand-smaller g c =
    comes_down g.A.Access.alone c.again-left.result c.loop-hand.left
    (λ alone.
    flies_never g.D.Slot g.O.Opened.opening g.O.Opened.outset (g.A.Access.seen c.loop-hand.place) c.loop-hand.hand c.loop-hand.invariant.1 c.loop-hand.p
    (page_still g.O.Opened.opening g.O.Opened.outset c.args.hand c.loop-hand.hand c.loop-hand.invariant.2 c.args.p c.loop-hand.p c.loop-hand.invariant.3 c.requires.page)
    (all_worked g.O.Opened.opening (g.A.Access.seen c.loop-hand.place) c.loop-hand.hand c.loop-hand.invariant.1.worked
    (g.met.A.Access.sole g.O.Opened.opening g.O.Opened.outset c.args.access.now c.loop-hand.place c.loop-hand.hand.session c.loop-hand.invariant.0 alone))
    (c.in-Err.ensures.refused.0 refl))
    c.again-left.ensures
