use Rattle.std.proofs.Common.{◌≡◌, ℕ, [], ◌∷◌, ◌++◌, Option, refl, subst}
use Rattle.block_arena.specs.Memory.{Buffer}
use Rattle.pool_model.specs.declared.event.Event.TheVariants.{Destroy}
use Rattle.store_api.specs.Conditions.{IsHeld}
use Rattle.store_api.specs.Entries.{by}
use Rattle.session_calls.specs.declared.hand.Hand.{Hand}
use Rattle.session_calls.specs.Acting.{held_by}
use Rattle.session_calls.proofs.Ending.{pinned_whole, works_ended, did_ended}
use Rattle.session_calls.proofs.pinning.destroy.Goals as goal

pub destroy_pinned-requires : goal.destroy_pinned-requires
destroy_pinned-requires g c = record {
  pinned =
      pinned_whole g.D.Slot g.O.Opened.opening g.O.Opened.outset (g.A.Access.seen c.args.place.now) c.args.hand c.requires.at_work c.args.p c.requires.page c.in-Some.buf
      (subst (λ (b : Option Buffer). IsHeld c.args.p (held_by g.O.Opened.opening g.O.Opened.outset c.args.hand) b) c.in-Some.is c.requires.buffer);
}

pub returns-clause-at_work : goal.returns-clause-at_work
returns-clause-at_work g c =
    let new : Hand g.row.D.Denot = record { state = c.destroy_pinned.new.self; trail = c.enter.new.trail; counts = c.args.hand.counts; session = c.args.hand.session; gone = c.args.hand.gone } in
    works_ended g.D.Slot g.O.Opened.opening g.O.Opened.outset (g.A.Access.seen c.args.place.now) c.args.hand c.requires.at_work c.args.p c.requires.page new
    (subst (λ (q : ℕ). new.trail ≡ c.args.hand.trail ++ by c.args.hand.session (Destroy q ∷ [])) c.name-page.ensures c.enter.ensures) refl refl c.destroy_pinned.ensures.enters

pub returns-clause-did : goal.returns-clause-did
returns-clause-did g c =
    let new : Hand g.row.D.Denot = record { state = c.destroy_pinned.new.self; trail = c.enter.new.trail; counts = c.args.hand.counts; session = c.args.hand.session; gone = c.args.hand.gone } in
    did_ended g.D.Slot g.O.Opened.opening g.O.Opened.outset (g.A.Access.seen c.args.place.now) c.args.hand c.requires.at_work c.args.p c.requires.page new
    (subst (λ (q : ℕ). new.trail ≡ c.args.hand.trail ++ by c.args.hand.session (Destroy q ∷ [])) c.name-page.ensures c.enter.ensures) refl refl c.destroy_pinned.ensures.enters
