use Rattle.std.proofs.Common.{ℕ, IsSome, sym, ap, ◌∙◌, subst}
use Rattle.store_api.specs.Holdings.{Holdings, account_of, unused_of}
use Rattle.store_api.specs.Conditions.{FitsAccount}
use Rattle.local_pool.specs.Told.{held_of}
use Rattle.local_pool.proofs.Stepping.{held_at}
use Rattle.local_pool.proofs.owned.Alone.unused.Goals as goal

pub unused-requires-clause-client : goal.unused-requires-clause-client
unused-requires-clause-client g c = subst (λ (h : Holdings). IsSome (h.clients c.tracker.result)) (sym (held_at g.D.Slot c.self.inside.hand c.args.self.now c.self.view_is c.self.invariant.0)) (subst (λ (t : ℕ). IsSome ((held_of g.D.Slot c.args.self.now).clients t)) (sym c.tracker.ensures) c.requires)

pub returns-clause-value : goal.returns-clause-value
returns-clause-value g c = c.unused.ensures.value ∙ ap (unused_of c.tracker.result) (held_at g.D.Slot c.self.inside.hand c.args.self.now c.self.view_is c.self.invariant.0) ∙ ap (λ (t : ℕ). unused_of t (held_of g.D.Slot c.args.self.now)) c.tracker.ensures

pub returns-clause-fits : goal.returns-clause-fits
returns-clause-fits g c =
    subst (λ (t : ℕ). FitsAccount (account_of t (held_of g.D.Slot c.args.self.now)) (held_of g.D.Slot c.args.self.now)) c.tracker.ensures
    (subst (λ (h : Holdings). FitsAccount (account_of c.tracker.result h) h) (held_at g.D.Slot c.self.inside.hand c.args.self.now c.self.view_is c.self.invariant.0) c.unused.ensures.fits)
