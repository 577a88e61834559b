use Rattle.std.proofs.Common.{rules, ℕ, [], ◌∷◌, sym, ap, subst}
use Rattle.pool_model.specs.Owning.{IsClientOf}
use Rattle.pin_core.specs.StateOf.{state_of}
use Rattle.pin_core.specs.Standing.{Enters}
use Rattle.pin_core.specs.calls.Sessions.{query_of}
use Rattle.pin_core.specs.calls.Entering.{client_entry}
use Rattle.pin_core.proofs.Adding.{can_join, full_when, added}
use Rattle.pin_core.proofs.pool.PoolState.add_client.Goals as goal

pub add_client-requires : goal.add_client-requires
add_client-requires g c = record { can = can_join c.self.inside.parts c.args.self.now c.self.view_is c.self.invariant c.laws.ensures c.args.s c.requires.live }

pub returns-in_err-t-clause-refused : goal.returns-in_err-t-clause-refused
returns-in_err-t-clause-refused g c =
    let when = full_when c.self.inside.parts c.args.self.now c.self.view_is c.self.invariant c.laws.ensures c.args.s c.requires.live in
    (λ err. when.0 (search rules), λ count. search rules)

pub invariant_of-self-2 : goal.invariant_of-self-2
invariant_of-self-2 g c =
    (added c.self.inside.parts c.args.self.now c.self.view_is c.self.invariant c.laws.ensures c.args.s c.requires.live c.args.limit c.in_ok-t.t c.in_ok-t.ensures.fresh c.in_ok-t.ensures.number
    c.add_client.new.self c.in_ok-t.ensures.ok).done.kept

pub returns-clause-ok : goal.returns-clause-ok
returns-clause-ok g c =
    subst (λ (t : ℕ). Enters g.D.Slot (client_entry c.args.s (query_of (state_of c.args.self.now) c.args.s) c.args.limit t ∷ []) [] [] c.args.self.now c.add_client.new.self) (sym (ap (λ x. x.tracker) c.of.ensures))
    ((added c.self.inside.parts c.args.self.now c.self.view_is c.self.invariant c.laws.ensures c.args.s c.requires.live c.args.limit c.in_ok-t.t c.in_ok-t.ensures.fresh c.in_ok-t.ensures.number
    c.add_client.new.self c.in_ok-t.ensures.ok).done.enters g.D.Slot)

pub returns-clause-client : goal.returns-clause-client
returns-clause-client g c = (
  ap (λ x. x.session) c.of.ensures,
  subst (λ (t : ℕ). IsClientOf (state_of c.add_client.new.self) c.args.s t) (sym (ap (λ x. x.tracker) c.of.ensures))
      (added c.self.inside.parts c.args.self.now c.self.view_is c.self.invariant c.laws.ensures c.args.s c.requires.live c.args.limit c.in_ok-t.t c.in_ok-t.ensures.fresh c.in_ok-t.ensures.number
      c.add_client.new.self c.in_ok-t.ensures.ok).client,
)

pub returns-clause-refused : goal.returns-clause-refused
returns-clause-refused g c =
    let when = full_when c.self.inside.parts c.args.self.now c.self.view_is c.self.invariant c.laws.ensures c.args.s c.requires.live in
    (λ err. when.0 (c.in_ok-t.ensures.refused.0 err), λ count. c.in_ok-t.ensures.refused.1 (when.1 count))
