use Rattle.std.proofs.Common.{ℕ, subst}
use Rattle.reservation_tree.specs.Tracker.{HasNoChild}
use Rattle.pin_core.specs.calls.Sessions.{query_of}
use Rattle.pin_core.specs.StateOf.{state_of}
use Rattle.pin_core.specs.declared.parts.Parts.{Parts}
use Rattle.pool_questions.proofs.CheckedOwner.{none_held}
use Rattle.pool_questions.proofs.owned.holds_no_client.Goals as goal

pub returns : goal.returns
returns g c = λ is.
    none_held g.D.Slot c.args.pool.now.alone c.value.ensures.held
    (subst (λ (v : Parts g.row.D.Denot). HasNoChild (state_of v).trackers (query_of (state_of v) c.args.pool.now.alone.session)) c.value.ensures.value
    (subst (λ (m : ℕ). HasNoChild (state_of c.value.result.now).trackers (query_of (state_of c.value.result.now) m)) c.session.ensures (c.has_no_client.ensures is)))
