use Rattle.std.proofs.Common.{[], ◌∷◌, sym, ◌∙◌}
use Rattle.pool_model.specs.declared.event.Event.TheVariants.{IncreaseToFit}
use Rattle.own_entries.proofs.Calls.{calls_tell}
use Rattle.local_pool.specs.Told.{held_of}
use Rattle.local_pool.proofs.Making.{makes_made}
use Rattle.session_calls.proofs.Results.{on_ok_so, on_err_so, none_fails}
use Rattle.local_pool.proofs.Lasting.{lasts_or_same, held_by, untouched}
use Rattle.local_pool.proofs.local.LocalPoolStore.reserve_to_fit.Goals as goal

pub invariant_of-self-clause-len : goal.invariant_of-self-clause-len
invariant_of-self-clause-len g c = c.args.self.now.len ∙ sym (lasts_or_same g.D.Slot c.args.self.now.alone c.reserve_to_fit-result.new.self _ c.reserve_to_fit-result.result c.reserve_to_fit-result.ensures.reserves.ok c.reserve_to_fit-result.ensures.reserves.err).len

pub returns-clause-ok : goal.returns-clause-ok
returns-clause-ok g c = on_ok_so c.reserve_to_fit-result.result c.reserve_to_fit-result.ensures.reserves.ok (λ made. held_by g.D.Slot (IncreaseToFit c.args.c.now.tracker c.args.bytes ∷ []) c.args.self.now.alone c.reserve_to_fit-result.new.self made ∙ (calls_tell 0 (held_of g.D.Slot c.args.self.now.alone)).reserve_to_fit c.args.c.now.tracker c.args.bytes c.requires)

pub returns-clause-shared : goal.returns-clause-shared
returns-clause-shared g c = none_fails _ _ c.reserve_to_fit-result.result c.reserve_to_fit-result.ensures.granted

pub returns-clause-err : goal.returns-clause-err
returns-clause-err g c = on_err_so c.reserve_to_fit-result.result c.reserve_to_fit-result.ensures.reserves.err (λ same. untouched g.D.Slot c.args.self.now.alone c.reserve_to_fit-result.new.self same)

pub returns-clause-grows : goal.returns-clause-grows
returns-clause-grows g c = (lasts_or_same g.D.Slot c.args.self.now.alone c.reserve_to_fit-result.new.self _ c.reserve_to_fit-result.result c.reserve_to_fit-result.ensures.reserves.ok c.reserve_to_fit-result.ensures.reserves.err).grows

pub returns-clause-entries : goal.returns-clause-entries
returns-clause-entries g c = on_ok_so c.reserve_to_fit-result.result c.reserve_to_fit-result.ensures.reserves.ok (λ made. makes_made g.D.Slot c.args.self.now.alone c.reserve_to_fit-result.new.self made)
