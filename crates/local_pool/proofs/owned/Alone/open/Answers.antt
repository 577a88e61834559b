use Rattle.std.proofs.Common.{◌≡◌, ℕ, List, [], ◌∷◌, ◌++◌, sym, ap, ◌∙◌, subst}
use Rattle.std.specs.List.{sum_by}
use Rattle.pin_core.specs.calls.Setup.{IsOpeningOf}
use Rattle.pin_core.specs.Standing.{slots_home}
use Rattle.pin_core.specs.Tallies.{tally_in, tally_of}
use Rattle.pin_core.specs.declared.tally.Tally.{Tally}
use Rattle.session_calls.specs.declared.count.Count.{Count}
use Rattle.session_calls.specs.declared.count.Count.TheVariants as count
use Rattle.pin_core.proofs.Tallied.{tally_same}
use Rattle.local_pool.specs.Counting.{named_at}
use Rattle.local_pool.proofs.Begun.{begins, counted_alike}
use Rattle.local_pool.proofs.owned.Alone.open.Goals as goal

pub begin-requires-clause-fresh : goal.begin-requires-clause-fresh
begin-requires-clause-fresh g c o is = c.in-Ok.ensures.stands o (subst (λ (n : ℕ). IsOpeningOf c.args.conf.now n o) c.in-Ok.ensures.spare is)

pub returns-in-Ok-clause-ok : goal.returns-in-Ok-clause-ok
returns-in-Ok-clause-ok g c =
    begins g.D.Slot c.args.conf.now c.args.slots.items c.args.limit c.args.quota c.args.least c.in-Ok.pool c.in-Ok.ensures.slots
    c.begin.result c.begin.ensures.ok c.begin.ensures.trail c.begin.ensures.slots

pub begin-requires-clause-opens : goal.begin-requires-clause-opens
begin-requires-clause-opens g c =
    let slots = c.args.slots.items in
    let pool = c.in-Ok.pool in
    counted_alike (named_at g.T.Opened.named g.T.Opened.opening g.T.Opened.first) (tally_of g.D.Slot slots) (tally_in g.D.Slot pool) c.args.conf.now.first_name _
    (tally_same g.D.Slot (λ measure. sum_by measure slots) (λ measure. slots_home measure pool) (λ measure. sym (c.in-Ok.ensures.slots measure))) c.requires.opened

pub begin-requires-clause-counts : goal.begin-requires-clause-counts
begin-requires-clause-counts g c =
    let slots = c.args.slots.items in
    let pool = c.in-Ok.pool in
    let same : tally_of g.D.Slot slots ≡ tally_in g.D.Slot pool = tally_same g.D.Slot (λ measure. sum_by measure slots) (λ measure. slots_home measure pool) (λ measure. sym (c.in-Ok.ensures.slots measure)) in
    c.count_opening.ensures ∙ ap (λ (l : List Count). l ++ count.Opening (tally_of g.D.Slot c.as_slice.result.now) ∷ []) c.in-Some.ensures.1
    ∙ ap (λ (xs : List g.row.D.Denot). count.Opening (tally_of g.D.Slot xs) ∷ []) c.as_slice.ensures.value ∙ ap (λ (t : Tally). count.Opening t ∷ []) same
