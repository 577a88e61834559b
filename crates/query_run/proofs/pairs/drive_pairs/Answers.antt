use Rattle.std.proofs.Common.{[], ◌+◌, ◌*◌, length, refl}
use Rattle.partition_stack.proofs.Results.{if_err, on_err, on_ok}
use Rattle.query_run.proofs.Handed.{left_others}
use Rattle.query_run.proofs.Joining.{holds_so}
use Rattle.query_run.proofs.Counted.{counted_few}
use Rattle.query_run.proofs.JoinWants.{wants_alone}
use Rattle.query_run.proofs.pairs.drive_pairs.Goals as goal

pub returns-clause-ok : goal.returns-clause-ok
returns-clause-ok g c =
    on_ok c.finish-result.result (λ emitted start lefts rights keeps told.
    let pairs = emitted start lefts rights keeps told in
    record { out = pairs.rows; same = pairs.same; taken = (pairs.came [] (c.requires.name, c.requires.sums, c.requires.none)).2 })
    c.finish-result.ensures.ok

pub returns-clause-err : goal.returns-clause-err
returns-clause-err g c =
    on_err c.finish-result.result (λ emitted start lefts rights keeps told.
    let pairs = emitted start lefts rights keeps told [] (c.requires.name, c.requires.sums, c.requires.none) in
    record { some = pairs.some; rest = pairs.rest; same = pairs.same; taken = pairs.came.2 })
    c.finish-result.ensures.err

pub returns-clause-leaves : goal.returns-clause-leaves
returns-clause-leaves g c = left_others _ _ _ _ _ c.finish-result.ensures.leaves

pub returns-clause-kept : goal.returns-clause-kept
returns-clause-kept g c = on_ok c.finish-result.result (λ kept start lefts rights keeps. holds_so _ _ _ _ _ _ _ _ _ (λ same. tt) (kept start lefts rights keeps)) c.finish-result.ensures.kept

pub returns-clause-made : goal.returns-clause-made
returns-clause-made g c = λ start lefts rights keeps told. counted_few (15 * (length lefts + length rights)) (g.St.Store.signs c.args.store.now) (g.St.Store.signs c.finish-result.new.store) (c.finish-result.ensures.made start lefts rights keeps told)

pub returns-clause-slots : goal.returns-clause-slots
returns-clause-slots g c = c.finish-result.ensures.slots.alone refl

pub returns-clause-enough : goal.returns-clause-enough
returns-clause-enough g c =
    if_err c.finish-result.result (λ e wants start lefts rights keeps told. wants_alone _ _ e (wants start lefts rights [] keeps told (c.requires.name, c.requires.sums, c.requires.none)).below) c.finish-result.ensures.enough
