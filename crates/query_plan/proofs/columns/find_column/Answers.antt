use Rattle.std.proofs.Common.{◌≡◌, ◌∙◌, true, false, refl, sym, add-one}
use Rattle.query_plan.specs.Columns.{named, is_named}
use Rattle.query_plan.proofs.NamedColumns.{named_step}
use Rattle.query_plan.proofs.columns.find_column.Goals as goal

pub loop-place-init : goal.loop-place-init
unfolding named
loop-place-init c = refl

pub returns-then-eq : goal.returns-then-eq
returns-then-eq c =
    let hit : is_named c.args.name.now c.index-columns-place.result ≡ true = rw (← c.as_slice.ensures.value) (sym c.eq.ensures ∙ c.if-eq.true) in
    rw (c.loop-place.invariant, named_step c.args.name.now c.loop-place.place c.args.columns.now c.loop-place.place c.index-columns-place.result c.loop-place-test.true c.index-columns-place.is, hit) refl

pub loop-place-preserved : goal.loop-place-preserved
loop-place-preserved c =
    let missed : is_named c.args.name.now c.index-columns-place.result ≡ false = rw (← c.as_slice.ensures.value) (sym c.eq.ensures ∙ c.if-eq.false) in
    rw (c.loop-place.invariant, named_step c.args.name.now c.loop-place.place c.args.columns.now c.loop-place.place c.index-columns-place.result c.loop-place-test.true c.index-columns-place.is, missed, add-one) refl
