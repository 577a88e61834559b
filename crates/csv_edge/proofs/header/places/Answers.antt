use Rattle.std.proofs.Common.{◌≡◌, ◌∙◌, true, None, Some, rules}
use Rattle.std.specs.Result.{is_ok}
use Rattle.csv_edge.specs.Typed.{only_place}
use Rattle.csv_edge.proofs.Placing.{place_more, place_none}
use Rattle.csv_edge.proofs.header.places.Goals as goal

pub returns-in_default : goal.returns-in_default
returns-in_default c =
    let none : only_place c.in_ok-names.names.items c.column-item.result.name ≡ None = search rules in
    rw (← c.in_ok-names.ensures, c.loop-column.invariant) (place_none c.in_ok-names.names.items c.args.columns.now c.loop-column.column-index c.column-item.result c.loop-column.placed.items c.loop-column-test.true c.column-item.is none)

pub loop-column-preserved : goal.loop-column-preserved
loop-column-preserved c =
    let found : only_place c.in_ok-names.names.items c.column-item.result.name ≡ Some c.in-Some.place = search rules in
    let good : is_ok c.push.result ≡ true = search rules in
    rw (c.push.ensures.items, good) (c.loop-column.invariant ∙ place_more c.in_ok-names.names.items c.args.columns.now c.loop-column.column-index c.column-item.result c.loop-column.placed.items c.in-Some.place c.loop-column-test.true c.column-item.is found)
