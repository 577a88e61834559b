use Rattle.std.proofs.Common.{rules, Some, ap}
use Rattle.tuple_stream.specs.Places.{Place}
use Rattle.tuple_stream.specs.Reading.{IsFoundAt, behind_row}
use Rattle.tuple_stream.specs.Steps.{scene}
use Rattle.tuple_stream.proofs.ReadRow.{reads_here}
use Rattle.tuple_stream.proofs.stream.Stream.keep_first.Goals as goal

pub returns-in-Some-clause-ok : goal.returns-in-Some-clause-ok
returns-in-Some-clause-ok g c =
    let b = scene c.keep_at.new.self (g.St.Store.holds c.keep_at.new.store) (g.St.Store.signs c.keep_at.new.store) in
    let found : IsFoundAt (Some c.in-Some.byte) c.args.place c.keep_at.new.out.items b = search rules in
    reads_here _ _ c.args.place _ c.in-Some.byte _ c.args.c.now.tracker (ap (λ (q : Place). behind_row q c.in-Some.byte) c.place.view_is) c.keep_at.ensures.went found c.keep_at.ensures.same c.requires.place c.requires.some (search rules) c.keep_at.ensures.still
