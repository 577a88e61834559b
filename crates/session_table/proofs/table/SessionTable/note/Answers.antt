use Rattle.std.proofs.Common.{IsSome}
use Rattle.session_table.specs.Seats.{seat_of, noted}
use Rattle.session_table.proofs.Changes.{some_within}
use Rattle.session_table.proofs.Kept.{proper_noting, proper_written}
use Rattle.session_table.proofs.table.SessionTable.note.Goals as goal

pub invariant_of-self : goal.invariant_of-self
invariant_of-self c =
    let rows = c.self.inside.rows.items in
    let there : IsSome (seat_of rows c.args.s) = rw (← c.self.view_is) at c.requires in
    proper_written rows c.args.s c.index_mut.result.now c.note.new.self (some_within rows c.args.s there) c.index_mut.ensures.value (noted c.args.tracker c.args.entry) c.note.ensures (proper_noting rows c.args.s c.self.invariant c.args.tracker c.args.entry)
