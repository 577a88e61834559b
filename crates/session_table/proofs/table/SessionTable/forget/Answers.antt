use Rattle.std.proofs.Common.{IsSome}
use Rattle.session_table.specs.Seats.{seat_of, forgotten}
use Rattle.session_table.proofs.Changes.{some_within}
use Rattle.session_table.proofs.Kept.{proper_forgetting, proper_written}
use Rattle.session_table.proofs.table.SessionTable.forget.Goals as goal

pub invariant_of-self : goal.invariant_of-self
invariant_of-self c =
    let rows = c.self.inside.rows.items in
    let there : IsSome (seat_of rows c.args.s) = rw (← c.self.view_is) at c.requires in
    proper_written rows c.args.s c.index_mut.result.now c.forget.new.self (some_within rows c.args.s there) c.index_mut.ensures.value forgotten c.forget.ensures (proper_forgetting rows c.args.s c.self.invariant)
