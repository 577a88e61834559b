-- One client more, where there was room.
use Rattle.std.proofs.Common.{◌≡◌, ◌<◌, false, length, IsSome}
use Rattle.index_list.specs.Listing.{stands_in}
use Rattle.session_table.specs.Seats.{seat_of, members_of, trackers_of, with_member}
use Rattle.session_table.proofs.Changes.{some_within}
use Rattle.session_table.proofs.Kept.{proper_with, proper_written}
use Rattle.session_table.proofs.table.SessionTable.add.Goals as goal

pub invariant_of-self : goal.invariant_of-self
invariant_of-self c =
    let rows = c.self.inside.rows.items in
    let there : IsSome (seat_of rows c.args.s) = rw (← c.self.view_is) at c.requires.seated in
    let room : length (members_of rows c.args.s) < 16 = rw (← c.self.view_is) at c.requires.room in
    let apart : stands_in c.args.tracker (trackers_of (members_of rows c.args.s)) ≡ false = rw (← c.self.view_is) at c.requires.apart in
    proper_written rows c.args.s c.index_mut.result.now c.add.new.self (some_within rows c.args.s there) c.index_mut.ensures.value (with_member c.args.tracker) c.add.ensures (proper_with rows c.args.s c.self.invariant c.args.tracker room apart)
