-- Where the pages of the worked row stand.
use Rattle.std.proofs.Common.{rules}
use Rattle.client_lists.specs.declared.which.Which.TheVariants.{Dirty}
use Rattle.client_lists.proofs.tests.pages_come_move_and_leave_with_their_lengths.Goals as goal

pub shift-requires : goal.shift-requires
shift-requires _ c = record { which = Dirty; there = search rules }

pub take_out-requires : goal.take_out-requires
take_out-requires _ c = record { which = Dirty; there = search rules }
