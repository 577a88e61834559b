use Rattle.std.proofs.Common.{◌≡◌, ◌++◌, map, take, drop}
use Rattle.session_table.specs.Seats.{noting}
use Rattle.session_table.proofs.row.Row.note.Given as goal

abbrev pub invariant-loop-member : goal.invariant-loop-member
invariant-loop-member l = l.member-items ≡ map (noting l.tracker l.entry) (take l.member-index l.initial.member-items) ++ drop l.member-index l.initial.member-items
