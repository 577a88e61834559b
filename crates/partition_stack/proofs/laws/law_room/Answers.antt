use Rattle.partition_stack.proofs.Room.{room_for_each, room_stays}
use Rattle.partition_stack.proofs.laws.law_room.Goals as goal

pub returns-clause-each : goal.returns-clause-each
returns-clause-each c = room_for_each

pub returns-clause-stays : goal.returns-clause-stays
returns-clause-stays c = room_stays
