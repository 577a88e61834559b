use Rattle.reservation_tree.proofs.Ways.{queries_step, clients_step, queries_move, clients_move, moves_to_itself}
use Rattle.reservation_tree.proofs.laws.law_ways.Goals as goal

pub returns-clause-queries : goal.returns-clause-queries
returns-clause-queries c = queries_step

pub returns-clause-clients : goal.returns-clause-clients
returns-clause-clients c = clients_step

pub returns-clause-moves : goal.returns-clause-moves
returns-clause-moves c = queries_move

pub returns-clause-between : goal.returns-clause-between
returns-clause-between c = clients_move

pub returns-clause-itself : goal.returns-clause-itself
returns-clause-itself c = moves_to_itself
