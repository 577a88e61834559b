use Rattle.group_rows.proofs.Paths.{bytes_is_order, path_is_order}
use Rattle.group_rows.proofs.laws.law_orders.Goals as goal

pub returns-clause-path : goal.returns-clause-path
returns-clause-path c = path_is_order

pub returns-clause-bytes : goal.returns-clause-bytes
returns-clause-bytes c = bytes_is_order
