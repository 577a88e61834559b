use Rattle.row_reading.proofs.Bodies.{spelled_is_row, values_back}
use Rattle.row_reading.proofs.laws.law_rows_back.Goals as goal

pub returns-clause-values : goal.returns-clause-values
returns-clause-values c = values_back

pub returns-clause-rows : goal.returns-clause-rows
returns-clause-rows c = spelled_is_row
