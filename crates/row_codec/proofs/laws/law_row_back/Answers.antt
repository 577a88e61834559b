use Rattle.row_codec.proofs.SpelledBack.{row_back}
use Rattle.row_codec.proofs.laws.law_row_back.Goals as goal

pub returns : goal.returns
returns c = record { law = row_back }
