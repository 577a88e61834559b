use Rattle.tuple_stream.proofs.Starts.{starts_first}
use Rattle.tuple_stream.proofs.laws.law_first_place.Goals as goal

pub returns : goal.returns
returns c = record { law = starts_first }
