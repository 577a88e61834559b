use Rattle.tuple_stream.proofs.FewPages.{few_pages}
use Rattle.tuple_stream.proofs.laws.law_few_pages.Goals as goal

pub returns : goal.returns
returns c = record { law = few_pages }
