use Rattle.bucket_table.proofs.Beside.{beside_fewer, beside_more, beside_others, beside_pages}
use Rattle.bucket_table.proofs.laws.law_table_stays.Goals as goal

pub returns : goal.returns
returns c = record { others = beside_others; pages = beside_pages; more = beside_more; fewer = beside_fewer }
