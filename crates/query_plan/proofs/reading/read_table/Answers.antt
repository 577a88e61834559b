use Rattle.std.proofs.Common.{refl, IsTrue}
use Rattle.query_plan.proofs.Documents.{document_is, no_document}
use Rattle.query_plan.proofs.reading.read_table.Goals as goal

pub returns-in-Ok-clause-table : goal.returns-in-Ok-clause-table
returns-in-Ok-clause-table c = document_is _ _ c.in-Ok.ensures.ok.0 c.in-Ok.ensures.ok.1

pub returns-in-Err-2-clause-cause : goal.returns-in-Err-2-clause-cause
returns-in-Err-2-clause-cause c = λ other.
    (refl, no_document c.args.bytes.now (c.in-Err.ensures.refused (λ memory. let told : IsTrue c.is_memory.result = c.is_memory.ensures.1 memory in cc)))
