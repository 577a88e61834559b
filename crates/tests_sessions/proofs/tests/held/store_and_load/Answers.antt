use Rattle.std.proofs.Common.{sym, ◌∙◌}
use Rattle.tests_sessions.proofs.tests.held.store_and_load.Goals as goal

pub end-requires-clause-table : goal.end-requires-clause-table
end-requires-clause-table g c = λ κs lives.
    c.seated-two.ensures.begins.table.0 ∙ c.seated-one.ensures.begins.table.0 ∙ c.requires.table ∙ sym (c.law_there.ensures c.args.pool.now c.requires.named)

pub end-requires-2-clause-table : goal.end-requires-2-clause-table
end-requires-2-clause-table g c = λ κs lives.
    c.end.ensures.table ∙ c.seated-two.ensures.begins.table.0 ∙ c.seated-one.ensures.begins.table.0 ∙ c.requires.table ∙ sym (c.law_there-2.ensures c.args.pool.now c.requires.named)
