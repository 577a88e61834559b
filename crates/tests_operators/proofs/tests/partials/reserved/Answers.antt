use Rattle.std.proofs.Common.{◌∙◌}
use Rattle.tests_operators.proofs.Clients.{may_start}
use Rattle.tests_operators.proofs.tests.partials.reserved.Goals as goal

pub started-requires-clause-start : goal.started-requires-clause-start
started-requires-clause-start g c =
    may_start c.args.c c.requires.new.1 c.from-len.result c.requires.new.0 (g.St.Store.holds c.args.store.now) (g.St.Store.holds c.reserve.new.self) c.requires.new.2 c.in-Ok.ensures.ok (c.from-len.ensures ∙ c.block_len.ensures.value)
