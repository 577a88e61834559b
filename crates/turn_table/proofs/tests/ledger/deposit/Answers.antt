use Rattle.std.proofs.Common.{ap, ◌∙◌, filter, eqb}
use Rattle.turn_table.proofs.Own.{own_grew}
use Rattle.turn_table.proofs.tests.ledger.deposit.Goals as goal

pub returns-clause-own : goal.returns-clause-own
returns-clause-own g c =
    ap (λ k. filter (λ e. eqb e.0 c.args.who) k.seen) c.put_back.ensures.grown
    ∙ own_grew c.args.who c.args.amount c.args.seat.now.knows.rights c.args.seat.now.knows.seen c.enter-ledger.new.seat.knows.seen c.requires.entitled c.enter-ledger.ensures.seen
