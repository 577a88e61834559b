use Rattle.session_calls.proofs.Between.{waited, works_again}
use Rattle.session_calls.proofs.turning.wait.Goals as goal

pub returns-clause-at_work : goal.returns-clause-at_work
returns-clause-at_work g c =
    works_again g.O.Opened.opening g.O.Opened.outset g.D.Slot (g.A.Access.seen c.args.place.now) (g.A.Access.seen c.give.new.place) (g.A.Access.seen c.take.new.place) c.args.hand c.take.result c.requires.at_work c.give.ensures.seen c.take.ensures.taken

pub returns-clause-waited : goal.returns-clause-waited
returns-clause-waited g c =
    waited g.O.Opened.opening g.O.Opened.outset g.D.Slot (g.A.Access.seen c.args.place.now) (g.A.Access.seen c.give.new.place) (g.A.Access.seen c.take.new.place) c.args.hand c.take.result c.requires.at_work c.give.ensures.seen c.take.ensures.taken

pub returns-clause-same : goal.returns-clause-same
returns-clause-same g c = λ alone. c.take.ensures.kept alone c.args.hand (c.give.ensures.kept alone)
