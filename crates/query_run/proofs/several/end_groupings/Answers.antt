use Rattle.query_run.proofs.Stores.{all_given_back}
use Rattle.query_run.proofs.several.end_groupings.Goals as goal

pub returns-clause-back : goal.returns-clause-back
returns-clause-back g c = λ plan first works. all_given_back g.St.Store plan first _ _ c.args.ops.items c.end_first.ensures works

pub returns-clause-grow : goal.returns-clause-grow
returns-clause-grow g c = record { len = c.end_first.ensures.len; each = c.end_first.ensures.grow }
