use Rattle.std.proofs.Common.{ap, rules}
use Rattle.query_run.proofs.Around.{starts_here}
use Rattle.group_op.specs.Operator.{Operator}
use Rattle.query_run.proofs.Stores.{works_here}
use Rattle.query_run.proofs.Wants.{long_page, short_page}
use Rattle.query_run.proofs.several.start_one.Goals as goal

pub returns-in-Ok-clause-works : goal.returns-in-Ok-clause-works
returns-in-Ok-clause-works g c =
    let has = starts_here c.args.plan.now c.own_client-c.result _ _ (g.St.Store.holds c.args.store.now) (g.St.Store.holds c.own_client-c.new.store) (g.St.Store.signs c.own_client-c.new.store) c.law_starts.ensures.law c.requires.plan c.own_client-c.ensures.own (search rules) in
    works_here c.args.plan.now c.own_client-c.result c.in-Ok.op _ _ _ _ _ _ c.in-Ok.ensures.ok c.requires.store.idle c.own_client-c.ensures.own c.own_client-c.ensures.grows (rw c.in-Ok.ensures.ok has.op)

pub returns-in-Ok-clause-begins : goal.returns-in-Ok-clause-begins
returns-in-Ok-clause-begins g c =
    let has = starts_here c.args.plan.now c.own_client-c.result _ _ (g.St.Store.holds c.args.store.now) (g.St.Store.holds c.own_client-c.new.store) (g.St.Store.signs c.own_client-c.new.store) c.law_starts.ensures.law c.requires.plan c.own_client-c.ensures.own (search rules) in
    let h = g.St.Store.holds c.own_client-c.new.store in
    let more = long_page c.args.plan.now (g.St.Store.holds c.args.store.now).block_len c.requires.plan.paged (search rules) in
    record {
      is = rw c.in-Ok.ensures.ok has.op;
      feeding = rw c.in-Ok.ensures.ok has.feeding;
      shape_is = ap (λ (op : Operator). op.shape) c.in-Ok.ensures.ok;
      keeps = rw c.in-Ok.ensures.ok has.keeps;
      page_is = search rules;
      short = short_page c.args.plan.now.page_blocks _ c.requires.plan.paged (rw c.own_client-c.ensures.own.block_len (search rules));
      long = search (rules, more);
    }
