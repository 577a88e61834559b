use Rattle.std.proofs.Common.{ap, arith}
use Rattle.partition_stack.specs.Stack.{Stack, over}
use Rattle.partition_stack.proofs.Making.{few_none, laying_makes}
use Rattle.join_op.proofs.Calls.{calls_beside}
use Rattle.join_op.proofs.feeding.rest_left.Goals as goal

pub returns-in_err-rest_from-clause-beside : goal.returns-in_err-rest_from-clause-beside
returns-in_err-rest_from-clause-beside g c =
    calls_beside c.args.c.now.tracker c.args.left.now c.rest_from.new.self c.args._right.now (g.St.Store.holds c.args.store.now) (g.St.Store.holds c.rest_from.new.store) (g.St.Store.signs c.args.store.now) (g.St.Store.signs c.rest_from.new.store)
    c.requires.own c.rest_from.ensures.went (ap (λ (s : Stack). s.page_blocks) c.rest_from.ensures.kept) (ap (λ (s : Stack). s.levels) c.rest_from.ensures.kept)

pub returns-clause-beside : goal.returns-clause-beside
returns-clause-beside g c =
    calls_beside c.args.c.now.tracker c.args.left.now c.rest_from.new.self c.args._right.now (g.St.Store.holds c.args.store.now) (g.St.Store.holds c.rest_from.new.store) (g.St.Store.signs c.args.store.now) (g.St.Store.signs c.rest_from.new.store)
    c.requires.own c.rest_from.ensures.went (ap (λ (s : Stack). s.page_blocks) c.rest_from.ensures.kept) (ap (λ (s : Stack). s.levels) c.rest_from.ensures.kept)

pub returns-then-left_rests-clause-made : goal.returns-then-left_rests-clause-made
returns-then-left_rests-clause-made g c = few_none (g.St.Store.signs c.args.store.now)

pub returns-in_err-rest_from-clause-made : goal.returns-in_err-rest_from-clause-made
returns-in_err-rest_from-clause-made g c =
    laying_makes 0 c.args.c.now.tracker (over c.args.left.now (g.St.Store.holds c.args.store.now) (g.St.Store.signs c.args.store.now)) (over c.rest_from.new.self (g.St.Store.holds c.rest_from.new.store) (g.St.Store.signs c.rest_from.new.store)) (let same = c.rest_from.ensures.pages in omega (arith, same)) c.rest_from.ensures.went

pub returns-clause-made : goal.returns-clause-made
returns-clause-made g c =
    laying_makes 0 c.args.c.now.tracker (over c.args.left.now (g.St.Store.holds c.args.store.now) (g.St.Store.signs c.args.store.now)) (over c.rest_from.new.self (g.St.Store.holds c.rest_from.new.store) (g.St.Store.signs c.rest_from.new.store)) (let same = c.rest_from.ensures.pages in omega (arith, same)) c.rest_from.ensures.went
