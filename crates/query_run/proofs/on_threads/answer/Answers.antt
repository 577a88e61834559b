use Rattle.std.proofs.Common.{◌≡◌, Err, None, refl, rules, subst, true}
use Rattle.partition_stack.proofs.Results.{if_err, if_ok, on_err, on_ok}
use Rattle.query_run.specs.Gathering.{HoldLists}
use Rattle.query_plan.specs.Sizes.{page_len}
use Rattle.query_run.specs.FedRows.{AreFed}
use Rattle.query_run.specs.Plans.{shape_of}
use Rattle.query_run.specs.Run.{ReadAndWrote, world}
use Rattle.query_run.specs.Several.{AnsweredByOne, all_tell, block_len_of}
use Rattle.query_run.specs.SoFar.{fed_of}
use Rattle.query_run.proofs.Alone.{says_left}
use Rattle.query_run.proofs.Going.{of_pool_so}
use Rattle.query_run.proofs.Results.{both_ok}
use Rattle.query_run.proofs.Runs.{unread, wrote}
use Rattle.query_run.proofs.Sharing.{answered_later, ends_then, hold_lists, works_on}
use Rattle.query_run.proofs.Stores.{feeds_on}
use Rattle.query_run.proofs.Whole.{all_numbers, grouped, groups_alone, left_kinds, part_answer, passing_of, whole_answer}
use Rattle.query_run.proofs.on_threads.answer.Goals as goal

pub write_all-requires-clause-plan : goal.write_all-requires-clause-plan
write_all-requires-clause-plan g c = groups_alone c.args.plan.now c.requires.plan

pub write_all-requires-clause-ops : goal.write_all-requires-clause-ops
write_all-requires-clause-ops g c = feeds_on g.St.Store c.args.plan.now _ _ _ _ c.requires.ops c.feed_parallel.ensures.go

pub returns-in_err-read-clause-outside : goal.returns-in_err-read-clause-outside
returns-in_err-read-clause-outside g c =
    let e = c.in_err-read.field-0.0 in
    let plan = c.args.plan.now in
    let page = page_len plan (block_len_of g.St.Store c.args.stores.now) in
    let tells = all_tell g.St.Store c.args.stores.now in
    let stopped : ReadAndWrote g.S.Source g.K.Sink plan page tells (world c.args.left.now None c.args.sink.now) (world c.feed_parallel.new.left None c.args.sink.now) (Err e) =
    unread g.S.Source g.K.Sink plan page tells _ _ e (says_left plan page _ _ e c.in_err-read.ensures.says) c.in_err-read.ensures.cause refl (c.feed_parallel.ensures.faults, refl) in
    search (rules, stopped)

pub returns-clause-outside : goal.returns-clause-outside
returns-clause-outside g c =
    let plan = c.args.plan.now in
    let page = page_len plan (block_len_of g.St.Store c.args.stores.now) in
    let has = c.in_ok-read.ensures.shared in
    let rows = passing_of plan has.rows in
    let groups = grouped plan (groups_alone plan c.requires.plan) in
    let formed : AreFed (shape_of plan).kinds rows = subst (λ ks. AreFed ks rows) (left_kinds plan c.requires.plan.alone) has.formed in
    let hold : all_tell g.St.Store c.args.stores.now ≡ true → HoldLists g.St.Store c.feed_parallel.new.stores c.feed_parallel.new.ops has.came.lists =
    λ tell. hold_lists g.St.Store plan c.args.stores.now c.feed_parallel.new.stores c.args.ops.now c.feed_parallel.new.ops rows c.requires.ops c.requires.begins c.feed_parallel.ensures.go tell has.came in
    let w = c.write_all.ensures in
    wrote g.S.Source g.K.Sink plan page (all_tell g.St.Store c.args.stores.now) _ _ c.write_all.result (c.in_ok-read.ensures.read, refl)
    (λ told. on_ok c.write_all.result (λ ok. whole_answer plan page c.requires.plan.alone groups _ _ _ has.rows has.are (ok has.came.lists rows (hold told) has.came.all formed)) w.answer)
    (if_ok c.write_all.result (λ ran both. all_numbers plan page c.requires.plan.alone groups _ _ has.rows (fed_of c.in_ok-read.read c.in_ok-read.kept) ran has.are has.read has.kept both.0.0 both.0.1 both.0.2 (λ told. both.1 has.came.lists rows (hold told) has.came.all formed))
    (both_ok _ _ c.write_all.result w.numbers w.lines))
    w.cause
    (λ told. on_err c.write_all.result (λ err. part_answer plan page c.requires.plan.alone groups _ _ _ has.rows has.are (err has.came.lists rows (hold told) has.came.all formed)) w.front)
    w.sink w.stops (c.feed_parallel.ensures.faults, refl)

pub returns-clause-pool : goal.returns-clause-pool
returns-clause-pool g c =
    if_err c.write_all.result (λ e came. of_pool_so (AnsweredByOne g.St.Store c.feed_parallel.new.stores c.write_all.new.stores) (AnsweredByOne g.St.Store c.args.stores.now c.write_all.new.stores)
    (λ why one. answered_later g.St.Store c.args.plan.now c.args.stores.now c.feed_parallel.new.stores c.write_all.new.stores c.args.ops.now c.feed_parallel.new.ops why c.requires.ops c.feed_parallel.ensures.go one) e came) c.write_all.ensures.pool

pub returns-clause-ends : goal.returns-clause-ends
returns-clause-ends g c = ends_then g.St.Store c.args.plan.now _ _ _ _ c.feed_parallel.ensures.ends.many c.write_all.ensures.went

pub returns-clause-works : goal.returns-clause-works
returns-clause-works g c = λ first works. works_on g.St.Store c.args.plan.now first _ _ _ _ c.write_all.ensures.went (c.feed_parallel.ensures.works first works)
