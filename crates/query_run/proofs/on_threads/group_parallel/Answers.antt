use Rattle.std.proofs.Common.{◌≡◌, ◌∙◌, List, ap, arith, length, rules, subst, sym}
use Rattle.partition_stack.proofs.Results.{if_err}
use Rattle.fragments.proofs.Gathering.{whole}
use Rattle.group_op.specs.Operator.{Operator}
use Rattle.query_plan.specs.Sizes.{page_len}
use Rattle.query_run.specs.Several.{AllWork, AnsweredByOne, all_tell, block_len_of}
use Rattle.query_run.proofs.Going.{of_pool_so}
use Rattle.query_run.proofs.Runs.{nothing_read, read_and_wrote_at}
use Rattle.query_run.proofs.Sharing.{answered_around}
use Rattle.query_run.proofs.Stores.{first_len, tells_same, works_alike}
use Rattle.query_run.proofs.on_threads.group_parallel.Goals as goal

pub returns-in_default : goal.returns-in_default
returns-in_default g c =
    let some = c.requires.stores.some in
    record {
      outside = nothing_read g.S.Source g.K.Sink c.args.plan.now _ _ _;
      pool = record { at = 0; below = omega (arith, some); answered = λ d. tt };
      stores = c.in_default.ensures.err;
    }

pub returns : goal.returns
returns g c =
    let plan = c.args.plan.now in
    let old = c.args.stores.now in
    let started = c.start_groupings.new.stores in
    let after = c.answer-result.new.stores in
    let works = c.in-Ok.ensures.works in
    let some = c.requires.stores.some in
    let alike = works_alike g.St.Store plan old started c.in-Ok.ops.items works in
    let lens : block_len_of g.St.Store started ≡ block_len_of g.St.Store old = first_len g.St.Store old started works.len (λ d. (alike 0 d (omega (arith, some))).1) in
    let tells : all_tell g.St.Store started ≡ all_tell g.St.Store old = tells_same g.St.Store old started works.len (λ k d below. (alike k d below).0) in
    let here : AllWork g.St.Store plan old started c.as_mut_slice.result.now = rw c.as_mut_slice.ensures.value works in
    let there = c.answer-result.ensures.works old here in
    let same : length after ≡ length started = there.len ∙ sym works.len in
    let held : length c.in-Ok.ops.items ≡ c.in-Ok.ops.len = search rules in
    let first = works.many in
    let then = there.many in
    let whole_now = whole c.in-Ok.ops.len c.answer-result.new.ops c.in-Ok.ops.items (omega (arith, held, first, then)) held in
    record {
      outside = read_and_wrote_at g.S.Source g.K.Sink plan _ _ _ _ _ _ c.answer-result.result (ap (page_len plan) lens) tells c.answer-result.ensures.outside;
      pool = if_err c.answer-result.result (λ e came. of_pool_so (AnsweredByOne g.St.Store started after) (AnsweredByOne g.St.Store old c.end_groupings.new.stores)
          (λ why one. answered_around g.St.Store plan old started after c.end_groupings.new.stores c.in-Ok.ops.items why works c.end_groupings.ensures.grow same one) e came) c.answer-result.ensures.pool;
      stores = c.end_groupings.ensures.back plan old (subst (λ (l : List Operator). AllWork g.St.Store plan old after l) (sym whole_now) there);
    }
