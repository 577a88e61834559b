use Rattle.std.proofs.Common.{◌≡◌, ◌∙◌, ◌+◌, ◌*◌, ℕ, length, ap, subst, sym, arith}
use Rattle.partition_stack.proofs.Making.{few_both, few_less}
use Rattle.join_op.specs.Pairs.{pairs_of}
use Rattle.store_api.proofs.Answered.{answered_after}
use Rattle.store_api.specs.Holdings.{length_of}
use Rattle.store_api.specs.Tokens.{ClientToken}
use Rattle.partition_stack.specs.Leaving.{LeavesOthers}
use Rattle.partition_stack.proofs.Results.{if_err, if_ok, on_err, on_ok}
use Rattle.query_run.specs.Stopped.{StoppedBy}
use Rattle.query_run.specs.Taking.{join_slots}
use Rattle.query_run.proofs.BothWants.{groups_below, stopped_of}
use Rattle.query_run.proofs.EndedFirst.{ended_more}
use Rattle.query_run.proofs.Going.{of_pool_so, stopped_later}
use Rattle.query_run.proofs.KeptPairs.{holds_rows, nothing_left}
use Rattle.query_run.proofs.Counted.{names_none, pairs_make}
use Rattle.query_run.proofs.both.write_both.Goals as goal

pub returns-clause-ok : goal.returns-clause-ok
returns-clause-ok g c =
    on_ok c.write_groups-result.result (λ ok start lefts rights keeps told. ok _ (c.in-Ok.ensures.holds start lefts rights keeps told) (c.join_into.ensures.gone.told ∙ told)) c.write_groups-result.ensures.ok

pub returns-clause-err : goal.returns-clause-err
returns-clause-err g c =
    on_err c.write_groups-result.result (λ err start lefts rights keeps told. err _ (c.in-Ok.ensures.holds start lefts rights keeps told) (c.join_into.ensures.gone.told ∙ told)) c.write_groups-result.ensures.err

pub returns-clause-lines : goal.returns-clause-lines
returns-clause-lines g c =
    if_ok c.write_groups-result.result (λ ran lines start lefts rights keeps told. lines _ (c.in-Ok.ensures.holds start lefts rights keeps told) (c.join_into.ensures.gone.told ∙ told)) c.write_groups-result.ensures.lines

pub returns-clause-kept : goal.returns-clause-kept
returns-clause-kept g c =
    let s1 = g.St.Store.signs c.join_into.new.store in
    let s2 = g.St.Store.signs c.write_groups-result.new.store in
    let s3 = g.St.Store.signs c.end-second.new.store in
    let went = c.write_groups-result.ensures.went in
    let ends = nothing_left c.args.second _ c.args.plan.now.page_blocks c.in-Ok.op c.write_groups-result.new.op (g.St.Store.holds c.write_groups-result.new.store) s1 s2 s3 went.went.leaves.grows c.end-second.ensures.leaves.grows went.quiet c.end-second.ensures.first in
    on_ok c.write_groups-result.result (λ ok start lefts rights keeps. holds_rows _ c.args.join.shape lefts rights start s1.trail s3.trail (c.in-Ok.ensures.kept start lefts rights keeps) ends) c.write_groups-result.ensures.ok

pub returns-in-Err-clause-pool : goal.returns-in-Err-clause-pool
returns-in-Err-clause-pool g c =
    stopped_of c.args.plan.now.page_blocks (join_slots c.args.join (g.St.Store.holds c.args.store.now) (g.St.Store.signs c.args.store.now)) (g.St.Store.signs c.args.store.now) (g.St.Store.signs c.join_into.new.store) c.in-Err.why c.in-Err.ensures.cause c.in-Err.ensures.want

pub returns-clause-pool : goal.returns-clause-pool
returns-clause-pool g c =
    let s0 = g.St.Store.signs c.args.store.now in
    let s1 = g.St.Store.signs c.join_into.new.store in
    let s2 = g.St.Store.signs c.write_groups-result.new.store in
    let s3 = g.St.Store.signs c.end-second.new.store in
    let blocks : ℕ = c.args.plan.now.page_blocks in
    let total = join_slots c.args.join (g.St.Store.holds c.args.store.now) s0 in
    if_err c.write_groups-result.result (λ e stopped. of_pool_so (StoppedBy blocks total s0 s2) (StoppedBy blocks total s0 s3) (λ why by. record { answered = answered_after why s0 s2 s3 by.answered c.end-second.ensures.leaves.grows; want = by.want }) e
    (stopped_later blocks c.in-Ok.op.parts.page_blocks total _ s0 s1 s2 e c.in-Ok.ensures.ok.blocks_are c.in-Ok.ensures.slots c.join_into.ensures.gone.grows stopped)) c.write_groups-result.ensures.pool

pub returns-clause-enough : goal.returns-clause-enough
returns-clause-enough g c =
    let h1 = g.St.Store.holds c.join_into.new.store in
    let s1 = g.St.Store.signs c.join_into.new.store in
    let gone = c.join_into.ensures.gone in
    let ok = c.in-Ok.ensures.ok in
    let page_is : c.args.page ≡ length_of c.args.plan.now.page_blocks h1 = c.requires.page.0 ∙ sym (ap (λ (n : ℕ). c.args.plan.now.page_blocks * n) gone.block_len) in
    let total = join_slots c.args.join (g.St.Store.holds c.args.store.now) (g.St.Store.signs c.args.store.now) in
    if_err c.write_groups-result.result (λ e enough. of_pool_so _ _ (λ why below start lefts rights keeps told.
    let has = c.in-Ok.ensures.holds start lefts rights keeps told in
    groups_below c.args.plan.now c.args.page lefts rights (pairs_of c.args.join.shape lefts rights) c.in-Ok.op h1 s1 total why has ok.shape_is ok.blocks_are page_is c.in-Ok.ensures.slots (below has.fed has.holds (gone.told ∙ told))) e enough) c.write_groups-result.ensures.enough

pub returns-clause-free : goal.returns-clause-free
returns-clause-free g c = c.end-second.ensures.slots ∙ c.write_groups-result.ensures.went.went.slots ∙ c.in-Ok.ensures.slots

pub returns-clause-gone : goal.returns-clause-gone
returns-clause-gone g c =
    let h1 = g.St.Store.holds c.join_into.new.store in
    let h2 = g.St.Store.holds c.write_groups-result.new.store in
    let h3 = g.St.Store.holds c.end-second.new.store in
    let s1 = g.St.Store.signs c.join_into.new.store in
    let s2 = g.St.Store.signs c.write_groups-result.new.store in
    let s3 = g.St.Store.signs c.end-second.new.store in
    let went = c.write_groups-result.ensures.went.went in
    let first : LeavesOthers c.args.second.tracker h1 h2 s1 s2 = subst (λ (x : ClientToken). LeavesOthers x.tracker h1 h2 s1 s2) c.in-Ok.ensures.ok.client went.leaves in
    let last : LeavesOthers c.args.second.tracker h2 h3 s2 s3 = subst (λ (x : ClientToken). LeavesOthers x.tracker h2 h3 s2 s3) (went.client ∙ c.in-Ok.ensures.ok.client) c.end-second.ensures.leaves in
    let more = ended_more c.args.join.client.tracker c.args.second.tracker c.requires.apart in
    more _ h2 h3 _ s2 s3 (more _ h1 h2 _ s1 s2 c.join_into.ensures.gone first) last

pub returns-in-Err-clause-made : goal.returns-in-Err-clause-made
returns-in-Err-clause-made g c = λ start lefts rights keeps told.
    let most = 15 * (length lefts + length rights) in
    let pairs = pairs_of c.args.join.shape lefts rights in
    few_less (most + length pairs) (most + 16 * length pairs) (g.St.Store.signs c.args.store.now) (g.St.Store.signs c.join_into.new.store) (omega arith) (c.in-Err.ensures.few start lefts rights keeps told)

pub returns-clause-made : goal.returns-clause-made
returns-clause-made g c = λ start lefts rights keeps told.
    let most = 15 * (length lefts + length rights) in
    let pairs = pairs_of c.args.join.shape lefts rights in
    let h1 = g.St.Store.holds c.join_into.new.store in
    let s0 = g.St.Store.signs c.args.store.now in
    let s1 = g.St.Store.signs c.join_into.new.store in
    let s2 = g.St.Store.signs c.write_groups-result.new.store in
    let s3 = g.St.Store.signs c.end-second.new.store in
    let has = c.in-Ok.ensures.holds start lefts rights keeps told in
    let many = has.many in
    let later = c.write_groups-result.ensures.made has.fed has.holds (c.join_into.ensures.gone.told ∙ told) in
    let all = pairs_make most c.in-Ok.op has.fed h1 s0 s1 s2 c.law_few.ensures.pages c.in-Ok.ensures.ok.feeding has.holds (c.in-Ok.ensures.made start lefts rights keeps told) later in
    few_both (most + 16 * length has.fed) 0 (most + 16 * length pairs) s0 s2 s3 (omega (arith, many)) all (names_none s2 s3 c.end-second.ensures.entries)
