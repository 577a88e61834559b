use Rattle.std.proofs.Common.{◌≡◌, ◌∙◌, subst}
use Rattle.query_plan.specs.Sizes.{page_len}
use Rattle.query_plan.specs.declared.plan.Query.{Query}
use Rattle.query_run.specs.Parallel.{FedParallel, MayFeed, counts_by}
use Rattle.query_run.specs.Refused.{source}
use Rattle.query_run.specs.Several.{block_len_of}
use Rattle.query_run.proofs.Shared.{fed_parallel}
use Rattle.query_run.proofs.parallel.feed_rows.Goals as goal

pub returns-clause-fed : goal.returns-clause-fed
returns-clause-fed g c =
    let plan = c.requires.input.0 in
    let input = g.B.Reads.input in
    let may : MayFeed g.St.Store input.plan c.args.stores.now c.args.ops.now = rw plan c.requires.ops in
    let page : input.page ≡ page_len input.plan (block_len_of g.St.Store c.args.stores.now) = rw plan (c.requires.input.1 ∙ c.requires.page) in
    let all = fed_parallel g.St.Store g.S.Source input _ c.deal-dealt.new.giver c.deal-dealt.result c.args.ops.now c.deal-dealt.new.ops c.args.stores.now c.deal-dealt.new.besides may page c.law_rows.ensures.rows c.deal-dealt.ensures.ok c.deal-dealt.ensures.cause c.deal-dealt.ensures.left in
    rw c.counts_of.ensures (subst (λ (p : Query). FedParallel g.St.Store p (source input.told (g.S.Source.remaining c.deal-dealt.new.giver.rows.src.now) input.faults (g.S.Source.faults c.deal-dealt.new.giver.rows.src.now)) (counts_by c.deal-dealt.result c.deal-dealt.new.giver.read c.deal-dealt.new.giver.kept) c.args.stores.now c.deal-dealt.new.besides c.args.ops.now c.deal-dealt.new.ops) plan all)
