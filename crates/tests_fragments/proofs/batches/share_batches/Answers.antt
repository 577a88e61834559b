use Rattle.tests_fragments.proofs.InBatches.{shared_batches}
use Rattle.tests_fragments.proofs.batches.share_batches.Goals as goal

pub returns : goal.returns
returns g c = shared_batches _ _ _ _ _ _ _ c.args.all.now (λ items is. is) c.requires.none c.deal-dealt.result c.deal-dealt.ensures.ok
