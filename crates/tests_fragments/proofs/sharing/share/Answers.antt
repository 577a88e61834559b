use Rattle.std.proofs.Common.{rules, sym}
use Rattle.tests_fragments.proofs.Shared.{shared}
use Rattle.tests_fragments.proofs.sharing.share.Goals as goal

pub returns : goal.returns
returns g c = shared _ _ _ _ _ _ _ c.args.all.now (λ items is. is) c.requires.none c.deal-dealt.result c.deal-dealt.ensures.ok
