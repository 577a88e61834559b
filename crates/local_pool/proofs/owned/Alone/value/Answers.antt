use Rattle.std.proofs.Common.{subst}
use Rattle.local_pool.specs.Agreeing.{AgreesWith}
use Rattle.local_pool.proofs.Knowing.{Knows, knows}
use Rattle.local_pool.proofs.owned.Alone.value.Goals as goal

pub returns-clause-held : goal.returns-clause-held
returns-clause-held g c =
    let known : Knows g.D.Slot c.self.inside.hand = knows g.D.Slot c.self.inside.hand c.self.invariant.0 in
    subst (AgreesWith g.D.Slot) c.self.view_is (record { session = known.session; lives = known.lives; tells = known.told })
