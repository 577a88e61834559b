use Rattle.std.proofs.Common.{◌≡◌, Some, sym, ap, unwrap_or, ◌∙◌}
use Rattle.local_pool.proofs.Shelved.{taken_up}
use Rattle.local_pool.proofs.sole.SoleAccess.take.Goals as goal

pub returns-clause-taken : goal.returns-clause-taken
returns-clause-taken g c =
    let there : Some c.unwrap.result ≡ Some c.requires.hand = sym c.unwrap.ensures ∙ c.take.ensures.value ∙ c.requires.there in
    taken_up g.D.Slot g.O.Opened.opening g.O.Opened.outset.told c.args.place.now c.args.session c.requires c.unwrap.result (ap (λ o. unwrap_or o c.requires.hand) there)
