use Rattle.std.proofs.Common.{refl, sym, subst}
use Rattle.turn_table.specs.Knowledge.{HasTurn}
use Rattle.turn_table.specs.Face.{Spot}
use Rattle.pool.specs.declared.item.Item.{Item}
use Rattle.pool.specs.Taking.{Gives}
use Rattle.pool.proofs.holding.give_hand.Goals as goal

pub leave_made-requires-clause-named : goal.leave_made-requires-clause-named
leave_made-requires-clause-named g c = refl

pub leave_made-requires-clause-turn : goal.leave_made-requires-clause-turn
leave_made-requires-clause-turn g c = subst (λ (s : Spot Item). HasTurn s.knows) (sym c.place.view_is) c.requires.turn

pub leave_made-requires-clause-gives : goal.leave_made-requires-clause-gives
leave_made-requires-clause-gives g c = subst (λ (s : Spot Item). Gives g.D.Slot g.T.Opened.opening g.T.Opened.outset.told g.T.Opened.first s c.args.hand) (sym c.place.view_is) c.requires.gives

pub leave_made-requires-clause-stop : goal.leave_made-requires-clause-stop
leave_made-requires-clause-stop g c = c.place.invariant (subst (λ (s : Spot Item). HasTurn s.knows) (sym c.place.view_is) c.requires.turn)
