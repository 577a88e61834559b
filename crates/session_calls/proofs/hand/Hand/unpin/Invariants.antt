use Rattle.std.specs.Prelude.{◌∷◌, []}
use Rattle.pool_model.specs.declared.event.Event.TheVariants as event
use Rattle.session_calls.proofs.hand.Hand.unpin.Given as goal

abbrev pub ghosts-leave : goal.ghosts-leave
ghosts-leave g a = record { entries = record { maker = a.hand.now.session; event = event.Unpin a.p.now.name a.buf.bytes } ∷ [] }
