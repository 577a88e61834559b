use Rattle.std.proofs.Common.{sym, ◌∙◌, refl}
use Rattle.std.proofs.lemmas.Bool.{false≢true}
use Rattle.pin_core.proofs.parts.Parts.room_turn.Goals as goal

pub returns-in-None : goal.returns-in-None
returns-in-None g c =
    (record { full = λ room. false≢true (sym c.if-has_room.false ∙ c.has_room.ensures.1 room); failed = sym c.first.ensures ∙ c.in_default.is }, c.newest_dirty.ensures.none.0 c.in-None.is, refl)
