use Rattle.std.proofs.Common.{sym, ◌∙◌}
use Rattle.pin_core.specs.parts.Changes.{entry_at}
use Rattle.pin_core.proofs.PinReady.{ready_clean}
use Rattle.pin_core.proofs.parts.Parts.pin_roomy.Goals as goal

pub pin_clean-requires : goal.pin_clean-requires
pin_clean-requires g c = record {
  ready = ready_clean c.args.self.now c.requires.kept c.requires.laws _ c.args.id (entry_at c.args.self.now c.args.id.name) c.requires.can (sym c.look_at.ensures.place ∙ c.in-Clean.is) c.requires.room;
}
