use Rattle.std.proofs.Common.{sym, ◌∙◌}
use Rattle.pin_core.specs.parts.Changes.{entry_at}
use Rattle.pin_core.proofs.PinReady.{ready_dirty}
use Rattle.pin_core.proofs.parts.Parts.pin_turn.Goals as goal

pub pin_dirty-requires : goal.pin_dirty-requires
pin_dirty-requires g c = record {
  ready = ready_dirty c.args.self.now c.requires.kept c.requires.laws c.args.session c.args.id (entry_at c.args.self.now c.args.id.name) c.requires.can (sym c.look_at.ensures.place ∙ c.in-Dirty.is);
}
