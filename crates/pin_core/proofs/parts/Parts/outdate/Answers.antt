use Rattle.std.proofs.Common.{◌∙◌, refl}
use Rattle.page_table.specs.declared.entry.Place.TheVariants as spot
use Rattle.client_lists.specs.declared.which.Which.TheVariants as which
use Rattle.pin_core.proofs.Back.{back_on}
use Rattle.pin_core.proofs.ReadReady.{read_room, read_live, read_used}
use Rattle.pin_core.proofs.parts.Parts.outdate.Goals as goal

pub take_back-shell-requires-clause-room : goal.take_back-shell-requires-clause-room
take_back-shell-requires-clause-room g c = read_room c.args.self.now c.requires.kept c.requires.laws c.args.id _ c.args.buf c.args.row c.requires.back

pub take_out-requires : goal.take_out-requires
take_out-requires g c = back_on c.args.self.now c.requires.kept spot.Loading c.args.id _ c.args.buf c.args.row c.requires.back c.args.client c.requires.client which.Pinned refl

pub release-requires-clause-live : goal.release-requires-clause-live
release-requires-clause-live g c = read_live c.args.self.now c.requires.kept c.requires.laws c.args.id _ c.args.buf c.args.row c.requires.back c.of.result c.args.client c.of.ensures c.requires.client

pub release-requires-clause-used : goal.release-requires-clause-used
release-requires-clause-used g c =
    read_used c.args.self.now c.requires.kept c.requires.laws c.args.id _ c.args.buf c.args.row c.requires.back c.of.result c.args.client c.room.result c.bytes-len.result
    c.of.ensures c.requires.client (c.room.ensures ∙ c.take_back-shell.ensures.shell) c.bytes-len.ensures
