use Rattle.std.proofs.Common.{refl}
use Rattle.page_table.specs.declared.entry.Place.TheVariants as spot
use Rattle.client_lists.specs.declared.which.Which.TheVariants as which
use Rattle.pin_core.proofs.Back.{back_on, back_absent, back_seat}
use Rattle.pin_core.proofs.parts.Parts.finish_write.Goals as goal

pub note-requires : goal.note-requires
note-requires g c = back_seat c.args.self.now c.requires.kept (spot.Flying c.args.job.who) c.args.job.id _ c.args.job.buf c.args.job.row c.requires.back c.requires.laws c.put_at-session.result c.put_at-session.ensures.session

pub shift-requires : goal.shift-requires
shift-requires g c = back_on c.args.self.now c.requires.kept (spot.Flying c.args.job.who) c.args.job.id _ c.args.job.buf c.args.job.row c.requires.back c.args.job.client c.requires.client which.Flying refl

pub take_out-requires : goal.take_out-requires
take_out-requires g c = back_on c.args.self.now c.requires.kept (spot.Flying c.args.job.who) c.args.job.id _ c.args.job.buf c.args.job.row c.requires.back c.args.job.client c.requires.client which.Flying refl

pub push-requires-clause-absent : goal.push-requires-clause-absent
push-requires-clause-absent g c = back_absent c.args.self.now c.requires.kept (spot.Flying c.args.job.who) c.args.job.id _ c.args.job.buf c.args.job.row c.requires.back refl
