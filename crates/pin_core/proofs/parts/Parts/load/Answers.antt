use Rattle.std.proofs.Common.{◌≤◌, ◌+◌, ℕ, sym, subst}
use Rattle.clean_evict.specs.Eviction.{blocks_of}
use Rattle.pin_core.specs.parts.Changes.{entry_at}
use Rattle.pin_core.proofs.LoadedOver.{load_covered, load_few}
use Rattle.pin_core.proofs.LoadReady.{fill_ready, fill_parts, fill_job, fill_buffer}
use Rattle.pin_core.proofs.parts.Parts.load.Goals as goal

pub make_room-requires-clause-covered : goal.make_room-requires-clause-covered
make_room-requires-clause-covered g c =
    subst (λ (n : ℕ). n ≤ c.args.self.now.arena.free + blocks_of c.args.self.now.pages c.args.self.now.clean.keys) (sym c.look_at-look.ensures.blocks)
    (load_covered c.args.self.now c.requires.kept c.requires.laws c.args.id (entry_at c.args.self.now c.args.id.name) c.requires.can)

pub make_room-requires-clause-few : goal.make_room-requires-clause-few
make_room-requires-clause-few g c =
    subst (λ (n : ℕ). n ≤ 256) (sym c.look_at-look.ensures.blocks) (load_few c.args.self.now c.requires.kept c.requires.laws c.args.id (entry_at c.args.self.now c.args.id.name) c.requires.can)

pub fill-requires : goal.fill-requires
fill-requires g c = record {
  ready = fill_ready c.args.self.now c.requires.kept c.requires.laws c.args.id c.requires.can c.make_room.new.self c.look_at-look.result.blocks c.look_at-look.ensures.blocks c.make_room.ensures.parts c.make_room.ensures.enough;
}

pub returns-clause-parts : goal.returns-clause-parts
returns-clause-parts g c =
    fill_parts c.args.self.now c.requires.kept c.requires.laws c.args.id c.requires.can c.make_room.new.self c.look_at-look.result.blocks c.look_at-look.ensures.blocks c.make_room.ensures.parts c.fill.new.self c.fill.ensures.parts

pub returns-clause-job : goal.returns-clause-job
returns-clause-job g c =
    fill_job c.args.self.now c.requires.kept c.requires.laws c.args.id c.requires.can c.make_room.new.self c.look_at-look.result.blocks c.look_at-look.ensures.blocks c.make_room.ensures.parts c.fill.result c.fill.result.buf c.fill.ensures.job

pub returns-clause-buffer : goal.returns-clause-buffer
returns-clause-buffer g c =
    fill_buffer c.args.self.now c.requires.kept c.requires.laws c.args.id c.requires.can c.make_room.new.self c.look_at-look.result.blocks c.look_at-look.ensures.blocks c.make_room.ensures.parts c.fill.result.buf c.fill.ensures.buffer
