use Rattle.std.proofs.Common.{sym, subst, ap, ◌∙◌}
use Rattle.page_table.specs.declared.page_id.PageId.{PageId}
use Rattle.page_table.specs.declared.entry.Place.TheVariants as spot
use Rattle.reservation_tree.proofs.Maps.{is_there}
use Rattle.pin_core.specs.Invariant.{IsKeptOf}
use Rattle.pin_core.specs.parts.Changes.{entry_at}
use Rattle.pin_core.specs.parts.Flights.{is_held_mem}
use Rattle.pin_core.proofs.Newest.{newest_page, newest_held, id_found, start_done}
use Rattle.pin_core.proofs.parts.Parts.start.Goals as goal

pub unwrap-id-requires : goal.unwrap-id-requires
unwrap-id-requires g c =
    let n = newest_page c.args.self.now c.requires.kept c.requires.laws c.args.client c.args.key c.requires.newest in
    is_there c.id_at.result _ (c.id_at.ensures ∙ n.id)

pub fly_at-job-requires-clause-held : goal.fly_at-job-requires-clause-held
fly_at-job-requires-clause-held g c =
    let n = newest_page c.args.self.now c.requires.kept c.requires.laws c.args.client c.args.key c.requires.newest in
    let id = id_found c.args.self.now c.args.key c.id_at.result c.unwrap-id.result c.unwrap-id.ensures c.id_at.ensures n.id in
    ap (λ (j : PageId). is_held_mem (entry_at c.args.self.now j.name).mem) id ∙ newest_held c.args.self.now c.args.client c.args.key n

pub fly_at-job-requires-clause-slots : goal.fly_at-job-requires-clause-slots
fly_at-job-requires-clause-slots g c =
    let n = newest_page c.args.self.now c.requires.kept c.requires.laws c.args.client c.args.key c.requires.newest in
    let id = id_found c.args.self.now c.args.key c.id_at.result c.unwrap-id.result c.unwrap-id.ensures c.id_at.ensures n.id in
    subst (λ (j : PageId). IsKeptOf (entry_at c.args.self.now j.name).blocks spot.Dirty (entry_at c.args.self.now j.name).scratch) (sym id) n.slots

pub shift-requires : goal.shift-requires
shift-requires g c = (newest_page c.args.self.now c.requires.kept c.requires.laws c.args.client c.args.key c.requires.newest).on

pub returns-clause-parts : goal.returns-clause-parts
returns-clause-parts g c =
    let n = newest_page c.args.self.now c.requires.kept c.requires.laws c.args.client c.args.key c.requires.newest in
    let id = id_found c.args.self.now c.args.key c.id_at.result c.unwrap-id.result c.unwrap-id.ensures c.id_at.ensures n.id in
    start_done c.args.self.now c.args.who c.args.client c.args.key c.unwrap-id.result id n.client c.fly_at-job.new.pages c.fly_at-job.ensures.pages c.shift.new.self c.shift.ensures.shifted c.counted-self.result c.counted-self.ensures
