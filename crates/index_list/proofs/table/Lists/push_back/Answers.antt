-- Two joins and a note put the node between the end and what stood before it.
use Rattle.std.proofs.Common.{arith}
use Rattle.std.specs.Vec.{with_items}
use Rattle.std.proofs.lemmas.List.{with_items_is}
use Rattle.index_list.specs.Listing.{pushed}
use Rattle.index_list.proofs.Shown.{Shows, shows, shows-as, shows-invariant, shows-view}
use Rattle.index_list.proofs.Calls.{last-in, push-shows}
use Rattle.index_list.proofs.table.Lists.push_back.Goals as goal

pub join-requires-clause-before_in : goal.join-requires-clause-before_in
join-requires-clause-before_in c =
    let s = shows-as c.as_mut_slice-links.result.now c.as_mut_slice-links.ensures.value (shows c.self.inside c.args.self.now c.self.invariant c.self.view_is) in
    last-in s c.args.list c.requires.list_in

after : (c : goal.After-self-1) → Shows (with_items c.self.inside.links c.note.new.links).items c.self.inside.nodes c.self.inside.lists (pushed c.args.list c.args.node c.args.self.now)
after c =
    let now = c.note.new.links in
    let s = shows-as c.as_mut_slice-links.result.now c.as_mut_slice-links.ensures.value (shows c.self.inside c.args.self.now c.self.invariant c.self.view_is) in
    let p = push-shows c.join.new.links c.join-2.new.links now s c.args.list c.args.node c.requires.list_in c.requires.node_in c.requires.nowhere c.join.ensures c.join-2.ensures c.note.ensures (omega arith) in
    shows-as (with_items c.self.inside.links now).items (with_items_is c.self.inside.links now (omega arith)) p

pub invariant_of-self : goal.invariant_of-self
invariant_of-self c = shows-invariant (record c.self.inside { links = with_items c.self.inside.links c.note.new.links }) (pushed c.args.list c.args.node c.args.self.now) (after c)

pub returns : goal.returns
returns c = shows-view (record c.self.inside { links = with_items c.self.inside.links c.note.new.links }) (pushed c.args.list c.args.node c.args.self.now) (after c)
