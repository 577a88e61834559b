-- One join lets the entries on both sides of the node meet.
use Rattle.std.proofs.Common.{arith}
use Rattle.std.specs.Vec.{with_items}
use Rattle.std.proofs.lemmas.List.{with_items_is}
use Rattle.index_list.specs.Listing.{without}
use Rattle.index_list.proofs.Shown.{Shows, shows, shows-as, shows-invariant, shows-view}
use Rattle.index_list.proofs.Calls.{node-in, sides-of, remove-shows}
use Rattle.index_list.proofs.table.Lists.remove.Goals as goal

pub bounds-links-node : goal.bounds-links-node
bounds-links-node c =
    let s = shows-as c.as_mut_slice-links.result.now c.as_mut_slice-links.ensures.value (shows c.self.inside c.args.self.now c.self.invariant c.self.view_is) in
    node-in s c.args.node c.requires

pub bounds-links-node-2 : goal.bounds-links-node-2
bounds-links-node-2 c =
    let s = shows-as c.as_mut_slice-links.result.now c.as_mut_slice-links.ensures.value (shows c.self.inside c.args.self.now c.self.invariant c.self.view_is) in
    node-in s c.args.node c.requires

pub join-requires-clause-before_in : goal.join-requires-clause-before_in
join-requires-clause-before_in c =
    let s = shows-as c.as_mut_slice-links.result.now c.as_mut_slice-links.ensures.value (shows c.self.inside c.args.self.now c.self.invariant c.self.view_is) in
    (sides-of s c.args.node c.requires).before_in

pub join-requires-clause-after_in : goal.join-requires-clause-after_in
join-requires-clause-after_in c =
    let s = shows-as c.as_mut_slice-links.result.now c.as_mut_slice-links.ensures.value (shows c.self.inside c.args.self.now c.self.invariant c.self.view_is) in
    (sides-of s c.args.node c.requires).behind_in

pub note-requires : goal.note-requires
note-requires c =
    let s = shows-as c.as_mut_slice-links.result.now c.as_mut_slice-links.ensures.value (shows c.self.inside c.args.self.now c.self.invariant c.self.view_is) in
    let l = node-in s c.args.node c.requires in
    omega arith

after : (c : goal.After-self-1) → Shows (with_items c.self.inside.links c.note.new.links).items c.self.inside.nodes c.self.inside.lists (without c.args.node c.args.self.now)
after c =
    let now = c.note.new.links in
    let s = shows-as c.as_mut_slice-links.result.now c.as_mut_slice-links.ensures.value (shows c.self.inside c.args.self.now c.self.invariant c.self.view_is) in
    let p = remove-shows c.join.new.links now s c.args.node c.requires c.join.ensures c.note.ensures (omega arith) in
    shows-as (with_items c.self.inside.links now).items (with_items_is c.self.inside.links now (omega arith)) p

pub invariant_of-self : goal.invariant_of-self
invariant_of-self c = shows-invariant (record c.self.inside { links = with_items c.self.inside.links c.note.new.links }) (without c.args.node c.args.self.now) (after c)

pub returns : goal.returns
returns c = shows-view (record c.self.inside { links = with_items c.self.inside.links c.note.new.links }) (without c.args.node c.args.self.now) (after c)
