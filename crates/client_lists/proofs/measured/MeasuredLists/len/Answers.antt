-- A node on a list has a length.
use Rattle.std.proofs.Common.{arith}
use Rattle.std.specs.Option.{IsSome}
use Rattle.std.proofs.lemmas.List.{get_or_read}
use Rattle.index_list.specs.Listing.{list_with}
use Rattle.client_lists.proofs.Summed.{measured-of, len-in}
use Rattle.client_lists.proofs.measured.MeasuredLists.len.Goals as goal

pub index-requires : goal.index-requires
index-requires c =
    let a = c.self.inside in
    let e : IsSome (list_with c.args.node a.lists) = rw (← c.self.view_is) at c.requires in
    let l = len-in a.lists a.lens.items a.sums.items c.self.invariant c.args.node e in
    let z = a.lens.ok.0 in
    omega arith

pub returns-clause-len : goal.returns-clause-len
returns-clause-len c =
    let a = c.self.inside in
    let e : IsSome (list_with c.args.node a.lists) = rw (← c.self.view_is) at c.requires in
    let l = len-in a.lists a.lens.items a.sums.items c.self.invariant c.args.node e in
    rw (← c.self.view_is) (get_or_read a.lens.items c.args.node c.index.result.now l c.index.ensures 0)

pub returns-clause-measured : goal.returns-clause-measured
returns-clause-measured c = rw (← c.self.view_is) (measured-of c.self.inside.lists c.self.inside.lens.items c.self.inside.sums.items c.self.invariant)
