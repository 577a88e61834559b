-- The sum falls by the length.
use Rattle.std.proofs.Common.{◌≡◌, Some, sym, ◌∙◌, arith}
use Rattle.std.proofs.lemmas.List.{get_or_read}
use Rattle.index_list.specs.Listing.{list_with}
use Rattle.index_list.proofs.Places.{stands-from_list}
use Rattle.client_lists.proofs.Summed.{measured-of, list-of, node-in, len-in, len-le, summed-removed}
use Rattle.client_lists.proofs.measured.MeasuredLists.remove.Goals as goal

pub list_of-requires : goal.list_of-requires
list_of-requires c =
    let t = c.self.inside.lists in
    let w = list-of (list_with c.args.node t) (rw (← c.self.view_is) at c.requires) in
    node-in t c.self.invariant.proper c.args.node w.0 w.1

pub index-requires : goal.index-requires
index-requires c =
    let a = c.self.inside in
    let l = len-in a.lists a.lens.items a.sums.items c.self.invariant c.args.node (rw (← c.self.view_is) at c.requires) in
    let z = a.lens.ok.0 in
    omega arith

pub overflow_sub-index_mut : goal.overflow_sub-index_mut
overflow_sub-index_mut c =
    let a = c.self.inside in
    let s = c.self.invariant in
    let n = s.counted in
    let e : list_with c.args.node a.lists ≡ Some c.unwrap-list.result = sym c.list_of.ensures.list ∙ c.unwrap-list.ensures in
    let i = (stands-from_list a.lists c.args.node c.unwrap-list.result e).0 in
    let l = len-in a.lists a.lens.items a.sums.items s c.args.node (rw (← c.self.view_is) at c.requires) in
    let v = get_or_read a.lens.items c.args.node c.index.result.now l c.index.ensures 0 in
    let w = get_or_read a.sums.items c.unwrap-list.result c.index_mut.result.now (omega arith) c.index_mut.ensures.value 0 in
    let m = len-le a.lists a.lens.items a.sums.items s c.unwrap-list.result c.args.node e in
    omega arith

pub invariant_of-self : goal.invariant_of-self
invariant_of-self c =
    let a = c.self.inside in
    let s = c.self.invariant in
    let n = s.counted in
    let e : list_with c.args.node a.lists ≡ Some c.unwrap-list.result = sym c.list_of.ensures.list ∙ c.unwrap-list.ensures in
    let i = (stands-from_list a.lists c.args.node c.unwrap-list.result e).0 in
    let l = len-in a.lists a.lens.items a.sums.items s c.args.node (rw (← c.self.view_is) at c.requires) in
    let v = get_or_read a.lens.items c.args.node c.index.result.now l c.index.ensures 0 in
    let w = get_or_read a.sums.items c.unwrap-list.result c.index_mut.result.now (omega arith) c.index_mut.ensures.value 0 in
    rw c.remove.ensures (summed-removed a.lists a.lens.items a.sums.items s c.unwrap-list.result c.args.node _ e (omega arith))

pub returns-clause-measured : goal.returns-clause-measured
returns-clause-measured c = rw (← c.self.view_is) (measured-of c.self.inside.lists c.self.inside.lens.items c.self.inside.sums.items c.self.invariant)
