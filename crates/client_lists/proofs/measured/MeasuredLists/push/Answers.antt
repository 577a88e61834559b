-- The sum grows by the length.
use Rattle.std.proofs.Common.{◌≡◌, ◌<◌, None, length, arith}
use Rattle.std.proofs.lemmas.List.{get_or_read}
use Rattle.index_list.specs.Listing.{list_with}
use Rattle.client_lists.proofs.Summed.{measured-of, sum-le, summed-pushed}
use Rattle.client_lists.proofs.measured.MeasuredLists.push.Goals as goal

pub overflow_add-index_mut : goal.overflow_add-index_mut
overflow_add-index_mut c =
    let a = c.self.inside in
    let s = c.self.invariant in
    let n = s.counted in
    let l : c.args.list < length a.lists.lists = rw (← c.self.view_is) at c.requires.list_in in
    let v = get_or_read a.sums.items c.args.list c.index_mut-2.result.now (omega arith) c.index_mut-2.ensures.value 0 in
    let m = sum-le a.lists a.lens.items a.sums.items s c.args.list in
    omega arith

pub invariant_of-self : goal.invariant_of-self
invariant_of-self c =
    let a = c.self.inside in
    let s = c.self.invariant in
    let n = s.counted in
    let l : c.args.list < length a.lists.lists = rw (← c.self.view_is) at c.requires.list_in in
    let i : c.args.node < a.lists.nodes = rw (← c.self.view_is) at c.requires.node_in in
    let e : list_with c.args.node a.lists ≡ None = rw (← c.self.view_is) at c.requires.nowhere in
    let v = get_or_read a.sums.items c.args.list c.index_mut-2.result.now (omega arith) c.index_mut-2.ensures.value 0 in
    rw c.push_back.ensures (summed-pushed a.lists a.lens.items a.sums.items s c.args.list c.args.node c.args.len _ l i e c.requires.len (omega arith))

pub returns-clause-measured : goal.returns-clause-measured
returns-clause-measured c = rw (← c.self.view_is) (measured-of c.self.inside.lists c.self.inside.lens.items c.self.inside.sums.items c.self.invariant)
