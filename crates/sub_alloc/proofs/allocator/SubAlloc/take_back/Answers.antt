use Rattle.std.proofs.Common.{◌≡◌, ◌<◌, ◌≤◌, ◌/◌, ℕ, suc, None, IsSome, get_or, set, refl, ap, sym, ◌∙◌, subst, arith}
use Rattle.std.proofs.lemmas.List.{get_or_read}
use Rattle.index_list.specs.Listing.{pushed}
use Rattle.sub_alloc.specs.Pieces.{BeginsAt, Division, IsLive, place_of, places}
use Rattle.sub_alloc.specs.Rules.{Joined}
use Rattle.sub_alloc.specs.Tiling.{IsWhole}
use Rattle.sub_alloc.specs.Calls.{KeepsOthers}
use Rattle.sub_alloc.proofs.Room.{same_division}
use Rattle.sub_alloc.proofs.Whole.{out_class, out_place, slot_in}
use Rattle.sub_alloc.proofs.Took.{at as placed, back_free, back_is, back_nodes, back_whole, joined_from, joined_off, free_kept, free_whole, freed_none, freed_some, shut_open, shut_kept, shut_whole}
use Rattle.sub_alloc.proofs.allocator.SubAlloc.take_back.Goals as goal

pub overflow_add-class : goal.overflow_add-class
overflow_add-class c =
    let a = c.self.inside in
    let d : Division = record { block_len = a.block_len; page_blocks = a.page_blocks; classes = a.classes; buffers = a.buffers.items; free = a.free; live = a.live.items } in
    let w : IsWhole d = c.self.invariant in
    let is : IsLive c.args.p d = rw (← c.self.view_is) at c.requires in
    let from : BeginsAt d c.args.p c.locate-class.result.0 c.locate-class.result.1 = rw (← c.self.view_is) at c.locate-class.ensures in
    let j : Joined = record { class = c.join-class.result.0; place = c.join-class.result.1; free = c.join-class.new.free } in
    let at = placed d c.args.p w is j in
    let e = joined_from d c.args.p w is j c.locate-class.result.0 c.locate-class.result.1 from c.join-class.ensures in
    let out = back_is d c.args.p w is j e in
    let nodes = back_nodes d c.args.p w is j e in
    let below = out_class d w (place_of d c.args.p) at.class at.mark j out nodes in
    let few = w.sized.few in
    omega (arith, below, few)

pub push_back-requires-clause-list_in : goal.push_back-requires-clause-list_in
push_back-requires-clause-list_in c =
    let a = c.self.inside in
    let d : Division = record { block_len = a.block_len; page_blocks = a.page_blocks; classes = a.classes; buffers = a.buffers.items; free = a.free; live = a.live.items } in
    let w : IsWhole d = c.self.invariant in
    let is : IsLive c.args.p d = rw (← c.self.view_is) at c.requires in
    let from : BeginsAt d c.args.p c.locate-class.result.0 c.locate-class.result.1 = rw (← c.self.view_is) at c.locate-class.ensures in
    let j : Joined = record { class = c.join-class.result.0; place = c.join-class.result.1; free = c.join-class.new.free } in
    let at = placed d c.args.p w is j in
    let e = joined_from d c.args.p w is j c.locate-class.result.0 c.locate-class.result.1 from c.join-class.ensures in
    let out = back_is d c.args.p w is j e in
    let nodes = back_nodes d c.args.p w is j e in
    let below = out_class d w (place_of d c.args.p) at.class at.mark j out nodes in
    omega (arith, below, out.out.lists)

pub push_back-requires-clause-node_in : goal.push_back-requires-clause-node_in
push_back-requires-clause-node_in c =
    let a = c.self.inside in
    let d : Division = record { block_len = a.block_len; page_blocks = a.page_blocks; classes = a.classes; buffers = a.buffers.items; free = a.free; live = a.live.items } in
    let w : IsWhole d = c.self.invariant in
    let is : IsLive c.args.p d = rw (← c.self.view_is) at c.requires in
    let from : BeginsAt d c.args.p c.locate-class.result.0 c.locate-class.result.1 = rw (← c.self.view_is) at c.locate-class.ensures in
    let j : Joined = record { class = c.join-class.result.0; place = c.join-class.result.1; free = c.join-class.new.free } in
    let at = placed d c.args.p w is j in
    let e = joined_from d c.args.p w is j c.locate-class.result.0 c.locate-class.result.1 from c.join-class.ensures in
    let out = back_is d c.args.p w is j e in
    let nodes = back_nodes d c.args.p w is j e in
    let below = out_class d w (place_of d c.args.p) at.class at.mark j out nodes in
    let l = out_place d w (place_of d c.args.p) at.class at.mark j out nodes in
    omega (arith, l, nodes)

pub push_back-requires-clause-nowhere : goal.push_back-requires-clause-nowhere
push_back-requires-clause-nowhere c =
    let a = c.self.inside in
    let d : Division = record { block_len = a.block_len; page_blocks = a.page_blocks; classes = a.classes; buffers = a.buffers.items; free = a.free; live = a.live.items } in
    let w : IsWhole d = c.self.invariant in
    let is : IsLive c.args.p d = rw (← c.self.view_is) at c.requires in
    let from : BeginsAt d c.args.p c.locate-class.result.0 c.locate-class.result.1 = rw (← c.self.view_is) at c.locate-class.ensures in
    let j : Joined = record { class = c.join-class.result.0; place = c.join-class.result.1; free = c.join-class.new.free } in
    let e = joined_from d c.args.p w is j c.locate-class.result.0 c.locate-class.result.1 from c.join-class.ensures in
    joined_off d c.args.p w is j e

pub invariant_of-self : goal.invariant_of-self
invariant_of-self c =
    let a = c.self.inside in
    let d : Division = record { block_len = a.block_len; page_blocks = a.page_blocks; classes = a.classes; buffers = a.buffers.items; free = a.free; live = a.live.items } in
    let w : IsWhole d = c.self.invariant in
    let is : IsLive c.args.p d = rw (← c.self.view_is) at c.requires in
    let from : BeginsAt d c.args.p c.locate-class.result.0 c.locate-class.result.1 = rw (← c.self.view_is) at c.locate-class.ensures in
    let j : Joined = record { class = c.join-class.result.0; place = c.join-class.result.1; free = c.join-class.new.free } in
    let e = joined_from d c.args.p w is j c.locate-class.result.0 c.locate-class.result.1 from c.join-class.ensures in
    let room : suc c.join-class.result.0 < a.classes = omega arith in
    let came : c.push_back.new.self ≡ pushed c.join-class.result.0 c.join-class.result.1 c.join-class.new.free = c.push_back.ensures in
    let same = same_division d a.buffers.items a.buffers.items _ c.push_back.new.self _ (set a.live.items c.locate-class.result.1 0) refl came (ap (λ (m : ℕ). set a.live.items m 0) from.place) in
    subst IsWhole (sym same) (free_whole d c.args.p w is j e room)

pub returns-then-class-self-clause-division : goal.returns-then-class-self-clause-division
returns-then-class-self-clause-division c =
    let a = c.self.inside in
    let d : Division = record { block_len = a.block_len; page_blocks = a.page_blocks; classes = a.classes; buffers = a.buffers.items; free = a.free; live = a.live.items } in
    let w : IsWhole d = c.self.invariant in
    let is : IsLive c.args.p d = rw (← c.self.view_is) at c.requires in
    let from : BeginsAt d c.args.p c.locate-class.result.0 c.locate-class.result.1 = rw (← c.self.view_is) at c.locate-class.ensures in
    let j : Joined = record { class = c.join-class.result.0; place = c.join-class.result.1; free = c.join-class.new.free } in
    let e = joined_from d c.args.p w is j c.locate-class.result.0 c.locate-class.result.1 from c.join-class.ensures in
    let room : suc c.join-class.result.0 < a.classes = omega arith in
    let came : c.push_back.new.self ≡ pushed c.join-class.result.0 c.join-class.result.1 c.join-class.new.free = c.push_back.ensures in
    let same = same_division d a.buffers.items a.buffers.items _ c.push_back.new.self _ (set a.live.items c.locate-class.result.1 0) refl came (ap (λ (m : ℕ). set a.live.items m 0) from.place) in
    rw (← c.self.view_is) (same ∙ sym (back_free d c.args.p w is j e room))

pub returns-then-class-self-clause-loan : goal.returns-then-class-self-clause-loan
returns-then-class-self-clause-loan c =
    let a = c.self.inside in
    let d : Division = record { block_len = a.block_len; page_blocks = a.page_blocks; classes = a.classes; buffers = a.buffers.items; free = a.free; live = a.live.items } in
    let w : IsWhole d = c.self.invariant in
    let is : IsLive c.args.p d = rw (← c.self.view_is) at c.requires in
    let from : BeginsAt d c.args.p c.locate-class.result.0 c.locate-class.result.1 = rw (← c.self.view_is) at c.locate-class.ensures in
    let j : Joined = record { class = c.join-class.result.0; place = c.join-class.result.1; free = c.join-class.new.free } in
    let e = joined_from d c.args.p w is j c.locate-class.result.0 c.locate-class.result.1 from c.join-class.ensures in
    let room : suc c.join-class.result.0 < a.classes = omega arith in
    rw (← c.self.view_is) (sym (freed_none d c.args.p w is j e room))

pub index_mut-requires-2 : goal.index_mut-requires-2
index_mut-requires-2 c =
    let a = c.self.inside in
    let d : Division = record { block_len = a.block_len; page_blocks = a.page_blocks; classes = a.classes; buffers = a.buffers.items; free = a.free; live = a.live.items } in
    let w : IsWhole d = c.self.invariant in
    let is : IsLive c.args.p d = rw (← c.self.view_is) at c.requires in
    let from : BeginsAt d c.args.p c.locate-class.result.0 c.locate-class.result.1 = rw (← c.self.view_is) at c.locate-class.ensures in
    let j : Joined = record { class = c.join-class.result.0; place = c.join-class.result.1; free = c.join-class.new.free } in
    let e = joined_from d c.args.p w is j c.locate-class.result.0 c.locate-class.result.1 from c.join-class.ensures in
    let room : a.classes ≤ suc c.join-class.result.0 = omega arith in
    let slot = slot_in a.buffers.items (c.join-class.result.1 / places d) (shut_open d c.args.p w is j e room) in
    omega (arith, slot, a.buffers.ok.0)

pub close_slot-requires : goal.close_slot-requires
close_slot-requires c =
    let a = c.self.inside in
    let d : Division = record { block_len = a.block_len; page_blocks = a.page_blocks; classes = a.classes; buffers = a.buffers.items; free = a.free; live = a.live.items } in
    let w : IsWhole d = c.self.invariant in
    let is : IsLive c.args.p d = rw (← c.self.view_is) at c.requires in
    let from : BeginsAt d c.args.p c.locate-class.result.0 c.locate-class.result.1 = rw (← c.self.view_is) at c.locate-class.ensures in
    let j : Joined = record { class = c.join-class.result.0; place = c.join-class.result.1; free = c.join-class.new.free } in
    let e = joined_from d c.args.p w is j c.locate-class.result.0 c.locate-class.result.1 from c.join-class.ensures in
    let room : a.classes ≤ suc c.join-class.result.0 = omega arith in
    let slot = slot_in a.buffers.items (c.join-class.result.1 / places d) (shut_open d c.args.p w is j e room) in
    let there : c.index_mut-2.result.now ≡ get_or a.buffers.items (c.join-class.result.1 / places d) None =
    get_or_read a.buffers.items (c.join-class.result.1 / places d) c.index_mut-2.result.now slot c.index_mut-2.ensures.value None
    in
    subst IsSome (sym there) (shut_open d c.args.p w is j e room)

pub invariant_of-self-2 : goal.invariant_of-self-2
invariant_of-self-2 c =
    let a = c.self.inside in
    let d : Division = record { block_len = a.block_len; page_blocks = a.page_blocks; classes = a.classes; buffers = a.buffers.items; free = a.free; live = a.live.items } in
    let w : IsWhole d = c.self.invariant in
    let is : IsLive c.args.p d = rw (← c.self.view_is) at c.requires in
    let from : BeginsAt d c.args.p c.locate-class.result.0 c.locate-class.result.1 = rw (← c.self.view_is) at c.locate-class.ensures in
    let j : Joined = record { class = c.join-class.result.0; place = c.join-class.result.1; free = c.join-class.new.free } in
    let e = joined_from d c.args.p w is j c.locate-class.result.0 c.locate-class.result.1 from c.join-class.ensures in
    let room : a.classes ≤ suc c.join-class.result.0 = omega arith in
    let slot = slot_in a.buffers.items (c.join-class.result.1 / places d) (shut_open d c.args.p w is j e room) in
    let bufs : set a.buffers.items (c.join-class.result.1 / places d) c.close_slot.new.slot ≡ set a.buffers.items (c.join-class.result.1 / places d) None =
    ap (set a.buffers.items (c.join-class.result.1 / places d)) c.close_slot.ensures.closed
    in
    let same = same_division d _ (set a.buffers.items (c.join-class.result.1 / places d) c.close_slot.new.slot) c.join-class.new.free c.join-class.new.free _ (set a.live.items c.locate-class.result.1 0) bufs refl (ap (λ (m : ℕ). set a.live.items m 0) from.place) in
    subst IsWhole (sym same) (shut_whole d c.args.p w is j e room)

pub returns-clause-division : goal.returns-clause-division
returns-clause-division c =
    let a = c.self.inside in
    let d : Division = record { block_len = a.block_len; page_blocks = a.page_blocks; classes = a.classes; buffers = a.buffers.items; free = a.free; live = a.live.items } in
    let w : IsWhole d = c.self.invariant in
    let is : IsLive c.args.p d = rw (← c.self.view_is) at c.requires in
    let from : BeginsAt d c.args.p c.locate-class.result.0 c.locate-class.result.1 = rw (← c.self.view_is) at c.locate-class.ensures in
    let j : Joined = record { class = c.join-class.result.0; place = c.join-class.result.1; free = c.join-class.new.free } in
    let e = joined_from d c.args.p w is j c.locate-class.result.0 c.locate-class.result.1 from c.join-class.ensures in
    let room : a.classes ≤ suc c.join-class.result.0 = omega arith in
    let slot = slot_in a.buffers.items (c.join-class.result.1 / places d) (shut_open d c.args.p w is j e room) in
    let bufs : set a.buffers.items (c.join-class.result.1 / places d) c.close_slot.new.slot ≡ set a.buffers.items (c.join-class.result.1 / places d) None =
    ap (set a.buffers.items (c.join-class.result.1 / places d)) c.close_slot.ensures.closed
    in
    let same = same_division d _ (set a.buffers.items (c.join-class.result.1 / places d) c.close_slot.new.slot) c.join-class.new.free c.join-class.new.free _ (set a.live.items c.locate-class.result.1 0) bufs refl (ap (λ (m : ℕ). set a.live.items m 0) from.place) in
    rw (← c.self.view_is) (same ∙ sym (back_whole d c.args.p w is j e room))

pub returns-clause-loan : goal.returns-clause-loan
returns-clause-loan c =
    let a = c.self.inside in
    let d : Division = record { block_len = a.block_len; page_blocks = a.page_blocks; classes = a.classes; buffers = a.buffers.items; free = a.free; live = a.live.items } in
    let w : IsWhole d = c.self.invariant in
    let is : IsLive c.args.p d = rw (← c.self.view_is) at c.requires in
    let from : BeginsAt d c.args.p c.locate-class.result.0 c.locate-class.result.1 = rw (← c.self.view_is) at c.locate-class.ensures in
    let j : Joined = record { class = c.join-class.result.0; place = c.join-class.result.1; free = c.join-class.new.free } in
    let e = joined_from d c.args.p w is j c.locate-class.result.0 c.locate-class.result.1 from c.join-class.ensures in
    let room : a.classes ≤ suc c.join-class.result.0 = omega arith in
    let slot = slot_in a.buffers.items (c.join-class.result.1 / places d) (shut_open d c.args.p w is j e room) in
    let there : c.index_mut-2.result.now ≡ get_or a.buffers.items (c.join-class.result.1 / places d) None =
    get_or_read a.buffers.items (c.join-class.result.1 / places d) c.index_mut-2.result.now slot c.index_mut-2.ensures.value None
    in
    rw (← c.self.view_is) (sym c.close_slot.ensures.loan ∙ there ∙ sym (freed_some d c.args.p w is j e room))

pub returns-then-class-self-clause-kept : goal.returns-then-class-self-clause-kept
returns-then-class-self-clause-kept c =
    let a = c.self.inside in
    let d : Division = record { block_len = a.block_len; page_blocks = a.page_blocks; classes = a.classes; buffers = a.buffers.items; free = a.free; live = a.live.items } in
    let w : IsWhole d = c.self.invariant in
    let is : IsLive c.args.p d = rw (← c.self.view_is) at c.requires in
    let from : BeginsAt d c.args.p c.locate-class.result.0 c.locate-class.result.1 = rw (← c.self.view_is) at c.locate-class.ensures in
    let j : Joined = record { class = c.join-class.result.0; place = c.join-class.result.1; free = c.join-class.new.free } in
    let e = joined_from d c.args.p w is j c.locate-class.result.0 c.locate-class.result.1 from c.join-class.ensures in
    let room : suc c.join-class.result.0 < a.classes = omega arith in
    let came : c.push_back.new.self ≡ pushed c.join-class.result.0 c.join-class.result.1 c.join-class.new.free = c.push_back.ensures in
    let same = same_division d a.buffers.items a.buffers.items _ c.push_back.new.self _ (set a.live.items c.locate-class.result.1 0) refl came (ap (λ (m : ℕ). set a.live.items m 0) from.place) in
    rw (← c.self.view_is) (subst (KeepsOthers c.args.p d) (sym same) (free_kept d c.args.p w is j e room))

pub returns-clause-kept : goal.returns-clause-kept
returns-clause-kept c =
    let a = c.self.inside in
    let d : Division = record { block_len = a.block_len; page_blocks = a.page_blocks; classes = a.classes; buffers = a.buffers.items; free = a.free; live = a.live.items } in
    let w : IsWhole d = c.self.invariant in
    let is : IsLive c.args.p d = rw (← c.self.view_is) at c.requires in
    let from : BeginsAt d c.args.p c.locate-class.result.0 c.locate-class.result.1 = rw (← c.self.view_is) at c.locate-class.ensures in
    let j : Joined = record { class = c.join-class.result.0; place = c.join-class.result.1; free = c.join-class.new.free } in
    let e = joined_from d c.args.p w is j c.locate-class.result.0 c.locate-class.result.1 from c.join-class.ensures in
    let room : a.classes ≤ suc c.join-class.result.0 = omega arith in
    let slot = slot_in a.buffers.items (c.join-class.result.1 / places d) (shut_open d c.args.p w is j e room) in
    let bufs : set a.buffers.items (c.join-class.result.1 / places d) c.close_slot.new.slot ≡ set a.buffers.items (c.join-class.result.1 / places d) None =
    ap (set a.buffers.items (c.join-class.result.1 / places d)) c.close_slot.ensures.closed
    in
    let same = same_division d _ (set a.buffers.items (c.join-class.result.1 / places d) c.close_slot.new.slot) c.join-class.new.free c.join-class.new.free _ (set a.live.items c.locate-class.result.1 0) bufs refl (ap (λ (m : ℕ). set a.live.items m 0) from.place) in
    rw (← c.self.view_is) (subst (KeepsOthers c.args.p d) (sym same) (shut_kept d c.args.p w is j e room))
