use Rattle.std.proofs.Common.{◌≡◌, ◌<◌, ◌+◌, ◌-◌, ◌^◌, ℕ, suc, None, IsSome, set, refl, ap, sym, ◌∙◌, subst, arith}
use Rattle.index_list.specs.Listing.{Listing, list_with, without}
use Rattle.sub_alloc.specs.Pieces.{Division, piece_at}
use Rattle.sub_alloc.specs.Rules.{cut_out, halved}
use Rattle.sub_alloc.specs.Tiling.{IsWhole}
use Rattle.sub_alloc.specs.Calls.{IsFresh, KeepsPieces}
use Rattle.sub_alloc.proofs.Room.{nodes_small, same_division}
use Rattle.sub_alloc.proofs.Took.{free_cut, free_inside, free_nowhere, free_place}
use Rattle.sub_alloc.proofs.allocator.SubAlloc.take_free.Goals as goal

pub remove-requires : goal.remove-requires
remove-requires c =
    let a = c.self.inside in
    let there = c.last_free-place.ensures.stands in
    subst IsSome (sym there) refl

pub halve-requires-clause-inside : goal.halve-requires-clause-inside
halve-requires-clause-inside c =
    let a = c.self.inside in
    let there = c.last_free-place.ensures.stands in
    rw c.remove.ensures (free_inside _ c.self.invariant c.last_free-place.result c.args.from c.args.class there c.requires.down)

pub halve-requires-clause-room : goal.halve-requires-clause-room
halve-requires-clause-room c =
    let small = nodes_small _ c.self.invariant.sized in
    let nodes = ap (λ (t : Listing). t.nodes) c.remove.ensures in
    omega (arith, small, nodes)

pub halve-requires-clause-nowhere : goal.halve-requires-clause-nowhere
halve-requires-clause-nowhere c =
    let a = c.self.inside in
    let there = c.last_free-place.ensures.stands in
    subst (λ (t : Listing). (k : ℕ) → k < c.args.from → list_with (c.last_free-place.result + 2 ^ k) t ≡ None) (sym c.remove.ensures)
    (free_nowhere _ c.self.invariant c.last_free-place.result c.args.from c.args.class there c.requires.down)

pub index_mut-requires : goal.index_mut-requires
index_mut-requires c =
    let a = c.self.inside in
    let there = c.last_free-place.ensures.stands in
    let l = free_place _ c.self.invariant c.last_free-place.result c.args.from c.args.class there c.requires.down in
    omega (arith, l, a.live.ok.0)

pub invariant_of-self : goal.invariant_of-self
invariant_of-self c =
    let a = c.self.inside in
    let d : Division = record { block_len = a.block_len; page_blocks = a.page_blocks; classes = a.classes; buffers = a.buffers.items; free = a.free; live = a.live.items } in
    let there = c.last_free-place.ensures.stands in
    let cut = free_cut d c.self.invariant c.last_free-place.result c.args.from c.args.class there c.requires.down in
    let free : c.halve.new.free ≡ cut_out c.args.class c.args.from c.last_free-place.result (without c.last_free-place.result a.free) = c.halve.ensures ∙ ap (halved (c.args.from - c.args.class) c.args.class c.last_free-place.result) c.remove.ensures in
    let mark : c.args.class + 1 ≡ suc c.args.class = omega arith in
    subst IsWhole (sym (same_division d a.buffers.items a.buffers.items _ c.halve.new.free _ (set a.live.items c.last_free-place.result (c.args.class + 1)) refl free (ap (set a.live.items c.last_free-place.result) mark))) cut.whole

pub returns-clause-division : goal.returns-clause-division
returns-clause-division c =
    let a = c.self.inside in
    let d : Division = record { block_len = a.block_len; page_blocks = a.page_blocks; classes = a.classes; buffers = a.buffers.items; free = a.free; live = a.live.items } in
    let free : c.halve.new.free ≡ cut_out c.args.class c.args.from c.last_free-place.result (without c.last_free-place.result a.free) = c.halve.ensures ∙ ap (halved (c.args.from - c.args.class) c.args.class c.last_free-place.result) c.remove.ensures in
    let mark : c.args.class + 1 ≡ suc c.args.class = omega arith in
    let last = sym c.last_free-place.ensures.value in
    rw (← c.self.view_is) (same_division d a.buffers.items a.buffers.items _ c.halve.new.free _ (set a.live.items c.last_free-place.result (c.args.class + 1)) refl free (ap (set a.live.items c.last_free-place.result) mark)
    ∙ ap (λ (n : ℕ). let x : Division = record d { free = cut_out c.args.class c.args.from n (without n a.free); live = set a.live.items n (suc c.args.class) } in x) (sym last))

pub returns-clause-piece : goal.returns-clause-piece
returns-clause-piece c =
    let a = c.self.inside in
    let d : Division = record { block_len = a.block_len; page_blocks = a.page_blocks; classes = a.classes; buffers = a.buffers.items; free = a.free; live = a.live.items } in
    let last = sym c.last_free-place.ensures.value in
    rw (← c.self.view_is) (c.piece.ensures ∙ ap (piece_at d c.args.class) (sym last))

pub returns-clause-fresh : goal.returns-clause-fresh
returns-clause-fresh c =
    let a = c.self.inside in
    let d : Division = record { block_len = a.block_len; page_blocks = a.page_blocks; classes = a.classes; buffers = a.buffers.items; free = a.free; live = a.live.items } in
    let there = c.last_free-place.ensures.stands in
    let cut = free_cut d c.self.invariant c.last_free-place.result c.args.from c.args.class there c.requires.down in
    let free : c.halve.new.free ≡ cut_out c.args.class c.args.from c.last_free-place.result (without c.last_free-place.result a.free) = c.halve.ensures ∙ ap (halved (c.args.from - c.args.class) c.args.class c.last_free-place.result) c.remove.ensures in
    let mark : c.args.class + 1 ≡ suc c.args.class = omega arith in
    let same = same_division d a.buffers.items a.buffers.items _ c.halve.new.free _ (set a.live.items c.last_free-place.result (c.args.class + 1)) refl free (ap (set a.live.items c.last_free-place.result) mark) in
    let made : c.piece.result ≡ piece_at d c.args.class c.last_free-place.result = c.piece.ensures in
    rw (← c.self.view_is) (subst (λ (x : Division). IsFresh d x c.piece.result) (sym same) (subst (IsFresh d _) (sym made) cut.fresh))

pub returns-clause-kept : goal.returns-clause-kept
returns-clause-kept c =
    let a = c.self.inside in
    let d : Division = record { block_len = a.block_len; page_blocks = a.page_blocks; classes = a.classes; buffers = a.buffers.items; free = a.free; live = a.live.items } in
    let there = c.last_free-place.ensures.stands in
    let cut = free_cut d c.self.invariant c.last_free-place.result c.args.from c.args.class there c.requires.down in
    let free : c.halve.new.free ≡ cut_out c.args.class c.args.from c.last_free-place.result (without c.last_free-place.result a.free) = c.halve.ensures ∙ ap (halved (c.args.from - c.args.class) c.args.class c.last_free-place.result) c.remove.ensures in
    let mark : c.args.class + 1 ≡ suc c.args.class = omega arith in
    let same = same_division d a.buffers.items a.buffers.items _ c.halve.new.free _ (set a.live.items c.last_free-place.result (c.args.class + 1)) refl free (ap (set a.live.items c.last_free-place.result) mark) in
    rw (← c.self.view_is) (subst (KeepsPieces d) (sym same) cut.kept)
