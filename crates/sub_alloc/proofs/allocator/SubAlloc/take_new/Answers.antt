use Rattle.std.proofs.Common.{◌≡◌, ◌<◌, ◌+◌, ◌-◌, ◌*◌, ◌^◌, ℕ, suc, None, Some, set, length, ap, sym, ◌∙◌, subst, arith}
use Rattle.index_list.specs.Listing.{list_with}
use Rattle.block_arena.specs.Memory.{IsBufferOf}
use Rattle.sub_alloc.specs.Pieces.{Division, buffer, piece_at, places}
use Rattle.sub_alloc.specs.Rules.{cut_out}
use Rattle.sub_alloc.specs.Tiling.{IsWhole}
use Rattle.sub_alloc.specs.Calls.{IsFresh, KeepsPieces}
use Rattle.sub_alloc.proofs.Room.{nodes_small, same_division}
use Rattle.sub_alloc.proofs.Took.{new_cut, new_nowhere}
use Rattle.sub_alloc.proofs.allocator.SubAlloc.take_new.Goals as goal

pub halve-requires-clause-room : goal.halve-requires-clause-room
halve-requires-clause-room c = let small = nodes_small _ c.self.invariant.sized in omega (arith, small)

pub halve-requires-clause-nowhere : goal.halve-requires-clause-nowhere
halve-requires-clause-nowhere c =
    let a = c.self.inside in
    let d : Division = record { block_len = a.block_len; page_blocks = a.page_blocks; classes = a.classes; buffers = a.buffers.items; free = a.free; live = a.live.items } in
    let w : IsWhole d = c.self.invariant in
    let l : c.args.number < length a.buffers.items = rw (← c.self.view_is) at c.requires.number in
    let shut : buffer c.args.number d ≡ None = rw (← c.self.view_is) at c.requires.shut in
    let fits : IsBufferOf d.page_blocks d.block_len c.args.loan.buf = rw (← c.self.view_is) at c.requires.fits in
    let below : c.args.class < a.classes = rw (← c.self.view_is) at c.requires.class in
    let places_is : c.places.result ≡ places d = rw (← c.self.view_is) at c.places.ensures.value in
    subst (λ (m : ℕ). (k : ℕ) → k < a.classes - 1 → list_with (c.args.number * m + 2 ^ k) a.free ≡ None) (sym places_is)
    (new_nowhere d w c.args.number c.args.class c.args.loan l shut fits below)

pub invariant_of-self : goal.invariant_of-self
invariant_of-self c =
    let a = c.self.inside in
    let d : Division = record { block_len = a.block_len; page_blocks = a.page_blocks; classes = a.classes; buffers = a.buffers.items; free = a.free; live = a.live.items } in
    let w : IsWhole d = c.self.invariant in
    let l : c.args.number < length a.buffers.items = rw (← c.self.view_is) at c.requires.number in
    let shut : buffer c.args.number d ≡ None = rw (← c.self.view_is) at c.requires.shut in
    let fits : IsBufferOf d.page_blocks d.block_len c.args.loan.buf = rw (← c.self.view_is) at c.requires.fits in
    let below : c.args.class < a.classes = rw (← c.self.view_is) at c.requires.class in
    let places_is : c.places.result ≡ places d = rw (← c.self.view_is) at c.places.ensures.value in
    let free : c.halve.new.free ≡ cut_out c.args.class (a.classes - 1) (c.args.number * places d) a.free = c.halve.ensures ∙ ap (λ (m : ℕ). cut_out c.args.class (a.classes - 1) (c.args.number * m) a.free) places_is in
    let bufs : set a.buffers.items c.args.number c.open_slot.new.slot ≡ set a.buffers.items c.args.number (Some c.args.loan) = ap (set a.buffers.items c.args.number) c.open_slot.ensures in
    let mark : c.args.class + 1 ≡ suc c.args.class = omega arith in
    let live : set a.live.items (c.args.number * c.places.result) (c.args.class + 1) ≡ set a.live.items (c.args.number * places d) (suc c.args.class) =
    ap (λ (m : ℕ). set a.live.items (c.args.number * m) (c.args.class + 1)) places_is ∙ ap (set a.live.items (c.args.number * places d)) mark
    in
    let same = same_division d _ (set a.buffers.items c.args.number c.open_slot.new.slot) _ c.halve.new.free _ (set a.live.items (c.args.number * c.places.result) (c.args.class + 1)) bufs free live in
    let cut = new_cut d w c.args.number c.args.class c.args.loan l shut fits below in
    subst IsWhole (sym same) cut.whole

pub returns-clause-fresh : goal.returns-clause-fresh
returns-clause-fresh c =
    let a = c.self.inside in
    let d : Division = record { block_len = a.block_len; page_blocks = a.page_blocks; classes = a.classes; buffers = a.buffers.items; free = a.free; live = a.live.items } in
    let w : IsWhole d = c.self.invariant in
    let l : c.args.number < length a.buffers.items = rw (← c.self.view_is) at c.requires.number in
    let shut : buffer c.args.number d ≡ None = rw (← c.self.view_is) at c.requires.shut in
    let fits : IsBufferOf d.page_blocks d.block_len c.args.loan.buf = rw (← c.self.view_is) at c.requires.fits in
    let below : c.args.class < a.classes = rw (← c.self.view_is) at c.requires.class in
    let places_is : c.places.result ≡ places d = rw (← c.self.view_is) at c.places.ensures.value in
    let free : c.halve.new.free ≡ cut_out c.args.class (a.classes - 1) (c.args.number * places d) a.free = c.halve.ensures ∙ ap (λ (m : ℕ). cut_out c.args.class (a.classes - 1) (c.args.number * m) a.free) places_is in
    let bufs : set a.buffers.items c.args.number c.open_slot.new.slot ≡ set a.buffers.items c.args.number (Some c.args.loan) = ap (set a.buffers.items c.args.number) c.open_slot.ensures in
    let mark : c.args.class + 1 ≡ suc c.args.class = omega arith in
    let live : set a.live.items (c.args.number * c.places.result) (c.args.class + 1) ≡ set a.live.items (c.args.number * places d) (suc c.args.class) =
    ap (λ (m : ℕ). set a.live.items (c.args.number * m) (c.args.class + 1)) places_is ∙ ap (set a.live.items (c.args.number * places d)) mark
    in
    let same = same_division d _ (set a.buffers.items c.args.number c.open_slot.new.slot) _ c.halve.new.free _ (set a.live.items (c.args.number * c.places.result) (c.args.class + 1)) bufs free live in
    let cut = new_cut d w c.args.number c.args.class c.args.loan l shut fits below in
    let made : c.piece.result ≡ piece_at d c.args.class (c.args.number * places d) = c.piece.ensures ∙ ap (λ (m : ℕ). piece_at d c.args.class (c.args.number * m)) places_is in
    rw (← c.self.view_is) (subst (λ (x : Division). IsFresh d x c.piece.result) (sym same) (subst (IsFresh d _) (sym made) cut.fresh))

pub returns-clause-kept : goal.returns-clause-kept
returns-clause-kept c =
    let a = c.self.inside in
    let d : Division = record { block_len = a.block_len; page_blocks = a.page_blocks; classes = a.classes; buffers = a.buffers.items; free = a.free; live = a.live.items } in
    let w : IsWhole d = c.self.invariant in
    let l : c.args.number < length a.buffers.items = rw (← c.self.view_is) at c.requires.number in
    let shut : buffer c.args.number d ≡ None = rw (← c.self.view_is) at c.requires.shut in
    let fits : IsBufferOf d.page_blocks d.block_len c.args.loan.buf = rw (← c.self.view_is) at c.requires.fits in
    let below : c.args.class < a.classes = rw (← c.self.view_is) at c.requires.class in
    let places_is : c.places.result ≡ places d = rw (← c.self.view_is) at c.places.ensures.value in
    let free : c.halve.new.free ≡ cut_out c.args.class (a.classes - 1) (c.args.number * places d) a.free = c.halve.ensures ∙ ap (λ (m : ℕ). cut_out c.args.class (a.classes - 1) (c.args.number * m) a.free) places_is in
    let bufs : set a.buffers.items c.args.number c.open_slot.new.slot ≡ set a.buffers.items c.args.number (Some c.args.loan) = ap (set a.buffers.items c.args.number) c.open_slot.ensures in
    let mark : c.args.class + 1 ≡ suc c.args.class = omega arith in
    let live : set a.live.items (c.args.number * c.places.result) (c.args.class + 1) ≡ set a.live.items (c.args.number * places d) (suc c.args.class) =
    ap (λ (m : ℕ). set a.live.items (c.args.number * m) (c.args.class + 1)) places_is ∙ ap (set a.live.items (c.args.number * places d)) mark
    in
    let same = same_division d _ (set a.buffers.items c.args.number c.open_slot.new.slot) _ c.halve.new.free _ (set a.live.items (c.args.number * c.places.result) (c.args.class + 1)) bufs free live in
    let cut = new_cut d w c.args.number c.args.class c.args.loan l shut fits below in
    rw (← c.self.view_is) (subst (KeepsPieces d) (sym same) cut.kept)
