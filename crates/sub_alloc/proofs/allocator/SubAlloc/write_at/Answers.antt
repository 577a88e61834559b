use Rattle.std.proofs.Common.{◌≡◌, ◌+◌, ◌≤◌, ◌<◌, ℕ, List, None, Some, Option, IsSome, get_or, set, length, refl, ap, sym, ◌∙◌, subst, arith}
use Rattle.std.specs.Prelude.{option_map}
use Rattle.std.proofs.lemmas.List.{get_or_read}
use Rattle.store_api.specs.Tokens.{LoanToken}
use Rattle.block_arena.specs.Bytes.{written}
use Rattle.sub_alloc.specs.Lending.{IsAllocOf}
use Rattle.sub_alloc.specs.Pieces.{Division, bytes_in, bytes_of, with_written}
use Rattle.sub_alloc.specs.Tiling.{IsWhole}
use Rattle.sub_alloc.specs.Calls.{KeepsOthers}
use Rattle.sub_alloc.proofs.Cuts.{in_buffer, piece_kept, piece_whole, piece_written}
use Rattle.sub_alloc.proofs.Lent.{of_written}
use Rattle.sub_alloc.proofs.allocator.SubAlloc.write_at.Goals as goal

pub overflow_add-from : goal.overflow_add-from
overflow_add-from c =
    let i = in_buffer _ c.args.p.now c.self.invariant (rw (← c.self.view_is) at c.requires.live) in
    let fits = c.requires.inside in
    let at = c.at.ensures in
    omega (arith, i.short, fits, at)

pub write_slot-requires-clause-is_open : goal.write_slot-requires-clause-is_open
write_slot-requires-clause-is_open c =
    let a = c.self.inside in
    let i = in_buffer _ c.args.p.now c.self.invariant (rw (← c.self.view_is) at c.requires.live) in
    let slot : c.buf.result < length a.buffers.items = omega (arith, i.slot, c.buf.ensures) in
    let is : c.index_mut.result.now ≡ Some i.loan = get_or_read a.buffers.items c.buf.result c.index_mut.result.now slot c.index_mut.ensures.value None ∙ ap (λ (k : ℕ). get_or a.buffers.items k None) c.buf.ensures ∙ i.stands in
    subst IsSome (sym is) refl

pub write_slot-requires-clause-inside : goal.write_slot-requires-clause-inside
write_slot-requires-clause-inside c =
    let a = c.self.inside in
    let i = in_buffer _ c.args.p.now c.self.invariant (rw (← c.self.view_is) at c.requires.live) in
    let slot : c.buf.result < length a.buffers.items = omega (arith, i.slot, c.buf.ensures) in
    let is : c.index_mut.result.now ≡ Some i.loan = get_or_read a.buffers.items c.buf.result c.index_mut.result.now slot c.index_mut.ensures.value None ∙ ap (λ (k : ℕ). get_or a.buffers.items k None) c.buf.ensures ∙ i.stands in
    let fits = c.requires.inside in
    let inside : c.at.result + c.args.at + length c.args.bytes.now ≤ length (bytes_in (Some i.loan)) = omega (arith, i.inside, fits, c.at.ensures) in
    subst (λ (b : Option LoanToken). c.at.result + c.args.at + length c.args.bytes.now ≤ length (bytes_in b)) (sym is) inside

pub invariant_of-self : goal.invariant_of-self
invariant_of-self c =
    let a = c.self.inside in
    let live = rw (← c.self.view_is) at c.requires.live in
    let i = in_buffer _ c.args.p.now c.self.invariant live in
    let slot : c.buf.result < length a.buffers.items = omega (arith, i.slot, c.buf.ensures) in
    let is : c.index_mut.result.now ≡ Some i.loan = get_or_read a.buffers.items c.buf.result c.index_mut.result.now slot c.index_mut.ensures.value None ∙ ap (λ (k : ℕ). get_or a.buffers.items k None) c.buf.ensures ∙ i.stands in
    let wrote : c.write_slot.new.slot ≡ Some (with_written (c.args.p.now.at + c.args.at) c.args.bytes.now i.loan) =
    c.write_slot.ensures ∙ ap (option_map (with_written (c.at.result + c.args.at) c.args.bytes.now)) is ∙ ap (λ (k : ℕ). Some (with_written (k + c.args.at) c.args.bytes.now i.loan)) c.at.ensures
    in
    let bufs : set a.buffers.items c.buf.result c.write_slot.new.slot ≡ set a.buffers.items c.args.p.now.buf (Some (with_written (c.args.p.now.at + c.args.at) c.args.bytes.now i.loan)) =
    ap (λ (k : ℕ). set a.buffers.items k c.write_slot.new.slot) c.buf.ensures ∙ ap (set a.buffers.items c.args.p.now.buf) wrote
    in
    subst (λ (b : List (Option LoanToken)). IsWhole (record { block_len = a.block_len; page_blocks = a.page_blocks; classes = a.classes; buffers = b; free = a.free; live = a.live.items })) (sym bufs)
    (piece_whole _ c.args.p.now c.args.at c.args.bytes.now c.self.invariant live c.requires.inside i.loan i.stands)

pub returns-clause-written : goal.returns-clause-written
returns-clause-written c =
    let a = c.self.inside in
    let d : Division = record { block_len = a.block_len; page_blocks = a.page_blocks; classes = a.classes; buffers = a.buffers.items; free = a.free; live = a.live.items } in
    let live = rw (← c.self.view_is) at c.requires.live in
    let i = in_buffer d c.args.p.now c.self.invariant live in
    let slot : c.buf.result < length a.buffers.items = omega (arith, i.slot, c.buf.ensures) in
    let is : c.index_mut.result.now ≡ Some i.loan = get_or_read a.buffers.items c.buf.result c.index_mut.result.now slot c.index_mut.ensures.value None ∙ ap (λ (k : ℕ). get_or a.buffers.items k None) c.buf.ensures ∙ i.stands in
    let wrote : c.write_slot.new.slot ≡ Some (with_written (c.args.p.now.at + c.args.at) c.args.bytes.now i.loan) =
    c.write_slot.ensures ∙ ap (option_map (with_written (c.at.result + c.args.at) c.args.bytes.now)) is ∙ ap (λ (k : ℕ). Some (with_written (k + c.args.at) c.args.bytes.now i.loan)) c.at.ensures
    in
    let bufs : set a.buffers.items c.buf.result c.write_slot.new.slot ≡ set a.buffers.items c.args.p.now.buf (Some (with_written (c.args.p.now.at + c.args.at) c.args.bytes.now i.loan)) =
    ap (λ (k : ℕ). set a.buffers.items k c.write_slot.new.slot) c.buf.ensures ∙ ap (set a.buffers.items c.args.p.now.buf) wrote
    in
    rw (← c.self.view_is) (subst (λ (b : List (Option LoanToken)). bytes_of c.args.p.now (record d { buffers = b }) ≡ written c.args.at c.args.bytes.now (bytes_of c.args.p.now d)) (sym bufs)
    (piece_written d c.args.p.now c.args.at c.args.bytes.now c.self.invariant live c.requires.inside i.loan i.stands))

pub returns-clause-of : goal.returns-clause-of
returns-clause-of c =
    let a = c.self.inside in
    let d : Division = record { block_len = a.block_len; page_blocks = a.page_blocks; classes = a.classes; buffers = a.buffers.items; free = a.free; live = a.live.items } in
    let live = rw (← c.self.view_is) at c.requires.live in
    let i = in_buffer d c.args.p.now c.self.invariant live in
    let slot : c.buf.result < length a.buffers.items = omega (arith, i.slot, c.buf.ensures) in
    let is : c.index_mut.result.now ≡ Some i.loan = get_or_read a.buffers.items c.buf.result c.index_mut.result.now slot c.index_mut.ensures.value None ∙ ap (λ (k : ℕ). get_or a.buffers.items k None) c.buf.ensures ∙ i.stands in
    let wrote : c.write_slot.new.slot ≡ Some (with_written (c.args.p.now.at + c.args.at) c.args.bytes.now i.loan) =
    c.write_slot.ensures ∙ ap (option_map (with_written (c.at.result + c.args.at) c.args.bytes.now)) is ∙ ap (λ (k : ℕ). Some (with_written (k + c.args.at) c.args.bytes.now i.loan)) c.at.ensures
    in
    let bufs : set a.buffers.items c.buf.result c.write_slot.new.slot ≡ set a.buffers.items c.args.p.now.buf (Some (with_written (c.args.p.now.at + c.args.at) c.args.bytes.now i.loan)) =
    ap (λ (k : ℕ). set a.buffers.items k c.write_slot.new.slot) c.buf.ensures ∙ ap (set a.buffers.items c.args.p.now.buf) wrote
    in
    let fits = c.requires.inside in
    let inside : c.args.p.now.at + c.args.at + length c.args.bytes.now ≤ length i.loan.buf.bytes = omega (arith, i.inside, fits) in
    rw (← c.self.view_is) (λ t h of. subst (λ (b : List (Option LoanToken)). IsAllocOf t h (record d { buffers = b })) (sym bufs)
    (of_written t h d i.loan c.args.p.now.buf (c.args.p.now.at + c.args.at) c.args.bytes.now of i.slot i.stands inside))

pub returns-clause-kept : goal.returns-clause-kept
returns-clause-kept c =
    let a = c.self.inside in
    let d : Division = record { block_len = a.block_len; page_blocks = a.page_blocks; classes = a.classes; buffers = a.buffers.items; free = a.free; live = a.live.items } in
    let live = rw (← c.self.view_is) at c.requires.live in
    let i = in_buffer d c.args.p.now c.self.invariant live in
    let slot : c.buf.result < length a.buffers.items = omega (arith, i.slot, c.buf.ensures) in
    let is : c.index_mut.result.now ≡ Some i.loan = get_or_read a.buffers.items c.buf.result c.index_mut.result.now slot c.index_mut.ensures.value None ∙ ap (λ (k : ℕ). get_or a.buffers.items k None) c.buf.ensures ∙ i.stands in
    let wrote : c.write_slot.new.slot ≡ Some (with_written (c.args.p.now.at + c.args.at) c.args.bytes.now i.loan) =
    c.write_slot.ensures ∙ ap (option_map (with_written (c.at.result + c.args.at) c.args.bytes.now)) is ∙ ap (λ (k : ℕ). Some (with_written (k + c.args.at) c.args.bytes.now i.loan)) c.at.ensures
    in
    let bufs : set a.buffers.items c.buf.result c.write_slot.new.slot ≡ set a.buffers.items c.args.p.now.buf (Some (with_written (c.args.p.now.at + c.args.at) c.args.bytes.now i.loan)) =
    ap (λ (k : ℕ). set a.buffers.items k c.write_slot.new.slot) c.buf.ensures ∙ ap (set a.buffers.items c.args.p.now.buf) wrote
    in
    rw (← c.self.view_is) (subst (λ (b : List (Option LoanToken)). KeepsOthers c.args.p.now d (record d { buffers = b })) (sym bufs)
    (piece_kept d c.args.p.now c.args.at c.args.bytes.now c.self.invariant live c.requires.inside i.loan i.stands))
