use Rattle.std.proofs.Common.{◌≡◌, ◌+◌, ◌≤◌, ◌<◌, ℕ, None, Some, Option, IsSome, get_or, slice_range, length, refl, ap, sym, ◌∙◌, subst, arith}
use Rattle.std.proofs.lemmas.List.{get_or_read}
use Rattle.store_api.specs.Tokens.{LoanToken}
use Rattle.sub_alloc.specs.Pieces.{bytes_in}
use Rattle.sub_alloc.proofs.Cuts.{in_buffer, read_piece}
use Rattle.sub_alloc.proofs.allocator.SubAlloc.read_at.Goals as goal

pub overflow_add-from : goal.overflow_add-from
overflow_add-from c =
    let i = in_buffer _ c.args.p.now c.self.invariant (rw (← c.self.view_is) at c.requires.live) in
    let fits = c.requires.inside in
    let at = c.at.ensures in
    omega (arith, i.short, fits, at)

pub read_slot-requires-clause-is_open : goal.read_slot-requires-clause-is_open
read_slot-requires-clause-is_open c =
    let a = c.self.inside in
    let i = in_buffer _ c.args.p.now c.self.invariant (rw (← c.self.view_is) at c.requires.live) in
    let slot : c.buf.result < length a.buffers.items = omega (arith, i.slot, c.buf.ensures) in
    let is : c.index.result.now ≡ Some i.loan = get_or_read a.buffers.items c.buf.result c.index.result.now slot c.index.ensures None ∙ ap (λ (k : ℕ). get_or a.buffers.items k None) c.buf.ensures ∙ i.stands in
    subst IsSome (sym is) refl

pub read_slot-requires-clause-inside : goal.read_slot-requires-clause-inside
read_slot-requires-clause-inside c =
    let a = c.self.inside in
    let i = in_buffer _ c.args.p.now c.self.invariant (rw (← c.self.view_is) at c.requires.live) in
    let slot : c.buf.result < length a.buffers.items = omega (arith, i.slot, c.buf.ensures) in
    let is : c.index.result.now ≡ Some i.loan = get_or_read a.buffers.items c.buf.result c.index.result.now slot c.index.ensures None ∙ ap (λ (k : ℕ). get_or a.buffers.items k None) c.buf.ensures ∙ i.stands in
    let fits = c.requires.inside in
    let inside : c.at.result + c.args.at + length c.args.out.now ≤ length (bytes_in (Some i.loan)) = omega (arith, i.inside, fits, c.at.ensures) in
    subst (λ (b : Option LoanToken). c.at.result + c.args.at + length c.args.out.now ≤ length (bytes_in b)) (sym is) inside

pub returns : goal.returns
returns c =
    let a = c.self.inside in
    let i = in_buffer _ c.args.p.now c.self.invariant (rw (← c.self.view_is) at c.requires.live) in
    let slot : c.buf.result < length a.buffers.items = omega (arith, i.slot, c.buf.ensures) in
    let is : c.index.result.now ≡ get_or a.buffers.items c.args.p.now.buf None = get_or_read a.buffers.items c.buf.result c.index.result.now slot c.index.ensures None ∙ ap (λ (k : ℕ). get_or a.buffers.items k None) c.buf.ensures in
    let n = length c.args.out.now in
    let read : c.read_slot.new.out ≡ slice_range (bytes_in (get_or a.buffers.items c.args.p.now.buf None)) (c.args.p.now.at + c.args.at) (c.args.p.now.at + c.args.at + length c.args.out.now) =
    c.read_slot.ensures
    ∙ ap (λ (b : Option LoanToken). slice_range (bytes_in b) (c.at.result + c.args.at) (c.at.result + c.args.at + length c.args.out.now)) is
    ∙ ap (λ (k : ℕ). slice_range (bytes_in (get_or a.buffers.items c.args.p.now.buf None)) (k + c.args.at) (k + c.args.at + length c.args.out.now)) c.at.ensures
    in
    rw (← c.self.view_is) (read ∙ read_piece (bytes_in (get_or a.buffers.items c.args.p.now.buf None)) c.args.p.now.at c.args.p.now.len c.args.at (length c.args.out.now) c.requires.inside)
