use Rattle.std.proofs.Common.{◌≡◌, ◌≤◌, ◌+◌, ◌/◌, ◌%◌, ℕ, length, map, set, get_or, ap, ◌∙◌, arith}
use Rattle.block_arena.specs.Bytes.{written}
use Rattle.block_arena.specs.Memory.{Buffer, IsBufferOf, with_bytes}
use Rattle.store_api.specs.Tokens.{with_buf}
use Rattle.bucket_table.specs.Regions.{area_of, lent}
use Rattle.bucket_table.proofs.Marks.{buffer_is, loan_inside, same_region, write_here, lent_same, written_buffer}
use Rattle.bucket_table.proofs.area.Area.write_in_part.Goals as goal

pub index_mut-part-requires : goal.index_mut-part-requires
index_mut-part-requires c =
    let inside = c.self.inside in
    let loans = inside.parts.items in
    let within : c.args.at + length c.args.bytes.now ≤ length (area_of loans) = rw (← c.self.view_is) at c.requires.inside in
    let is = loan_inside inside.blocks inside.block.len inside.each.len c.args.at (length c.args.bytes.now) loans c.self.invariant inside.each.some c.requires.some within in
    omega (arith, is, c.part.ensures, inside.parts.ok.0)

pub write_at-requires : goal.write_at-requires
write_at-requires c =
    let inside = c.self.inside in
    let loans = inside.parts.items in
    let within : c.args.at + length c.args.bytes.now ≤ length (area_of loans) = rw (← c.self.view_is) at c.requires.inside in
    let is = loan_inside inside.blocks inside.block.len inside.each.len c.args.at (length c.args.bytes.now) loans c.self.invariant inside.each.some c.requires.some within in
    let loan = c.index_mut-part.result.now in
    let loan_is : loan ≡ get_or loans (c.args.at / inside.each.len) loan = c.index_mut-part.ensures.value ∙ ap (λ (i : ℕ). get_or loans i loan) c.part.ensures in
    let buf = buffer_is inside.blocks inside.block.len inside.each.len (c.args.at / inside.each.len) loans loan c.self.invariant is loan_is in
    let one : length c.args.bytes.now + c.args.at % inside.each.len ≤ inside.each.len = rw (c.self.invariant.each) (rw (← c.self.view_is) at c.requires.one) in
    let same : length c.buf_mut.result.now.bytes ≡ length loan.buf.bytes = ap (λ (b : Buffer). length b.bytes) c.buf_mut.ensures.value in
    omega (arith, same, buf.whole, one, c.self.invariant.each, c.place.ensures.value)

pub returns : goal.returns
returns c =
    let inside = c.self.inside in
    let loans = inside.parts.items in
    let piece = c.args.bytes.now in
    let within : c.args.at + length piece ≤ length (area_of loans) = rw (← c.self.view_is) at c.requires.inside in
    let is = loan_inside inside.blocks inside.block.len inside.each.len c.args.at (length piece) loans c.self.invariant inside.each.some c.requires.some within in
    let loan = c.index_mut-part.result.now in
    let loan_is : loan ≡ get_or loans (c.args.at / inside.each.len) loan = c.index_mut-part.ensures.value ∙ ap (λ (i : ℕ). get_or loans i loan) c.part.ensures in
    let was = buffer_is inside.blocks inside.block.len inside.each.len (c.args.at / inside.each.len) loans loan c.self.invariant is loan_is in
    let one : length piece + c.args.at % inside.each.len ≤ inside.each.len = rw (c.self.invariant.each) (rw (← c.self.view_is) at c.requires.one) in
    let buf = c.write_at.new.self in
    let buf_is : buf ≡ with_bytes loan.buf (written (c.args.at % inside.each.len) piece loan.buf.bytes) =
    c.write_at.ensures.value
    ∙ ap (λ (b : Buffer). with_bytes b (written c.place.result piece b.bytes)) c.buf_mut.ensures.value
    ∙ ap (λ (k : ℕ). with_bytes loan.buf (written k piece loan.buf.bytes)) c.place.ensures.value
    in
    let now : IsBufferOf inside.blocks inside.block.len buf = written_buffer inside.blocks inside.block.len inside.each.len (c.args.at % inside.each.len) piece loan.buf buf c.self.invariant.each was one buf_is in
    let set_is : set loans c.part.result (with_buf loan buf) ≡ set loans (c.args.at / inside.each.len) (with_buf loan buf) = ap (λ (i : ℕ). set loans i (with_buf loan buf)) c.part.ensures in
    rw (← c.self.view_is)
    (same_region inside.blocks inside.block.len _ _ _ _
    (ap (map lent) set_is ∙ lent_same inside.blocks inside.block.len inside.each.len (c.args.at / inside.each.len) loans loan c.self.invariant is loan_is buf now)
    (ap area_of set_is ∙ write_here inside.blocks inside.block.len inside.each.len c.args.at loans loan c.self.invariant is loan_is buf piece one (ap (λ (b : Buffer). b.bytes) buf_is)))
