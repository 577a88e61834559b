use Rattle.std.proofs.Common.{◌≡◌, ◌<◌, length, replicate, ap, ◌∙◌, arith}
use Rattle.std.proofs.lemmas.List.{length-set}
use Rattle.block_arena.specs.Memory.{Buffer, with_bytes}
use Rattle.store_api.specs.Tokens.{with_buf}
use Rattle.bucket_table.proofs.Marks.{all_zero, buffer_is, lent_same, parts_now, zeroed_buffer, zero_more}
use Rattle.bucket_table.proofs.area.Area.zero.Goals as goal

pub loop-i-preserved : goal.loop-i-preserved
loop-i-preserved c =
    let was = c.self.inside in
    let inv = c.loop-i.invariant in
    let loans = c.loop-i.self-inside.parts.items in
    let loan = c.index_mut-part.result.now in
    let buf = c.zero.new.self in
    let inside : c.loop-i.i < length loans = omega (arith, c.loop-i-test.true, c.len-i-end.ensures, was.parts.ok.0, inv.count) in
    let buf_is : buf ≡ with_bytes loan.buf (replicate (length loan.buf.bytes) 0) = c.zero.ensures ∙ ap (λ (b : Buffer). with_bytes b (replicate (length b.bytes) 0)) c.buf_mut.ensures.value in
    let is = c.index_mut-part.ensures.value in
    let fits = zeroed_buffer was.blocks was.block.len loan.buf buf (buffer_is was.blocks was.block.len was.each.len c.loop-i.i loans loan inv.parts inside is) buf_is in
    record {
      blocks = inv.blocks;
      block = inv.block;
      each = inv.each;
      count = length-set loans c.loop-i.i (with_buf loan buf) ∙ inv.count;
      parts = parts_now was.blocks was.block.len was.each.len c.loop-i.i loans loan inv.parts inside is buf fits;
      lent_is = lent_same was.blocks was.block.len was.each.len c.loop-i.i loans loan inv.parts inside is buf fits ∙ inv.lent_is;
      zeros = zero_more was.blocks was.block.len was.each.len c.loop-i.i loans loan buf inv.parts inside is buf_is inv.zeros;
    }

pub returns : goal.returns
returns c =
    let was = c.self.inside in
    let now = c.loop-i.self-inside in
    let inv = c.loop-i.invariant in
    let end : c.loop-i.i ≡ length was.parts.items = omega (arith, c.loop-i-test.false, c.loop-i.auto.i-end, c.len-i-end.ensures, was.parts.ok.0) in
    let zeros = all_zero was.blocks was.block.len was.each.len c.loop-i.i was.parts.items now.parts.items c.self.invariant inv.count end inv.zeros in
    rw (← c.self.view_is) (λ i. record { blocks = inv.blocks i; block_len = (inv.block i).len; loans = inv.lent_is i; bytes = zeros i })
