use Rattle.std.proofs.Common.{◌≡◌, ◌≤◌, ◌<◌, ◌+◌, ◌/◌, ◌%◌, ◌^◌, ℕ, length, get_or, ap, sym, ◌∙◌, arith}
use Rattle.block_arena.specs.Memory.{Buffer}
use Rattle.bucket_table.specs.Regions.{area_of, cut}
use Rattle.bucket_table.proofs.Marks.{area_len, block_few, block_inside, buffer_is, loan_inside, read_here}
use Rattle.bucket_table.proofs.area.Area.front.Goals as goal

pub index-loan-requires : goal.index-loan-requires
index-loan-requires c =
    let inside = c.self.inside in
    let loans = inside.parts.items in
    let within : c.args.at + c.args.most ≤ length (area_of loans) = rw (← c.self.view_is) at c.requires.inside in
    let is = loan_inside inside.blocks inside.block.len inside.each.len c.args.at c.args.most loans c.self.invariant inside.each.some c.requires.some within in
    omega (arith, is, c.part.ensures, inside.parts.ok.0)

pub front_of-requires : goal.front_of-requires
front_of-requires c =
    let inside = c.self.inside in
    let loans = inside.parts.items in
    let within : c.args.at + c.args.most ≤ length (area_of loans) = rw (← c.self.view_is) at c.requires.inside in
    let is = loan_inside inside.blocks inside.block.len inside.each.len c.args.at c.args.most loans c.self.invariant inside.each.some c.requires.some within in
    let loan = c.index-loan.result.now in
    let loan_is : loan ≡ get_or loans (c.args.at / inside.each.len) loan = c.index-loan.ensures ∙ ap (λ (i : ℕ). get_or loans i loan) c.part.ensures in
    let buf = buffer_is inside.blocks inside.block.len inside.each.len (c.args.at / inside.each.len) loans loan c.self.invariant is loan_is in
    let below : c.args.at % inside.each.len < inside.each.len = omega (arith, c.place.ensures.value, c.place.ensures.below) in
    let few = block_few inside.blocks inside.block.len inside.each.len c.args.at c.self.invariant.each inside.block.some below in
    record {
      some = c.requires.some;
      block = sym (ap (λ (b : Buffer). b.block_len) c.buf.ensures ∙ buf.block_len);
      inside = rw (c.place.ensures.value, c.buf.ensures) (omega (arith, few, buf.blocks));
    }

pub returns : goal.returns
returns c =
    let inside = c.self.inside in
    let loans = inside.parts.items in
    let within : c.args.at + c.args.most ≤ length (area_of loans) = rw (← c.self.view_is) at c.requires.inside in
    let is = loan_inside inside.blocks inside.block.len inside.each.len c.args.at c.args.most loans c.self.invariant inside.each.some c.requires.some within in
    let loan = c.index-loan.result.now in
    let loan_is : loan ≡ get_or loans (c.args.at / inside.each.len) loan = c.index-loan.ensures ∙ ap (λ (i : ℕ). get_or loans i loan) c.part.ensures in
    let n = length c.front_of.result.now in
    let place = c.place.ensures.value in
    let below : c.args.at % inside.each.len < inside.each.len = omega (arith, place, c.place.ensures.below) in
    let one : n + c.args.at % inside.each.len % inside.block.len ≤ inside.block.len = rw place at c.front_of.ensures.one in
    let fits = block_inside inside.blocks inside.block.len inside.each.len c.args.at n c.self.invariant.each inside.block.some below one in
    let value : c.front_of.result.now ≡ cut c.args.at n (area_of loans) =
    c.front_of.ensures.value
    ∙ ap (λ (k : ℕ). cut k n c.buf.result.now.bytes) place
    ∙ ap (λ (b : Buffer). cut (c.args.at % inside.each.len) n b.bytes) c.buf.ensures
    ∙ read_here inside.blocks inside.block.len inside.each.len c.args.at loans loan c.self.invariant is loan_is n fits
    in
    let short : length (area_of loans) < 2 ^ 32 = omega (arith, c.self.invariant.short, area_len _ _ _ loans c.self.invariant) in
    record {
      value = rw (← c.self.view_is) value;
      some = c.front_of.ensures.some;
      most = c.front_of.ensures.most;
      short = rw (← c.self.view_is) short;
    }
