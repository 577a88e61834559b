use Rattle.std.proofs.Common.{◌≤◌, ◌+◌, ◌%◌, ℕ, List, length, refl, sym, subst, arith}
use Rattle.std.specs.Int.{w128, to_be_bytes}
use Rattle.row_codec.specs.RowReading.{number_in}
use Rattle.bucket_table.specs.Regions.{area_of}
use Rattle.bucket_table.proofs.InLoans.{in_loan, index_in}
use Rattle.bucket_table.proofs.area.Area.change_in_block.Goals as goal

pub index_mut-part-requires : goal.index_mut-part-requires
index_mut-part-requires g c =
    let t = c.self.inside in
    let within : c.args.at + 16 ≤ length (area_of t.parts.items) = rw (← c.self.view_is) at c.requires.inside in
    let is = index_in t.blocks t.block.len t.each.len c.args.at 16 c.part.result t.parts.items c.self.invariant t.each.some (omega arith) within c.part.ensures in
    omega (arith, is, t.parts.ok.0)

pub change_in-requires : goal.change_in-requires
change_in-requires g c =
    let t = c.self.inside in
    let within : c.args.at + 16 ≤ length (area_of t.parts.items) = rw (← c.self.view_is) at c.requires.inside in
    let one : 16 + c.args.at % t.each.len % t.block.len ≤ t.block.len = rw (c.self.invariant.each) (rw (← c.self.view_is) at c.requires.one) in
    let is = in_loan t.blocks t.block.len t.each.len c.args.at c.part.result c.place.result 16 t.parts.items c.index_mut-part.result.now c.buf_mut.result.now c.self.invariant t.block.some (omega arith) within c.part.ensures c.place.ensures.value c.place.ensures.below c.index_mut-part.ensures.value c.buf_mut.ensures.value one in
    record {
      block = is.block;
      inside = is.inside;
      one = is.one;
      call = subst (λ (bytes : List ℕ). goal.F-pre g c.args.change (number_in bytes)) (sym is.same) (rw (← c.self.view_is) at c.requires.call);
    }

pub invariant_of-self : goal.invariant_of-self
invariant_of-self g c =
    let t = c.self.inside in
    let within : c.args.at + 16 ≤ length (area_of t.parts.items) = rw (← c.self.view_is) at c.requires.inside in
    let one : 16 + c.args.at % t.each.len % t.block.len ≤ t.block.len = rw (c.self.invariant.each) (rw (← c.self.view_is) at c.requires.one) in
    let is = in_loan t.blocks t.block.len t.each.len c.args.at c.part.result c.place.result 16 t.parts.items c.index_mut-part.result.now c.buf_mut.result.now c.self.invariant t.block.some (omega arith) within c.part.ensures c.place.ensures.value c.place.ensures.below c.index_mut-part.ensures.value c.buf_mut.ensures.value one in
    (is.wrote (to_be_bytes w128 c.change_in.ensures.0) c.change_in.new.buf refl c.change_in.ensures.2).parts

pub returns : goal.returns
returns g c =
    let t = c.self.inside in
    let within : c.args.at + 16 ≤ length (area_of t.parts.items) = rw (← c.self.view_is) at c.requires.inside in
    let one : 16 + c.args.at % t.each.len % t.block.len ≤ t.block.len = rw (c.self.invariant.each) (rw (← c.self.view_is) at c.requires.one) in
    let is = in_loan t.blocks t.block.len t.each.len c.args.at c.part.result c.place.result 16 t.parts.items c.index_mut-part.result.now c.buf_mut.result.now c.self.invariant t.block.some (omega arith) within c.part.ensures c.place.ensures.value c.place.ensures.below c.index_mut-part.ensures.value c.buf_mut.ensures.value one in
    rw (← c.self.view_is) (
      c.change_in.ensures.0,
      subst (λ (bytes : List ℕ). goal.F-post g c.args.change (number_in bytes) c.change_in.ensures.0) is.same c.change_in.ensures.1,
      (is.wrote (to_be_bytes w128 c.change_in.ensures.0) c.change_in.new.buf refl c.change_in.ensures.2).region,
    )
