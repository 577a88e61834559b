use Rattle.std.proofs.Common.{◌≡◌, ◌*◌, ◌%◌, ◌^◌, ap, ◌∙◌, arith, bit_xor}
use Rattle.sub_alloc.proofs.Looks.{other_by_bit, pow_le}
use Rattle.sub_alloc.proofs.shelves.other_half.Goals as goal

pub returns : goal.returns
returns c =
    let p = pow_le c.args.class 15 c.requires.short in
    let width : 1 * 2 ^ c.args.class % 4294967296 ≡ 2 ^ c.args.class = omega (arith, p) in
    ap (bit_xor c.args.place) width ∙ other_by_bit c.args.class c.args.place
