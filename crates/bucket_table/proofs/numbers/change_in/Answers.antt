use Rattle.std.proofs.Common.{◌≡◌, ◌+◌, ◌-◌, ◌/◌, ◌≤◌, ℕ, List, refl, ap, sym, ◌∙◌, subst, arith}
use Rattle.std.specs.Int.{w128, to_be_bytes}
use Rattle.block_arena.specs.Memory.{block_of}
use Rattle.block_arena.proofs.Copies.{put_is_written}
use Rattle.row_codec.specs.RowReading.{number_in}
use Rattle.bucket_table.proofs.InBlocks.{written_in_block}
use Rattle.bucket_table.proofs.Marks.{front_is}
use Rattle.bucket_table.proofs.numbers.change_in.Goals as goal

pub change-number-requires : goal.change-number-requires
change-number-requires g c =
    let buf = c.args.buf.now in
    let place = c.place-place.result in
    let fits : place + 16 ≤ c.args.block.len = omega (arith, c.requires.one, c.place-place.ensures.value) in
    let is = front_is buf c.args.block.len c.args.from place 16 c.block_mut-bytes.result.now c.requires.block c.place-place.ensures.value fits (c.block_mut-bytes.ensures.value ∙ ap (block_of buf) c.part.ensures) c.block_mut-bytes.ensures.len in
    subst (goal.F-pre g c.args.change) (sym (c.spelled_wide.ensures ∙ ap number_in is.1)) c.requires.call

pub returns : goal.returns
returns g c =
    let buf = c.args.buf.now in
    let place = c.place-place.result in
    let block = c.block_mut-bytes.result.now in
    let fits : place + 16 ≤ c.args.block.len = omega (arith, c.requires.one, c.place-place.ensures.value) in
    let block_is : block ≡ block_of buf (c.args.from / c.args.block.len) = c.block_mut-bytes.ensures.value ∙ ap (block_of buf) c.part.ensures in
    let is = front_is buf c.args.block.len c.args.from place 16 block c.requires.block c.place-place.ensures.value fits block_is c.block_mut-bytes.ensures.len in
    let number = c.change-number.result in
    let piece : List ℕ = to_be_bytes w128 number in
    let width : place + 16 - place ≡ 16 = omega arith in
    let new_is = put_is_written block block piece c.copy_from_slice.new.self place (place + 16 - place) refl (c.copy_from_slice.ensures.after ∙ c.spelling_of.ensures) width in (
      number,
      subst (λ (n : ℕ). goal.F-post g c.args.change n number) (c.spelled_wide.ensures ∙ ap number_in is.1) c.change-number.ensures,
      written_in_block buf c.args.block.len c.args.from place c.part.result block _ piece c.requires.block c.args.block.some c.place-place.ensures.value c.part.ensures fits c.block_mut-bytes.ensures.value c.block_mut-bytes.ensures.len new_is,
    )
