use Rattle.std.proofs.Common.{◌∙◌, ap, map, refl, arith}
use Rattle.std.specs.List.{range_with_len}
use Rattle.row_codec.specs.KeyInside.{number_from}
use Rattle.row_codec.specs.Order.{nibble_of, path_of}
use Rattle.row_codec.proofs.Turned.{is_turned}
use Rattle.row_codec.proofs.order.path_number.Goals as goal

pub overflow_mul-result : goal.overflow_mul-result
overflow_mul-result c =
    let turned = is_turned c.hash64-hash.result c.swap_bytes-turned.result _ c.swap_bytes-turned.ensures refl in
    omega (arith, turned.fits)

pub returns : goal.returns
unfolding path_of
returns c =
    let turned = is_turned c.hash64-hash.result c.swap_bytes-turned.result _ c.swap_bytes-turned.ensures refl in
    record { number = turned.number ∙ ap (λ hash. number_from 0 (map (nibble_of hash) (range_with_len 0 16))) c.hash64-hash.ensures.hash }
