-- A wide number, read.
use Rattle.std.proofs.Common.{◌≡◌, ℕ, ◌+◌, ◌≤◌, List, length, take, drop, ap, ◌∙◌, le-leb, length-take-le, arith}
use Rattle.std.specs.Prelude.{ℤ, Some}
use Rattle.std.specs.Int.{w128, cast_signed, from_be_bytes}
use Rattle.row_codec.specs.declared.values.Kind.TheVariants as kind
use Rattle.row_codec.specs.declared.values.Value.TheVariants as value
use Rattle.row_codec.specs.RowReading.{front, field_at}
use Rattle.row_codec.proofs.Numbers.{number_of_16}

-- bytes that are there are at the front
pub front_there : (count : ℕ) (bytes : List ℕ) → count ≤ length bytes → front count bytes ≡ Some (take count bytes, drop count bytes)
front_there count bytes enough = rw (le-leb count (length bytes) enough)

-- a wide number that is there is read
pub wide_there : (bytes head rest : List ℕ) (z : ℤ) → head ≡ take 16 bytes → rest ≡ drop 16 bytes → length rest + 16 ≡ length bytes → z ≡ cast_signed w128 (from_be_bytes w128 head) → field_at kind.Wide bytes ≡ Some (value.Wide z, rest)
wide_there bytes head rest z head_is rest_is whole z_is =
    let enough : 16 ≤ length bytes = omega arith in
    let there = front_there 16 bytes enough in
    let long : length head ≡ 16 = ap length head_is ∙ length-take-le 16 bytes enough in
    let number = number_of_16 head long in
    rw (there, z_is, number, head_is, rest_is)
