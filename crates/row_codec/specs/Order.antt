-- The order of keys: by the path of their hash, compared from level 0 on, and then by their bytes.
use Rattle.std.specs.Prelude.{ℕ, ◌*◌, ◌/◌, ◌%◌, ◌^◌, List, map, fold, bit_xor}
use Rattle.std.specs.List.{range_with_len}
use Rattle.std.specs.declared.cmp.Ordering.{Ordering}
use Rattle.std.specs.Ordering.{nat_cmp, on, then_cmp}
use Rattle.std.specs.Cmp.Lexicographic.{slice_cmp}

-- what a hash becomes by one more byte
abbrev pub hash_step : ℕ → ℕ → ℕ
hash_step hash byte = (bit_xor hash byte * 1099511628211) % 2 ^ 64

-- FNV-1a, 64 bits
abbrev pub hash_of : List ℕ → ℕ
hash_of key = fold hash_step 14695981039346656037 key

-- what stands at a level of a hash: four of its bits, level 0 the lowest four
abbrev pub nibble_of : ℕ → ℕ → ℕ
nibble_of hash level = hash / 2 ^ (4 * level) % 16

-- the path of a key: the nibbles of its hash at the levels 0 to 15
unfoldable pub path_of : List ℕ → List ℕ
path_of key = map (nibble_of (hash_of key)) (range_with_len 0 16)

-- keys by path, and keys of one path by their bytes, where a prefix comes first
abbrev pub path_order : List ℕ → List ℕ → Ordering
path_order = then_cmp (on path_of (slice_cmp nat_cmp)) (slice_cmp nat_cmp)
