-- How a hash is spread over the chains of a table.
use Rattle.std.specs.Prelude.{ℕ, ◌*◌, ◌/◌, ◌%◌, ◌^◌}

-- Fibonacci hashing: the upper half of a hash's multiple by 2^64 over the golden ratio
unfoldable pub spread : ℕ → ℕ
spread hash = hash * 11400714819323198485 % 2 ^ 64 / 2 ^ 32
