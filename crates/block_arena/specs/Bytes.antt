-- Lists of bytes that are read and written in part. A list runs from the first byte on.
use Rattle.std.specs.Prelude.{ℕ, ◌+◌, List, ◌++◌, length, take, drop}

-- these bytes in a place that holds `old`: cut, or filled up from the old ones, to the same length
abbrev pub fitted : List ℕ → List ℕ → List ℕ
fitted old bytes = take (length old) (bytes ++ drop (length bytes) old)

-- the list where `piece` was written over what stood at `at` and after it
abbrev pub written : ℕ → List ℕ → List ℕ → List ℕ
written at piece bytes = take at bytes ++ (piece ++ drop (at + length piece) bytes)

-- what stands behind the first twenty of these bytes, in the place of `old`
abbrev pub behind_front : List ℕ → List ℕ → List ℕ
behind_front old bytes = fitted old (drop 20 bytes)
