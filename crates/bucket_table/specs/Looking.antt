-- Rows that are looked up by some of their bytes.
use Rattle.std.specs.Prelude.{ℕ, ◌==◌, ◌&&◌, List, length, map, slice_get, Bool, Option, bytes_eq}
use Rattle.std.specs.List.{filter}
use Rattle.bucket_table.specs.Tables.{Node, part_of}

-- whether a node is on this chain, and its row shows these bytes from a place on
abbrev pub shows_on : ℕ → ℕ → List ℕ → Node → Bool
shows_on k at bytes n = n.chain == k && bytes_eq bytes (part_of at (length bytes) n.row)

-- the newest node of a chain whose row shows these bytes from a place on
abbrev pub newest_showing : ℕ → ℕ → List ℕ → List Node → Option ℕ
newest_showing k at bytes nodes = slice_get (map (λ n. n.place) (filter (shows_on k at bytes) nodes)) 0
