-- What the scan of some bytes tells of a piece.
use Rattle.std.specs.Prelude.{◌≡◌, ◌≤◌, ◌<◌, ◌+◌, ◌-◌, ◌++◌, ◌==◌, ℕ, true, List, [], ◌∷◌, length, slice_index}
use Rattle.csv_edge.specs.declared.scan.Front.{Front}
use Rattle.csv_edge.specs.declared.scan.Front.TheVariants.{Cut, All}
use Rattle.csv_edge.specs.declared.scan.Scan.{Scan}
use Rattle.csv_edge.specs.Pieces.{after_byte, front_len}

-- the front ends within these bytes, or goes on behind them, whatever bytes follow
abbrev pub FrontIs : Scan → ℕ → List ℕ → Front → Type 0
FrontIs scan least bytes (Cut len) = (0 < len) × (len ≤ length bytes) × ((more : List ℕ) → front_len scan least (bytes ++ more) ≡ len)
FrontIs scan least bytes (All after) = (more : List ℕ) → front_len scan least (bytes ++ more) ≡ length bytes + front_len after (least - length bytes) more

-- this byte stands nowhere from a place up to another
abbrev pub HasNone : ℕ → List ℕ → ℕ → ℕ → Type 0
HasNone byte bytes from to = (k : ℕ) → from ≤ k → k < to → (slice_index bytes k == byte) ≡ true → ⊥

-- where the scan stands behind some bytes
abbrev pub after_bytes : Scan → List ℕ → Scan
after_bytes start [] = start
after_bytes start (byte ∷ rest) = after_bytes (after_byte start byte) rest
