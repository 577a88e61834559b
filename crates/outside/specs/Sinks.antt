-- What stood in a sink at its first failed write.
use Rattle.std.specs.Prelude.{◌≡◌, ◌⊎◌, ℕ, Bool, true, false, List, Option, Some, None, ⊤}

-- the bytes of a sink at its first failed write, after one more write to these contents, which failed or not
abbrev pub first_failure : Bool → Option (List ℕ) → Option (List ℕ) → Option (List ℕ)
first_failure false contents before = before
first_failure true contents None = contents
first_failure true contents (Some bytes) = Some bytes

-- nothing stands behind the bytes at the first failed write, unless that was before
abbrev pub EndsAt : Option (List ℕ) → Option (List ℕ) → Option (List ℕ) → Type 0
EndsAt (Some bytes) now contents = now ≡ Some bytes
EndsAt None None contents = ⊤
EndsAt None (Some bytes) contents = contents ≡ Some bytes

-- no write to a sink failed in a call, or the call failed and nothing stands behind the first failed write
abbrev pub StopsAt : Type 0 → Option (List ℕ) → Option (List ℕ) → Option (List ℕ) → Type 0
StopsAt failed before now contents = (now ≡ before) ⊎ (failed × EndsAt before now contents)
