-- How much of a plan's file is read.
use Rattle.std.specs.Prelude.{◌≡◌, ◌⊎◌, ◌<◌, ℕ, List, Option, IfSome, length}

-- all of the bytes, where they are told, or a front of them that is longer than a document may be
abbrev pub IsEnough : Option (List ℕ) → List ℕ → Type 0
IsEnough told text = IfSome told (λ bytes. (bytes ≡ text) ⊎ ((1048576 < length text) × (1048576 < length bytes)))
