-- What an object tells of its bytes. Objects in memory tell it, files do not: `None` claims nothing.
use Rattle.std.specs.Prelude.{◌≡◌, ℕ, List, Option, Some, None, ⊤}

-- what is told is this
abbrev pub Tells : {A : Type 0} → Option A → A → Type 0
Tells None x = ⊤
Tells (Some y) x = y ≡ x

-- an object that tells something tells this now
abbrev pub NowTells : {A B : Type 0} → Option A → Option B → B → Type 0
NowTells None now x = ⊤
NowTells (Some before) now x = now ≡ Some x

-- what a source gives is what stands under its name, where that is told
abbrev pub GivesBytes : Option (List ℕ) → Option (List ℕ) → Type 0
GivesBytes None given = ⊤
GivesBytes (Some bytes) given = given ≡ Some bytes
