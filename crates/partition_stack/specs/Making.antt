-- Pages that calls make, and how many they may make still.
use Rattle.std.specs.Prelude.{ℕ, suc, ◌+◌, ◌-◌, ◌*◌, ◌≤◌, List, [], ◌∷◌, length}
use Rattle.pool_model.specs.LookingBack.{names_in}
use Rattle.store_api.specs.Signs.{Entered, Signs}

-- at most so many pages were made
abbrev pub MakesFew : ℕ → Signs → Signs → Type 0
MakesFew most before after = Entered (λ more. length (names_in more) ≤ most) before.trail after.trail

-- at most so many were made beside those by which an emitter's count rose
abbrev pub MakesBeside : ℕ → ℕ → ℕ → Signs → Signs → Type 0
MakesBeside most creates_old creates before after = Entered (λ more. creates_old + length (names_in more) ≤ creates + most) before.trail after.trail

-- how often the rows of partitions of these levels may go to one of the next level: each row of level l at most 16 - l times
abbrev pub owed : List ℕ → (ℕ → List (List ℕ)) → ℕ
owed [] rows = 0
owed (level ∷ levels) rows = length (rows 0) * (16 - level) + owed levels (λ i. rows (suc i))
