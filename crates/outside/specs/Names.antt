-- What stands under the names of inputs and outputs.
use Rattle.std.specs.Prelude.{◌≡◌, ◌≢◌, ◌&&◌, ◌<◌, ◌⊎◌, ℕ, Bool, true, false, List, [], Option, Some, None, IsSome, Result, ⊤, if◌then◌else◌}
use Rattle.std.specs.Str.{bytes_eq}
use Rattle.std.specs.Result.{is_ok}
use Rattle.outside.specs.Counts.{NoneFell, Rose}

-- an output: its bytes, and whether they are a whole answer
pub record Written : Type 0 where
  pub bytes : List ℕ
  pub whole : Bool

-- an output as it is created
abbrev pub fresh : Written
fresh = record { bytes = []; whole = false }

-- an output that was given back with these bytes
abbrev pub given_back : {E : Type 0} → List ℕ → Bool → Result Unit E → Written
given_back bytes whole result = record { bytes = bytes; whole = whole && is_ok result }

-- where outputs are told, the one of this name is this now
abbrev pub NowWritten : Option Written → Option Written → Written → Type 0
NowWritten None now output = ⊤
NowWritten (Some before) now output = now ≡ Some output

-- where outputs and the bytes of the sink are told, the output has the bytes of the sink
abbrev pub TakesBytes : {E : Type 0} → Option Written → Option Written → Option (List ℕ) → Bool → Result Unit E → Type 0
TakesBytes None now sink whole result = ⊤
TakesBytes (Some before) now None whole result = ⊤
TakesBytes (Some before) now (Some bytes) whole result = now ≡ Some (given_back bytes whole result)

-- a new sink is empty, where outputs are told
abbrev pub StartsEmpty : Option Written → Option (List ℕ) → Type 0
StartsEmpty None contents = ⊤
StartsEmpty (Some before) contents = contents ≡ Some []

-- every name stays as it was
abbrev pub AllStay : {A : Type 0} → (List ℕ → A) → (List ℕ → A) → Type 0
AllStay before now = (name : List ℕ) → now name ≡ before name

-- every other name stays as it was
abbrev pub OthersStay : {A : Type 0} → List ℕ → (List ℕ → A) → (List ℕ → A) → Type 0
OthersStay name before now = (other : List ℕ) → other ≢ name → now other ≡ before other

-- the count of every other name stays, but that names with no entry have one count together
abbrev pub OtherCountsStay : {X : Type 0} → List ℕ → (List ℕ → Option X) → (List ℕ → ℕ) → (List ℕ → ℕ) → Type 0
OtherCountsStay name entries before now = (other : List ℕ) → other ≢ name → IsSome (entries name) ⊎ IsSome (entries other) → now other ≡ before other

-- the name has this now, and every other name stays as it was
abbrev pub Changes : {A : Type 0} → List ℕ → A → (List ℕ → A) → (List ℕ → A) → Type 0
Changes name value before now = (other : List ℕ) → now other ≡ (if bytes_eq name other then value else before other)

-- a name that was created once counts as created from then on
abbrev pub StaysCreated : (List ℕ → Bool) → (List ℕ → Bool) → Type 0
StaysCreated before now = (name : List ℕ) → before name ≡ true → now name ≡ true

-- a count of faults took up those of an object that was given back
abbrev pub TakesFaults : ℕ → ℕ → ℕ → Type 0
TakesFaults object before now = 0 < object → Rose before now

-- a count for each name, which a refused end raises under its name, and which stays else
abbrev pub CountsEnd : List ℕ → Bool → (List ℕ → ℕ) → (List ℕ → ℕ) → Type 0
CountsEnd name true before now = Rose (before name) (now name) × NoneFell before now
CountsEnd name false before now = AllStay before now
