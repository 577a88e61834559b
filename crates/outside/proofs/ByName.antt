-- A function of names of which one value was changed.
use Rattle.std.proofs.Common.{◌≡◌, ◌≢◌, ◌∙◌, ℕ, List, Bool, true, false, Option, sym, refl, subst}
use Rattle.std.specs.Map.{update}
use Rattle.std.specs.Str.{bytes_eq}
use Rattle.std.proofs.lemmas.Slice.Eq.{bytes_eq-Decides}

-- two names are the same, or they differ
name_cases : (P : List ℕ → Type 0) (name other : List ℕ) (same : Bool) → bytes_eq name other ≡ same
    → P name → (other ≢ name → P other) → P other
name_cases P name other true is here there = subst P ((bytes_eq-Decides name other).0 is) here
name_cases P name other false is here there =
    there (λ e. cc (sym is ∙ (bytes_eq-Decides name other).1 (sym e)))

-- a fact of the name and of all others holds of each
pub each_name : (P : List ℕ → Type 0) (name : List ℕ)
    → P name → ((other : List ℕ) → other ≢ name → P other) → (other : List ℕ) → P other
each_name P name here there other = name_cases P name other (bytes_eq name other) refl here (there other)

-- the name has the value that it was given
pub changed_here : {X : Type 0} (old : List ℕ → Option X) (name : List ℕ) (value : Option X)
    → update bytes_eq old name value name ≡ value
changed_here old name value = rw ((bytes_eq-Decides name name).1 refl) refl

differ : (name other : List ℕ) (same : Bool) → bytes_eq name other ≡ same → other ≢ name → bytes_eq name other ≡ false
differ name other true is apart = absurd (apart (sym ((bytes_eq-Decides name other).0 is)))
differ name other false is apart = is

-- every other name has the value that it had
pub changed_there : {X : Type 0} (old : List ℕ → Option X) (name : List ℕ) (value : Option X) (other : List ℕ)
    → other ≢ name → update bytes_eq old name value other ≡ old other
changed_there old name value other apart = rw (differ name other (bytes_eq name other) refl apart) refl
