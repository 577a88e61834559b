-- Counts of the entry of one name.
use Rattle.std.proofs.Common.{◌≡◌, ◌≤◌, ◌∙◌, if◌then◌else◌, ℕ, List, Bool, true, false, Option, Some, None, IfSome, IsSome, sym, refl, ap, arith}
use Rattle.std.specs.Str.{bytes_eq}
use Rattle.std.proofs.lemmas.Slice.Eq.{bytes_eq-Decides}
use Rattle.outside.specs.Counts.{counted}
use Rattle.outside.specs.Names.{Changes, CountsEnd}
use Rattle.outside.specs.Entries.{count_by}

-- the count under the name grew
pub grows_at : {X : Type 0} (missing : ℕ) (count : X → ℕ) (before now : List ℕ → Option X) (name : List ℕ) (x y : X)
    → before name ≡ Some x → count x ≤ count y → Changes name (Some y) before now
    → (other : List ℕ) → count_by missing count (before other) ≤ count_by missing count (now other)
grows_at missing count before now name x y was more changes other = at (bytes_eq name other) refl where
  at : (same : Bool) → bytes_eq name other ≡ same → count_by missing count (before other) ≤ count_by missing count (now other)
  at true is =
      let here : name ≡ other = (bytes_eq-Decides name other).0 is in
      let old : before other ≡ Some x = sym (ap before here) ∙ was in
      let new : now other ≡ Some y = changes other ∙ rw is refl in
      rw (old, new) more
  at false is =
      let new : now other ≡ before other = changes other ∙ rw is refl in
      rw new (omega arith)

-- the entry under a name was changed to one with at least as many faults
pub none_fell : {X : Type 0} (missing : ℕ) (count : X → ℕ) (next : X → X) (before now : List ℕ → Option X) (name : List ℕ)
    → (entry : Option X) → before name ≡ entry → IsSome entry
    → IfSome entry (λ x. Changes name (Some (next x)) before now) → IfSome entry (λ x. count x ≤ count (next x))
    → (other : List ℕ) → count_by missing count (before other) ≤ count_by missing count (now other)
none_fell missing count next before now name None was found changes more = cc
none_fell missing count next before now name (Some x) was found changes more =
    grows_at missing count before now name x (next x) was more changes

-- the entry under a name was changed to one with as many faults
pub all_stay : {X : Type 0} (missing : ℕ) (count : X → ℕ) (before now : List ℕ → Option X) (name : List ℕ) (x y : X)
    → before name ≡ Some x → count y ≡ count x → Changes name (Some y) before now
    → (other : List ℕ) → count_by missing count (now other) ≡ count_by missing count (before other)
all_stay missing count before now name x y was same changes other = at (bytes_eq name other) refl where
  at : (test : Bool) → bytes_eq name other ≡ test → count_by missing count (now other) ≡ count_by missing count (before other)
  at true is =
      let here : name ≡ other = (bytes_eq-Decides name other).0 is in
      let old : before other ≡ Some x = sym (ap before here) ∙ was in
      let new : now other ≡ Some y = changes other ∙ rw is refl in
      rw (old, new) same
  at false is = let new : now other ≡ before other = changes other ∙ rw is refl in rw new refl

-- the count under the name rose by one, or all stay
pub counts_end : {X : Type 0} (refused : Bool) (count : X → ℕ) (before now : List ℕ → Option X) (name : List ℕ) (x y : X)
    → before name ≡ Some x → count y ≡ (if refused then counted (count x) else count x) → count x ≤ count y → Changes name (Some y) before now
    → CountsEnd name refused (λ other. count_by 0 count (before other)) (λ other. count_by 0 count (now other))
counts_end true count before now name x y was is more changes =
    let new : now name ≡ Some y = changes name ∙ rw ((bytes_eq-Decides name name).1 refl) refl in
    (rw (was, new) (λ below. omega (arith, is, below)), grows_at 0 count before now name x y was more changes)
counts_end false count before now name x y was is more changes = all_stay 0 count before now name x y was is changes
