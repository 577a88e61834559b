-- Nothing was appended.
use Rattle.std.proofs.Common.{◌≡◌, ◌∙◌, ℕ, List, [], ◌++◌, refl, ap, sym, inl, inr, append-nil, ne_eqb, eq-eqb}
use Rattle.std.proofs.lemmas.Bool.{cases_eq}
use Rattle.tuple_stream.specs.Families.{AreShaped, Family}
use Rattle.tuple_stream.specs.FamilyCalls.{AllAtEnd, Feeds, with_rows}
use Rattle.tuple_stream.proofs.FamilyChains.{lays_none}
use Rattle.tuple_stream.proofs.FamilyWords.{shown_as}

same_rows : (i : ℕ) (rows : ℕ → List (List ℕ)) (j : ℕ) → rows j ≡ with_rows i (rows i ++ []) rows j
same_rows i rows j =
    elim (cases_eq j i) [
      | inl same ↦ rw (eq-eqb j i same) (ap rows same ∙ sym (append-nil (rows i)))
      | inr apart ↦ rw (ne_eqb j i apart) refl
    ]

pub feeds_nothing : (t i : ℕ) (f : Family) → AreShaped t f → Feeds t i [] f f
feeds_nothing t i f shaped =
    record {
      steps = lays_none (AllAtEnd f) ⊥ t f shaped;
      whole = λ whole. whole;
      rows = λ rows sure shows. shown_as rows (with_rows i (rows i ++ []) rows) f (same_rows i rows) shows;
    }
