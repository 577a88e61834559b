-- One more row goes to its partition.
use Rattle.std.proofs.Common.{◌≡◌, ◌∙◌, ℕ, ◌==◌, List, [], ◌∷◌, ◌++◌, Bool, true, false, cond, if◌then◌else◌, refl, ap, sym, inl, inr, append-nil, append_assoc, ne_eqb, eq-eqb}
use Rattle.std.proofs.lemmas.Bool.{cases_eq}
use Rattle.std.proofs.lemmas.List.Elements.{filter-append}
use Rattle.store_api.specs.declared.shapes.Shape.{Shape}
use Rattle.tuple_stream.specs.FamilyCalls.{with_rows}
pub use Rattle.partition_stack.proofs.Nothing.{feeds_nothing}
use Rattle.group_op.specs.Stored.{dealt, place_of}

cond_is : {X : Type 0} (b : Bool) (x y : X) → cond b x y ≡ (if b then x else y)
cond_is true x y = refl
cond_is false x y = refl

module _ (shape : Shape) (level base : ℕ) where
  one_dealt : (i : ℕ) (row : List ℕ) → dealt shape level base (row ∷ []) i ≡ (if place_of shape level base row == i then row ∷ [] else [])
  one_dealt i row = cond_is (place_of shape level base row == i) (row ∷ []) []

  pub dealt_more : (fed : List (List ℕ)) (row : List ℕ) (rows : ℕ → List (List ℕ)) (j : ℕ) → with_rows (place_of shape level base row) ((rows (place_of shape level base row) ++ dealt shape level base fed (place_of shape level base row)) ++ row ∷ []) (λ k. rows k ++ dealt shape level base fed k) j ≡ rows j ++ dealt shape level base (fed ++ row ∷ []) j
  dealt_more fed row rows j =
      let i : ℕ = place_of shape level base row in
      let all : dealt shape level base (fed ++ row ∷ []) j ≡ dealt shape level base fed j ++ dealt shape level base (row ∷ []) j = filter-append (λ (r : List ℕ). place_of shape level base r == j) fed (row ∷ []) in
      elim (cases_eq j i) [
        | inl same ↦
            let one : dealt shape level base (row ∷ []) j ≡ row ∷ [] = one_dealt j row ∙ rw (eq-eqb i j (sym same)) refl in
            rw (eq-eqb j i same) (ap (λ (k : ℕ). (rows k ++ dealt shape level base fed k) ++ row ∷ []) (sym same) ∙ append_assoc (rows j) (dealt shape level base fed j) (row ∷ []) ∙ ap (λ (rs : List (List ℕ)). rows j ++ (dealt shape level base fed j ++ rs)) (sym one) ∙ ap (λ (rs : List (List ℕ)). rows j ++ rs) (sym all))
        | inr apart ↦
            let none : dealt shape level base (row ∷ []) j ≡ [] = one_dealt j row ∙ rw (ne_eqb i j (λ same. apart (sym same))) refl in
            rw (ne_eqb j i apart) (ap (λ (rs : List (List ℕ)). rows j ++ rs) (sym (append-nil (dealt shape level base fed j)) ∙ ap (λ (rs : List (List ℕ)). dealt shape level base fed j ++ rs) (sym none) ∙ sym all))
      ]
