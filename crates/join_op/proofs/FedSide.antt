-- What a side keeps once it got a row.
use Rattle.std.proofs.Common.{◌≡◌, ◌∙◌, ℕ, ◌+◌, ◌<◌, List, [], ◌∷◌, ◌++◌, refl, ap, sym, subst, inl, inr, arith, ne_eqb, eq-eqb}
use Rattle.std.specs.Prelude.{All}
use Rattle.std.specs.List.{sum_by}
use Rattle.std.proofs.lemmas.Bool.{cases_eq}
use Rattle.std.proofs.lemmas.List.Elements.{All-push}
use Rattle.std.proofs.lemmas.List.Sums.{sum_by_push}
use Rattle.row_codec.specs.declared.values.Value.{Value}
use Rattle.row_codec.specs.Row.{kinds_of}
use Rattle.row_codec.specs.RowBytes.{row_bytes}
use Rattle.row_codec.specs.RowLaws.{IsRow}
use Rattle.tuple_stream.specs.Families.{Family}
use Rattle.tuple_stream.specs.FamilyCalls.{AreSure, Feeds, shares, with_rows}
use Rattle.row_reading.specs.Reading.{IsRowOf, values_at}
use Rattle.join_op.specs.Operator.{KeepsSide}
use Rattle.join_op.specs.Stored.{Side, place_of, rows_in}
use Rattle.join_op.proofs.OneRow.{row_back, spelled_row}
use Rattle.join_op.proofs.Shares.{one_more}
use Rattle.join_op.proofs.Sums.{sum_map}

-- what is so of all rows, and of the one more, is so of all then
all_with : (P : List ℕ → Type 0) (k : ℕ) (rows : ℕ → List (List ℕ)) (row : List ℕ) → ((i : ℕ) → All P (rows i)) → P row → (i : ℕ) → All P (with_rows k (rows k ++ row ∷ []) rows i)
all_with P k rows row all one i =
    elim (cases_eq i k) [
      | inl same ↦ subst (All P) (sym (rw (eq-eqb i k same) refl)) (All-push P (rows k) row (all k) one)
      | inr apart ↦ subst (All P) (sym (rw (ne_eqb i k apart) refl)) (all i)
    ]

at_with : (place : List ℕ → ℕ) (k : ℕ) (rows : ℕ → List (List ℕ)) (row : List ℕ) → ((i : ℕ) → All (λ r. place r ≡ i) (rows i)) → place row ≡ k → (i : ℕ) → All (λ r. place r ≡ i) (with_rows k (rows k ++ row ∷ []) rows i)
at_with place k rows row all one i =
    elim (cases_eq i k) [
      | inl same ↦ subst (All (λ r. place r ≡ i)) (sym (rw (eq-eqb i k same) refl)) (All-push (λ r. place r ≡ i) (rows k) row (subst (λ (j : ℕ). All (λ r. place r ≡ j) (rows k)) (sym same) (all k)) (one ∙ sym same))
      | inr apart ↦ subst (All (λ r. place r ≡ i)) (sym (rw (ne_eqb i k apart) refl)) (all i)
    ]

module _ (side : Side) (t : ℕ) (row : List Value) (f g : Family) where
  pub side_fed : (fed : List (List Value)) (k : ℕ) → KeepsSide side fed f → AreSure f → Feeds t k (row_bytes row ∷ []) f g → place_of side 0 0 (row_bytes row) ≡ k → k < 16 → IsRow row → kinds_of row ≡ side.kinds → KeepsSide side (fed ++ row ∷ []) g
  side_fed fed k keeps sure feeds place inside is kinds =
      record {
        rows = with_rows k (keeps.rows k ++ row_bytes row ∷ []) keeps.rows;
        shows = feeds.rows keeps.rows sure keeps.shows;
        formed = all_with (IsRowOf side.kinds) k keeps.rows (row_bytes row) keeps.formed (spelled_row side.kinds row is kinds);
        placed = at_with (place_of side 0 0) k keeps.rows (row_bytes row) keeps.placed place;
        same = λ count.
            let all : sum_by count (rows_in side (shares 16 (with_rows k (keeps.rows k ++ row_bytes row ∷ []) keeps.rows))) ≡ sum_by (λ bytes. count (values_at side.kinds bytes)) (shares 16 (with_rows k (keeps.rows k ++ row_bytes row ∷ []) keeps.rows)) = sum_map count (values_at side.kinds) (shares 16 (with_rows k (keeps.rows k ++ row_bytes row ∷ []) keeps.rows)) in
            let more : sum_by (λ bytes. count (values_at side.kinds bytes)) (shares 16 (with_rows k (keeps.rows k ++ row_bytes row ∷ []) keeps.rows)) ≡ sum_by (λ bytes. count (values_at side.kinds bytes)) (shares 16 keeps.rows) + count (values_at side.kinds (row_bytes row)) = one_more (λ bytes. count (values_at side.kinds bytes)) 16 k keeps.rows (row_bytes row) inside in
            let was : sum_by count (rows_in side (shares 16 keeps.rows)) ≡ sum_by (λ bytes. count (values_at side.kinds bytes)) (shares 16 keeps.rows) = sum_map count (values_at side.kinds) (shares 16 keeps.rows) in
            let same : sum_by count (rows_in side (shares 16 keeps.rows)) ≡ sum_by count fed = keeps.same count in
            let back : count (values_at side.kinds (row_bytes row)) ≡ count row = ap count (row_back side.kinds row is kinds) in
            let now : sum_by count (fed ++ row ∷ []) ≡ sum_by count fed + count row = sum_by_push count fed row in
            omega (arith, all, more, was, same, back, now);
        whole = feeds.whole keeps.whole;
      }
