-- Places in a stream, where a row is written at its end.
use Rattle.std.proofs.Common.{◌≡◌, ℕ, ◌+◌, ◌≤◌, List, [], ◌∷◌, ◌++◌, length, drop, sym, ap, ◌∙◌, subst, inl, inr, arith, length-append, length-drop, append-nil, append_assoc}
use Rattle.std.specs.List.{concat}
use Rattle.std.proofs.lemmas.Bool.{cases_lt}
use Rattle.std.proofs.lemmas.List.{drop_all}
use Rattle.std.proofs.lemmas.List.Folds.{concat-append}
use Rattle.store_api.specs.Tokens.{PageToken}
use Rattle.store_api.specs.Holdings.{Holdings}
use Rattle.tuple_stream.specs.PageRows.{rows_on, IsOneRow}
use Rattle.tuple_stream.specs.Streamed.{Streamed, bytes_of, all_bytes, rows_by_page, joined}
use Rattle.tuple_stream.specs.Streams.{IsFilled, start_of}
use Rattle.tuple_stream.specs.Places.{KeepsPlaces, rows_from, start_in}
use Rattle.tuple_stream.specs.Ready.{IsReady, with_row}
use Rattle.tuple_stream.proofs.PageLists.{start_behind, start_behind_map, start_behind_if, start_behind_some}
use Rattle.tuple_stream.proofs.Writing.{pages_long, written_rows, start_from, rows_were, joined_now}

module _ {s : Streamed} {h : Holdings} {row : List ℕ} (count : ℕ) (is : IsReady (length row) s h) (one : IsOneRow row) where
  filled_from : (start n : ℕ) → n ≤ length is.before → (n ≡ length is.before → start + length (concat (joined (rows_by_page start (all_bytes s h (drop n s.pages))))) ≡ s.used) → IsFilled (start_from count is one start n) s.used is.buf.bytes
  filled_from start n inside last =
      elim (cases_lt n (length is.before)) [
        | inl less ↦
            let whole : start_of s (length is.before) ≡ 0 = sym (start_behind_if s.spent is.before) ∙ start_behind_some s.spent is.before (omega (arith, less)) in
            let some : start_from count is one start n ≡ 0 = start_behind_map (bytes_of s h) start (drop n is.before) ∙ start_behind_some start (drop n is.before) (omega (arith, less, length-drop n is.before)) in
            subst (λ (m : ℕ). IsFilled m s.used is.buf.bytes) (whole ∙ sym some) is.filled
        | inr more ↦
            let none : drop n is.before ≡ [] = drop_all n is.before more in
            let rows : joined (rows_by_page start (all_bytes s h (drop n s.pages))) ≡ rows_on (drop start is.buf.bytes) =
            ap joined (rows_were count is one start n inside)
            ∙ ap (λ (ps : List PageToken). joined (rows_by_page start (all_bytes s h ps) ++ rows_on (drop (start_behind start (all_bytes s h ps)) is.buf.bytes) ∷ [])) none
            ∙ append-nil (rows_on (drop start is.buf.bytes)) in
            subst (λ (ps : List PageToken). IsFilled (start_behind start (all_bytes s h ps)) s.used is.buf.bytes) (sym none)
            (record {
              rows = ap (λ (rs : List (List ℕ)). start + length (concat rs)) (sym rows) ∙ last (omega (arith, inside, more));
              zeros = is.filled.zeros;
            })
      ]

  pub written_places : KeepsPlaces (row ∷ []) s (with_row row count s) h h
  written_places = λ place there.
      let inside : place.page ≤ length is.before = omega (arith, (pages_long count is one), there.page_is) in
      let filled : IsFilled (start_from count is one (start_in s place) place.page) s.used is.buf.bytes =
      filled_from (start_in s place) place.page inside (λ same. there.last (omega (arith, same, (pages_long count is one)))) in
      let from : rows_from place (with_row row count s) h ≡ rows_from place s h ++ row ∷ [] = joined_now count is one (start_in s place) place.page inside filled in
      let more : length (concat (rows_from place (with_row row count s) h)) ≡ length (concat (rows_from place s h)) + length row =
      ap (λ (rs : List (List ℕ)). length (concat rs)) from
      ∙ ap length (concat-append (rows_from place s h) (row ∷ []) ∙ ap (λ (xs : List ℕ). concat (rows_from place s h) ++ xs) (append-nil row))
      ∙ length-append (concat (rows_from place s h)) row in (
        record {
          before = there.before;
          behind = there.behind;
          rows =
              (written_rows count is one) ∙ ap (λ (rs : List (List ℕ)). rs ++ row ∷ []) there.rows ∙ append_assoc there.before (rows_from place s h) (row ∷ [])
              ∙ ap (λ (rs : List (List ℕ)). there.before ++ rs) (sym from);
          page_is = there.page_is;
          first = there.first;
          last = λ ends. omega (arith, more, there.last ends);
        },
        from,
      )
