-- Rows from a place on, page by page.
use Rattle.std.proofs.Common.{◌≡◌, ◌≢◌, ℕ, zero, suc, ◌+◌, ◌<◌, List, [], ◌∷◌, ◌++◌, length, take, drop, map, Some, refl, ap, ap₂, sym, ◌∙◌, subst, inl, inr, arith, append_assoc, append-nil, length-append, eq-eqb, ne_eqb, add-one}
use Rattle.std.specs.List.{All, concat, slice_get}
use Rattle.std.proofs.lemmas.Bool.{cases_eq}
use Rattle.std.proofs.lemmas.Option.{none-some, same_Some}
use Rattle.std.proofs.lemmas.List.{drop_all, length-take-le}
use Rattle.std.proofs.lemmas.List.Elements.{All-head, All-tail}
use Rattle.store_api.specs.Tokens.{PageToken}
use Rattle.store_api.specs.Holdings.{Holdings}
use Rattle.tuple_stream.specs.PageRows.{row_len, rows_on}
use Rattle.tuple_stream.specs.Streamed.{Streamed, open_bytes, bytes_of, all_bytes, rows_by_page, joined}
use Rattle.tuple_stream.specs.Streams.{HasRows, start_of}
use Rattle.tuple_stream.specs.Places.{Place, IsPlace, first, rows_from, start_in}
use Rattle.tuple_stream.specs.Reading.{behind_row, next_page}
use Rattle.tuple_stream.proofs.RowBytes.{row_inside}
use Rattle.tuple_stream.proofs.RowLists.{none_on}
use Rattle.tuple_stream.proofs.RowsOn.{row_at}
use Rattle.tuple_stream.proofs.OpenPages.{there, from_there, from_zero, IsAt}

-- the rows from a place on are those in its page, and those of the pages behind
pub from_page : (s : Streamed) (h : Holdings) (place : Place) (p : PageToken) → slice_get s.pages place.page ≡ Some p → rows_from place s h ≡ rows_on (drop (start_in s place) (bytes_of s h p)) ++ joined (map rows_on (all_bytes s h (drop (suc place.page) s.pages)))
from_page s h place p at = ap (λ (pages : List PageToken). joined (rows_by_page (start_in s place) (all_bytes s h pages))) (from_there s.pages place.page p at)

start_behind : (s : Streamed) (place : Place) (n : ℕ) → start_in s (behind_row place (start_in s place + n)) ≡ start_in s place + n
start_behind s place n =
    elim (cases_eq place.page 0) [
      | inl first ↦ rw (eq-eqb place.page 0 first) (omega arith)
      | inr later ↦ rw (ne_eqb place.page 0 later) refl
    ]

next_start : (s : Streamed) (place : Place) → start_in s (next_page place) ≡ 0
next_start s place = rw (ne_eqb (place.page + 1) 0 (omega arith)) refl

later_start : (s : Streamed) (place : Place) → start_of s (place.page + 1) ≡ 0
later_start s place = rw (ne_eqb (place.page + 1) 0 (omega arith)) refl

-- what holds of the rows of all pages holds of one
module _ (P : List (List ℕ) → Type 0) (s : Streamed) (h : Holdings) where
  each_mapped : (pages : List PageToken) (i : ℕ) (p : PageToken) → slice_get pages i ≡ Some p → All P (map rows_on (all_bytes s h pages)) → P (rows_on (bytes_of s h p))
  each_mapped [] i p at all = absurd (none-some p at)
  each_mapped (q ∷ pages) zero p at all = subst (λ (r : PageToken). P (rows_on (bytes_of s h r))) (same_Some q p at) (All-head P (rows_on (bytes_of s h q)) (map rows_on (all_bytes s h pages)) all)
  each_mapped (q ∷ pages) (suc i) p at all = each_mapped pages i p at (All-tail P (rows_on (bytes_of s h q)) (map rows_on (all_bytes s h pages)) all)

-- behind the last page there is none
last_rows : (s : Streamed) (h : Holdings) (place : Place) (p : PageToken) → slice_get s.pages place.page ≡ Some p → place.page + 1 ≡ length s.pages → rows_from place s h ≡ rows_on (drop (start_in s place) (bytes_of s h p))
last_rows s h place p at last =
    from_page s h place p at
    ∙ ap (λ (pages : List PageToken). rows_on (drop (start_in s place) (bytes_of s h p)) ++ joined (map rows_on (all_bytes s h pages))) (drop_all (suc place.page) s.pages (omega arith))
    ∙ append-nil (rows_on (drop (start_in s place) (bytes_of s h p)))

module _ (s : Streamed) (h : Holdings) (rows : List (List ℕ)) (has : HasRows rows s h) (place : Place) (p : PageToken) (here : IsAt s h place.page p) where
  in_page : (at : Place) → at.page ≡ place.page → rows_from at s h ≡ rows_on (drop (start_in s at) (open_bytes s.pinned)) ++ joined (map rows_on (all_bytes s h (drop (suc place.page) s.pages)))
  in_page at same =
      from_page s h at p (ap (slice_get s.pages) same ∙ here.at)
      ∙ ap₂ (λ (bytes : List ℕ) (page : ℕ). rows_on (drop (start_in s at) bytes) ++ joined (map rows_on (all_bytes s h (drop (suc page) s.pages)))) here.bytes same

  behind_is : (n : ℕ) → n ≡ row_len (drop (start_in s place) (open_bytes s.pinned)) → n ≢ 0 → rows_from place s h ≡ take n (drop (start_in s place) (open_bytes s.pinned)) ∷ rows_from (behind_row place (start_in s place + n)) s h
  behind_is n len some =
      let start = start_in s place in
      let bytes = open_bytes s.pinned in
      let rest = joined (map rows_on (all_bytes s h (drop (suc place.page) s.pages))) in
      in_page place refl
      ∙ ap (λ (rows : List (List ℕ)). rows ++ rest) (row_at start bytes (λ none. some (len ∙ none)))
      ∙ ap (λ (m : ℕ). take m (drop start bytes) ∷ (rows_on (drop (start + m) bytes) ++ rest)) (sym len)
      ∙ ap (λ (k : ℕ). take n (drop start bytes) ∷ (rows_on (drop k bytes) ++ rest)) (sym (start_behind s place n))
      ∙ ap (λ (rows : List (List ℕ)). take n (drop start bytes) ∷ rows) (sym (in_page (behind_row place (start + n)) refl))

  no_more : row_len (drop (start_in s place) (open_bytes s.pinned)) ≡ 0 → rows_from place s h ≡ joined (map rows_on (all_bytes s h (drop (suc place.page) s.pages)))
  no_more none =
      in_page place refl
      ∙ ap (λ (rows : List (List ℕ)). rows ++ joined (map rows_on (all_bytes s h (drop (suc place.page) s.pages)))) (none_on (drop (start_in s place) (open_bytes s.pinned)) none)

  next_rows : joined (map rows_on (all_bytes s h (drop (suc place.page) s.pages))) ≡ rows_from (next_page place) s h
  next_rows =
      ap joined (sym (from_zero (all_bytes s h (drop (suc place.page) s.pages))))
      ∙ ap₂ (λ (start page : ℕ). joined (rows_by_page start (all_bytes s h (drop page s.pages)))) (sym (next_start s place)) (sym (add-one place.page))

  next_ends : place.page + 1 < length s.pages → place.page + 1 + 1 ≡ length s.pages → start_in s (next_page place) + length (concat (rows_from (next_page place) s h)) ≡ s.used
  next_ends below last =
      let page = there s.pages (place.page + 1) below in
      let bytes = bytes_of s h page.0 in
      let filled = has.filled (place.page + 1) page.0 page.1 last in
      let one_start : start_in s (next_page place) ≡ start_of s (place.page + 1) = next_start s place ∙ sym (later_start s place) in
      ap (λ (rows : List (List ℕ)). start_in s (next_page place) + length (concat rows)) (last_rows s h (next_page place) page.0 page.1 last)
      ∙ ap (λ (start : ℕ). start + length (concat (rows_on (drop start bytes)))) one_start
      ∙ filled.rows

  pub stands_next : row_len (drop (start_in s place) (open_bytes s.pinned)) ≡ 0 → place.page + 1 < length s.pages → IsPlace place s h → IsPlace (next_page place) s h
  stands_next none below stands =
      record {
        before = stands.before;
        behind = stands.behind;
        rows = stands.rows ∙ ap (λ (rows : List (List ℕ)). stands.before ++ rows) (no_more none ∙ next_rows);
        page_is = omega arith;
        first = λ empty. refl;
        last = next_ends below;
      }

  stands_behind : (n : ℕ) → n ≡ row_len (drop (start_in s place) (open_bytes s.pinned)) → n ≢ 0 → IsPlace place s h → IsPlace (behind_row place (start_in s place + n)) s h
  stands_behind n len some stands =
      let row = take n (drop (start_in s place) (open_bytes s.pinned)) in
      let behind : Place = behind_row place (start_in s place + n) in
      let is_there = behind_is n len some in
      let within = row_inside (drop (start_in s place) (open_bytes s.pinned)) (omega (arith, len, some)) in
      let long : length row ≡ n = length-take-le n (drop (start_in s place) (open_bytes s.pinned)) (omega arith) in
      record {
        before = stands.before ++ (row ∷ []);
        behind = let long : length (stands.before ++ (row ∷ [])) ≡ length stands.before + 1 = length-append stands.before (row ∷ []) in omega (arith, long, stands.behind);
        rows = stands.rows ∙ ap (λ (rows : List (List ℕ)). stands.before ++ rows) is_there ∙ sym (append_assoc stands.before (row ∷ []) (rows_from behind s h));
        page_is = stands.page_is;
        first = λ empty. let inside = here.inside in absurd (omega (arith, ap length empty));
        last = λ last.
            let was : start_in s place + length (concat (rows_from place s h)) ≡ s.used = stands.last last in
            let split : length (concat (rows_from place s h)) ≡ length row + length (concat (rows_from behind s h)) = ap (λ (rows : List (List ℕ)). length (concat rows)) is_there ∙ length-append row (concat (rows_from behind s h)) in
            let start = start_behind s place n in
            omega (arith, was, split, start, long);
      }

  pub row_there : (n byte : ℕ) (row : List ℕ) → n ≡ row_len (drop (start_in s place) (open_bytes s.pinned)) → n ≢ 0 → row ≡ take n (drop (start_in s place) (open_bytes s.pinned)) → byte ≡ start_in s place + n
      → (rows_from place s h ≡ row ∷ rows_from (behind_row place byte) s h) × (IsPlace place s h → IsPlace (behind_row place byte) s h)
  row_there n byte row len some is_row at =
      let same : behind_row place byte ≡ behind_row place (start_in s place + n) = ap (behind_row place) at in (
        behind_is n len some ∙ ap₂ (λ (first : List ℕ) (q : Place). first ∷ rows_from q s h) (sym is_row) (sym same),
        λ stands. subst (λ (q : Place). IsPlace q s h) (sym same) (stands_behind n len some stands),
      )

start_first : (s : Streamed) → start_in s first ≡ s.spent
start_first s = omega arith

-- the start is a place of every stream
pub first_stands : (s : Streamed) (h : Holdings) (rows : List (List ℕ)) → HasRows rows s h → IsPlace first s h
first_stands s h rows has =
    record {
      before = [];
      behind = refl;
      rows = ap (λ (start : ℕ). joined (rows_by_page start (all_bytes s h s.pages))) (sym (start_first s));
      page_is = omega arith;
      first = λ empty. refl;
      last = λ last.
          let page : (p : PageToken) × (slice_get s.pages 0 ≡ Some p) = there s.pages 0 (omega (arith, last)) in
          let filled = has.filled 0 page.0 page.1 last in
          ap (λ (rows : List (List ℕ)). start_in s first + length (concat rows)) (last_rows s h first page.0 page.1 last)
          ∙ ap (λ (start : ℕ). start + length (concat (rows_on (drop start (bytes_of s h page.0))))) (start_first s)
          ∙ filled.rows;
    }
