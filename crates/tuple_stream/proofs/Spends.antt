-- The first row of a stream goes, and with the last row of its page the page. The first page is pinned.
use Rattle.std.proofs.Common.{◌≡◌, ◌≢◌, ℕ, zero, suc, ◌+◌, ◌<◌, ◌==◌, List, [], ◌∷◌, ◌++◌, length, take, drop, map, Some, None, Option, option_map, refl, ap, sym, ◌∙◌, subst, inl, inr, arith, if◌then◌else◌, length-append, eq-eqb, ne_eqb}
use Rattle.std.specs.List.{All, concat, slice_get}
use Rattle.std.proofs.lemmas.Bool.{cases_eq}
use Rattle.std.proofs.lemmas.Option.{none-some, same_Some}
use Rattle.std.proofs.lemmas.List.{length-take-le}
use Rattle.std.proofs.lemmas.List.Elements.{All-cons, All-tail}
use Rattle.store_api.specs.Tokens.{PageToken}
use Rattle.store_api.specs.Holdings.{LivePage, Holdings, page_of}
use Rattle.store_api.specs.Changes.{after_destroy}
use Rattle.tuple_stream.specs.PageRows.{row_len, rows_on}
use Rattle.tuple_stream.specs.Streamed.{OpenPage, Streamed, len_in, open_bytes, bytes_of, all_bytes, rows_by_page, page_rows, rows_of, joined}
use Rattle.tuple_stream.specs.Streams.{IsOpenAt, IsShaped, HasRows, IsFilled, IsPacked}
use Rattle.tuple_stream.specs.Ending.{HasPages, behind_first, used_in}
use Rattle.tuple_stream.proofs.Chosen.{at_place, all_placed, map_agrees}
use Rattle.tuple_stream.proofs.Turned.{resting_bytes}
use Rattle.tuple_stream.proofs.RowBytes.{row_inside}
use Rattle.tuple_stream.proofs.RowLists.{none_on}
use Rattle.tuple_stream.proofs.RowsOn.{row_at}
use Rattle.tuple_stream.proofs.OpenPages.{open_there, from_zero}
use Rattle.tuple_stream.proofs.Endings.{has_pages, first_gone, same_page_of}

packed_behind : (len : ℕ) (rows : List (List ℕ)) (pages : List (List (List ℕ))) → IsPacked len (rows ∷ pages) → IsPacked len pages
packed_behind len rows [] packed = tt
packed_behind len rows (next ∷ pages) packed = packed.1

-- the pages of which nothing is spent, once a part of the first one is
packed_spent : (len spent : ℕ) (rows : List (List ℕ)) (pages : List (List (List ℕ))) → IsPacked len (if spent == 0 then rows ∷ pages else pages) → IsPacked len pages
packed_spent len spent rows pages packed =
    elim (cases_eq spent 0) [
      | inl none ↦ packed_behind len rows pages (rw (eq-eqb spent 0 none) at packed)
      | inr some ↦ rw (ne_eqb spent 0 some) at packed
    ]

pub none_behind_first : (o : Option OpenPage) → option_map (λ page. page.place) o ≡ Some 0 → behind_first o ≡ None
none_behind_first None opened = absurd (none-some 0 opened)
none_behind_first (Some page) opened = rw (eq-eqb page.place 0 (same_Some page.place 0 opened)) refl

used_still : (pages : List PageToken) (i : ℕ) (p : PageToken) (used : ℕ) → slice_get pages i ≡ Some p → used_in pages used ≡ used
used_still [] i p used at = absurd (none-some p at)
used_still (q ∷ pages) i p used at = refl

start_at_zero : (i : ℕ) → if◌then◌else◌ {A = ℕ} (i == 0) 0 0 ≡ 0
start_at_zero i =
    elim (cases_eq i 0) [
      | inl e ↦ rw (eq-eqb i 0 e) refl
      | inr ne ↦ rw (ne_eqb i 0 ne) refl
    ]

-- a row of `n` bytes stands where the first page is spent up to, and there are so many (`count`) more
module _ (t : ℕ) (s : Streamed) (h : Holdings) (p : PageToken) (rest : List PageToken) (is : IsShaped t (record s { pages = p ∷ rest }) h) (opened : IsOpenAt 0 s) (n count : ℕ) (len : n ≡ row_len (drop s.spent (open_bytes s.pinned))) (some : n ≢ 0) (rows : List (List ℕ)) (has : HasRows rows (record s { pages = p ∷ rest }) h) (counted : s.count ≡ count + 1) where
  abbrev pub row : List ℕ
  row = take n (drop s.spent (open_bytes s.pinned))

  bytes_are : bytes_of s h p ≡ open_bytes s.pinned
  bytes_are = open_there s h p 0 (is.pins 0 p refl) opened

  -- the row, and those behind it in its page
  split : rows_on (drop s.spent (bytes_of s h p)) ≡ row ∷ rows_on (drop (s.spent + n) (bytes_of s h p))
  split =
      ap (λ (bytes : List ℕ). rows_on (drop s.spent bytes)) bytes_are
      ∙ row_at s.spent (open_bytes s.pinned) (λ none. some (len ∙ none))
      ∙ ap (λ (m : ℕ). take m (drop s.spent (open_bytes s.pinned)) ∷ rows_on (drop (s.spent + m) (open_bytes s.pinned))) (sym len)
      ∙ ap (λ (bytes : List ℕ). row ∷ rows_on (drop (s.spent + n) bytes)) (sym bytes_are)

  -- those behind it in all pages
  abbrev pub behind : List (List ℕ)
  behind = rows_on (drop (s.spent + n) (bytes_of s h p)) ++ joined (map rows_on (all_bytes s h rest))

  rows_are : rows ≡ row ∷ behind
  rows_are = sym has.are ∙ ap (λ (first : List (List ℕ)). first ++ joined (map rows_on (all_bytes s h rest))) split

  behind_is : behind ≡ drop 1 rows
  behind_is = sym (ap (drop 1) rows_are)

  pub first_row : rows ≡ row ∷ drop 1 rows
  first_row = rows_are ∙ ap (λ (more : List (List ℕ)). row ∷ more) behind_is

  behind_count : count ≡ length (drop 1 rows)
  behind_count = let all = has.counted in let first = ap length first_row in omega (arith, counted, all, first)

  filled_first : (q : PageToken) → p ≡ q → 1 ≡ length (p ∷ rest) → IsFilled (s.spent + n) s.used (bytes_of s h q)
  filled_first q same last =
      let was : IsFilled s.spent s.used (bytes_of s h p) = has.filled 0 p refl last in
      let within = row_inside (drop s.spent (open_bytes s.pinned)) (omega (arith, len, some)) in
      let long : length row ≡ n = length-take-le n (drop s.spent (open_bytes s.pinned)) (omega (arith, len, within)) in
      let parts : length (concat (rows_on (drop s.spent (bytes_of s h p)))) ≡ length row + length (concat (rows_on (drop (s.spent + n) (bytes_of s h p)))) =
      ap (λ (rs : List (List ℕ)). length (concat rs)) split ∙ length-append row (concat (rows_on (drop (s.spent + n) (bytes_of s h p)))) in
      let all = was.rows in
      subst (λ (r : PageToken). IsFilled (s.spent + n) s.used (bytes_of s h r)) same
      (record { rows = omega (arith, all, parts, long); zeros = was.zeros })

  filled_later : (place : ℕ) (q : PageToken) → slice_get rest place ≡ Some q → suc place + 1 ≡ suc (length rest) → IsFilled 0 s.used (bytes_of s h q)
  filled_later place q at last =
      subst (λ (start : ℕ). IsFilled start s.used (bytes_of s h q)) (rw (ne_eqb (suc place) 0 (omega arith)) refl) (has.filled (suc place) q at last)

  filled_spent : (place : ℕ) (q : PageToken) → slice_get (p ∷ rest) place ≡ Some q → place + 1 ≡ length (p ∷ rest) → IsFilled (if place == 0 then s.spent + n else 0) s.used (bytes_of s h q)
  filled_spent zero q at last = filled_first q (same_Some p q at) last
  filled_spent (suc place) q at last =
      subst (λ (start : ℕ). IsFilled start s.used (bytes_of s h q)) (sym (rw (ne_eqb (suc place) 0 (omega arith)) refl)) (filled_later place q at last)

  packed_rest : IsPacked (len_in s h) (map rows_on (all_bytes s h rest))
  packed_rest = packed_spent (len_in s h) s.spent (rows_on (drop s.spent (bytes_of s h p))) (map rows_on (all_bytes s h rest)) has.packed

  each_rest : All (λ rs. 0 < length rs) (map rows_on (all_bytes s h rest))
  each_rest = All-tail (λ rs. 0 < length rs) (rows_on (drop s.spent (bytes_of s h p))) (map rows_on (all_bytes s h rest)) has.each

  -- where the page has another row
  pub spent_has : row_len (drop (s.spent + n) (open_bytes s.pinned)) ≢ 0 → HasRows (drop 1 rows) (record s { pages = p ∷ rest; spent = s.spent + n; count = count }) h
  spent_has another =
      let next : rows_on (drop (s.spent + n) (bytes_of s h p)) ≡ take (row_len (drop (s.spent + n) (open_bytes s.pinned))) (drop (s.spent + n) (open_bytes s.pinned)) ∷ rows_on (drop (s.spent + n + row_len (drop (s.spent + n) (open_bytes s.pinned))) (open_bytes s.pinned)) =
      ap (λ (bytes : List ℕ). rows_on (drop (s.spent + n) bytes)) bytes_are ∙ row_at (s.spent + n) (open_bytes s.pinned) another in
      record {
        are = behind_is;
        counted = behind_count;
        filled = filled_spent;
        each = All-cons (λ rs. 0 < length rs) (rows_on (drop (s.spent + n) (bytes_of s h p))) (map rows_on (all_bytes s h rest)) (omega (arith, ap length next)) each_rest;
        packed = rw (ne_eqb (s.spent + n) 0 (omega (arith, some))) packed_rest;
      }

  -- where it has none, and ends
  module _ (last_row : row_len (drop (s.spent + n) (open_bytes s.pinned)) ≡ 0) where
    abbrev pub ended : Streamed
    ended = record s { pages = rest; pinned = None; spent = 0; used = used_in rest s.used; count = count }

    rest_has : HasPages t (record s { pages = rest; pinned = None }) (after_destroy p.name h)
    rest_has =
        subst (λ (o : Option OpenPage). HasPages t (record s { pages = rest; pinned = o }) (after_destroy p.name h)) (none_behind_first s.pinned opened)
        (first_gone t s h p rest (has_pages t (record s { pages = p ∷ rest }) h is))

    rest_bytes : (place : ℕ) (q : PageToken) → slice_get rest place ≡ Some q → bytes_of ended (after_destroy p.name h) q ≡ bytes_of s h q
    rest_bytes place q at =
        let apart : q.name ≢ p.name = at_place (λ r. r.name ≢ p.name) rest place q is.apart.0 at in
        let page : page_of q.name (after_destroy p.name h) ≡ page_of q.name h = same_page_of t s h p rest (has_pages t (record s { pages = p ∷ rest }) h is) q apart in
        let rests : (page_of q.name (after_destroy p.name h)).pins ≡ 0 = rest_has.pins place q at in
        resting_bytes ended (after_destroy p.name h) q rests
        ∙ ap (λ (r : LivePage). r.left) page
        ∙ sym (resting_bytes s h q (sym (ap (λ (r : LivePage). r.pins) page) ∙ rests))

    rest_same : all_bytes ended (after_destroy p.name h) rest ≡ all_bytes s h rest
    rest_same = map_agrees (bytes_of ended (after_destroy p.name h)) (bytes_of s h) rest (all_placed (λ q. bytes_of ended (after_destroy p.name h) q ≡ bytes_of s h q) rest rest_bytes)

    rest_rows : page_rows ended (after_destroy p.name h) ≡ map rows_on (all_bytes s h rest)
    rest_rows = ap (rows_by_page 0) rest_same ∙ from_zero (all_bytes s h rest)

    ended_rows : rows_of ended (after_destroy p.name h) ≡ drop 1 rows
    ended_rows =
        let none : rows_on (drop (s.spent + n) (bytes_of s h p)) ≡ [] = ap (λ (bytes : List ℕ). rows_on (drop (s.spent + n) bytes)) bytes_are ∙ none_on (drop (s.spent + n) (open_bytes s.pinned)) last_row in
        ap joined rest_rows
        ∙ sym (ap (λ (rs : List (List ℕ)). rs ++ joined (map rows_on (all_bytes s h rest))) none)
        ∙ behind_is

    filled_rest : (place : ℕ) (q : PageToken) → slice_get rest place ≡ Some q → place + 1 ≡ length rest → IsFilled (if place == 0 then 0 else 0) (used_in rest s.used) (bytes_of ended (after_destroy p.name h) q)
    filled_rest place q at last =
        let was : IsFilled 0 s.used (bytes_of s h q) = filled_later place q at (omega (arith, last)) in
        subst (λ (bytes : List ℕ). IsFilled (if place == 0 then 0 else 0) (used_in rest s.used) bytes) (sym (rest_bytes place q at))
        (subst (λ (used : ℕ). IsFilled (if place == 0 then 0 else 0) used (bytes_of s h q)) (sym (used_still rest place q s.used at))
        (subst (λ (start : ℕ). IsFilled start s.used (bytes_of s h q)) (sym (start_at_zero place)) was))

    pub ended_has : HasRows (drop 1 rows) (record s { pages = rest; pinned = None; spent = 0; used = used_in rest s.used; count = count }) (after_destroy p.name h)
    ended_has =
        record {
          are = ended_rows;
          counted = behind_count;
          filled = filled_rest;
          each = subst (All (λ (rs : List (List ℕ)). 0 < length rs)) (sym rest_rows) each_rest;
          packed = subst (IsPacked (len_in s h)) (sym rest_rows) packed_rest;
        }
