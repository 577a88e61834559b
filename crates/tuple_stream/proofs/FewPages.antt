-- A stream has few pages for its rows.
use Rattle.std.proofs.Common.{◌≡◌, ℕ, ◌+◌, ◌*◌, ◌<◌, ◌≤◌, ◌==◌, Bool, true, false, List, [], ◌∷◌, length, drop, if◌then◌else◌, ap, ◌∙◌, subst, arith, length-append}
use Rattle.std.specs.Prelude.{All}
use Rattle.std.specs.List.{concat}
use Rattle.std.proofs.lemmas.List.{length-map}
use Rattle.std.proofs.lemmas.List.Elements.{All-head, All-tail}
use Rattle.std.proofs.lemmas.List.Folds.{concat-append}
use Rattle.tuple_stream.specs.Streamed.{len_in, bytes_of, all_bytes, page_rows, joined}
use Rattle.tuple_stream.specs.Streams.{IsPacked}
use Rattle.tuple_stream.specs.Bounds.{AllFew}
use Rattle.tuple_stream.proofs.PageLists.{rows_count}

-- the bytes of the rows of all these pages
abbrev total : List (List (List ℕ)) → ℕ
total pages = length (concat (joined pages))

total_cons : (page : List (List ℕ)) (pages : List (List (List ℕ))) → total (page ∷ pages) ≡ length (concat page) + total pages
total_cons page pages = ap length (concat-append page (joined pages)) ∙ length-append (concat page) (concat (joined pages))

-- each two neighbours have more bytes than a page
packed_behind : (len : ℕ) (first : List (List ℕ)) (pages : List (List (List ℕ))) → IsPacked len (first ∷ pages) → length pages * len ≤ 2 * total pages + length (concat first)
packed_behind len first [] packed = omega arith
packed_behind len first (page ∷ pages) packed =
    let rest : length pages * len ≤ 2 * total pages + length (concat page) = packed_behind len page pages packed.1 in
    let two : len < length (concat first) + length (concat page) = packed.0 in
    let all : total (page ∷ pages) ≡ length (concat page) + total pages = total_cons page pages in
    omega (arith, rest, two, all)

packed_bytes : (len : ℕ) (pages : List (List (List ℕ))) → IsPacked len pages → length pages * len ≤ 2 * total pages + len
packed_bytes len [] packed = omega arith
packed_bytes len (page ∷ pages) packed =
    let rest : length pages * len ≤ 2 * total pages + length (concat page) = packed_behind len page pages packed in
    let all : total (page ∷ pages) ≡ length (concat page) + total pages = total_cons page pages in
    omega (arith, rest, all)

packed_if : (all : Bool) (len : ℕ) (pages : List (List (List ℕ))) → IsPacked len (if all then pages else drop 1 pages) → length pages * len ≤ 2 * total pages + (if all then 1 else 2) * len
packed_if true len pages packed = let few = packed_bytes len pages packed in omega (arith, few)
packed_if false len [] packed = omega arith
packed_if false len (page ∷ pages) packed =
    let rest : length pages * len ≤ 2 * total pages + len = packed_bytes len pages packed in
    let whole : total (page ∷ pages) ≡ length (concat page) + total pages = total_cons page pages in
    omega (arith, rest, whole)

-- a row on each page
rows_enough : (pages : List (List (List ℕ))) → All (λ rows. 0 < length rows) pages → length pages ≤ length (joined pages)
rows_enough [] each = omega arith
rows_enough (page ∷ pages) each =
    let here : 0 < length page = All-head (λ rows. 0 < length rows) page pages each in
    let rest : length pages ≤ length (joined pages) = rows_enough pages (All-tail (λ rows. 0 < length rows) page pages each) in
    let all : length (joined (page ∷ pages)) ≡ length page + length (joined pages) = length-append page (joined pages) in
    omega (arith, here, rest, all)

pub few_pages : AllFew
few_pages t rows s h is has =
    let count : length (page_rows s h) ≡ length s.pages = rows_count s.spent (all_bytes s h s.pages) ∙ length-map s.pages (bytes_of s h) in
    record {
      by_rows = let enough = rows_enough (page_rows s h) has.each in let all = ap length has.are in omega (arith, enough, count, all);
      by_bytes =
          subst (λ (rs : List (List ℕ)). length s.pages * len_in s h ≤ 2 * length (concat rs) + (if s.spent == 0 then 1 else 2) * len_in s h) has.are
          (subst (λ (n : ℕ). n * len_in s h ≤ 2 * total (page_rows s h) + (if s.spent == 0 then 1 else 2) * len_in s h) count
          (packed_if (s.spent == 0) (len_in s h) (page_rows s h) has.packed));
    }
