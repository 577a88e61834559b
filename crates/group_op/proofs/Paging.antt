-- Pages that calls make, and how few there are for the rows that stand on them.
use Rattle.std.proofs.Common.{◌≡◌, ◌∙◌, inl, inr, ℕ, suc, ◌+◌, ◌<◌, ◌≤◌, ◌==◌, List, [], ◌∷◌, ◌++◌, length, Some, refl, ap, sym, subst, arith, append-nil, length-append, eq-eqb, ne_eqb}
use Rattle.std.specs.Prelude.{All, slice_get}
use Rattle.std.specs.List.{sum_by}
use Rattle.std.proofs.lemmas.Bool.{cases_eq}
use Rattle.std.proofs.lemmas.List.{length-map}
use Rattle.std.proofs.lemmas.List.Elements.{All-head, All-tail}
use Rattle.std.proofs.lemmas.List.Sorted.{length_permutation}
use Rattle.std.proofs.lemmas.List.Sums.{sum_by-cons}
use Rattle.store_api.specs.Holdings.{Holdings}
use Rattle.store_api.specs.declared.shapes.Shape.{Shape}
use Rattle.tuple_stream.specs.Families.{Family, FamilySteps, LaysAll, ShowAll, pages_in}
use Rattle.tuple_stream.specs.FamilyCalls.{Feeds, FeedsAll, shares, with_rows}
use Rattle.tuple_stream.specs.Streamed.{Streamed, all_bytes, bytes_of, joined, page_rows}
use Rattle.tuple_stream.specs.Streams.{HasRows}
use Rattle.tuple_stream.specs.Trails.{EnteredEvents, creates_in}
use Rattle.tuple_stream.proofs.BuildingQuiet.{creates_join}
use Rattle.tuple_stream.proofs.FamilyWords.{shown_as}
use Rattle.tuple_stream.proofs.PageLists.{rows_count}
use Rattle.tuple_stream.proofs.Sinces.{since_joined, since_now, since_so}
use Rattle.group_op.specs.Held.{State, rows_of, streams_of}
use Rattle.group_op.specs.Putting.{Deals, HasFew, HaveMade}
use Rattle.group_op.specs.Stored.{dealt, place_of}
use Rattle.group_op.proofs.Deals.{AreApart}
use Rattle.partition_stack.proofs.SharedRows.{more_few, shares_none, shares_same}
use Rattle.group_op.proofs.Dividing.{shares_both}

-- ---- pages that were made

pub made_none : (f : Family) → HaveMade f f
made_none f = since_now (λ events. pages_in f ≡ pages_in f + creates_in events) f.signs.trail (omega arith)

pub made_then : (f g h : Family) → HaveMade f g → HaveMade g h → HaveMade f h
made_then f g h one two =
    since_joined (λ events. pages_in g ≡ pages_in f + creates_in events) (λ events. pages_in h ≡ pages_in g + creates_in events) (λ events. pages_in h ≡ pages_in f + creates_in events)
    f.signs.trail g.signs.trail h.signs.trail (λ first next was more. let all = creates_join first next in omega (arith, all, was, more)) one two

pub made_laid : {K R : Type 0} (t : ℕ) (f g : Family) → FamilySteps (LaysAll K R f g) t f g → HaveMade f g
made_laid {K} {R} t f g steps = since_so (LaysAll K R f g) (λ events. pages_in g ≡ pages_in f + creates_in events) f.signs.trail g.signs.trail (λ events lays. lays.creates) steps.trail

-- calls of other things of the store
pub made_apart : (f g : Family) → pages_in g ≡ pages_in f → EnteredEvents AreApart f.signs.trail g.signs.trail → HaveMade f g
made_apart f g same entered =
    since_so AreApart (λ events. pages_in g ≡ pages_in f + creates_in events) f.signs.trail g.signs.trail (λ events apart. let none = apart.creates in omega (arith, same, none)) entered

-- ---- a row stands on each page

pub rows_enough : (pages : List (List (List ℕ))) → All (λ rows. 0 < length rows) pages → length pages ≤ length (joined pages)
rows_enough [] each = omega arith
rows_enough (page ∷ pages) each =
    let here : 0 < length page = All-head (λ rows. 0 < length rows) page pages each in
    let rest : length pages ≤ length (joined pages) = rows_enough pages (All-tail (λ rows. 0 < length rows) page pages each) in
    let all : length (joined (page ∷ pages)) ≡ length page + length (joined pages) = length-append page (joined pages) in
    omega (arith, here, rest, all)

page_few : (s : Streamed) (h : Holdings) (rows : List (List ℕ)) → HasRows rows s h → length s.pages ≤ length rows
page_few s h rows has =
    let count : length (page_rows s h) ≡ length s.pages = rows_count s.spent (all_bytes s h s.pages) ∙ length-map s.pages (bytes_of s h) in
    let enough = rows_enough (page_rows s h) has.each in
    let are = ap length has.are in
    omega (arith, count, enough, are)

streams_few : (streams : List Streamed) (h : Holdings) (rows : ℕ → List (List ℕ)) → ((i : ℕ) (s : Streamed) → slice_get streams i ≡ Some s → HasRows (rows i) s h) → sum_by (λ s. length s.pages) streams ≤ length (shares (length streams) rows)
streams_few [] h rows shows = omega arith
streams_few (s ∷ streams) h rows shows =
    let rest = streams_few streams h (λ i. rows (suc i)) (λ i r at. shows (suc i) r at) in
    let one = page_few s h (rows 0) (shows 0 s refl) in
    let pages : sum_by (λ s. length s.pages) (s ∷ streams) ≡ length s.pages + sum_by (λ s. length s.pages) streams = sum_by-cons (λ (s : Streamed). length s.pages) s streams in
    let both : length (rows 0 ++ shares (length streams) (λ i. rows (suc i))) ≡ length (rows 0) + length (shares (length streams) (λ i. rows (suc i))) = length-append (rows 0) (shares (length streams) (λ i. rows (suc i))) in
    omega (arith, rest, one, pages, both)

pub all_few : (rows : ℕ → List (List ℕ)) (f : Family) → ShowAll rows f → pages_in f ≤ length (shares (length f.streams) rows)
all_few rows f shows = streams_few f.streams f.held rows shows

-- ---- rows that were dealt are as many

pub shares_nil : (n : ℕ) (rows : ℕ → List (List ℕ)) → length (shares n (λ i. rows i ++ [])) ≡ length (shares n rows)
shares_nil n rows = ap length (shares_same n (λ i. rows i ++ []) rows (λ i. append-nil (rows i)))

dealt_few : (shape : Shape) (level base n : ℕ) (xs : List (List ℕ)) → length (shares n (dealt shape level base xs)) ≤ length xs
dealt_few shape level base n [] = let none : length (shares n (dealt shape level base [])) ≡ 0 = ap length (shares_none n) in omega (arith, none)
dealt_few shape level base n (row ∷ xs) =
    let rest = dealt_few shape level base n xs in
    let more : length (shares n (dealt shape level base (row ∷ xs))) ≤ suc (length (shares n (dealt shape level base xs))) =
    more_few n (place_of shape level base row) (λ i. place_of shape level base row == i) (dealt shape level base xs) row (λ i apart. ne_eqb (place_of shape level base row) i (λ same. apart (sym same))) in
    omega (arith, rest, more)

few_dealt : (shape : Shape) (level base n : ℕ) (xs : List (List ℕ)) (rows : ℕ → List (List ℕ)) (g : Family) → length g.streams ≡ n → ShowAll (λ i. rows i ++ dealt shape level base xs i) g → pages_in g ≤ length (shares n rows) + length xs
few_dealt shape level base n xs rows g long shows =
    let all : pages_in g ≤ length (shares n (λ i. rows i ++ dealt shape level base xs i)) = subst (λ (k : ℕ). pages_in g ≤ length (shares k (λ i. rows i ++ dealt shape level base xs i))) long (all_few (λ i. rows i ++ dealt shape level base xs i) g shows) in
    let both = length_permutation (shares n (λ i. rows i ++ dealt shape level base xs i)) (shares n rows ++ shares n (dealt shape level base xs)) (shares_both n rows (dealt shape level base xs)) in
    let sum = length-append (shares n rows) (shares n (dealt shape level base xs)) in
    let some = dealt_few shape level base n xs in
    omega (arith, all, both, sum, some)

-- ---- so there are few pages behind calls

pub few_same : (a b : State) → pages_in (streams_of b) ≡ pages_in (streams_of a) → HasFew a b
few_same a b same = λ rows ends shows. let few = all_few rows (streams_of a) shows in omega (arith, same, few)

-- some rows of the table were dealt
pub few_fed : (t : ℕ) (shape : Shape) (level base : ℕ) (xs : List (List ℕ)) (a b : State) → length xs ≤ length (rows_of a.table) → FeedsAll t (dealt shape level base xs) (streams_of a) (streams_of b) → HasFew a b
few_fed t shape level base xs a b less feeds = λ rows ends shows.
    let few = few_dealt shape level base (length a.parts.streams) xs rows (streams_of b) feeds.steps.long (feeds.rows rows (inr ends) shows) in
    omega (arith, few, less)

pub same_rows : (i : ℕ) (rows : ℕ → List (List ℕ)) (j : ℕ) → with_rows i (rows i ++ []) rows j ≡ rows j
same_rows i rows j =
    elim (cases_eq j i) [
      | inl same ↦ rw (eq-eqb j i same) (append-nil (rows i) ∙ ap rows (sym same))
      | inr apart ↦ rw (ne_eqb j i apart) refl
    ]

-- and then one was refused
pub few_refused : (t : ℕ) (shape : Shape) (level base i : ℕ) (xs : List (List ℕ)) (a m b : State) → length xs ≤ length (rows_of a.table) → FeedsAll t (dealt shape level base xs) (streams_of a) (streams_of m) → Feeds t i [] (streams_of m) (streams_of b) → HasFew a b
few_refused t shape level base i xs a m b less feeds last = λ rows ends shows.
    let dealt_rows : ℕ → List (List ℕ) = λ j. rows j ++ dealt shape level base xs j in
    let here = last.rows dealt_rows (inr (feeds.at_end ends)) (feeds.rows rows (inr ends) shows) in
    let few = few_dealt shape level base (length a.parts.streams) xs rows (streams_of b) (last.steps.long ∙ feeds.steps.long)
    (shown_as (with_rows i (dealt_rows i ++ []) dealt_rows) dealt_rows (streams_of b) (same_rows i dealt_rows) here) in
    omega (arith, few, less)

-- nothing was dealt before
pub few_then : (a b c : State) → Deals (λ i. []) (streams_of a) (streams_of b) → length b.parts.streams ≡ length a.parts.streams → rows_of b.table ≡ rows_of a.table → HasFew b c → HasFew a c
few_then a b c deals long same few = λ rows ends shows.
    let next = few (λ i. rows i ++ []) (deals.at_end ends) (deals.rows rows (inr ends) shows) in
    let count : length (shares (length b.parts.streams) (λ i. rows i ++ [])) ≡ length (shares (length a.parts.streams) rows) = shares_nil (length b.parts.streams) rows ∙ ap (λ (n : ℕ). length (shares n rows)) long in
    let entries = ap length same in
    omega (arith, next, count, entries)
