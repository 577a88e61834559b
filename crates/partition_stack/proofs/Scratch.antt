-- How many pages and slots partitions have together.
use Rattle.std.proofs.Common.{◌≡◌, inl, inr, ℕ, zero, suc, ◌+◌, ◌*◌, ◌/◌, ◌<◌, ◌≤◌, ◌==◌, Bool, true, false, List, [], ◌∷◌, ◌++◌, length, Option, Some, None, IfSome, option_map, if◌then◌else◌, refl, ap, sym, ◌∙◌, subst, arith, length-append, eq-eqb, ne_eqb}
use Rattle.std.specs.List.{concat, slice_get, sum_by}
use Rattle.std.proofs.lemmas.List.Folds.{concat-append}
use Rattle.std.proofs.lemmas.List.Sums.{sum_by-cons}
use Rattle.std.proofs.lemmas.Bool.{cases_eq}
use Rattle.std.proofs.lemmas.Option.{same_Some}
use Rattle.std.proofs.Math.Nat.{add-mul-div_right, div-mul-le_self, le-div_iff_mul-le, mul-le-mul_right}
use Rattle.reservation_tree.specs.declared.errors.PoolErr.{PoolErr}
use Rattle.reservation_tree.specs.declared.errors.PoolErr.TheVariants.{NoReservation, ScratchFull, WriteFault, ReadFault, TooManyTrackers, NamesSpent, Memory, Stale}
use Rattle.store_api.specs.Tokens.{PageToken}
use Rattle.store_api.specs.Holdings.{Holdings, length_of, page_of}
use Rattle.tuple_stream.specs.Bounds.{AllFew, FewPages}
use Rattle.tuple_stream.specs.Streamed.{Streamed, len_in}
use Rattle.tuple_stream.specs.Touches.{IsFull, slots_of}
use Rattle.tuple_stream.specs.FamilyCalls.{AllWhole, shares}
use Rattle.tuple_stream.specs.Families.{AllSized, Family, pages_in, slots_in}
use Rattle.partition_stack.specs.Laws.{AllFewInAll, CountFor, PagesAreFew, SlotsSuffice, WantComesLate, begun_in}
use Rattle.partition_stack.specs.Slots.{IsWantBelow, most_pages}

two_sums : (a b len : ℕ) → (a + b) * len ≡ a * len + b * len
two_sums a b len = omega arith

bytes_step : (spent mine pages bytes all many begun len : ℕ) → pages * len ≤ 2 * all + (many + begun) * len → mine * len ≤ 2 * bytes + (if spent == 0 then 1 else 2) * len
    → (mine + pages) * len ≤ 2 * (bytes + all) + (suc many + ((if spent == 0 then 0 else 1) + begun)) * len
bytes_step spent mine pages bytes all many begun len rest one = elim (cases_eq spent 0) [
  | inl e ↦
      let was : mine * len ≤ 2 * bytes + 1 * len = rw (eq-eqb spent 0 e) at one in
      let sum = two_sums mine pages len in
      let more : (suc many + (0 + begun)) * len ≡ 1 * len + (many + begun) * len = omega arith in
      rw (eq-eqb spent 0 e) (omega (arith, was, rest, sum, more))
  | inr ne ↦
      let was : mine * len ≤ 2 * bytes + 2 * len = rw (ne_eqb spent 0 ne) at one in
      let sum = two_sums mine pages len in
      let more : (suc many + (1 + begun)) * len ≡ 2 * len + (many + begun) * len = omega arith in
      rw (ne_eqb spent 0 ne) (omega (arith, was, rest, sum, more))
]

record Few (blocks : ℕ) (rows : List (List ℕ)) (streams : List Streamed) (h : Holdings) : Type 0 where
  by_rows : sum_by (λ s. length s.pages) streams ≤ length rows
  by_bytes : sum_by (λ s. length s.pages) streams * length_of blocks h ≤ 2 * length (concat rows) + (length streams + begun_in streams) * length_of blocks h

few_here : (blocks : ℕ) (rows : ℕ → List (List ℕ)) (streams : List Streamed) (h : Holdings) → ((i : ℕ) (s : Streamed) → slice_get streams i ≡ Some s → FewPages (rows i) s h) → ((i : ℕ) (s : Streamed) → slice_get streams i ≡ Some s → s.page_blocks ≡ blocks) → Few blocks (shares (length streams) rows) streams h
few_here blocks rows [] h few sized = record { by_rows = omega arith; by_bytes = omega arith }
few_here blocks rows (s ∷ streams) h few sized =
    let rest = few_here blocks (λ i. rows (suc i)) streams h (λ i r at. few (suc i) r at) (λ i r at. sized (suc i) r at) in
    let one = few 0 s refl in
    let others = shares (length streams) (λ i. rows (suc i)) in
    let len : len_in s h ≡ length_of blocks h = ap (λ (n : ℕ). n * h.block_len) (sized 0 s refl) in
    let pages : sum_by (λ s. length s.pages) (s ∷ streams) ≡ length s.pages + sum_by (λ s. length s.pages) streams = sum_by-cons (λ (s : Streamed). length s.pages) s streams in
    let count : length (rows 0 ++ others) ≡ length (rows 0) + length others = length-append (rows 0) others in
    let bytes : length (concat (rows 0 ++ others)) ≡ length (concat (rows 0)) + length (concat others) = ap length (concat-append (rows 0) others) ∙ length-append (concat (rows 0)) (concat others) in
    let begun : begun_in (s ∷ streams) ≡ (if s.spent == 0 then 0 else 1) + begun_in streams = sum_by-cons (λ (s : Streamed). if s.spent == 0 then 0 else 1) s streams in
    record {
      by_rows = let a = rest.by_rows in let b = one.by_rows in omega (arith, a, b, pages, count);
      by_bytes =
          rw (pages, bytes, begun)
          (bytes_step s.spent (length s.pages) (sum_by (λ s. length s.pages) streams) (length (concat (rows 0))) (length (concat others)) (length streams) (begun_in streams) (length_of blocks h) rest.by_bytes
          (subst (λ (n : ℕ). length s.pages * n ≤ 2 * length (concat (rows 0)) + (if s.spent == 0 then 1 else 2) * n) len one.by_bytes));
    }

pub all_few_in_all : AllFew → AllFewInAll
all_few_in_all few_pages t blocks rows f shaped sized shows =
    let few = few_here blocks rows f.streams f.held (λ i s at. few_pages t (rows i) s f.held (shaped.each i s at) (shows i s at)) sized in
    record { by_rows = few.by_rows; by_bytes = few.by_bytes }

-- ---- slots

at_most : (has : Bool) (n : ℕ) → (if has then n else 0) ≤ n
at_most true n = omega arith
at_most false n = omega arith

slots_most : (s : Streamed) (h : Holdings) (pages : List PageToken) → sum_by (slots_of s h) pages ≤ length pages * s.page_blocks
slots_most s h [] = omega arith
slots_most s h (p ∷ pages) =
    let rest = slots_most s h pages in
    let one : slots_of s h p ≤ s.page_blocks = at_most (page_of p.name h).has_slots s.page_blocks in
    let sum = sum_by-cons (slots_of s h) p pages in
    let more : suc (length pages) * s.page_blocks ≡ s.page_blocks + length pages * s.page_blocks = omega arith in
    omega (arith, rest, one, sum, more)

slots_few : (blocks : ℕ) (streams : List Streamed) (h : Holdings) → ((i : ℕ) (s : Streamed) → slice_get streams i ≡ Some s → s.page_blocks ≡ blocks) → sum_by (λ s. sum_by (slots_of s h) s.pages) streams ≤ sum_by (λ s. length s.pages) streams * blocks
slots_few blocks [] h sized = omega arith
slots_few blocks (s ∷ streams) h sized =
    let rest = slots_few blocks streams h (λ i r at. sized (suc i) r at) in
    let one : sum_by (slots_of s h) s.pages ≤ length s.pages * blocks = subst (λ (n : ℕ). sum_by (slots_of s h) s.pages ≤ length s.pages * n) (sized 0 s refl) (slots_most s h s.pages) in
    let more = two_sums (length s.pages) (sum_by (λ s. length s.pages) streams) blocks in
    let pages : sum_by (λ s. length s.pages) (s ∷ streams) ≡ length s.pages + sum_by (λ s. length s.pages) streams = sum_by-cons (λ (s : Streamed). length s.pages) s streams in
    let slots : sum_by (λ s. sum_by (slots_of s h) s.pages) (s ∷ streams) ≡ sum_by (slots_of s h) s.pages + sum_by (λ s. sum_by (slots_of s h) s.pages) streams = sum_by-cons (λ (s : Streamed). sum_by (slots_of s h) s.pages) s streams in
    rw (pages, slots) (omega (arith, rest, one, more))

enough_free : (blocks total free pages taken : ℕ) → taken ≤ pages * blocks → free + taken ≡ total → (pages + 1) * blocks ≤ total → blocks ≤ free
enough_free blocks total free pages taken few sum enough = let one = two_sums pages 1 blocks in omega (arith, few, sum, enough, one)

pub slots_suffice : SlotsSuffice
slots_suffice t blocks total free f shaped sized all told enough =
    let taken = sum_by (λ s. sum_by (slots_of s f.held) s.pages) f.streams in
    let sum : Some (free + taken) ≡ Some total = sym (ap (option_map (λ (n : ℕ). n + taken)) told) ∙ all in
    enough_free blocks total free (sum_by (λ s. length s.pages) f.streams) taken (slots_few blocks f.streams f.held sized) (same_Some (free + taken) total sum) enough

-- ---- the most pages

none_begun : (streams : List Streamed) → ((i : ℕ) (s : Streamed) → slice_get streams i ≡ Some s → s.spent ≡ 0) → begun_in streams ≡ 0
none_begun [] whole = refl
none_begun (s ∷ streams) whole =
    let rest = none_begun streams (λ i r at. whole (suc i) r at) in
    let one : ◌≡◌ {A = ℕ} (if s.spent == 0 then 0 else 1) 0 = rw (eq-eqb s.spent 0 (whole 0 s refl)) refl in
    let all : begun_in (s ∷ streams) ≡ (if s.spent == 0 then 0 else 1) + begun_in streams = sum_by-cons (λ (s : Streamed). if s.spent == 0 then 0 else 1) s streams in
    omega (arith, rest, one, all)

one_begun : (b : Bool) → (if b then 0 else 1) ≤ 1
one_begun true = omega arith
one_begun false = omega arith

some_begun : (streams : List Streamed) → begun_in streams ≤ length streams
some_begun [] = omega arith
some_begun (s ∷ streams) =
    let rest = some_begun streams in
    let one = one_begun (s.spent == 0) in
    let all : begun_in (s ∷ streams) ≡ (if s.spent == 0 then 0 else 1) + begun_in streams = sum_by-cons (λ (s : Streamed). if s.spent == 0 then 0 else 1) s streams in
    omega (arith, rest, one, all)

-- where nothing is spent they count once, and in any case no more than twice
pub counts_once : (more : ℕ) (f : Family) → AllWhole f → length f.streams ≤ more → CountFor more f
counts_once more f whole few = let none = none_begun f.streams whole in omega (arith, none, few)

pub counts_twice : (more : ℕ) (f : Family) → 2 * length f.streams ≤ more → CountFor more f
counts_twice more f few = let some = some_begun f.streams in omega (arith, some, few)

pub by_both : (len more count bytes pages : ℕ) → 0 < len → pages ≤ count → pages * len ≤ 2 * bytes + more * len → pages ≤ most_pages len more count bytes
by_both len more count bytes pages some few low =
    let wide : (2 * bytes + more * len) / len ≡ 2 * bytes / len + more = add-mul-div_right (2 * bytes) more some in
    let most : pages ≤ (2 * bytes + more * len) / len = (le-div_iff_mul-le some).1 low in
    omega (arith, few, wide, most)

-- for rows that are no fewer, and no lighter, they are no fewer
pub most_more : (len more count bytes rows heavy : ℕ) → 0 < len → count ≤ rows → bytes ≤ heavy → most_pages len more count bytes ≤ most_pages len more rows heavy
most_more len more count bytes rows heavy some few light =
    let times = div-mul-le_self (2 * bytes) len in
    let wide : 2 * bytes / len ≤ 2 * heavy / len = (le-div_iff_mul-le some).1 (let low : 2 * bytes / len * len ≤ 2 * heavy = omega (arith, times, light) in low) in
    omega (arith, few, wide)

pub pages_are_few : AllFew → PagesAreFew
pages_are_few few_pages t blocks more count bytes rows f shaped sized shows some counts few light =
    let all = all_few_in_all few_pages t blocks rows f shaped sized shows in
    let by_rows = all.by_rows in
    let by_bytes = all.by_bytes in
    let wide : (length f.streams + begun_in f.streams) * length_of blocks f.held ≤ more * length_of blocks f.held = mul-le-mul_right (length_of blocks f.held) counts in
    by_both (length_of blocks f.held) more count bytes (pages_in f) some (omega (arith, by_rows, few)) (omega (arith, by_bytes, wide, light))

below_by : (blocks most pages few taken : ℕ) → few < blocks → taken ≤ pages * blocks → pages ≤ most → few + taken < (most + 1) * blocks
below_by blocks most pages few taken less low many =
    let wide : pages * blocks ≤ most * blocks = mul-le-mul_right blocks many in
    let one = two_sums most 1 blocks in
    omega (arith, less, low, wide, one)

pub want_comes_late : WantComesLate
want_comes_late blocks most f (ScratchFull need few) sized many full =
    let taken = sum_by (λ s. sum_by (slots_of s f.held) s.pages) f.streams in
    let all : slots_in f ≡ Some (few + taken) = ap (option_map (λ (n : ℕ). n + taken)) full.2 in
    subst (λ (o : Option ℕ). IfSome o (λ n. n < (most + 1) * blocks)) (sym all)
    (below_by blocks most (pages_in f) few taken full.1 (slots_few blocks f.streams f.held sized) many)
want_comes_late blocks most f (NoReservation tracker wanted room) sized many full = tt
want_comes_late blocks most f (WriteFault entry) sized many full = tt
want_comes_late blocks most f (ReadFault entry) sized many full = tt
want_comes_late blocks most f (TooManyTrackers trackers) sized many full = tt
want_comes_late blocks most f NamesSpent sized many full = tt
want_comes_late blocks most f Memory sized many full = tt
want_comes_late blocks most f (Stale wanted found) sized many full = tt
