-- How many pages have to go.
use Rattle.std.proofs.Common.{◌≡◌, ℕ, zero, suc, ◌+◌, ◌-◌, ◌<◌, ◌≤◌, Bool, true, not, eqb, List, [], ◌∷◌, length, get_or, take, nat_le, refl, ap, sym, ◌∙◌, inl, inr, arith}
use Rattle.std.specs.List.{position_or_len, range_with_len, sum_by}
use Rattle.std.proofs.lemmas.Bool.{cases_lt, le-leb, lt-leb, leb-true, leb-false, eq-eqb, or_left, or_right}
use Rattle.std.proofs.lemmas.List.{take_all}
use Rattle.std.proofs.lemmas.List.FromFn.{length-range_with_len, get_or-range_with_len}
use Rattle.std.proofs.lemmas.List.Sums.{position_or_len_is, passes_at_first, fails_before_first, prefix_len-le-length, sum_by-cons}
use Rattle.block_arena.specs.Memory.{Supply}
use Rattle.index_list.specs.Listing.{stands_in}
use Rattle.page_table.specs.declared.entry.Entry.{Entry}
use Rattle.page_table.specs.Pages.{Pages}
use Rattle.clean_evict.specs.Eviction.{blocks_at, blocks_of, fewest}

-- the place in the range of counts is the count
at_count : (keys : List ℕ) (k : ℕ) → k < length keys → get_or (range_with_len 0 (length keys)) k 0 ≡ k
at_count keys k less = let e = get_or-range_with_len 0 (length keys) k 0 less in omega (arith, e)

-- where each has some, so many have as much together, or more
sum_by-least : (f : ℕ → ℕ) (xs : List ℕ) → ((k : ℕ) → stands_in k xs ≡ true → 0 < f k) → (n : ℕ) → n ≤ length xs → n ≤ sum_by f (take n xs)
sum_by-least f [] some zero within = omega arith
sum_by-least f [] some (suc n) within = absurd (omega (arith, within))
sum_by-least f (x ∷ xs) some zero within = omega arith
sum_by-least f (x ∷ xs) some (suc n) within =
    let here = some x (or_left (eqb x x) (stands_in x xs) (eq-eqb x x refl)) in
    let rest = sum_by-least f xs (λ k s. some k (or_right (eqb k x) (stands_in k xs) s)) n (omega (arith, within)) in
    let all = sum_by-cons f x (take n xs) in
    omega (arith, here, rest, all)

module _ {S : Type 0} where
  -- the free blocks and those of the first pages, so many
  abbrev pub room_with : Supply → Pages (Entry S) → List ℕ → ℕ → ℕ
  room_with arena pages keys count = arena.free + blocks_of pages (take count keys)

  abbrev covers : ℕ → Supply → Pages (Entry S) → List ℕ → ℕ → Bool
  covers wanted arena pages keys count = nat_le wanted (room_with arena pages keys count)

  -- a count that covers, where no lesser one does, is the fewest
  pub fewest-is : (wanted : ℕ) (arena : Supply) (pages : Pages (Entry S)) (keys : List ℕ) (count : ℕ) → count ≤ length keys → ((k : ℕ) → k < count → room_with arena pages keys k < wanted) → wanted ≤ room_with arena pages keys count → fewest wanted arena pages keys ≡ count
  unfolding fewest
  fewest-is wanted arena pages keys count within short enough =
      let counts = range_with_len 0 (length keys) in
      let many : length counts ≡ length keys = length-range_with_len 0 (length keys) in
      let test : ℕ → Bool = covers wanted arena pages keys in
      position_or_len_is test counts count 0 (omega (arith, many, within))
      (λ k less. ap test (at_count keys k (omega (arith, within, less))) ∙ lt-leb wanted (room_with arena pages keys k) (short k less))
      (λ less. ap test (at_count keys count (omega (arith, many, less))) ∙ le-leb wanted (room_with arena pages keys count) enough)

  -- where a count and all lesser ones don't cover, more are to go
  pub fewest-more : (wanted : ℕ) (arena : Supply) (pages : Pages (Entry S)) (keys : List ℕ) (count : ℕ) → count ≤ length keys → ((k : ℕ) → k < count → room_with arena pages keys k < wanted) → room_with arena pages keys count < wanted → wanted ≤ arena.free + blocks_of pages keys → (count < length keys) × (count < fewest wanted arena pages keys)
  unfolding fewest
  fewest-more wanted arena pages keys count within short still enough =
      let counts = range_with_len 0 (length keys) in
      let many : length counts ≡ length keys = length-range_with_len 0 (length keys) in
      let test : ℕ → Bool = covers wanted arena pages keys in
      let less : count < length keys = elim (cases_lt count (length keys)) [
        | inl l ↦ l
        | inr l ↦
            let all : room_with arena pages keys count ≡ arena.free + blocks_of pages keys = ap (λ (ks : List ℕ). arena.free + blocks_of pages ks) (take_all count keys l) in
            absurd (omega (arith, all, still, enough))
      ] in
      let first = position_or_len test counts in
      let more : count < position_or_len test counts = elim (cases_lt count (position_or_len test counts)) [
        | inl l ↦ l
        | inr l ↦
            let below : first < length keys = omega (arith, l, less) in
            let there : wanted ≤ room_with arena pages keys first =
            leb-true wanted (room_with arena pages keys first) (sym (ap test (at_count keys first below)) ∙ passes_at_first test counts 0 (omega (arith, many, below))) in
            elim (cases_lt first count) [
              | inl m ↦ let s = short first m in absurd (omega (arith, s, there))
              | inr m ↦
                  let same : room_with arena pages keys first ≡ room_with arena pages keys count = let e : first ≡ count = omega (arith, l, m) in ap (room_with arena pages keys) e in
                  absurd (omega (arith, same, there, still))
            ]
      ] in
      (less, more)

  -- no more pages go than are on the list
  pub fewest-le-length : (wanted : ℕ) (arena : Supply) (pages : Pages (Entry S)) (keys : List ℕ) → fewest wanted arena pages keys ≤ length keys
  unfolding fewest
  fewest-le-length wanted arena pages keys =
      let most = prefix_len-le-length (λ (count : ℕ). not (covers wanted arena pages keys count)) (range_with_len 0 (length keys)) in
      let many : length (range_with_len 0 (length keys)) ≡ length keys = length-range_with_len 0 (length keys) in
      omega (arith, most, many)

  -- one page fewer does not cover
  pub fewest-short : (wanted : ℕ) (arena : Supply) (pages : Pages (Entry S)) (keys : List ℕ) (k : ℕ) → k < fewest wanted arena pages keys → room_with arena pages keys k < wanted
  unfolding fewest
  fewest-short wanted arena pages keys k less =
      let counts = range_with_len 0 (length keys) in
      let test : ℕ → Bool = covers wanted arena pages keys in
      let within = fewest-le-length wanted arena pages keys in
      leb-false wanted (room_with arena pages keys k) (sym (ap test (at_count keys k (omega (arith, less, within)))) ∙ fails_before_first test counts k 0 less)

  -- where each page has a block, no more go than blocks are wanted
  pub fewest-le-wanted : (wanted : ℕ) (arena : Supply) (pages : Pages (Entry S)) (keys : List ℕ) → ((key : ℕ) → stands_in key keys ≡ true → 0 < blocks_at pages key) → fewest wanted arena pages keys ≤ wanted
  fewest-le-wanted wanted arena pages keys some =
      let count = fewest wanted arena pages keys in
      let within = fewest-le-length wanted arena pages keys in
      elim (cases_lt 0 count) [
        | inl l ↦
            let short = fewest-short wanted arena pages keys (count - 1) (omega (arith, l)) in
            let least = sum_by-least (λ key. blocks_at pages key) keys some (count - 1) (omega (arith, within)) in
            omega (arith, short, least)
        | inr l ↦ omega (arith, l)
      ]
