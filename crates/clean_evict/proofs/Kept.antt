-- For callers: what keeps the clean list, and what comes to it and leaves it.
use Rattle.std.proofs.Common.{◌≡◌, ℕ, ◌+◌, ◌-◌, ◌≤◌, true, false, eqb, List, [], ◌∷◌, ◌++◌, take, drop, Option, Some, None, option_map, unwrap_or, refl, ap, sym, ◌∙◌, subst, inl, inr, arith}
use Rattle.std.specs.FinMap.{get}
use Rattle.std.specs.List.{sum_by}
use Rattle.std.specs.Option.{option_and_then}
use Rattle.std.proofs.lemmas.Bool.{false≢true, cases_Bool, eqb-true, eq-eqb, or_cases, or_left, or_right}
use Rattle.std.proofs.lemmas.List.Folds.{list_any-append}
use Rattle.std.proofs.lemmas.List.Sums.{sum_by-cons, sum_by_push, sum_by-take-drop}
use Rattle.block_arena.specs.Memory.{Supply}
use Rattle.index_list.specs.Listing.{stands_in, others}
use Rattle.page_table.specs.declared.entry.Entry.{Entry}
use Rattle.page_table.specs.Pages.{Pages}
use Rattle.clean_evict.specs.Cleans.{Cleans, without_oldest}
use Rattle.clean_evict.specs.Eviction.{blocks_at, blocks_of, names_of, with_freed, evicted_all, IsCleanPage, IsCleanList}
use Rattle.clean_evict.proofs.Changed.{blocks_of-kept}

-- sums of numbers that are equal on the list
sum_by-on : (f g : ℕ → ℕ) (xs : List ℕ) → ((k : ℕ) → stands_in k xs ≡ true → f k ≡ g k) → sum_by f xs ≡ sum_by g xs
sum_by-on f g [] same = refl
sum_by-on f g (x ∷ xs) same =
    let a = sum_by-cons f x xs in
    let b = sum_by-cons g x xs in
    let here = same x (or_left (eqb x x) (stands_in x xs) (eq-eqb x x refl)) in
    let rest = sum_by-on f g xs (λ k s. same k (or_right (eqb k x) (stands_in k xs) s)) in
    omega (arith, a, b, here, rest)

-- the others stood there
stood : (q node : ℕ) (xs : List ℕ) → stands_in q (others node xs) ≡ true → stands_in q xs ≡ true
stood q node [] h = h
stood q node (x ∷ xs) h = elim (cases_Bool (eqb node x)) [
  | inl s ↦ or_right (eqb q x) (stands_in q xs) (stood q node xs (rw s at h))
  | inr s ↦
      let there : stands_in q (x ∷ others node xs) ≡ true = rw s at h in
      elim (or_cases (eqb q x) (stands_in q (others node xs)) there) [
        | inl e ↦ or_left (eqb q x) (stands_in q xs) e
        | inr e ↦ or_right (eqb q x) (stands_in q xs) (stood q node xs e)
      ]
]

sum_by-others : (f : ℕ → ℕ) (node : ℕ) (xs : List ℕ) → sum_by f (others node xs) ≤ sum_by f xs
sum_by-others f node [] = omega arith
sum_by-others f node (x ∷ xs) =
    let rest = sum_by-others f node xs in
    let all = sum_by-cons f x xs in
    let less = sum_by-cons f x (others node xs) in
    elim (cases_Bool (eqb node x)) [ inl s ↦ rw s (omega (arith, rest, all)) | inr s ↦ rw s (omega (arith, rest, all, less)) ]

module _ {S : Type 0} where
  -- a live page has the blocks that its entry says
  pub blocks-there : (pages : Pages (Entry S)) (key name : ℕ) (page : Entry S) → get pages.names key ≡ Some name → get pages.entries name ≡ Some page → blocks_at pages key ≡ page.blocks
  blocks-there pages key name page live there =
      ap (λ (o : Option ℕ). unwrap_or (option_map (λ page. page.blocks) (option_and_then (λ name. get pages.entries name) o)) 0) live
      ∙ ap (λ (o : Option (Entry S)). unwrap_or (option_map (λ page. page.blocks) o) 0) there

  -- a page that is as it was
  pub page-kept : (block_len : ℕ) (pages new : Pages (Entry S)) (key : ℕ) (c : IsCleanPage block_len pages key) → get new.names key ≡ get pages.names key → get new.entries c.name ≡ get pages.entries c.name → IsCleanPage block_len new key
  page-kept block_len pages new key c names entries = record {
    name = c.name;
    page = c.page;
    buffer = c.buffer;
    live = names ∙ c.live;
    there = entries ∙ c.there;
    clean = c.clean;
    held = c.held;
    whole = c.whole;
  }

  -- the names and the entries of the pages on the list are as they were
  pub record AreSame (keys : List ℕ) (pages new : Pages (Entry S)) : Type 0 where
    pub names : (key : ℕ) → stands_in key keys ≡ true → get new.names key ≡ get pages.names key
    pub entries : (key name : ℕ) → stands_in key keys ≡ true → get pages.names key ≡ Some name → get new.entries name ≡ get pages.entries name

  pub blocks-kept : (arena : Supply) (pages new : Pages (Entry S)) (keys : List ℕ) → AreSame keys pages new → IsCleanList arena pages keys → blocks_of new keys ≡ blocks_of pages keys
  blocks-kept arena pages new keys same clean =
      sum_by-on (λ key. blocks_at new key) (λ key. blocks_at pages key) keys (λ key s.
      let c = clean.clean key s in
      blocks-there new key c.name c.page (same.names key s ∙ c.live) (same.entries key c.name s c.live ∙ c.there)
      ∙ sym (blocks-there pages key c.name c.page c.live c.there))

  pub clean-kept : (arena : Supply) (pages new : Pages (Entry S)) (keys : List ℕ) → AreSame keys pages new → IsCleanList arena pages keys → IsCleanList arena new keys
  clean-kept arena pages new keys same clean =
      let fits = clean.fits in
      record {
        clean = λ key s. let c = clean.clean key s in page-kept arena.block_len pages new key c (same.names key s) (same.entries key c.name s c.live);
        fits = omega (arith, fits, blocks-kept arena pages new keys same clean);
      }

  -- a clean page comes
  pub clean-pushed : (arena : Supply) (pages : Pages (Entry S)) (keys : List ℕ) (key : ℕ) → IsCleanList arena pages keys → IsCleanPage arena.block_len pages key → arena.free + blocks_of pages keys + blocks_at pages key ≤ arena.blocks → IsCleanList arena pages (keys ++ key ∷ [])
  clean-pushed arena pages keys key clean page fits = record {
    clean = λ q s. elim (or_cases (stands_in q keys) (stands_in q (key ∷ [])) (sym (list_any-append (eqb q) keys (key ∷ [])) ∙ s)) [
      | inl old ↦ clean.clean q old
      | inr new ↦ elim (or_cases (eqb q key) false new) [
        | inl same ↦ subst (λ (k : ℕ). IsCleanPage arena.block_len pages k) (sym (eqb-true q key same)) page
        | inr never ↦ absurd (false≢true never)
      ]
    ];
    fits = let all = sum_by_push (λ k. blocks_at pages k) keys key in omega (arith, all, fits);
  }

  -- a page leaves
  pub clean-without : (arena : Supply) (pages : Pages (Entry S)) (keys : List ℕ) (key : ℕ) → IsCleanList arena pages keys → IsCleanList arena pages (others key keys)
  clean-without arena pages keys key clean = record {
    clean = λ q s. clean.clean q (stood q key keys s);
    fits = let fits = clean.fits in let less = sum_by-others (λ k. blocks_at pages k) key keys in omega (arith, fits, less);
  }

  -- a key that no live page has is not on the list
  pub vacant-absent : (arena : Supply) (pages : Pages (Entry S)) (keys : List ℕ) (key : ℕ) → IsCleanList arena pages keys → get pages.names key ≡ None → stands_in key keys ≡ false
  vacant-absent arena pages keys key clean none = elim (cases_Bool (stands_in key keys)) [
    | inl s ↦ let c = clean.clean key s in let both : None ≡ Some c.name = sym none ∙ c.live in absurd (cc)
    | inr s ↦ s
  ]

  -- the pages that are left on the list have the blocks that they had
  blocks-left : (count : ℕ) (list list_new : Cleans) (pages new : Pages (Entry S)) → list_new ≡ without_oldest count list → new ≡ evicted_all (names_of pages (take count list.keys)) pages → blocks_of new list_new.keys ≡ blocks_of pages (drop count list.keys)
  blocks-left count list list_new pages new left gone =
      ap (λ (l : Cleans). blocks_of new l.keys) left
      ∙ ap (λ (t : Pages (Entry S)). blocks_of t (drop count list.keys)) gone
      ∙ blocks_of-kept (names_of pages (take count list.keys)) pages (drop count list.keys)

  -- what is free or clean after room was made was so before
  pub freed-total : (count : ℕ) (list list_new : Cleans) (arena arena_new : Supply) (pages new : Pages (Entry S)) → list_new ≡ without_oldest count list → new ≡ evicted_all (names_of pages (take count list.keys)) pages → arena_new ≡ with_freed (blocks_of pages (take count list.keys)) arena → arena_new.free + blocks_of new list_new.keys ≡ arena.free + blocks_of pages list.keys
  freed-total count list list_new arena arena_new pages new left gone freed =
      let free = ap (λ (a : Supply). a.free) freed in
      let kept = blocks-left count list list_new pages new left gone in
      let both = sum_by-take-drop (λ key. blocks_at pages key) list.keys count in
      omega (arith, free, kept, both)

  -- and after a buffer was acquired, but for the blocks that were lent
  pub acquired-total : (count lent : ℕ) (list list_new : Cleans) (arena arena_new : Supply) (pages new : Pages (Entry S)) → list_new ≡ without_oldest count list → new ≡ evicted_all (names_of pages (take count list.keys)) pages → lent ≤ arena.free + blocks_of pages (take count list.keys) → arena_new ≡ record arena { free = arena.free + blocks_of pages (take count list.keys) - lent } → (arena_new.free + blocks_of new list_new.keys) + lent ≡ arena.free + blocks_of pages list.keys
  acquired-total count lent list list_new arena arena_new pages new left gone enough freed =
      let free = ap (λ (a : Supply). a.free) freed in
      let kept = blocks-left count list list_new pages new left gone in
      let both = sum_by-take-drop (λ key. blocks_at pages key) list.keys count in
      omega (arith, free, kept, both, enough)
