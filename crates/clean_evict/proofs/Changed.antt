-- For callers: what is left of a table where pages were evicted. Its names, its next name and its room
-- are as they were, and so is `names_of`, by definition.
use Rattle.std.proofs.Common.{◌≡◌, ◌≢◌, ℕ, ◌||◌, Bool, true, false, eqb, List, [], ◌∷◌, ◌++◌, Option, Some, None, option_map, unwrap_or, refl, ap, sym, ◌∙◌, inl, inr, arith}
use Rattle.std.specs.Ordering.{nat_cmp}
use Rattle.std.specs.FinMap.{FinMap, get, len}
use Rattle.std.specs.List.{sum_by}
use Rattle.std.specs.Option.{option_and_then}
use Rattle.std.proofs.lemmas.Bool.{false≢true, cases_Bool, eqb-true, eq-eqb, or_parts}
use Rattle.std.proofs.lemmas.List.Sums.{sum_by-cons}
use Rattle.index_list.specs.Listing.{stands_in}
use Rattle.page_table.specs.declared.page_id.PageId.{PageId}
use Rattle.page_table.specs.declared.entry.Entry.{Entry}
use Rattle.page_table.specs.Pages.{Pages, HasRoom, IsProper, with_entry}
use Rattle.reservation_tree.proofs.Maps.{get_same, get_other, len_same, is_there}
use Rattle.page_table.proofs.Proper.{proper-written}
use Rattle.clean_evict.specs.Eviction.{blocks_at, blocks_of, evicted, evicted_if, evicted_at, evicted_all}

-- sums of equal numbers
pub sum_by-same : (f g : ℕ → ℕ) → ((k : ℕ) → f k ≡ g k) → (xs : List ℕ) → sum_by f xs ≡ sum_by g xs
sum_by-same f g same [] = refl
sum_by-same f g same (x ∷ xs) =
    let a = sum_by-cons f x xs in
    let b = sum_by-cons g x xs in
    let here = same x in
    let rest = sum_by-same f g same xs in
    omega (arith, a, b, here, rest)

module _ {S : Type 0} where
  abbrev evicted_page : Option (Entry S) → Option (Entry S)
  evicted_page o = option_map evicted o

  abbrev blocks_in : Option (Entry S) → ℕ
  blocks_in o = unwrap_or (option_map (λ page. page.blocks) o) 0

  -- a page that was evicted twice is as if it was evicted once
  twice : (o : Option (Entry S)) → evicted_page (evicted_page o) ≡ evicted_page o
  twice None = refl
  twice (Some page) = refl

  blocks-evicted : (o : Option (Entry S)) → blocks_in (evicted_page o) ≡ blocks_in o
  blocks-evicted None = refl
  blocks-evicted (Some page) = refl

  -- the entries after one page was evicted
  one_same : (entries : FinMap nat_cmp (Entry S)) (name : ℕ) (o : Option (Entry S)) → get entries name ≡ o → get (evicted_if o name entries) name ≡ evicted_page o
  one_same entries name None is = is
  one_same entries name (Some page) is = get_same entries name (evicted page)

  one_other : (entries : FinMap nat_cmp (Entry S)) (name : ℕ) (o : Option (Entry S)) (q : ℕ) → q ≢ name → get (evicted_if o name entries) q ≡ get entries q
  one_other entries name None q apart = refl
  one_other entries name (Some page) q apart = get_other entries name (evicted page) q apart

  one_len : (entries : FinMap nat_cmp (Entry S)) (name : ℕ) (o : Option (Entry S)) → get entries name ≡ o → len (evicted_if o name entries) ≡ len entries
  one_len entries name None is = refl
  one_len entries name (Some page) is = len_same entries name page (evicted page) is

  one_proper : (t : Pages (Entry S)) (name : ℕ) (o : Option (Entry S)) → get t.entries name ≡ o → IsProper t → IsProper (record t { entries = evicted_if o name t.entries })
  one_proper t name None is proper = proper
  one_proper t name (Some page) is proper = proper-written t proper (record { name = name; key = 0 }) (evicted page) (is_there (get t.entries name) page is)

  -- one page of a table goes
  pub evicted-one : (t : Pages (Entry S)) (id : PageId) (page : Entry S) → get t.entries id.name ≡ Some page → with_entry t id (evicted page) ≡ evicted_all (id.name ∷ []) t
  evicted-one t id page there = ap (λ (o : Option (Entry S)). record t { entries = evicted_if o id.name t.entries }) (sym there)

  -- some pages go, and then others
  pub evicted-append : (first then : List ℕ) (t : Pages (Entry S)) → evicted_all (first ++ then) t ≡ evicted_all then (evicted_all first t)
  evicted-append [] then t = refl
  evicted-append (name ∷ first) then t = evicted-append first then (evicted_at name t)

  -- a page that isn't among them is as it was
  pub get-evicted_other : (names : List ℕ) (t : Pages (Entry S)) (q : ℕ) → stands_in q names ≡ false → get (evicted_all names t).entries q ≡ get t.entries q
  get-evicted_other [] t q out = refl
  get-evicted_other (name ∷ names) t q out =
      let parts = or_parts (eqb q name) (stands_in q names) out in
      get-evicted_other names (evicted_at name t) q parts.1
      ∙ one_other t.entries name (get t.entries name) q (λ same. false≢true (sym parts.0 ∙ eq-eqb q name same))

  -- a page that is was evicted
  pub get-evicted : (names : List ℕ) (t : Pages (Entry S)) (q : ℕ) → stands_in q names ≡ true → get (evicted_all names t).entries q ≡ option_map evicted (get t.entries q)
  get-evicted [] t q in_it = absurd (false≢true in_it)
  get-evicted (name ∷ names) t q in_it = elim (cases_Bool (eqb q name)) [
    | inl same ↦
        let e : q ≡ name = eqb-true q name same in
        let here : get (evicted_at name t).entries q ≡ evicted_page (get t.entries q) =
        ap (get (evicted_at name t).entries) e ∙ one_same t.entries name (get t.entries name) refl ∙ ap (λ (k : ℕ). evicted_page (get t.entries k)) (sym e) in
        elim (cases_Bool (stands_in q names)) [
          | inl again ↦ get-evicted names (evicted_at name t) q again ∙ ap evicted_page here ∙ twice (get t.entries q)
          | inr once ↦ get-evicted_other names (evicted_at name t) q once ∙ here
        ]
    | inr other ↦
        let later : stands_in q names ≡ true = sym (ap (λ (b : Bool). b || stands_in q names) other) ∙ in_it in
        get-evicted names (evicted_at name t) q later
        ∙ ap evicted_page (one_other t.entries name (get t.entries name) q (λ same. false≢true (sym other ∙ eq-eqb q name same)))
  ]

  -- as many pages are live, and the table stays proper
  pub len-evicted : (names : List ℕ) (t : Pages (Entry S)) → len (evicted_all names t).entries ≡ len t.entries
  len-evicted [] t = refl
  len-evicted (name ∷ names) t = len-evicted names (evicted_at name t) ∙ one_len t.entries name (get t.entries name) refl

  pub room-evicted : (names : List ℕ) (t new : Pages (Entry S)) → new ≡ evicted_all names t → HasRoom t → HasRoom new
  room-evicted names t new is room =
      let count = ap (λ (u : Pages (Entry S)). len u.entries) is ∙ len-evicted names t in
      let same = ap (λ (u : Pages (Entry S)). u.room) is in
      omega (arith, count, same, room)

  pub proper-evicted : (names : List ℕ) (t : Pages (Entry S)) → IsProper t → IsProper (evicted_all names t)
  proper-evicted [] t proper = proper
  proper-evicted (name ∷ names) t proper = proper-evicted names (evicted_at name t) (one_proper t name (get t.entries name) refl proper)

  -- a page has as many blocks as before
  blocks_named : (names : List ℕ) (t : Pages (Entry S)) (o : Option ℕ) → blocks_in (option_and_then (λ name. get (evicted_all names t).entries name) o) ≡ blocks_in (option_and_then (λ name. get t.entries name) o)
  blocks_named names t None = refl
  blocks_named names t (Some name) = elim (cases_Bool (stands_in name names)) [
    | inl here ↦ ap blocks_in (get-evicted names t name here) ∙ blocks-evicted (get t.entries name)
    | inr other ↦ ap blocks_in (get-evicted_other names t name other)
  ]

  pub blocks_at-kept : (names : List ℕ) (t : Pages (Entry S)) (key : ℕ) → blocks_at (evicted_all names t) key ≡ blocks_at t key
  blocks_at-kept names t key = blocks_named names t (get t.names key)

  pub blocks_of-kept : (names : List ℕ) (t : Pages (Entry S)) (keys : List ℕ) → blocks_of (evicted_all names t) keys ≡ blocks_of t keys
  blocks_of-kept names t keys = sum_by-same (λ key. blocks_at (evicted_all names t) key) (λ key. blocks_at t key) (blocks_at-kept names t) keys
