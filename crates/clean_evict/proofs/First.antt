-- The page that has been clean longest goes.
use Rattle.std.proofs.Common.{◌≡◌, ℕ, ◌+◌, ◌≤◌, false, eqb, List, [], ◌∷◌, ◌++◌, Option, Some, None, IsSome, option_map, unwrap_or, slice_get, refl, ap, sym, ◌∙◌, subst, arith}
use Rattle.std.specs.FinMap.{get}
use Rattle.std.specs.List.{IsDistinct}
use Rattle.std.proofs.lemmas.Bool.{false≢true, eq-eqb, or_right}
use Rattle.std.proofs.lemmas.List.Sums.{sum_by-cons}
use Rattle.block_arena.specs.Memory.{Supply}
use Rattle.index_list.specs.Listing.{stands_in, others}
use Rattle.index_list.proofs.Members.{apart, others-all}
use Rattle.index_list.proofs.Places.{front-others, stands-from_get}
use Rattle.page_table.specs.declared.page_id.PageId.{PageId}
use Rattle.page_table.specs.declared.entry.Entry.{Entry}
use Rattle.page_table.specs.Pages.{Pages, IsProper, id_of, with_entry}
use Rattle.reservation_tree.proofs.Maps.{get_other}
use Rattle.page_table.proofs.Entries.{one_of}
use Rattle.clean_evict.specs.Cleans.{Cleans, without}
use Rattle.clean_evict.specs.Eviction.{name_at, blocks_at, blocks_of, with_freed, evicted, evicted_all, IsCleanPage, IsCleanList}
use Rattle.clean_evict.specs.Inside.{Evicts}
use Rattle.clean_evict.proofs.Changed.{evicted-one, blocks_of-kept}

abbrev id_with : ℕ → Option ℕ → Option PageId
id_with key o = option_map (λ name. record { name = name; key = key }) o

some-is : (o : Option ℕ) (name : ℕ) → o ≡ Some name → (key : ℕ) → IsSome (id_with key o)
some-is None name e key = absurd (cc)
some-is (Some n) name e key = refl

front-left : (key : ℕ) (rest : List ℕ) → stands_in key rest ≡ false → others key (key ∷ rest) ≡ rest
front-left key rest fresh = rw (eq-eqb key key refl) (others-all key rest fresh)

not-again : (key : ℕ) (rest : List ℕ) → IsDistinct eqb (key ∷ rest) → stands_in key rest ≡ false
unfolding IsDistinct
not-again key rest d = apart key rest d.0

module _ {S : Type 0} where
  -- a page that is on the list has an id
  pub id-there : (pages : Pages (Entry S)) (key name : ℕ) → get pages.names key ≡ Some name → IsSome (id_of pages key)
  id-there pages key name live = some-is (get pages.names key) name live key

  pub id-is : (pages : Pages (Entry S)) (key name : ℕ) (id : PageId) → get pages.names key ≡ Some name → id_of pages key ≡ Some id → record { name = name; key = key } ≡ id
  id-is pages key name id live e = one_of (id_of pages key) (record { name = name; key = key }) id (ap (id_with key) live) e

  -- a page whose key is another one stays clean
  still-clean : (pages : Pages (Entry S)) (key name block_len : ℕ) (new : Entry S) → IsProper pages → get pages.names key ≡ Some name → (q : ℕ) → (q ≡ key → ⊥) → IsCleanPage block_len pages q → IsCleanPage block_len (with_entry pages (record { name = name; key = key }) new) q
  still-clean pages key name block_len new proper live q other c = record {
    name = c.name;
    page = c.page;
    buffer = c.buffer;
    live = c.live;
    there = get_other pages.entries name new c.name (λ same. other (proper.apart q key c.name c.live (live ∙ ap Some (sym same)))) ∙ c.there;
    clean = c.clean;
    held = c.held;
    whole = c.whole;
  }

  blocks-first : (pages : Pages (Entry S)) (key : ℕ) (rest : List ℕ) → blocks_of pages (key ∷ rest) ≡ blocks_at pages key + blocks_of pages rest
  blocks-first pages key rest = sum_by-cons (λ k. blocks_at pages k) key rest

  pub blocks-one : (pages : Pages (Entry S)) (key : ℕ) → blocks_at pages key ≡ blocks_of pages (key ∷ [])
  blocks-one pages key = omega (arith, blocks-first pages key [])

  -- the first page of the list goes
  front-gone : (nodes key : ℕ) (rest : List ℕ) (arena : Supply) (pages : Pages (Entry S)) (told : List ℕ) (c : IsCleanPage arena.block_len pages key) → stands_in key rest ≡ false → IsProper pages → IsCleanList arena pages (key ∷ rest) → Evicts 1 (record { nodes = nodes; keys = key ∷ rest }) (without key (record { nodes = nodes; keys = key ∷ rest })) arena (with_freed (blocks_at pages key) arena) pages (with_entry pages (record { name = c.name; key = key }) (evicted c.page)) told (told ++ c.name ∷ [])
  front-gone nodes key rest arena pages told c fresh proper clean =
      let id : PageId = record { name = c.name; key = key } in
      let new : Pages (Entry S) = with_entry pages id (evicted c.page) in
      let left = front-left key rest fresh in
      let name : c.name ≡ name_at pages key = sym (ap (λ (o : Option ℕ). unwrap_or o 0) c.live) in
      let one : new ≡ evicted_all (c.name ∷ []) pages = evicted-one pages id c.page c.there in
      let those : new ≡ evicted_all (name_at pages key ∷ []) pages = one ∙ ap (λ (n : ℕ). evicted_all (n ∷ []) pages) name in
      let blocks : blocks_of new rest ≡ blocks_of pages rest = ap (λ (t : Pages (Entry S)). blocks_of t rest) one ∙ blocks_of-kept (c.name ∷ []) pages rest in
      let room = clean.fits in
      let rest_clean : IsCleanList (with_freed (blocks_at pages key) arena) new rest = record {
        clean = λ q s. still-clean pages key c.name arena.block_len (evicted c.page) proper c.live q (λ same. false≢true (sym fresh ∙ ap (λ (n : ℕ). stands_in n rest) (sym same) ∙ s)) (clean.clean q (or_right (eqb q key) (stands_in q rest) s));
        fits = omega (arith, room, blocks-first pages key rest, blocks);
      } in
      record {
        list_left = ap (λ (ks : List ℕ). record { nodes = nodes; keys = ks }) left;
        freed = ap (λ (n : ℕ). with_freed n arena) (blocks-one pages key);
        evicted = those;
        named = ap (λ (n : ℕ). told ++ n ∷ []) name;
        clean = subst (λ (ks : List ℕ). IsCleanList (with_freed (blocks_at pages key) arena) new ks) (sym left) rest_clean;
      }

  -- its blocks fit the arena
  pub fits-first : (list : Cleans) (arena : Supply) (pages : Pages (Entry S)) (key : ℕ) (id : PageId) → IsDistinct eqb list.keys → slice_get list.keys 0 ≡ Some key → id_of pages key ≡ Some id → IsCleanList arena pages list.keys → arena.free + blocks_at pages id.key ≤ arena.blocks
  fits-first list arena pages key id once first found clean =
      let c = clean.clean key (stands-from_get list.keys 0 key first) in
      let is : record { name = c.name; key = key } ≡ id = id-is pages key c.name id c.live found in
      let same : blocks_at pages key ≡ blocks_at pages id.key = ap (λ (i : PageId). blocks_at pages i.key) is in
      let shape = ap (λ (ks : List ℕ). blocks_of pages ks) (front-others key list.keys once first) in
      let fits = clean.fits in
      omega (arith, fits, same, shape, blocks-first pages key (others key list.keys))

  -- the page that has been clean longest goes
  pub oldest-gone : (list list_new : Cleans) (arena arena_new : Supply) (pages pages_new : Pages (Entry S)) (told told_new : List ℕ) (key : ℕ) (id : PageId) → IsProper pages → IsDistinct eqb list.keys → slice_get list.keys 0 ≡ Some key → id_of pages key ≡ Some id → IsCleanList arena pages list.keys → list_new ≡ without key list → arena_new ≡ with_freed (blocks_at pages id.key) arena → ((page : Entry S) → get pages.entries id.name ≡ Some page → pages_new ≡ with_entry pages id (evicted page)) → told_new ≡ told ++ id.name ∷ [] → Evicts 1 list list_new arena arena_new pages pages_new told told_new
  oldest-gone list list_new arena arena_new pages pages_new told told_new key id proper once first found clean left freed written named =
      let rest = others key list.keys in
      let shape : list.keys ≡ key ∷ rest = front-others key list.keys once first in
      let c = clean.clean key (stands-from_get list.keys 0 key first) in
      let is : record { name = c.name; key = key } ≡ id = id-is pages key c.name id c.live found in
      let d : IsDistinct eqb (key ∷ rest) = subst (λ (ks : List ℕ). IsDistinct eqb ks) shape once in
      let from : IsCleanList arena pages (key ∷ rest) = subst (λ (ks : List ℕ). IsCleanList arena pages ks) shape clean in
      let gone = front-gone list.nodes key rest arena pages told c (not-again key rest d) proper from in
      let from_list : Evicts 1 list (without key list) arena (with_freed (blocks_at pages key) arena) pages (with_entry pages (record { name = c.name; key = key }) (evicted c.page)) told (told ++ c.name ∷ []) =
      subst (λ (ks : List ℕ). Evicts 1 (record { nodes = list.nodes; keys = ks }) (without key (record { nodes = list.nodes; keys = ks })) arena (with_freed (blocks_at pages key) arena) pages (with_entry pages (record { name = c.name; key = key }) (evicted c.page)) told (told ++ c.name ∷ [])) (sym shape) gone in
      let under_id : Evicts 1 list (without key list) arena (with_freed (blocks_at pages id.key) arena) pages (with_entry pages id (evicted c.page)) told (told ++ id.name ∷ []) =
      subst (λ (i : PageId). Evicts 1 list (without key list) arena (with_freed (blocks_at pages i.key) arena) pages (with_entry pages i (evicted c.page)) told (told ++ i.name ∷ [])) is from_list in
      let there : get pages.entries id.name ≡ Some c.page = subst (λ (i : PageId). get pages.entries i.name ≡ Some c.page) is c.there in
      rw (left, freed, written c.page there, named) under_id
