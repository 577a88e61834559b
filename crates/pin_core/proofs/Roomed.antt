-- Clean pages have made room.
use Rattle.std.proofs.Common.{◌≡◌, ℕ, ◌+◌, ◌<◌, ◌≤◌, List, [], ◌++◌, drop, length, ap, sym, ◌∙◌, arith}
use Rattle.std.proofs.lemmas.List.{take-append-drop, length-map, length-take}
use Rattle.block_arena.specs.Memory.{Supply}
use Rattle.page_table.specs.declared.entry.Entry.{Entry}
use Rattle.page_table.specs.Pages.{Pages as Table}
use Rattle.clean_evict.specs.Cleans.{Cleans, without_oldest}
use Rattle.clean_evict.specs.Eviction.{name_at, names_of, blocks_of, fewest, evicted_all, with_freed}
use Rattle.clean_evict.proofs.Kept.{blocks-there}
use Rattle.clean_evict.proofs.Fewest.{fewest-le-wanted, fewest-le-length}
use Rattle.pool_model.specs.State.{shown}
use Rattle.pin_core.specs.declared.kept.Kept.{Kept}
use Rattle.pin_core.specs.declared.parts.Parts.{Parts}
use Rattle.pin_core.specs.Lawful.{Lawful}
use Rattle.pin_core.specs.Invariant.{IsKept}
use Rattle.pin_core.specs.calls.Evictions.{keys_gone, with_room}
use Rattle.pin_core.proofs.Cleaned.{IsCleanAt, clean_page}
use Rattle.pin_core.proofs.EvictAll.{Evicted, all_evicted, all_is}
use Rattle.pin_core.proofs.CleanRoom.{entries_small}

module _ {D : Type 0} (v : Parts D) (is_kept : IsKept v) (laws : Lawful v) (blocks : ℕ) where
  abbrev count : ℕ
  count = fewest blocks v.arena v.pages v.clean.keys

  pub few_go : blocks ≤ 256 → count ≤ 256
  few_go few =
      let most = fewest-le-wanted blocks v.arena v.pages v.clean.keys (λ key s.
      let c : IsCleanAt v key = clean_page v is_kept laws.proper key s in
      let some : 0 < c.page.blocks = c.at.blocks.0 in
      let them = blocks-there v.pages key c.name c.page c.live c.there in
      omega (arith, some, them)) in
      omega (arith, most, few)

  pub keys_split : v.clean.keys ≡ keys_gone blocks v ++ drop count v.clean.keys
  keys_split = sym (take-append-drop count v.clean.keys)

  keys_len : length (keys_gone blocks v) ≡ count
  keys_len =
      let cut = length-take count v.clean.keys in
      let most = fewest-le-length blocks v.arena v.pages v.clean.keys in
      omega (arith, cut, most)

  -- all is kept with room, and the parts stand for the evictions
  pub room_made : (maker : ℕ) → maker < 240 → Evicted maker (keys_gone blocks v) v (with_room blocks v)
  room_made maker makes = all_evicted maker makes (keys_gone blocks v) (drop count v.clean.keys) v is_kept laws keys_split

  -- the parts as the code leaves them
  pub room_is : (t : Table (Entry (Kept D))) → t ≡ evicted_all (names_of v.pages (keys_gone blocks v)) v.pages
      → (clean : Cleans) → clean ≡ without_oldest count v.clean → (arena : Supply) → arena ≡ with_freed (blocks_of v.pages (keys_gone blocks v)) v.arena
      → (told first : List ℕ) → first ≡ [] → told ≡ first ++ names_of v.pages (keys_gone blocks v) → (gone entries : ℕ) → gone ≡ length told → entries ≡ shown (v.entries + gone)
      → record v { pages = t; clean = clean; arena = arena; entries = entries } ≡ with_room blocks v
  room_is t t_is clean clean_is arena arena_is told first first_is told_is gone entries gone_is entries_is =
      let none : told ≡ names_of v.pages (keys_gone blocks v) = told_is ∙ ap (λ (l : List ℕ). l ++ names_of v.pages (keys_gone blocks v)) first_is in
      let many : gone ≡ length (keys_gone blocks v) = gone_is ∙ ap (λ (l : List ℕ). length l) none ∙ length-map (keys_gone blocks v) (name_at v.pages) in
      let cleans : clean ≡ record v.clean { keys = drop (length (keys_gone blocks v)) v.clean.keys } = clean_is ∙ ap (λ (n : ℕ). without_oldest n v.clean) (sym keys_len) in
      let numbers : entries ≡ shown (v.entries + length (keys_gone blocks v)) = entries_is ∙ ap (λ (n : ℕ). shown (v.entries + n)) many in
      (λ i. record v { pages = t_is i; clean = cleans i; arena = arena_is i; entries = numbers i })
      ∙ sym (all_is (keys_gone blocks v) v (entries_small v is_kept))
