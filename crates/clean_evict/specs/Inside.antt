-- How far a call that makes room has come. No public clause cites this module.
use Rattle.std.specs.Prelude.{◌≡◌, ℕ, ◌+◌, ◌<◌, ◌≤◌, ◌++◌, List, length, take}
use Rattle.block_arena.specs.Memory.{Supply}
use Rattle.page_table.specs.declared.entry.Entry.{Entry}
use Rattle.page_table.specs.Pages.{Pages}
use Rattle.clean_evict.specs.Cleans.{Cleans, without_oldest}
use Rattle.clean_evict.specs.Eviction.{names_of, blocks_of, with_freed, IsCleanList, evicted_all}

module _ {S : Type 0} where
  -- the first pages of the list, so many, were evicted and told, and nothing else changed
  pub record Evicts (count : ℕ) (list list_new : Cleans) (arena arena_new : Supply) (pages pages_new : Pages (Entry S)) (told told_new : List ℕ) : Type 0 where
    pub list_left : list_new ≡ without_oldest count list
    pub freed : arena_new ≡ with_freed (blocks_of pages (take count list.keys)) arena
    pub evicted : pages_new ≡ evicted_all (names_of pages (take count list.keys)) pages
    pub named : told_new ≡ told ++ names_of pages (take count list.keys)
    pub clean : IsCleanList arena_new pages_new list_new.keys

  -- a call that makes room for `wanted` blocks has evicted that many pages, and none that it didn't need
  pub record HasFreed (wanted count : ℕ) (list list_new : Cleans) (arena arena_new : Supply) (pages pages_new : Pages (Entry S)) (told told_new : List ℕ) : Type 0 where
    pub within : count ≤ length list.keys
    pub short : (k : ℕ) → k < count → arena.free + blocks_of pages (take k list.keys) < wanted
    pub gone : Evicts count list list_new arena arena_new pages pages_new told told_new
