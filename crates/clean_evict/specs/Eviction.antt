-- How clean pages make room. Keys and names run from the page that has been clean longest on; room is
-- counted in blocks.
use Rattle.std.specs.Prelude.{◌≡◌, ℕ, ◌+◌, ◌≤◌, true, List, [], ◌∷◌, Option, Some, None, map, length, take, option_map, unwrap_or, nat_le}
use Rattle.std.specs.Ordering.{nat_cmp}
use Rattle.std.specs.FinMap.{FinMap, get, insert}
use Rattle.std.specs.List.{sum_by, position_or_len, range_with_len}
use Rattle.std.specs.Option.{option_and_then}
use Rattle.block_arena.specs.Memory.{Supply, Buffer, IsBufferOf}
use Rattle.index_list.specs.Listing.{stands_in}
use Rattle.page_table.specs.declared.entry.Entry.{Entry}
use Rattle.page_table.specs.declared.entry.Mem.TheVariants.{Held, Empty}
use Rattle.page_table.specs.declared.entry.Place.TheVariants.{Clean, Evicted}
use Rattle.page_table.specs.Pages.{Pages}

module _ {S : Type 0} where
  -- the name of the live page with this key
  abbrev pub name_at : Pages (Entry S) → ℕ → ℕ
  name_at pages key = unwrap_or (get pages.names key) 0

  -- its entry
  abbrev pub entry_at : Pages (Entry S) → ℕ → Option (Entry S)
  entry_at pages key = option_and_then (λ name. get pages.entries name) (get pages.names key)

  -- how many blocks it has
  abbrev pub blocks_at : Pages (Entry S) → ℕ → ℕ
  blocks_at pages key = unwrap_or (option_map (λ page. page.blocks) (entry_at pages key)) 0

  -- the names of these pages
  abbrev pub names_of : Pages (Entry S) → List ℕ → List ℕ
  names_of pages keys = map (λ key. name_at pages key) keys

  -- how many blocks they have together
  abbrev pub blocks_of : Pages (Entry S) → List ℕ → ℕ
  blocks_of pages keys = sum_by (λ key. blocks_at pages key) keys

  -- the key is that of a live page that is clean and holds its blocks, each of this length
  pub record IsCleanPage (block_len : ℕ) (pages : Pages (Entry S)) (key : ℕ) : Type 0 where
    pub name : ℕ
    pub page : Entry S
    pub buffer : Buffer
    pub live : get pages.names key ≡ Some name
    pub there : get pages.entries name ≡ Some page
    pub clean : page.place ≡ Clean
    pub held : page.mem ≡ Held buffer
    pub whole : IsBufferOf page.blocks block_len buffer

  -- the keys are those of clean pages, whose blocks and the free ones are at most those of the arena
  pub record IsCleanList (arena : Supply) (pages : Pages (Entry S)) (keys : List ℕ) : Type 0 where
    pub clean : (key : ℕ) → stands_in key keys ≡ true → IsCleanPage arena.block_len pages key
    pub fits : arena.free + blocks_of pages keys ≤ arena.blocks

  -- how many pages have to go: the fewest of these keys' first ones whose blocks, with the free ones,
  -- cover the room that is wanted
  unfoldable pub fewest : ℕ → Supply → Pages (Entry S) → List ℕ → ℕ
  fewest wanted arena pages keys =
      position_or_len (λ count. nat_le wanted (arena.free + blocks_of pages (take count keys))) (range_with_len 0 (length keys))

  -- the keys of the pages that have to go
  abbrev pub going : ℕ → Supply → Pages (Entry S) → List ℕ → List ℕ
  going wanted arena pages keys = take (fewest wanted arena pages keys) keys

  -- a page as it is once it was evicted: out of memory, with room for its blocks
  abbrev pub evicted : Entry S → Entry S
  evicted page = record page { place = Evicted; mem = Empty page.blocks }

  -- the entries, of which the page of this name was evicted, where there is one
  abbrev pub evicted_if : Option (Entry S) → ℕ → FinMap nat_cmp (Entry S) → FinMap nat_cmp (Entry S)
  evicted_if None name entries = entries
  evicted_if (Some page) name entries = insert entries name (evicted page)

  -- the entries once the pages of these names were evicted, the first name first
  abbrev pub entries_after : List ℕ → FinMap nat_cmp (Entry S) → FinMap nat_cmp (Entry S)
  entries_after [] entries = entries
  entries_after (name ∷ names) entries = entries_after names (evicted_if (get entries name) name entries)

  -- the table once the page of this name was evicted; a name that no page has changes nothing
  abbrev pub evicted_at : ℕ → Pages (Entry S) → Pages (Entry S)
  evicted_at name t = record t { entries = evicted_if (get t.entries name) name t.entries }

  -- the table once the pages of these names were evicted
  abbrev pub evicted_all : List ℕ → Pages (Entry S) → Pages (Entry S)
  evicted_all names t = record t { entries = entries_after names t.entries }

-- that many more blocks of the arena are free
abbrev pub with_freed : ℕ → Supply → Supply
with_freed count arena = record arena { free = arena.free + count }
