-- Clean pages go out of memory, the one that has been clean longest first.
use Rattle.std.specs.Prelude.{ℕ, ◌≡◌, ◌+◌, ◌<◌, ◌≤◌, ◌++◌, List, [], ◌∷◌, map, length, take}
use Rattle.std.specs.List.{sum_by}
use Rattle.clean_evict.specs.Cleans.{without_oldest}
use Rattle.clean_evict.specs.Eviction.{name_at, names_of, blocks_at, going, evicted_at, with_freed}
use Rattle.pool_model.specs.declared.entry.Entry.{Entry as Event}
use Rattle.pool_model.specs.declared.event.Event.TheVariants as event
use Rattle.pool_model.specs.State.{State, shown, page_at}
use Rattle.pool_model.specs.Sums.{length_of, free_bytes}
use Rattle.pin_core.specs.declared.parts.Parts.{Parts}

-- the entries of these evictions
abbrev pub evictions : ℕ → List ℕ → List Event
evictions maker names = map (λ name. record { maker = maker; event = event.Evict name }) names

-- the blocks of these pages together
abbrev pub blocks_in : State → List ℕ → ℕ
blocks_in s names = sum_by (λ p. (page_at s p).blocks) names

-- these are the pages that have been clean longest, as few as leave so many bytes free
pub record MakesRoom (s : State) (bytes : ℕ) (names : List ℕ) : Type 0 where
  pub newer : List ℕ
  pub oldest : s.clean ≡ names ++ newer
  pub enough : bytes ≤ free_bytes s + length_of s (blocks_in s names)
  pub needed : (k : ℕ) → k < length names → free_bytes s + length_of s (blocks_in s (take k names)) < bytes

module _ {D : Type 0} where
  -- the page with this key, which has been clean longest, is out of memory
  abbrev pub evict_one : ℕ → Parts D → Parts D
  evict_one key v = record v {
    pages = evicted_at (name_at v.pages key) v.pages;
    clean = without_oldest 1 v.clean;
    arena = with_freed (blocks_at v.pages key) v.arena;
    entries = shown (v.entries + 1);
  }

  -- one after the other
  abbrev pub evict_all : List ℕ → Parts D → Parts D
  evict_all [] v = v
  evict_all (key ∷ keys) v = evict_all keys (evict_one key v)

  -- the keys of the clean pages that go, so that so many blocks are free, and their names
  abbrev pub keys_gone : ℕ → Parts D → List ℕ
  keys_gone blocks v = going blocks v.arena v.pages v.clean.keys

  abbrev pub names_gone : ℕ → Parts D → List ℕ
  names_gone blocks v = names_of v.pages (keys_gone blocks v)

  -- as few clean pages went as leave so many blocks free
  abbrev pub with_room : ℕ → Parts D → Parts D
  with_room blocks v = evict_all (keys_gone blocks v) v
