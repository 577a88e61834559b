-- What a page that ends gives back.
use Rattle.std.specs.Prelude.{ℕ, ◌≡◌, ◌+◌, ◌≤◌, Bool, true, false, Option, Some, None, option_map, unwrap_or}
use Rattle.std.specs.Bool.{⊤}
use Rattle.block_arena.specs.Memory.{Buffer, Supply, IsBufferOf}
use Rattle.page_table.specs.declared.entry.Place.{Place as Spot}
use Rattle.page_table.specs.declared.entry.Place.TheVariants as spot
use Rattle.page_table.specs.declared.entry.Mem.{Mem}
use Rattle.page_table.specs.declared.entry.Mem.TheVariants as mem
use Rattle.client_lists.specs.Clients.{Clients, without_node}
use Rattle.clean_evict.specs.Cleans.{Cleans, without}
use Rattle.scratch_dev.specs.Pool.{Scratch, with_given}
use Rattle.pin_core.specs.declared.kept.Kept.{Kept}
use Rattle.pin_core.specs.declared.kept.Kept.TheVariants as kept

-- the page is on one of its client's lists
abbrev pub is_listed : Spot → Bool
is_listed (spot.Pinned count) = true
is_listed spot.Dirty = true
is_listed _ = false

-- a page in this place is on no list any more
abbrev pub lists_left : Spot → ℕ → Clients → Clients
lists_left (spot.Pinned count) key t = without_node key t
lists_left spot.Dirty key t = without_node key t
lists_left _ key t = t

abbrev pub clean_left : Spot → ℕ → Cleans → Cleans
clean_left spot.Clean key t = without key t
clean_left _ key t = t

-- the buffer that a page keeps in the table, and else this one
abbrev pub held_in : Mem → Option Buffer → Option Buffer
held_in (mem.Held buf) given = Some buf
held_in _ given = given

abbrev pub blocks_in : Option Buffer → ℕ
blocks_in buf = unwrap_or (option_map (λ b. b.blocks) buf) 0

-- the blocks can be taken back
pub record TakesBack (arena : Supply) (buf : Buffer) : Type 0 where
  pub len : buf.block_len ≡ arena.block_len
  pub room : arena.free + buf.blocks ≤ arena.blocks

abbrev pub IfHeld : (Buffer → Type 0) → Option Buffer → Type 0
IfHeld holds None = ⊤
IfHeld holds (Some buf) = holds buf

-- a pinned page comes with its buffer, another one without; none is in a job
abbrev pub IsGiven : ℕ → ℕ → Spot → Option Buffer → Type 0
IsGiven len blocks (spot.Pinned count) (Some buf) = IsBufferOf blocks len buf
IsGiven len blocks spot.Dirty None = ⊤
IsGiven len blocks spot.Clean None = ⊤
IsGiven len blocks spot.Evicted None = ⊤
IsGiven len blocks _ _ = ⊥

module _ {D : Type 0} where
  -- the slots of a page came back
  abbrev pub slots_back : ℕ → Kept D → Scratch D → Scratch D
  slots_back q (kept.Held row) s = with_given q row s
  slots_back q _ s = s
