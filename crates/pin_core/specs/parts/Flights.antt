-- How pages leave for a job, and come back from it.
use Rattle.std.specs.Prelude.{ℕ, ◌+◌, [], List, Bool, true, false, Option}
use Rattle.block_arena.specs.Memory.{Buffer}
use Rattle.page_table.specs.declared.page_id.PageId.{PageId}
use Rattle.page_table.specs.declared.entry.Place.{Place as Spot}
use Rattle.page_table.specs.declared.entry.Place.TheVariants as spot
use Rattle.page_table.specs.declared.entry.Mem.{Mem}
use Rattle.page_table.specs.declared.entry.Mem.TheVariants as mem
use Rattle.page_table.specs.declared.entry.Entry.{Entry}
use Rattle.page_table.specs.Pages.{with_entry}
use Rattle.clean_evict.specs.Eviction.{name_at}
use Rattle.client_lists.specs.declared.which.Which.TheVariants as which
use Rattle.client_lists.specs.Clients.{shifted}
use Rattle.pool_model.specs.State.{shown}
use Rattle.pin_core.specs.declared.kept.Kept.{Kept}
use Rattle.pin_core.specs.declared.kept.Kept.TheVariants as kept
use Rattle.pin_core.specs.declared.jobs.WriteJob.{WriteJob}
use Rattle.pin_core.specs.declared.parts.Parts.{Parts}
use Rattle.pin_core.specs.parts.Keeping.{row_in}

-- the buffer that is held; where none is, an empty one is read
abbrev pub buffer_in : Mem → Buffer
buffer_in (mem.Held buf) = buf
buffer_in _ = record { block_len = 0; blocks = 0; bytes = [] }

-- whether a buffer is held
abbrev pub is_held_mem : Mem → Bool
is_held_mem (mem.Held buf) = true
is_held_mem _ = false

module _ {D : Type 0} where
  -- the page with this key
  abbrev pub id_with : ℕ → Parts D → PageId
  id_with key v = record { name = name_at v.pages key; key = key }

  abbrev pub put_back : Spot → Mem → List D → Entry (Kept D) → Entry (Kept D)
  put_back place m row x = record x { place = place; mem = m; scratch = kept.Held row }

  -- the page goes out to be written, by the entry of this number
  abbrev pub flying : ℕ → ℕ → Entry (Kept D) → Entry (Kept D)
  flying who version x = record x { place = spot.Flying who; version = version; mem = mem.Out; scratch = kept.Out }

  -- what a page takes along that this maker writes
  abbrev pub job_of : ℕ → Option ℕ → PageId → Entry (Kept D) → WriteJob D
  job_of who under id x = record { id = id; who = who; client = x.client; under = under; buf = buffer_in x.mem; row = row_in x.scratch; failed = false }

  -- a dirty page went out to be written
  abbrev pub flown : ℕ → PageId → Entry (Kept D) → Parts D → Parts D
  flown who id x v = record v {
    pages = with_entry v.pages id (flying who v.entries x);
    lists = shifted x.client which.Flying id.key v.lists;
    entries = shown (v.entries + 1);
  }
