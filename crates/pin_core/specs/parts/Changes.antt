-- What single calls change in the parts: how an entry is found, and how entries are counted.
use Rattle.std.specs.Prelude.{ℕ, ◌+◌, unwrap_or}
use Rattle.std.specs.FinMap.{get}
use Rattle.page_table.specs.declared.entry.Place.TheVariants as spot
use Rattle.page_table.specs.declared.entry.Mem.TheVariants as mem
use Rattle.page_table.specs.declared.entry.Entry.{Entry}
use Rattle.page_table.specs.Pages.{Pages as Table}
use Rattle.pool_model.specs.State.{shown}
use Rattle.pin_core.specs.declared.kept.Kept.{Kept}
use Rattle.pin_core.specs.declared.kept.Kept.TheVariants as kept
use Rattle.pin_core.specs.declared.parts.Parts.{Parts}

module _ {D : Type 0} where
  -- what is read where no page is live
  abbrev pub no_entry : Entry (Kept D)
  no_entry = record { name = 0; session = 0; client = 0; blocks = 0; version = 0; place = spot.Evicted; mem = mem.Out; scratch = kept.Out }

  abbrev pub entry_in : Table (Entry (Kept D)) → ℕ → Entry (Kept D)
  entry_in t name = unwrap_or (get t.entries name) no_entry

  abbrev pub entry_at : Parts D → ℕ → Entry (Kept D)
  entry_at v name = entry_in v.pages name

  -- an entry of the history was counted
  abbrev pub counted : Parts D → Parts D
  counted v = record v { entries = shown (v.entries + 1) }
