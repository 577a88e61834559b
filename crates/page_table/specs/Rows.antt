-- The rows of a table: what they stand for, and what is kept of them. About private fields.
use Rattle.std.specs.Prelude.{◌≡◌, ℕ, ◌<◌, ◌≤◌, Some}
use Rattle.std.specs.FinMap.{len}
use Rattle.slab.specs.Slab.{Slab, get, slab_len}
use Rattle.page_table.specs.declared.row.Row.{Row}
use Rattle.page_table.specs.Pages.{Pages}
use Rattle.page_table.specs.Slots.{names_in, entries_in}

module _ {E : Type 0} where
  -- the pages of these rows
  abbrev pub pages_in : Slab (Row E) → ℕ → ℕ → Pages E
  pages_in rows next_name room =
      record { entries = entries_in rows; names = names_in rows; next_name = next_name; room = room }

  -- no two rows have one name
  abbrev pub AreApart : Slab (Row E) → Type 0
  AreApart rows = (key other : ℕ) (row row2 : Row E) → get rows key ≡ Some row → get rows other ≡ Some row2 → row.name ≡ row2.name → key ≡ other

  -- what is kept of the rows
  pub record IsSound (rows : Slab (Row E)) (next_name room : ℕ) : Type 0 where
    pub apart : AreApart rows
    pub below : (key : ℕ) (row : Row E) → get rows key ≡ Some row → row.name < next_name
    pub keys : (key : ℕ) (row : Row E) → get rows key ≡ Some row → key < room
    pub counted : slab_len rows ≡ len (entries_in rows)
    pub few : len (entries_in rows) ≤ room
    pub capacity : rows.capacity ≡ room
