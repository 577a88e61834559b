-- What a table ends as, where a `&mut` to an entry is returned.
use Rattle.std.specs.Prelude.{Option}
use Rattle.std.specs.Borrow.{Lends, LendsIf, Fml, RattleType, MutBor}
use Rattle.page_table.specs.declared.page_id.PageId.{PageId}
use Rattle.page_table.specs.declared.entry.Entry.{Entry}
use Rattle.page_table.specs.contracts.entry.Entry.{the_row as entry_row}
use Rattle.page_table.specs.contracts.table.PageTable.{the_row}
use Rattle.page_table.specs.Pages.{Pages, with_entry}

module _ (S : RattleType) (t : MutBor (Pages (Entry S.Denot))) (id : PageId) where
  -- once the borrow r ends, the page has the last entry written through r
  abbrev pub lends_entry : MutBor (Entry S.Denot) → Fml
  lends_entry r = Lends (the_row S) (entry_row S) t r (with_entry t.now id)

  -- the same where r is a reference, and at `None` the table stays as it is
  abbrev pub lends_get : Option (MutBor (Entry S.Denot)) → Fml
  lends_get r = LendsIf (the_row S) (entry_row S) t r (with_entry t.now id) t.now
