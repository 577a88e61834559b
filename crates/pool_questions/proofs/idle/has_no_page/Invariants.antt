use Rattle.std.proofs.Common.{◌≡◌, ◌≢◌, ℕ, ◌<◌, Some}
use Rattle.std.specs.FinMap.{get}
use Rattle.page_table.specs.declared.entry.Entry.{Entry as Page}
use Rattle.pin_core.specs.declared.kept.Kept.{Kept as Slots}
use Rattle.pool_questions.proofs.idle.has_no_page.Given as goal

abbrev pub invariant-loop-key : goal.invariant-loop-key
invariant-loop-key g l = (k name : ℕ) (x : Page (Slots _)) → k < l.key → get l.pages.names k ≡ Some name → get l.pages.entries name ≡ Some x → x.client ≢ l.client
