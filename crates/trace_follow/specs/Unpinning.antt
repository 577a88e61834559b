-- A page is left by its only pin, whatever its bytes are.
use Rattle.std.specs.Prelude.{◌≡◌, ◌≤◌, ◌⊎◌, ◌+◌, ℕ, true}
use Rattle.std.specs.FinMap.{insert}
use Rattle.pool_model.specs.Bytes.{only_if}
use Rattle.pool_model.specs.State.{Pinned, Page, State}
use Rattle.pool_model.specs.Sums.{free_slots}
use Rattle.pool_model.specs.Owning.{IsPageOf}
use Rattle.trace_follow.specs.declared.rows.PageRow.{PageRow}
use Rattle.trace_follow.specs.declared.follower.Follower.{Follower}
use Rattle.trace_follow.specs.Tables.{amount_at}

-- the page has one pin, and slots or enough free ones for them
pub record CanUnpin (s : State) (maker p : ℕ) : Type 0 where
  pub page : Page
  pub own : IsPageOf s maker p page
  pub pinned : page.place ≡ Pinned 1
  pub slots : (page.has_slots ≡ true) ⊎ (page.blocks ≤ free_slots s maker)

-- the page's session has lent it slots from now on
pub record LendsSlots (old new : Follower) (row : PageRow) : Type 0 where
  pub lent : ℕ
  pub is : new ≡ record old { lent = insert old.lent row.session lent }
  pub slots : lent + only_if row.has_slots row.blocks ≡ amount_at old.lent row.session + row.blocks
