-- What is noted of failures: for a session that has made a call, since the last one.
use Rattle.std.specs.Prelude.{◌≡◌, ◌≢◌, ◌<◌, ℕ, option_map}
use Rattle.std.specs.Ordering.{nat_cmp}
use Rattle.std.specs.FinMap.{FinMap, get, insert}
use Rattle.reservation_tree.specs.declared.mark.Mark.{Mark}
use Rattle.pool_model.specs.State.{State}
use Rattle.pool_model.specs.ScratchRows.{MayEndRead}
use Rattle.pool_model.specs.Parts.{keep_first}
use Rattle.trace_follow.specs.declared.rows.Asked.{Asked}

-- what one session keeps has changed
pub record ChangesAsked (change : Asked → Asked) (old new : FinMap nat_cmp Asked) (maker : ℕ) : Type 0 where
  pub here : get new maker ≡ option_map change (get old maker)
  pub there : (k : ℕ) → k ≢ maker → get new k ≡ get old k

-- the first failure of a client is kept
abbrev pub failing : ℕ → ℕ → Asked → Asked
failing c number since = record since { failures = keep_first c number since.failures }

-- the last failed read of a page is kept
abbrev pub misreading : ℕ → ℕ → Asked → Asked
misreading p number since = record since { reads = insert since.reads p number }

-- the session loads the page, and the mark that was found isn't the wanted one, which is of the page's last write
pub record IsStale (s : State) (maker : ℕ) (wanted found : Mark) : Type 0 where
  pub ends : MayEndRead s maker wanted.name
  pub version : wanted.version ≡ ends.page.version
  pub block : wanted.block < ends.page.blocks
  pub other : found ≢ wanted
