-- What the end of a page needs of the pool.
use Rattle.std.specs.Prelude.{◌≡◌, false, Option, Some, None}
use Rattle.block_arena.specs.Memory.{Buffer}
use Rattle.pool_model.specs.State.{State, page_at}
use Rattle.store_api.specs.Tokens.{PageToken}
use Rattle.pin_core.specs.calls.Ending.{IsPinnedWith, IsUnpinned, is_flying}

-- the page is pinned with this buffer, or rests without one and isn't written
abbrev pub CanEnd : State → PageToken → Option Buffer → Type 0
CanEnd s p None = IsUnpinned s p × (is_flying (page_at s p.name).place ≡ false)
CanEnd s p (Some buf) = IsPinnedWith s p buf
