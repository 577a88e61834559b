-- When pages may go to scratch and come back. Each row is what its event needs.
use Rattle.std.specs.Prelude.{◌≡◌, ◌≢◌, ℕ, ◌<◌, ◌≤◌, ◌⊎◌, List, [], ◌∷◌, ◌++◌, Some}
use Rattle.std.specs.FinMap.{get}
use Rattle.reservation_tree.specs.declared.mark.Mark.{Mark}
use Rattle.pool_model.specs.Makers.{IsSession}
use Rattle.pool_model.specs.State.{Dirty, Flying, Loading, Clean, Page, State, dirty_of}
use Rattle.pool_model.specs.Owning.{IsPageOf}

-- a count rose from the first number to the second, or stands at the greatest that is counted
abbrev pub IsFault : ℕ → ℕ → Type 0
IsFault before after = (before < after) ⊎ ((18446744073709551615 ≤ before) × (before ≡ after))

pub record MayEndRead (s : State) (maker p : ℕ) : Type 0 where
  pub page : Page
  pub own : IsPageOf s maker p page
  pub loading : page.place ≡ Loading

pub record MayFailRead (s : State) (maker p before after : ℕ) : Type 0 where
  pub ends : MayEndRead s maker p
  pub fault : IsFault before after

-- a load gave a block whose mark isn't the one under which it was stored last
pub record MayFindStale (s : State) (maker p : ℕ) (wanted found : Mark) : Type 0 where
  pub ends : MayEndRead s maker p
  pub name : wanted.name ≡ p
  pub version : wanted.version ≡ ends.page.version
  pub block : wanted.block < ends.page.blocks
  pub other : found ≢ wanted

-- a session writes its own pages, a writer those of all; the newest of the client's dirty pages goes first
pub record MayStartWrite (s : State) (maker p : ℕ) : Type 0 where
  pub page : Page
  pub lives : get s.pages p ≡ Some page
  pub own : IsSession maker → page.session ≡ maker
  pub dirty : page.place ≡ Dirty
  pub older : List ℕ
  pub newest : dirty_of s page.client ≡ older ++ p ∷ []

pub record MayEndWrite (s : State) (maker p : ℕ) : Type 0 where
  pub page : Page
  pub lives : get s.pages p ≡ Some page
  pub flying : page.place ≡ Flying maker

pub record MayFailWrite (s : State) (maker p before after : ℕ) : Type 0 where
  pub ends : MayEndWrite s maker p
  pub fault : IsFault before after

-- any session evicts any clean page; the one that has been clean longest goes first
pub record MayEvict (s : State) (p : ℕ) : Type 0 where
  pub page : Page
  pub lives : get s.pages p ≡ Some page
  pub clean : page.place ≡ Clean
  pub newer : List ℕ
  pub oldest : s.clean ≡ p ∷ newer
