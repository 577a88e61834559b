-- For which histories a follower stands, and what it judges.
use Rattle.std.specs.Prelude.{◌≡◌, ◌↔◌, ◌<◌, ℕ, Bool, IsTrue, List, [], ◌∷◌, ◌++◌, length, Some, IsSome}
use Rattle.std.specs.FinMap.{get}
use Rattle.pool_model.specs.declared.entry.Entry.{Entry}
use Rattle.pool_model.specs.declared.skeleton.Skeleton.{Skeleton}
use Rattle.pool_model.specs.State.{Opening}
use Rattle.pool_model.specs.LookingBack.{HasAsked}
use Rattle.pool_model.specs.Failures.{last_failed_read}
use Rattle.pool_model.specs.MayFollow.{MayFollow}
use Rattle.pool_model.specs.Traces.{skeleton_of, CanFollow}
use Rattle.pool_model.specs.Legal.{IsLegal, state_after}
use Rattle.trace_follow.specs.declared.opened.Opened.{Opened}
use Rattle.trace_follow.specs.declared.rows.Asked.{Asked}
use Rattle.trace_follow.specs.declared.follower.Follower.{Follower}
use Rattle.trace_follow.specs.Showing.{Shows}

-- a pool was opened with these blocks and this first name
pub record OpensWith (opened : Opened) (o : Opening) : Type 0 where
  pub blocks : o.blocks ≡ opened.blocks
  pub block_len : o.block_len ≡ opened.block_len
  pub first_name : o.first_name ≡ opened.first_name

-- what refusals ask of the entries before: which sessions have made a call, and their last reads that failed since
pub record TellsBefore (v : Follower) (h : List Entry) : Type 0 where
  pub entries : v.entries ≡ length h
  pub asked : (maker : ℕ) → IsSome (get v.asked maker) ↔ HasAsked h maker
  pub reads : (maker : ℕ) (since : Asked) → get v.asked maker ≡ Some since → (p : ℕ) → get since.reads p ≡ last_failed_read h maker p
  pub earlier : (maker : ℕ) (since : Asked) → get v.asked maker ≡ Some since → (p i : ℕ) → get since.reads p ≡ Some i → i < v.entries

-- the follower stands for this history
pub record StandsFor (v : Follower) (o : Opening) (h : List Entry) : Type 0 where
  pub legal : IsLegal o h
  pub shows : Shows v (state_after o h)
  pub tells : TellsBefore v h

-- this is whether some entry with the skeleton may follow
abbrev pub Judges : Follower → Skeleton → Bool → Type 0
Judges v k may = (o : Opening) (h : List Entry) → StandsFor v o h → IsTrue may ↔ CanFollow h (state_after o h) k

-- after an entry with the skeleton the follower stands for the longer history
abbrev pub Follows : Follower → Follower → Skeleton → Type 0
Follows old new k = (o : Opening) (h : List Entry) (e : Entry) → StandsFor old o h → skeleton_of e ≡ k → MayFollow h (state_after o h) e → StandsFor new o (h ++ e ∷ [])
