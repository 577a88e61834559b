-- What an emitter leaves to the others over its store. Statements alone.
use Rattle.std.specs.Prelude.{◌≡◌, ◌≢◌, ℕ, Option, Some, None}
use Rattle.store_api.specs.Holdings.{Holdings, account_of, IsPageOf}
use Rattle.store_api.specs.Conditions.{IsIdle}
use Rattle.store_api.specs.Alike.{Alike}
use Rattle.store_api.specs.Signs.{Signs}
use Rattle.store_api.specs.Emitters.{SameOwn, OthersStay, GrowsBy}

-- what a client that isn't the emitter's keeps
pub record IsLeft (t : ℕ) (old new : Holdings) : Type 0 where
  pub own : SameOwn (Some t) old new
  pub account : account_of t new ≡ account_of t old
  pub pages : (p : ℕ) → IsPageOf t old p → new.pages p ≡ old.pages p
  pub idle : IsIdle t old → IsIdle t new

-- each other client keeps what it has; and where the emitter has no client, nothing changed
pub record LeavesOthers (client : Option ℕ) (old new : Holdings) (before after : Signs) : Type 0 where
  pub others : (t : ℕ) → client ≢ Some t → IsLeft t old new
  pub held : client ≡ None → Alike old new
  pub signs : client ≡ None → after ≡ before

-- so a call of an emitter leaves them
abbrev pub EmittersLeaveOthers : Type 0
EmittersLeaveOthers =
    (client : Option ℕ) (creates_old creates : ℕ) (old new : Holdings) (before after : Signs) → OthersStay client old new → GrowsBy client creates_old creates before after
    → LeavesOthers client old new before after
