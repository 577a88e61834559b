-- Writers beside the queries of a call, as the pass of their pool sees them.
use denote.Param.Members.{Shared}
use Rattle.std.specs.Prelude.{◌≡◌, ◌+◌, ◌<◌, ◌++◌, ℕ, List, None, false}
use Rattle.std.specs.Borrow.{MutBor}
use Rattle.std.specs.FinMap.{get}
use Rattle.std.specs.List.{AllByRecursion}
use Rattle.pool_model.specs.LookingBack.{opens}
use Rattle.turn_table.specs.Face.{Spot}
use Rattle.turn_table.specs.Lists.{needed}
use Rattle.pool.specs.declared.item.Item.{Item}
use Rattle.pool.specs.Items.{history, needs_of}
use Rattle.pool.specs.Passing.{writers_out}
use Rattle.pool.specs.Seats.{quotas_in}
use Rattle.pool.specs.Standing.{IsMarked}

-- so many writers began, and nothing else was done
pub record Begin (count : ℕ) (old new : Spot Item) : Type 0 where
  pub table : new.table ≡ old.table
  pub seen : new.knows.seen ≡ old.knows.seen
  pub out : writers_out new ≡ writers_out old + count

-- others entered items meanwhile: no session came or went by them, and none is of a session that isn't live
pub record Waits (old new : Spot Item) : Type 0 where
  pub table : new.table ≡ old.table
  pub more : List Item
  pub grew : new.knows.seen ≡ old.knows.seen ++ more
  pub quotas : quotas_in new.knows.seen ≡ quotas_in old.knows.seen
  pub beside : (k : ℕ) → k < 240 → get (quotas_in old.knows.seen) k ≡ None → needed needs_of k more ≡ 0
  pub none_comes : AllByRecursion IsMarked more → AllByRecursion (λ e. opens e.event ≡ false) (history more)

module _ {F T : Type 0} (g : Shared F (MutBor T × Unit {0}) (Unit {0} × (MutBor T × Unit {0}))) (f : F) where
  -- f may be called with a `&mut` to x
  abbrev pub Accepts : T → Type 0
  Accepts x = (p : MutBor T) → p.now ≡ x → g.pre f (p, tt)

  -- a call of f with a `&mut` to x may leave y there
  pub record Changes (x y : T) : Type 0 where
    pub argument : MutBor T
    pub argument_is : argument.now ≡ x
    pub after_call : MutBor T
    pub call : g.post f (argument, tt) (tt, (after_call, tt))
    pub left : after_call.now ≡ y
