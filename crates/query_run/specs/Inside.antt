-- The clients of a query, and its grouping. About inner calls; no public clause cites this. Lengths are in bytes.
use Rattle.std.specs.Prelude.{◌≡◌, ◌≢◌, ◌+◌, ◌-◌, ◌*◌, ◌/◌, ◌≤◌, ℕ, List, Option, length, min, None, Some, true}
use Rattle.row_codec.specs.declared.values.Value.{Value}
use Rattle.store_api.specs.Conditions.{IsIdle}
use Rattle.store_api.specs.Holdings.{Holdings, account_of}
use Rattle.store_api.specs.Signs.{Grows, Signs, WasAnswered}
use Rattle.store_api.specs.Tokens.{ClientToken}
use Rattle.store_api.specs.declared.store.Store.{Ghosts as StoreGhosts}
use Rattle.pool_model.specs.declared.entry.Entry.{Entry}
use Rattle.tuple_stream.specs.Families.{slots_in}
use Rattle.partition_stack.specs.Leaving.{LeavesOthers}
use Rattle.partition_stack.specs.Stack.{over}
use Rattle.group_op.specs.Operator.{Holds, IsFeeding, IsOperator, Operator, bytes_for}
use Rattle.join_op.specs.Operator.{Keeps as KeepsSides, Operator as Join, bytes_of}
use Rattle.query_plan.specs.declared.plan.Query.{Query}
use Rattle.query_run.specs.Plans.{shape_of}
use Rattle.query_plan.specs.declared.outcome.QueryErr.{QueryErr}
use Rattle.query_plan.specs.declared.outcome.QueryErr.TheVariants.{Pool}
use Rattle.reservation_tree.specs.declared.errors.PoolErr.{PoolErr}

-- a client came that may use all of its reservation, which was room, and may reserve up to a limit; it has nothing, and
-- nothing of others changed
pub record HasOwn (c : ClientToken) (most bytes : ℕ) (old new : Holdings) : Type 0 where
  pub fresh : old.clients c.tracker ≡ None
  pub account : new.clients c.tracker ≡ Some (record { limit = most; reservation = bytes; unused = bytes })
  pub others : (t : ℕ) → t ≢ c.tracker → new.clients t ≡ old.clients t
  pub pages : new.pages ≡ old.pages
  pub loans : new.loans ≡ old.loans
  pub idle : IsIdle c.tracker new
  pub room : new.room + bytes ≡ old.room
  pub live_clients : new.live_clients ≡ old.live_clients + 1
  pub reservation : new.reservation ≡ old.reservation
  pub limit : new.limit ≡ old.limit
  pub query : new.query ≡ old.query
  pub session : new.session ≡ old.session
  pub block_len : new.block_len ≡ old.block_len
  pub free_slots : new.free_slots ≡ old.free_slots
  pub told : new.told ≡ old.told

-- calls of a grouping left it one of the same client over its store; its slots and the free ones are together as many, and
-- nothing of others changed. `now` is the grouping behind them
pub record GoesOn (was now : Operator) (old new : Holdings) (before after : Signs) : Type 0 where
  pub op : IsOperator now new after
  pub client : now.client ≡ was.client
  pub leaves : LeavesOthers was.client.tracker old new before after
  pub slots : slots_in (over now.parts new after) ≡ slots_in (over was.parts old before)

-- a grouping handed on what it holds; where it has no table, nothing was called
pub record HandedOn (was now : Operator) (old new : Holdings) (before after : Signs) : Type 0 where
  pub went : GoesOn was now old new before after
  pub quiet : was.table ≡ None → (now ≡ was) × (after ≡ before)

-- the first client ended, whose tracker is `t`, and of the second one things changed; the query has with what this one reserves
-- at least what it had with what both reserved
pub record HasEndedFirst (t u : ℕ) (old new : Holdings) (before after : Signs) : Type 0 where
  pub live_clients : new.live_clients ≡ old.live_clients - 1
  pub room : old.room + (account_of t old).reservation + (account_of u old).reservation ≤ new.room + (account_of u new).reservation
  pub reservation : old.reservation ≤ new.reservation
  pub limit : new.limit ≡ old.limit
  pub query : new.query ≡ old.query
  pub session : new.session ≡ old.session
  pub block_len : new.block_len ≡ old.block_len
  pub told : new.told ≡ old.told
  pub grows : Grows before after

-- a grouping of the plan's rows by this client, which may be fed
pub record IsFedFor (c : ClientToken) (plan : Query) (op : Operator) (h : Holdings) (signs : Signs) : Type 0 where
  pub is : IsOperator op h signs
  pub feeding : IsFeeding op
  pub client : op.client ≡ c
  pub shape_is : op.shape ≡ shape_of plan
  pub blocks_are : op.parts.page_blocks ≡ plan.page_blocks

-- the slots that a join of these rows and a grouping of their pairs need at most together, and a page more for each of them: a page for
-- each row, or those that twice the bytes fill and 600 more
abbrev pub slots_of_both : Query → ℕ → List (List Value) → List (List Value) → List (List Value) → ℕ
slots_of_both plan page lefts rights pairs =
    min (length lefts + length rights + length pairs + 2) (2 * (bytes_of lefts + bytes_of rights) / page + 2 * bytes_for (shape_of plan) pairs / page + 600) * plan.page_blocks

-- it is an answer of the store, which gave it
pub record IsOfStore (e : QueryErr) (old new : Signs) : Type 0 where
  pub why : PoolErr
  pub is : e ≡ Pool why
  pub answered : WasAnswered why old new

-- what holds of all rows that an operator keeps, whatever they are; in the others, where its store tells what a pin shows
module _ {St : Type 0} (store : StoreGhosts St) where
  -- of those of both sides, which a join keeps
  abbrev pub OfSides : Join → St → (Option (List Entry) → List (List Value) → List (List Value) → Type 0) → Type 0
  OfSides op s P =
      (start : Option (List Entry)) → (lefts rights : List (List Value)) → KeepsSides start lefts rights op (store.holds s) (store.signs s)
      → P start lefts rights

  abbrev pub OfSidesTold : Join → St → (List (List Value) → List (List Value) → Type 0) → Type 0
  OfSidesTold op s P =
      (start : Option (List Entry)) → (lefts rights : List (List Value)) → KeepsSides start lefts rights op (store.holds s) (store.signs s)
      → (store.holds s).told ≡ true → P lefts rights

  -- of those that were fed to a grouping
  abbrev pub OfFedTold : Operator → St → (List (List Value) → Type 0) → Type 0
  OfFedTold op s P = (fed : List (List Value)) → Holds fed op (store.holds s) (store.signs s) → (store.holds s).told ≡ true → P fed
