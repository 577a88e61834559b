-- Groupings of one plan, each by a client of its own over a store of its own. Lists run from the first store to the last; a store
-- comes as its ghost members, all as one value.
use Rattle.std.specs.Prelude.{◌≡◌, ◌≤◌, ◌<◌, ◌&&◌, ◌⊎◌, ℕ, Bool, true, List, [], ◌∷◌, All, length, slice_index_or}
use Rattle.group_op.specs.Operator.{IsOperator, Operator, started}
use Rattle.store_api.specs.Holdings.{Holdings}
use Rattle.store_api.specs.Signs.{Grows, Signs, WasAnswered}
use Rattle.store_api.specs.declared.store.Store.{Ghosts as StoreGhosts}
use Rattle.reservation_tree.specs.declared.errors.PoolErr.{PoolErr}
use Rattle.query_plan.specs.Sizes.{page_len}
use Rattle.query_plan.specs.declared.plan.Query.{Query}
use Rattle.query_run.specs.Beginning.{BeginsGroups}
use Rattle.query_run.specs.Inside.{GoesOn, HasOwn}
use Rattle.query_run.specs.Plans.{shape_of}
use Rattle.query_run.specs.Stopped.{HasRoomFor, IsLeft}

-- a grouping of the plan's rows works over a store that had no client before, by one that came since then
pub record WorksSince (plan : Query) (op : Operator) (old now : Holdings) (before after : Signs) : Type 0 where
  pub idle : old.live_clients ≡ 0
  pub most : ℕ
  pub bytes : ℕ
  pub start : Holdings
  pub at : Signs
  pub own : HasOwn op.client most bytes old start
  pub came : Grows before at
  pub went : GoesOn (started op.client plan.page_blocks (shape_of plan)) op start now at after

-- a store is as it was: no client is left, it has the room and the free slots that it had, and what it shows only grew
pub record IsGivenBack (old now : Holdings) (before after : Signs) : Type 0 where
  pub left : IsLeft old now
  pub free : now.free_slots ≡ old.free_slots
  pub grows : Grows before after

module _ {St : Type 0} (under : StoreGhosts St) where
  -- the bytes of a block, which are the same for all
  abbrev pub block_len_of : List St → ℕ
  block_len_of [] = 0
  block_len_of (store ∷ others) = (under.holds store).block_len

  -- whether all of them tell what a pin shows
  abbrev pub all_tell : List St → Bool
  all_tell [] = true
  all_tell (store ∷ others) = (under.holds store).told && all_tell others

  -- up to nine stores of one block length, over each of which the plan may run
  pub record MayShare (plan : Query) (stores : List St) : Type 0 where
    pub some : 1 ≤ length stores
    pub few : length stores ≤ 9
    pub room : All (λ store. HasRoomFor plan (under.holds store)) stores
    pub same : All (λ store. (under.holds store).block_len ≡ block_len_of stores) stores

  -- each store is as it was
  pub record AreGivenBack (old now : List St) : Type 0 where
    pub len : length now ≡ length old
    pub each : (k : ℕ) (d : St) → k < length old → IsGivenBack (under.holds (slice_index_or old k d)) (under.holds (slice_index_or now k d))
        (under.signs (slice_index_or old k d)) (under.signs (slice_index_or now k d))

  -- what each store shows only grew
  pub record AllGrow (old now : List St) : Type 0 where
    pub len : length now ≡ length old
    pub each : (k : ℕ) (d : St) → k < length old → Grows (under.signs (slice_index_or old k d)) (under.signs (slice_index_or now k d))

  -- one of the stores gave this answer
  pub record AnsweredByOne (old now : List St) (e : PoolErr) : Type 0 where
    pub at : ℕ
    pub below : at < length old
    pub answered : (d : St) → WasAnswered e (under.signs (slice_index_or old at d)) (under.signs (slice_index_or now at d))

  -- over each store a grouping of the plan works
  pub record AllWork (plan : Query) (old now : List St) (ops : List Operator) : Type 0 where
    pub len : length now ≡ length old
    pub many : length ops ≡ length old
    pub each : (k : ℕ) (d : St) (f : Operator) → k < length old
        → WorksSince plan (slice_index_or ops k f) (under.holds (slice_index_or old k d)) (under.holds (slice_index_or now k d))
        (under.signs (slice_index_or old k d)) (under.signs (slice_index_or now k d))

  -- groupings over all stores may end
  pub record MayEnd (stores : List St) (ops : List Operator) : Type 0 where
    pub many : length ops ≡ length stores
    pub are : (k : ℕ) (d : St) (f : Operator) → k < length ops
        → IsOperator (slice_index_or ops k f) (under.holds (slice_index_or stores k d)) (under.signs (slice_index_or stores k d))

  -- and was given no row yet
  pub record AllBegin (plan : Query) (stores : List St) (ops : List Operator) : Type 0 where
    pub many : length ops ≡ length stores
    pub each : (k : ℕ) (d : St) (f : Operator) → k < length stores
        → BeginsGroups plan (page_len plan (under.holds (slice_index_or stores k d)).block_len) (slice_index_or ops k f)
        (under.holds (slice_index_or stores k d)) (under.signs (slice_index_or stores k d))

  -- of these groupings those from a place on have ended, and with each its client; the stores of the others are as they were
  pub record HaveEndedFrom (at : ℕ) (old now : List St) (ops : List Operator) : Type 0 where
    pub len : length now ≡ length old
    pub stay : (k : ℕ) (d : St) → (k < at) ⊎ (length ops ≤ k) → slice_index_or now k d ≡ slice_index_or old k d
    pub grow : (k : ℕ) (d : St) → k < length old → Grows (under.signs (slice_index_or old k d)) (under.signs (slice_index_or now k d))
    pub ended : (plan : Query) (k : ℕ) (d : St) (f : Operator) (was : Holdings) (before : Signs) → at ≤ k → k < length ops
        → WorksSince plan (slice_index_or ops k f) was (under.holds (slice_index_or old k d)) before (under.signs (slice_index_or old k d))
        → IsGivenBack was (under.holds (slice_index_or now k d)) before (under.signs (slice_index_or now k d))

  -- over each store before a place a grouping of the plan works, and was given no row yet; the others are as they were
  pub record HaveStartedTo (plan : Query) (at : ℕ) (old now : List St) (ops : List Operator) : Type 0 where
    pub len : length now ≡ length old
    pub stay : (k : ℕ) (d : St) → at ≤ k → slice_index_or now k d ≡ slice_index_or old k d
    pub works : (k : ℕ) (d : St) (f : Operator) → k < at
        → WorksSince plan (slice_index_or ops k f) (under.holds (slice_index_or old k d)) (under.holds (slice_index_or now k d))
        (under.signs (slice_index_or old k d)) (under.signs (slice_index_or now k d))
    pub begins : (k : ℕ) (d : St) (f : Operator) → k < at
        → BeginsGroups plan (page_len plan (under.holds (slice_index_or now k d)).block_len) (slice_index_or ops k f)
        (under.holds (slice_index_or now k d)) (under.signs (slice_index_or now k d))
    pub blocks : (k : ℕ) (f : Operator) → k < at → (slice_index_or ops k f).parts.page_blocks ≡ plan.page_blocks
    pub lens : (k : ℕ) (d : St) → (under.holds (slice_index_or now k d)).block_len ≡ (under.holds (slice_index_or old k d)).block_len
