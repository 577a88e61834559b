-- Partitions of both sides are joined from the top, each with the one of its number.
use Rattle.std.specs.Prelude.{◌≡◌, ◌⊎◌, ◌+◌, ◌*◌, ◌<◌, ◌≤◌, ℕ, zero, suc, List, [], ◌++◌, IfSome, Option, length, slice_get, sum_by, take, true}
use Rattle.row_codec.specs.declared.values.Value.{Value}
use Rattle.store_api.specs.declared.shapes.JoinShape.{JoinShape}
use Rattle.store_api.specs.Holdings.{Holdings, length_of}
use Rattle.store_api.specs.Signs.{Signs}
use Rattle.tuple_stream.specs.Families.{AllClosed, ShowAll, slots_in}
use Rattle.tuple_stream.specs.FamilyCalls.{AllWhole, shares}
use Rattle.tuple_stream.specs.Spending.{PinsAgain}
use Rattle.pool_model.specs.declared.event.Event.{Event}
use Rattle.tuple_stream.specs.Trails.{EnteredEvents, HasPin, PinsFirst}
use Rattle.partition_stack.specs.Making.{MakesBeside, MakesFew, owed}
use Rattle.partition_stack.specs.Slots.{most_pages}
use Rattle.partition_stack.specs.Stack.{Stack, over, weight}
use Rattle.join_op.specs.Chunks.{stored_pairs}
use Rattle.join_op.specs.Operator.{over_both}
use Rattle.join_op.specs.Pairs.{SameRows}
use Rattle.join_op.specs.Stored.{left_side, right_side}

-- the partitions of both sides over a store
pub record Both : Type 0 where
  pub left : Stack
  pub right : Stack
  pub held : Holdings
  pub signs : Signs

abbrev pub both : Stack → Stack → Holdings → Signs → Both
both left right h signs = record { left = left; right = right; held = h; signs = signs }

-- the free slots of the quota, and with them those of the pages of both sides
abbrev pub slots_both : Both → Option ℕ
slots_both b = slots_in (over_both b.left b.right b.held b.signs)

-- the pairs of the first so many partitions, number by number
abbrev pub pairs_down : JoinShape → ℕ → (ℕ → List (List ℕ)) → (ℕ → List (List ℕ)) → List (List Value)
pairs_down shape zero lefts rights = []
pairs_down shape (suc n) lefts rights = stored_pairs shape (lefts n) (rights n) ++ pairs_down shape n lefts rights

-- both sides have partitions of the same levels, and no page is pinned
pub record IsBetween (b : Both) : Type 0 where
  pub levels : b.right.levels ≡ b.left.levels
  pub many : length b.right.streams ≡ length b.left.streams
  pub left_closed : AllClosed (over b.left b.held b.signs)
  pub right_closed : AllClosed (over b.right b.held b.signs)

-- a partition of this side, at this place, has rows
abbrev pub HasRowsAt : ℕ → Stack → Type 0
HasRowsAt at p = IfSome (slice_get p.streams at) (λ s. 0 < s.count)

-- it has none
abbrev pub HasNoRowsAt : ℕ → Stack → Type 0
HasNoRowsAt at p = IfSome (slice_get p.streams at) (λ s. s.count ≡ 0)

-- no page was left before one was pinned again; and while none was, `still` is so
pub record PinsBefore (still : Type 0) (events : List Event) : Type 0 where
  pub first : PinsFirst events
  pub pinned : HasPin events ⊎ still

-- the partitions have these rows, and nothing of any is spent
pub record ShowBoth (lefts rights : ℕ → List (List ℕ)) (b : Both) : Type 0 where
  pub told : b.held.told ≡ true
  pub left : ShowAll lefts (over b.left b.held b.signs)
  pub right : ShowAll rights (over b.right b.held b.signs)
  pub left_whole : AllWhole (over b.left b.held b.signs)
  pub right_whole : AllWhole (over b.right b.held b.signs)

-- how often the rows of both sides may go to deeper partitions still
abbrev pub owed_both : Both → (ℕ → List (List ℕ)) → (ℕ → List (List ℕ)) → ℕ
owed_both b lefts rights = owed b.left.levels lefts + owed b.right.levels rights

-- the rows of both sides, weighed
abbrev pub rows_weigh : (List ℕ → ℕ) → Both → (ℕ → List (List ℕ)) → (ℕ → List (List ℕ)) → ℕ
rows_weigh w b lefts rights = sum_by w (shares (length b.left.streams) lefts) + sum_by w (shares (length b.right.streams) rights)

-- the slots that the pages of these rows and one more have at most
abbrev pub slots_by : Both → (ℕ → List (List ℕ)) → (ℕ → List (List ℕ)) → ℕ
slots_by b lefts rights = (most_pages (length_of b.left.page_blocks b.held) 546 (rows_weigh (λ _. 1) b lefts rights) (rows_weigh length b lefts rights) + 1) * b.left.page_blocks

-- some pairs were handed on, and the others are those of the partitions that are there still; for each page that was made, but
-- for those that the emitter counts, a row went a level deeper
pub record Advances (shape : JoinShape) (was now : List (List Value) → Type 0) (creates_old creates : ℕ) (lefts rights : ℕ → List (List ℕ)) (a b : Both) : Type 0 where
  pub lefts_now : ℕ → List (List ℕ)
  pub rights_now : ℕ → List (List ℕ)
  pub shows : ShowBoth lefts_now rights_now b
  pub rows : List (List Value)
  pub came : (taken : List (List Value)) → was taken → now (taken ++ rows)
  pub same : SameRows (rows ++ pairs_down shape (length b.left.streams) lefts_now rights_now) (pairs_down shape (length a.left.streams) lefts rights)
  pub lighter : (w : List ℕ → ℕ) → rows_weigh w b lefts_now rights_now ≤ rows_weigh w a lefts rights
  pub most : ℕ
  pub deeper : most + owed_both b lefts_now rights_now ≤ owed_both a lefts rights
  pub made : MakesBeside most creates_old creates a.signs b.signs

-- the partitions have rows of the same pairs, and for each page that was made a row went a level deeper
pub record SharesPairs (shape : JoinShape) (lefts rights : ℕ → List (List ℕ)) (a b : Both) : Type 0 where
  pub lefts_now : ℕ → List (List ℕ)
  pub rights_now : ℕ → List (List ℕ)
  pub shows : ShowBoth lefts_now rights_now b
  pub same : SameRows (pairs_down shape (length b.left.streams) lefts_now rights_now) (pairs_down shape (length a.left.streams) lefts rights)
  pub lighter : (w : List ℕ → ℕ) → rows_weigh w b lefts_now rights_now ≤ rows_weigh w a lefts rights
  pub most : ℕ
  pub deeper : most + owed_both b lefts_now rights_now ≤ owed_both a lefts rights
  pub made : MakesFew most a.signs b.signs

-- the top partition of a side, at this place, went
pub record HasPopped (at : ℕ) (old new : Stack) : Type 0 where
  pub many : length new.streams ≡ at
  pub levels : new.levels ≡ take at old.levels

-- the columns of both sides that are to be equal
pub record AreColumnsOfBoth (shape : JoinShape) (left right : List ℕ) : Type 0 where
  pub on_left : left ≡ (left_side shape).columns
  pub on_right : right ≡ (right_side shape).columns

-- the rows of the top partitions, at this place, are in sixteen above them, and no pair is lost
pub record HasDivided (shape : JoinShape) (at level : ℕ) (a b : Both) : Type 0 where
  pub between : IsBetween b
  pub less : weight b.left < weight a.left
  pub rows : (lefts rights : ℕ → List (List ℕ)) → ShowBoth lefts rights a → SharesPairs shape lefts rights a b
  pub first : EnteredEvents PinsAgain a.signs.trail b.signs.trail
