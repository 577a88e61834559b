-- What is so of partitions, as laws. Statements alone. Lengths are in bytes.
use Rattle.std.specs.Prelude.{◌≡◌, ◌≢◌, ℕ, ◌+◌, ◌*◌, ◌<◌, ◌≤◌, ◌==◌, List, [], ◌∷◌, ◌++◌, length, sum_by, slice_get, if◌then◌else◌, Option, Some, None, ⊤}
use Rattle.std.specs.List.{concat}
use Rattle.reservation_tree.specs.declared.errors.PoolErr.{PoolErr}
use Rattle.store_api.specs.Holdings.{Holdings, length_of}
use Rattle.store_api.specs.Emitters.{OthersStay}
use Rattle.store_api.specs.Signs.{Signs}
use Rattle.tuple_stream.specs.Streamed.{Streamed}
use Rattle.tuple_stream.specs.Streams.{HasPageRoom}
use Rattle.tuple_stream.specs.Families.{AllSized, AreShaped, Family, ShowAll, TouchesAll, family, pages_in, slots_in}
use Rattle.tuple_stream.specs.FamilyCalls.{shares}
use Rattle.tuple_stream.specs.Touches.{IsFull}
use Rattle.partition_stack.specs.Stack.{HasRoomFrom, IsStack, Stack, divided, over}
use Rattle.partition_stack.specs.Changes.{ChangesAt, Owns}
use Rattle.partition_stack.specs.Slots.{IsWantBelow, most_pages}

-- how many streams were begun to be spent
abbrev pub begun_in : List Streamed → ℕ
begun_in streams = sum_by (λ s. if s.spent == 0 then 0 else 1) streams

-- their pages are no more than their rows, and together no more than twice the bytes of the rows, and a page for each
-- stream, and one more for each that was begun to be spent
pub record FewInAll (blocks : ℕ) (rows : List (List ℕ)) (f : Family) : Type 0 where
  pub by_rows : pages_in f ≤ length rows
  pub by_bytes : pages_in f * length_of blocks f.held ≤ 2 * length (concat rows) + (length f.streams + begun_in f.streams) * length_of blocks f.held

abbrev pub AllFewInAll : Type 0
AllFewInAll =
    (t blocks : ℕ) (rows : ℕ → List (List ℕ)) (f : Family) → AreShaped t f → AllSized blocks f → ShowAll rows f
    → FewInAll blocks (shares (length f.streams) rows) f

-- where the free slots, and with them those of all pages, are enough for one page more than there are, those of a page
-- are free
abbrev pub SlotsSuffice : Type 0
SlotsSuffice =
    (t blocks total free : ℕ) (f : Family) → AreShaped t f → AllSized blocks f → slots_in f ≡ Some total → f.held.free_slots ≡ Some free
    → (pages_in f + 1) * blocks ≤ total → blocks ≤ free

-- the streams count for so many pages that are not full: one of each, and one more of each that was begun to be spent
abbrev pub CountFor : ℕ → Family → Type 0
CountFor more f = length f.streams + begun_in f.streams ≤ more

-- where their rows are no more than so many, and have no more than so many bytes, their pages are no more than such rows have at most
abbrev pub PagesAreFew : Type 0
PagesAreFew =
    (t blocks more count bytes : ℕ) (rows : ℕ → List (List ℕ)) (f : Family) → AreShaped t f → AllSized blocks f → ShowAll rows f
    → 0 < length_of blocks f.held → CountFor more f → length (shares (length f.streams) rows) ≤ count
    → length (concat (shares (length f.streams) rows)) ≤ bytes → pages_in f ≤ most_pages (length_of blocks f.held) more count bytes

-- want of slots comes only where there are fewer than those of one page more than there are
abbrev pub WantComesLate : Type 0
WantComesLate =
    (blocks most : ℕ) (f : Family) (e : PoolErr) → AllSized blocks f → pages_in f ≤ most → IsFull blocks f.held.free_slots e
    → IsWantBelow ((most + 1) * blocks) (slots_in f) e

-- a stack has few partitions
abbrev pub FewPartitions : Type 0
FewPartitions = (p : Stack) → IsStack p → length p.streams ≤ 272

-- where there is room from a place on, each partition from there on has room for a page
abbrev pub RoomForEach : Type 0
RoomForEach =
    (t from i : ℕ) (p : Stack) (h : Holdings) (signs : Signs) (s : Streamed) → IsStack p → HasRoomFrom t from p h signs → from ≤ i
    → slice_get p.streams i ≡ Some s → HasPageRoom t s h

-- and a call of one of these keeps it
abbrev pub RoomStays : Type 0
RoomStays =
    (t from at : ℕ) (p q : Stack) (old new : Holdings) (before after : Signs) → HasRoomFrom t from p old before → from ≤ at → ChangesAt at p q
    → length q.streams ≡ length p.streams → TouchesAll t (over p old before) (over q new after) → HasRoomFrom t from q new after

-- calls of the client's streams leave them all that it has
abbrev pub OwnedStay : Type 0
OwnedStay = (t lent : ℕ) (f g : Family) → Owns t lent f → TouchesAll t f g → AreShaped t g → Owns t lent g

-- what the client's streams are, and show, stays where another client called
pub record StaysOwned (t lent : ℕ) (f g : Family) : Type 0 where
  pub owns : Owns t lent g
  pub rows : (rows : ℕ → List (List ℕ)) → ShowAll rows f → ShowAll rows g

abbrev pub OthersLeaveOwned : Type 0
OthersLeaveOwned =
    (t lent : ℕ) (client : Option ℕ) (streams : List Streamed) (old new : Holdings) (before after : Signs)
    → client ≢ Some t → OthersStay client old new → Owns t lent (family streams old before)
    → StaysOwned t lent (family streams old before) (family streams new after)

-- streams of a client before and after partitions came or went, none with rows
pub record StayOwned (t lent : ℕ) (none : (ℕ → List (List ℕ)) → Type 0) (f g : Family) : Type 0 where
  pub owns : Owns t lent f → Owns t lent g
  pub rows : (rows : ℕ → List (List ℕ)) → none rows → ShowAll rows f → ShowAll rows g

-- these partitions have no rows
abbrev pub NoneFrom : ℕ → (ℕ → List (List ℕ)) → Type 0
NoneFrom from rows = (i : ℕ) → from ≤ i → rows i ≡ []

-- so it is where sixteen come on top
abbrev pub SixteenCome : Type 0
SixteenCome =
    (t lent at level : ℕ) (p : Stack) (h : Holdings) (signs : Signs) → IsStack p
    → StayOwned t lent (NoneFrom (length p.streams)) (over p h signs) (over (divided at level p) h signs)

-- and where the top one goes, which has no pages
abbrev pub TopGoes : Type 0
TopGoes =
    (t lent : ℕ) (front : List Streamed) (s : Streamed) (h : Holdings) (signs : Signs) → s.pages ≡ [] → s.pinned ≡ None
    → StayOwned t lent (λ _. ⊤) (family (front ++ s ∷ []) h signs) (family front h signs)
