-- What calls on streams beside each other did, one word a kind of call.
use Rattle.std.specs.Prelude.{◌≡◌, ℕ, ◌+◌, ◌*◌, ◌<◌, ◌≤◌, ◌⊎◌, ◌==◌, true, zero, suc, List, [], ◌∷◌, ◌++◌, length, drop, All, sum_by, slice_get, if◌then◌else◌, Some, None, ⊤}
use Rattle.pool_model.specs.declared.event.Event.{Event}
use Rattle.store_api.specs.Holdings.{unused_of}
use Rattle.tuple_stream.specs.PageRows.{rows_on}
use Rattle.tuple_stream.specs.Streamed.{Streamed}
use Rattle.tuple_stream.specs.Streams.{IsAtEnd, IsOpenAt}
use Rattle.tuple_stream.specs.Trails.{EnteredEvents, IsBuilding, Left, all_left}
use Rattle.tuple_stream.specs.Spending.{PinsAgain}
use Rattle.tuple_stream.specs.Families.{AllClosed, AllSized, AreShaped, Family, FamilySteps, GoesAll, LaysAll, ShowAll, held_in, weight}

-- the rows where those of one stream became these
abbrev pub with_rows : ℕ → List (List ℕ) → (ℕ → List (List ℕ)) → ℕ → List (List ℕ)
with_rows i these rows j = if j == i then these else rows j

-- to each a row can be appended without a pin
abbrev pub AllAtEnd : Family → Type 0
AllAtEnd f = (i : ℕ) (s : Streamed) → slice_get f.streams i ≡ Some s → IsAtEnd s

-- the page that is pinned in each may be let rest: it is the last one, or there is none
abbrev pub AreSteady : Family → Type 0
AreSteady f = (i : ℕ) (s : Streamed) → slice_get f.streams i ≡ Some s → IsAtEnd s ⊎ (s.pinned ≡ None)

-- nothing of any is spent
abbrev pub AllWhole : Family → Type 0
AllWhole f = (i : ℕ) (s : Streamed) → slice_get f.streams i ≡ Some s → s.spent ≡ 0

-- streams without rows or pages
abbrev pub AreEmpty : Family → Type 0
AreEmpty f = (i : ℕ) (s : Streamed) → slice_get f.streams i ≡ Some s → (s.pages ≡ []) × (s.pinned ≡ None) × (s.spent ≡ 0) × (s.count ≡ 0)

-- the client has room for a page of each, those counted that are pinned
pub record HasRooms (t blocks : ℕ) (f : Family) : Type 0 where
  pub sized : AllSized blocks f
  pub room : length f.streams * (blocks * f.held.block_len) ≤ unused_of t f.held + held_in f

-- what is known of the rows of all: pins are told, or none is needed
abbrev pub AreSure : Family → Type 0
AreSure f = (f.held.told ≡ true) ⊎ AllAtEnd f

-- one of the streams got more rows
pub record Feeds (t i : ℕ) (more : List (List ℕ)) (f g : Family) : Type 0 where
  pub steps : FamilySteps (LaysAll (AllAtEnd f) ⊥ f g) t f g
  pub whole : AllWhole f → AllWhole g
  pub rows : (rows : ℕ → List (List ℕ)) → AreSure f → ShowAll rows f → ShowAll (with_rows i (rows i ++ more) rows) g

-- each of them got rows, or none
pub record FeedsAll (t : ℕ) (fed : ℕ → List (List ℕ)) (f g : Family) : Type 0 where
  pub steps : FamilySteps (LaysAll (AllAtEnd f) ⊥ f g) t f g
  pub at_end : AllAtEnd f → AllAtEnd g
  pub whole : AllWhole f → AllWhole g
  pub rows : (rows : ℕ → List (List ℕ)) → AreSure f → ShowAll rows f → ShowAll (λ i. rows i ++ fed i) g

-- so many of the streams were let rest
pub record RestsSome (t many : ℕ) (f g : Family) : Type 0 where
  pub steps : FamilySteps (LaysAll (AreSteady f) ⊤ f g) t f g
  pub steady : AreSteady f → AreSteady g
  pub whole : AllWhole f → AllWhole g
  pub closed : (i : ℕ) (s : Streamed) → slice_get g.streams i ≡ Some s → i < many → s.pinned ≡ None
  pub rows : (rows : ℕ → List (List ℕ)) → ShowAll rows f → ShowAll rows g

-- streams were read: where pins are told, all rows are as before
pub record ReadsIn (t : ℕ) (f g : Family) : Type 0 where
  pub steps : FamilySteps (GoesAll f g) t f g
  pub whole : AllWhole f → AllWhole g
  pub rows : (rows : ℕ → List (List ℕ)) → f.held.told ≡ true → ShowAll rows f → ShowAll rows g

-- one of the streams was read to its end: as many rows came as it has, and where pins are told, those that it has
pub record ReadsOne (i : ℕ) (before after : List (List ℕ)) (f : Family) : Type 0 where
  pub counted : (s : Streamed) → slice_get f.streams i ≡ Some s → length after ≡ length before + s.count
  pub rows_are : (rows : ℕ → List (List ℕ)) → f.held.told ≡ true → ShowAll rows f → after ≡ before ++ rows i

-- what is known of the first row of one stream: pins are told, or its first page is pinned
abbrev pub IsSureOf : ℕ → Family → Type 0
IsSureOf i f = (f.held.told ≡ true) ⊎ ((s : Streamed) → slice_get f.streams i ≡ Some s → IsOpenAt 0 s)

-- the first row of one stream was taken out; where no page of any was pinned, one was
pub record SpendsIn (t i : ℕ) (row : List ℕ) (f g : Family) : Type 0 where
  pub steps : FamilySteps (GoesAll f g) t f g
  pub pins : AllClosed f → EnteredEvents PinsAgain f.signs.trail g.signs.trail
  pub rows : (rows : ℕ → List (List ℕ)) → IsSureOf i f → ShowAll rows f → (rows i ≡ row ∷ drop 1 (rows i)) × ShowAll (with_rows i (drop 1 (rows i)) rows) g

-- all pages of one stream went
pub record EmptiesIn (t i : ℕ) (f g : Family) : Type 0 where
  pub steps : FamilySteps (GoesAll f g) t f g
  pub rows : (rows : ℕ → List (List ℕ)) → ShowAll rows f → ShowAll (with_rows i [] rows) g

-- the entries were all building, and left the pages that rest in these streams and no others, each as often
pub record HaveLaid (g : Family) (events : List Event) : Type 0 where
  pub building : All IsBuilding events
  pub left : (w : Left → ℕ) → sum_by w (all_left events) ≡ weight w g

-- the rows of the first so many streams
abbrev pub shares : ℕ → (ℕ → List (List ℕ)) → List (List ℕ)
shares zero rows = []
shares (suc n) rows = rows 0 ++ shares n (λ i. rows (suc i))

-- each page of the streams was left once, and no other page; and the rows of the pages that were left are those of
-- the streams, each as often
pub record HoldAll (rows : ℕ → List (List ℕ)) (g : Family) (events : List Event) : Type 0 where
  pub building : All IsBuilding events
  pub pages : (name : ℕ) → sum_by (λ l. if l.name == name then 1 else 0) (all_left events) ≡ sum_by (λ s. sum_by (λ p. if p.name == name then 1 else 0) s.pages) g.streams
  pub rows_are : (mark : List ℕ → ℕ) → sum_by (λ l. sum_by mark (rows_on l.bytes)) (all_left events) ≡ sum_by mark (shares (length g.streams) rows)

-- rows were dealt to the streams and all pages rest; what the trail tells of it holds all rows, whatever pins show
pub record HasKept (t : ℕ) (rows : ℕ → List (List ℕ)) (f g : Family) : Type 0 where
  pub shaped : AreShaped t g
  pub closed : AllClosed g
  pub whole : AllWhole g
  pub shows : ShowAll rows g
  pub held : EnteredEvents (HoldAll rows g) f.signs.trail g.signs.trail
