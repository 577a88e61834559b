-- Rows are taken out from the front, and pages go. What the first page shows is known where pins are told, and while
-- it is pinned.
use Rattle.std.specs.Prelude.{◌≡◌, ℕ, ◌+◌, ◌⊎◌, List, ◌∷◌, ◌++◌, length, drop, Option, Some, None}
use Rattle.pool_model.specs.declared.event.Event.{Event}
use Rattle.tuple_stream.specs.Streams.{IsOpenAt}
use Rattle.tuple_stream.specs.Trails.{EnteredEvents, HasPin, HaveRead, PinsFirst, creates_in}
use Rattle.tuple_stream.specs.Steps.{Scene, Shows, Tells, Steps}

-- what the events of such a call did: no page came, and a page is pinned before one is left
pub record Goes (a b : Scene) (events : List Event) : Type 0 where
  pub creates : creates_in events ≡ 0
  pub reads : a.stream.pinned ≡ None → HaveRead b.stream events

-- a page was pinned again, and none was left before
pub record PinsAgain (events : List Event) : Type 0 where
  pub first : PinsFirst events
  pub pinned : HasPin events

-- unless the first page went with the row, it is pinned; and where it was so before, the store is as it was
pub record SpendsOpen (a b : Scene) : Type 0 where
  pub pinned : length b.stream.pages ≡ length a.stream.pages → IsOpenAt 0 b.stream
  pub still : length b.stream.pages ≡ length a.stream.pages → IsOpenAt 0 a.stream → (b.held ≡ a.held) × (b.signs ≡ a.signs)

-- a row was taken out; where pins can be relied on (`sure`), it is the first one, and the others stay
pub record SpendsRow (sure : Type 0) (t : ℕ) (row : List ℕ) (a b : Scene) : Type 0 where
  pub step : Steps (Goes a b) t a b
  pub counted : a.stream.count ≡ b.stream.count + 1
  pub open_page : SpendsOpen a b
  pub pins : a.stream.pinned ≡ None → EnteredEvents PinsAgain a.signs.trail b.signs.trail
  pub rows : (rows : List (List ℕ)) → sure → Shows a rows → (rows ≡ row ∷ drop 1 rows) × Shows b (drop 1 rows)

-- there was a row exactly where there were any
abbrev pub Spends : ℕ → Option (List ℕ) → Scene → Scene → Type 0
Spends t (Some row) a b = SpendsRow (Tells a ⊎ IsOpenAt 0 a.stream) t row a b
Spends t None a b = (a.stream.count ≡ 0) × (b ≡ a)

-- all pages went
abbrev pub Empties : ℕ → Scene → Scene → Type 0
Empties t a b = Steps (Goes a b) t a b

-- rows were taken out from the front, one after the other, and stand in `now` behind those of `before`; where pins are
-- told, these and those that stay are the rows that there were
pub record HasSpent (t : ℕ) (before now : List (List ℕ)) (a b : Scene) : Type 0 where
  pub step : Steps (Goes a b) t a b
  pub counted : length now + b.stream.count ≡ length before + a.stream.count
  pub rows_are : (rows : List (List ℕ)) → Tells a → Shows a rows → (rest : List (List ℕ)) × Shows b rest × (now ++ rest ≡ before ++ rows)
