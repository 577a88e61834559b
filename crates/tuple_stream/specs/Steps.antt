-- What a call of a stream looks at, and what became of it. `a` is before the call and `b` behind it.
use Rattle.std.specs.Prelude.{◌≡◌, ℕ, ◌+◌, ◌<◌, ◌≤◌, ◌⊎◌, List, [], ◌∷◌, ◌++◌, length, All, true, Some, None, Result, Ok, Err, option_map, ⊤}
use Rattle.reservation_tree.specs.declared.errors.PoolErr.{PoolErr}
use Rattle.reservation_tree.specs.declared.errors.PoolErr.TheVariants.{ScratchFull}
use Rattle.pool_model.specs.declared.event.Event.{Event}
use Rattle.store_api.specs.Holdings.{Holdings}
use Rattle.store_api.specs.Signs.{Signs, Grows, WasAnswered}
use Rattle.tuple_stream.specs.Streamed.{Streamed, len_in, rows_of}
use Rattle.tuple_stream.specs.Streams.{IsShaped, HasRows, IsAtEnd, IsOpenAt}
use Rattle.tuple_stream.specs.Places.{Place, IsPlace, IsWithin, KeepsPlaces}
use Rattle.tuple_stream.specs.Ready.{IsReady}
use Rattle.tuple_stream.specs.Touches.{Touches, IsFull}
use Rattle.tuple_stream.specs.Trails.{IsBuilding, HaveRead, EnteredEvents, all_left, creates_in, rested}
use Rattle.tuple_stream.specs.declared.err.StreamErr.{StreamErr}
use Rattle.tuple_stream.specs.declared.err.StreamErr.TheVariants as stream_err

-- the stream, and what its store holds and shows
pub record Scene : Type 0 where
  pub stream : Streamed
  pub held : Holdings
  pub signs : Signs

abbrev pub scene : Streamed → Holdings → Signs → Scene
scene s h signs = record { stream = s; held = h; signs = signs }

-- the stream is one of this client, whatever its pages show
abbrev pub Shaped : ℕ → Scene → Type 0
Shaped t a = IsShaped t a.stream a.held

-- these rows stand in it
abbrev pub Shows : Scene → List (List ℕ) → Type 0
Shows a rows = HasRows rows a.stream a.held

-- the place is one of a stream of which so many rows are known
abbrev pub Stands : Scene → Place → Type 0
Stands a place = IsPlace place a.stream a.held

-- pins show what was left
abbrev pub Tells : Scene → Type 0
Tells a = a.held.told ≡ true

-- what the events of a call did to the stream's pages: those that came; where it was steady, which pages were left,
-- with which bytes, and that none was pinned again or ended; and where the call reads, that a page is pinned before one
-- is left
pub record Lays (steady reading : Type 0) (a b : Scene) (events : List Event) : Type 0 where
  pub creates : length b.stream.pages ≡ length a.stream.pages + creates_in events
  pub building : steady → All IsBuilding events
  pub left : steady → rested b.stream b.held ≡ rested a.stream a.held ++ all_left events
  pub reads : reading → a.stream.pinned ≡ None → HaveRead b.stream events

-- what is so of every call, whatever pages show and whatever the call answers: the stream is one, nothing of the
-- store changed but its own pages and its client's unused bytes, and this holds of the events of the call
pub record Steps (laid : List Event → Type 0) (t : ℕ) (a b : Scene) : Type 0 where
  pub shape : Shaped t b
  pub sized : b.stream.page_blocks ≡ a.stream.page_blocks
  pub touches : Touches t a.stream b.stream a.held b.held
  pub trail : EnteredEvents laid a.signs.trail b.signs.trail
  pub grows : Grows a.signs b.signs

-- and nothing was spent, so each place within the stream is within it; where pins can be relied on (`sure`), the rows
-- that were there are, and then these come, and so do the rows behind each place
pub record Went (sure steady reading : Type 0) (t : ℕ) (more : List (List ℕ)) (a b : Scene) : Type 0 where
  pub step : Steps (Lays steady reading a b) t a b
  pub spent : b.stream.spent ≡ a.stream.spent
  pub counted : b.stream.count ≡ a.stream.count + length more
  pub within : (place : Place) → IsWithin place a.stream → IsWithin place b.stream
  pub rows : (rows : List (List ℕ)) → sure → Shows a rows → Shows b (rows ++ more)
  pub places : (rows : List (List ℕ)) → sure → Shows a rows → KeepsPlaces more a.stream b.stream a.held b.held

-- the pinned page is let rest
abbrev pub Rests : ℕ → Scene → Scene → Type 0
Rests t a b = Went ⊤ (IsAtEnd a.stream ⊎ (a.stream.pinned ≡ None)) ⊤ t [] a b

-- the page at a place is pinned, if it was not
abbrev pub Opens : ℕ → ℕ → Scene → Scene → Type 0
Opens place t a b = Went (Tells a ⊎ IsOpenAt place a.stream) (IsOpenAt place a.stream) ⊤ t [] a b

-- rows are added: what was there is known where pins are told, or where none is needed
abbrev pub Adds : ℕ → List (List ℕ) → Scene → Scene → Type 0
Adds t more a b = Went (Tells a ⊎ IsAtEnd a.stream) (IsAtEnd a.stream) ⊥ t more a b

-- a call that read: another page may be pinned, and the rows that pins tell are as before
abbrev pub Reads : ℕ → Scene → Scene → Type 0
Reads t a b = Went (Tells a) ⊥ ⊤ t [] a b

-- a page is pinned that has room for a row of so many bytes
pub record HasSpace (bytes : ℕ) (b : Scene) : Type 0 where
  pub last : option_map (λ p. p.place + 1) b.stream.pinned ≡ Some (length b.stream.pages)
  pub room : b.stream.used + bytes ≤ len_in b.stream b.held

-- the last page is pinned and has room, and the rows are as before
pub record Readies (sure steady : Type 0) (t bytes : ℕ) (a b : Scene) : Type 0 where
  pub step : Steps (Lays steady ⊥ a b) t a b
  pub spent : b.stream.spent ≡ a.stream.spent
  pub counted : b.stream.count ≡ a.stream.count
  pub within : (place : Place) → IsWithin place a.stream → IsWithin place b.stream
  pub space : HasSpace bytes b
  pub ready : (rows : List (List ℕ)) → sure → Shows a rows → IsReady bytes b.stream b.held
  pub rows : (rows : List (List ℕ)) → sure → Shows a rows → rows_of b.stream b.held ≡ rows
  pub places : (rows : List (List ℕ)) → sure → Shows a rows → KeepsPlaces [] a.stream b.stream a.held b.held

-- the store answered this in the call
pub record CameOf (a b : Scene) (e : PoolErr) : Type 0 where
  pub answered : WasAnswered e a.signs b.signs
  pub full : IsFull a.stream.page_blocks b.held.free_slots e

-- too few slots were free, and nothing else went wrong
abbrev pub IsFullOnly : PoolErr → Type 0
IsFullOnly (ScratchFull need few) = ⊤
IsFullOnly _ = ⊥

-- why a row wasn't appended: the store answered so, or the row is longer than a page
abbrev pub MayRefuseRow : List ℕ → Scene → Scene → StreamErr → Type 0
MayRefuseRow row a b (stream_err.Pool e) = CameOf a b e
MayRefuseRow row a b (stream_err.RowTooLong bytes) = (bytes ≡ length row) × (len_in a.stream a.held < length row)

-- the row, where the call answered Ok
abbrev pub came : {E X : Type 0} → Result X E → List ℕ → List (List ℕ)
came (Ok x) row = row ∷ []
came (Err e) row = []
