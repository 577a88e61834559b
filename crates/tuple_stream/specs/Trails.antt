-- What the entries of a call tell of a stream's pages: which were left, with which bytes, and how many came.
use Rattle.std.specs.Prelude.{◌≡◌, ℕ, ◌⊎◌, ◌++◌, ⊤, List, [], ◌∷◌, length, map, flat_map, take, drop, suc, eqb, filter_map, All, Option, Some, None}
use Rattle.std.specs.List.{IsDistinct}
use Rattle.pool_model.specs.declared.event.Event.{Event}
use Rattle.pool_model.specs.declared.event.Event.TheVariants.{PinHere, PinLoad, Unpin, Extract, Destroy}
use Rattle.pool_model.specs.declared.entry.Entry.{Entry}
use Rattle.store_api.specs.Tokens.{PageToken}
use Rattle.store_api.specs.Holdings.{Holdings, page_of}
use Rattle.store_api.specs.Signs.{Entered}
use Rattle.pool_model.specs.LookingBack.{name_in}
use Rattle.tuple_stream.specs.PageRows.{rows_on}
use Rattle.tuple_stream.specs.Streamed.{OpenPage, Streamed}

abbrev pub events_of : List Entry → List Event
events_of entries = map (λ e. e.event) entries

-- a page that was left, by its name, and the bytes that it was left with
pub record Left : Type 0 where
  pub name : ℕ
  pub bytes : List ℕ

abbrev pub left_by : Event → Option Left
left_by (Unpin p bytes) = Some (record { name = p; bytes = bytes })
left_by _ = None

-- the pages that these events leave, the first one first
abbrev pub all_left : List Event → List Left
all_left events = filter_map left_by events

-- the event neither pins a page again nor ends one
abbrev pub IsBuilding : Event → Type 0
IsBuilding (PinHere p) = ⊥
IsBuilding (PinLoad p) = ⊥
IsBuilding (Extract p f) = ⊥
IsBuilding (Destroy p) = ⊥
IsBuilding _ = ⊤

-- no page is left before one is pinned again
abbrev pub PinsFirst : List Event → Type 0
PinsFirst [] = ⊤
PinsFirst (Unpin p bytes ∷ rest) = ⊥
PinsFirst (PinHere p ∷ rest) = ⊤
PinsFirst (PinLoad p ∷ rest) = ⊤
PinsFirst (_ ∷ rest) = PinsFirst rest

-- some page is pinned again
abbrev pub HasPin : List Event → Type 0
HasPin [] = ⊥
HasPin (PinHere p ∷ rest) = ⊤
HasPin (PinLoad p ∷ rest) = ⊤
HasPin (_ ∷ rest) = HasPin rest

-- these events read the stream: no page was left before one was pinned again, and while none was, none is pinned
pub record HaveRead (s : Streamed) (events : List Event) : Type 0 where
  pub first : PinsFirst events
  pub pinned : HasPin events ⊎ (s.pinned ≡ None)

-- what is in a page that rests
abbrev pub left_page : Holdings → PageToken → Left
left_page h p = record { name = p.name; bytes = (page_of p.name h).left }

-- the pages that rest
abbrev pub resting_in : Option OpenPage → List PageToken → List PageToken
resting_in None pages = pages
resting_in (Some page) pages = take page.place pages ++ drop (suc page.place) pages

-- what is in the pages that rest
abbrev pub rested : Streamed → Holdings → List Left
rested s h = map (left_page h) (resting_in s.pinned s.pages)

-- how many pages these events make
abbrev pub creates_in : List Event → ℕ
creates_in events = length (filter_map name_in events)

-- where the trail is told, this holds of the events of the entries that it grew by
abbrev pub EnteredEvents : (List Event → Type 0) → Option (List Entry) → Option (List Entry) → Type 0
EnteredEvents P old new = Entered (λ entries. P (events_of entries)) old new

-- these events leave pages with these rows, each page once, and pin none again and end none
pub record Leaves (rows : List (List ℕ)) (events : List Event) : Type 0 where
  pub building : All IsBuilding events
  pub once : IsDistinct eqb (map (λ l. l.name) (all_left events))
  pub rows_are : flat_map (λ l. rows_on l.bytes) (all_left events) ≡ rows
