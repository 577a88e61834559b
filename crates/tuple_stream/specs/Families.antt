-- Several streams of one client beside each other, by their places in a list. `f` is before a call and `g` behind it.
use Rattle.std.specs.Prelude.{◌≡◌, ◌≢◌, ℕ, ◌+◌, List, All, set, length, sum_by, slice_get, ◌⊎◌, Some, None, Option, IsSome, option_map}
use Rattle.pool_model.specs.declared.event.Event.{Event}
use Rattle.store_api.specs.Holdings.{Holdings, unused_of}
use Rattle.store_api.specs.Signs.{Signs, Grows}
use Rattle.tuple_stream.specs.Streamed.{Streamed}
use Rattle.tuple_stream.specs.Streams.{IsApart, IsShaped, HasRows}
use Rattle.tuple_stream.specs.Touches.{held, slots_of, with_unused}
use Rattle.tuple_stream.specs.Trails.{EnteredEvents, HasPin, IsBuilding, Left, PinsFirst, all_left, creates_in, rested}
use Rattle.tuple_stream.specs.Steps.{Scene}

pub record Family : Type 0 where
  pub streams : List Streamed
  pub held : Holdings
  pub signs : Signs

abbrev pub family : List Streamed → Holdings → Signs → Family
family streams h signs = record { streams = streams; held = h; signs = signs }

-- the streams where the one at a place changed
abbrev pub changed : ℕ → Scene → Family → Family
changed i b f = family (set f.streams i b.stream) b.held b.signs

-- no page of the one is a page of the other
abbrev pub AreDisjoint : Streamed → Streamed → Type 0
AreDisjoint a b = All (λ p. IsApart p.name a.pages) b.pages

-- each is a stream of this client, and no two have a page in common
pub record AreShaped (t : ℕ) (f : Family) : Type 0 where
  pub each : (i : ℕ) (s : Streamed) → slice_get f.streams i ≡ Some s → IsShaped t s f.held
  pub apart : (i j : ℕ) (a b : Streamed) → i ≢ j → slice_get f.streams i ≡ Some a → slice_get f.streams j ≡ Some b → AreDisjoint a b

-- stream by stream these rows stand in them
abbrev pub ShowAll : (ℕ → List (List ℕ)) → Family → Type 0
ShowAll rows f = (i : ℕ) (s : Streamed) → slice_get f.streams i ≡ Some s → HasRows (rows i) s f.held

-- the pages of each have so many blocks
abbrev pub AllSized : ℕ → Family → Type 0
AllSized blocks f = (i : ℕ) (s : Streamed) → slice_get f.streams i ≡ Some s → s.page_blocks ≡ blocks

-- no page of any is pinned
abbrev pub AllClosed : Family → Type 0
AllClosed f = (i : ℕ) (s : Streamed) → slice_get f.streams i ≡ Some s → s.pinned ≡ None

-- a name that is no page of them
abbrev pub IsOutside : ℕ → List Streamed → Type 0
IsOutside q streams = (i : ℕ) (s : Streamed) → slice_get streams i ≡ Some s → IsApart q s.pages

-- how many pages they have
abbrev pub pages_in : Family → ℕ
pages_in f = sum_by (λ s. length s.pages) f.streams

-- what rests in all of them, weighed: whatever the weight, it is the sum of theirs
abbrev pub weight : (Left → ℕ) → Family → ℕ
weight w f = sum_by (λ s. sum_by w (rested s f.held)) f.streams

-- the bytes that their pinned pages take
abbrev pub held_in : Family → ℕ
held_in f = sum_by (λ s. held s f.held) f.streams

-- the free slots of the quota, and with them those of all their pages
abbrev pub slots_in : Family → Option ℕ
slots_in f = option_map (λ free. free + sum_by (λ s. sum_by (slots_of s f.held) s.pages) f.streams) f.held.free_slots

-- calls changed their own pages and what their client still has unused, and nothing else
pub record TouchesAll (t : ℕ) (f g : Family) : Type 0 where
  pub block_len : g.held.block_len ≡ f.held.block_len
  pub session : g.held.session ≡ f.held.session
  pub query : g.held.query ≡ f.held.query
  pub limit : g.held.limit ≡ f.held.limit
  pub reservation : g.held.reservation ≡ f.held.reservation
  pub room : g.held.room ≡ f.held.room
  pub above : g.held.above ≡ f.held.above
  pub live_clients : g.held.live_clients ≡ f.held.live_clients
  pub loans : g.held.loans ≡ f.held.loans
  pub told : g.held.told ≡ f.held.told
  pub clients : (q : ℕ) → q ≢ t → g.held.clients q ≡ f.held.clients q
  pub account : IsSome (f.held.clients t) → g.held.clients t ≡ option_map (with_unused (unused_of t g.held)) (f.held.clients t)
  pub pages : (q : ℕ) → IsSome (f.held.pages q) → IsOutside q f.streams → (g.held.pages q ≡ f.held.pages q) × IsOutside q g.streams
  pub back : (q : ℕ) → IsSome (g.held.pages q) → IsOutside q g.streams → (f.held.pages q ≡ g.held.pages q) × IsOutside q f.streams
  pub unused : unused_of t g.held + held_in g ≡ unused_of t f.held + held_in f
  pub slots : slots_in g ≡ slots_in f

-- no page was left before one was pinned again, and while none was, none is pinned
pub record HaveReadAll (g : Family) (events : List Event) : Type 0 where
  pub first : PinsFirst events
  pub pinned : HasPin events ⊎ AllClosed g

-- what the events of calls did to the pages of all: those that came; where they were steady, which were left, with
-- which bytes; and where they read, that a page is pinned before one is left
pub record LaysAll (steady reading : Type 0) (f g : Family) (events : List Event) : Type 0 where
  pub creates : pages_in g ≡ pages_in f + creates_in events
  pub building : steady → All IsBuilding events
  pub left : steady → (w : Left → ℕ) → weight w g ≡ weight w f + sum_by w (all_left events)
  pub reads : reading → AllClosed f → HaveReadAll g events

-- the same of calls that read, or take rows out, or end pages: no page came
pub record GoesAll (f g : Family) (events : List Event) : Type 0 where
  pub creates : creates_in events ≡ 0
  pub reads : AllClosed f → HaveReadAll g events

-- what is so of calls on them, whatever pages show and whatever the calls answer
pub record FamilySteps (laid : List Event → Type 0) (t : ℕ) (f g : Family) : Type 0 where
  pub shaped : AreShaped t g
  pub long : length g.streams ≡ length f.streams
  pub sized : (blocks : ℕ) → AllSized blocks f → AllSized blocks g
  pub touches : TouchesAll t f g
  pub trail : EnteredEvents laid f.signs.trail g.signs.trail
  pub grows : Grows f.signs g.signs
