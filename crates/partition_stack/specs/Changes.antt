-- What calls change of a stack, and of what its client has. Lengths are in bytes.
use Rattle.std.specs.Prelude.{◌≡◌, ◌≢◌, ℕ, ◌+◌, List, [], slice_get, Option, Some, None, IsSome}
use Rattle.pool_model.specs.declared.event.Event.{Event}
use Rattle.store_api.specs.Holdings.{LivePage, account_of, unused_of}
use Rattle.store_api.specs.Signs.{Grows}
use Rattle.tuple_stream.specs.Trails.{EnteredEvents, PinsFirst, creates_in}
use Rattle.tuple_stream.specs.Streamed.{Streamed}
use Rattle.tuple_stream.specs.FamilyCalls.{SpendsIn}
use Rattle.tuple_stream.specs.Families.{AllClosed, AreShaped, Family, IsOutside, TouchesAll, held_in}
use Rattle.partition_stack.specs.Stack.{Stack}

-- no partition changed but the one at this place
pub record ChangesAt (at : ℕ) (old new : Stack) : Type 0 where
  pub blocks : new.page_blocks ≡ old.page_blocks
  pub levels : new.levels ≡ old.levels
  pub others : (i : ℕ) → i ≢ at → slice_get new.streams i ≡ slice_get old.streams i

-- the first row of one was taken out; there was none exactly where it has none
abbrev pub SpendsAt : ℕ → ℕ → Option (List ℕ) → Family → Family → Type 0
SpendsAt t at (Some row) f g = SpendsIn t at row f g
SpendsAt t at None f g = ((s : Streamed) → slice_get f.streams at ≡ Some s → s.count ≡ 0) × (g ≡ f)

-- the streams are the client's and have all of its pages; and what is unused, what their pinned pages take, and so much
-- that it has lent besides, are together its reservation
pub record Owns (t lent : ℕ) (f : Family) : Type 0 where
  pub lives : IsSome (f.held.clients t)
  pub shaped : AreShaped t f
  pub only : (q : ℕ) (page : LivePage) → f.held.pages q ≡ Some page → IsOutside q f.streams → page.client ≢ t
  pub even : unused_of t f.held + held_in f + lent ≡ (account_of t f.held).reservation

-- no page came; and where none was pinned, none was left before one was pinned again
pub record HaveEnded (f : Family) (events : List Event) : Type 0 where
  pub creates : creates_in events ≡ 0
  pub first : AllClosed f → PinsFirst events

-- all pages went, and the streams with them
pub record EndsAll (t : ℕ) (f g : Family) : Type 0 where
  pub none : g.streams ≡ []
  pub touches : TouchesAll t f g
  pub trail : EnteredEvents (HaveEnded f) f.signs.trail g.signs.trail
  pub grows : Grows f.signs g.signs
