-- What a call that wants room is to do next. Bytes that a client wants are beside those that it holds.
use Rattle.std.specs.Prelude.{ℕ, ◌≡◌, ◌<◌, ◌++◌, ◌∷◌, [], List, Option, Some, None, IsSome, length, false}
use Rattle.std.specs.FinMap.{get}
use Rattle.std.specs.Option.{option_and_then}
use Rattle.outside.specs.declared.slot.Slot.{Ghosts}
use Rattle.client_lists.specs.declared.which.Which.TheVariants as which
use Rattle.client_lists.specs.Clients.{newest, nodes_of}
use Rattle.session_table.specs.Seats.{seat_of, members_of, first_of}
use Rattle.pool_model.specs.declared.entry.Entry.{Entry as Event}
use Rattle.pool_model.specs.declared.event.Event.TheVariants as event
use Rattle.pool_model.specs.State.{Flying, Opening, Page, State, dirty_of}
use Rattle.pool_model.specs.Sums.{HasRoom, IsClient}
use Rattle.pool_model.specs.LookingBack.{content_of}
use Rattle.pin_core.specs.declared.jobs.WriteJob.{WriteJob}
use Rattle.pin_core.specs.declared.parts.Parts.{Parts}
use Rattle.pin_core.specs.declared.room.RoomTurn.{RoomTurn}
use Rattle.pin_core.specs.declared.room.RoomTurn.TheVariants.{Ready, Refused, Write, Wait}
use Rattle.pin_core.specs.declared.room.Want.{Want}
use Rattle.pin_core.specs.declared.room.Want.TheVariants.{Hold, Shrink}
use Rattle.pin_core.specs.StateOf.{state_of}
use Rattle.pin_core.specs.Standing.{StandsFor}
use Rattle.pin_core.specs.parts.Changes.{entry_at}
use Rattle.pin_core.specs.calls.Jobs.{IsWriteJob}
use Rattle.pin_core.specs.parts.Flights.{id_with, job_of, flown}
use Rattle.pin_core.specs.Marking.{under_of}

-- the bytes that are wanted
abbrev pub amount_of : Want → ℕ
amount_of (Hold bytes) = bytes
amount_of (Shrink bytes) = bytes

-- the first failure on a page of the client since the session's last Ask, by the number of its entry
abbrev pub failure_of : State → ℕ → ℕ → Option ℕ
failure_of s session c = option_and_then (λ x. get x.failures c) (get s.sessions session)

-- the client has no room, and this is the first failure, if there is one
pub record LacksRoom (s : State) (session c bytes : ℕ) (failure : Option ℕ) : Type 0 where
  pub full : HasRoom s c bytes → ⊥
  pub failed : failure_of s session c ≡ failure

-- no page of the client is dirty, and one of them is written
pub record IsWriting (s : State) (c : ℕ) : Type 0 where
  pub none : dirty_of s c ≡ []
  pub name : ℕ
  pub page : Page
  pub lives : get s.pages name ≡ Some page
  pub own : page.client ≡ c
  pub writer : ℕ
  pub flies : page.place ≡ Flying writer

abbrev pub start_entry : ℕ → ℕ → Event
start_entry who name = record { maker = who; event = event.StartWrite name }

module _ {D : Type 0} where
  -- the job is to write the newest of a client's dirty pages, and has the content of that page
  pub record IsStarted (slot : Ghosts D) (who c : ℕ) (job : WriteJob D) (old new : Parts D) : Type 0 where
    pub is : IsWriteJob (state_of new) job
    pub by : job.who ≡ who
    pub whole : job.failed ≡ false
    pub older : List ℕ
    pub newest : dirty_of (state_of old) c ≡ older ++ job.id.name ∷ []
    pub content : (o : Opening) (h : List Event) → StandsFor slot o h old → job.buf.bytes ≡ content_of o h job.id.name

  -- exactly the first answer that applies; all but a start of a write leave all as it was
  abbrev pub RoomAnswer : Ghosts D → Parts D → Parts D → ℕ → ℕ → ℕ → RoomTurn D → Type 0
  RoomAnswer slot old new session c bytes Ready = HasRoom (state_of old) c bytes × (new ≡ old)
  RoomAnswer slot old new session c bytes (Refused entry) = LacksRoom (state_of old) session c bytes (Some entry) × (new ≡ old)
  RoomAnswer slot old new session c bytes (Write job) = LacksRoom (state_of old) session c bytes None × IsStarted slot session c job old new
  RoomAnswer slot old new session c bytes Wait = LacksRoom (state_of old) session c bytes None × IsWriting (state_of old) c × (new ≡ old)

  -- what is entered, and which slots go
  abbrev pub room_entries : ℕ → RoomTurn D → List Event
  room_entries session (Write job) = start_entry session job.id.name ∷ []
  room_entries session _ = []

  abbrev pub room_slots : RoomTurn D → List D
  room_slots (Write job) = job.row
  room_slots _ = []

  -- the client is live, as its session is, and has lists
  pub record IsKnown (v : Parts D) (session c : ℕ) : Type 0 where
    pub client : IsClient v.tree.trackers c
    pub listed : c < length v.lists.is_open
    pub seated : IsSome (seat_of v.seats session)

  -- the client's newest dirty page went out
  pub record Starts (v new : Parts D) (who c : ℕ) (job : WriteJob D) : Type 0 where
    pub key : ℕ
    pub last : newest c v.lists ≡ Some key
    pub parts : new ≡ flown who (id_with key v) (entry_at v (id_with key v).name) v
    pub job_is : job ≡ job_of who (under_of v.marked v.entries) (id_with key v) (entry_at v (id_with key v).name)

  pub record Lacks (v : Parts D) (session c bytes : ℕ) (first : Option ℕ) : Type 0 where
    pub full : HasRoom (state_of v) c bytes → ⊥
    pub failed : first_of (members_of v.seats session) c ≡ first

  -- the first answer that applies, by the parts
  abbrev pub TurnIs : Parts D → Parts D → ℕ → ℕ → ℕ → RoomTurn D → Type 0
  TurnIs v new session c bytes Ready = HasRoom (state_of v) c bytes × (new ≡ v)
  TurnIs v new session c bytes (Refused entry) = Lacks v session c bytes (Some entry) × (new ≡ v)
  TurnIs v new session c bytes (Write job) = Lacks v session c bytes None × Starts v new session c job
  TurnIs v new session c bytes Wait = Lacks v session c bytes None × (nodes_of c which.Dirty v.lists ≡ []) × (new ≡ v)

  -- some client's newest dirty page, by the parts; none exactly where no list has one
  abbrev pub StartIs : Parts D → Parts D → ℕ → Option (WriteJob D) → Type 0
  StartIs v new who None = ((c : ℕ) → nodes_of c which.Dirty v.lists ≡ []) × (new ≡ v)
  StartIs v new who (Some job) = (c : ℕ) × Starts v new who c job

  -- what a start enters, and which slots go
  abbrev pub start_entries : ℕ → Option (WriteJob D) → List Event
  start_entries who None = []
  start_entries who (Some job) = start_entry who job.id.name ∷ []

  abbrev pub start_slots : Option (WriteJob D) → List D
  start_slots None = []
  start_slots (Some job) = job.row
