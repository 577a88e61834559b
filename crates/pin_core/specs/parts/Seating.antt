-- What the parts need of each other where clients and sessions come and go.
use Rattle.std.specs.Prelude.{◌≡◌, ◌≢◌, ℕ, ◌<◌, ◌≤◌, [], None, IsSome, true, false, length, unwrap_or, option_map}
use Rattle.std.specs.FinMap.{get, len}
use Rattle.index_list.specs.Listing.{stands_in}
use Rattle.client_lists.specs.declared.which.Which.{Which}
use Rattle.client_lists.specs.Clients.{IsOpen, IsClosed, nodes_of}
use Rattle.reservation_tree.specs.Tracker.{IsLive, HasNoChild, reservation_of}
use Rattle.scratch_dev.specs.Pool.{quota_of, lent_of}
use Rattle.session_table.specs.Seats.{Seats, seat_of, members_of, trackers_of}
use Rattle.pin_core.specs.declared.parts.Parts.{Parts}

-- the query tracker of a seat
abbrev pub query_in : Seats → ℕ → ℕ
query_in seats s = unwrap_or (option_map (λ x. x.query) (seat_of seats s)) 0

module _ {D : Type 0} where
  -- a client may come to the session, while it isn't full
  pub record CanJoin (v : Parts D) (s : ℕ) : Type 0 where
    pub seated : IsSome (seat_of v.seats s)
    pub query : IsLive v.tree.trackers (query_in v.seats s)
    pub few : len v.tree.trackers < 4096
    pub members : length (members_of v.seats s) ≤ 16
    pub clients : length v.lists.is_open ≡ 4096
    pub fresh : (t : ℕ) → get v.tree.trackers t ≡ None → IsClosed t v.lists
    pub away : (t : ℕ) → get v.tree.trackers t ≡ None → stands_in t (trackers_of (members_of v.seats s)) ≡ false

  -- a tracker that isn't the root has nothing
  pub record IsBare (v : Parts D) (t : ℕ) : Type 0 where
    pub live : IsLive v.tree.trackers t
    pub low : t ≢ 0
    pub empty : reservation_of v.tree.trackers t ≡ 0
    pub no_child : HasNoChild v.tree.trackers t

  -- a client of the session may leave
  pub record CanPart (v : Parts D) (s t : ℕ) : Type 0 where
    pub bare : IsBare v t
    pub opened : IsOpen t v.lists
    pub none : (which : Which) → nodes_of t which v.lists ≡ []
    pub seated : IsSome (seat_of v.seats s)
    pub there : stands_in t (trackers_of (members_of v.seats s)) ≡ true

  -- a session may come, with a quota of so many slots
  pub record CanSeat (v : Parts D) (s quota : ℕ) : Type 0 where
    pub number : s < 240
    pub vacant : seat_of v.seats s ≡ None
    pub few : len v.tree.trackers < 4096
    pub quotas : s < length v.slots.quotas
    pub closed : quota_of v.slots s ≡ None
    pub spare : quota ≤ v.slots.spare

  -- a session may end, with this query tracker
  pub record CanUnseat (v : Parts D) (s t : ℕ) : Type 0 where
    pub bare : IsBare v t
    pub seated : IsSome (seat_of v.seats s)
    pub members : members_of v.seats s ≡ []
    pub quotas : s < length v.slots.quotas
    pub opened : IsSome (quota_of v.slots s)
    pub home : lent_of v.slots s ≡ 0
