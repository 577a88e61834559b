-- What a pool has for a session, as what the session holds tells it.
use Rattle.std.specs.Prelude.{◌≡◌, ℕ, ◌+◌, ◌-◌, ◌≤◌, ◌==◌, List, [], Bool, false, if◌then◌else◌, Option, Some, None}
use Rattle.std.specs.FinMap.{get}
use Rattle.reservation_tree.specs.Tracker.{Tracker, Trackers, reservation_of, limit_of, children_of}
use Rattle.reservation_tree.specs.Total.{total}
use Rattle.pool_model.specs.Bytes.{only_if}
use Rattle.pool_model.specs.State.{Place, Pinned, Page, Pages, Buffer, Buffers, pins_of}
use Rattle.pool_model.specs.Sums.{times_charged, pages_for, buffers_for, slots_of}
use Rattle.store_api.specs.Holdings.{Account, LivePage, LiveLoan, Holdings}

abbrev pub is_parent : ℕ → Option ℕ → Bool
is_parent query None = false
is_parent query (Some p) = p == query

-- the tracker is live, and a child of this one
abbrev pub is_under : ℕ → Option Tracker → Bool
is_under query None = false
is_under query (Some y) = is_parent query y.parent

-- the account of a client of the query, with so much charged
abbrev pub live_account : ℕ → ℕ → Option Tracker → Option Account
live_account query charge None = None
live_account query charge (Some y) = if is_parent query y.parent then Some (record { limit = y.limit; reservation = y.reservation; unused = y.reservation - charge }) else None

-- what a store tells of the bytes left in a page there, where these were left in it last
abbrev pub left_at : Place → List ℕ → List ℕ
left_at (Pinned count) left = []
left_at _ left = left

-- a page of the session, wherever it is
abbrev pub live_page : ℕ → List ℕ → Option Page → Option LivePage
live_page maker left None = None
live_page maker left (Some x) =
    if x.session == maker then Some (record { key = x.key; client = x.client; blocks = x.blocks; pins = pins_of x.place; left = left_at x.place left; has_slots = x.has_slots }) else None

-- a buffer of a client of the query
abbrev pub live_loan : ℕ → Trackers → Option Buffer → Option LiveLoan
live_loan query ts None = None
live_loan query ts (Some x) = if is_under query (get ts x.client) then Some (record { client = x.client; blocks = x.blocks }) else None

-- the charge of a tracker, for these pages and buffers
abbrev pub charge_in : ℕ → Pages → Buffers → ℕ → ℕ
charge_in len pages buffers t = pages_for times_charged len pages t + buffers_for len buffers t

-- how many children a tracker has
unfoldable pub count_under : ℕ → Trackers → ℕ
count_under query ts = total (λ _ y. only_if (is_parent query y.parent) 1) ts

-- what is held is what the pool has for the session: of trackers, pages and buffers, where these bytes were left in
-- pages last
pub record Tells (left : ℕ → List ℕ) (len : ℕ) (ts : Trackers) (pages : Pages) (buffers : Buffers) (maker query quota : ℕ) (h : Holdings) : Type 0 where
  pub block_len : h.block_len ≡ len
  pub session : h.session ≡ maker
  pub tracker : h.query ≡ query
  pub limit : h.limit ≡ limit_of ts query
  pub reservation : h.reservation ≡ reservation_of ts query
  pub room : h.room + children_of ts query ≡ reservation_of ts query
  pub live_clients : h.live_clients ≡ count_under query ts
  pub clients : (c : ℕ) → h.clients c ≡ live_account query (charge_in len pages buffers c) (get ts c)
  pub live_pages : (p : ℕ) → h.pages p ≡ live_page maker (left p) (get pages p)
  pub loans : (f : ℕ) → h.loans f ≡ live_loan query ts (get buffers f)
  pub free_slots : h.free_slots ≡ Some (quota - slots_of pages maker)
  pub slots : slots_of pages maker ≤ quota
