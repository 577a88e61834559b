-- What a session holds is told by its own entries, whatever others do. Statements alone.
use Rattle.std.specs.Prelude.{◌≡◌, ℕ, ◌-◌, List, [], Some, is_some}
use Rattle.std.specs.FinMap.{get}
use Rattle.reservation_tree.specs.Tracker.{reservation_of, limit_of}
use Rattle.pool_model.specs.declared.entry.Entry.{Entry}
use Rattle.pool_model.specs.State.{Opening, Session, State}
use Rattle.pool_model.specs.Sums.{slots_of}
use Rattle.pool_model.specs.LookingBack.{content_from, made_by}
use Rattle.pool_model.specs.Legal.{state_after, IsLegal}
use Rattle.store_api.specs.Holdings.{Holdings}
use Rattle.store_api.specs.Entries.{TellsLeft}
use Rattle.own_entries.specs.OwnHoldings.{Outset, holdings_of}
use Rattle.own_entries.specs.LiveParts.{live_account, live_page, live_loan, charge_in, Tells}

-- what this session holds after this history
abbrev pub own_holdings : Opening → Outset → List Entry → ℕ → Holdings
own_holdings o outset h m = holdings_of o.block_len m outset (made_by h m)

-- the state has for this session what its own entries tell
abbrev pub TellsState : Opening → Outset → List Entry → ℕ → Session → State → Type 0
TellsState o outset h m x s = Tells (λ p. content_from p [] h) s.block_len s.trackers s.pages s.buffers m x.query x.quota (own_holdings o outset h m)

abbrev pub LegalHoldingsAreTold : Type 0
LegalHoldingsAreTold =
    (o : Opening) (outset : Outset) (h : List Entry) → IsLegal o h → (m : ℕ) (x : Session) → get (state_after o h).sessions m ≡ Some x
    → TellsState o outset h m x (state_after o h)

-- what a pool has for a session is the same in both
pub record SameForSession (m : ℕ) (x y : Session) (h g : List Entry) (s t : State) : Type 0 where
  pub query : x.query ≡ y.query
  pub limit : limit_of s.trackers x.query ≡ limit_of t.trackers y.query
  pub reservation : reservation_of s.trackers x.query ≡ reservation_of t.trackers y.query
  pub accounts : (c : ℕ) → live_account x.query (charge_in s.block_len s.pages s.buffers c) (get s.trackers c) ≡ live_account y.query (charge_in t.block_len t.pages t.buffers c) (get t.trackers c)
  pub pages : (p : ℕ) → live_page m (content_from p [] h) (get s.pages p) ≡ live_page m (content_from p [] g) (get t.pages p)
  pub loans : (f : ℕ) → live_loan x.query s.trackers (get s.buffers f) ≡ live_loan y.query t.trackers (get t.buffers f)
  pub free_slots : x.quota - slots_of s.pages m ≡ y.quota - slots_of t.pages m

-- what a pool has for a session is a function of the session's own entries and the length of a block
abbrev pub OwnEntriesDecide : Type 0
OwnEntriesDecide =
    (o p : Opening) (h g : List Entry) → IsLegal o h → IsLegal p g → o.block_len ≡ p.block_len → (m : ℕ) (x y : Session)
    → get (state_after o h).sessions m ≡ Some x → get (state_after p g).sessions m ≡ Some y → made_by h m ≡ made_by g m → SameForSession m x y h g (state_after o h) (state_after p g)

-- a session is live exactly while its own entries tell free slots of it
abbrev pub LegalLivesAsTold : Type 0
LegalLivesAsTold =
    (o : Opening) (outset : Outset) (h : List Entry) → IsLegal o h → (m : ℕ)
    → is_some (get (state_after o h).sessions m) ≡ is_some (own_holdings o outset h m).free_slots

-- what is left in a page that isn't pinned is what the session's last unpin of it left, in any list of entries
abbrev pub LeftIsTold : Type 0
LeftIsTold = (block_len session : ℕ) (outset : Outset) (own : List Entry) → TellsLeft (holdings_of block_len session outset own) (Some own)
