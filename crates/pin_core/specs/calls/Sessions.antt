-- Sessions and their clients, as the model's state has them.
use Rattle.std.specs.Prelude.{◌≡◌, ◌≢◌, ℕ, ◌==◌, ◌<◌, Bool, false, Some, None, IsSome, unwrap_or, option_map}
use Rattle.std.specs.FinMap.{get}
use Rattle.reservation_tree.specs.Total.{total}
use Rattle.reservation_tree.specs.Tracker.{Tracker}
use Rattle.pool_model.specs.Bytes.{only_if}
use Rattle.pool_model.specs.State.{Buffer, Page, State}

-- the session is live
abbrev pub IsSeat : State → ℕ → Type 0
IsSeat s m = IsSome (get s.sessions m)

-- the query tracker of a session
abbrev pub query_of : State → ℕ → ℕ
query_of s m = unwrap_or (option_map (λ x. x.query) (get s.sessions m)) 0

-- the tracker stands right under this one
abbrev pub is_under : ℕ → Tracker → Bool
is_under parent x = elim x.parent [ None ↦ false | Some p ↦ p == parent ]

-- how many live trackers stand right under a session's query tracker: its clients
abbrev pub client_count : State → ℕ → ℕ
client_count s m = total (λ _ x. only_if (is_under (query_of s m) x) 1) s.trackers

-- no page and no buffer is charged to the tracker
pub record IsIdle (s : State) (t : ℕ) : Type 0 where
  pub pages : (p : ℕ) (x : Page) → get s.pages p ≡ Some x → x.client ≢ t
  pub buffers : (f : ℕ) (x : Buffer) → get s.buffers f ≡ Some x → x.client ≢ t

-- each number of a session is one of a live session
abbrev pub IsFull : State → Type 0
IsFull s = (m : ℕ) → m < 240 → IsSeat s m

-- how many slots are a session's
abbrev pub quota_in : State → ℕ → ℕ
quota_in s m = unwrap_or (option_map (λ x. x.quota) (get s.sessions m)) 0
