-- The orders in which pages wait, as entries tell them. The oldest entry is first.
use Rattle.std.specs.Prelude.{◌≡◌, ◌<◌, ℕ, ◌==◌, ◌&&◌, Bool, true, false, List, [], ◌∷◌, filter, Option, Some, None, IsSome, option_map}
use Rattle.std.specs.Bool.{⊤}
use Rattle.std.specs.List.{list_any, AllByRecursion}
use Rattle.std.specs.FinMap.{get}
use Rattle.pool_model.specs.declared.event.Event.{Event}
use Rattle.pool_model.specs.declared.event.Event.TheVariants.{Unpin, WriteOk, WriteFailed}
use Rattle.pool_model.specs.declared.entry.Entry.{Entry}
use Rattle.pool_model.specs.State.{Opening, Place, Dirty, Page, State, dirty_of}
use Rattle.pool_model.specs.Sums.{is_clean}
use Rattle.pool_model.specs.LookingBack.{numbered, last_of}
use Rattle.pool_model.specs.Legal.{state_after, IsLegal}

-- the page that an event leaves dirty, as the newest
abbrev pub dirtied : Event → Option ℕ
dirtied (Unpin p content) = Some p
dirtied (WriteFailed p before after) = Some p
dirtied _ = None

-- the page that an event leaves clean
abbrev pub cleaned : Event → Option ℕ
cleaned (WriteOk p) = Some p
cleaned _ = None

abbrev pub is_page : ℕ → Option ℕ → Bool
is_page p None = false
is_page p (Some q) = q == p

-- the number of the last such entry of the page
abbrev pub last_time : (Event → Option ℕ) → List Entry → ℕ → Option ℕ
last_time which h p = option_map (λ n. n.number) (last_of None (filter (λ n. is_page p (which n.entry.event)) (numbered 0 h)))

abbrev pub IsBefore : Option ℕ → Option ℕ → Type 0
IsBefore (Some i) (Some j) = i < j
IsBefore _ _ = ⊥

-- each has its time, and is before those behind it
abbrev pub InOrder : (ℕ → Option ℕ) → List ℕ → Type 0
InOrder time [] = ⊤
InOrder time (p ∷ ps) = IsSome (time p) × AllByRecursion (λ q. IsBefore (time p) (time q)) ps × InOrder time ps

-- whether the name stands in the list
abbrev pub stands_in : List ℕ → ℕ → Bool
stands_in names p = list_any (λ q. q == p) names

abbrev pub is_dirty : Place → Bool
is_dirty Dirty = true
is_dirty _ = false

-- whether the page is live, dirty and this client's
abbrev pub dirty_for : ℕ → Option Page → Bool
dirty_for c None = false
dirty_for c (Some x) = is_dirty x.place && (x.client == c)

-- whether the page is live and clean
abbrev pub clean_at : Option Page → Bool
clean_at None = false
clean_at (Some x) = is_clean x.place

-- the lists have just the pages that wait: a client's dirty ones in the order in which they were left dirty last,
-- and all clean ones in the order in which they were written last
pub record AreQueues (h : List Entry) (s : State) : Type 0 where
  pub dirty : (c : ℕ) → InOrder (last_time dirtied h) (dirty_of s c)
  pub dirty_ones : (c p : ℕ) → stands_in (dirty_of s c) p ≡ dirty_for c (get s.pages p)
  pub clean : InOrder (last_time cleaned h) s.clean
  pub clean_ones : (p : ℕ) → stands_in s.clean p ≡ clean_at (get s.pages p)

abbrev pub LegalKeepsQueues : Type 0
LegalKeepsQueues = (o : Opening) (h : List Entry) → IsLegal o h → AreQueues h (state_after o h)
