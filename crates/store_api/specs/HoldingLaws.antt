-- What must be so of the words for a store's changes and refusals, whatever store stands behind them.
use Rattle.std.specs.Prelude.{◌≡◌, ◌↔◌, ℕ, ◌≤◌, List, false, Some, None, IsSome, ⊤}
use Rattle.pool_model.specs.State.{Page, Pinned, State}
use Rattle.pool_model.specs.Owning.{IsPageOf}
use Rattle.pool_model.specs.PageRows.{MayRefuseUnpin}
use Rattle.pool_model.specs.Sums.{free_slots}
use Rattle.store_api.specs.Holdings.{LivePage, Above, Nothing, Room, Shared, Holdings, account_of, page_of}
use Rattle.store_api.specs.Changes.{query_growth, after_reserve, after_pin, after_unpin, after_extract, after_destroy}
use Rattle.store_api.specs.Refusals.{LacksSlots, reserve_refusal}

-- what is above a query has room for so much more, where that is told
abbrev pub HasRoomFor : ℕ → Above → Type 0
HasRoomFor growth Nothing = ⊤
HasRoomFor growth (Room room) = growth ≤ room
HasRoomFor growth Shared = ⊤

-- a client that grows by so much passes no limit: neither its own, nor the query's, nor one above
pub record FitsGrown (t bytes : ℕ) (h : Holdings) : Type 0 where
  pub client : (account_of t (after_reserve t bytes h)).reservation ≤ (account_of t h).limit
  pub query : (after_reserve t bytes h).reservation ≤ h.limit
  pub above : HasRoomFor (query_growth bytes h) h.above

-- a growth is refused exactly where it would pass a limit; one by others above is not told here
abbrev pub RefusesOverLimits : Type 0
RefusesOverLimits =
    (t bytes : ℕ) (h : Holdings) → (account_of t h).reservation ≤ (account_of t h).limit → h.reservation ≤ h.limit
    → (reserve_refusal t bytes h ≡ None) ↔ FitsGrown t bytes h

-- a page that rested for the first time took its slots; they are free again when it ends, resting or pinned
abbrev pub SlotsComeBack : Type 0
SlotsComeBack =
    (p : ℕ) (bytes : List ℕ) (h : Holdings) → IsSome (h.pages p) → (page_of p h).has_slots ≡ false → (LacksSlots (page_of p h) h.free_slots → ⊥)
    → ((after_destroy p (after_unpin p bytes h)).free_slots ≡ h.free_slots)
    × ((f : ℕ) → (after_extract p f (after_pin p (after_unpin p bytes h))).free_slots ≡ h.free_slots)

-- a pinned page lacks slots exactly where a pool may refuse to unpin it
abbrev pub LacksAsInPool : Type 0
LacksAsInPool =
    (s : State) (maker p : ℕ) (page : Page) (live : LivePage) → IsPageOf s maker p page → page.place ≡ Pinned 1
    → live.blocks ≡ page.blocks → live.has_slots ≡ page.has_slots
    → LacksSlots live (Some (free_slots s maker)) ↔ MayRefuseUnpin s maker p
