-- What a pool refuses a session, as what the session holds tells it. Statements alone.
use Rattle.std.specs.Prelude.{◌≡◌, ◌↔◌, ℕ, ◌-◌, List, Some, option_map, IsSome}
use Rattle.std.specs.FinMap.{get}
use Rattle.std.specs.Option.{option_or}
use Rattle.reservation_tree.specs.Tracker.{unused}
use Rattle.reservation_tree.specs.Change.{over, grow_refusal}
use Rattle.reservation_tree.specs.Change.{move_refusal as tree_move_refusal}
use Rattle.reservation_tree.specs.Answer.{no_reservation}
use Rattle.pool_model.specs.declared.entry.Entry.{Entry}
use Rattle.pool_model.specs.State.{Opening, Session, State}
use Rattle.pool_model.specs.Sums.{charge_of}
use Rattle.pool_model.specs.PageRows.{MayRefuseUnpin}
use Rattle.pool_model.specs.Legal.{state_after, IsLegal}
use Rattle.store_api.specs.Holdings.{Shared, Holdings, page_of}
use Rattle.store_api.specs.Changes.{query_growth}
use Rattle.store_api.specs.Refusals.{LacksSlots, reserve_refusal, move_refusal}
use Rattle.own_entries.specs.OwnHoldings.{Outset}
use Rattle.own_entries.specs.HeldLaws.{own_holdings}

-- a client's growth is refused by the client's limit, else by the query's, as the session tells both, and else by the
-- root's, for what isn't unused there; a move to another client by that one's limit; and an unpin exactly where a
-- page without slots needs more than are free
pub record RefusesAsTold (s : State) (m : ℕ) (h : Holdings) : Type 0 where
  pub growth : (t bytes : ℕ) → IsSome (h.clients t)
      → option_map no_reservation (grow_refusal (charge_of s) bytes t s.trackers)
      ≡ option_or (reserve_refusal t bytes (record h { above = Shared })) (option_map no_reservation (over s.trackers (query_growth bytes h - unused (charge_of s) s.trackers 0) 0))
  pub move : (from to bytes : ℕ) → IsSome (h.clients from) → IsSome (h.clients to) → option_map no_reservation (tree_move_refusal bytes from to s.trackers) ≡ move_refusal from to bytes h
  pub unpin : (p : ℕ) → IsSome (h.pages p) → (page_of p h).pins ≡ 1 → LacksSlots (page_of p h) h.free_slots ↔ MayRefuseUnpin s m p

abbrev pub LegalRefusesAsTold : Type 0
LegalRefusesAsTold =
    (o : Opening) (outset : Outset) (h : List Entry) → IsLegal o h → (m : ℕ) (x : Session) → get (state_after o h).sessions m ≡ Some x
    → RefusesAsTold (state_after o h) m (own_holdings o outset h m)
