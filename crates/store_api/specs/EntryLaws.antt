-- What entries and changes of a store come to. Statements alone.
use Rattle.std.specs.Prelude.{◌≡◌, ◌≢◌, ℕ, ◌+◌, ◌-◌, List, [], ◌∷◌, false, All, None, IsSome}
use Rattle.reservation_tree.specs.declared.mark.Mark.{Mark}
use Rattle.reservation_tree.specs.declared.errors.PoolErr.TheVariants.{WriteFault, ReadFault, Stale}
use Rattle.pool_model.specs.declared.call.Call.{Call}
use Rattle.pool_model.specs.declared.call.Call.TheVariants.{Pin}
use Rattle.pool_model.specs.declared.event.Event.{Event}
use Rattle.pool_model.specs.declared.event.Event.TheVariants.{Create, Alloc, MoveBuffer, PinAgain, UnpinOnce}
use Rattle.pool_model.specs.State.{State, Pinned, Evicted, page_at, buffer_at}
use Rattle.pool_model.specs.Parts.{pins_at}
use Rattle.pool_model.specs.Legal.{run}
use Rattle.store_api.specs.Holdings.{Holdings}
use Rattle.store_api.specs.Changes.{after_reserve, after_give_back}
use Rattle.store_api.specs.Refusals.{refusal_above}
use Rattle.store_api.specs.Alike.{Alike}
use Rattle.store_api.specs.WriteLaws.{written}
use Rattle.store_api.specs.Refusing.{TellFailedWrite, TellFailedRead, TellStale}
use Rattle.store_api.specs.Entries.{by, IsAsked, IsTaken, IsPin, IsFailedLoad, IsStaleLoad, IsRefusal}

-- what the entries of one call leave of their page or buffer in a pool
pub record EntriesTell (maker : ℕ) (old new : State) (events : List Event) : Type 0 where
  pub pinned : (t : ℕ) (h : Holdings) (p : ℕ) → IsPin t h p events → (page_at new p).place ≡ Pinned 1
  pub not_loaded : (t : ℕ) (h : Holdings) (p entry : ℕ) → IsFailedLoad t h p entry events → (page_at new p).place ≡ Evicted
  pub stale : (t : ℕ) (h : Holdings) (p : ℕ) (wanted found : Mark) → IsStaleLoad t h p wanted found events → (page_at new p).place ≡ Evicted
  pub created : (t : ℕ) (h : Holdings) (p client blocks key : ℕ) → IsTaken t h (Create p client blocks key ∷ []) events
      → page_at new p ≡ record { key = key; session = maker; client = client; blocks = blocks; place = Pinned 1; has_slots = false; version = 0 }
  pub lent : (t : ℕ) (h : Holdings) (f client blocks : ℕ) → IsTaken t h (Alloc f client blocks ∷ []) events
      → buffer_at new f ≡ record { client = client; blocks = blocks }
  pub moved : (t : ℕ) (h : Holdings) (f to : ℕ) → IsAsked t h (MoveBuffer f to ∷ []) events
      → buffer_at new f ≡ record (buffer_at old f) { client = to }
  pub pinned_again : (t : ℕ) (h : Holdings) (p : ℕ) → IsAsked t h (PinAgain p ∷ []) events → All (λ q. q ≢ p) (written events)
      → (page_at new p).place ≡ Pinned (pins_at old p + 1)
  pub unpinned_once : (p : ℕ) → events ≡ UnpinOnce p ∷ [] → (page_at new p).place ≡ Pinned (pins_at old p - 1)

-- whoever makes them, and whatever the pool has
abbrev pub AllEntriesTell : Type 0
AllEntriesTell = (maker : ℕ) (s : State) (events : List Event) → EntriesTell maker s (run s (by maker events)) events

-- the entries of a refusal tell why it came
pub record RefusalTells (maker t : ℕ) (h : Holdings) (events : List Event) : Type 0 where
  pub write : (what : Call) (entry : ℕ) → IsRefusal t h what (WriteFault entry) events → TellFailedWrite entry (by maker events)
  pub read : (p entry : ℕ) → IsRefusal t h (Pin p) (ReadFault entry) events → TellFailedRead entry (by maker events)
  pub stale : (p : ℕ) (wanted found : Mark) → IsRefusal t h (Pin p) (Stale wanted found) events → TellStale wanted found (by maker events)

abbrev pub AllRefusalsTell : Type 0
AllRefusalsTell = (maker t : ℕ) (h : Holdings) (events : List Event) → RefusalTells maker t h events

-- a fall undoes a growth, where the query has no room of its own and the growth fits what is above
abbrev pub FallsUndoGrowths : Type 0
FallsUndoGrowths = (t bytes : ℕ) (h : Holdings) → IsSome (h.clients t) → h.room ≡ 0 → refusal_above bytes h.above ≡ None
    → Alike h (after_give_back t bytes (after_reserve t bytes h))
