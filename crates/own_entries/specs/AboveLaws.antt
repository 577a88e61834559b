-- What is above a query, where no other takes room there. Statements alone.
use Rattle.std.specs.Prelude.{◌≡◌, ℕ, ◌-◌, List, [], ◌∷◌, Some, Bool, ⊤, option_map, IsSome}
use Rattle.std.specs.FinMap.{get}
use Rattle.reservation_tree.specs.Tracker.{reservation_of, children_of}
use Rattle.reservation_tree.specs.Change.{grow_refusal}
use Rattle.reservation_tree.specs.Answer.{no_reservation}
use Rattle.pool_model.specs.declared.entry.Entry.{Entry}
use Rattle.pool_model.specs.State.{Opening, Session}
use Rattle.pool_model.specs.Sums.{charge_of, memory}
use Rattle.pool_model.specs.Legal.{state_after, IsLegal}
use Rattle.pool_model.specs.PoolLaws.{HoldsAfterAll}
use Rattle.store_api.specs.Holdings.{Holdings, Room}
use Rattle.store_api.specs.Refusals.{reserve_refusal}
use Rattle.own_entries.specs.HeldLaws.{own_holdings}

-- what a session holds that has all memory above it when it is opened
abbrev pub held_alone : Opening → Bool → List Entry → ℕ → Holdings
held_alone o told h m = own_holdings o (record { above = Room (memory (state_after o h)); told = told }) h m

-- the room above is what the query hasn't reserved of all memory
abbrev pub LegalAboveIsTold : Type 0
LegalAboveIsTold =
    (o : Opening) (told : Bool) (h : List Entry) → IsLegal o h → (m : ℕ) (x : Session) → get (state_after o h).sessions m ≡ Some x
    → (held_alone o told h m).above ≡ Room (memory (state_after o h) - (held_alone o told h m).reservation)

-- the root has reserved what its children have, and no more
abbrev pub LegalRootIsTight : Type 0
LegalRootIsTight = HoldsAfterAll (λ s. reservation_of s.trackers 0 ≡ children_of s.trackers 0)

-- one maker made all of these
abbrev pub AllBy : ℕ → List Entry → Type 0
AllBy m [] = ⊤
AllBy m (e ∷ es) = (e.maker ≡ m) × AllBy m es

-- where one maker alone made the history, its query is the root's one child
abbrev pub LegalAloneUnderRoot : Type 0
LegalAloneUnderRoot =
    (o : Opening) (h : List Entry) → IsLegal o h → (m : ℕ) → AllBy m h → (x : Session) → get (state_after o h).sessions m ≡ Some x
    → children_of (state_after o h).trackers 0 ≡ reservation_of (state_after o h).trackers x.query

-- and its clients' growths are refused exactly as a store refuses them that has so much room above
abbrev pub LegalRefusesAlone : Type 0
LegalRefusesAlone =
    (o : Opening) (told : Bool) (h : List Entry) → IsLegal o h → (m : ℕ) → AllBy m h → (x : Session) → get (state_after o h).sessions m ≡ Some x
    → (t bytes : ℕ) → IsSome ((held_alone o told h m).clients t)
    → option_map no_reservation (grow_refusal (charge_of (state_after o h)) bytes t (state_after o h).trackers) ≡ reserve_refusal t bytes (held_alone o told h m)
