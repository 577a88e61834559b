-- The entries that a call of a store makes, the oldest first. Those of other makers may stand between them in
-- the pool's history; a store's trail has its own alone. `t` is the client of the call, and `h` what the store held
-- before it.
use Rattle.std.specs.Prelude.{◌≡◌, ◌⊎◌, ◌<◌, ℕ, List, [], ◌∷◌, ◌++◌, Option, Some, None, All, ⊤}
use Rattle.reservation_tree.specs.declared.errors.PoolErr.{PoolErr}
use Rattle.reservation_tree.specs.declared.errors.PoolErr.TheVariants.{WriteFault, ReadFault, NamesSpent, Stale}
use Rattle.reservation_tree.specs.declared.mark.Mark.{Mark}
use Rattle.pool_model.specs.declared.call.Call.{Call}
use Rattle.pool_model.specs.declared.call.Call.TheVariants as call
use Rattle.pool_model.specs.declared.event.Event.{Event}
use Rattle.pool_model.specs.declared.event.Event.TheVariants.{Ask, PinHere, PinLoad, ReadOk, ReadFailed, ReadStale, StartWrite, WriteOk, WriteFailed, Evict, Refused}
use Rattle.pool_model.specs.declared.entry.Entry.{Entry}
use Rattle.pool_model.specs.LookingBack.{content_from, names_in}
use Rattle.store_api.specs.Holdings.{LivePage, Holdings, IsPageOf}
pub use Rattle.store_api.specs.Refusing.{by}
use Rattle.store_api.specs.Signs.{Signs, Entered}

-- writes of the client's pages that were begun and ended, each before the next
abbrev pub AreWrites : ℕ → Holdings → List Event → Type 0
AreWrites t h [] = ⊤
AreWrites t h (StartWrite p ∷ WriteOk q ∷ rest) = IsPageOf t h p × (q ≡ p) × AreWrites t h rest
AreWrites t h (StartWrite p ∷ WriteFailed q before after ∷ rest) = IsPageOf t h p × (q ≡ p) × AreWrites t h rest
AreWrites t h _ = ⊥

abbrev pub IsEvict : Event → Type 0
IsEvict (Evict p) = ⊤
IsEvict _ = ⊥

-- the call asked, wrote what it had to, and ended so
abbrev pub IsAsked : ℕ → Holdings → List Event → List Event → Type 0
IsAsked t h last events = (writes : List Event) × AreWrites t h writes × (events ≡ Ask ∷ (writes ++ last))

-- the same, and clean pages made room before the end
abbrev pub IsTaken : ℕ → Holdings → List Event → List Event → Type 0
IsTaken t h last events = (evicts : List Event) × All IsEvict evicts × IsAsked t h (evicts ++ last) events

-- a pin found the page in memory, or loaded it
abbrev pub IsPin : ℕ → Holdings → ℕ → List Event → Type 0
IsPin t h p events = IsAsked t h (PinHere p ∷ []) events ⊎ IsTaken t h (PinLoad p ∷ ReadOk p ∷ []) events

-- a load failed
abbrev pub IsFailedLoad : ℕ → Holdings → ℕ → ℕ → List Event → Type 0
IsFailedLoad t h p entry events = (before after : ℕ) × IsTaken t h (PinLoad p ∷ ReadFailed p before after ∷ Refused (call.Pin p) entry ∷ []) events

-- a load gave a block with another mark than the wanted one
abbrev pub IsStaleLoad : ℕ → Holdings → ℕ → Mark → Mark → List Event → Type 0
IsStaleLoad t h p wanted found events = (entry : ℕ) × IsTaken t h (PinLoad p ∷ ReadStale p wanted found ∷ Refused (call.Pin p) entry ∷ []) events

-- a call was refused, with this error: `Memory` comes before all else, and names are looked at last
abbrev pub IsRefusal : ℕ → Holdings → Call → PoolErr → List Event → Type 0
IsRefusal t h what (WriteFault entry) events = IsAsked t h (Refused what entry ∷ []) events
IsRefusal t h (call.Pin p) (ReadFault entry) events = IsFailedLoad t h p entry events
IsRefusal t h (call.Pin p) (Stale wanted found) events = IsStaleLoad t h p wanted found events
IsRefusal t h what NamesSpent events = IsAsked t h [] events
IsRefusal t h what _ events = events ≡ []

-- the trail grew by this maker's entries, and of their events this holds
abbrev pub Made : ℕ → (List Event → Type 0) → Signs → Signs → Type 0
Made maker P old new = Entered (λ more. (events : List Event) × (more ≡ by maker events) × P events) old.trail new.trail

-- the trail grew by these
abbrev pub MadeThese : ℕ → List Event → Signs → Signs → Type 0
MadeThese maker events old new = Made maker (λ made. made ≡ events) old new

-- where the trail is told, what was left in a page that rests is what its last unpin left
abbrev pub TellsLeft : Holdings → Option (List Entry) → Type 0
TellsLeft h None = ⊤
TellsLeft h (Some trail) = (p : ℕ) (page : LivePage) → h.pages p ≡ Some page → page.pins ≡ 0 → page.left ≡ content_from p [] trail

-- where the trail is told, a new page's name is above every name in it
abbrev pub IsAboveNames : ℕ → Option (List Entry) → Type 0
IsAboveNames name None = ⊤
IsAboveNames name (Some trail) = All (λ q. q < name) (names_in trail)
