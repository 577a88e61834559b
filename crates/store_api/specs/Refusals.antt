-- What the calls of a store may answer that isn't Ok, and what they leave then. Lengths are in bytes.
use Rattle.std.specs.Prelude.{◌≡◌, ◌≢◌, ℕ, ◌-◌, ◌<◌, ◌==◌, [], ◌∷◌, leb, true, false, if◌then◌else◌, Option, Some, None, ⊤}
use Rattle.block_arena.specs.Memory.{Buffer}
use Rattle.reservation_tree.specs.declared.errors.PoolErr.{PoolErr}
use Rattle.reservation_tree.specs.declared.errors.PoolErr.TheVariants.{NoReservation, ScratchFull, WriteFault, ReadFault, NamesSpent, Memory, Stale}
use Rattle.pool_model.specs.declared.call.Call.{Call}
use Rattle.pool_model.specs.declared.call.Call.TheVariants.{Pin, Create, Alloc}
use Rattle.pool_model.specs.declared.event.Event.TheVariants.{UnpinRefused}
use Rattle.store_api.specs.Holdings.{LivePage, Above, Nothing, Room, Shared, Holdings, account_of, page_of}
use Rattle.store_api.specs.Changes.{query_growth}
use Rattle.store_api.specs.Signs.{Signs, FailedFor, WasAnswered}
use Rattle.store_api.specs.Entries.{Made, MadeThese, IsRefusal}

-- the refusal of a growth that passes this room, and else what the others say
abbrev pub unless_fits : ℕ → ℕ → ℕ → Option PoolErr → Option PoolErr
unless_fits tracker wanted room others = if leb wanted room then others else Some (NoReservation tracker wanted room)

-- a client's room: its limit less its reservation
abbrev pub client_room : ℕ → Holdings → ℕ
client_room t h = (account_of t h).limit - (account_of t h).reservation

-- what refuses above the query, where no other takes room there
abbrev pub refusal_above : ℕ → Above → Option PoolErr
refusal_above wanted Nothing = None
refusal_above wanted (Room room) = unless_fits 0 wanted room None
refusal_above wanted Shared = None

-- what refuses a growth: the client's limit, the query's, and what is above
abbrev pub reserve_refusal : ℕ → ℕ → Holdings → Option PoolErr
reserve_refusal t bytes h =
    unless_fits t bytes (client_room t h)
    (unless_fits h.query (query_growth bytes h) (h.limit - h.reservation)
    (refusal_above (query_growth bytes h) h.above))

-- the refusal of a tracker above whose room others take too: it names the growth that was wanted there
abbrev pub IsSharedRefusal : ℕ → Above → PoolErr → Type 0
IsSharedRefusal growth Shared (NoReservation tracker wanted room) = (tracker ≡ 0) × (wanted ≡ growth) × (room < wanted)
IsSharedRefusal growth _ _ = ⊥

-- what refuses a move of reservation, before anything is written
abbrev pub move_refusal : ℕ → ℕ → ℕ → Holdings → Option PoolErr
move_refusal from to bytes h = if from == to then None else unless_fits to bytes (client_room to h) None

-- why a call that needs room of this client may be refused: a write failed; the page's load failed, or gave a block with
-- another mark than the wanted one; no name or no memory was left
abbrev pub MayRefuse : ℕ → Call → Signs → Signs → PoolErr → Type 0
MayRefuse t what before after (WriteFault entry) = FailedFor t before after
MayRefuse t (Pin p) before after (ReadFault entry) = FailedFor t before after
MayRefuse t (Pin p) before after (Stale wanted found) = (found ≢ wanted) × (before.stale < after.stale)
MayRefuse t (Create client blocks) before after NamesSpent = after.spent ≡ true
MayRefuse t (Create client blocks) before after Memory = ⊤
MayRefuse t (Alloc client blocks) before after Memory = ⊤
MayRefuse t what before after _ = ⊥

-- a call that needs room of this client was refused with this error: nothing that the store holds changed, and the
-- error shows in what grew
pub record WasRefused (t : ℕ) (what : Call) (old new : Holdings) (before after : Signs) (e : PoolErr) : Type 0 where
  pub held : new ≡ old
  pub cause : MayRefuse t what before after e
  pub answered : WasAnswered e before after
  pub entries : Made old.session (IsRefusal t old what e) before after

-- a call changed nothing, and made no entry
pub record IsUntouched (old new : Holdings) (before after : Signs) : Type 0 where
  pub held : new ≡ old
  pub entries : MadeThese old.session [] before after

-- so many slots are too few; a store without a quota never lacks any
abbrev pub AreTooFew : ℕ → Option ℕ → Type 0
AreTooFew blocks None = ⊥
AreTooFew blocks (Some free) = free < blocks

-- a page has no slots, and fewer are free than it needs
pub record LacksSlots (page : LivePage) (free : Option ℕ) : Type 0 where
  pub none : page.has_slots ≡ false
  pub few : AreTooFew page.blocks free

-- the error tells the slots needed and those that are free
abbrev pub IsScratchFull : ℕ → Option ℕ → PoolErr → Type 0
IsScratchFull blocks None e = ⊥
IsScratchFull blocks (Some free) e = e ≡ ScratchFull blocks free

-- an unpin of this page was refused: it stays pinned, its buffer came back, and the error tells the slots
pub record StaysPinned (p : ℕ) (buf : Buffer) (old new : Holdings) (before after : Signs) (e : Buffer × PoolErr) : Type 0 where
  pub held : new ≡ old
  pub back : e.0 ≡ buf
  pub cause : IsScratchFull (page_of p old).blocks old.free_slots e.1
  pub answered : WasAnswered e.1 before after
  pub entries : MadeThese old.session (UnpinRefused p ∷ []) before after
