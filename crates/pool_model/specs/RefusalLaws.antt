-- What a refused call may name. Statements alone.
use Rattle.std.specs.Prelude.{◌≡◌, ℕ, List, [], ◌∷◌, ◌++◌, Option, Some, None}
use Rattle.std.specs.List.{AllByRecursion}
use Rattle.pool_model.specs.declared.call.Call.{Call}
use Rattle.pool_model.specs.declared.call.Call.TheVariants.{Pin, PinAgain, Create, Alloc, GiveBack, MoveReservation, MoveBuffer}
use Rattle.pool_model.specs.declared.event.Event.TheVariants.{Refused}
use Rattle.pool_model.specs.declared.entry.Entry.{Entry}
use Rattle.pool_model.specs.State.{Opening, Page, State}
use Rattle.pool_model.specs.Owning.{IsTrackerOf, IsPageOf}
use Rattle.pool_model.specs.Refusals.{IsBufferOf}
use Rattle.pool_model.specs.Legal.{state_after, IsLegal}

-- the page that a call names
abbrev pub page_named : Call → Option ℕ
page_named (Pin p) = Some p
page_named (PinAgain p) = Some p
page_named _ = None

-- the buffer
abbrev pub buffer_named : Call → Option ℕ
buffer_named (MoveBuffer f to) = Some f
buffer_named _ = None

-- the trackers
abbrev pub trackers_named : Call → List ℕ
trackers_named (Pin p) = []
trackers_named (PinAgain p) = []
trackers_named (Create client blocks) = client ∷ []
trackers_named (Alloc client blocks) = client ∷ []
trackers_named (GiveBack client bytes) = client ∷ []
trackers_named (MoveReservation from to bytes) = from ∷ to ∷ []
trackers_named (MoveBuffer f to) = to ∷ []

-- all that the call names is live, and the maker's
pub record NamesOwn (s : State) (maker : ℕ) (call : Call) : Type 0 where
  pub page : (p : ℕ) → page_named call ≡ Some p → (x : Page) × IsPageOf s maker p x
  pub buffer : (f : ℕ) → buffer_named call ≡ Some f → IsBufferOf s maker f
  pub trackers : AllByRecursion (λ t. IsTrackerOf s maker t) (trackers_named call)

-- a refused call names what its maker has
abbrev pub LegalRefusalsNameOwn : Type 0
LegalRefusalsNameOwn = (o : Opening) (h : List Entry) (maker : ℕ) (call : Call) (entry : ℕ)
    → IsLegal o (h ++ record { maker = maker; event = Refused call entry } ∷ []) → NamesOwn (state_after o h) maker call
