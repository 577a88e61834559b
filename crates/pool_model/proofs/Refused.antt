-- What a refused call names is its maker's.
use Rattle.std.proofs.Common.{◌≡◌, ℕ, Some, None, subst, inr}
use Rattle.std.specs.List.{AllByRecursion}
use Rattle.pool_model.specs.declared.call.Call.{Call}
use Rattle.pool_model.specs.declared.call.Call.TheVariants.{Pin, PinAgain, Create, Alloc, GiveBack, MoveReservation, MoveBuffer}
use Rattle.pool_model.specs.State.{Page, State}
use Rattle.pool_model.specs.Owning.{IsTrackerOf, IsPageOf}
use Rattle.pool_model.specs.Refusals.{IsBufferOf, IsOwnCall}
use Rattle.pool_model.specs.Legal.{state_after}
use Rattle.pool_model.specs.RefusalLaws.{page_named, buffer_named, trackers_named, LegalRefusalsNameOwn}
use Rattle.pool_model.proofs.Seats.{some_is}
use Rattle.pool_model.proofs.Fronts.{legal_grows_so}

module _ (s : State) (maker : ℕ) where
  own_page : (call : Call) → IsOwnCall s maker call → (p : ℕ) → page_named call ≡ Some p → (x : Page) × IsPageOf s maker p x
  own_page (Pin q) own p is = subst (λ (r : ℕ). (x : Page) × IsPageOf s maker r x) (some_is q p is) own
  own_page (PinAgain q) own p is = subst (λ (r : ℕ). (x : Page) × IsPageOf s maker r x) (some_is q p is) own
  own_page _ own p is = let no : None ≡ Some p = is in cc

  own_buffer : (call : Call) → IsOwnCall s maker call → (f : ℕ) → buffer_named call ≡ Some f → IsBufferOf s maker f
  own_buffer (MoveBuffer g to) own f is = subst (IsBufferOf s maker) (some_is g f is) own.0
  own_buffer _ own f is = let no : None ≡ Some f = is in cc

  own_trackers : (call : Call) → IsOwnCall s maker call → AllByRecursion (λ t. IsTrackerOf s maker t) (trackers_named call)
  own_trackers (Pin p) own = tt
  own_trackers (PinAgain p) own = tt
  own_trackers (Create client blocks) own = (inr own, tt)
  own_trackers (Alloc client blocks) own = (inr own, tt)
  own_trackers (GiveBack client bytes) own = (inr own, tt)
  own_trackers (MoveReservation from to bytes) own = (inr own.0, (own.1, tt))
  own_trackers (MoveBuffer f to) own = (inr own.1, tt)

pub legal_refusals_name_own : LegalRefusalsNameOwn
legal_refusals_name_own o h maker call entry legal =
    let own : IsOwnCall (state_after o h) maker call = (legal_grows_so o h _ legal).0.allows.own in
    record { page = own_page (state_after o h) maker call own; buffer = own_buffer (state_after o h) maker call own; trackers = own_trackers (state_after o h) maker call own }
