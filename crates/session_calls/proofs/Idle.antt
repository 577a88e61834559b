-- A page of a session that has the pool's value in hand is in no job of the session.
use Rattle.std.proofs.Common.{◌≡◌, ℕ, Bool, false, if◌then◌else◌, sym, ap, ◌∙◌, eq-eqb}
use Rattle.std.proofs.lemmas.Bool.{false≢true}
use Rattle.std.specs.FinMap.{get}
use Rattle.outside.specs.declared.slot.Slot.{Ghosts}
use Rattle.pool_model.specs.State.{Opening, Loading, State, page_at}
use Rattle.pool_model.specs.LookingBack.{made_by}
use Rattle.pool_model.specs.Legal.{state_after}
use Rattle.store_api.specs.Tokens.{PageToken}
use Rattle.store_api.specs.Conditions.{IsPage}
use Rattle.own_entries.specs.OwnHoldings.{Outset}
use Rattle.own_entries.specs.Busy.{is_busy, busy_in, busy_from}
use Rattle.own_entries.proofs.BusyTold.{legal_busy_pages_are_told}
use Rattle.pin_core.specs.StateOf.{state_of}
use Rattle.session_calls.proofs.Known.{left_of}
use Rattle.session_calls.proofs.Pages.{IsThere, is_there}
use Rattle.session_calls.specs.declared.hand.Hand.{Hand}
use Rattle.session_calls.specs.Ready.{IsReady}
use Rattle.session_calls.specs.Acting.{held_by}
use Rattle.session_calls.proofs.Knowing.{knows}

module _ {D : Type 0} (slot : Ghosts D) (o : Opening) (u : Outset) (hand : Hand D) (is : IsReady slot o u hand) (p : PageToken) (held : IsPage p (held_by o u hand)) where
  there : IsThere (left_of hand.trail) (state_of hand.state) hand.session (held_by o u hand) p
  there = is_there (knows slot o u hand is) p held

  pub never_busy : is_busy hand.session (page_at (state_of hand.state) p.name).place ≡ false
  never_busy =
      let m : ℕ = hand.session in
      let told : busy_in m (get (state_after o hand.trail).pages p.name) ≡ busy_from p.name false (made_by hand.trail m) = legal_busy_pages_are_told o hand.trail is.whole.stands.legal m is.rests.number p.name in
      sym (ap (λ (b : Bool). if b then is_busy m (page_at (state_of hand.state) p.name).place else false) (eq-eqb (page_at (state_of hand.state) p.name).session m there.whose))
      ∙ ap (busy_in m) (sym there.page.lives) ∙ ap (λ (s : State). busy_in m (get s.pages p.name)) is.whole.stands.state ∙ told ∙ is.rests.still p.name

  pub not_loading : (page_at (state_of hand.state) p.name).place ≡ Loading → ⊥
  not_loading loads = false≢true (sym never_busy ∙ ap (is_busy hand.session) loads)
