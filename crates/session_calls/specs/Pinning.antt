-- One turn of a call that pins a page.
use Rattle.std.specs.Prelude.{◌≡◌, ◌⊎◌, ◌<◌, ◌≤◌, ℕ, List, [], ◌∷◌, Some, true, ⊤}
use Rattle.std.specs.List.{list_any}
use Rattle.reservation_tree.specs.declared.errors.PoolErr.TheVariants.{ReadFault}
use Rattle.pool_model.specs.declared.call.Call.TheVariants.{Pin}
use Rattle.pool_model.specs.declared.event.Event.{Event}
use Rattle.pool_model.specs.declared.event.Event.TheVariants.{PinHere, PinLoad, ReadOk}
use Rattle.pool_model.specs.LookingBack.{is_ask, made_by}
use Rattle.pool_model.specs.Failures.{is_for_own, failures_in}
use Rattle.pool_model.specs.MayFollow.{MayFollow}
use Rattle.pool_model.specs.State.{Opening}
use Rattle.pin_core.specs.StateOf.{state_of}
use Rattle.pin_core.specs.calls.Refusing.{refusal_of}
use Rattle.pin_core.specs.calls.PinTurns.{LacksRoomFor}
use Rattle.store_api.specs.Tokens.{PageToken}
use Rattle.store_api.specs.Holdings.{Holdings, page_of, page_len, unused_of}
use Rattle.store_api.specs.Conditions.{IsPage, ShowsLeft}
use Rattle.own_entries.specs.OwnHoldings.{Outset}
use Rattle.session_calls.specs.Writing.{IsWrite, writes_left}
use Rattle.session_calls.specs.Coming.{Evicts}
use Rattle.session_calls.specs.declared.hand.Hand.{Hand}
use Rattle.session_calls.specs.declared.jobs.Unread.{Unread}
use Rattle.session_calls.specs.declared.pinning.PinStep.{PinStep}
use Rattle.session_calls.specs.declared.pinning.PinStep.TheVariants as step
use Rattle.session_calls.specs.Acting.{held_by}
use Rattle.session_calls.specs.Jobs.{DoesIn, IsBadEnd}
use Rattle.session_calls.specs.Showing.{ShowsStored}

-- a page of the session rests, and its client has its length unused
pub record CanBePinned (p : PageToken) (h : Holdings) : Type 0 where
  pub page : IsPage p h
  pub rests : (page_of p.name h).pins ≡ 0
  pub unused : page_len p.name h ≤ unused_of p.client h

-- the page was pinned where it was, or loaded
abbrev pub IsPinned : ℕ → List Event → Type 0
IsPinned p events = (events ≡ PinHere p ∷ []) ⊎ Evicts (PinLoad p ∷ ReadOk p ∷ []) events

-- a load of the page ended badly
abbrev pub IsBadLoad : ℕ → Unread → List Event → Type 0
IsBadLoad p e events = (end : Event) × IsBadEnd p e end × Evicts (PinLoad p ∷ end ∷ []) events

module _ {D : Type 0} where
  -- the session has begun a call
  abbrev pub HasAsked : Hand D → Type 0
  HasAsked hand = list_any (λ e. is_ask e.event) (made_by hand.trail hand.session) ≡ true

  -- a pin of this page may be refused by the entry of this number
  abbrev pub MayRefusePin : ℕ → ℕ → Hand D → Type 0
  MayRefusePin p entry hand = MayFollow hand.trail (state_of hand.state) (refusal_of hand.session (Pin p) entry)

  -- such a pin may be refused; where a load failed, a failure of this client's pages was counted in between
  pub record BadPin (t p : ℕ) (e : Unread) (old new : Hand D) : Type 0 where
    pub may : MayRefusePin p e.entry new
    pub rose : e.err ≡ ReadFault e.entry → failures_in (is_for_own old.session t) old.trail < failures_in (is_for_own old.session t) new.trail

  -- whether the page is pinned and shows what was left, the call is refused for a failure, a page was written or waited
  -- for, or the page's load ended badly
  abbrev pub PinIs : Opening → Outset → PageToken → PinStep → Hand D → Hand D → Type 0
  PinIs o u p (step.Pinned buf) old new = DoesIn (IsPinned p.name) old new × ShowsLeft (page_of p.name (held_by o u old)) (held_by o u old) buf × ShowsStored o new.trail p.name (page_of p.name (held_by o u old)) buf
  PinIs o u p (step.Refused entry) old new = LacksRoomFor (state_of old.state) old.session p.name (Some entry) × (new ≡ old)
  PinIs o u p step.Wrote old new = DoesIn (λ events. (events ≡ []) ⊎ IsWrite p.client (held_by o u old) events) old new
  PinIs o u p (step.Unread e) old new = BadPin p.client p.name e old new × DoesIn (IsBadLoad p.name e) old new

-- fewer writes may come after a turn that wrote, where the session is alone
abbrev pub GoesFurther : {D : Type 0} → ℕ → PinStep → Hand D → Hand D → Type 0
GoesFurther t step.Wrote old new = writes_left new.session t (state_of new.state) < writes_left old.session t (state_of old.state)
GoesFurther t _ old new = ⊤
