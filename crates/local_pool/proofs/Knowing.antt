-- What is known of one owner's pool between calls.
use Rattle.std.proofs.Common.{◌≡◌, ℕ, Option, Some, None, Result, Ok, Err, IsOk, IfErr, IfNone, refl, sym, ap, ◌∙◌, subst}
use Rattle.std.specs.FinMap.{get}
use Rattle.outside.specs.declared.slot.Slot.{Ghosts}
use Rattle.reservation_tree.specs.declared.errors.PoolErr.{PoolErr}
use Rattle.pool_model.specs.State.{Opening, State}
use Rattle.pool_model.specs.Sums.{memory}
use Rattle.pool_model.specs.Legal.{state_after}
use Rattle.store_api.specs.Holdings.{Above, Holdings, Room}
use Rattle.store_api.specs.Refusals.{IsSharedRefusal}
use Rattle.own_entries.specs.HeldLaws.{own_holdings}
use Rattle.own_entries.proofs.AboveTold.{legal_above_is_told}
use Rattle.pin_core.specs.StateOf.{state_of}
use Rattle.session_calls.specs.declared.hand.Hand.{Hand}
use Rattle.session_calls.specs.Told.{held_in}
use Rattle.session_calls.proofs.Known.{KnownTo, left_of}
use Rattle.session_calls.proofs.Knowing.{knows as knows_session}
use Rattle.local_pool.specs.Counting.{AtOpening}
use Rattle.local_pool.specs.Told.{all_tell, outset_of, opening_of, held_of}
use Rattle.local_pool.specs.Standing.{Stands}
use Rattle.local_pool.proofs.Keeping.{held_is}

-- what is known to the owner, who is a session
abbrev pub Knows : {D : Type 0} → Ghosts D → Hand D → Type 0
Knows slot own = KnownTo (left_of own.trail) (state_of own.state) own.session (held_of slot own)

-- so much room is there, and nobody shares it
abbrev pub IsRoom : Above → Type 0
IsRoom above = (room : ℕ) × (above ≡ Room room)

module _ {D : Type 0} (slot : Ghosts D) (own : Hand D) {first : Option AtOpening} (is : Stands slot first own) where
  pub knows : Knows slot own
  knows =
      subst (KnownTo (left_of own.trail) (state_of own.state) own.session) (held_is slot own is) (knows_session slot (opening_of slot own) (outset_of slot own.state) own is.ready)

  -- the room above its query is its own
  above_is : IsRoom (held_of slot own).above
  unfolding held_in
  above_is =
      let o : Opening = opening_of slot own in
      let same : memory (state_after o own.trail) ≡ memory (state_of own.state) = ap memory (sym is.ready.whole.stands.state) in
      let it : Knows slot own = knows in
      subst (λ (h : Holdings). IsRoom h.above) (held_is slot own is)
      (subst (λ (n : ℕ). IsRoom (own_holdings o (record { above = Room n; told = all_tell slot own.state }) own.trail own.session).above) same
      (_, legal_above_is_told o (all_tell slot own.state) own.trail is.ready.whole.stands.legal own.session it.session (ap (λ (s : State). get s.sessions own.session) (sym is.ready.whole.stands.state) ∙ it.lives)))

-- as it is seen
pub above_at : {D : Type 0} (slot : Ghosts D) (own now : Hand D) {first : Option AtOpening} → own ≡ now → Stands slot first own → IsRoom (held_of slot now).above
above_at slot own now view is = subst (λ (h : Hand _). IsRoom (held_of slot h).above) view (above_is slot own is)

-- so a growth that passes no limit is granted
pub granted : {A : Type 0} (o : Option PoolErr) (growth : ℕ) (above : Above) (r : Result A PoolErr) → IsRoom above → IfNone o (IfErr r (IsSharedRefusal growth above)) → IfNone o (IsOk r)
granted (Some e) growth above r room refused = tt
granted None growth above (Ok x) room refused = refl
granted None growth above (Err e) room refused = absurd (subst (λ (a : Above). IsSharedRefusal growth a e) room.1 refused)
