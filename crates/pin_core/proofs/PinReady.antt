-- What the steps of a call that pins a page need of the parts.
use Rattle.std.proofs.Common.{◌≡◌, ℕ, sym, subst}
use Rattle.page_table.specs.declared.page_id.PageId.{PageId}
use Rattle.page_table.specs.declared.entry.Place.TheVariants as spot
use Rattle.page_table.specs.declared.entry.Entry.{Entry}
use Rattle.pool_model.specs.Owning.{IsClientOf}
use Rattle.pool_model.specs.Sums.{HasRoom}
use Rattle.pin_core.specs.declared.kept.Kept.{Kept}
use Rattle.pin_core.specs.declared.parts.Parts.{Parts}
use Rattle.pin_core.specs.declared.pin.PinTurn.{PinTurn}
use Rattle.pin_core.specs.declared.room.RoomTurn.{RoomTurn}
use Rattle.pin_core.specs.declared.room.RoomTurn.TheVariants as turn
use Rattle.pin_core.specs.StateOf.{state_of}
use Rattle.pin_core.specs.Lawful.{Lawful}
use Rattle.pin_core.specs.Invariant.{IsKept}
use Rattle.pin_core.specs.parts.Changes.{entry_at}
use Rattle.pin_core.specs.calls.Turns.{IsKnown, TurnIs}
use Rattle.pin_core.specs.parts.Pinning.{ReadyDirty, ReadyClean}
use Rattle.pin_core.specs.parts.PinSteps.{CanPinAt, PinIs, bytes_at}
use Rattle.pin_core.proofs.Charged.{owner}
use Rattle.pin_core.proofs.Turned.{known}
use Rattle.pin_core.proofs.FromMemory.{dirty_ready, clean_ready}

module _ {D : Type 0} (v : Parts D) (is_kept : IsKept v) (laws : Lawful v) (session : ℕ) (id : PageId) (x : Entry (Kept D)) (can : CanPinAt v session id x) where
  pub owned : IsClientOf (state_of v) session x.client
  owned = subst (λ (s : ℕ). IsClientOf (state_of v) s x.client) can.own (owner v is_kept id.name x can.there)

  pub turn_known : (c : ℕ) → c ≡ x.client → IsKnown v session c
  turn_known c is = subst (IsKnown v session) (sym is) (known v is_kept laws session x.client owned)

  pub ready_dirty : x.place ≡ spot.Dirty → ReadyDirty v id x
  ready_dirty dirty = dirty_ready v is_kept laws id x can.live can.there dirty can.unused

  pub ready_clean : x.place ≡ spot.Clean → HasRoom (state_of v) x.client (bytes_at v x) → ReadyClean v id x
  ready_clean clean room = clean_ready v is_kept laws id x can.live can.there clean room

  -- there is room, and nothing changed
  pub ready_is : (new : Parts D) (c bytes : ℕ) (r : RoomTurn D) → TurnIs v new session c bytes r → r ≡ turn.Ready → HasRoom (state_of v) c bytes × (new ≡ v)
  ready_is new c bytes r is ready = subst (TurnIs v new session c bytes) ready is

-- the answer over parts that are the same
pub turn_over : {D : Type 0} (v mid new : Parts D) (session : ℕ) (id : PageId) (r : PinTurn D) → mid ≡ v → PinIs mid new session id (entry_at mid id.name) r → PinIs v new session id (entry_at v id.name) r
turn_over {D} v mid new session id r same is = subst (λ (p : Parts D). PinIs p new session id (entry_at p id.name) r) same is
