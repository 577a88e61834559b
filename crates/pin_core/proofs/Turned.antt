-- What a call that wants room leaves, and what its answer says of the state.
use Rattle.std.proofs.Common.{◌≡◌, ℕ, ◌+◌, ◌≤◌, true, [], ◌∷◌, Option, Some, None, refl, ap, sym, ◌∙◌, subst, inl, arith}
use Rattle.std.specs.FinMap.{get}
use Rattle.std.proofs.lemmas.Bool.{false≢true}
use Rattle.outside.specs.declared.slot.Slot.{Ghosts}
use Rattle.index_list.specs.Listing.{stands_in}
use Rattle.client_lists.specs.declared.which.Which.TheVariants as which
use Rattle.client_lists.specs.Clients.{nodes_of, sum, total}
use Rattle.reservation_tree.specs.Tracker.{reservation_of, unused}
use Rattle.reservation_tree.proofs.Maps.{is_there}
use Rattle.pool_model.specs.State.{Place, Pinned, Dirty, Flying, Loading, Clean, Evicted}
use Rattle.pool_model.specs.Sums.{HasRoom, charge_of, held_by}
use Rattle.pool_model.specs.Owning.{IsClientOf}
use Rattle.pool_model.specs.Sound.{IsSound}
use Rattle.pool_model.proofs.Kept.{legal_sound}
use Rattle.pool_model.proofs.Seats.{own_client}
use Rattle.pin_core.specs.declared.parts.Parts.{Parts}
use Rattle.pin_core.specs.declared.room.RoomTurn.{RoomTurn}
use Rattle.pin_core.specs.declared.room.RoomTurn.TheVariants.{Ready, Refused, Write, Wait}
use Rattle.pin_core.specs.StateOf.{page_of, state_of}
use Rattle.pin_core.specs.Invariant.{IsKept}
use Rattle.pin_core.specs.Lawful.{Lawful}
use Rattle.pin_core.specs.Standing.{Enters}
use Rattle.pin_core.specs.calls.Turns.{LacksRoom, IsWriting, RoomAnswer, IsKnown, Lacks, TurnIs, room_entries, room_slots}
use Rattle.pin_core.specs.calls.Ending.{is_flying}
use Rattle.pin_core.proofs.Lends.{session_low}
use Rattle.pin_core.proofs.Held.{IsOnIt, on_it, held_is, flying_fit}
use Rattle.pin_core.proofs.Known.{known_now}
use Rattle.pin_core.proofs.Listed.{head_stands}
use Rattle.pin_core.proofs.Moved.{page_known}
use Rattle.pin_core.proofs.Rooms.{none_dirty}
use Rattle.pin_core.proofs.Seated.{seat_there, failure_is}
use Rattle.pin_core.proofs.Started.{Started, started, unchanged}

flies_by : (at : Place) → is_flying at ≡ true → (writer : ℕ) × (at ≡ Flying writer)
flies_by (Flying writer) is = (writer, refl)
flies_by (Pinned count) is = absurd (false≢true is)
flies_by Dirty is = absurd (false≢true is)
flies_by Loading is = absurd (false≢true is)
flies_by Clean is = absurd (false≢true is)
flies_by Evicted is = absurd (false≢true is)

module _ {D : Type 0} where
  -- what a call leaves
  pub record RoomTurned (v new : Parts D) (session c bytes : ℕ) (r : RoomTurn D) : Type 1 where
    pub kept : IsKept new
    pub turn : (slot : Ghosts D) → RoomAnswer slot v new session c bytes r
    pub enters : (slot : Ghosts D) → Enters slot (room_entries session r) (room_slots r) [] v new

module _ {D : Type 0} (v : Parts D) (is_kept : IsKept v) (laws : Lawful v) (session c : ℕ) (owner : IsClientOf (state_of v) session c) where
  pub known : IsKnown v session c
  known = record {
    client = own_client (state_of v) (known_now IsSound legal_sound (state_of v) is_kept.legal).seated session c owner;
    listed =
        let low = laws.numbers c (is_there (get v.tree.trackers c) owner.tracker owner.lives) in
        let all = is_kept.sized.clients in
        omega (arith, low, all);
    seated = seat_there v.seats session owner.session owner.opened;
  }

  -- a client that lacks room for what is unused has a page that flies, or a dirty one
  pub writing : (bytes : ℕ) → bytes ≤ unused (charge_of (state_of v)) v.tree.trackers c → (HasRoom (state_of v) c bytes → ⊥) → nodes_of c which.Dirty v.lists ≡ [] → IsWriting (state_of v) c
  writing bytes left full none =
      let held = held_is v is_kept laws c in
      let charge = is_kept.counted.charges c in
      let fits = (laws.fits c (is_there (get v.tree.trackers c) owner.tracker owner.lives)).within in
      let no_dirty : sum c which.Dirty v.lists ≡ 0 = ap (total v.lists.pages.lens) none in
      elim (nodes_of c which.Flying v.lists) as (λ l. nodes_of c which.Flying v.lists ≡ l → IsWriting (state_of v) c) [
        | [] ↦ λ is.
            let no_flying : sum c which.Flying v.lists ≡ 0 = ap (total v.lists.pages.lens) is in
            let fit : held_by (state_of v) c + bytes ≤ reservation_of v.tree.trackers c = omega (arith, left, held, charge, fits, no_dirty, no_flying) in
            absurd (full fit)
        | k ∷ ks ↦ λ is.
            let stands : stands_in k (nodes_of c which.Flying v.lists) ≡ true = ap (stands_in k) is ∙ head_stands k ks in
            let i : IsOnIt v is_kept laws which.Flying is_flying flying_fit c k = on_it v is_kept laws which.Flying is_flying flying_fit c k stands in
            let by = flies_by _ i.counted in
            record {
              none = none_dirty v is_kept laws c none;
              name = i.name;
              page = page_of v.pages i.name i.page;
              lives = page_known v i.name i.page i.there;
              own = i.client;
              writer = by.0;
              flies = by.1;
            }
      ] refl

  lacks : (bytes : ℕ) (first : Option ℕ) → Lacks v session c bytes first → LacksRoom (state_of v) session c bytes first
  lacks bytes first l = record { full = l.full; failed = sym (failure_is v laws.seats session c) ∙ l.failed }

  module _ (bytes : ℕ) (left : bytes ≤ unused (charge_of (state_of v)) v.tree.trackers c) where
    as_it_was : (r : RoomTurn D) (new : Parts D) → room_entries session r ≡ [] → room_slots r ≡ [] → new ≡ v → ((slot : Ghosts D) → RoomAnswer slot v v session c bytes r) → RoomTurned v new session c bytes r
    as_it_was r new entries slots is turn = subst (λ (z : Parts D). RoomTurned v z session c bytes r) (sym is) (record {
      kept = is_kept;
      turn = turn;
      enters = λ slot. subst (λ es. Enters slot es (room_slots r) [] v v) (sym entries) (subst (λ row. Enters slot [] row [] v v) (sym slots) (unchanged v slot));
    })

    pub turn_done : (r : RoomTurn D) (new : Parts D) → TurnIs v new session c bytes r → RoomTurned v new session c bytes r
    turn_done Ready new is = as_it_was Ready new refl refl is.1 (λ slot. (is.0, refl))
    turn_done (Refused entry) new is = as_it_was (Refused entry) new refl refl is.1 (λ slot. (lacks bytes (Some entry) is.0, refl))
    turn_done Wait new is = as_it_was Wait new refl refl is.2 (λ slot. (lacks bytes None is.0, writing bytes left is.0.full is.1, refl))
    turn_done (Write job) new is =
        let s : Started v new session c job = started v is_kept laws session c (inl (session_low v is_kept session c owner)) (λ low. owner) new job is.1 in
        record { kept = s.kept; turn = λ slot. (lacks bytes None is.0, s.is slot); enters = s.enters }

-- the same, where the parts and the client are known by equations
pub turn_told : {D : Type 0} (v old new : Parts D) (s n t c a bytes : ℕ) (r : RoomTurn D) → v ≡ old → n ≡ t → t ≡ c → a ≡ bytes → IsKept v → Lawful v → IsClientOf (state_of old) s c
    → bytes ≤ unused (charge_of (state_of old)) (state_of old).trackers c → TurnIs v new s n a r → RoomTurned old new s c bytes r
turn_told {D} v old new s n t c a bytes r same number client amount is_kept laws owner left is =
    turn_done old (subst IsKept same is_kept) (subst Lawful same laws) s c owner bytes left r new
    (subst (λ (z : Parts D). TurnIs z new s c bytes r) same (subst (λ (k : ℕ). TurnIs v new s k bytes r) (number ∙ client) (subst (λ (k : ℕ). TurnIs v new s n k r) amount is)))

pub known_told : {D : Type 0} (v old : Parts D) (s n t c : ℕ) → v ≡ old → n ≡ t → t ≡ c → IsKept v → Lawful v → IsClientOf (state_of old) s c → IsKnown v s n
known_told {D} v old s n t c same number client is_kept laws owner =
    subst (IsKnown v s) (sym (number ∙ client)) (known v is_kept laws s c (subst (λ (z : Parts D). IsClientOf (state_of z) s c) (sym same) owner))
