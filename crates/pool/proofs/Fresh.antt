-- What is left for sessions where none is live.
use Rattle.std.proofs.Common.{◌≡◌, ℕ, suc, ◌+◌, Bool, List, [], ◌∷◌, Option, Some, None, option_map, inl, inr, refl, sym, ap, ◌∙◌, subst, arith}
use Rattle.std.proofs.lemmas.List.Sums.{sum_by-cons}
use Rattle.std.specs.FinMap.{get, len, remove}
use Rattle.outside.specs.declared.slot.Slot.{Ghosts}
use Rattle.reservation_tree.specs.Total.{total}
use Rattle.reservation_tree.specs.Tracker.{Hangs, HasNoChild, IsTree, Tracker, Trackers, children_of, limit_of, reservation_of, room_of}
use Rattle.reservation_tree.proofs.Maps.{found, removed_other, same_or_other}
use Rattle.reservation_tree.proofs.Shares.{children-none}
use Rattle.reservation_tree.proofs.Sums.{total-one, total-remove}
use Rattle.session_table.specs.Seats.{Seat, Seats, seat_of, tracker_count, trackers_in}
use Rattle.session_table.specs.Sessions.{session_in}
use Rattle.session_table.proofs.Found.{get_sessions}
use Rattle.pool_model.specs.Bytes.{bytes_of}
use Rattle.pool_model.specs.State.{Opening, Session, State, opened}
use Rattle.pool_model.specs.Sums.{memory}
use Rattle.pool_model.specs.Legal.{state_after}
use Rattle.pool_model.specs.Sound.{IsSound}
use Rattle.pool_model.proofs.Kept.{legal_sound}
use Rattle.pool_model.proofs.Seats.{some_is}
use Rattle.own_entries.proofs.RootTight.{legal_root_is_tight}
use Rattle.session_calls.proofs.Sized.{run_memory}
use Rattle.pin_core.specs.declared.parts.Parts.{Parts}
use Rattle.pin_core.specs.Invariant.{IsKept}
use Rattle.pin_core.specs.declared.tally.Tally.{Tally}
use Rattle.pin_core.specs.StateOf.{state_of}
use Rattle.session_calls.specs.Having.{Sight}
use Rattle.pool.specs.declared.item.Item.{Item}
use Rattle.pool.specs.Seats.{Quotas, live_in, quotas_in}
use Rattle.pool.specs.Standing.{StandsAs}
use Rattle.pool.specs.Remaining.{all_left, left_in}
use Rattle.pool.proofs.Vacant.{none_seated}

-- a map without keys has nothing at any key
none_there : (q : Quotas) → len q ≡ 0 → (k : ℕ) → get q k ≡ None
none_there q none k = at (get q k) refl
  where
    at : (o : Option ℕ) → get q k ≡ o → o ≡ None
    at None is = refl
    at (Some x) is =
        let all : total (λ _ _. 1) (remove q k) + 1 ≡ total (λ _ _. 1) q = total-remove (λ _ _. 1) q k (Some x) is in
        let count : total (λ _ _. 1) q ≡ len q = total-one q in
        absurd (omega (arith, all, count, none))

-- a tree of one tracker has its root alone
alone : (ts : Trackers) (root : Tracker) → get ts 0 ≡ Some root → len ts ≡ 1 → (t : ℕ) (x : Tracker) → get ts t ≡ Some x → t ≡ 0
alone ts root there one t x is = elim (same_or_other t 0) [
  | inl here ↦ here
  | inr other ↦
      let all : total (λ _ _. 1) (remove ts 0) + 1 ≡ total (λ _ _. 1) ts = total-remove (λ _ _. 1) ts 0 (Some root) there in
      let count : total (λ _ _. 1) ts ≡ len ts = total-one ts in
      let more : total (λ _ _. 1) (remove (remove ts 0) t) + 1 ≡ total (λ _ _. 1) (remove ts 0) = total-remove (λ _ _. 1) (remove ts 0) t (Some x) (removed_other ts 0 t other ∙ is) in
      absurd (omega (arith, all, count, more, one))
]

no_child : (ts : Trackers) → IsTree ts → len ts ≡ 1 → HasNoChild ts 0
no_child ts tree one child x is up =
    let root : (y : Tracker) × (get ts 0 ≡ Some y) = found (get ts 0) tree.root in
    let here : child ≡ 0 = alone ts root.0 root.1 one child x is in
    let above : (y : Tracker) × (get ts 0 ≡ Some y) × (x.depth ≡ y.depth + 1) = subst (λ (p : Option ℕ). Hangs ts child x.depth p) up (tree.hangs child x is) in
    let same : above.0 ≡ x = some_is above.0 x (sym above.1 ∙ ap (get ts) (sym here) ∙ is) in
    let depth : above.0.depth ≡ x.depth = ap (λ (y : Tracker). y.depth) same in
    let deeper = above.2 in
    omega (arith, depth, deeper)

-- no seat has a tracker
no_trackers : (seats : Seats) → ((s : ℕ) → seat_of seats s ≡ None) → tracker_count seats ≡ 0
no_trackers [] none = refl
no_trackers (x ∷ seats) none =
    let first : trackers_in x ≡ 0 = ap trackers_in (none 0) in
    let rest : tracker_count seats ≡ 0 = no_trackers seats (λ s. none (suc s)) in
    let both = sum_by-cons trackers_in x seats in
    omega (arith, first, rest, both)

module _ {D : Type 0} {slot : Ghosts D} {o : Opening} {told : Bool} {first : Tally} {items : List Item} {sight : Sight} {v : Parts D} (stands : StandsAs slot o told first items sight v) (kept : IsKept v) (none : live_in items ≡ 0) where
  no_session : (m : ℕ) → get (state_of v).sessions m ≡ None
  no_session m = unmapped (get (state_of v).sessions m) (stands.sessions m ∙ none_there (quotas_in items) none m)
    where
      unmapped : (x : Option Session) → option_map (λ y. y.quota) x ≡ None → x ≡ None
      unmapped None is = refl
      unmapped (Some y) is = cc

  no_seat : (m : ℕ) → seat_of v.seats m ≡ None
  no_seat m = unmapped (seat_of v.seats m) (sym (get_sessions v.seats m) ∙ no_session m)
    where
      unmapped : (x : Option Seat) → option_map session_in x ≡ None → x ≡ None
      unmapped None is = refl
      unmapped (Some y) is = cc

  state_now : state_of v ≡ state_after o sight.trail
  state_now = stands.whole.stands.state

  sound : IsSound (state_of v)
  sound = subst IsSound (sym state_now) (legal_sound o sight.trail stands.whole.stands.legal)

  root_room : room_of (state_of v).trackers 0 ≡ bytes_of o.block_len o.blocks
  root_room =
      let count : len (state_of v).trackers ≡ 1 = let few = kept.seated.few in let bare = no_trackers v.seats no_seat in omega (arith, few, bare) in
      let children : children_of (state_of v).trackers 0 ≡ 0 = children-none (state_of v).trackers 0 (no_child (state_of v).trackers sound.seated.tree count) in
      let tight : reservation_of (state_of v).trackers 0 ≡ children_of (state_of v).trackers 0 =
      subst (λ (s : State). reservation_of s.trackers 0 ≡ children_of s.trackers 0) (sym state_now) (legal_root_is_tight o sight.trail stands.whole.stands.legal) in
      let top : limit_of (state_of v).trackers 0 ≡ memory (state_of v) = sound.seated.top in
      let all : memory (state_of v) ≡ memory (opened o) = ap memory state_now ∙ run_memory (opened o) sight.trail in
      let room : room_of (state_of v).trackers 0 ≡ memory (opened o) = omega (arith, children, tight, top, all) in
      room

  pub fresh_left : left_in (state_of v) ≡ all_left o
  fresh_left =
      ap (λ (n : ℕ). record { numbers = n; bytes = room_of (state_of v).trackers 0 }) (none_seated (state_of v).sessions 240 no_session)
      ∙ ap (λ (n : ℕ). record { numbers = 240; bytes = n }) root_room
