-- Whether a new session can get its least reservation.
use Rattle.std.proofs.Common.{◌≡◌, ◌↔◌, ◌⊎◌, ℕ, ◌+◌, ◌-◌, ◌<◌, Bool, leb, if◌then◌else◌, Option, Some, None, IsSome, is_some, unwrap_or, refl, ap, sym, ◌∙◌, inl, inr, arith, le-leb}
use Rattle.std.specs.FinMap.{get}
use Rattle.std.proofs.lemmas.Bool.{cases_lt, false≢true, lt-leb}
use Rattle.reservation_tree.specs.Tracker.{Tracker, Trackers, IsTree, no_tracker, depth_of, reservation_of, room_of, children_of, unused}
use Rattle.reservation_tree.specs.Change.{Refusal, grow_refusal, or_else, over, with_child}
use Rattle.reservation_tree.specs.Tree.{charge_of as charge_in, with_new}
use Rattle.reservation_tree.proofs.Above.{at_root}
use Rattle.reservation_tree.proofs.Climbs.{refused_above, refused_at_root}
use Rattle.reservation_tree.proofs.Maps.{get_same, get_other, found}
use Rattle.reservation_tree.proofs.Members.{live_apart, child_tree, child_sums}
use Rattle.pool_model.specs.State.{State}
use Rattle.pool_model.specs.Sums.{charge_of}
use Rattle.pin_core.specs.declared.parts.Parts.{Parts}
use Rattle.pin_core.specs.StateOf.{state_of}
use Rattle.pin_core.specs.Invariant.{IsKept}
use Rattle.pin_core.specs.Lawful.{Lawful}
use Rattle.pin_core.specs.calls.Opening.{LacksLeast, least_refusal, root_growth}
use Rattle.pin_core.proofs.Queries.{charge_came, fresh_charge, root_deep}

past : (m n : ℕ) (r : Refusal) → IsSome (if leb m n then None else Some r) ↔ (n < m)
past m n r = elim (cases_lt n m) [
  | inl lt ↦ (λ _. lt, λ _. ap (λ (b : Bool). is_some (if b then None else Some r)) (lt-leb m n lt))
  | inr le ↦ (λ some. absurd (false≢true (sym (ap (λ (b : Bool). is_some (if b then None else Some r)) (le-leb m n le)) ∙ some)), λ lt. absurd (omega (arith, lt, le)))
]

either : (a b : Option Refusal) → IsSome (or_else a b) ↔ (IsSome a ⊎ IsSome b)
either None b = (λ some. inr some, λ one. second one)
  where
    second : IsSome {T = Refusal} None ⊎ IsSome b → IsSome b
    second (inl never) = absurd (false≢true never)
    second (inr some) = some
either (Some r) b = (λ some. inl refl, λ one. refl)

-- the refusal is there exactly where so much can't be reserved
pub lacks : (s : State) (t limit least : ℕ) → IsSome (least_refusal s t limit least) ↔ LacksLeast s limit least
lacks s t limit least =
    let own = past least limit (record { tracker = t; wanted = least; room = limit }) in
    let top = past (root_growth s least) (room_of s.trackers 0) (record { tracker = 0; wanted = root_growth s least; room = room_of s.trackers 0 }) in
    let both = either (if leb least limit then None else Some (record { tracker = t; wanted = least; room = limit })) (over s.trackers (root_growth s least) 0) in
    (λ some. to own.0 top.0 (both.0 some), λ one. both.1 (back own.1 top.1 one))
  where
    to : {A B C D : Type 0} → (A → C) → (B → D) → A ⊎ B → C ⊎ D
    to f g (inl a) = inl (f a)
    to f g (inr b) = inr (g b)

    back : {A B C D : Type 0} → (C → A) → (D → B) → C ⊎ D → A ⊎ B
    back f g (inl a) = inl (f a)
    back f g (inr b) = inr (g b)

module _ {D : Type 0} (v : Parts D) (is_kept : IsKept v) (laws : Lawful v) (t limit : ℕ) (fresh : get v.tree.trackers t ≡ None) where
  abbrev ts : Trackers
  ts = v.tree.trackers

  abbrev new : Trackers
  new = with_child t 0 limit v.tree.trackers

  abbrev charge : ℕ → ℕ
  charge = charge_in (with_new t 0 limit v.tree)

  abbrev one : Tracker
  one = record { parent = Some 0; depth = depth_of v.tree.trackers 0 + 1; limit = limit; reservation = 0 }

  came : get new t ≡ Some one
  came = get_same ts t one

  root_stays : get new 0 ≡ get ts 0
  root_stays = get_other ts t one 0 (live_apart ts 0 t laws.tree.root fresh)

  root_room : room_of new 0 ≡ room_of ts 0
  root_room = ap (λ (o : Option Tracker). (unwrap_or o no_tracker).limit - (unwrap_or o no_tracker).reservation) root_stays

  own_room : room_of new t ≡ limit
  own_room = ap (λ (o : Option Tracker). (unwrap_or o no_tracker).limit - (unwrap_or o no_tracker).reservation) came ∙ omega arith

  root_unused : unused charge new 0 ≡ unused (charge_of (state_of v)) ts 0
  root_unused =
      let kept : reservation_of new 0 ≡ reservation_of ts 0 = ap (λ (o : Option Tracker). (unwrap_or o no_tracker).reservation) root_stays in
      let charges : charge 0 ≡ charge_in v.tree 0 = charge_came v.tree t (fresh_charge v is_kept t fresh) 0 in
      let tie : charge_in v.tree 0 ≡ charge_of (state_of v) 0 = is_kept.counted.charges 0 in
      let sums : children_of new 0 ≡ children_of ts 0 = child_sums charge charge ts laws.tree t 0 limit fresh laws.tree.root 0 in
      omega (arith, kept, charges, tie, sums)

  pub refusal_is : (least : ℕ) → grow_refusal (charge_in (with_new t 0 limit v.tree)) least t (with_child t 0 limit v.tree.trackers) ≡ least_refusal (state_of v) t limit least
  refusal_is least =
      let tree : IsTree new = child_tree charge charge ts laws.tree t 0 limit fresh laws.tree.root in
      let root : (y : Tracker) × (get ts 0 ≡ Some y) = found (get ts 0) laws.tree.root in
      let top : root.0.parent ≡ None = (at_root ts laws.tree 0 root.0 root.1 (root_deep v is_kept)).0 in
      refused_above charge new tree t one came least 0 refl
      ∙ ap (or_else (over new least t)) (refused_at_root charge new tree 0 root.0 (root_stays ∙ root.1) (least - unused charge new 0) top)
      ∙ ap (λ (room : ℕ). or_else (if leb least room then None else Some (record { tracker = t; wanted = least; room = room })) (over new (least - unused charge new 0) 0)) own_room
      ∙ ap (λ (u : ℕ). or_else (if leb least limit then None else Some (record { tracker = t; wanted = least; room = limit })) (over new (least - u) 0)) root_unused
      ∙ ap (λ (room : ℕ). or_else (if leb least limit then None else Some (record { tracker = t; wanted = least; room = limit }))
      (if leb (root_growth (state_of v) least) room then None else Some (record { tracker = 0; wanted = root_growth (state_of v) least; room = room }))) root_room
