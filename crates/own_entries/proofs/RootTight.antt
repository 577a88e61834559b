-- The root has reserved what its children have, and no more.
use Rattle.std.proofs.Common.{◌≡◌, ◌≢◌, ℕ, ◌+◌, ◌-◌, ◌≤◌, List, [], true, false, Option, Some, None, unwrap_or, refl, sym, ap, ◌∙◌, subst, arith, inl, inr, ne_eqb}
use Rattle.std.specs.Ordering.{nat_cmp}
use Rattle.std.specs.FinMap.{get, insert, remove, empty, get-empty}
use Rattle.reservation_tree.specs.Tracker.{Tracker, Trackers, no_tracker, reservation_of, depth_of, unused, children_of}
use Rattle.reservation_tree.specs.Change.{new_root, grow, shrink, move_to, lacking, raise, lower, set_reservation}
use Rattle.reservation_tree.proofs.Maps.{get_same, get_other, removed_other, same_or_other, found}
use Rattle.reservation_tree.proofs.Shares.{children-new, children-gone, children-none}
use Rattle.reservation_tree.proofs.Outline.{reservation_is}
use Rattle.reservation_tree.proofs.Climbs.{no_move}
use Rattle.pool_model.specs.declared.event.Event.{Event}
use Rattle.pool_model.specs.declared.event.Event.TheVariants.{AddTracker, CloseTracker, Increase, IncreaseToFit, Decrease, MoveReservation}
use Rattle.pool_model.specs.declared.entry.Entry.{Entry}
use Rattle.pool_model.specs.Bytes.{bytes_of}
use Rattle.pool_model.specs.State.{Opening, opened, Session, State}
use Rattle.pool_model.specs.Sums.{charge_of, held_by, pages_for, times_charged, times_held}
use Rattle.pool_model.specs.Owning.{IsClientOf, IsQueryOf, IsTrackerOf}
use Rattle.pool_model.specs.MayFollow.{Allows}
use Rattle.pool_model.specs.Effects.{effect}
use Rattle.pool_model.specs.Sound.{IsQuery, IsSound}
use Rattle.pool_model.proofs.ByClients.{charges_held, not_client}
use Rattle.pool_model.proofs.Seats.{some_is, root_depth, IsBelow, is_below}
use Rattle.pool_model.proofs.Fronts.{holds_after}
use Rattle.own_entries.specs.LiveParts.{is_parent, is_under}
use Rattle.own_entries.specs.AboveLaws.{LegalRootIsTight}
use Rattle.own_entries.proofs.Setting.{under_stays, reservation_here, reservation_there, child_set, other_set}
use Rattle.reservation_tree.specs.Ways.{IsUnderQuery}
use Rattle.reservation_tree.proofs.Ways.{query_grows, query_falls, client_grows, client_falls, moves_up, moves_down, moves_beside}
use Rattle.own_entries.proofs.Facts.{root_under, not_root, high, low}
use Rattle.own_entries.proofs.AboveTold.{own_within}

abbrev Tight : Trackers → Type 0
Tight ts = reservation_of ts 0 ≡ children_of ts 0

module _ (s : State) (sound : IsSound s) (tight : reservation_of s.trackers 0 ≡ children_of s.trackers 0) where
  free_root : charge_of s 0 ≡ 0
  free_root =
      let root : (y : Tracker) × (get s.trackers 0 ≡ Some y) = found (get s.trackers 0) sound.seated.tree.root in
      let top : depth_of s.trackers 0 ≡ 0 = root_depth s.trackers sound.seated.tree (depth_of s.trackers 0) 0 root.0 root.1 refl in
      let none : held_by s 0 ≡ 0 = not_client s.trackers s.pages s.buffers s.next_name s.block_len 0 sound.owned (λ client. let two : depth_of s.trackers 0 ≡ 2 = client.deep in omega (arith, top, two)) in
      let pages : pages_for times_charged s.block_len s.pages 0 ≤ pages_for times_held s.block_len s.pages 0 = charges_held s.block_len s.pages 0 in
      omega (arith, none, pages)

  root_low : is_under 0 (get s.trackers 0) ≡ false
  root_low = root_under s sound 0

  module _ (q : ℕ) (its : IsQuery s.trackers q) where
    q_apart : q ≢ 0
    q_apart same = not_root s sound q its (sym same)

    q_under : is_under 0 (get s.trackers q) ≡ true
    q_under = ap (is_under 0) its.lives ∙ ap (is_parent 0) its.under

    -- the root and a query grow by as much
    grown_both : (n a : ℕ) → a ≡ n → Tight (raise n q (raise a 0 s.trackers))
    grown_both n a same =
        let ts1 : Trackers = raise a 0 s.trackers in
        let b : ℕ = reservation_of ts1 q + n in
        let here : reservation_of ts1 0 ≡ reservation_of s.trackers 0 + a = reservation_here s.trackers 0 (reservation_of s.trackers 0 + a) in
        let root_now : reservation_of (raise n q ts1) 0 ≡ reservation_of ts1 0 = reservation_there ts1 q b 0 (λ one. q_apart (sym one)) in
        let first : children_of ts1 0 ≡ children_of s.trackers 0 = other_set s.trackers 0 (reservation_of s.trackers 0 + a) 0 root_low in
        let second : children_of (raise n q ts1) 0 + reservation_of ts1 q ≡ children_of ts1 0 + b = child_set ts1 q b 0 (under_stays s.trackers 0 (reservation_of s.trackers 0 + a) 0 q ∙ q_under) in
        omega (arith, here, root_now, first, second, tight, same)

    root_gains : (n : ℕ) → n - unused (charge_of s) s.trackers 0 ≡ n
    root_gains n = let free = free_root in omega (arith, free, tight)

    query_grown : (n : ℕ) → Tight (grow (charge_of s) n q s.trackers)
    query_grown n = subst Tight (sym (query_grows (charge_of s) s.trackers n q (high s sound q its))) (grown_both n (n - unused (charge_of s) s.trackers 0) (root_gains n))

    -- both fall by as much
    query_fallen : (n : ℕ) → n ≤ reservation_of s.trackers q → Tight (shrink n q s.trackers)
    query_fallen n few =
        let a : ℕ = reservation_of s.trackers q - n in
        let ts1 : Trackers = lower n q s.trackers in
        let b : ℕ = reservation_of ts1 0 - n in
        let first : children_of ts1 0 + reservation_of s.trackers q ≡ children_of s.trackers 0 + a = child_set s.trackers q a 0 q_under in
        let root_was : reservation_of ts1 0 ≡ reservation_of s.trackers 0 = reservation_there s.trackers q a 0 (λ one. q_apart (sym one)) in
        let here : reservation_of (lower n 0 ts1) 0 ≡ b = reservation_here ts1 0 b in
        let second : children_of (lower n 0 ts1) 0 ≡ children_of ts1 0 = other_set ts1 0 b 0 (under_stays s.trackers q a 0 0 ∙ root_low) in
        subst Tight (sym (query_falls (charge_of s) s.trackers n q (high s sound q its))) (omega (arith, first, root_was, here, second, tight, few))

    module _ (t : ℕ) (way : IsUnderQuery s.trackers t q) (t_apart : t ≢ 0) (t_under : is_under 0 (get s.trackers t) ≡ false) (t_query : t ≢ q) where
      -- a client alone doesn't show at the root
      client_set : (ts : Trackers) (n : ℕ) → is_under 0 (get ts t) ≡ false → Tight ts → Tight (set_reservation n t ts)
      client_set ts n low_there was =
          let root_now : reservation_of (set_reservation n t ts) 0 ≡ reservation_of ts 0 = reservation_there ts t n 0 (λ one. t_apart (sym one)) in
          let children : children_of (set_reservation n t ts) 0 ≡ children_of ts 0 = other_set ts t n 0 low_there in
          omega (arith, root_now, children, was)

      client_grown : (n : ℕ) → Tight (grow (charge_of s) n t s.trackers)
      client_grown n =
          let g : ℕ = lacking (charge_of s) n q s.trackers in
          let a : ℕ = reservation_of s.trackers 0 + (g - unused (charge_of s) s.trackers 0) in
          let b : ℕ = reservation_of (set_reservation a 0 s.trackers) q + g in
          subst Tight (sym (client_grows (charge_of s) s.trackers n q (high s sound q its) t way))
          (client_set (set_reservation b q (set_reservation a 0 s.trackers)) _ (under_stays (set_reservation a 0 s.trackers) q b 0 t ∙ under_stays s.trackers 0 a 0 t ∙ t_under)
          (grown_both g (g - unused (charge_of s) s.trackers 0) (root_gains g)))

      client_fallen : (n : ℕ) → n ≤ reservation_of s.trackers q → Tight (shrink n t s.trackers)
      client_fallen n few =
          let c : ℕ = reservation_of s.trackers t - n in
          let ts0 : Trackers = lower n t s.trackers in
          let tight0 : reservation_of ts0 0 ≡ children_of ts0 0 = client_set s.trackers c t_under tight in
          let q_same : reservation_of ts0 q ≡ reservation_of s.trackers q = reservation_there s.trackers t c q (λ one. t_query (sym one)) in
          let a : ℕ = reservation_of ts0 q - n in
          let ts1 : Trackers = lower n q ts0 in
          let b : ℕ = reservation_of ts1 0 - n in
          let first : children_of ts1 0 + reservation_of ts0 q ≡ children_of ts0 0 + a = child_set ts0 q a 0 (under_stays s.trackers t c 0 q ∙ q_under) in
          let root_was : reservation_of ts1 0 ≡ reservation_of ts0 0 = reservation_there ts0 q a 0 (λ one. q_apart (sym one)) in
          let here : reservation_of (lower n 0 ts1) 0 ≡ b = reservation_here ts1 0 b in
          let second : children_of (lower n 0 ts1) 0 ≡ children_of ts1 0 = other_set ts1 0 b 0 (under_stays ts0 q a 0 0 ∙ under_stays s.trackers t c 0 0 ∙ root_low) in
          subst Tight (sym (client_falls (charge_of s) s.trackers n q (high s sound q its) t way)) (omega (arith, first, root_was, here, second, tight0, few, q_same))

  -- a tracker of a session
  module _ (maker : ℕ) where
    client_apart : (t : ℕ) → (client : IsClientOf s maker t) → (t ≢ 0) × (is_under 0 (get s.trackers t) ≡ false) × (t ≢ client.session.query)
    client_apart t client =
        let way : IsUnderQuery s.trackers t client.session.query = low s sound maker t client in
        let its : IsQuery s.trackers client.session.query = sound.seated.seats maker client.session client.opened in
        let deep : depth_of s.trackers t ≡ 2 = way.depth in (
          λ same. let one : depth_of s.trackers t ≡ depth_of s.trackers 0 = ap (depth_of s.trackers) same in let top : depth_of s.trackers 0 ≡ 0 = way.query.root in omega (arith, one, top, deep),
          ap (is_under 0) client.lives ∙ ap (is_parent 0) client.under ∙ ne_eqb client.session.query 0 (q_apart client.session.query its),
          λ same. let one : depth_of s.trackers t ≡ depth_of s.trackers client.session.query = ap (depth_of s.trackers) same in let high_up : depth_of s.trackers client.session.query ≡ 1 = way.query.depth in omega (arith, one, high_up, deep),
        )

    seat_of : (t : ℕ) → (query : IsQueryOf s maker t) → IsQuery s.trackers t
    seat_of t query = subst (IsQuery s.trackers) query.is (sound.seated.seats maker query.session query.lives)

    grows : (t n : ℕ) → IsTrackerOf s maker t → Tight (grow (charge_of s) n t s.trackers)
    grows t n (inl query) = query_grown t (seat_of t query) n
    grows t n (inr client) =
        let far = client_apart t client in
        client_grown client.session.query (sound.seated.seats maker client.session client.opened) t (low s sound maker t client) far.0 far.1 far.2 n

    falls : (t n : ℕ) → IsTrackerOf s maker t → n ≤ reservation_of s.trackers t → Tight (shrink n t s.trackers)
    falls t n (inl query) few = query_fallen t (seat_of t query) n few
    falls t n (inr client) few =
        let far = client_apart t client in
        let part : reservation_of s.trackers t ≤ reservation_of s.trackers client.session.query = own_within s sound maker client.session client.opened t (inr client) in
        client_fallen client.session.query (sound.seated.seats maker client.session client.opened) t (low s sound maker t client) far.0 far.1 far.2 n (omega (arith, few, part))

    same_query : (y z : Session) → get s.sessions maker ≡ Some y → get s.sessions maker ≡ Some z → y.query ≡ z.query
    same_query y z is_y is_z = ap (λ (w : Session). w.query) (some_is y z (sym is_y ∙ is_z))

    one_set : (t : ℕ) (client : IsClientOf s maker t) (ts : Trackers) (n : ℕ) → is_under 0 (get ts t) ≡ false → Tight ts → Tight (set_reservation n t ts)
    one_set t client =
        let far = client_apart t client in
        client_set client.session.query (sound.seated.seats maker client.session client.opened) t (low s sound maker t client) far.0 far.1 far.2

    moves : (a b n : ℕ) → IsTrackerOf s maker a → IsTrackerOf s maker b → Tight (move_to n a b s.trackers)
    moves a b n (inl qa) (inl qb) = subst Tight (sym (no_move s.trackers n a b (sym qa.is ∙ same_query qa.session qb.session qa.lives qb.lives ∙ qb.is))) tight
    moves a b n (inl qa) (inr cb) =
        let same : cb.session.query ≡ a = same_query cb.session qa.session cb.opened qa.lives ∙ qa.is in
        subst (λ (q : ℕ). Tight (move_to n q b s.trackers)) same
        (subst Tight (sym (moves_down (charge_of s) s.trackers n cb.session.query (high s sound cb.session.query (sound.seated.seats maker cb.session cb.opened)) b (low s sound maker b cb)))
        (one_set b cb s.trackers (reservation_of s.trackers b + n) (client_apart b cb).1 tight))
    moves a b n (inr ca) (inl qb) =
        let same : ca.session.query ≡ b = same_query ca.session qb.session ca.opened qb.lives ∙ qb.is in
        subst (λ (q : ℕ). Tight (move_to n a q s.trackers)) same
        (subst Tight (sym (moves_up (charge_of s) s.trackers n ca.session.query (high s sound ca.session.query (sound.seated.seats maker ca.session ca.opened)) a (low s sound maker a ca)))
        (one_set a ca s.trackers (reservation_of s.trackers a - n) (client_apart a ca).1 tight))
    moves a b n (inr ca) (inr cb) = elim (same_or_other a b) [
      | inl same ↦ subst Tight (sym (no_move s.trackers n a b same)) tight
      | inr apart ↦
          let way_b : IsUnderQuery s.trackers b ca.session.query = subst (IsUnderQuery s.trackers b) (same_query cb.session ca.session cb.opened ca.opened) (low s sound maker b cb) in
          let c : ℕ = reservation_of s.trackers a - n in
          subst Tight (sym (moves_beside (charge_of s) s.trackers n ca.session.query a b (high s sound ca.session.query (sound.seated.seats maker ca.session ca.opened)) (low s sound maker a ca) way_b apart))
          (one_set b cb (lower n a s.trackers) (reservation_of (lower n a s.trackers) b + n) (under_stays s.trackers a c 0 b ∙ (client_apart b cb).1) (one_set a ca s.trackers c (client_apart a ca).1 tight))
    ]

    came : (t parent limit : ℕ) → get s.trackers t ≡ None → (y : Tracker) → y.reservation ≡ 0 → Tight (insert s.trackers t y)
    came t parent limit fresh y empty =
        let root : (z : Tracker) × (get s.trackers 0 ≡ Some z) = found (get s.trackers 0) sound.seated.tree.root in
        let apart : 0 ≢ t = λ same. let none : None ≡ Some root.0 = sym fresh ∙ ap (get s.trackers) (sym same) ∙ root.1 in cc in
        let root_now : reservation_of (insert s.trackers t y) 0 ≡ reservation_of s.trackers 0 = ap (λ (o : Option Tracker). (unwrap_or o no_tracker).reservation) (get_other s.trackers t y 0 apart) in
        let children : children_of (insert s.trackers t y) 0 ≡ children_of s.trackers 0 = children-new s.trackers t y 0 fresh empty in
        omega (arith, root_now, children, tight)

    went : (t : ℕ) → IsTrackerOf s maker t → reservation_of s.trackers t ≡ 0 → Tight (remove s.trackers t)
    went t own empty =
        let below : IsBelow s maker t = is_below s sound.seated maker t own in
        let root_now : reservation_of (remove s.trackers t) 0 ≡ reservation_of s.trackers 0 = ap (λ (o : Option Tracker). (unwrap_or o no_tracker).reservation) (removed_other s.trackers t 0 (λ same. below.low (sym same))) in
        let children : children_of (remove s.trackers t) 0 ≡ children_of s.trackers 0 = children-gone s.trackers t below.tracker 0 below.lives (sym (reservation_is s.trackers t below.tracker below.lives) ∙ empty) in
        omega (arith, root_now, children, tight)

    tight_on : (before : List Entry) (event : Event) → Allows before s maker event → Tight (effect maker event s).trackers
    tight_on before (AddTracker t parent limit (Some quota)) may = came t parent limit may.fresh _ refl
    tight_on before (AddTracker t parent limit None) may = came t parent limit may.fresh _ refl
    tight_on before (CloseTracker t) may = went t may.own may.empty
    tight_on before (Increase t n) may = grows t n may.own
    tight_on before (IncreaseToFit t n) may = grows t (lacking (charge_of s) n t s.trackers) may.own
    tight_on before (Decrease t n) may = let spare : n ≤ unused (charge_of s) s.trackers t = may.spare.unused in falls t n may.own (omega (arith, spare))
    tight_on before (MoveReservation a b n) may = moves a b n may.own may.own_to
    tight_on before _ may = tight

record IsTight (before : List Entry) (s : State) : Type 0 where
  is : reservation_of s.trackers 0 ≡ children_of s.trackers 0

first_tight : (o : Opening) → IsTight [] (opened o)
first_tight o =
    let root : Tracker = new_root (bytes_of o.block_len o.blocks) in
    let bare : get (empty {K = ℕ} {X = Tracker} {R = nat_cmp}) 0 ≡ None = get-empty nat_cmp 0 in
    let res : reservation_of (insert empty 0 root) 0 ≡ 0 = ap (λ (x : Option Tracker). (unwrap_or x no_tracker).reservation) (get_same empty 0 root) in
    let children : children_of (insert empty 0 root) 0 ≡ children_of empty 0 = children-new empty 0 root 0 bare refl in
    let none : children_of empty 0 ≡ 0 = children-none empty 0 (λ child x is. let no_way : None ≡ Some x = sym (get-empty nat_cmp child) ∙ is in absurd (never x no_way)) in
    record { is = omega (arith, res, children, none) }
  where
    never : (x : Tracker) → None ≡ Some x → ⊥
    never x is = cc

pub legal_root_is_tight : LegalRootIsTight
legal_root_is_tight o h legal =
    (holds_after IsTight (λ before s sound it e may. record { is = tight_on s sound it.is e.maker before e.event may.allows }) o (first_tight o) h legal).is
