-- Reservations fall, and move between a session's trackers: what is held is still told.
use Rattle.std.proofs.Common.{◌≡◌, ◌≢◌, ℕ, ◌+◌, ◌-◌, ◌≤◌, List, Bool, true, false, if◌then◌else◌, Some, sym, ap, ◌∙◌, subst, arith, ne_eqb}
use Rattle.std.specs.FinMap.{get}
use Rattle.reservation_tree.specs.Tracker.{Trackers, reservation_of, children_of}
use Rattle.reservation_tree.specs.Change.{set_reservation, raise, lower, shrink, move_to}
use Rattle.reservation_tree.proofs.Maps.{get_other}
use Rattle.reservation_tree.proofs.Climbs.{no_move}
use Rattle.pool_model.specs.State.{Pages, Buffers}
use Rattle.store_api.specs.Holdings.{Account, Holdings, Above, or_else, no_account, account_of}
use Rattle.store_api.specs.Changes.{raised, lowered, with_account, after_give_back, after_move_reservation}
use Rattle.store_api.proofs.Puts.{put_there}
use Rattle.own_entries.specs.OwnHoldings.{query_fallen, given_to_query, taken_from_query}
use Rattle.own_entries.specs.LiveParts.{is_under, charge_in, Tells}
use Rattle.own_entries.proofs.Setting.{limit_stays, depth_stays, parent_stays, under_stays, count_stays, reservation_here, reservation_there, other_set}
use Rattle.reservation_tree.specs.Ways.{IsUnderRoot, IsUnderQuery}
use Rattle.reservation_tree.proofs.Ways.{query_falls, client_falls, moves_up, moves_down, moves_beside}
use Rattle.own_entries.proofs.TrackersTold.{accounts_kept, retold, foreign_set, query_low, lowered_told, raised_told}

-- ways stay where a reservation is set
high_stays : (ts : Trackers) (t bytes q : ℕ) → IsUnderRoot ts q → IsUnderRoot (set_reservation bytes t ts) q
high_stays ts t bytes q high = record { depth = depth_stays ts t bytes q ∙ high.depth; parent = parent_stays ts t bytes q ∙ high.parent; root = depth_stays ts t bytes 0 ∙ high.root }

low_stays : (ts : Trackers) (t bytes c q : ℕ) → IsUnderQuery ts c q → IsUnderQuery (set_reservation bytes t ts) c q
low_stays ts t bytes c q low = record { depth = depth_stays ts t bytes c ∙ low.depth; parent = parent_stays ts t bytes c ∙ low.parent; query = high_stays ts t bytes q low.query }

module _ (left : ℕ → List ℕ) (len : ℕ) (pages : Pages) (buffers : Buffers) (m query quota : ℕ) (n : ℕ) where
  abbrev cost : ℕ → ℕ
  cost = charge_in len pages buffers

  -- the query's tracker alone is set
  query_set : (ts : Trackers) (h : Holdings) → Tells left len ts pages buffers m query quota h → is_under query (get ts query) ≡ false → (bytes reservation room : ℕ) (above : Above)
      → reservation ≡ bytes → room + children_of ts query ≡ bytes → Tells left len (set_reservation bytes query ts) pages buffers m query quota (record h { reservation = reservation; room = room; above = above })
  query_set ts h told query_apart bytes reservation room above res sum =
      let ts2 : Trackers = set_reservation bytes query ts in
      let now : reservation_of ts2 query ≡ bytes = reservation_here ts query bytes in
      let children : children_of ts2 query ≡ children_of ts query = other_set ts query bytes query query_apart in
      retold left len ts pages buffers m query quota h told ts2 h.clients reservation room above (under_stays ts query bytes query) (limit_stays ts query bytes query) (count_stays ts query bytes query)
      (res ∙ sym now) (omega (arith, sum, now, children))
      (accounts_kept query cost ts ts2 h.clients told.clients query (under_stays ts query bytes query) (λ c other mine. get_other ts query _ c other) query_apart)

  module _ (ts : Trackers) (h : Holdings) (told : Tells left len ts pages buffers m query quota h)
      (high : IsUnderRoot ts query) (query_apart : is_under query (get ts query) ≡ false) (root_apart : is_under query (get ts 0) ≡ false) (free : cost query ≡ 0) where
    root_beside : 0 ≢ query
    root_beside same = query_low left len ts pages buffers m query quota h told high query_apart root_apart free n (sym same)

    pub fallen_told : n ≤ h.room → Tells left len (shrink n query ts) pages buffers m query quota (query_fallen n h)
    fallen_told few =
        let was : h.room + children_of ts query ≡ reservation_of ts query = told.room in
        let first : Tells left len (lower n query ts) pages buffers m query quota (query_fallen n h) =
        query_set ts h told query_apart (reservation_of ts query - n) (h.reservation - n) (h.room - n) _ (ap (λ (r : ℕ). r - n) told.reservation) (omega (arith, was, few)) in
        subst (λ (t2 : Trackers). Tells left len t2 pages buffers m query quota (query_fallen n h)) (sym (query_falls cost ts n query high))
        (foreign_set left len (lower n query ts) pages buffers m query quota (query_fallen n h) first 0 (reservation_of (lower n query ts) 0 - n) root_beside (under_stays ts query (reservation_of ts query - n) query 0 ∙ root_apart))

    module _ (t : ℕ) (low : IsUnderQuery ts t query) (mine : is_under query (get ts t) ≡ true) (fits : cost t ≤ reservation_of ts t) (few : n ≤ reservation_of ts t) where
      up : Tells left len (lower n t ts) pages buffers m query quota (given_to_query t n h)
      up = lowered_told left len ts pages buffers m query quota h told high query_apart root_apart free n t low mine fits few

      pub gave_back : Tells left len (shrink n t ts) pages buffers m query quota (after_give_back t n h)
      gave_back =
          let a : ℕ = reservation_of ts t - n in
          let ts1 : Trackers = lower n t ts in
          let was : (h.room + n) + children_of ts1 query ≡ reservation_of ts1 query = up.room in
          let res : h.reservation ≡ reservation_of ts1 query = up.reservation in
          let b : ℕ = reservation_of ts1 query - n in
          let two : Tells left len (lower n query ts1) pages buffers m query quota (after_give_back t n h) =
          query_set ts1 (given_to_query t n h) up (under_stays ts t a query query ∙ query_apart) b (h.reservation - n) h.room _ (ap (λ (r : ℕ). r - n) res) (omega (arith, was)) in
          subst (λ (t2 : Trackers). Tells left len t2 pages buffers m query quota (after_give_back t n h)) (sym (client_falls cost ts n query high t low))
          (foreign_set left len (lower n query ts1) pages buffers m query quota (after_give_back t n h) two 0 (reservation_of (lower n query ts1) 0 - n) root_beside
          (under_stays ts1 query b query 0 ∙ under_stays ts t a query 0 ∙ root_apart))

      pub gave_up : Tells left len (move_to n t query ts) pages buffers m query quota (given_to_query t n h)
      gave_up = subst (λ (t2 : Trackers). Tells left len t2 pages buffers m query quota (given_to_query t n h)) (sym (moves_up cost ts n query high t low)) up

      pub moved_beside : (b : ℕ) → IsUnderQuery ts b query → is_under query (get ts b) ≡ true → cost b ≤ reservation_of ts b → t ≢ b → Tells left len (move_to n t b ts) pages buffers m query quota (after_move_reservation t b n h)
      moved_beside b low_b mine_b fits_b apart =
          let a : ℕ = reservation_of ts t - n in
          let ts1 : Trackers = lower n t ts in
          let h1 : Holdings = given_to_query t n h in
          let has : reservation_of ts1 b ≡ reservation_of ts b = reservation_there ts t a b (λ same. apart (sym same)) in
          let down : Tells left len (raise n b ts1) pages buffers m query quota (taken_from_query b n h1) =
          raised_told left len ts1 pages buffers m query quota h1 up (high_stays ts t a query high) (under_stays ts t a query query ∙ query_apart) (under_stays ts t a query 0 ∙ root_apart) free n
          b (low_stays ts t a b query low_b) (under_stays ts t a query b ∙ mine_b) (omega (arith, fits_b, has)) (omega arith) in
          let room : (h.room + n) - n ≡ h.room = omega arith in
          let other : account_of b h1 ≡ account_of b h = ap (or_else no_account) (put_there t b (Some (lowered n (account_of t h))) h.clients (λ same. apart (sym same))) in
          let same : taken_from_query b n h1 ≡ after_move_reservation t b n h =
          ap (λ (r : ℕ). record (taken_from_query b n h1) { room = r }) room
          ∙ ap (λ (x : Account). with_account b (raised n x) (with_account t (lowered n (account_of t h)) h)) other
          ∙ sym (ap (λ (r : Bool). if r then h else with_account b (raised n (account_of b h)) (with_account t (lowered n (account_of t h)) h)) (ne_eqb t b apart)) in
          subst (λ (t2 : Trackers). Tells left len t2 pages buffers m query quota (after_move_reservation t b n h)) (sym (moves_beside cost ts n query t b high low low_b apart))
          (subst (Tells left len (raise n b ts1) pages buffers m query quota) same down)

    pub moved_itself : (a b : ℕ) → a ≡ b → Tells left len (move_to n a b ts) pages buffers m query quota h
    moved_itself a b same = subst (λ (t2 : Trackers). Tells left len t2 pages buffers m query quota h) (sym (no_move ts n a b same)) told

    pub took : (t : ℕ) → IsUnderQuery ts t query → is_under query (get ts t) ≡ true → cost t ≤ reservation_of ts t → n ≤ h.room → Tells left len (move_to n query t ts) pages buffers m query quota (taken_from_query t n h)
    took t low mine fits few =
        subst (λ (t2 : Trackers). Tells left len t2 pages buffers m query quota (taken_from_query t n h)) (sym (moves_down cost ts n query high t low))
        (raised_told left len ts pages buffers m query quota h told high query_apart root_apart free n t low mine fits few)
