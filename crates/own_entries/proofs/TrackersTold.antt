-- One reservation is another, or a tracker grows: what is held is still told.
use Rattle.std.proofs.Common.{◌≡◌, ◌≢◌, ℕ, ◌+◌, ◌-◌, ◌≤◌, List, Bool, true, false, if◌then◌else◌, Option, Some, None, refl, sym, ap, ◌∙◌, subst, arith, inl, inr}
use Rattle.std.specs.FinMap.{get}
use Rattle.reservation_tree.specs.Tracker.{Tracker, Trackers, tracker_at, reservation_of, limit_of, depth_of, children_of, unused}
use Rattle.reservation_tree.specs.Change.{lacking, set_reservation, raise, lower, grow}
use Rattle.reservation_tree.proofs.Maps.{get_same, get_other, same_or_other}
use Rattle.reservation_tree.proofs.Outline.{tracker_is, reservation_is}
use Rattle.pool_model.specs.State.{Pages, Buffer, Buffers}
use Rattle.store_api.specs.Holdings.{Account, Holdings, Above, put, or_else, no_account, account_of}
use Rattle.store_api.specs.Changes.{raised, lowered, after_reserve}
use Rattle.store_api.proofs.Puts.{put_here, put_there}
use Rattle.own_entries.specs.OwnHoldings.{query_grown, given_to_query, taken_from_query}
use Rattle.own_entries.specs.LiveParts.{is_under, live_account, live_loan, charge_in, count_under, Tells}
use Rattle.own_entries.proofs.Views.{at, told_account, account_is, mine_tracker}
use Rattle.own_entries.proofs.Setting.{limit_stays, under_stays, count_stays, reservation_here, reservation_there, child_set, other_set}
use Rattle.reservation_tree.specs.Ways.{IsUnderRoot, IsUnderQuery}
use Rattle.reservation_tree.proofs.Ways.{query_grows, client_grows, not_query}

pub account_none : (query charge : ℕ) (o : Option Tracker) → is_under query o ≡ false → live_account query charge o ≡ None
account_none query charge None is = refl
account_none query charge (Some y) is = ap (λ (b : Bool). if b then Some (told_account query charge y) else None) is

loan_stays : (query : ℕ) (ts ts2 : Trackers) → ((c : ℕ) → is_under query (get ts2 c) ≡ is_under query (get ts c)) → (o : Option Buffer) → live_loan query ts o ≡ live_loan query ts2 o
loan_stays query ts ts2 same None = refl
loan_stays query ts ts2 same (Some x) = ap (λ (b : Bool). if b then Some (record { client = x.client; blocks = x.blocks }) else None) (sym (same x.client))

pub by_under : (b : Bool) (goal : Type 0) → (b ≡ true → goal) → (b ≡ false → goal) → goal
by_under true goal yes_case no_case = yes_case refl
by_under false goal yes_case no_case = no_case refl

-- one client's reservation is another
module _ (query : ℕ) (charge : ℕ → ℕ) (ts ts2 : Trackers) (clients : ℕ → Option Account) (told : (c : ℕ) → clients c ≡ live_account query (charge c) (get ts c)) (t : ℕ)
    (same : (c : ℕ) → is_under query (get ts2 c) ≡ is_under query (get ts c)) (others : (c : ℕ) → c ≢ t → is_under query (get ts c) ≡ true → get ts2 c ≡ get ts c) where
  beside_told : (c : ℕ) → c ≢ t → clients c ≡ live_account query (charge c) (get ts2 c)
  beside_told c apart = by_under (is_under query (get ts c)) _
      (λ mine. told c ∙ ap (live_account query (charge c)) (sym (others c apart mine)))
      (λ not. told c ∙ account_none query (charge c) (get ts c) not ∙ sym (account_none query (charge c) (get ts2 c) (same c ∙ not)))

  pub accounts_set : (y : Tracker) → is_under query (get ts t) ≡ true → get ts2 t ≡ Some y → (a : Account) → a ≡ told_account query (charge t) y → (c : ℕ) → put t (Some a) clients c ≡ live_account query (charge c) (get ts2 c)
  accounts_set y mine now a is c = elim (same_or_other c t) [
    | inl here ↦ subst (λ (q : ℕ). put t (Some a) clients q ≡ live_account query (charge q) (get ts2 q)) (sym here)
        (put_here t (Some a) clients ∙ ap Some is ∙ sym (account_is query (charge t) (get ts2 t) y now (same t ∙ mine)))
    | inr apart ↦ put_there t c (Some a) clients apart ∙ beside_told c apart
  ]

  pub accounts_kept : is_under query (get ts t) ≡ false → (c : ℕ) → clients c ≡ live_account query (charge c) (get ts2 c)
  accounts_kept not c = elim (same_or_other c t) [
    | inl here ↦ subst (λ (q : ℕ). clients q ≡ live_account query (charge q) (get ts2 q)) (sym here)
        (told t ∙ account_none query (charge t) (get ts t) not ∙ sym (account_none query (charge t) (get ts2 t) (same t ∙ not)))
    | inr apart ↦ beside_told c apart
  ]

set_at : (ts : Trackers) (t bytes : ℕ) (y : Tracker) → tracker_at ts t ≡ y → get (set_reservation bytes t ts) t ≡ Some (record y { reservation = bytes })
set_at ts t bytes y is = get_same ts t _ ∙ ap (λ (z : Tracker). Some (record z { reservation = bytes })) is

module _ (left : ℕ → List ℕ) (len : ℕ) (ts : Trackers) (pages : Pages) (buffers : Buffers) (m query quota : ℕ) (h : Holdings)
    (told : Tells left len ts pages buffers m query quota h) where
  abbrev charge : ℕ → ℕ
  charge = charge_in len pages buffers

  pub retold : (ts2 : Trackers) (clients : ℕ → Option Account) (reservation room : ℕ) (above : Above)
      → ((c : ℕ) → is_under query (get ts2 c) ≡ is_under query (get ts c)) → limit_of ts2 query ≡ limit_of ts query → count_under query ts2 ≡ count_under query ts
      → reservation ≡ reservation_of ts2 query → room + children_of ts2 query ≡ reservation_of ts2 query → ((c : ℕ) → clients c ≡ live_account query (charge c) (get ts2 c))
      → Tells left len ts2 pages buffers m query quota (record h { clients = clients; reservation = reservation; room = room; above = above })
  retold ts2 clients reservation room above same limit count res sum accounts = record {
    block_len = told.block_len;
    session = told.session;
    tracker = told.tracker;
    limit = told.limit ∙ sym limit;
    reservation = res;
    room = sum;
    live_clients = told.live_clients ∙ sym count;
    clients = accounts;
    live_pages = told.live_pages;
    loans = λ g. told.loans g ∙ loan_stays query ts ts2 same (get buffers g);
    free_slots = told.free_slots;
    slots = told.slots;
  }

  -- a tracker that is neither the query's nor a client's
  pub foreign_set : (t bytes : ℕ) → t ≢ query → is_under query (get ts t) ≡ false → Tells left len (set_reservation bytes t ts) pages buffers m query quota h
  foreign_set t bytes apart not =
      let ts2 : Trackers = set_reservation bytes t ts in
      let res : reservation_of ts2 query ≡ reservation_of ts query = reservation_there ts t bytes query (λ same. apart (sym same)) in
      let children : children_of ts2 query ≡ children_of ts query = other_set ts t bytes query not in
      let was : h.room + children_of ts query ≡ reservation_of ts query = told.room in
      retold ts2 h.clients h.reservation h.room h.above (under_stays ts t bytes query) (limit_stays ts t bytes query) (count_stays ts t bytes query)
      (told.reservation ∙ sym res) (omega (arith, was, res, children))
      (accounts_kept query charge ts ts2 h.clients told.clients t (under_stays ts t bytes query) (λ c other mine. get_other ts t _ c other) not)

  module _ (high : IsUnderRoot ts query) (query_apart : is_under query (get ts query) ≡ false) (root_apart : is_under query (get ts 0) ≡ false) (free : charge query ≡ 0) (n : ℕ) where
    pub query_low : query ≢ 0
    query_low same = let one : depth_of ts query ≡ depth_of ts 0 = ap (depth_of ts) same in omega (arith, one, high.depth, high.root)

    pub unused_is : unused charge ts query ≡ h.room
    unused_is = let was : h.room + children_of ts query ≡ reservation_of ts query = told.room in omega (arith, was, free)

    -- the query's tracker and the root are set
    module _ (of_query of_root : ℕ) where
      abbrev both : Trackers
      both = set_reservation of_query query (set_reservation of_root 0 ts)

      both_under : (c : ℕ) → is_under query (get both c) ≡ is_under query (get ts c)
      both_under c = under_stays (set_reservation of_root 0 ts) query of_query query c ∙ under_stays ts 0 of_root query c

      both_limit : limit_of both query ≡ limit_of ts query
      both_limit = limit_stays (set_reservation of_root 0 ts) query of_query query ∙ limit_stays ts 0 of_root query

      both_count : count_under query both ≡ count_under query ts
      both_count = count_stays (set_reservation of_root 0 ts) query of_query query ∙ count_stays ts 0 of_root query

      both_children : children_of both query ≡ children_of ts query
      both_children = other_set (set_reservation of_root 0 ts) query of_query query (under_stays ts 0 of_root query query ∙ query_apart) ∙ other_set ts 0 of_root query root_apart

      both_reservation : reservation_of both query ≡ of_query
      both_reservation = reservation_here (set_reservation of_root 0 ts) query of_query

      both_others : (c : ℕ) → is_under query (get ts c) ≡ true → get both c ≡ get ts c
      both_others c mine =
          get_other (set_reservation of_root 0 ts) query _ c (λ same. let no : true ≡ false = sym mine ∙ ap (λ (d : ℕ). is_under query (get ts d)) same ∙ query_apart in cc)
          ∙ get_other ts 0 _ c (λ same. let no : true ≡ false = sym mine ∙ ap (λ (d : ℕ). is_under query (get ts d)) same ∙ root_apart in cc)

      both_accounts : (c : ℕ) → h.clients c ≡ live_account query (charge c) (get both c)
      both_accounts c = by_under (is_under query (get ts c)) _
          (λ mine. told.clients c ∙ ap (live_account query (charge c)) (sym (both_others c mine)))
          (λ not. told.clients c ∙ account_none query (charge c) (get ts c) not ∙ sym (account_none query (charge c) (get both c) (both_under c ∙ not)))

      pub both_told : (reservation room : ℕ) (above : Above) → reservation ≡ of_query → room + children_of ts query ≡ of_query
          → Tells left len both pages buffers m query quota (record h { reservation = reservation; room = room; above = above })
      both_told reservation room above res sum =
          let now : reservation_of both query ≡ of_query = both_reservation in
          let children : children_of both query ≡ children_of ts query = both_children in
          retold both h.clients reservation room above both_under both_limit both_count (res ∙ sym now) (omega (arith, sum, now, children)) both_accounts

    -- the query grows
    pub grown_told : Tells left len (grow charge n query ts) pages buffers m query quota (query_grown n h)
    grown_told =
        let res : reservation_of (raise (lacking charge n 0 ts) 0 ts) query ≡ reservation_of ts query = reservation_there ts 0 _ query query_low in
        let was : h.room + children_of ts query ≡ reservation_of ts query = told.room in
        let has : h.reservation ≡ reservation_of ts query = told.reservation in
        subst (λ (t2 : Trackers). Tells left len t2 pages buffers m query quota (query_grown n h)) (sym (query_grows charge ts n query high))
        (both_told (reservation_of (raise (lacking charge n 0 ts) 0 ts) query + n) (reservation_of ts 0 + lacking charge n 0 ts) (h.reservation + n) (h.room + n) _
        (omega (arith, res, has)) (omega (arith, res, was)))

    -- a client grows
    module _ (t : ℕ) (low : IsUnderQuery ts t query) (mine : is_under query (get ts t) ≡ true) (fits : charge t ≤ reservation_of ts t) where
      it : (y : Tracker) × (get ts t ≡ Some y)
      it = mine_tracker query (get ts t) mine

      its_account : at t h.clients ≡ told_account query (charge t) it.0
      its_account = ap (or_else no_account) (told.clients t ∙ account_is query (charge t) (get ts t) it.0 it.1 mine)

      its_reservation : reservation_of ts t ≡ it.0.reservation
      its_reservation = reservation_is ts t it.0 it.1

      t_apart : t ≢ query
      t_apart = not_query charge ts n query high t low

      -- the account where the reservation is so much more, or less
      more_account : raised n (account_of t h) ≡ told_account query (charge t) (record it.0 { reservation = it.0.reservation + n })
      more_account =
          let sum : (it.0.reservation - charge t) + n ≡ (it.0.reservation + n) - charge t = let has : reservation_of ts t ≡ it.0.reservation = its_reservation in omega (arith, fits, has) in
          ap (raised n) its_account ∙ ap (λ (u : ℕ). record { limit = it.0.limit; reservation = it.0.reservation + n; unused = u }) sum

      less_account : lowered n (account_of t h) ≡ told_account query (charge t) (record it.0 { reservation = it.0.reservation - n })
      less_account =
          let sum : (it.0.reservation - charge t) - n ≡ (it.0.reservation - n) - charge t = omega arith in
          ap (lowered n) its_account ∙ ap (λ (u : ℕ). record { limit = it.0.limit; reservation = it.0.reservation - n; unused = u }) sum

      pub reserved : Tells left len (grow charge n t ts) pages buffers m query quota (after_reserve t n h)
      reserved =
          let g : ℕ = lacking charge n query ts in
          let of_root : ℕ = reservation_of ts 0 + lacking charge g 0 ts in
          let of_query : ℕ = reservation_of (set_reservation of_root 0 ts) query + g in
          let inner : Trackers = both of_query of_root in
          let inner_at : get inner t ≡ Some it.0 = both_others of_query of_root t mine ∙ it.1 in
          let inner_is : tracker_at inner t ≡ it.0 = tracker_is inner t it.0 inner_at in
          let inner_res : reservation_of inner t ≡ it.0.reservation = reservation_is inner t it.0 inner_at in
          let bytes : ℕ = reservation_of inner t + n in
          let ts2 : Trackers = set_reservation bytes t inner in
          let res_low : reservation_of (set_reservation of_root 0 ts) query ≡ reservation_of ts query = reservation_there ts 0 of_root query query_low in
          let res : reservation_of ts2 query ≡ of_query = reservation_there inner t bytes query (λ same. t_apart (sym same)) ∙ both_reservation of_query of_root in
          let sum : children_of ts2 query + reservation_of inner t ≡ children_of inner query + bytes = child_set inner t bytes query (both_under of_query of_root t ∙ mine) in
          let children : children_of inner query ≡ children_of ts query = both_children of_query of_root in
          let was : h.room + children_of ts query ≡ reservation_of ts query = told.room in
          let has : h.reservation ≡ reservation_of ts query = told.reservation in
          let spare : unused charge ts query ≡ h.room = unused_is in
          let same_under : (c : ℕ) → is_under query (get ts2 c) ≡ is_under query (get ts c) = λ c. under_stays inner t bytes query c ∙ both_under of_query of_root c in
          subst (λ (t2 : Trackers). Tells left len t2 pages buffers m query quota (after_reserve t n h)) (sym (client_grows charge ts n query high t low))
          (retold ts2 _ (h.reservation + (n - h.room)) (h.room - n) _ same_under
          (limit_stays inner t bytes query ∙ both_limit of_query of_root) (count_stays inner t bytes query ∙ both_count of_query of_root)
          (omega (arith, res, res_low, has, spare)) (omega (arith, sum, children, was, has, res, res_low, spare))
          (accounts_set query charge ts ts2 h.clients told.clients t same_under (λ c apart ours. get_other inner t _ c apart ∙ both_others of_query of_root c ours)
          (record it.0 { reservation = it.0.reservation + n }) mine
          (set_at inner t bytes it.0 inner_is ∙ ap (λ (r : ℕ). Some (record it.0 { reservation = r + n })) inner_res) (raised n (account_of t h)) more_account))

      -- the client alone falls or rises
      pub lowered_told : n ≤ reservation_of ts t → Tells left len (lower n t ts) pages buffers m query quota (given_to_query t n h)
      lowered_told few =
          let bytes : ℕ = reservation_of ts t - n in
          let ts2 : Trackers = lower n t ts in
          let res : reservation_of ts2 query ≡ reservation_of ts query = reservation_there ts t bytes query (λ same. t_apart (sym same)) in
          let sum : children_of ts2 query + reservation_of ts t ≡ children_of ts query + bytes = child_set ts t bytes query mine in
          let was : h.room + children_of ts query ≡ reservation_of ts query = told.room in
          let own_res : reservation_of ts t ≡ it.0.reservation = its_reservation in
          retold ts2 _ h.reservation (h.room + n) h.above (under_stays ts t bytes query) (limit_stays ts t bytes query) (count_stays ts t bytes query)
          (told.reservation ∙ sym res) (omega (arith, sum, was, res, few))
          (accounts_set query charge ts ts2 h.clients told.clients t (under_stays ts t bytes query) (λ c apart ours. get_other ts t _ c apart)
          (record it.0 { reservation = it.0.reservation - n }) mine
          (set_at ts t bytes it.0 (tracker_is ts t it.0 it.1) ∙ ap (λ (r : ℕ). Some (record it.0 { reservation = r - n })) own_res) (lowered n (account_of t h)) less_account)

      pub raised_told : n ≤ h.room → Tells left len (raise n t ts) pages buffers m query quota (taken_from_query t n h)
      raised_told few =
          let bytes : ℕ = reservation_of ts t + n in
          let ts2 : Trackers = raise n t ts in
          let res : reservation_of ts2 query ≡ reservation_of ts query = reservation_there ts t bytes query (λ same. t_apart (sym same)) in
          let sum : children_of ts2 query + reservation_of ts t ≡ children_of ts query + bytes = child_set ts t bytes query mine in
          let was : h.room + children_of ts query ≡ reservation_of ts query = told.room in
          let own_res : reservation_of ts t ≡ it.0.reservation = its_reservation in
          retold ts2 _ h.reservation (h.room - n) h.above (under_stays ts t bytes query) (limit_stays ts t bytes query) (count_stays ts t bytes query)
          (told.reservation ∙ sym res) (omega (arith, sum, was, res, few))
          (accounts_set query charge ts ts2 h.clients told.clients t (under_stays ts t bytes query) (λ c apart ours. get_other ts t _ c apart)
          (record it.0 { reservation = it.0.reservation + n }) mine
          (set_at ts t bytes it.0 (tracker_is ts t it.0 it.1) ∙ ap (λ (r : ℕ). Some (record it.0 { reservation = r + n })) own_res) (raised n (account_of t h)) more_account)
