-- The three levels of a pool's trackers, and growths and falls over them step by step.
use Rattle.std.proofs.Common.{◌≡◌, ◌≢◌, ℕ, ◌-◌, ◌≤◌, ◌⊎◌, Option, Some, IsSome, refl, ap, sym, ◌∙◌, subst, arith, inl, inr, unwrap_or}
use Rattle.std.specs.FinMap.{get}
use Rattle.reservation_tree.specs.Tracker.{Tracker, Trackers, IsLive, no_tracker, tracker_at, reservation_of, depth_of, parent_of, share_of, children_of, Fits}
use Rattle.reservation_tree.specs.Change.{set_reservation, raise, lower, lacking, grow, shrink}
use Rattle.reservation_tree.specs.Total.{total}
use Rattle.reservation_tree.specs.Ways.{IsUnderRoot, IsUnderQuery, QuerySteps, ClientSteps}
use Rattle.reservation_tree.proofs.Maps.{found, get_same, same_or_other, is_there}
use Rattle.reservation_tree.proofs.Sums.{weight-le-total}
use Rattle.reservation_tree.proofs.Shares.{share_here}
use Rattle.reservation_tree.proofs.Outline.{parent_is, reservation_is, set_there}
use Rattle.reservation_tree.proofs.Ways.{queries_step, clients_step}
use Rattle.pool_model.specs.State.{State}
use Rattle.pool_model.specs.Sums.{charge_of}
use Rattle.pool_model.specs.Owning.{IsClientOf, IsTrackerOf}
use Rattle.pool_model.specs.Sound.{IsQuery, IsSound}
use Rattle.pool_model.proofs.Seats.{root_depth, query_depth, own_client}
use Rattle.trace_follow.specs.Changing.{Raises, Lowers}
use Rattle.trace_follow.specs.declared.follower.Follower.{Follower}
use Rattle.trace_follow.specs.Showing.{ShowsTrackers}

-- a live tracker under this query
pub record IsLow (ts : Trackers) (t q : ℕ) : Type 0 where
  pub under : IsUnderQuery ts t q
  pub query : IsQuery ts q
  pub above : Tracker
  pub lives : get ts q ≡ Some above
  pub tracker : Tracker
  pub is : get ts t ≡ Some tracker
  pub parent : tracker.parent ≡ Some q
  pub apart : q ≢ t
  pub not_root : q ≢ 0
  pub low : t ≢ 0

-- a live tracker under the root
pub record IsHigh (ts : Trackers) (q : ℕ) : Type 0 where
  pub under : IsUnderRoot ts q
  pub query : IsQuery ts q
  pub low : q ≢ 0

module _ (s : State) (sound : IsSound s) where
  pub top : depth_of s.trackers 0 ≡ 0
  top =
      let root : (y : Tracker) × (get s.trackers 0 ≡ Some y) = found (get s.trackers 0) sound.seated.tree.root in
      root_depth s.trackers sound.seated.tree (depth_of s.trackers 0) 0 root.0 root.1 refl

  at_depth : (q n : ℕ) → depth_of s.trackers q ≡ n → 1 ≤ n → q ≢ 0
  at_depth q n is some same =
      let one : depth_of s.trackers q ≡ depth_of s.trackers 0 = ap (depth_of s.trackers) same in
      let root : depth_of s.trackers 0 ≡ 0 = top in
      omega (arith, one, is, root, some)

  pub high : (q : ℕ) → IsQuery s.trackers q → IsHigh s.trackers q
  high q seat = record {
    under = record { depth = query_depth s.trackers sound.seated.tree q seat; parent = parent_is s.trackers q seat.tracker 0 seat.lives seat.under; root = top };
    query = seat;
    low = at_depth q 1 (query_depth s.trackers sound.seated.tree q seat) (omega arith);
  }

  pub low : (maker c : ℕ) (client : IsClientOf s maker c) → IsLow s.trackers c client.session.query
  low maker c client =
      let seat : IsQuery s.trackers client.session.query = sound.seated.seats maker client.session client.opened in
      let deep : depth_of s.trackers c ≡ 2 = (own_client s sound.seated maker c client).deep in
      let flat : depth_of s.trackers client.session.query ≡ 1 = query_depth s.trackers sound.seated.tree client.session.query seat in
      record {
        under = record { depth = deep; parent = parent_is s.trackers c client.tracker client.session.query client.lives client.under; query = (high client.session.query seat).under };
        query = seat;
        above = seat.tracker;
        lives = seat.lives;
        tracker = client.tracker;
        is = client.lives;
        parent = client.under;
        apart = λ same. let one : depth_of s.trackers client.session.query ≡ depth_of s.trackers c = ap (depth_of s.trackers) same in omega (arith, one, deep, flat);
        not_root = (high client.session.query seat).low;
        low = at_depth c 2 deep (omega arith);
      }

  pub level : (maker t : ℕ) → IsTrackerOf s maker t → IsHigh s.trackers t ⊎ ((q : ℕ) × IsLow s.trackers t q)
  level maker t own = elim own [
    | inl q ↦ inl (high t (subst (IsQuery s.trackers) q.is (sound.seated.seats maker q.session q.lives)))
    | inr c ↦ inr (c.session.query, low maker t c)
  ]

  pub of_root : (maker t : ℕ) → IsTrackerOf s maker t → parent_of s.trackers t ≡ 0 → IsHigh s.trackers t
  of_root maker t own is = elim (level maker t own) [
    | inl q ↦ q
    | inr c ↦ let l : IsLow s.trackers t c.0 = c.1 in absurd (l.not_root (sym l.under.parent ∙ is))
  ]

  pub of_query : (maker t : ℕ) → IsTrackerOf s maker t → parent_of s.trackers t ≢ 0 → IsLow s.trackers t (parent_of s.trackers t)
  of_query maker t own other = elim (level maker t own) [
    | inl q ↦ let h : IsHigh s.trackers t = q in absurd (other h.under.parent)
    | inr c ↦ let l : IsLow s.trackers t c.0 = c.1 in subst (IsLow s.trackers t) (sym l.under.parent) l
  ]

pub live_high : (ts : Trackers) (q : ℕ) → IsHigh ts q → IsLive ts q
live_high ts q h = is_there (get ts q) h.query.tracker h.query.lives

pub live_low : (ts : Trackers) (t q : ℕ) → IsLow ts t q → IsLive ts t
live_low ts t q l = is_there (get ts t) l.tracker l.is

pub live_above : (ts : Trackers) (t q : ℕ) → IsLow ts t q → IsLive ts q
live_above ts t q l = is_there (get ts q) l.above l.lives

-- a tracker whose reservation changes stays
pub live_set : (ts : Trackers) (r t q : ℕ) → IsLive ts q → IsLive (set_reservation r t ts) q
live_set ts r t q live = elim (same_or_other q t) [
  | inl here ↦ is_there (get (set_reservation r t ts) q) _ (ap (get (set_reservation r t ts)) here ∙ get_same ts t (record (tracker_at ts t) { reservation = r }))
  | inr there ↦ subst IsSome (sym (set_there ts t r q there)) live
]

pub still_has : (ts : Trackers) (r t q : ℕ) → q ≢ t → reservation_of (set_reservation r t ts) q ≡ reservation_of ts q
still_has ts r t q apart = ap (λ (o : Option Tracker). (unwrap_or o no_tracker).reservation) (set_there ts t r q apart)

summed : (us : Trackers) (r : ℕ) → total (λ _ y. share_of r y.parent y.reservation) us ≡ children_of us r
unfolding children_of
summed us r = refl

-- a reservation is one of its parent's children's
pub reserved : (s : State) → IsSound s → (t p : ℕ) (x : Tracker) → get s.trackers t ≡ Some x → x.parent ≡ Some p → IsLive s.trackers p → reservation_of s.trackers t ≤ reservation_of s.trackers p
reserved s sound t p x is under live =
    let fits : Fits (λ _. 0) s.trackers p = sound.seated.children_fit p live in
    let part : share_of p x.parent x.reservation ≤ total (λ _ y. share_of p y.parent y.reservation) s.trackers = weight-le-total (λ _ y. share_of p y.parent y.reservation) s.trackers t x is in
    let mine : share_of p x.parent x.reservation ≡ x.reservation = ap (λ (o : Option ℕ). share_of p o x.reservation) under ∙ share_here p x.reservation in
    let has : reservation_of s.trackers t ≡ x.reservation = reservation_is s.trackers t x is in
    let sum : total (λ _ y. share_of p y.parent y.reservation) s.trackers ≡ children_of s.trackers p = summed s.trackers p in
    let spare : children_of s.trackers p ≤ reservation_of s.trackers p = omega (arith, fits.within) in
    omega (arith, part, mine, has, sum, spare)

module _ (s : State) (sound : IsSound s) (maker t n : ℕ) (own : IsTrackerOf s maker t) where
  ts : Trackers
  ts = s.trackers

  pub query_grown : (a b d : Follower) → ShowsTrackers a.trackers a.unders s.trackers → parent_of s.trackers t ≡ 0
      → Raises a b (lacking (charge_of s) n 0 s.trackers) 0 → Raises b d n t → ShowsTrackers d.trackers d.unders (grow (charge_of s) n t s.trackers)
  query_grown a b d shows is first second =
      let h : IsHigh s.trackers t = of_root s sound maker t own is in
      let steps : QuerySteps (charge_of s) s.trackers n t = queries_step (charge_of s) s.trackers n t h.under in
      let up : ℕ = lacking (charge_of s) n 0 s.trackers in
      subst (ShowsTrackers d.trackers d.unders) (sym steps.grows)
      (second (raise up 0 s.trackers) (first s.trackers shows sound.seated.tree.root) (live_set s.trackers _ 0 t (live_high s.trackers t h)))

  pub client_grown : (a b d e : Follower) (q : ℕ) → ShowsTrackers a.trackers a.unders s.trackers → q ≡ parent_of s.trackers t → q ≢ 0
      → Raises a b (lacking (charge_of s) (lacking (charge_of s) n q s.trackers) 0 s.trackers) 0 → Raises b d (lacking (charge_of s) n q s.trackers) q → Raises d e n t
      → ShowsTrackers e.trackers e.unders (grow (charge_of s) n t s.trackers)
  client_grown a b d e q shows is other first second third =
      let l : IsLow s.trackers t q = subst (IsLow s.trackers t) (sym is) (of_query s sound maker t own (λ none. other (is ∙ none))) in
      let steps : ClientSteps (charge_of s) s.trackers n t q = clients_step (charge_of s) s.trackers n t q l.under in
      let mid : ℕ = lacking (charge_of s) n q s.trackers in
      let up : ℕ = lacking (charge_of s) mid 0 s.trackers in
      let one : Trackers = raise up 0 s.trackers in
      let two : Trackers = raise mid q one in
      subst (ShowsTrackers e.trackers e.unders) (sym steps.grows)
      (third two (second one (first s.trackers shows sound.seated.tree.root) (live_set s.trackers _ 0 q (live_above s.trackers t q l)))
      (live_set one _ q t (live_set s.trackers _ 0 t (live_low s.trackers t q l))))

  within : (p : ℕ) (x : Tracker) → get s.trackers t ≡ Some x → x.parent ≡ Some p → IsLive s.trackers p → reservation_of s.trackers t ≤ reservation_of s.trackers p
  within p x is under live = reserved s sound t p x is under live

  reserved_root : (l : IsHigh s.trackers t) → reservation_of s.trackers t ≤ reservation_of s.trackers 0
  reserved_root l = within 0 l.query.tracker l.query.lives l.query.under sound.seated.tree.root

  pub query_fallen : (a b d : Follower) → ShowsTrackers a.trackers a.unders s.trackers → parent_of s.trackers t ≡ 0 → n ≤ reservation_of s.trackers t
      → Lowers a b n t → Lowers b d n 0 → ShowsTrackers d.trackers d.unders (shrink n t s.trackers)
  query_fallen a b d shows is few first second =
      let h : IsHigh s.trackers t = of_root s sound maker t own is in
      let steps : QuerySteps (charge_of s) s.trackers n t = queries_step (charge_of s) s.trackers n t h.under in
      let more : reservation_of s.trackers t ≤ reservation_of s.trackers 0 = reserved_root h in
      let same : reservation_of (lower n t s.trackers) 0 ≡ reservation_of s.trackers 0 = still_has s.trackers (reservation_of s.trackers t - n) t 0 (λ at. h.low (sym at)) in
      subst (ShowsTrackers d.trackers d.unders) (sym steps.falls)
      (second (lower n t s.trackers) (first s.trackers shows (live_high s.trackers t h) few) (live_set s.trackers _ t 0 sound.seated.tree.root) (omega (arith, few, more, same)))

  pub client_fallen : (a b d e : Follower) (q : ℕ) → ShowsTrackers a.trackers a.unders s.trackers → q ≡ parent_of s.trackers t → q ≢ 0 → n ≤ reservation_of s.trackers t
      → Lowers a b n t → Lowers b d n q → Lowers d e n 0 → ShowsTrackers e.trackers e.unders (shrink n t s.trackers)
  client_fallen a b d e q shows is other few first second third =
      let l : IsLow s.trackers t q = subst (IsLow s.trackers t) (sym is) (of_query s sound maker t own (λ none. other (is ∙ none))) in
      let steps : ClientSteps (charge_of s) s.trackers n t q = clients_step (charge_of s) s.trackers n t q l.under in
      let above : reservation_of s.trackers t ≤ reservation_of s.trackers q = within q l.tracker l.is l.parent (live_above s.trackers t q l) in
      let top_of : reservation_of s.trackers q ≤ reservation_of s.trackers 0 = root_above q l.query in
      let one : Trackers = lower n t s.trackers in
      let two : Trackers = lower n q one in
      let same : reservation_of one q ≡ reservation_of s.trackers q = still_has s.trackers (reservation_of s.trackers t - n) t q l.apart in
      let same_one : reservation_of one 0 ≡ reservation_of s.trackers 0 = still_has s.trackers (reservation_of s.trackers t - n) t 0 (λ at. l.low (sym at)) in
      let same_two : reservation_of two 0 ≡ reservation_of one 0 = still_has one (reservation_of one q - n) q 0 (λ at. l.not_root (sym at)) in
      subst (ShowsTrackers e.trackers e.unders) (sym steps.falls)
      (third two
      (second one (first s.trackers shows (live_low s.trackers t q l) few) (live_set s.trackers _ t q (live_above s.trackers t q l)) (omega (arith, few, above, same)))
      (live_set one _ q 0 (live_set s.trackers _ t 0 sound.seated.tree.root)) (omega (arith, few, above, top_of, same_one, same_two)))
    where
      root_above : (r : ℕ) → IsQuery s.trackers r → reservation_of s.trackers r ≤ reservation_of s.trackers 0
      root_above r seat = reserved s sound r 0 seat.tracker seat.lives seat.under sound.seated.tree.root
