-- The seats of sessions, where sessions change and where a tracker goes.
use Rattle.std.proofs.Common.{◌≡◌, ◌≢◌, ℕ, zero, suc, ◌+◌, Option, Some, None, refl, ap, sym, ◌∙◌, subst, arith, unwrap_or, inl, inr}
use Rattle.std.specs.Ordering.{nat_cmp}
use Rattle.std.specs.FinMap.{FinMap, get, insert}
use Rattle.reservation_tree.specs.Tracker.{Tracker, Trackers, depth_of, Hangs, IsTree}
use Rattle.reservation_tree.proofs.Maps.{get_same, get_other, same_or_other, is_there, found}
use Rattle.reservation_tree.proofs.Outline.{depth_is}
use Rattle.reservation_tree.proofs.Above.{Above, above, at_root}
use Rattle.pool_model.specs.State.{Session, Sessions, State}
use Rattle.pool_model.specs.Sums.{IsClient, memory}
use Rattle.pool_model.specs.Owning.{IsClientOf, IsTrackerOf}
use Rattle.pool_model.specs.Parts.{with_failures}
use Rattle.pool_model.specs.Sound.{IsQuery, IsSeated}

pub some_is : {X : Type 0} (x y : X) → Some x ≡ Some y → x ≡ y
some_is {X} x y is = ap (λ (o : Option X). unwrap_or o x) is

-- the session had the same query tracker before
pub record HadSeat (old : Sessions) (maker : ℕ) (x : Session) : Type 0 where
  pub session : Session
  pub lives : get old maker ≡ Some session
  pub same : session.query ≡ x.query

-- a session that stands in place of one with the same query tracker
pub put_session : (old : Sessions) (maker : ℕ) (x new : Session) → get old maker ≡ Some x → x.query ≡ new.query → (m : ℕ) (y : Session) → get (insert old maker new) m ≡ Some y → HadSeat old m y
put_session old maker x new is same m y there = elim (same_or_other m maker) [
  | inl here ↦
      let now : new ≡ y = some_is new y (sym (get_same old maker new) ∙ ap (get (insert old maker new)) (sym here) ∙ there) in
      record { session = x; lives = ap (get old) here ∙ is; same = same ∙ ap (λ (z : Session). z.query) now }
  | inr other ↦ record { session = y; lives = sym (get_other old maker new m other) ∙ there; same = refl }
]

pub failures_seats : (change : FinMap nat_cmp ℕ → FinMap nat_cmp ℕ) (maker : ℕ) (old : Sessions) (m : ℕ) (y : Session) → get (with_failures change maker old) m ≡ Some y → HadSeat old m y
failures_seats change maker old m y =
    elim (get old maker) as (λ o. get old maker ≡ o → get (elim o [ None ↦ old | Some x ↦ insert old maker (record x { failures = change x.failures }) ]) m ≡ Some y → HadSeat old m y) [
      | None ↦ λ is there. record { session = y; lives = there; same = refl }
      | Some x ↦ λ is there. put_session old maker x (record x { failures = change x.failures }) is refl m y there
    ] refl

-- sessions with the seats that they had
pub keep_seats : (bytes : ℕ) (ts : Trackers) (old new : Sessions) → ((m : ℕ) (y : Session) → get new m ≡ Some y → HadSeat old m y) → IsSeated bytes ts old → IsSeated bytes ts new
keep_seats bytes ts old new had seated = record {
  tree = seated.tree;
  children_fit = seated.children_fit;
  low = seated.low;
  top = seated.top;
  seats = λ m y is. let was : HadSeat old m y = had m y is in subst (IsQuery ts) was.same (seated.seats m was.session was.lives);
  apart = λ m n x y is_m is_n same.
      let first : HadSeat old m x = had m x is_m in
      let second : HadSeat old n y = had n y is_n in
      seated.apart m n first.session second.session first.lives second.lives (first.same ∙ same ∙ sym second.same);
}

-- the root is at depth 0
pub root_depth : (ts : Trackers) → IsTree ts → (depth t : ℕ) (x : Tracker) → get ts t ≡ Some x → depth_of ts t ≡ depth → depth_of ts 0 ≡ 0
root_depth ts tree zero t x is deep = ap (depth_of ts) (sym (at_root ts tree t x is deep).1) ∙ deep
root_depth ts tree (suc depth) t x is deep =
    let over_it : Above ts t x depth = above ts tree t depth x is deep in
    root_depth ts tree depth over_it.parent over_it.tracker over_it.lives over_it.deep

pub depth_under : (ts : Trackers) → IsTree ts → (t p : ℕ) (x : Tracker) → get ts t ≡ Some x → x.parent ≡ Some p → depth_of ts t ≡ depth_of ts p + 1
depth_under ts tree t p x is under =
    let hangs : Hangs ts t x.depth (Some p) = subst (λ (o : Option ℕ). Hangs ts t x.depth o) under (tree.hangs t x is) in
    let mine : depth_of ts t ≡ x.depth = depth_is ts t x is in
    let its : depth_of ts p ≡ hangs.0.depth = depth_is ts p hangs.0 hangs.1 in
    let more : x.depth ≡ hangs.0.depth + 1 = hangs.2 in
    omega (arith, mine, its, more)

pub query_depth : (ts : Trackers) → IsTree ts → (t : ℕ) → IsQuery ts t → depth_of ts t ≡ 1
query_depth ts tree t query =
    let root : (y : Tracker) × (get ts 0 ≡ Some y) = found (get ts 0) tree.root in
    let top : depth_of ts 0 ≡ 0 = root_depth ts tree (depth_of ts 0) 0 root.0 root.1 refl in
    let under : depth_of ts t ≡ depth_of ts 0 + 1 = depth_under ts tree t 0 query.tracker query.lives query.under in
    omega (arith, top, under)

-- a session's own tracker: it is live, below the root, and a query's exactly where it is the session's
pub record IsBelow (s : State) (maker t : ℕ) : Type 0 where
  pub session : Session
  pub opened : get s.sessions maker ≡ Some session
  pub tracker : Tracker
  pub lives : get s.trackers t ≡ Some tracker
  pub low : t ≢ 0
  pub others : session.query ≢ t → IsQuery s.trackers t → ⊥

pub is_below : (s : State) → IsSeated (memory s) s.trackers s.sessions → (maker t : ℕ) → IsTrackerOf s maker t → IsBelow s maker t
is_below s seated maker t (inl query) =
    let it : IsQuery s.trackers t = subst (IsQuery s.trackers) query.is (seated.seats maker query.session query.lives) in
    let deep : depth_of s.trackers t ≡ 1 = query_depth s.trackers seated.tree t it in
    let root : (y : Tracker) × (get s.trackers 0 ≡ Some y) = found (get s.trackers 0) seated.tree.root in
    let top : depth_of s.trackers 0 ≡ 0 = root_depth s.trackers seated.tree (depth_of s.trackers 0) 0 root.0 root.1 refl in
    record {
      session = query.session;
      opened = query.lives;
      tracker = it.tracker;
      lives = it.lives;
      low = λ same. let one : depth_of s.trackers t ≡ depth_of s.trackers 0 = ap (depth_of s.trackers) same in omega (arith, one, deep, top);
      others = λ other found_it. other query.is;
    }
is_below s seated maker t (inr client) =
    let its : IsQuery s.trackers client.session.query = seated.seats maker client.session client.opened in
    let high : depth_of s.trackers client.session.query ≡ 1 = query_depth s.trackers seated.tree client.session.query its in
    let under : depth_of s.trackers t ≡ depth_of s.trackers client.session.query + 1 = depth_under s.trackers seated.tree t client.session.query client.tracker client.lives client.under in
    let root : (y : Tracker) × (get s.trackers 0 ≡ Some y) = found (get s.trackers 0) seated.tree.root in
    let top : depth_of s.trackers 0 ≡ 0 = root_depth s.trackers seated.tree (depth_of s.trackers 0) 0 root.0 root.1 refl in
    record {
      session = client.session;
      opened = client.opened;
      tracker = client.tracker;
      lives = client.lives;
      low = λ same. let one : depth_of s.trackers t ≡ depth_of s.trackers 0 = ap (depth_of s.trackers) same in omega (arith, one, under, high, top);
      others = λ other query. let deep : depth_of s.trackers t ≡ 1 = query_depth s.trackers seated.tree t query in omega (arith, deep, under, high);
    }

pub own_client : (s : State) → IsSeated (memory s) s.trackers s.sessions → (maker c : ℕ) → IsClientOf s maker c → IsClient s.trackers c
own_client s seated maker c client =
    let its : IsQuery s.trackers client.session.query = seated.seats maker client.session client.opened in
    let high : depth_of s.trackers client.session.query ≡ 1 = query_depth s.trackers seated.tree client.session.query its in
    let under : depth_of s.trackers c ≡ depth_of s.trackers client.session.query + 1 = depth_under s.trackers seated.tree c client.session.query client.tracker client.lives client.under in
    record { live = is_there (get s.trackers c) client.tracker client.lives; deep = omega (arith, under, high) }
