-- Trackers come, and sessions with them: what a follower shows then.
use Rattle.std.proofs.Common.{◌≡◌, ℕ, ◌+◌, ◌<◌, ◌^◌, ◌↔◌, ◌&&◌, Bool, true, false, IsTrue, T, Option, Some, None, is_some, Result, Ok, Err, IfOk, OnOk, List, [], ◌∷◌, ◌++◌, length, refl, ap, sym, ◌∙◌, subst, arith, ne_eqb, inl, inr, unwrap_or}
use Rattle.std.specs.Ordering.{nat_cmp}
use Rattle.std.specs.FinMap.{FinMap, get, insert, remove, empty}
use Rattle.std.proofs.lemmas.List.{length-append}
use Rattle.reservation_tree.specs.Total.{total, weight_at}
use Rattle.reservation_tree.specs.Tracker.{Tracker, Trackers, depth_of, share_of, children_of}
use Rattle.reservation_tree.specs.Change.{with_child}
use Rattle.reservation_tree.proofs.Maps.{get_same, get_other, removed_same, removed_other, same_or_other}
use Rattle.reservation_tree.proofs.Sums.{total-insert}
use Rattle.reservation_tree.proofs.Shares.{children-new, share_here, share_there}
use Rattle.pool_model.specs.declared.event.Event.TheVariants.{AddTracker}
use Rattle.pool_model.specs.declared.bare.Bare.TheVariants as bare
use Rattle.pool_model.specs.declared.entry.Entry.{Entry}
use Rattle.pool_model.specs.State.{Session, Sessions, Opening, State}
use Rattle.pool_model.specs.LookingBack.{is_ask, is_by}
use Rattle.pool_model.specs.Failures.{fails_read}
use Rattle.pool_model.specs.Owning.{IsQueryOf}
use Rattle.pool_model.specs.TrackerRows.{MayOpenSession, MayAddClient}
use Rattle.pool_model.specs.Effects.{after}
use Rattle.pool_model.specs.Parts.{open_session, add_client}
use Rattle.pool_model.specs.Legal.{state_after}
use Rattle.pool_model.specs.Sound.{IsSound}
use Rattle.trace_follow.specs.declared.rows.Asked.{Asked}
use Rattle.trace_follow.specs.declared.rows.SessionRow.{SessionRow}
use Rattle.trace_follow.specs.declared.rows.TrackerRow.{TrackerRow}
use Rattle.trace_follow.specs.declared.rows.Under.{Under}
use Rattle.trace_follow.specs.declared.follower.Follower.{Follower}
use Rattle.trace_follow.specs.Queues.{Queue, names_in, queue_at, AreStamped}
use Rattle.trace_follow.specs.Rows.{tracker_row, kids_of, under_at, session_row}
use Rattle.trace_follow.specs.Showing.{ShowsTrackers, ShowsSessions, Shows}
use Rattle.trace_follow.specs.Following.{TellsBefore, StandsFor}
use Rattle.trace_follow.specs.Judging.{made, Answers}
use Rattle.trace_follow.proofs.Told.{told_as}
use Rattle.trace_follow.proofs.Before.{asks, asks_anew, asks_other, reads_same}
use Rattle.trace_follow.proofs.Mirrored.{mirror_put, none_of}
use Rattle.trace_follow.proofs.Reserving.{both, under_same, under_other}
use Rattle.trace_follow.proofs.Standing.{plain_accepted}
use Rattle.trace_follow.proofs.Entered.{counted}

-- a tracker that comes counts for its parent
pub kids_new : (ts : Trackers) (t : ℕ) (y : Tracker) → get ts t ≡ None → (q : ℕ) → kids_of (insert ts t y) q ≡ kids_of ts q + share_of q y.parent 1
unfolding kids_of
kids_new ts t y none q =
    let w : ℕ → Tracker → ℕ = λ _ z. share_of q z.parent 1 in
    let sum : total w (insert ts t y) + weight_at w t (get ts t) ≡ total w ts + w t y = total-insert w ts t y in
    let old : weight_at w t (get ts t) ≡ 0 = ap (weight_at w t) none in
    omega (arith, sum, old)

pub child_shows : (trackers : FinMap nat_cmp TrackerRow) (unders : FinMap nat_cmp Under) (ts : Trackers) → ShowsTrackers trackers unders ts → (t p limit depth : ℕ) → get ts t ≡ None → depth ≡ depth_of ts p
    → ShowsTrackers (insert trackers t (record { parent = Some p; depth = depth + 1; limit = limit; reservation = 0 })) (insert unders p (record (under_at unders p) { count = (under_at unders p).count + 1 })) (with_child t p limit ts)
child_shows trackers unders ts shows t p limit depth fresh deep = record {
  rows = mirror_put tracker_row ts trackers shows.rows t new (record { parent = Some p; depth = depth + 1; limit = limit; reservation = 0 })
      (ap (λ (d : ℕ). tracker_row (record { parent = Some p; depth = d + 1; limit = limit; reservation = 0 })) deep);
  sums = λ q.
      let sum : children_of (insert ts t new) q ≡ children_of ts q = children-new ts t new q fresh refl in
      let kids : kids_of (insert ts t new) q ≡ kids_of ts q + share_of q (Some p) 1 = kids_new ts t new fresh q in
      elim (same_or_other q p) [
        | inl here ↦
            let one : share_of q (Some p) 1 ≡ 1 = ap (λ (k : ℕ). share_of q (Some k) 1) (sym here) ∙ share_here q 1 in
            let was : (under_at unders p).bytes ≡ children_of ts q = ap (λ (u : Under). u.bytes) (shows.sums p) ∙ ap (children_of ts) (sym here) in
            let count : (under_at unders p).count ≡ kids_of ts q = ap (λ (u : Under). u.count) (shows.sums p) ∙ ap (kids_of ts) (sym here) in
            ap (under_at (insert unders p (record (under_at unders p) { count = (under_at unders p).count + 1 }))) here ∙ under_same unders p _
            ∙ both _ _ _ _ (was ∙ sym sum) (omega (arith, count, kids, one))
        | inr there ↦
            let none : share_of q (Some p) 1 ≡ 0 = share_there q p 1 (λ same. there (sym same)) in
            under_other unders p _ q there ∙ shows.sums q ∙ both _ _ _ _ (sym sum) (omega (arith, kids, none))
      ];
}
  where
    new : Tracker
    new = record { parent = Some p; depth = depth_of ts p + 1; limit = limit; reservation = 0 }

pub child_came : (old mid new : Follower) (ts : Trackers) (t p limit depth : ℕ) → ShowsTrackers old.trackers old.unders ts → get ts t ≡ None → depth ≡ depth_of ts p
    → mid ≡ record old { trackers = insert old.trackers t (record { parent = Some p; depth = depth + 1; limit = limit; reservation = 0 }) }
    → new ≡ record mid { unders = insert mid.unders p (record (under_at mid.unders p) { count = (under_at mid.unders p).count + 1 }) }
    → ShowsTrackers new.trackers new.unders (with_child t p limit ts)
child_came old mid new ts t p limit depth shows fresh deep first second =
    subst (λ (v : Follower). ShowsTrackers v.trackers v.unders (with_child t p limit ts)) (sym second)
    (subst (λ (v : Follower). ShowsTrackers v.trackers (insert v.unders p (record (under_at v.unders p) { count = (under_at v.unders p).count + 1 })) (with_child t p limit ts)) (sym first)
    (child_shows old.trackers old.unders ts shows t p limit depth fresh deep))

-- a session comes
pub seat_shows : (m query quota : ℕ) (sessions : FinMap nat_cmp SessionRow) (asked : FinMap nat_cmp Asked) (live : Sessions) → ShowsSessions sessions asked live
    → ShowsSessions (insert sessions m (record { query = query; quota = quota })) (remove asked m) (insert live m (record { query = query; quota = quota; failures = empty }))
seat_shows m query quota sessions asked live shows = record {
  rows = mirror_put session_row live sessions shows.rows m new (record { query = query; quota = quota }) refl;
  failures = λ k x since is at. elim (same_or_other k m) [
    | inl here ↦ let none : None ≡ Some since = sym (removed_same asked m) ∙ ap (get (remove asked m)) (sym here) ∙ at in cc
    | inr other ↦ shows.failures k x since (sym (get_other live m new k other) ∙ is) (sym (removed_other asked m k other) ∙ at)
  ];
}
  where
    new : Session
    new = record { query = query; quota = quota; failures = empty }

abbrev pub seating : Follower → ℕ → ℕ → ℕ → Follower
seating v m query quota = record v { sessions = insert v.sessions m (record { query = query; quota = quota }); asked = remove v.asked m }

pub open_shows : (old mid : Follower) (s : State) (m t limit quota : ℕ) → Shows old s → mid ≡ record old { trackers = mid.trackers; unders = mid.unders }
    → ShowsTrackers mid.trackers mid.unders (with_child t 0 limit s.trackers) → Shows (seating mid m t quota) (open_session m t limit quota s)
open_shows old mid s m t limit quota shows rest trackers = subst (λ (v : Follower). Shows (seating v m t quota) (open_session m t limit quota s)) (sym rest) (record {
  block_len = shows.block_len;
  trackers = trackers;
  sessions = seat_shows m t quota old.sessions old.asked s.sessions shows.sessions;
  things = record { pages = shows.things.pages; buffers = shows.things.buffers; loads = shows.things.loads; lent = shows.things.lent };
  free = shows.free;
  queues = record {
    dirty_names = shows.queues.dirty_names;
    clean_names = shows.queues.clean_names;
    dirty_stamped = shows.queues.dirty_stamped;
    clean_stamped = shows.queues.clean_stamped;
    earlier = shows.queues.earlier;
    own = shows.queues.own;
  };
  next_name = shows.next_name;
  entries = shows.entries;
  few = shows.few;
})

pub open_tells : (v new : Follower) (h : List Entry) (m t p limit quota : ℕ) → TellsBefore v h → new.asked ≡ remove v.asked m → new.entries ≡ v.entries + 1
    → TellsBefore new (h ++ record { maker = m; event = AddTracker t p limit (Some quota) } ∷ [])
open_tells v new h m t p limit quota tells is more = record {
  entries =
      let was : v.entries ≡ length h = tells.entries in
      let longer : length (h ++ e ∷ []) ≡ length h + 1 = length-append h (e ∷ []) in
      omega (arith, was, longer, more);
  asked = λ k. elim (same_or_other k m) [
    | inl here ↦
        let none : is_some (get new.asked k) ≡ false = ap is_some (ap (λ (a : FinMap nat_cmp Asked). get a k) is ∙ ap (get (remove v.asked m)) here ∙ removed_same v.asked m) in
        let not : asks (h ++ e ∷ []) k ≡ false = ap (asks (h ++ e ∷ [])) here ∙ asks_anew h e refl refl in
        (λ some. let both : false ≡ true = sym none ∙ some in cc, λ has. absurd (subst T not has))
    | inr other ↦
        let same : get new.asked k ≡ get v.asked k = ap (λ (a : FinMap nat_cmp Asked). get a k) is ∙ removed_other v.asked m k other in
        let kept : asks (h ++ e ∷ []) k ≡ asks h k = asks_other h e k (λ at. other (sym at)) in
        (λ some. subst T (sym kept) ((tells.asked k).0 (ap is_some (sym same) ∙ some)), λ has. ap is_some same ∙ (tells.asked k).1 (subst T kept has))
  ];
  reads = λ k since at q. elim (same_or_other k m) [
    | inl here ↦
        let none : None ≡ Some since = sym (removed_same v.asked m) ∙ ap (get (remove v.asked m)) (sym here) ∙ sym (ap (λ (a : FinMap nat_cmp Asked). get a k) is) ∙ at in cc
    | inr other ↦
        let old : get v.asked k ≡ Some since = sym (removed_other v.asked m k other) ∙ sym (ap (λ (a : FinMap nat_cmp Asked). get a k) is) ∙ at in
        let by_other : is_by k e ≡ false = ne_eqb m k (λ same. other (sym same)) in
        tells.reads k since old q ∙ sym (reads_same h e k q (ap (λ (b : Bool). b && is_ask e.event) by_other) (ap (λ (b : Bool). b && fails_read q e.event) by_other))
  ];
  earlier = λ k since at q i read. elim (same_or_other k m) [
    | inl here ↦
        let none : None ≡ Some since = sym (removed_same v.asked m) ∙ ap (get (remove v.asked m)) (sym here) ∙ sym (ap (λ (a : FinMap nat_cmp Asked). get a k) is) ∙ at in cc
    | inr other ↦
        let old : get v.asked k ≡ Some since = sym (removed_other v.asked m k other) ∙ sym (ap (λ (a : FinMap nat_cmp Asked). get a k) is) ∙ at in
        let before : i < v.entries = tells.earlier k since old q i read in
        omega (arith, before, more)
  ];
}
  where
    e : Entry
    e = record { maker = m; event = AddTracker t p limit (Some quota) }

-- the session has come, with its query tracker
module _ {E : Type 0} (old mid seated new : Follower) (m t p limit quota : ℕ) (test : Bool) (tests : (s : State) → Shows old s → IsTrue test ↔ MayOpenSession s m t p) (session : m < 240) where
  steps : (r : Result Bool E) → mid ≡ record old { trackers = mid.trackers; unders = mid.unders }
      → ((ts : Trackers) → ShowsTrackers old.trackers old.unders ts → get ts t ≡ None → ShowsTrackers mid.trackers mid.unders (with_child t 0 limit ts))
      → seated ≡ seating mid m t quota → OnOk r (new ≡ record seated { entries = seated.entries + 1 }) → OnOk r (seated.entries + 1 < 2 ^ 64)
      → OnOk r ((o : Opening) (h : List Entry) → StandsFor old o h → IsSound (state_after o h) → MayOpenSession (state_after o h) m t p
      → Shows new (after (state_after o h) (record { maker = m; event = AddTracker t p limit (Some quota) })) × TellsBefore new (h ++ record { maker = m; event = AddTracker t p limit (Some quota) } ∷ []))
  steps (Err x) rest came sits is few = tt
  steps (Ok x) rest came sits is few = λ o h stands sound may.
      let s : State = state_after o h in
      let shown_now : Shows seated (open_session m t limit quota s) =
      subst (λ (v : Follower). Shows v (open_session m t limit quota s)) (sym sits) (open_shows old mid s m t limit quota stands.shows rest (came s.trackers stands.shows.trackers may.fresh)) in
      let asked : new.asked ≡ remove old.asked m = ap (λ (v : Follower). v.asked) is ∙ ap (λ (v : Follower). v.asked) sits ∙ ap (λ (v : Follower). remove v.asked m) rest in
      let entries : new.entries ≡ old.entries + 1 = ap (λ (v : Follower). v.entries) is ∙ ap (λ (v : Follower). v.entries + 1) sits ∙ ap (λ (v : Follower). v.entries + 1) rest in (
        subst (λ (v : Follower). Shows v (after s (record { maker = m; event = AddTracker t p limit (Some quota) }))) (sym is) (counted seated (open_session m t limit quota s) shown_now few),
        open_tells old new h m t p limit quota stands.tells asked entries,
      )

  pub open_answers : (r : Result Bool E) → test ≡ true → IfOk r (λ may. may ≡ true) → mid ≡ record old { trackers = mid.trackers; unders = mid.unders }
      → ((ts : Trackers) → ShowsTrackers old.trackers old.unders ts → get ts t ≡ None → ShowsTrackers mid.trackers mid.unders (with_child t 0 limit ts))
      → seated ≡ seating mid m t quota → OnOk r (new ≡ record seated { entries = seated.entries + 1 }) → OnOk r (seated.entries + 1 < 2 ^ 64)
      → Answers old new (made m (bare.AddTracker t p limit (Some quota))) r
  open_answers r holds may rest came sits counts few =
      plain_accepted old new m (AddTracker t p limit (Some quota)) (λ e is. told_as e (bare.AddTracker t p limit (Some quota)) is) test (λ o h stands sound. tests (state_after o h) stands.shows) holds session r may (steps r rest came sits counts few)

-- a client may come exactly where its parent is the session's query
pub add_exactly : (v : Follower) (s : State) (m t p : ℕ) (b : Bool) → Shows v s → get v.trackers t ≡ None → IsTrue b ↔ IsQueryOf s m p → IsTrue b ↔ MayAddClient s m t p
add_exactly v s m t p b shows none tests = (
  λ is. let q : IsQueryOf s m p = tests.0 is in record { fresh = none_of tracker_row s.trackers v.trackers shows.trackers.rows t none; session = q.session; opened = q.lives; query = sym q.is },
  λ may. let a : MayAddClient s m t p = may in tests.1 (record { session = a.session; lives = a.opened; is = sym a.query }),
)

abbrev pub queueing : Follower → ℕ → Follower
queueing v t = record v { dirty = insert v.dirty t [] }

pub client_shows : (old mid : Follower) (s : State) (t p limit : ℕ) → Shows old s → mid ≡ record old { trackers = mid.trackers; unders = mid.unders }
    → ShowsTrackers mid.trackers mid.unders (with_child t p limit s.trackers) → Shows (queueing mid t) (add_client t p limit s)
client_shows old mid s t p limit shows rest trackers = subst (λ (v : Follower). Shows (queueing v t) (add_client t p limit s)) (sym rest) (record {
  block_len = shows.block_len;
  trackers = trackers;
  sessions = shows.sessions;
  things = record { pages = shows.things.pages; buffers = shows.things.buffers; loads = shows.things.loads; lent = shows.things.lent };
  free = shows.free;
  queues = record {
    dirty_names = λ c. elim (same_or_other c t) [
      | inl here ↦
          ap names_in (ap (queue_at (insert old.dirty t [])) here ∙ ap (λ (o : Option Queue). unwrap_or o []) (get_same old.dirty t []))
          ∙ sym (ap (λ (k : ℕ). unwrap_or (get (insert s.dirty t []) k) []) here ∙ ap (λ (o : Option (List ℕ)). unwrap_or o []) (get_same s.dirty t []))
      | inr other ↦
          ap (λ (o : Option Queue). names_in (unwrap_or o [])) (get_other old.dirty t [] c other) ∙ shows.queues.dirty_names c
          ∙ sym (ap (λ (o : Option (List ℕ)). unwrap_or o []) (get_other s.dirty t [] c other))
    ];
    clean_names = shows.queues.clean_names;
    dirty_stamped = λ c. elim (same_or_other c t) [
      | inl here ↦ subst (AreStamped old.stamps old.entries) (sym (ap (queue_at (insert old.dirty t [])) here ∙ ap (λ (o : Option Queue). unwrap_or o []) (get_same old.dirty t []))) tt
      | inr other ↦ subst (AreStamped old.stamps old.entries) (sym (ap (λ (o : Option Queue). unwrap_or o []) (get_other old.dirty t [] c other))) (shows.queues.dirty_stamped c)
    ];
    clean_stamped = shows.queues.clean_stamped;
    earlier = shows.queues.earlier;
    own = shows.queues.own;
  };
  next_name = shows.next_name;
  entries = shows.entries;
  few = shows.few;
})
