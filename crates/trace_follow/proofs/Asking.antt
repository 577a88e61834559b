-- A session calls, or its failures change.
use Rattle.std.proofs.Common.{◌≡◌, ◌≢◌, ℕ, ◌+◌, ◌<◌, ◌^◌, Bool, true, false, ◌&&◌, T, Some, None, IsSome, is_some, Result, Ok, Err, IfOk, OnOk, List, [], ◌∷◌, ◌++◌, length, refl, ap, sym, ◌∙◌, subst, arith, eq-eqb, ne_eqb, inl, inr}
use Rattle.std.specs.Ordering.{nat_cmp}
use Rattle.std.specs.FinMap.{FinMap, get, insert, empty, get-empty}
use Rattle.std.proofs.lemmas.List.{length-append}
use Rattle.reservation_tree.proofs.Maps.{get_same, get_other, same_or_other}
use Rattle.pool_model.specs.declared.event.Event.{Event}
use Rattle.pool_model.specs.declared.event.Event.TheVariants.{Ask}
use Rattle.pool_model.specs.declared.bare.Bare.TheVariants as bare
use Rattle.pool_model.specs.declared.entry.Entry.{Entry}
use Rattle.pool_model.specs.State.{Session, Sessions, Opening, State}
use Rattle.pool_model.specs.LookingBack.{is_ask, is_by}
use Rattle.pool_model.specs.Failures.{fails_read}
use Rattle.pool_model.specs.MayFollow.{Allows}
use Rattle.pool_model.specs.Effects.{after}
use Rattle.pool_model.specs.Parts.{with_failures, forget_failures}
use Rattle.pool_model.specs.Legal.{state_after}
use Rattle.pool_model.specs.Traces.{bare_of}
use Rattle.pool_model.specs.Sound.{IsSound}
use Rattle.pool_model.proofs.Seats.{some_is}
use Rattle.trace_follow.specs.declared.rows.Asked.{Asked}
use Rattle.trace_follow.specs.declared.rows.SessionRow.{SessionRow}
use Rattle.trace_follow.specs.declared.follower.Follower.{Follower}
use Rattle.trace_follow.specs.Tables.{Mirrors}
use Rattle.trace_follow.specs.Rows.{session_row}
use Rattle.trace_follow.specs.Showing.{ShowsSessions, Shows}
use Rattle.trace_follow.specs.Following.{TellsBefore, StandsFor}
use Rattle.trace_follow.specs.Judging.{made, Answers}
use Rattle.trace_follow.proofs.Told.{told_as}
use Rattle.trace_follow.proofs.Before.{asks, asks_now, asks_other, reads_same, reads_none}
use Rattle.trace_follow.proofs.Mirrored.{mirror_hidden}
use Rattle.trace_follow.proofs.Standing.{accepted}
use Rattle.trace_follow.proofs.Entered.{counted}

-- a session that had these failures before
pub record Had (change : FinMap nat_cmp ℕ → FinMap nat_cmp ℕ) (live : Sessions) (m : ℕ) (x : Session) : Type 0 where
  pub session : Session
  pub lives : get live m ≡ Some session
  pub failures : x.failures ≡ change session.failures

module _ (change : FinMap nat_cmp ℕ → FinMap nat_cmp ℕ) (m : ℕ) (live : Sessions) where
  pub failed_rows : (rows : FinMap nat_cmp SessionRow) → Mirrors session_row live rows → Mirrors session_row (with_failures change m live) rows
  failed_rows rows mirrors = elim (get live m) as (λ o. get live m ≡ o → Mirrors session_row (elim o [ None ↦ live | Some x ↦ insert live m (record x { failures = change x.failures }) ]) rows) [
    | None ↦ λ is. mirrors
    | Some x ↦ λ is. mirror_hidden session_row live rows mirrors m x (record x { failures = change x.failures }) is refl
  ] refl

  pub failed_there : (q : ℕ) → q ≢ m → get (with_failures change m live) q ≡ get live q
  failed_there q apart = elim (get live m) as (λ o. get (elim o [ None ↦ live | Some x ↦ insert live m (record x { failures = change x.failures }) ]) q ≡ get live q) [
    | None ↦ refl
    | Some x ↦ get_other live m (record x { failures = change x.failures }) q apart
  ]

  pub failed_here : (y : Session) → get (with_failures change m live) m ≡ Some y → Had change live m y
  failed_here y there = elim (get live m) as (λ o. get live m ≡ o → get (elim o [ None ↦ live | Some x ↦ insert live m (record x { failures = change x.failures }) ]) m ≡ Some y → Had change live m y) [
    | None ↦ λ is at. let no : None ≡ Some y = sym is ∙ at in cc
    | Some x ↦ λ is at. record {
      session = x;
      lives = is;
      failures = sym (ap (λ (z : Session). z.failures) (some_is (record x { failures = change x.failures }) y (sym (get_same live m (record x { failures = change x.failures })) ∙ at)));
    }
  ] refl there

abbrev pub calls_now : Asked
calls_now = record { failures = empty; reads = empty }

pub asked_shows : (m : ℕ) (sessions : FinMap nat_cmp SessionRow) (asked : FinMap nat_cmp Asked) (live : Sessions) → ShowsSessions sessions asked live
    → ShowsSessions sessions (insert asked m calls_now) (with_failures (λ failures. empty) m live)
asked_shows m sessions asked live shows = record {
  rows = failed_rows (λ failures. empty) m live sessions shows.rows;
  failures = λ k x since is at. elim (same_or_other k m) [
    | inl here ↦
        let mine : calls_now ≡ since = some_is calls_now since (sym (get_same asked m calls_now) ∙ ap (get (insert asked m calls_now)) (sym here) ∙ at) in
        let had : Had (λ failures. empty) live m x = failed_here (λ failures. empty) m live x (ap (get (with_failures (λ failures. empty) m live)) (sym here) ∙ is) in
        sym (ap (λ (a : Asked). a.failures) mine) ∙ sym had.failures
    | inr other ↦ shows.failures k x since (sym (failed_there (λ failures. empty) m live k other) ∙ is) (sym (get_other asked m calls_now k other) ∙ at)
  ];
}

abbrev pub asking : Follower → ℕ → Follower
asking v m = record v { asked = insert v.asked m calls_now }

pub ask_shows : (v : Follower) (s : State) (m : ℕ) → Shows v s → Shows (asking v m) (forget_failures m s)
ask_shows v s m shows = record {
  block_len = shows.block_len;
  trackers = shows.trackers;
  sessions = asked_shows m v.sessions v.asked s.sessions shows.sessions;
  things = record { pages = shows.things.pages; buffers = shows.things.buffers; loads = shows.things.loads; lent = shows.things.lent };
  free = shows.free;
  queues = record {
    dirty_names = shows.queues.dirty_names;
    clean_names = shows.queues.clean_names;
    dirty_stamped = shows.queues.dirty_stamped;
    clean_stamped = shows.queues.clean_stamped;
    earlier = shows.queues.earlier;
    own = shows.queues.own;
  };
  next_name = shows.next_name;
  entries = shows.entries;
  few = shows.few;
}

pub ask_tells : (v new : Follower) (h : List Entry) (m : ℕ) → TellsBefore v h → new.asked ≡ insert v.asked m calls_now → new.entries ≡ v.entries + 1
    → TellsBefore new (h ++ record { maker = m; event = Ask } ∷ [])
ask_tells v new h m tells is more = record {
  entries =
      let was : v.entries ≡ length h = tells.entries in
      let longer : length (h ++ e ∷ []) ≡ length h + 1 = length-append h (e ∷ []) in
      omega (arith, was, longer, more);
  asked = λ k. elim (same_or_other k m) [
    | inl here ↦
        let there : IsSome (get new.asked k) = ap is_some (ap (λ (a : FinMap nat_cmp Asked). get a k) is ∙ ap (get (insert v.asked m calls_now)) here ∙ get_same v.asked m calls_now) in
        let has : asks (h ++ e ∷ []) k ≡ true = ap (asks (h ++ e ∷ [])) here ∙ asks_now h e refl refl in
        (λ _. subst T (sym has) tt, λ _. there)
    | inr other ↦
        let same : get new.asked k ≡ get v.asked k = ap (λ (a : FinMap nat_cmp Asked). get a k) is ∙ get_other v.asked m calls_now k other in
        let kept : asks (h ++ e ∷ []) k ≡ asks h k = asks_other h e k (λ at. other (sym at)) in
        (λ some. subst T (sym kept) ((tells.asked k).0 (ap is_some (sym same) ∙ some)), λ has. ap is_some same ∙ (tells.asked k).1 (subst T kept has))
  ];
  reads = λ k since at p. elim (same_or_other k m) [
    | inl here ↦
        let mine : calls_now ≡ since = some_is calls_now since (sym (get_same v.asked m calls_now) ∙ ap (get (insert v.asked m calls_now)) (sym here) ∙ sym (ap (λ (a : FinMap nat_cmp Asked). get a k) is) ∙ at) in
        let mine_by : is_by k e ≡ true = eq-eqb m k (sym here) in
        sym (ap (λ (a : Asked). get a.reads p) mine) ∙ get-empty nat_cmp p
        ∙ sym (reads_none h e k p (ap (λ (b : Bool). b && is_ask e.event) mine_by) (ap (λ (b : Bool). b && fails_read p e.event) mine_by))
    | inr other ↦
        let old : get v.asked k ≡ Some since = sym (get_other v.asked m calls_now k other) ∙ sym (ap (λ (a : FinMap nat_cmp Asked). get a k) is) ∙ at in
        let by_other : is_by k e ≡ false = ne_eqb m k (λ same. other (sym same)) in
        tells.reads k since old p ∙ sym (reads_same h e k p (ap (λ (b : Bool). b && is_ask e.event) by_other) (ap (λ (b : Bool). b && fails_read p e.event) by_other))
  ];
  earlier = λ k since at p i read. elim (same_or_other k m) [
    | inl here ↦
        let mine : calls_now ≡ since = some_is calls_now since (sym (get_same v.asked m calls_now) ∙ ap (get (insert v.asked m calls_now)) (sym here) ∙ sym (ap (λ (a : FinMap nat_cmp Asked). get a k) is) ∙ at) in
        let none : None ≡ Some i = sym (get-empty nat_cmp p) ∙ ap (λ (a : Asked). get a.reads p) mine ∙ read in
        cc
    | inr other ↦
        let old : get v.asked k ≡ Some since = sym (get_other v.asked m calls_now k other) ∙ sym (ap (λ (a : FinMap nat_cmp Asked). get a k) is) ∙ at in
        let before : i < v.entries = tells.earlier k since old p i read in
        omega (arith, before, more)
  ];
}
  where
    e : Entry
    e = record { maker = m; event = Ask }

-- a call may always come, and has followed
pub ask_answers : {E : Type 0} (old new : Follower) (m : ℕ) (r : Result Bool E) → m < 240 → IfOk r (λ may. may ≡ true) → OnOk r (new ≡ record (asking old m) { entries = old.entries + 1 }) → OnOk r (old.entries + 1 < 2 ^ 64)
    → Answers old new (made m bare.Ask) r
ask_answers {E} old new m r session may is few = accepted old new m bare.Ask r may
    (λ o h stands sound. record { event = Ask; same = refl; makes = session; allows = tt }) (steps r is few)
  where
    steps : (q : Result Bool E) → OnOk q (new ≡ record (asking old m) { entries = old.entries + 1 }) → OnOk q (old.entries + 1 < 2 ^ 64)
        → OnOk q ((o : Opening) (h : List Entry) (e : Event) → StandsFor old o h → IsSound (state_after o h) → bare_of e ≡ bare.Ask → Allows h (state_after o h) m e
        → Shows new (after (state_after o h) (record { maker = m; event = e })) × TellsBefore new (h ++ record { maker = m; event = e } ∷ []))
    steps (Err x) is few = tt
    steps (Ok x) is few = λ o h e stands sound same allows.
        let call : e ≡ Ask = told_as e bare.Ask same in
        let s : State = state_after o h in
        subst (λ (d : Event). Shows new (after (state_after o h) (record { maker = m; event = d })) × TellsBefore new (h ++ record { maker = m; event = d } ∷ [])) (sym call) (
          subst (λ (v : Follower). Shows v (after (state_after o h) (record { maker = m; event = Ask }))) (sym is) (counted (asking old m) (forget_failures m s) (ask_shows old s m stands.shows) few),
          ask_tells old new h m stands.tells (ap (λ (v : Follower). v.asked) is) (ap (λ (v : Follower). v.entries) is),
        )

pub ask_entered : {E : Type 0} (old mid new : Follower) (m : ℕ) (r : Result Bool E) → m < 240 → IfOk r (λ may. may ≡ true) → mid ≡ asking old m → OnOk r (new ≡ record mid { entries = mid.entries + 1 }) → OnOk r (mid.entries + 1 < 2 ^ 64)
    → Answers old new (made m bare.Ask) r
ask_entered old mid new m r session may called is few =
    ask_answers old new m r session may (subst (λ (v : Follower). OnOk r (new ≡ record v { entries = v.entries + 1 })) called is) (subst (λ (v : Follower). OnOk r (v.entries + 1 < 2 ^ 64)) called few)
