-- What a follower shows and tells after a failure was noted.
use Rattle.std.proofs.Common.{◌≡◌, ◌≢◌, ℕ, ◌+◌, ◌<◌, ◌^◌, ◌==◌, ◌&&◌, Bool, true, false, T, Option, Some, None, is_some, Result, Ok, Err, IfOk, OnOk, option_map, List, [], ◌∷◌, ◌++◌, length, refl, ap, sym, ◌∙◌, subst, arith, eq-eqb, ne_eqb, inl, inr}
use Rattle.std.specs.Ordering.{nat_cmp}
use Rattle.std.specs.FinMap.{FinMap, get, insert, remove}
use Rattle.std.proofs.lemmas.List.{length-append}
use Rattle.reservation_tree.proofs.Maps.{get_same, get_other, removed_same, removed_other, same_or_other}
use Rattle.pool_model.specs.declared.entry.Entry.{Entry}
use Rattle.pool_model.specs.State.{Opening, Page, Session, Sessions, State, page_at}
use Rattle.pool_model.specs.LookingBack.{opens, is_ask, is_by}
use Rattle.pool_model.specs.Failures.{fails_read, last_failed_read}
use Rattle.reservation_tree.specs.declared.mark.Mark.{Mark}
use Rattle.pool_model.specs.Owning.{IsPageOf}
use Rattle.pool_model.specs.ScratchRows.{MayEndRead, MayFindStale}
use Rattle.pool_model.specs.Parts.{with_failures, keep_first, note_failure}
use Rattle.pool_model.proofs.Seats.{some_is}
use Rattle.pool_model.proofs.Pages.{page_is}
use Rattle.trace_follow.specs.declared.rows.Asked.{Asked}
use Rattle.trace_follow.specs.declared.rows.SessionRow.{SessionRow}
use Rattle.trace_follow.specs.declared.rows.PageRow.{PageRow}
use Rattle.trace_follow.specs.declared.follower.Follower.{Follower}
use Rattle.trace_follow.specs.Rows.{page_row}
use Rattle.trace_follow.specs.Showing.{ShowsSessions, Shows}
use Rattle.trace_follow.specs.Following.{TellsBefore, StandsFor}
use Rattle.pool_model.specs.State as model
use Rattle.pool_model.specs.Sums.{FitsMemory}
use Rattle.pool_model.specs.Effects.{after, count_entry}
use Rattle.pool_model.specs.Parts.{put_in}
use Rattle.trace_follow.specs.declared.rows.Place.TheVariants as spot
use Rattle.trace_follow.specs.Moving.{Moves}
use Rattle.trace_follow.proofs.Places.{placed}
use Rattle.trace_follow.proofs.Entered.{counted}
use Rattle.pool_model.specs.declared.event.Event.{Event}
use Rattle.pool_model.specs.declared.event.Event.TheVariants.{ReadFailed, ReadStale}
use Rattle.pool_model.specs.declared.bare.Bare.TheVariants as bare
use Rattle.pool_model.specs.MayFollow.{Allows}
use Rattle.pool_model.specs.Legal.{state_after}
use Rattle.pool_model.specs.Traces.{bare_of}
use Rattle.pool_model.specs.Sound.{IsSound}
use Rattle.trace_follow.specs.Judging.{made, Answers}
use Rattle.trace_follow.proofs.Told.{told_as}
use Rattle.trace_follow.specs.Noting.{ChangesAsked, failing, misreading, IsStale}
use Rattle.trace_follow.proofs.Before.{asks, asks_same, reads_same, reads_now}
use Rattle.trace_follow.proofs.Mirrored.{HasRow, row_of}
use Rattle.trace_follow.proofs.Asking.{Had, failed_rows, failed_here, failed_there}
use Rattle.trace_follow.proofs.Standing.{SameReads, same_some, and_false, Kept, kept, accepted, refused}

pub changes_none : (change : Asked → Asked) (old new : FinMap nat_cmp Asked) (m : ℕ) → None ≡ get old m → new ≡ remove old m → ChangesAsked change old new m
changes_none change old new m none is = record {
  here = ap (λ (a : FinMap nat_cmp Asked). get a m) is ∙ removed_same old m ∙ ap (option_map change) none;
  there = λ k other. ap (λ (a : FinMap nat_cmp Asked). get a k) is ∙ removed_other old m k other;
}

pub changes_some : (change : Asked → Asked) (old mid new : FinMap nat_cmp Asked) (m : ℕ) (since kept : Asked) → Some since ≡ get old m → mid ≡ remove old m → kept ≡ change since → new ≡ insert mid m kept → ChangesAsked change old new m
changes_some change old mid new m since kept some taken less put = record {
  here = ap (λ (a : FinMap nat_cmp Asked). get a m) put ∙ get_same mid m kept ∙ ap (λ (a : Asked). Some a) less ∙ ap (option_map change) some;
  there = λ k other. ap (λ (a : FinMap nat_cmp Asked). get a k) put ∙ get_other mid m kept k other ∙ ap (λ (a : FinMap nat_cmp Asked). get a k) taken ∙ removed_other old m k other;
}

-- what a session kept before
pub record Changed (change : Asked → Asked) (o : Option Asked) (since : Asked) : Type 0 where
  pub before : Asked
  pub there : o ≡ Some before
  pub is : since ≡ change before

pub changed_from : (change : Asked → Asked) (o : Option Asked) (since : Asked) → Some since ≡ option_map change o → Changed change o since
changed_from change None since is = cc
changed_from change (Some a) since is = record { before = a; there = refl; is = some_is since (change a) is }

same_in : (change : Asked → Asked) → ((a : Asked) → (change a).reads ≡ a.reads) → (o : Option Asked) → option_map (λ (x : Asked). x.reads) (option_map change o) ≡ option_map (λ (x : Asked). x.reads) o
same_in change same None = refl
same_in change same (Some a) = ap (λ (r : FinMap nat_cmp ℕ). Some r) (same a)

pub changes_kept : (change : Asked → Asked) → ((a : Asked) → (change a).reads ≡ a.reads) → (old new : FinMap nat_cmp Asked) (m : ℕ) → ChangesAsked change old new m → SameReads old new
changes_kept change same old new m changes k = elim (same_or_other k m) [
  | inl here ↦
      ap (λ (q : ℕ). option_map (λ (x : Asked). x.reads) (get new q)) here ∙ ap (option_map (λ (x : Asked). x.reads)) changes.here ∙ same_in change same (get old m)
      ∙ ap (λ (q : ℕ). option_map (λ (x : Asked). x.reads) (get old q)) (sym here)
  | inr other ↦ ap (option_map (λ (x : Asked). x.reads)) (changes.there k other)
]

module _ (m : ℕ) (sessions : FinMap nat_cmp SessionRow) (asked new : FinMap nat_cmp Asked) (live : Sessions) (shows : ShowsSessions sessions asked live) where
  pub failure_shown : (c n : ℕ) → ChangesAsked (failing c n) asked new m → ShowsSessions sessions new (with_failures (keep_first c n) m live)
  failure_shown c n changes = record {
    rows = failed_rows (keep_first c n) m live sessions shows.rows;
    failures = λ k y since there at. elim (same_or_other k m) [
      | inl here ↦
          let had : Had (keep_first c n) live m y = failed_here (keep_first c n) m live y (ap (get (with_failures (keep_first c n) m live)) (sym here) ∙ there) in
          let was : Changed (failing c n) (get asked m) since = changed_from (failing c n) (get asked m) since (sym at ∙ ap (get new) here ∙ changes.here) in
          ap (λ (a : Asked). a.failures) was.is ∙ ap (keep_first c n) (shows.failures m had.session was.before had.lives was.there) ∙ sym had.failures
      | inr other ↦ shows.failures k y since (sym (failed_there (keep_first c n) m live k other) ∙ there) (sym (changes.there k other) ∙ at)
    ];
  }

  pub read_shown : (p n : ℕ) → ChangesAsked (misreading p n) asked new m → ShowsSessions sessions new live
  read_shown p n changes = record {
    rows = shows.rows;
    failures = λ k y since there at. elim (same_or_other k m) [
      | inl here ↦
          let was : Changed (misreading p n) (get asked m) since = changed_from (misreading p n) (get asked m) since (sym at ∙ ap (get new) here ∙ changes.here) in
          ap (λ (a : Asked). a.failures) was.is ∙ shows.failures m y was.before (ap (get live) (sym here) ∙ there) was.there
      | inr other ↦ shows.failures k y since there (sym (changes.there k other) ∙ at)
    ];
  }

-- what sessions keep changed alone
pub asked_changed : (old new : Follower) (s : State) (live : Sessions) → Shows old s → new ≡ record old { asked = new.asked } → ShowsSessions old.sessions new.asked live → Shows new (record s { sessions = live })
asked_changed old new s live shows rest seats = subst (λ (v : Follower). Shows v (record s { sessions = live })) (sym rest) (record {
  block_len = shows.block_len;
  trackers = shows.trackers;
  sessions = seats;
  things = record { pages = shows.things.pages; buffers = shows.things.buffers; loads = shows.things.loads; lent = shows.things.lent };
  free = shows.free;
  queues = record {
    dirty_names = shows.queues.dirty_names;
    clean_names = shows.queues.clean_names;
    dirty_stamped = shows.queues.dirty_stamped;
    clean_stamped = shows.queues.clean_stamped;
    earlier = shows.queues.earlier;
    own = shows.queues.own;
  };
  next_name = shows.next_name;
  entries = shows.entries;
  few = shows.few;
})

-- a failure on this page was noted
pub failure_noted : (old new : Follower) (s : State) (p : ℕ) (row : PageRow) → Shows old s → get old.pages p ≡ Some row → new ≡ record old { asked = new.asked } → ChangesAsked (failing row.client old.entries) old.asked new.asked row.session
    → Shows new (note_failure p s)
failure_noted old new s p row shows live rest changes =
    let x : HasRow page_row (get s.pages p) row = row_of page_row s.pages old.pages shows.things.pages p row live in
    let at : page_at s p ≡ x.of = page_is s p x.of x.lives in
    let client : row.client ≡ (page_at s p).client = ap (λ (r : PageRow). r.client) x.is ∙ sym (ap (λ (y : Page). y.client) at) in
    let session : row.session ≡ (page_at s p).session = ap (λ (r : PageRow). r.session) x.is ∙ sym (ap (λ (y : Page). y.session) at) in
    let named : ChangesAsked (failing (page_at s p).client s.entries) old.asked new.asked (page_at s p).session =
    subst (λ (c : ℕ). ChangesAsked (failing c s.entries) old.asked new.asked (page_at s p).session) client
    (subst (λ (n : ℕ). ChangesAsked (failing row.client n) old.asked new.asked (page_at s p).session) shows.entries
    (subst (λ (m : ℕ). ChangesAsked (failing row.client old.entries) old.asked new.asked m) session changes)) in
    asked_changed old new s _ shows rest (failure_shown (page_at s p).session old.sessions old.asked new.asked s.sessions shows.sessions (page_at s p).client s.entries named)

pub read_noted : (old new : Follower) (s : State) (m p n : ℕ) → Shows old s → new ≡ record old { asked = new.asked } → ChangesAsked (misreading p n) old.asked new.asked m → Shows new s
read_noted old new s m p n shows rest changes = asked_changed old new s s.sessions shows rest (read_shown m old.sessions old.asked new.asked s.sessions shows.sessions p n changes)

some_in : (change : Asked → Asked) (o : Option Asked) → is_some (option_map change o) ≡ is_some o
some_in change None = refl
some_in change (Some a) = refl

both_true : (b c : Bool) → b ≡ true → c ≡ true → (b && c) ≡ true
both_true b c first second = ap (λ (t : Bool). t && c) first ∙ second

-- the last failed read of a page is told
module _ (old mid new : Follower) (h : List Entry) (e : Entry) (p : ℕ) (tells : TellsBefore old h) (no_start : opens e.event ≡ false) (no_call : is_ask e.event ≡ false) (fails : (q : ℕ) → fails_read q e.event ≡ (p == q))
    (same : SameReads old.asked mid.asked) (changes : ChangesAsked (misreading p old.entries) mid.asked new.asked e.maker) (counted : new.entries ≡ old.entries + 1) where
  was : old.entries ≡ length h
  was = tells.entries

  some_kept : (k : ℕ) → is_some (get new.asked k) ≡ is_some (get mid.asked k)
  some_kept k = elim (same_or_other k e.maker) [
    | inl here ↦ ap (λ (q : ℕ). is_some (get new.asked q)) here ∙ ap is_some changes.here ∙ some_in (misreading p old.entries) (get mid.asked e.maker) ∙ ap (λ (q : ℕ). is_some (get mid.asked q)) (sym here)
    | inr other ↦ ap is_some (changes.there k other)
  ]

  now : (k : ℕ) (since : Asked) → k ≡ e.maker → get new.asked k ≡ Some since → Changed (misreading p old.entries) (get mid.asked e.maker) since
  now k since here at = changed_from (misreading p old.entries) (get mid.asked e.maker) since (sym at ∙ ap (get new.asked) here ∙ changes.here)

  behind : (since : Asked) → get mid.asked e.maker ≡ Some since → Kept (get old.asked e.maker) since
  behind since there = kept (get old.asked e.maker) since (sym (ap (option_map (λ (x : Asked). x.reads)) there) ∙ same e.maker)

  beside : (k : ℕ) (since : Asked) → k ≢ e.maker → get new.asked k ≡ Some since → Kept (get old.asked k) since
  beside k since other at = kept (get old.asked k) since (sym (ap (option_map (λ (x : Asked). x.reads)) at) ∙ ap (option_map (λ (x : Asked). x.reads)) (changes.there k other) ∙ same k)

  pub read_tells : TellsBefore new (h ++ e ∷ [])
  read_tells = record {
    entries =
        let more : length (h ++ e ∷ []) ≡ length h + 1 = length-append h (e ∷ []) in
        let at_first : old.entries ≡ length h = was in
        omega (arith, at_first, more, counted);
    asked = λ k.
        let goes_on : asks (h ++ e ∷ []) k ≡ asks h k = asks_same h e no_start no_call k in
        let some_still : is_some (get new.asked k) ≡ is_some (get old.asked k) = some_kept k ∙ same_some (get mid.asked k) (get old.asked k) (same k) in
        (λ some. subst T (sym goes_on) ((tells.asked k).0 (sym some_still ∙ some)), λ has. some_still ∙ (tells.asked k).1 (subst T goes_on has));
    reads = λ k since at q. elim (same_or_other k e.maker) [
      | inl here ↦
          let c : Changed (misreading p old.entries) (get mid.asked e.maker) since = now k since here at in
          let b : Kept (get old.asked e.maker) c.before = behind c.before c.there in
          elim (same_or_other q p) [
            | inl page ↦
                ap (λ (a : Asked). get a.reads q) c.is ∙ ap (get (insert c.before.reads p old.entries)) page ∙ get_same c.before.reads p old.entries ∙ ap (λ (n : ℕ). Some n) was
                ∙ sym (reads_now h e k q (and_false (is_by k e) (is_ask e.event) no_call) (both_true (is_by k e) (fails_read q e.event) (eq-eqb e.maker k (sym here)) (fails q ∙ eq-eqb p q (sym page))))
            | inr page ↦
                ap (λ (a : Asked). get a.reads q) c.is ∙ get_other c.before.reads p old.entries q page ∙ ap (λ (r : FinMap nat_cmp ℕ). get r q) b.reads ∙ tells.reads e.maker b.was b.there q
                ∙ ap (λ (j : ℕ). last_failed_read h j q) (sym here)
                ∙ sym (reads_same h e k q (and_false (is_by k e) (is_ask e.event) no_call) (and_false (is_by k e) (fails_read q e.event) (fails q ∙ ne_eqb p q (λ is. page (sym is)))))
          ]
      | inr other ↦
          let b : Kept (get old.asked k) since = beside k since other at in
          ap (λ (r : FinMap nat_cmp ℕ). get r q) b.reads ∙ tells.reads k b.was b.there q
          ∙ sym (reads_same h e k q (and_false (is_by k e) (is_ask e.event) no_call) (ap (λ (t : Bool). t && fails_read q e.event) (ne_eqb e.maker k (λ is. other (sym is)))))
    ];
    earlier = λ k since at q i read. elim (same_or_other k e.maker) [
      | inl here ↦
          let c : Changed (misreading p old.entries) (get mid.asked e.maker) since = now k since here at in
          let b : Kept (get old.asked e.maker) c.before = behind c.before c.there in
          elim (same_or_other q p) [
            | inl page ↦
                let is : Some old.entries ≡ Some i = sym (get_same c.before.reads p old.entries) ∙ ap (get (insert c.before.reads p old.entries)) (sym page) ∙ sym (ap (λ (a : Asked). get a.reads q) c.is) ∙ read in
                let number : old.entries ≡ i = some_is old.entries i is in
                omega (arith, number, counted)
            | inr page ↦
                let before_then : get c.before.reads q ≡ Some i = sym (get_other c.before.reads p old.entries q page) ∙ sym (ap (λ (a : Asked). get a.reads q) c.is) ∙ read in
                let early : i < old.entries = tells.earlier e.maker b.was b.there q i (sym (ap (λ (r : FinMap nat_cmp ℕ). get r q) b.reads) ∙ before_then) in
                omega (arith, early, counted)
          ]
      | inr other ↦
          let b : Kept (get old.asked k) since = beside k since other at in
          let early : i < old.entries = tells.earlier k b.was b.there q i (sym (ap (λ (r : FinMap nat_cmp ℕ). get r q) b.reads) ∙ read) in
          omega (arith, early, counted)
    ];
  }

-- a stale read, behind its page's row
pub stale_is : (v : Follower) (s : State) → Shows v s → (maker : ℕ) (wanted found : Mark) (row : PageRow) → get v.pages wanted.name ≡ Some row → MayEndRead s maker wanted.name → row.version ≡ wanted.version → wanted.block < row.blocks → found ≢ wanted → IsStale s maker wanted found
stale_is v s shows maker wanted found row live ends version block other =
    let x : HasRow page_row (get s.pages wanted.name) row = row_of page_row s.pages v.pages shows.things.pages wanted.name row live in
    let same : x.of ≡ ends.page = some_is x.of ends.page (sym x.lives ∙ ends.own.lives) in
    let number : row.version ≡ ends.page.version = ap (λ (r : PageRow). r.version) x.is ∙ ap (λ (y : Page). y.version) same in
    let blocks : row.blocks ≡ ends.page.blocks = ap (λ (r : PageRow). r.blocks) x.is ∙ ap (λ (y : Page). y.blocks) same in
    record { ends = ends; version = sym version ∙ number; block = subst (λ (n : ℕ). wanted.block < n) blocks block; other = other }

-- what a stale read is in the model
pub stale_allowed : (s : State) (maker : ℕ) (wanted found : Mark) → IsStale s maker wanted found → MayFindStale s maker wanted.name wanted found
stale_allowed s maker wanted found stale = record { ends = stale.ends; name = refl; version = stale.version; block = stale.block; other = stale.other }

pub record Needs (s : State) (maker p : ℕ) (wanted found : Mark) : Type 0 where
  pub stale : IsStale s maker wanted found
  pub name : p ≡ wanted.name

pub stale_needed : (s : State) (maker p : ℕ) (wanted found : Mark) → MayFindStale s maker p wanted found → Needs s maker p wanted found
stale_needed s maker p wanted found may = record {
  stale = record {
    ends = record { page = may.ends.page; own = subst (λ (k : ℕ). IsPageOf s maker k may.ends.page) (sym may.name) may.ends.own; loading = may.ends.loading };
    version = may.version;
    block = may.block;
    other = may.other;
  };
  name = sym may.name;
}

-- a read that failed has followed, with or without a failure
module _ (old noted read mid new : Follower) (m p : ℕ) (row : PageRow) (live : get old.pages p ≡ Some row)
    (first : noted ≡ record old { asked = noted.asked }) (reads_stay : SameReads old.asked noted.asked)
    (second : read ≡ record noted { asked = read.asked }) (changes : ChangesAsked (misreading p noted.entries) noted.asked read.asked m)
    (moves : Moves read mid p row (record row { place = spot.Evicted })) where
  same_entries : noted.entries ≡ old.entries
  same_entries = ap (λ (v : Follower). v.entries) first

  all_entries : mid.entries ≡ old.entries
  all_entries = ap (λ (v : Follower). v.entries) moves.is ∙ ap (λ (v : Follower). v.entries) second ∙ same_entries

  live_still : get read.pages p ≡ Some row
  live_still = ap (λ (v : Follower). get v.pages p) second ∙ ap (λ (v : Follower). get v.pages p) first ∙ live

  pub read_followed : (s before : State) (h : List Entry) (e : Entry) → TellsBefore old h → Shows noted s → FitsMemory s → e.maker ≡ m → opens e.event ≡ false → is_ask e.event ≡ false → ((q : ℕ) → fails_read q e.event ≡ (p == q))
      → after before e ≡ count_entry (put_in model.Evicted p s) → new ≡ record mid { entries = mid.entries + 1 } → mid.entries + 1 < 2 ^ 64
      → Shows new (after before e) × TellsBefore new (h ++ e ∷ [])
  read_followed s before h e tells shows memory by no_start no_call fails effect is few =
      let shown_then : Shows read s = read_noted noted read s m p noted.entries shows second changes in
      let put : Shows mid (put_in model.Evicted p s) = placed read mid s p row shown_then memory live_still spot.Evicted model.Evicted refl moves in
      let changed : ChangesAsked (misreading p old.entries) noted.asked new.asked e.maker =
      subst (λ (k : ℕ). ChangesAsked (misreading p old.entries) noted.asked new.asked k) (sym by)
      (subst (λ (a : FinMap nat_cmp Asked). ChangesAsked (misreading p old.entries) noted.asked a m) (sym (ap (λ (v : Follower). v.asked) is ∙ ap (λ (v : Follower). v.asked) moves.is))
      (subst (λ (n : ℕ). ChangesAsked (misreading p n) noted.asked read.asked m) same_entries changes)) in (
        subst (Shows new) (sym effect) (subst (λ (v : Follower). Shows v (count_entry (put_in model.Evicted p s))) (sym is) (counted mid (put_in model.Evicted p s) put few)),
        read_tells old noted new h e p tells no_start no_call fails reads_stay changed (ap (λ (v : Follower). v.entries) is ∙ ap (λ (n : ℕ). n + 1) all_entries),
      )

-- so has a read that failed, or gave another block
module _ {E : Type 0} (old noted read mid new : Follower) (m p : ℕ) (row : PageRow) (live : get old.pages p ≡ Some row) (session : m < 240)
    (second : read ≡ record noted { asked = read.asked }) (changes : ChangesAsked (misreading p noted.entries) noted.asked read.asked m)
    (moves : Moves read mid p row (record row { place = spot.Evicted })) where
  pub failed_answers : (r : Result Bool E) → ((s : State) → Shows old s → MayEndRead s m p)
      → noted ≡ record old { asked = noted.asked } → ChangesAsked (failing row.client old.entries) old.asked noted.asked row.session
      → IfOk r (λ may. may ≡ true) → OnOk r (new ≡ record mid { entries = mid.entries + 1 }) → OnOk r (mid.entries + 1 < 2 ^ 64) → Answers old new (made m (bare.ReadFailed p)) r
  failed_answers r test first failed may is few = accepted old new m (bare.ReadFailed p) r may
      (λ o h stands sound. record { event = ReadFailed p 0 1; same = refl; makes = session; allows = record { ends = test (state_after o h) stands.shows; fault = inl (omega arith) } })
      (steps r is few)
    where
      steps : (q : Result Bool E) → OnOk q (new ≡ record mid { entries = mid.entries + 1 }) → OnOk q (mid.entries + 1 < 2 ^ 64)
          → OnOk q ((o : Opening) (h : List Entry) (e : Event) → StandsFor old o h → IsSound (state_after o h) → bare_of e ≡ bare.ReadFailed p → Allows h (state_after o h) m e
          → Shows new (after (state_after o h) (record { maker = m; event = e })) × TellsBefore new (h ++ record { maker = m; event = e } ∷ []))
      steps (Err x) is few = tt
      steps (Ok x) is few = λ o h e stands sound same allows.
          let t : (before : ℕ) × (later : ℕ) × (e ≡ ReadFailed p before later) = told_as e (bare.ReadFailed p) same in
          let s : State = state_after o h in
          let shown_failure : Shows noted (note_failure p s) = failure_noted old noted s p row stands.shows live first failed in
          subst (λ (d : Event). Shows new (after (state_after o h) (record { maker = m; event = d })) × TellsBefore new (h ++ record { maker = m; event = d } ∷ [])) (sym t.2)
          (read_followed old noted read mid new m p row live first (changes_kept (failing row.client old.entries) (λ a. refl) old.asked noted.asked row.session failed) second changes moves
          (note_failure p s) s h (record { maker = m; event = ReadFailed p t.0 t.1 }) stands.tells shown_failure sound.within.memory refl refl refl (λ q. refl) refl is few)

  pub stale_answers : (r : Result Bool E) → (wanted found : Mark) → wanted.name ≡ p → noted ≡ old → ((s : State) → Shows old s → IsStale s m wanted found)
      → IfOk r (λ may. may ≡ true) → OnOk r (new ≡ record mid { entries = mid.entries + 1 }) → OnOk r (mid.entries + 1 < 2 ^ 64) → Answers old new (made m (bare.ReadStale wanted found)) r
  stale_answers r wanted found name none test may is few = accepted old new m (bare.ReadStale wanted found) r may
      (λ o h stands sound. record { event = ReadStale wanted.name wanted found; same = refl; makes = session; allows = stale_allowed (state_after o h) m wanted found (test (state_after o h) stands.shows) })
      (steps r is few)
    where
      steps : (q : Result Bool E) → OnOk q (new ≡ record mid { entries = mid.entries + 1 }) → OnOk q (mid.entries + 1 < 2 ^ 64)
          → OnOk q ((o : Opening) (h : List Entry) (e : Event) → StandsFor old o h → IsSound (state_after o h) → bare_of e ≡ bare.ReadStale wanted found → Allows h (state_after o h) m e
          → Shows new (after (state_after o h) (record { maker = m; event = e })) × TellsBefore new (h ++ record { maker = m; event = e } ∷ []))
      steps (Err x) is few = tt
      steps (Ok x) is few = λ o h e stands sound same allows.
          let t : (q : ℕ) × (e ≡ ReadStale q wanted found) = told_as e (bare.ReadStale wanted found) same in
          let s : State = state_after o h in
          let found_stale : MayFindStale s m t.0 wanted found = subst (Allows h s m) t.1 allows in
          let page : t.0 ≡ p = (stale_needed s m t.0 wanted found found_stale).name ∙ name in
          let whole : e ≡ ReadStale p wanted found = t.1 ∙ ap (λ (q : ℕ). ReadStale q wanted found) page in
          let first : noted ≡ record old { asked = noted.asked } = none ∙ ap (λ (v : Follower). record old { asked = v.asked }) (sym none) in
          subst (λ (d : Event). Shows new (after (state_after o h) (record { maker = m; event = d })) × TellsBefore new (h ++ record { maker = m; event = d } ∷ [])) (sym whole)
          (read_followed old noted read mid new m p row live first (λ k. ap (λ (v : Follower). option_map (λ (x : Asked). x.reads) (get v.asked k)) none) second changes moves
          s s h (record { maker = m; event = ReadStale p wanted found }) stands.tells (subst (λ (v : Follower). Shows v s) (sym none) stands.shows) sound.within.memory refl refl refl (λ q. refl) refl is few)

pub stale_refused : {E : Type 0} (old : Follower) (m : ℕ) (wanted found : Mark) → ((s : State) → Shows old s → IsStale s m wanted found → ⊥) → Answers {E = E} old old (made m (bare.ReadStale wanted found)) (Ok false)
stale_refused old m wanted found never = refused old old m (bare.ReadStale wanted found) (λ o h e stands sound same allows.
    let t : (q : ℕ) × (e ≡ ReadStale q wanted found) = told_as e (bare.ReadStale wanted found) same in
    let found_stale : MayFindStale (state_after o h) m t.0 wanted found = subst (Allows h (state_after o h) m) t.1 allows in
    never (state_after o h) stands.shows (stale_needed (state_after o h) m t.0 wanted found found_stale).stale)
