-- Trackers end, and sessions with them: when they may, and what a follower shows then.
use Rattle.std.proofs.Common.{◌≡◌, ◌≢◌, ℕ, ◌+◌, ◌-◌, ◌≤◌, ◌==◌, ◌↔◌, Bool, IsTrue, if◌then◌else◌, Option, Some, None, List, [], option_map, refl, ap, sym, ◌∙◌, subst, arith, eq-eqb, ne_eqb, inl, inr, unwrap_or}
use Rattle.std.specs.Ordering.{nat_cmp}
use Rattle.std.specs.FinMap.{FinMap, get, insert, remove}
use Rattle.reservation_tree.specs.Total.{total}
use Rattle.reservation_tree.specs.Tracker.{Tracker, Trackers, HasNoChild, parent_of, share_of, children_of}
use Rattle.reservation_tree.proofs.Maps.{get_same, get_other, removed_same, removed_other, same_or_other}
use Rattle.reservation_tree.proofs.Sums.{total-remove, total-none, weight-le-total}
use Rattle.reservation_tree.proofs.Outline.{reservation_is, parent_is}
use Rattle.reservation_tree.proofs.Shares.{children-gone, children-none, share_here, share_there, under_other as not_under}
use Rattle.pool_model.specs.Bytes.{only_if}
use Rattle.pool_model.specs.State.{Page, Pages, Buffer, Buffers, Session, Sessions, State}
use Rattle.pool_model.specs.Sums.{times_charged, times_held, pages_for, buffers_for}
use Rattle.pool_model.specs.Owning.{IsQueryOf, IsClientOf, IsTrackerOf}
use Rattle.pool_model.specs.TrackerRows.{MayCloseTracker}
use Rattle.pool_model.specs.Parts.{with_failures, without_tracker, close_tracker}
use Rattle.pool_model.specs.Sound.{IsSound}
use Rattle.pool_model.proofs.Seats.{some_is}
use Rattle.pool_model.proofs.Weights.{mine, not_mine}
use Rattle.pool_model.proofs.ByClients.{no_pages, no_buffers}
use Rattle.trace_follow.specs.declared.rows.Asked.{Asked}
use Rattle.trace_follow.specs.declared.rows.SessionRow.{SessionRow}
use Rattle.trace_follow.specs.declared.rows.TrackerRow.{TrackerRow}
use Rattle.trace_follow.specs.declared.rows.Under.{Under}
use Rattle.trace_follow.specs.declared.rows.Load.{Load}
use Rattle.trace_follow.specs.declared.follower.Follower.{Follower}
use Rattle.trace_follow.specs.Queues.{Queue, names_in, queue_at, AreStamped}
use Rattle.trace_follow.specs.Rows.{tracker_row, kids_of, under_at, session_row, pages_on, buffers_on, load_of, load_at}
use Rattle.trace_follow.specs.Showing.{ShowsTrackers, ShowsSessions, Shows}
use Rattle.trace_follow.specs.Looking.{HasNothing, ForgetsClient}
use Rattle.trace_follow.proofs.Mirrored.{mirror_gone}
use Rattle.trace_follow.proofs.Reserving.{both, sums, under_same, under_other}
use Rattle.trace_follow.proofs.Asking.{Had, failed_rows, failed_here, failed_there}
use Rattle.trace_follow.proofs.Levels.{IsHigh, IsLow, level}

one_is_some : (n : ℕ) → 1 ≤ n → n ≡ 0 → ⊥
one_is_some n some none = omega (arith, some, none)

pub no_kids : (ts : Trackers) (t : ℕ) → kids_of ts t ≡ 0 → HasNoChild ts t
unfolding kids_of
no_kids ts t none k x is under =
    let part : share_of t x.parent 1 ≤ total (λ _ z. share_of t z.parent 1) ts = weight-le-total (λ _ z. share_of t z.parent 1) ts k x is in
    let one : share_of t x.parent 1 ≡ 1 = ap (λ (o : Option ℕ). share_of t o 1) under ∙ share_here t 1 in
    one_is_some (total (λ _ z. share_of t z.parent 1) ts) (omega (arith, part, one)) none

pub kids_none : (ts : Trackers) (t : ℕ) → HasNoChild ts t → kids_of ts t ≡ 0
unfolding kids_of
kids_none ts t none = total-none (λ _ z. share_of t z.parent 1) ts (λ k x is. not_under t x.parent 1 (none k x is))

pub no_pages_on : (pages : Pages) (t : ℕ) → pages_on pages t ≡ 0 → (p : ℕ) (x : Page) → get pages p ≡ Some x → x.client ≢ t
unfolding pages_on
no_pages_on pages t none p x is same =
    let part : only_if (x.client == t) 1 ≤ total (λ _ z. only_if (z.client == t) 1) pages = weight-le-total (λ _ z. only_if (z.client == t) 1) pages p x is in
    let one : only_if (x.client == t) 1 ≡ 1 = ap (λ (c : ℕ). only_if (c == t) 1) same ∙ mine t 1 in
    one_is_some (total (λ _ z. only_if (z.client == t) 1) pages) (omega (arith, part, one)) none

pub pages_on_none : (pages : Pages) (t : ℕ) → ((p : ℕ) (x : Page) → get pages p ≡ Some x → x.client ≢ t) → pages_on pages t ≡ 0
unfolding pages_on
pages_on_none pages t none = total-none (λ _ z. only_if (z.client == t) 1) pages (λ p x is. not_mine x.client t 1 (none p x is))

pub no_buffers_on : (buffers : Buffers) (t : ℕ) → buffers_on buffers t ≡ 0 → (f : ℕ) (x : Buffer) → get buffers f ≡ Some x → x.client ≢ t
unfolding buffers_on
no_buffers_on buffers t none f x is same =
    let part : only_if (x.client == t) 1 ≤ total (λ _ z. only_if (z.client == t) 1) buffers = weight-le-total (λ _ z. only_if (z.client == t) 1) buffers f x is in
    let one : only_if (x.client == t) 1 ≡ 1 = ap (λ (c : ℕ). only_if (c == t) 1) same ∙ mine t 1 in
    one_is_some (total (λ _ z. only_if (z.client == t) 1) buffers) (omega (arith, part, one)) none

pub buffers_on_none : (buffers : Buffers) (t : ℕ) → ((f : ℕ) (x : Buffer) → get buffers f ≡ Some x → x.client ≢ t) → buffers_on buffers t ≡ 0
unfolding buffers_on
buffers_on_none buffers t none = total-none (λ _ z. only_if (z.client == t) 1) buffers (λ f x is. not_mine x.client t 1 (none f x is))

-- a tracker that has nothing may end
pub close_exactly : (s : State) (maker t : ℕ) (b : Bool) → IsTrackerOf s maker t → IsTrue b ↔ HasNothing s t → IsTrue b ↔ MayCloseTracker s maker t
close_exactly s maker t b own tests = (
  λ is.
      let none : HasNothing s t = tests.0 is in
      let all : pages_on s.pages t + buffers_on s.buffers t ≡ 0 = none.things in
      record {
        own = own;
        empty = none.empty;
        no_child = no_kids s.trackers t none.kids;
        no_page = no_pages_on s.pages t (omega (arith, all));
        no_buffer = no_buffers_on s.buffers t (omega (arith, all));
      },
  λ may.
      let m : MayCloseTracker s maker t = may in
      let pages : pages_on s.pages t ≡ 0 = pages_on_none s.pages t m.no_page in
      let buffers : buffers_on s.buffers t ≡ 0 = buffers_on_none s.buffers t m.no_buffer in
      tests.1 (record { empty = m.empty; kids = kids_none s.trackers t m.no_child; things = omega (arith, pages, buffers) }),
)

-- a tracker that goes no longer counts for its parent
kids_gone : (ts : Trackers) (t : ℕ) (x : Tracker) → get ts t ≡ Some x → (q : ℕ) → kids_of (remove ts t) q + share_of q x.parent 1 ≡ kids_of ts q
unfolding kids_of
kids_gone ts t x is q = total-remove (λ _ z. share_of q z.parent 1) ts t (Some x) is

gone_under : (rows : FinMap nat_cmp Under) (t : ℕ) → under_at (remove rows t) t ≡ sums 0 0
gone_under rows t = ap (λ (o : Option Under). unwrap_or o (record { bytes = 0; count = 0 })) (removed_same rows t)

left_under : (rows : FinMap nat_cmp Under) (t q : ℕ) → q ≢ t → under_at (remove rows t) q ≡ under_at rows q
left_under rows t q apart = ap (λ (o : Option Under). unwrap_or o (record { bytes = 0; count = 0 })) (removed_other rows t q apart)

module _ (trackers : FinMap nat_cmp TrackerRow) (unders : FinMap nat_cmp Under) (ts : Trackers) (shows : ShowsTrackers trackers unders ts) (t p : ℕ) (x : Tracker) (is : get ts t ≡ Some x)
    (under : x.parent ≡ Some p) (apart : p ≢ t) (empty : x.reservation ≡ 0) (childless : HasNoChild ts t) where
  pub gone_shows : ShowsTrackers (remove trackers t) (remove (insert unders p (record (under_at unders p) { count = (under_at unders p).count - 1 })) t) (remove ts t)
  gone_shows = record {
    rows = mirror_gone tracker_row ts trackers shows.rows t;
    sums = λ q.
        let sum : children_of (remove ts t) q ≡ children_of ts q = children-gone ts t x q is empty in
        let kids : kids_of (remove ts t) q + share_of q x.parent 1 ≡ kids_of ts q = kids_gone ts t x is q in
        elim (same_or_other q t) [
          | inl here ↦
              let none : children_of ts q ≡ 0 = ap (children_of ts) here ∙ children-none ts t childless in
              let no_kid : kids_of ts q ≡ 0 = ap (kids_of ts) here ∙ kids_none ts t childless in
              ap (under_at (remove (insert unders p (record (under_at unders p) { count = (under_at unders p).count - 1 })) t)) here
              ∙ gone_under (insert unders p (record (under_at unders p) { count = (under_at unders p).count - 1 })) t
              ∙ both _ _ _ _ (omega (arith, sum, none)) (omega (arith, kids, no_kid))
          | inr other ↦ left_under (insert unders p (record (under_at unders p) { count = (under_at unders p).count - 1 })) t q other ∙ elim (same_or_other q p) [
            | inl here ↦
                let one : share_of q x.parent 1 ≡ 1 = ap (λ (o : Option ℕ). share_of q o 1) (under ∙ ap (λ (k : ℕ). Some k) (sym here)) ∙ share_here q 1 in
                let was : (under_at unders p).bytes ≡ children_of ts q = ap (λ (u : Under). u.bytes) (shows.sums p) ∙ ap (children_of ts) (sym here) in
                let count : (under_at unders p).count ≡ kids_of ts q = ap (λ (u : Under). u.count) (shows.sums p) ∙ ap (kids_of ts) (sym here) in
                ap (under_at (insert unders p (record (under_at unders p) { count = (under_at unders p).count - 1 }))) here ∙ under_same unders p _
                ∙ both _ _ _ _ (was ∙ sym sum) (omega (arith, count, kids, one))
            | inr there ↦
                let none : share_of q x.parent 1 ≡ 0 = ap (λ (o : Option ℕ). share_of q o 1) under ∙ share_there q p 1 (λ same. there (sym same)) in
                under_other unders p _ q there ∙ shows.sums q ∙ both _ _ _ _ (sym sum) (omega (arith, kids, none))
          ]
        ];
  }

-- the tracker that a session may close, with the tracker above
pub record IsBelow (s : State) (t : ℕ) : Type 0 where
  pub tracker : Tracker
  pub lives : get s.trackers t ≡ Some tracker
  pub above : ℕ
  pub under : tracker.parent ≡ Some above
  pub apart : above ≢ t

pub is_below : (s : State) → IsSound s → (maker t : ℕ) → IsTrackerOf s maker t → IsBelow s t
is_below s sound maker t own = elim (level s sound maker t own) [
  | inl q ↦ let h : IsHigh s.trackers t = q in record { tracker = h.query.tracker; lives = h.query.lives; above = 0; under = h.query.under; apart = λ same. h.low (sym same) }
  | inr c ↦ let l : IsLow s.trackers t c.0 = c.1 in record { tracker = l.tracker; lives = l.is; above = c.0; under = l.parent; apart = l.apart }
]

pub tracker_gone : (old mid new : Follower) (s : State) → IsSound s → (maker t p : ℕ) → Shows old s → MayCloseTracker s maker t → p ≡ parent_of s.trackers t
    → mid ≡ record old { unders = insert old.unders p (record (under_at old.unders p) { count = (under_at old.unders p).count - 1 }) }
    → new ≡ record mid { trackers = remove mid.trackers t; unders = remove mid.unders t } → ShowsTrackers new.trackers new.unders (remove s.trackers t)
tracker_gone old mid new s sound maker t p shows may at first second =
    let b : IsBelow s t = is_below s sound maker t may.own in
    let same : p ≡ b.above = at ∙ parent_is s.trackers t b.tracker b.above b.lives b.under in
    let empty : b.tracker.reservation ≡ 0 = sym (reservation_is s.trackers t b.tracker b.lives) ∙ may.empty in
    subst (λ (v : Follower). ShowsTrackers v.trackers v.unders (remove s.trackers t)) (sym second)
    (subst (λ (v : Follower). ShowsTrackers (remove v.trackers t) (remove v.unders t) (remove s.trackers t)) (sym first)
    (gone_shows old.trackers old.unders s.trackers shows.trackers t p b.tracker b.lives (b.under ∙ ap (λ (k : ℕ). Some k) (sym same)) (λ is. b.apart (sym same ∙ is)) empty may.no_child))

-- what a session kept before a client was forgotten
record Forgot (o : Option Asked) (c : ℕ) (since : Asked) : Type 0 where
  pub before : Asked
  pub there : o ≡ Some before
  pub failures : since.failures ≡ remove before.failures c

forgot : (o : Option Asked) (c : ℕ) (since : Asked) → Some since ≡ option_map {T = Asked} (λ a. record a { failures = remove a.failures c }) o → Forgot o c since
forgot None c since is = cc
forgot (Some a) c since is = record {
  before = a;
  there = refl;
  failures = ap (λ (z : Asked). z.failures) (some_is since (record a { failures = remove a.failures c }) is);
}

pub same_reads : (o : Option Asked) (c : ℕ) → option_map {T = Asked} (λ a. a.reads) (option_map {T = Asked} (λ a. record a { failures = remove a.failures c }) o) ≡ option_map {T = Asked} (λ a. a.reads) o
same_reads None c = refl
same_reads (Some a) c = refl

pub forgets_kept : (old new : FinMap nat_cmp Asked) (m c : ℕ) → ForgetsClient old new m c → (k : ℕ) → option_map {T = Asked} (λ a. a.reads) (get new k) ≡ option_map {T = Asked} (λ a. a.reads) (get old k)
forgets_kept old new m c forgets k = elim (same_or_other k m) [
  | inl here ↦
      ap (λ (q : ℕ). option_map {T = Asked} (λ a. a.reads) (get new q)) here ∙ ap (option_map {T = Asked} (λ a. a.reads)) forgets.here ∙ same_reads (get old m) c
      ∙ ap (λ (q : ℕ). option_map {T = Asked} (λ a. a.reads) (get old q)) (sym here)
  | inr other ↦ ap (option_map {T = Asked} (λ a. a.reads)) (forgets.there k other)
]

pub forgets_none : (old new : FinMap nat_cmp Asked) (m c : ℕ) → None ≡ get old m → new ≡ remove old m → ForgetsClient old new m c
forgets_none old new m c none is = record {
  here = ap (λ (a : FinMap nat_cmp Asked). get a m) is ∙ removed_same old m ∙ ap (option_map {T = Asked} (λ a. record a { failures = remove a.failures c })) none;
  there = λ k other. ap (λ (a : FinMap nat_cmp Asked). get a k) is ∙ removed_other old m k other;
}

pub forgets_some : (old mid new : FinMap nat_cmp Asked) (m c : ℕ) (since kept : Asked) → Some since ≡ get old m → mid ≡ remove old m → kept ≡ record since { failures = remove since.failures c } → new ≡ insert mid m kept
    → ForgetsClient old new m c
forgets_some old mid new m c since kept some taken less put = record {
  here = ap (λ (a : FinMap nat_cmp Asked). get a m) put ∙ get_same mid m kept ∙ ap (λ (a : Asked). Some a) less ∙ ap (option_map {T = Asked} (λ a. record a { failures = remove a.failures c })) some;
  there = λ k other. ap (λ (a : FinMap nat_cmp Asked). get a k) put ∙ get_other mid m kept k other ∙ ap (λ (a : FinMap nat_cmp Asked). get a k) taken ∙ removed_other old m k other;
}

-- sessions without the tracker
module _ (m t : ℕ) (sessions : FinMap nat_cmp SessionRow) (asked : FinMap nat_cmp Asked) (live : Sessions) (shows : ShowsSessions sessions asked live) (x : Session) (is : get live m ≡ Some x) where
  left_out : without_tracker m t live ≡ (if x.query == t then remove live m else insert live m (record x { failures = remove x.failures t }))
  left_out = ap (λ (o : Option Session). elim o [ None ↦ live | Some z ↦ if z.query == t then remove live m else insert live m (record z { failures = remove z.failures t }) ]) is

  pub session_ended : x.query ≡ t → ShowsSessions (remove sessions m) asked (without_tracker m t live)
  session_ended query =
      let out : without_tracker m t live ≡ remove live m = left_out ∙ ap (λ (b : Bool). if b then remove live m else insert live m (record x { failures = remove x.failures t })) (eq-eqb x.query t query) in
      subst (ShowsSessions (remove sessions m) asked) (sym out) (record {
        rows = mirror_gone session_row live sessions shows.rows m;
        failures = λ k y since there at. elim (same_or_other k m) [
          | inl here ↦ let none : None ≡ Some y = sym (removed_same live m) ∙ ap (get (remove live m)) (sym here) ∙ there in cc
          | inr other ↦ shows.failures k y since (sym (removed_other live m k other) ∙ there) at
        ];
      })

  pub client_left : x.query ≢ t → (new : FinMap nat_cmp Asked) → ForgetsClient asked new m t → ShowsSessions sessions new (without_tracker m t live)
  client_left other_query new forgets =
      let change : FinMap nat_cmp ℕ → FinMap nat_cmp ℕ = λ failures. remove failures t in
      let by_change : with_failures change m live ≡ insert live m (record x { failures = remove x.failures t }) =
      ap (λ (o : Option Session). elim o [ None ↦ live | Some z ↦ insert live m (record z { failures = remove z.failures t }) ]) is in
      let out : without_tracker m t live ≡ with_failures change m live = left_out ∙ ap (λ (b : Bool). if b then remove live m else insert live m (record x { failures = remove x.failures t })) (ne_eqb x.query t other_query) ∙ sym by_change in
      subst (ShowsSessions sessions new) (sym out) (record {
        rows = failed_rows change m live sessions shows.rows;
        failures = λ k y since there at. elim (same_or_other k m) [
          | inl here ↦
              let had : Had change live m y = failed_here change m live y (ap (get (with_failures change m live)) (sym here) ∙ there) in
              let was : Forgot (get asked m) t since = forgot (get asked m) t since (sym at ∙ ap (get new) here ∙ forgets.here) in
              was.failures ∙ ap (λ (f : FinMap nat_cmp ℕ). remove f t) (shows.failures m had.session was.before had.lives was.there) ∙ sym had.failures
          | inr other ↦ shows.failures k y since (sym (failed_there change m live k other) ∙ there) (sym (forgets.there k other) ∙ at)
        ];
      })

-- a client without pages and buffers
module _ (block_len : ℕ) (pages : Pages) (buffers : Buffers) (loads : FinMap nat_cmp Load) (t : ℕ)
    (no_page : (p : ℕ) (x : Page) → get pages p ≡ Some x → x.client ≢ t) (no_buffer : (f : ℕ) (x : Buffer) → get buffers f ≡ Some x → x.client ≢ t) where
  abbrev loaded : ℕ → ℕ → ℕ → Load
  loaded charge held count = record { charge = charge; held = held; count = count }

  three : (a b c : ℕ) → 0 ≡ a → 0 ≡ b → 0 ≡ c → loaded 0 0 0 ≡ loaded a b c
  three a b c first second third = ap (λ (n : ℕ). loaded n 0 0) first ∙ ap (λ (n : ℕ). loaded a n 0) second ∙ ap (loaded a b) third

  pub loads_left : ((c : ℕ) → load_at loads c ≡ load_of block_len pages buffers c) → (c : ℕ) → load_at (remove loads t) c ≡ load_of block_len pages buffers c
  loads_left shows c = elim (same_or_other c t) [
    | inl here ↦
        let charged : pages_for times_charged block_len pages t ≡ 0 = no_pages times_charged block_len pages t no_page in
        let held : pages_for times_held block_len pages t ≡ 0 = no_pages times_held block_len pages t no_page in
        let lent : buffers_for block_len buffers t ≡ 0 = no_buffers block_len buffers t no_buffer in
        let some_pages : pages_on pages t ≡ 0 = pages_on_none pages t no_page in
        let some_buffers : buffers_on buffers t ≡ 0 = buffers_on_none buffers t no_buffer in
        ap (load_at (remove loads t)) here ∙ ap (λ (o : Option Load). unwrap_or o (record { charge = 0; held = 0; count = 0 })) (removed_same loads t)
        ∙ three _ _ _ (omega (arith, charged, lent)) (omega (arith, held, lent)) (omega (arith, some_pages, some_buffers)) ∙ ap (load_of block_len pages buffers) (sym here)
    | inr other ↦ ap (λ (o : Option Load). unwrap_or o (record { charge = 0; held = 0; count = 0 })) (removed_other loads t c other) ∙ shows c
  ]

abbrev pub emptied : Follower → ℕ → Follower
emptied v t = record v { loads = remove v.loads t; dirty = remove v.dirty t }

-- the tracker is gone, and what was kept of it
pub closed_shows : (old v : Follower) (s : State) (m t : ℕ) (sessions : FinMap nat_cmp SessionRow) (asked : FinMap nat_cmp Asked) → Shows old s → MayCloseTracker s m t
    → v ≡ record old { trackers = v.trackers; unders = v.unders } → ShowsTrackers v.trackers v.unders (remove s.trackers t) → ShowsSessions sessions asked (without_tracker m t s.sessions)
    → Shows (record (emptied v t) { sessions = sessions; asked = asked }) (close_tracker m t s)
closed_shows old v s m t sessions asked shows may rest trackers seats = subst (λ (w : Follower). Shows (record (emptied w t) { sessions = sessions; asked = asked }) (close_tracker m t s)) (sym rest) (record {
  block_len = shows.block_len;
  trackers = trackers;
  sessions = seats;
  things = record { pages = shows.things.pages; buffers = shows.things.buffers; loads = loads_left s.block_len s.pages s.buffers old.loads t may.no_page may.no_buffer shows.things.loads; lent = shows.things.lent };
  free = shows.free;
  queues = record {
    dirty_names = λ c. elim (same_or_other c t) [
      | inl here ↦
          ap names_in (ap (queue_at (remove old.dirty t)) here ∙ ap (λ (o : Option Queue). unwrap_or o []) (removed_same old.dirty t))
          ∙ sym (ap (λ (k : ℕ). unwrap_or (get (remove s.dirty t) k) []) here ∙ ap (λ (o : Option (List ℕ)). unwrap_or o []) (removed_same s.dirty t))
      | inr other ↦
          ap (λ (o : Option Queue). names_in (unwrap_or o [])) (removed_other old.dirty t c other) ∙ shows.queues.dirty_names c
          ∙ sym (ap (λ (o : Option (List ℕ)). unwrap_or o []) (removed_other s.dirty t c other))
    ];
    clean_names = shows.queues.clean_names;
    dirty_stamped = λ c. elim (same_or_other c t) [
      | inl here ↦ subst (AreStamped old.stamps old.entries) (sym (ap (queue_at (remove old.dirty t)) here ∙ ap (λ (o : Option Queue). unwrap_or o []) (removed_same old.dirty t))) tt
      | inr other ↦ subst (AreStamped old.stamps old.entries) (sym (ap (λ (o : Option Queue). unwrap_or o []) (removed_other old.dirty t c other))) (shows.queues.dirty_stamped c)
    ];
    clean_stamped = shows.queues.clean_stamped;
    earlier = shows.queues.earlier;
    own = shows.queues.own;
  };
  next_name = shows.next_name;
  entries = shows.entries;
  few = shows.few;
})

pub record IsOpen (s : State) (m : ℕ) : Type 0 where
  pub session : Session
  pub opened : get s.sessions m ≡ Some session

pub is_open : (s : State) (m t : ℕ) → IsTrackerOf s m t → IsOpen s m
is_open s m t own = elim own [
  | inl q ↦ let k : IsQueryOf s m t = q in record { session = k.session; opened = k.lives }
  | inr c ↦ let k : IsClientOf s m t = c in record { session = k.session; opened = k.opened }
]

module _ (old v w : Follower) (s : State) (m t : ℕ) (shows : Shows old s) (may : MayCloseTracker s m t) (rest : v ≡ record old { trackers = v.trackers; unders = v.unders })
    (trackers : ShowsTrackers v.trackers v.unders (remove s.trackers t)) (things : w ≡ emptied v t) where
  same_sessions : v.sessions ≡ old.sessions
  same_sessions = ap (λ (z : Follower). z.sessions) rest

  same_asked : v.asked ≡ old.asked
  same_asked = ap (λ (z : Follower). z.asked) rest

  pub query_closed : (new : Follower) → IsQueryOf s m t → new ≡ record w { sessions = remove w.sessions m } → Shows new (close_tracker m t s)
  query_closed new query is =
      let seats : ShowsSessions (remove v.sessions m) v.asked (without_tracker m t s.sessions) =
      subst (λ (z : Follower). ShowsSessions (remove z.sessions m) z.asked (without_tracker m t s.sessions)) (sym rest) (session_ended m t old.sessions old.asked s.sessions shows.sessions query.session query.lives query.is) in
      let all : Shows (record (emptied v t) { sessions = remove v.sessions m; asked = v.asked }) (close_tracker m t s) = closed_shows old v s m t (remove v.sessions m) v.asked shows may rest trackers seats in
      subst (λ (z : Follower). Shows z (close_tracker m t s)) (sym (is ∙ ap (λ (z : Follower). record z { sessions = remove z.sessions m }) things)) all

  pub client_closed : (new : Follower) → (IsQueryOf s m t → ⊥) → ForgetsClient w.asked new.asked m t → new ≡ record w { asked = new.asked } → Shows new (close_tracker m t s)
  client_closed new no_query forgets is =
      let o : IsOpen s m = is_open s m t may.own in
      let same : w.asked ≡ old.asked = ap (λ (z : Follower). z.asked) things ∙ same_asked in
      let seats : ShowsSessions v.sessions new.asked (without_tracker m t s.sessions) =
      subst (λ (z : FinMap nat_cmp SessionRow). ShowsSessions z new.asked (without_tracker m t s.sessions)) (sym same_sessions)
      (client_left m t old.sessions old.asked s.sessions shows.sessions o.session o.opened (λ at. no_query (record { session = o.session; lives = o.opened; is = at })) new.asked
      (subst (λ (z : FinMap nat_cmp Asked). ForgetsClient z new.asked m t) same forgets)) in
      let all : Shows (record (emptied v t) { sessions = v.sessions; asked = new.asked }) (close_tracker m t s) = closed_shows old v s m t v.sessions new.asked shows may rest trackers seats in
      subst (λ (z : Follower). Shows z (close_tracker m t s)) (sym (is ∙ ap (λ (z : Follower). record z { asked = new.asked }) things)) all
