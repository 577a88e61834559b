-- A page comes to wait, as the last of a queue, under the number of this entry. The entry is counted with it.
use Rattle.std.proofs.Common.{◌≡◌, ◌≢◌, ℕ, ◌+◌, ◌<◌, ◌^◌, ◌==◌, ◌||◌, ◌&&◌, Bool, true, false, List, [], ◌∷◌, ◌++◌, Some, refl, ap, sym, ◌∙◌, subst, arith, eq-eqb, Greater, inl, inr}
use Rattle.std.specs.Ordering.{nat_cmp, match_ordering}
use Rattle.std.specs.Cmp.{nat_cmp_is}
use Rattle.std.specs.FinMap.{FinMap, get, insert}
use Rattle.std.specs.BTreeMap.{insert_entry}
use Rattle.std.proofs.lemmas.List.{map_push}
use Rattle.reservation_tree.proofs.Maps.{get_same, get_other, same_or_other}
use Rattle.pool_model.specs.declared.entry.Entry.{Entry}
use Rattle.pool_model.specs.State.{Page, State, dirty_of}
use Rattle.pool_model.specs.Sums.{is_clean}
use Rattle.pool_model.specs.Effects.{count_entry}
use Rattle.pool_model.specs.Orders.{stands_in, is_dirty, dirty_for, clean_at, AreQueues}
use Rattle.trace_follow.specs.declared.follower.Follower.{Follower}
use Rattle.trace_follow.specs.Queues.{Queue, names_in, queue_at, AreStamped}
use Rattle.trace_follow.specs.Showing.{ShowsQueues, Shows}
use Rattle.trace_follow.specs.Waiting.{QueuesDirty, QueuesClean}
use Rattle.trace_follow.proofs.Entered.{counted}
use Rattle.trace_follow.proofs.Waiting.{dirty_put, dirty_beside}

-- a later stamp goes behind all
pub goes_last : (stamps : FinMap nat_cmp ℕ) (n p : ℕ) (queue : Queue) → AreStamped stamps n queue → insert_entry nat_cmp queue n p ≡ queue ++ (n, p) ∷ []
goes_last stamps n p [] all = refl
goes_last stamps n p (e ∷ es) all =
    let later : e.0 < n = all.0.earlier in
    ap (λ o. match_ordering o ((n, p) ∷ e ∷ es) ((e.0, p) ∷ es) (e ∷ insert_entry nat_cmp es n p)) (sym (nat_cmp_is n e.0 Greater later))
    ∙ ap (λ (t : Queue). e ∷ t) (goes_last stamps n p es all.1)

pub pushed_names : (stamps : FinMap nat_cmp ℕ) (n p : ℕ) (queue : Queue) → AreStamped stamps n queue → names_in (insert_entry nat_cmp queue n p) ≡ names_in queue ++ p ∷ []
pushed_names stamps n p queue all = ap names_in (goes_last stamps n p queue all) ∙ map_push (λ (e : ℕ × ℕ). e.1) queue (n, p)

or_right : (a b : Bool) → (a || b) ≡ false → b ≡ false
or_right false b is = is
or_right true b is = cc

or_left : (a b : Bool) → (a || b) ≡ false → a ≡ false
or_left false b is = refl
or_left true b is = cc

-- others keep their stamps
pub stay_stamped : (stamps : FinMap nat_cmp ℕ) (n p : ℕ) (queue : Queue) → stands_in (names_in queue) p ≡ false → AreStamped stamps n queue → AreStamped (insert stamps p n) (n + 1) queue
stay_stamped stamps n p [] none all = tt
stay_stamped stamps n p (e ∷ es) none all =
    let here : (e.1 == p) ≡ false = or_left (e.1 == p) (stands_in (names_in es) p) none in
    let apart : e.1 ≢ p = λ same. let no : false ≡ true = sym here ∙ eq-eqb e.1 p same in cc in
    let before : e.0 < n = all.0.earlier in
    (record { earlier = omega (arith, before); kept = get_other stamps p n e.1 apart ∙ all.0.kept }, stay_stamped stamps n p es (or_right (e.1 == p) (stands_in (names_in es) p) none) all.1)

push_one : (stamps : FinMap nat_cmp ℕ) (n p : ℕ) (queue : Queue) → AreStamped (insert stamps p n) (n + 1) queue → AreStamped (insert stamps p n) (n + 1) (queue ++ (n, p) ∷ [])
push_one stamps n p [] all = (record { earlier = omega arith; kept = get_same stamps p n }, tt)
push_one stamps n p (e ∷ es) all = (all.0, push_one stamps n p es all.1)

pub pushed_stamped : (stamps : FinMap nat_cmp ℕ) (n p : ℕ) (queue : Queue) → stands_in (names_in queue) p ≡ false → AreStamped stamps n queue → AreStamped (insert stamps p n) (n + 1) (insert_entry nat_cmp queue n p)
pushed_stamped stamps n p queue none all =
    subst (AreStamped (insert stamps p n) (n + 1)) (sym (goes_last stamps n p queue all)) (push_one stamps n p queue (stay_stamped stamps n p queue none all))

-- the page waits nowhere
pub record IsUnwaited (s : State) (p : ℕ) : Type 0 where
  pub dirty : (c : ℕ) → stands_in (dirty_of s c) p ≡ false
  pub clean : stands_in s.clean p ≡ false

and_none : (a b : Bool) → a ≡ false → (a && b) ≡ false
and_none a b is = ap (λ (c : Bool). c && b) is

-- pages that are neither dirty nor clean don't
pub unwaited : (h : List Entry) (s : State) (p : ℕ) (x : Page) → AreQueues h s → get s.pages p ≡ Some x → is_dirty x.place ≡ false → is_clean x.place ≡ false → IsUnwaited s p
unwaited h s p x queues lives no_dirt no_wash = record {
  dirty = λ c. queues.dirty_ones c p ∙ ap (dirty_for c) lives ∙ and_none (is_dirty x.place) (x.client == c) no_dirt;
  clean = queues.clean_ones p ∙ ap clean_at lives ∙ no_wash;
}

module _ (v : Follower) (s : State) (p : ℕ) (shows : Shows v s) (none : IsUnwaited s p) where
  earlier_still : (q i : ℕ) → get (insert v.stamps p v.entries) q ≡ Some i → i < v.entries + 1
  earlier_still q i is = elim (same_or_other q p) [
    | inl here ↦ let at : Some v.entries ≡ Some i = sym (get_same v.stamps p v.entries) ∙ ap (get (insert v.stamps p v.entries)) (sym here) ∙ is in let same : v.entries ≡ i = cc in omega (arith, same)
    | inr other ↦ let before : i < v.entries = shows.queues.earlier q i (sym (get_other v.stamps p v.entries q other) ∙ is) in omega (arith, before)
  ]

  own_still : (q r i : ℕ) → get (insert v.stamps p v.entries) q ≡ Some i → get (insert v.stamps p v.entries) r ≡ Some i → q ≡ r
  own_still q r i is_q is_r = elim (same_or_other q p) [
    | inl here ↦ elim (same_or_other r p) [
      | inl there ↦ here ∙ sym there
      | inr other ↦ absurd (apart q r i here other is_q is_r)
    ]
    | inr other ↦ elim (same_or_other r p) [
      | inl there ↦ absurd (apart r q i there other is_r is_q)
      | inr too ↦ shows.queues.own q r i (sym (get_other v.stamps p v.entries q other) ∙ is_q) (sym (get_other v.stamps p v.entries r too) ∙ is_r)
    ]
  ]
    where
      apart : (a b j : ℕ) → a ≡ p → b ≢ p → get (insert v.stamps p v.entries) a ≡ Some j → get (insert v.stamps p v.entries) b ≡ Some j → ⊥
      apart a b j here other is_a is_b =
          let at : Some v.entries ≡ Some j = sym (get_same v.stamps p v.entries) ∙ ap (get (insert v.stamps p v.entries)) (sym here) ∙ is_a in
          let same : v.entries ≡ j = cc in
          let before : j < v.entries = shows.queues.earlier b j (sym (get_other v.stamps p v.entries b other) ∙ is_b) in
          omega (arith, same, before)

  unnamed_dirty : (d : ℕ) → stands_in (names_in (queue_at v.dirty d)) p ≡ false
  unnamed_dirty d = ap (λ (names : List ℕ). stands_in names p) (shows.queues.dirty_names d) ∙ none.dirty d

  unnamed_clean : stands_in (names_in v.clean) p ≡ false
  unnamed_clean = ap (λ (names : List ℕ). stands_in names p) shows.queues.clean_names ∙ none.clean

  with_pushed : (dirty : FinMap nat_cmp Queue) (clean : Queue) (t : State) → v.entries + 1 < 2 ^ 64 → ShowsQueues dirty clean (insert v.stamps p v.entries) (v.entries + 1) t
      → t ≡ record s { dirty = t.dirty; clean = t.clean } → Shows (record v { dirty = dirty; clean = clean; stamps = insert v.stamps p v.entries; entries = v.entries + 1 }) (count_entry t)
  with_pushed dirty clean t few queues is =
      let later : Shows (record v { entries = v.entries + 1 }) (count_entry s) = counted v s shows few in
      let both : State = record s { dirty = t.dirty; clean = t.clean } in
      let all : Shows (record v { dirty = dirty; clean = clean; stamps = insert v.stamps p v.entries; entries = v.entries + 1 }) (count_entry both) = record {
        block_len = later.block_len;
        trackers = later.trackers;
        sessions = later.sessions;
        things = record { pages = later.things.pages; buffers = later.things.buffers; loads = later.things.loads; lent = later.things.lent };
        free = later.free;
        queues = record {
          dirty_names = queues.dirty_names;
          clean_names = queues.clean_names;
          dirty_stamped = queues.dirty_stamped;
          clean_stamped = queues.clean_stamped;
          earlier = queues.earlier;
          own = queues.own;
        };
        next_name = later.next_name;
        entries = later.entries;
        few = later.few;
      } in
      subst (λ (u : State). Shows (record v { dirty = dirty; clean = clean; stamps = insert v.stamps p v.entries; entries = v.entries + 1 }) (count_entry u)) (sym is) all

  -- the page is the newest of the clean ones
  pub pushed_clean : (w : Follower) → QueuesClean v w p → w.entries + 1 < 2 ^ 64 → Shows (record w { entries = w.entries + 1 }) (count_entry (record s { clean = s.clean ++ p ∷ [] }))
  pushed_clean w queues few =
      let t : State = record s { clean = s.clean ++ p ∷ [] } in
      let n : ℕ = v.entries in
      let shown_queues : ShowsQueues v.dirty (insert_entry nat_cmp v.clean n p) (insert v.stamps p n) (n + 1) t = record {
        dirty_names = shows.queues.dirty_names;
        clean_names = pushed_names v.stamps n p v.clean shows.queues.clean_stamped ∙ ap (λ (names : List ℕ). names ++ p ∷ []) shows.queues.clean_names;
        dirty_stamped = λ d. stay_stamped v.stamps n p (queue_at v.dirty d) (unnamed_dirty d) (shows.queues.dirty_stamped d);
        clean_stamped = pushed_stamped v.stamps n p v.clean unnamed_clean shows.queues.clean_stamped;
        earlier = earlier_still;
        own = own_still;
      } in
      subst (λ (u : Follower). Shows (record u { entries = u.entries + 1 }) (count_entry t)) (sym queues.is) (with_pushed v.dirty (insert_entry nat_cmp v.clean n p) t (subst (λ (u : Follower). u.entries + 1 < 2 ^ 64) queues.is few) shown_queues refl)

  -- the page is the newest of its client's dirty ones
  pub pushed_dirty : (w : Follower) (c : ℕ) → QueuesDirty v w c p → w.entries + 1 < 2 ^ 64 → Shows (record w { entries = w.entries + 1 }) (count_entry (record s { dirty = insert s.dirty c (dirty_of s c ++ p ∷ []) }))
  pushed_dirty w c queues few =
      let t : State = record s { dirty = insert s.dirty c (dirty_of s c ++ p ∷ []) } in
      let n : ℕ = v.entries in
      let shown_queues : ShowsQueues queues.dirty v.clean (insert v.stamps p n) (n + 1) t = record {
        dirty_names = λ d. elim (same_or_other d c) [
          | inl here ↦
              ap (λ (e : ℕ). names_in (queue_at queues.dirty e)) here ∙ ap names_in queues.queues.own ∙ pushed_names v.stamps n p (queue_at v.dirty c) (shows.queues.dirty_stamped c)
              ∙ ap (λ (names : List ℕ). names ++ p ∷ []) (shows.queues.dirty_names c) ∙ sym (dirty_put s c (dirty_of s c ++ p ∷ [])) ∙ ap (dirty_of t) (sym here)
          | inr other ↦ ap names_in (queues.queues.others d other) ∙ shows.queues.dirty_names d ∙ sym (dirty_beside s c (dirty_of s c ++ p ∷ []) d other)
        ];
        clean_names = shows.queues.clean_names;
        dirty_stamped = λ d. elim (same_or_other d c) [
          | inl here ↦
              subst (λ (e : ℕ). AreStamped (insert v.stamps p n) (n + 1) (queue_at queues.dirty e)) (sym here)
              (subst (AreStamped (insert v.stamps p n) (n + 1)) (sym queues.queues.own) (pushed_stamped v.stamps n p (queue_at v.dirty c) (unnamed_dirty c) (shows.queues.dirty_stamped c)))
          | inr other ↦ subst (AreStamped (insert v.stamps p n) (n + 1)) (sym (queues.queues.others d other)) (stay_stamped v.stamps n p (queue_at v.dirty d) (unnamed_dirty d) (shows.queues.dirty_stamped d))
        ];
        clean_stamped = stay_stamped v.stamps n p v.clean unnamed_clean shows.queues.clean_stamped;
        earlier = earlier_still;
        own = own_still;
      } in
      subst (λ (u : Follower). Shows (record u { entries = u.entries + 1 }) (count_entry t)) (sym queues.is) (with_pushed queues.dirty v.clean t (subst (λ (u : Follower). u.entries + 1 < 2 ^ 64) queues.is few) shown_queues refl)
