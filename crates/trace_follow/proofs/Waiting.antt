-- Pages that wait: what a queue has after one came or went, and that it is what the state has.
use Rattle.std.proofs.Common.{◌≡◌, ◌≢◌, ◌<◌, ℕ, ◌==◌, Bool, true, false, not, ◌||◌, cond, List, [], ◌∷◌, Option, Some, None, unwrap_or, refl, ap, sym, ◌∙◌, subst, arith, eq-eqb, ne_eqb, eqb-true, inl, inr}
use Rattle.std.specs.Ordering.{nat_cmp}
use Rattle.std.specs.Cmp.{unsigned_tied}
use Rattle.std.specs.List.{AllByRecursion}
use Rattle.std.specs.FinMap.{FinMap, get, insert, remove}
use Rattle.std.specs.BTreeMap.{is_at}
use Rattle.reservation_tree.proofs.Maps.{get_same, get_other, removed_same, removed_other, same_or_other}
use Rattle.pool_model.specs.State.{State, dirty_of}
use Rattle.pool_model.specs.Parts.{without}
use Rattle.pool_model.specs.Orders.{IsBefore, InOrder, stands_in}
use Rattle.trace_follow.specs.declared.follower.Follower.{Follower}
use Rattle.trace_follow.specs.Queues.{Queue, names_in, queue_at, AreStamped}
use Rattle.trace_follow.specs.Showing.{ShowsQueues, Shows}
use Rattle.trace_follow.specs.Waiting.{taken, TakesOut, Unqueues}

-- nothing is before itself
not_before : (o : Option ℕ) → IsBefore o o → ⊥
not_before None before = before
not_before (Some i) before = absurd (omega (arith, before))

-- what all come behind isn't among them
unlisted : (time : ℕ → Option ℕ) (p : ℕ) (names : List ℕ) → AllByRecursion (λ q. IsBefore (time p) (time q)) names → without p names ≡ names
unlisted time p [] later = refl
unlisted time p (n ∷ names) later =
    let apart : n ≢ p = λ same. not_before (time p) (subst (λ (m : ℕ). IsBefore (time p) (time m)) same later.0) in
    ap (λ (b : Bool). cond (not b) (n ∷ without p names) (without p names)) (ne_eqb n p apart) ∙ ap (λ (t : List ℕ). n ∷ t) (unlisted time p names later.1)

-- this page doesn't wait here
abbrev pub Lacks : ℕ → Queue → Type 0
Lacks p queue = AllByRecursion (λ e. e.1 ≢ p) queue

later_lacks : (time : ℕ → Option ℕ) (p : ℕ) (queue : Queue) → AllByRecursion (λ q. IsBefore (time p) (time q)) (names_in queue) → Lacks p queue
later_lacks time p [] later = tt
later_lacks time p (e ∷ es) later = ((λ same. not_before (time p) (subst (λ (m : ℕ). IsBefore (time p) (time m)) same later.0)), later_lacks time p es later.1)

unlisted_lacks : (p : ℕ) (queue : Queue) → stands_in (names_in queue) p ≡ false → Lacks p queue
unlisted_lacks p [] none = tt
unlisted_lacks p (e ∷ es) none =
    let apart : e.1 ≢ p = λ same.
    let yes : stands_in (names_in (e ∷ es)) p ≡ true = ap (λ (b : Bool). b || stands_in (names_in es) p) (eq-eqb e.1 p same) in
    let no : false ≡ true = sym none ∙ yes in cc in
    (apart, unlisted_lacks p es (sym (ap (λ (b : Bool). b || stands_in (names_in es) p) (ne_eqb e.1 p apart)) ∙ none))

module _ (stamps : FinMap nat_cmp ℕ) (n p : ℕ) where
  -- what other pages have stays, where this page's stamp goes
  pub kept_stamped : (queue : Queue) → AreStamped stamps n queue → Lacks p queue → AreStamped (remove stamps p) n queue
  kept_stamped [] all other = tt
  kept_stamped (e ∷ es) all other = (record { earlier = all.0.earlier; kept = removed_other stamps p e.1 other.0 ∙ all.0.kept }, kept_stamped es all.1 other.1)

  pub none_lacks : get stamps p ≡ None → (queue : Queue) → AreStamped stamps n queue → Lacks p queue
  none_lacks none [] all = tt
  none_lacks none (e ∷ es) all = ((λ same. let both : ◌≡◌ {A = Option ℕ} None (Some e.0) = sym none ∙ ap (get stamps) (sym same) ∙ all.0.kept in cc), none_lacks none es all.1)

  -- a stamp that is left was there before
  pub stamped_before : (q i : ℕ) → get (remove stamps p) q ≡ Some i → get stamps q ≡ Some i
  stamped_before q i is = elim (same_or_other q p) [
    | inl here ↦ let both : ◌≡◌ {A = Option ℕ} None (Some i) = sym (removed_same stamps p) ∙ ap (get (remove stamps p)) (sym here) ∙ is in cc
    | inr other ↦ sym (removed_other stamps p q other) ∙ is
  ]

  -- a page without a stamp doesn't wait
  pub none_waits : get stamps p ≡ None → (queue : Queue) → AreStamped stamps n queue → without p (names_in queue) ≡ names_in queue
  none_waits none [] all = refl
  none_waits none (e ∷ es) all =
      let apart : e.1 ≢ p = λ same. let both : ◌≡◌ {A = Option ℕ} None (Some e.0) = sym none ∙ ap (get stamps) (sym same) ∙ all.0.kept in cc in
      ap (λ (b : Bool). cond (not b) (e.1 ∷ without p (names_in es)) (without p (names_in es))) (ne_eqb e.1 p apart) ∙ ap (λ (t : List ℕ). e.1 ∷ t) (none_waits none es all.1)

  module _ (i : ℕ) (is : get stamps p ≡ Some i) (own : (q r j : ℕ) → get stamps q ≡ Some j → get stamps r ≡ Some j → q ≡ r) where
    -- the page is taken out by its stamp
    pub taken_names : (time : ℕ → Option ℕ) (queue : Queue) → AreStamped stamps n queue → InOrder time (names_in queue) → names_in (taken i queue) ≡ without p (names_in queue)
    taken_names time [] all order = refl
    taken_names time (e ∷ es) all order =
        elim (is_at (nat_cmp i) e.0) as (λ b. is_at (nat_cmp i) e.0 ≡ b → names_in (cond b es (e ∷ taken i es)) ≡ cond (not (e.1 == p)) (e.1 ∷ without p (names_in es)) (without p (names_in es))) [
          | true ↦ λ here.
              let at : i ≡ e.0 = eqb-true i e.0 (sym (unsigned_tied i e.0) ∙ here) in
              let same : e.1 ≡ p = own e.1 p e.0 all.0.kept (is ∙ ap (λ (j : ℕ). Some j) at) in
              sym (ap (λ (b : Bool). cond (not b) (e.1 ∷ without p (names_in es)) (without p (names_in es))) (eq-eqb e.1 p same)
              ∙ unlisted time p (names_in es) (subst (λ (m : ℕ). AllByRecursion (λ q. IsBefore (time m) (time q)) (names_in es)) same order.1))
          | false ↦ λ other.
              let apart : e.1 ≢ p = λ same.
              let both : Some e.0 ≡ Some i = sym all.0.kept ∙ ap (get stamps) same ∙ is in
              let at : i ≡ e.0 = cc in
              let no : false ≡ true = sym other ∙ unsigned_tied i e.0 ∙ eq-eqb i e.0 at in cc in
              sym (ap (λ (b : Bool). cond (not b) (e.1 ∷ without p (names_in es)) (without p (names_in es))) (ne_eqb e.1 p apart)
              ∙ ap (λ (t : List ℕ). e.1 ∷ t) (sym (taken_names time es all.1 order.2)))
        ] refl

    pub taken_lacks : (time : ℕ → Option ℕ) (queue : Queue) → AreStamped stamps n queue → InOrder time (names_in queue) → Lacks p (taken i queue)
    taken_lacks time [] all order = tt
    taken_lacks time (e ∷ es) all order =
        elim (is_at (nat_cmp i) e.0) as (λ b. is_at (nat_cmp i) e.0 ≡ b → Lacks p (cond b es (e ∷ taken i es))) [
          | true ↦ λ here.
              let at : i ≡ e.0 = eqb-true i e.0 (sym (unsigned_tied i e.0) ∙ here) in
              let same : e.1 ≡ p = own e.1 p e.0 all.0.kept (is ∙ ap (λ (j : ℕ). Some j) at) in
              later_lacks time p es (subst (λ (m : ℕ). AllByRecursion (λ q. IsBefore (time m) (time q)) (names_in es)) same order.1)
          | false ↦ λ other. (
            (λ same.
                let both : Some e.0 ≡ Some i = sym all.0.kept ∙ ap (get stamps) same ∙ is in
                let at : i ≡ e.0 = cc in
                let no : false ≡ true = sym other ∙ unsigned_tied i e.0 ∙ eq-eqb i e.0 at in cc),
            taken_lacks time es all.1 order.2,
          )
        ] refl

  pub taken_stamped : (i : ℕ) (queue : Queue) → AreStamped stamps n queue → AreStamped stamps n (taken i queue)
  taken_stamped i [] all = tt
  taken_stamped i (e ∷ es) all = elim (is_at (nat_cmp i) e.0) as (λ b. AreStamped stamps n (cond b es (e ∷ taken i es))) [
    | true ↦ all.1
    | false ↦ (all.0, taken_stamped i es all.1)
  ]

-- the dirty pages of a state in which those of one client changed
pub dirty_put : (s : State) (c : ℕ) (names : List ℕ) → dirty_of (record s { dirty = insert s.dirty c names }) c ≡ names
dirty_put s c names = ap (λ (o : Option (List ℕ)). unwrap_or o []) (get_same s.dirty c names)

pub dirty_beside : (s : State) (c : ℕ) (names : List ℕ) (d : ℕ) → d ≢ c → dirty_of (record s { dirty = insert s.dirty c names }) d ≡ dirty_of s d
dirty_beside s c names d other = ap (λ (o : Option (List ℕ)). unwrap_or o []) (get_other s.dirty c names d other)

-- the orders in which the pages of a state wait
pub record AreOrdered (s : State) : Type 0 where
  pub dirty_time : ℕ → Option ℕ
  pub dirty : (c : ℕ) → InOrder dirty_time (dirty_of s c)
  pub clean_time : ℕ → Option ℕ
  pub clean : InOrder clean_time s.clean

module _ (v w : Follower) (s : State) (c p : ℕ) (shows : Shows v s) (ordered : AreOrdered s) (alone : (d : ℕ) → d ≢ c → stands_in (dirty_of s d) p ≡ false) where
  abbrev pub unqueued_state : State
  unqueued_state = record s { dirty = insert s.dirty c (without p (dirty_of s c)); clean = without p s.clean }

  abbrev left : FinMap nat_cmp ℕ
  left = remove v.stamps p

  left_earlier : (q i : ℕ) → get left q ≡ Some i → i < v.entries
  left_earlier q i is = shows.queues.earlier q i (stamped_before v.stamps v.entries p q i is)

  left_own : (q r i : ℕ) → get left q ≡ Some i → get left r ≡ Some i → q ≡ r
  left_own q r i is also = shows.queues.own q r i (stamped_before v.stamps v.entries p q i is) (stamped_before v.stamps v.entries p r i also)

  of_none : get v.stamps p ≡ None → ShowsQueues v.dirty v.clean left v.entries unqueued_state
  of_none none = record {
    dirty_names = λ d. elim (same_or_other d c) [
      | inl here ↦
          ap (λ (e : ℕ). names_in (queue_at v.dirty e)) here ∙ sym (none_waits v.stamps v.entries p none (queue_at v.dirty c) (shows.queues.dirty_stamped c)) ∙ ap (without p) (shows.queues.dirty_names c)
          ∙ sym (dirty_put s c (without p (dirty_of s c))) ∙ ap (dirty_of unqueued_state) (sym here)
      | inr other ↦ shows.queues.dirty_names d ∙ sym (dirty_beside s c (without p (dirty_of s c)) d other)
    ];
    clean_names = sym (none_waits v.stamps v.entries p none v.clean shows.queues.clean_stamped) ∙ ap (without p) shows.queues.clean_names;
    dirty_stamped = λ d. kept_stamped v.stamps v.entries p (queue_at v.dirty d) (shows.queues.dirty_stamped d) (none_lacks v.stamps v.entries p none (queue_at v.dirty d) (shows.queues.dirty_stamped d));
    clean_stamped = kept_stamped v.stamps v.entries p v.clean shows.queues.clean_stamped (none_lacks v.stamps v.entries p none v.clean shows.queues.clean_stamped);
    earlier = left_earlier;
    own = left_own;
  }

  of_some : (stamp : ℕ) (takes : TakesOut v w c p stamp) → ShowsQueues takes.dirty (taken stamp v.clean) left v.entries unqueued_state
  of_some stamp takes = record {
    dirty_names = λ d. elim (same_or_other d c) [
      | inl here ↦
          let order : InOrder ordered.dirty_time (names_in (queue_at v.dirty c)) = subst (InOrder ordered.dirty_time) (sym (shows.queues.dirty_names c)) (ordered.dirty c) in
          ap (λ (e : ℕ). names_in (queue_at takes.dirty e)) here ∙ ap names_in takes.queues.own
          ∙ taken_names v.stamps v.entries p stamp takes.stamped shows.queues.own ordered.dirty_time (queue_at v.dirty c) (shows.queues.dirty_stamped c) order
          ∙ ap (without p) (shows.queues.dirty_names c) ∙ sym (dirty_put s c (without p (dirty_of s c))) ∙ ap (dirty_of unqueued_state) (sym here)
      | inr other ↦ ap names_in (takes.queues.others d other) ∙ shows.queues.dirty_names d ∙ sym (dirty_beside s c (without p (dirty_of s c)) d other)
    ];
    clean_names =
        let order : InOrder ordered.clean_time (names_in v.clean) = subst (InOrder ordered.clean_time) (sym shows.queues.clean_names) ordered.clean in
        taken_names v.stamps v.entries p stamp takes.stamped shows.queues.own ordered.clean_time v.clean shows.queues.clean_stamped order ∙ ap (without p) shows.queues.clean_names;
    dirty_stamped = λ d. elim (same_or_other d c) [
      | inl here ↦
          let order : InOrder ordered.dirty_time (names_in (queue_at v.dirty c)) = subst (InOrder ordered.dirty_time) (sym (shows.queues.dirty_names c)) (ordered.dirty c) in
          let lacks : Lacks p (taken stamp (queue_at v.dirty c)) = taken_lacks v.stamps v.entries p stamp takes.stamped shows.queues.own ordered.dirty_time (queue_at v.dirty c) (shows.queues.dirty_stamped c) order in
          subst (λ (e : ℕ). AreStamped left v.entries (queue_at takes.dirty e)) (sym here)
          (subst (AreStamped left v.entries) (sym takes.queues.own)
          (kept_stamped v.stamps v.entries p (taken stamp (queue_at v.dirty c)) (taken_stamped v.stamps v.entries p stamp (queue_at v.dirty c) (shows.queues.dirty_stamped c)) lacks))
      | inr other ↦
          let lacks : Lacks p (queue_at v.dirty d) = unlisted_lacks p (queue_at v.dirty d) (ap (λ (names : List ℕ). stands_in names p) (shows.queues.dirty_names d) ∙ alone d other) in
          subst (AreStamped left v.entries) (sym (takes.queues.others d other)) (kept_stamped v.stamps v.entries p (queue_at v.dirty d) (shows.queues.dirty_stamped d) lacks)
    ];
    clean_stamped =
        let order : InOrder ordered.clean_time (names_in v.clean) = subst (InOrder ordered.clean_time) (sym shows.queues.clean_names) ordered.clean in
        let lacks : Lacks p (taken stamp v.clean) = taken_lacks v.stamps v.entries p stamp takes.stamped shows.queues.own ordered.clean_time v.clean shows.queues.clean_stamped order in
        kept_stamped v.stamps v.entries p (taken stamp v.clean) (taken_stamped v.stamps v.entries p stamp v.clean shows.queues.clean_stamped) lacks;
    earlier = left_earlier;
    own = left_own;
  }

  with_queues : (dirty : FinMap nat_cmp Queue) (clean : Queue) → ShowsQueues dirty clean left v.entries unqueued_state → Shows (record v { dirty = dirty; clean = clean; stamps = left }) unqueued_state
  with_queues dirty clean queues = record {
    block_len = shows.block_len;
    trackers = shows.trackers;
    sessions = shows.sessions;
    things = record { pages = shows.things.pages; buffers = shows.things.buffers; loads = shows.things.loads; lent = shows.things.lent };
    free = shows.free;
    queues = queues;
    next_name = shows.next_name;
    entries = shows.entries;
    few = shows.few;
  }

  -- the page waits no longer in the state too
  pub unqueued : Unqueues v w c p → Shows w unqueued_state
  unqueued (inl none) = subst (λ (u : Follower). Shows u unqueued_state) (sym none.1) (with_queues v.dirty v.clean (of_none none.0))
  unqueued (inr some) = subst (λ (u : Follower). Shows u unqueued_state) (sym some.1.is) (with_queues some.1.dirty (taken some.0 v.clean) (of_some some.0 some.1))
