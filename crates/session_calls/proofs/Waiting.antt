-- A client's newest dirty page, and how many writes may come.
use Rattle.std.proofs.Common.{◌≡◌, ℕ, ◌+◌, ◌<◌, ◌≤◌, ◌==◌, Bool, true, false, if◌then◌else◌, not, List, [], ◌∷◌, ◌++◌, length, Option, Some, None, is_some, unwrap_or, refl, sym, ap, ◌∙◌, subst, arith, eq-eqb}
use Rattle.std.proofs.lemmas.Bool.{eqb-true, and_parts}
use Rattle.std.specs.FinMap.{get, insert}
use Rattle.std.specs.Option.{option_or, option_and_then}
use Rattle.reservation_tree.proofs.Maps.{get_same}
use Rattle.pool_model.specs.declared.event.Event.TheVariants.{StartWrite, WriteOk, WriteFailed}
use Rattle.pool_model.specs.declared.entry.Entry.{Entry}
use Rattle.pool_model.specs.State.{Opening, Place, Pinned, Dirty, Flying, Loading, Clean, Evicted, Page, Session, Sessions, State, page_at, no_page, dirty_of}
use Rattle.pool_model.specs.Orders.{stands_in, is_dirty, dirty_for, AreQueues}
use Rattle.pool_model.specs.Parts.{without, with_failures, keep_first}
use Rattle.pool_model.specs.Legal.{state_after, IsLegal}
use Rattle.pool_model.specs.Effects.{after}
use Rattle.pool_model.proofs.Queues.{stands_new}
use Rattle.pool_model.proofs.Lined.{legal_keeps_queues}
use Rattle.pool_model.proofs.Keeping.{first_kept}
use Rattle.pin_core.specs.calls.Turns.{failure_of}
use Rattle.session_calls.specs.Writing.{writes_left}

dirty_place : (at : Place) → is_dirty at ≡ true → at ≡ Dirty
dirty_place Dirty is = refl
dirty_place (Pinned count) is = let never : false ≡ true = is in cc
dirty_place (Flying writer) is = let never : false ≡ true = is in cc
dirty_place Loading is = let never : false ≡ true = is in cc
dirty_place Clean is = let never : false ≡ true = is in cc
dirty_place Evicted is = let never : false ≡ true = is in cc

-- a live page that is dirty, and this client's
pub record IsDirtyOf (s : State) (c p : ℕ) : Type 0 where
  pub page : Page
  pub lives : get s.pages p ≡ Some page
  pub dirty : page.place ≡ Dirty
  pub client : page.client ≡ c
  pub is : page_at s p ≡ page

dirty_by : (s : State) (c p : ℕ) (o : Option Page) → get s.pages p ≡ o → dirty_for c o ≡ true → IsDirtyOf s c p
dirty_by s c p None there is = let never : false ≡ true = is in cc
dirty_by s c p (Some x) there is = record {
  page = x;
  lives = there;
  dirty = dirty_place x.place ((and_parts (is_dirty x.place) (x.client == c) is).0);
  client = eqb-true x.client c ((and_parts (is_dirty x.place) (x.client == c) is).1);
  is = ap (λ (o : Option Page). unwrap_or o no_page) there;
}

-- the newest of a client's dirty pages is one
pub newest_in : (o : Opening) (hist : List Entry) → IsLegal o hist → (s : State) → s ≡ state_after o hist → (c p : ℕ) (older : List ℕ) → dirty_of s c ≡ older ++ p ∷ [] → IsDirtyOf s c p
newest_in o hist legal s same c p older newest =
    let queues : AreQueues hist s = subst (AreQueues hist) (sym same) (legal_keeps_queues o hist legal) in
    let there : stands_in (dirty_of s c) p ≡ true = ap (λ (names : List ℕ). stands_in names p) newest ∙ stands_new older p in
    dirty_by s c p (get s.pages p) refl (sym (queues.dirty_ones c p) ∙ there)

kept_short : (p q : ℕ) (names : List ℕ) (b : Bool) → length (without p names) ≤ length names → length (if b then q ∷ without p names else without p names) ≤ length (q ∷ names)
kept_short p q names true short = omega (arith, short)
kept_short p q names false short = omega (arith, short)

short_without : (p : ℕ) (names : List ℕ) → length (without p names) ≤ length names
short_without p [] = omega arith
short_without p (q ∷ names) = kept_short p q names (not (q == p)) (short_without p names)

kept_last : (p q : ℕ) (older : List ℕ) (b : Bool) → length (without p (older ++ p ∷ [])) ≤ length older → length (if b then q ∷ without p (older ++ p ∷ []) else without p (older ++ p ∷ [])) ≤ length (q ∷ older)
kept_last p q older true short = omega (arith, short)
kept_last p q older false short = omega (arith, short)

gone_last : (p : ℕ) (older : List ℕ) → length (without p (older ++ p ∷ [])) ≤ length older
gone_last p [] =
    let none : length (without p (p ∷ [])) ≡ 0 = ap (λ (b : Bool). length (if not b then p ∷ [] else [])) (eq-eqb p p refl) in
    omega (arith, none)
gone_last p (q ∷ older) = kept_last p q older (not (q == p)) (gone_last p older)

length_last : (older : List ℕ) (p : ℕ) → length (older ++ p ∷ []) ≡ length older + 1
length_last [] p = refl
length_last (q ∷ older) p = let rest : length (older ++ p ∷ []) ≡ length older + 1 = length_last older p in omega (arith, rest)

-- a page went out
abbrev pub out : State → ℕ → ℕ → State
out s m p = after s (record { maker = m; event = StartWrite p })

some_or : (o : Option ℕ) (n : ℕ) → is_some (option_or o (Some n)) ≡ true
some_or None n = refl
some_or (Some j) n = refl

module _ (s : State) (m c p : ℕ) (it : IsDirtyOf s c p) (older : List ℕ) (newest : dirty_of s c ≡ older ++ p ∷ []) (none : failure_of s m c ≡ None) where
  abbrev pub mid : State
  mid = out s m p

  client_is : (page_at s p).client ≡ c
  client_is = ap (λ (x : Page). x.client) it.is ∙ it.client

  here : get mid.pages p ≡ Some (record (page_at s p) { place = Flying m; version = s.entries })
  here = get_same s.pages p _

  mid_is : page_at mid p ≡ record (page_at s p) { place = Flying m; version = s.entries }
  mid_is = ap (λ (o : Option Page). unwrap_or o no_page) here

  left_dirty : dirty_of mid c ≡ without p (dirty_of s c)
  left_dirty = ap (dirty_of mid) (sym client_is) ∙ ap (λ (o : Option (List ℕ)). unwrap_or o []) (get_same s.dirty (page_at s p).client _) ∙ ap (λ (k : ℕ). without p (dirty_of s k)) client_is

  left_before : writes_left m c s ≡ length older + 2
  left_before =
      let one : writes_left m c s ≡ length (dirty_of s c) + 1 = ap (λ (o : Option ℕ). if is_some o then 0 else length (dirty_of s c) + 1) none in
      let two : length (dirty_of s c) ≡ length older + 1 = ap length newest ∙ length_last older p in
      omega (arith, one, two)

  -- a page that was written waits no more
  pub written_left : writes_left m c (after mid (record { maker = m; event = WriteOk p })) < writes_left m c s
  written_left =
      let after_it : writes_left m c (after mid (record { maker = m; event = WriteOk p })) ≡ length (dirty_of mid c) + 1 = ap (λ (o : Option ℕ). if is_some o then 0 else length (dirty_of mid c) + 1) none in
      let fewer : length (dirty_of mid c) ≤ length older = subst (λ (names : List ℕ). length names ≤ length older) (sym (left_dirty ∙ ap (without p) newest)) (gone_last p older) in
      let was = left_before in
      omega (arith, after_it, fewer, was)

  -- after a failure none is written
  pub unwritten_left : (session : Session) → get s.sessions m ≡ Some session → (page_at s p).session ≡ m → (before now : ℕ)
      → writes_left m c (after mid (record { maker = m; event = WriteFailed p before now })) < writes_left m c s
  unwritten_left session lives own before now =
      let new : State = after mid (record { maker = m; event = WriteFailed p before now }) in
      let whose : (page_at mid p).session ≡ m = ap (λ (x : Page). x.session) mid_is ∙ own in
      let for : (page_at mid p).client ≡ c = ap (λ (x : Page). x.client) mid_is ∙ client_is in
      let noted : new.sessions ≡ with_failures (keep_first c mid.entries) m s.sessions =
      ap (λ (k : ℕ). with_failures (keep_first k mid.entries) (page_at mid p).session s.sessions) for ∙ ap (λ (k : ℕ). with_failures (keep_first c mid.entries) k s.sessions) whose in
      let changed : Session = record session { failures = keep_first c mid.entries session.failures } in
      let now_is : with_failures (keep_first c mid.entries) m s.sessions ≡ insert s.sessions m changed =
      ap (λ (o : Option Session). elim o [ None ↦ s.sessions | Some x ↦ insert s.sessions m (record x { failures = keep_first c mid.entries x.failures }) ]) lives in
      let there : get new.sessions m ≡ Some changed = ap (λ (ss : Sessions). get ss m) (noted ∙ now_is) ∙ get_same s.sessions m changed in
      let kept : is_some (failure_of new m c) ≡ true =
      ap (λ (o : Option Session). is_some (option_and_then (λ x. get x.failures c) o)) there ∙ ap is_some (first_kept c mid.entries session.failures) ∙ some_or (get session.failures c) mid.entries in
      let zero_left : writes_left m c new ≡ 0 = ap (λ (b : Bool). if b then 0 else length (dirty_of new c) + 1) kept in
      let was = left_before in
      omega (arith, zero_left, was)
