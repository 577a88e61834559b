-- The last entries of a call tell what it left: those before them end in some state, and theirs is the last word.
use Rattle.std.proofs.Common.{◌≡◌, ◌≢◌, ℕ, ◌+◌, ◌-◌, List, [], ◌∷◌, ◌++◌, Option, Some, unwrap_or, false, All, inl, inr, refl, ap, sym, ◌∙◌, subst, append-nil}
use Rattle.std.proofs.lemmas.List.Elements.{All-head, All-tail, filter_map-append}
use Rattle.std.specs.FinMap.{get}
use Rattle.reservation_tree.proofs.Maps.{get_same}
use Rattle.reservation_tree.specs.declared.mark.Mark.{Mark}
use Rattle.pool_model.specs.declared.event.Event.{Event}
use Rattle.pool_model.specs.declared.event.Event.TheVariants.{Ask, Create, Alloc, MoveBuffer, PinAgain, UnpinOnce, StartWrite, WriteOk, WriteFailed}
use Rattle.pool_model.specs.State.{State, Page, Buffer, no_page, no_buffer, Pinned, Evicted, pins_of, page_at, buffer_at}
use Rattle.pool_model.specs.Parts.{pins_at}
use Rattle.pool_model.specs.Effects.{after}
use Rattle.pool_model.specs.Frames.{page_in}
use Rattle.pool_model.specs.Legal.{run}
use Rattle.store_api.specs.Holdings.{Holdings}
use Rattle.store_api.specs.Entries.{by, AreWrites, IsAsked, IsTaken, IsPin, IsFailedLoad, IsStaleLoad}
use Rattle.store_api.specs.WriteLaws.{write_in, written}
use Rattle.store_api.specs.EntryLaws.{AllEntriesTell}
use Rattle.pool_model.proofs.Frames.{entries_leave_rest}

run_on : (maker : ℕ) (s : State) (first last : List Event) → run s (by maker (first ++ last)) ≡ run (run s (by maker first)) (by maker last)
run_on maker s [] last = refl
run_on maker s (e ∷ first) last = run_on maker (after s (record { maker = maker; event = e })) first last

-- an entry leaves pages of other names
entry_leaves : (maker : ℕ) (s : State) (event : Event) (q p : ℕ) → page_in event ≡ Some q → q ≢ p → get (after s (record { maker = maker; event = event })).pages p ≡ get s.pages p
entry_leaves maker s event q p names apart =
    (entries_leave_rest s (record { maker = maker; event = event })).pages p (λ same. apart (ap (λ (o : Option ℕ). unwrap_or o q) (sym names ∙ same)))

-- so do two, and those behind them
two_leave : (maker : ℕ) (s : State) (first second : Event) (q r : ℕ) (rest : List Event) (p : ℕ) → page_in first ≡ Some q → page_in second ≡ Some r → All (λ x. x ≢ p) (q ∷ r ∷ written rest) → ((u : State) → All (λ x. x ≢ p) (written rest) → get (run u (by maker rest)).pages p ≡ get u.pages p) → get (run s (by maker (first ∷ second ∷ rest))).pages p ≡ get s.pages p
two_leave maker s first second q r rest p one two apart others =
    let others_apart : All (λ (x : ℕ). x ≢ p) (r ∷ written rest) = All-tail (λ (x : ℕ). x ≢ p) q (r ∷ written rest) apart in
    let mid : State = after s (record { maker = maker; event = first }) in
    others (after mid (record { maker = maker; event = second })) (All-tail (λ (x : ℕ). x ≢ p) r (written rest) others_apart)
    ∙ entry_leaves maker mid second r p two (All-head (λ (x : ℕ). x ≢ p) r (written rest) others_apart)
    ∙ entry_leaves maker s first q p one (All-head (λ (x : ℕ). x ≢ p) q (r ∷ written rest) apart)

-- writes leave all buffers
writes_leave : (maker t : ℕ) (h : Holdings) (s : State) (writes : List Event) → AreWrites t h writes → (run s (by maker writes)).buffers ≡ s.buffers
writes_leave maker t h s [] are = refl
writes_leave maker t h s (StartWrite p ∷ WriteOk q ∷ rest) (own, ended, are) = writes_leave maker t h (run s (by maker (StartWrite p ∷ WriteOk q ∷ []))) rest are
writes_leave maker t h s (StartWrite p ∷ WriteFailed q sum_before sum_after ∷ rest) (own, ended, are) = writes_leave maker t h (run s (by maker (StartWrite p ∷ WriteFailed q sum_before sum_after ∷ []))) rest are
writes_leave maker t h s _ are = absurd are

-- and pages of other names
writes_leave_page : (maker t : ℕ) (h : Holdings) (s : State) (writes : List Event) (p : ℕ) → AreWrites t h writes → All (λ q. q ≢ p) (written writes) → get (run s (by maker writes)).pages p ≡ get s.pages p
writes_leave_page maker t h s [] p are apart = refl
writes_leave_page maker t h s (StartWrite q ∷ WriteOk r ∷ rest) p (own, ended, are) apart =
    two_leave maker s (StartWrite q) (WriteOk r) q r rest p refl refl apart (λ u. writes_leave_page maker t h u rest p are)
writes_leave_page maker t h s (StartWrite q ∷ WriteFailed r sum_before sum_after ∷ rest) p (own, ended, are) apart =
    two_leave maker s (StartWrite q) (WriteFailed r sum_before sum_after) q r rest p refl refl apart (λ u. writes_leave_page maker t h u rest p are)
writes_leave_page maker t h s _ p are apart = absurd are

module _ (maker : ℕ) (s : State) (events : List Event) where
  -- the state before the last entries
  pub record Ends (last : List Event) : Type 0 where
    pub before : State
    pub so : run s (by maker events) ≡ run before (by maker last)

  abbrev asked_ends : (t : ℕ) (h : Holdings) (last : List Event) → IsAsked t h last events → Ends last
  asked_ends t h last asked =
      record {
        before = run s (by maker (Ask ∷ asked.0));
        so = ap (λ (xs : List Event). run s (by maker xs)) asked.2 ∙ run_on maker s (Ask ∷ asked.0) last;
      }

  taken_ends : (t : ℕ) (h : Holdings) (last : List Event) → IsTaken t h last events → Ends last
  taken_ends t h last taken =
      let whole : Ends (taken.0 ++ last) = asked_ends t h (taken.0 ++ last) taken.2 in
      record {
        before = run whole.before (by maker taken.0);
        so = whole.so ∙ run_on maker whole.before taken.0 last;
      }

  abbrev now : State
  now = run s (by maker events)

  page_told : (last : List Event) (p : ℕ) (page : Page) → (ends : Ends last) → get (run ends.before (by maker last)).pages p ≡ Some page → page_at now p ≡ page
  page_told last p page ends is = ap (λ (x : State). page_at x p) ends.so ∙ ap (λ (o : Option Page). unwrap_or o no_page) is

  buffer_told : (last : List Event) (f : ℕ) (buffer : Buffer) → (ends : Ends last) → get (run ends.before (by maker last)).buffers f ≡ Some buffer → buffer_at now f ≡ buffer
  buffer_told last f buffer ends is = ap (λ (x : State). buffer_at x f) ends.so ∙ ap (λ (o : Option Buffer). unwrap_or o no_buffer) is

  pin_tells : (t : ℕ) (h : Holdings) (p : ℕ) → IsPin t h p events → (page_at now p).place ≡ Pinned 1
  pin_tells t h p (inl here) = ap (λ (x : Page). x.place) (page_told _ p _ (asked_ends _ _ _ here) (get_same _ p _))
  pin_tells t h p (inr loaded) = ap (λ (x : Page). x.place) (page_told _ p _ (taken_ends _ _ _ loaded) (get_same _ p _))

  failure_tells : (t : ℕ) (h : Holdings) (p entry : ℕ) → IsFailedLoad t h p entry events → (page_at now p).place ≡ Evicted
  failure_tells t h p entry failed =
      ap (λ (x : Page). x.place) (page_told _ p _ (taken_ends _ _ _ failed.2) (get_same _ p _))

  stale_tells : (t : ℕ) (h : Holdings) (p : ℕ) (wanted found : Mark) → IsStaleLoad t h p wanted found events → (page_at now p).place ≡ Evicted
  stale_tells t h p wanted found stale =
      ap (λ (x : Page). x.place) (page_told _ p _ (taken_ends _ _ _ stale.1) (get_same _ p _))

  create_tells : (t : ℕ) (h : Holdings) (p client blocks key : ℕ) → IsTaken t h (Create p client blocks key ∷ []) events → page_at now p ≡ record { key = key; session = maker; client = client; blocks = blocks; place = Pinned 1; has_slots = false; version = 0 }
  create_tells t h p client blocks key taken = page_told _ p _ (taken_ends _ _ _ taken) (get_same _ p _)

  alloc_tells : (t : ℕ) (h : Holdings) (f client blocks : ℕ) → IsTaken t h (Alloc f client blocks ∷ []) events → buffer_at now f ≡ record { client = client; blocks = blocks }
  alloc_tells t h f client blocks taken = buffer_told _ f _ (taken_ends _ _ _ taken) (get_same _ f _)

  move_tells : (t : ℕ) (h : Holdings) (f to : ℕ) → IsAsked t h (MoveBuffer f to ∷ []) events → buffer_at now f ≡ record (buffer_at s f) { client = to }
  move_tells t h f to asked =
      let ends : Ends (MoveBuffer f to ∷ []) = asked_ends t h _ asked in
      let kept : ends.before.buffers ≡ s.buffers = writes_leave maker t h (after s (record { maker = maker; event = Ask })) asked.0 asked.1 in
      let same : buffer_at ends.before f ≡ buffer_at s f = ap (λ xs. unwrap_or (get xs f) no_buffer) kept in
      buffer_told (MoveBuffer f to ∷ []) f (record (buffer_at ends.before f) { client = to }) ends (get_same _ f _)
      ∙ ap (λ (b : Buffer). record b { client = to }) same

  again_tells : (t : ℕ) (h : Holdings) (p : ℕ) → IsAsked t h (PinAgain p ∷ []) events → All (λ q. q ≢ p) (written events) → (page_at now p).place ≡ Pinned (pins_at s p + 1)
  again_tells t h p asked apart =
      let ends : Ends (PinAgain p ∷ []) = asked_ends t h _ asked in
      let all : written events ≡ written asked.0 = ap written asked.2 ∙ filter_map-append write_in asked.0 (PinAgain p ∷ []) ∙ append-nil (written asked.0) in
      let others : All (λ q. q ≢ p) (written asked.0) = subst (λ (ps : List ℕ). All (λ q. q ≢ p) ps) all apart in
      let kept : get ends.before.pages p ≡ get s.pages p = writes_leave_page maker t h (after s (record { maker = maker; event = Ask })) asked.0 p asked.1 others in
      ap (λ (x : Page). x.place) (page_told _ p _ ends (get_same _ p _)) ∙ ap (λ (o : Option Page). Pinned (pins_of (unwrap_or o no_page).place + 1)) kept

  once_tells : (p : ℕ) → events ≡ UnpinOnce p ∷ [] → (page_at now p).place ≡ Pinned (pins_at s p - 1)
  once_tells p is =
      ap (λ (es : List Event). (page_at (run s (by maker es)) p).place) is ∙ ap (λ (o : Option Page). (unwrap_or o no_page).place) (get_same s.pages p _)

pub entries_tell : AllEntriesTell
entries_tell maker s events =
    record {
      pinned = pin_tells maker s events;
      not_loaded = failure_tells maker s events;
      stale = stale_tells maker s events;
      created = create_tells maker s events;
      lent = alloc_tells maker s events;
      moved = move_tells maker s events;
      pinned_again = again_tells maker s events;
      unpinned_once = once_tells maker s events;
    }
