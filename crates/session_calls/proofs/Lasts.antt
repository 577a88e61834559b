-- A page in a job stays as it is under others' entries.
use Rattle.std.proofs.Common.{◌≡◌, ◌≢◌, ℕ, ◌<◌, ◌⊎◌, List, [], ◌∷◌, ◌++◌, Bool, true, false, if◌then◌else◌, Some, None, refl, sym, ap, ◌∙◌, arith, inl, inr, eq-eqb, ne_eqb}
use Rattle.std.proofs.lemmas.Bool.{false≢true}
use Rattle.std.proofs.lemmas.List.{append_assoc, append-nil}
use Rattle.std.specs.FinMap.{get, insert, remove}
use Rattle.reservation_tree.proofs.Maps.{get_other, removed_other}
use Rattle.pool_model.specs.declared.event.Event.{Event}
use Rattle.pool_model.specs.declared.event.Event.TheVariants.{AddTracker, Create, PinHere, PinLoad, ReadOk, ReadFailed, ReadStale, PinAgain, UnpinOnce, Unpin, Extract, Destroy, StartWrite, WriteOk, WriteFailed, Evict}
use Rattle.pool_model.specs.declared.entry.Entry.{Entry}
use Rattle.pool_model.specs.State.{Opening, Place, Pinned, Dirty, Flying, Loading, Clean, Evicted, Page, State}
use Rattle.pool_model.specs.LookingBack.{made_by, left_in, content_from}
use Rattle.pool_model.specs.MayFollow.{Allows, MayFollow}
use Rattle.pool_model.specs.Effects.{effect, after}
use Rattle.pool_model.specs.Legal.{run, Follow, state_after, IsLegal}
use Rattle.pool_model.specs.Sound.{IsSound}
use Rattle.pool_model.proofs.Seats.{some_is}
use Rattle.pool_model.proofs.Kept.{entry_sound, legal_sound}
use Rattle.pool_model.proofs.Fronts.{legal_fronts, legal_grows_so, state_runs_on}
use Rattle.pool_model.proofs.OwnEntries.{content_more, made_by_other}
use Rattle.own_entries.specs.Busy.{is_busy}
use Rattle.session_calls.specs.Having.{AllBeside}

-- the page is written by this maker, or loaded for it
abbrev pub IsInJob : ℕ → Page → Type 0
IsInJob m x = (x.place ≡ Flying m) ⊎ ((x.place ≡ Loading) × (x.session ≡ m))

is_idle : (m : ℕ) (place : Place) → ((writer : ℕ) → place ≢ Flying writer) → place ≢ Loading → is_busy m place ≡ false
is_idle m (Flying writer) not_flying not_loading = absurd (not_flying writer refl)
is_idle m Loading not_flying not_loading = absurd (not_loading refl)
is_idle m _ not_flying not_loading = refl

-- a page in no job of this maker's isn't this one, nor is one that is loaded for another
module _ (before : List Entry) (s : State) (sound : IsSound s) (maker m p : ℕ) (other : maker ≢ m) (x : Page) (is : get s.pages p ≡ Some x) (job : IsInJob m x) where
  busy : is_busy m x.place ≡ true
  busy = elim job [ inl flies ↦ ap (is_busy m) flies ∙ eq-eqb m m refl | inr own ↦ ap (is_busy m) own.0 ]

  not_idle : (q : ℕ) (y : Page) → get s.pages q ≡ Some y → (place : Place) → y.place ≡ place → is_busy m place ≡ false → p ≢ q
  not_idle q y there place at idle same =
      let one : x ≡ y = some_is x y (sym is ∙ ap (get s.pages) same ∙ there) in
      false≢true (sym idle ∙ ap (is_busy m) (sym at) ∙ ap (λ (z : Page). is_busy m z.place) (sym one) ∙ busy)

  not_theirs : (q : ℕ) (y : Page) → get s.pages q ≡ Some y → y.place ≡ Loading → y.session ≡ maker → p ≢ q
  not_theirs q y there loads theirs same =
      let one : x ≡ y = some_is x y (sym is ∙ ap (get s.pages) same ∙ there) in
      elim job [
        | inl flies ↦ let never : Flying m ≡ Loading = sym flies ∙ ap (λ (z : Page). z.place) one ∙ loads in cc
        | inr own ↦ other (sym theirs ∙ ap (λ (z : Page). z.session) (sym one) ∙ own.1)
      ]

  not_new : (q : ℕ) → q ≡ s.next_name → p ≢ q
  not_new q next same = let low : p < s.next_name = sound.owned.names p x is in omega (arith, low, next, same)

  put_apart : (q : ℕ) (w : Page) → p ≢ q → get (insert s.pages q w) p ≡ Some x
  put_apart q w apart = get_other s.pages q w p apart ∙ is

  gone_apart : (q : ℕ) → p ≢ q → get (remove s.pages q) p ≡ Some x
  gone_apart q apart = removed_other s.pages q p apart ∙ is

  event_leaves : (event : Event) → Allows before s maker event → get (effect maker event s).pages p ≡ Some x
  event_leaves (AddTracker t parent limit (Some quota)) may = is
  event_leaves (AddTracker t parent limit None) may = is
  event_leaves (Create q client blocks key) may = put_apart q _ (not_new q may.next)
  event_leaves (PinHere q) may = put_apart q _ (elim may.here [
    | inl dirty ↦ not_idle q may.page may.own.lives Dirty dirty refl
    | inr clean ↦ not_idle q may.page may.own.lives Clean clean.clean refl
  ])
  event_leaves (PinLoad q) may = put_apart q _ (not_idle q may.page may.own.lives Evicted may.evicted refl)
  event_leaves (ReadOk q) may = put_apart q _ (not_theirs q may.page may.own.lives may.loading may.own.own)
  event_leaves (ReadFailed q sum_before sum_after) may = put_apart q _ (not_theirs q may.ends.page may.ends.own.lives may.ends.loading may.ends.own.own)
  event_leaves (ReadStale q wanted found) may = put_apart q _ (not_theirs q may.ends.page may.ends.own.lives may.ends.loading may.ends.own.own)
  event_leaves (PinAgain q) may = put_apart q _ (not_idle q may.page may.own.lives (Pinned may.count) may.pinned refl)
  event_leaves (UnpinOnce q) may = put_apart q _ (not_idle q may.page may.own.lives (Pinned may.count) may.pinned refl)
  event_leaves (Unpin q content) may =
      let apart : p ≢ q = not_idle q may.page may.own.lives (Pinned 1) may.pinned refl in
      get_other _ q _ p apart ∙ put_apart q _ apart
  event_leaves (Extract q f) may = gone_apart q (not_idle q may.page may.own.lives (Pinned 1) may.pinned refl)
  event_leaves (Destroy q) may = gone_apart q (not_idle q may.page may.own.lives may.page.place refl (is_idle m may.page.place may.not_flying may.not_loading))
  event_leaves (StartWrite q) may = put_apart q _ (not_idle q may.page may.lives Dirty may.dirty refl)
  event_leaves (WriteOk q) may = put_apart q _ (not_idle q may.page may.lives (Flying maker) may.flying (ne_eqb maker m other))
  event_leaves (WriteFailed q sum_before sum_after) may = put_apart q _ (not_idle q may.ends.page may.ends.lives (Flying maker) may.ends.flying (ne_eqb maker m other))
  event_leaves (Evict q) may = put_apart q _ (not_idle q may.page may.lives Clean may.clean refl)
  event_leaves _ may = is

  event_keeps : (event : Event) → Allows before s maker event → (old : List ℕ) → left_in p event old ≡ old
  event_keeps (Unpin q content) may old = ap (λ (b : Bool). if b then content else old) (ne_eqb q p (λ same. not_idle q may.page may.own.lives (Pinned 1) may.pinned refl (sym same)))
  event_keeps _ may old = refl

pub page_stays : (h : List Entry) (s : State) (e : Entry) (m p : ℕ) (x : Page) → IsSound s → MayFollow h s e → e.maker ≢ m → get s.pages p ≡ Some x → IsInJob m x → get (after s e).pages p ≡ Some x
page_stays h s e m p x sound may other is job = event_leaves h s sound e.maker m p other x is job e.event may.allows

module _ (m : ℕ) where
  -- others' entries aren't the maker's
  pub made_beside : (h others : List Entry) → AllBeside m others → made_by (h ++ others) m ≡ made_by h m
  made_beside h [] beside = ap (λ (es : List Entry). made_by es m) (append-nil h)
  made_beside h (e ∷ others) beside =
      ap (λ (es : List Entry). made_by es m) (sym (append_assoc h (e ∷ []) others))
      ∙ made_beside (h ++ e ∷ []) others beside.1 ∙ made_by_other h e m beside.0

  -- the page stays as it is under many, and so does what was left in it
  follow_stays : (h : List Entry) (s : State) (others : List Entry) (p : ℕ) (x : Page) → IsSound s → Follow h s others → AllBeside m others → get s.pages p ≡ Some x → IsInJob m x
      → (get (run s others).pages p ≡ Some x) × (content_from p [] (h ++ others) ≡ content_from p [] h)
  follow_stays h s [] p x sound follow beside is job = (is, ap (content_from p []) (append-nil h))
  follow_stays h s (e ∷ others) p x sound follow beside is job =
      let later = follow_stays (h ++ e ∷ []) (after s e) others p x (entry_sound h s sound e follow.0) follow.1 beside.1 (page_stays h s e m p x sound follow.0 beside.0 is job) job in (
        later.0,
        ap (content_from p []) (sym (append_assoc h (e ∷ []) others)) ∙ later.1 ∙ content_more p [] h e
            ∙ event_keeps h s sound e.maker m p beside.0 x is job e.event follow.0.allows (content_from p [] h),
      )

  module _ (o : Opening) (h others : List Entry) (legal : IsLegal o (h ++ others)) (beside : AllBeside m others) (p : ℕ) (x : Page) (is : get (state_after o h).pages p ≡ Some x) (job : IsInJob m x) where
    lasts : (get (run (state_after o h) others).pages p ≡ Some x) × (content_from p [] (h ++ others) ≡ content_from p [] h)
    lasts = follow_stays h (state_after o h) others p x (legal_sound o h (legal_fronts o h others legal)) (legal_grows_so o h others legal) beside is job

    pub page_lasts : get (state_after o (h ++ others)).pages p ≡ Some x
    page_lasts = ap (λ (s : State). get s.pages p) (state_runs_on o h others) ∙ lasts.0

    pub content_lasts : content_from p [] (h ++ others) ≡ content_from p [] h
    content_lasts = lasts.1
