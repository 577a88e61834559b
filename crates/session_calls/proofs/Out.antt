-- What the pages in jobs weigh, from one entry to the next.
use Rattle.std.proofs.Common.{◌≡◌, ◌≢◌, ℕ, ◌+◌, ◌<◌, List, [], ◌∷◌, ◌++◌, Bool, true, false, if◌then◌else◌, Some, None, refl, ap, sym, ◌∙◌, subst, arith, inl, inr}
use Rattle.std.specs.List.{AllByRecursion}
use Rattle.std.specs.FinMap.{get, insert, remove}
use Rattle.reservation_tree.specs.Total.{total, weight_at}
use Rattle.reservation_tree.proofs.Maps.{get_same}
use Rattle.reservation_tree.proofs.Sums.{total-insert, total-remove}
use Rattle.reservation_tree.specs.declared.mark.Mark.{Mark}
use Rattle.pool_model.specs.declared.event.Event.{Event}
use Rattle.pool_model.specs.declared.event.Event.TheVariants.{AddTracker, Create, PinHere, PinLoad, ReadOk, ReadFailed, ReadStale, PinAgain, UnpinOnce, Unpin, Extract, Destroy, StartWrite, WriteOk, WriteFailed, Evict}
use Rattle.pool_model.specs.declared.entry.Entry.{Entry}
use Rattle.pool_model.specs.State.{Opening, Place, Pinned, Dirty, Flying, Loading, Clean, Evicted, Page, Pages, page_at, State}
use Rattle.pool_model.specs.MayFollow.{Allows, MayFollow}
use Rattle.pool_model.specs.Parts.{put_in, give_slots, queue_dirty}
use Rattle.pool_model.specs.Effects.{effect, after}
use Rattle.pool_model.specs.Legal.{run, Follow, state_after, IsLegal}
use Rattle.pool_model.specs.Sound.{IsSound}
use Rattle.pool_model.proofs.Pages.{page_is}
use Rattle.pool_model.proofs.Kept.{entry_sound, legal_sound}
use Rattle.pool_model.proofs.Fronts.{legal_fronts, legal_grows_so, state_runs_on}
use Rattle.own_entries.proofs.ByOthers.{none_there}
use Rattle.session_calls.specs.Moving.{is_moving, rests}

-- what is out with a page in this place that weighs so much
abbrev out_in : Place → ℕ → ℕ
out_in place weight = if is_moving place then weight else 0

-- what a page weighs that is in a job
abbrev weighed : (ℕ → ℕ → ℕ) → ℕ → Page → ℕ
weighed w p x = out_in x.place (w p x.blocks)

-- what all pages weigh that are in jobs, by their names and how many blocks they have
abbrev pub out_by : (ℕ → ℕ → ℕ) → Pages → ℕ
out_by w pages = total (λ p x. if is_moving x.place then w p x.blocks else 0) pages

-- a page that is neither written nor loaded
is_still : (place : Place) → ((writer : ℕ) → place ≢ Flying writer) → place ≢ Loading → is_moving place ≡ false
is_still (Flying writer) not_flying not_loading = absurd (not_flying writer refl)
is_still Loading not_flying not_loading = absurd (not_loading refl)
is_still _ not_flying not_loading = refl

-- no page has the next name
is_new : (s : State) → IsSound s → (p : ℕ) → p ≡ s.next_name → get s.pages p ≡ None
is_new s sound p next = none_there (get s.pages p) (λ x is. let low : p < s.next_name = sound.owned.names p x is in omega (arith, low, next))

module _ (w : ℕ → ℕ → ℕ) where
  out_at : (p : ℕ) (x : Page) (place : Place) → x.place ≡ place → weighed w p x ≡ out_in place (w p x.blocks)
  out_at p x place is = ap (λ (at : Place). out_in at (w p x.blocks)) is

  module _ (pages : Pages) (p : ℕ) where
    out_new : get pages p ≡ None → (y : Page) → out_by w (insert pages p y) ≡ out_by w pages + weighed w p y
    out_new none y =
        let v : ℕ → Page → ℕ = weighed w in
        let sum : total v (insert pages p y) + weight_at v p (get pages p) ≡ total v pages + v p y = total-insert v pages p y in
        let old : weight_at v p (get pages p) ≡ 0 = ap (weight_at v p) none in
        omega (arith, sum, old)

    module _ (x : Page) (is : get pages p ≡ Some x) where
      out_put : (y : Page) → out_by w (insert pages p y) + weighed w p x ≡ out_by w pages + weighed w p y
      out_put y =
          let v : ℕ → Page → ℕ = weighed w in
          let sum : total v (insert pages p y) + weight_at v p (get pages p) ≡ total v pages + v p y = total-insert v pages p y in
          let old : weight_at v p (get pages p) ≡ v p x = ap (weight_at v p) is in
          omega (arith, sum, old)

      out_gone : out_by w (remove pages p) + weighed w p x ≡ out_by w pages
      out_gone = total-remove (weighed w) pages p (Some x) is

  module _ (s : State) (p : ℕ) (x : Page) (is : get s.pages p ≡ Some x) where
    -- the page goes from one place to another
    moved : (old place : Place) → x.place ≡ old → out_by w (put_in place p s).pages + out_in old (w p (page_at s p).blocks) ≡ out_by w s.pages + out_in place (w p (page_at s p).blocks)
    moved old place was =
        subst (λ (z : Page). out_by w (insert s.pages p (record z { place = place })) + out_in old (w p z.blocks) ≡ out_by w s.pages + out_in place (w p z.blocks)) (sym (page_is s p x is))
        (subst (λ (n : ℕ). out_by w (insert s.pages p (record x { place = place })) + n ≡ out_by w s.pages + out_in place (w p x.blocks)) (out_at p x old was) (out_put s.pages p x is (record x { place = place })))

    -- it flies off, under a version
    flown : (maker version : ℕ) (old : Place) → x.place ≡ old
        → out_by w (insert s.pages p (record (page_at s p) { place = Flying maker; version = version })) + out_in old (w p (page_at s p).blocks) ≡ out_by w s.pages + w p (page_at s p).blocks
    flown maker version old was =
        subst (λ (z : Page). out_by w (insert s.pages p (record z { place = Flying maker; version = version })) + out_in old (w p z.blocks) ≡ out_by w s.pages + w p z.blocks) (sym (page_is s p x is))
        (subst (λ (n : ℕ). out_by w (insert s.pages p (record x { place = Flying maker; version = version })) + n ≡ out_by w s.pages + w p x.blocks) (out_at p x old was) (out_put s.pages p x is (record x { place = Flying maker; version = version })))

    -- it ends, and was in no job
    ended : is_moving x.place ≡ false → out_by w (remove s.pages p) ≡ out_by w s.pages
    ended still =
        let sum : out_by w (remove s.pages p) + weighed w p x ≡ out_by w s.pages = out_gone s.pages p x is in
        let none : weighed w p x ≡ 0 = ap (λ (b : Bool). if b then w p x.blocks else 0) still in
        omega (arith, sum, none)

    -- it stays where it is, and has slots from now on
    given : out_by w (give_slots p s).pages ≡ out_by w s.pages
    given =
        subst (λ (z : Page). out_by w (insert s.pages p (record z { has_slots = true })) ≡ out_by w s.pages) (sym (page_is s p x is))
        (let sum : out_by w (insert s.pages p (record x { has_slots = true })) + weighed w p x ≡ out_by w s.pages + weighed w p x = out_put s.pages p x is (record x { has_slots = true }) in omega (arith, sum))

  -- from a place to another, neither of which is a job's
  stays : (s : State) (p : ℕ) (x : Page) → get s.pages p ≡ Some x → (old place : Place) → x.place ≡ old → is_moving old ≡ false → is_moving place ≡ false → out_by w (put_in place p s).pages ≡ out_by w s.pages
  stays s p x is old place was still_before still_now =
      let sum : out_by w (put_in place p s).pages + out_in old (w p (page_at s p).blocks) ≡ out_by w s.pages + out_in place (w p (page_at s p).blocks) = moved s p x is old place was in
      let before : out_in old (w p (page_at s p).blocks) ≡ 0 = ap (λ (b : Bool). if b then w p (page_at s p).blocks else 0) still_before in
      let now : out_in place (w p (page_at s p).blocks) ≡ 0 = ap (λ (b : Bool). if b then w p (page_at s p).blocks else 0) still_now in
      omega (arith, sum, before, now)

  -- it has slots from now on, and is dirty
  dirtied : (s : State) (p : ℕ) (x : Page) → get s.pages p ≡ Some x → x.place ≡ Pinned 1 → out_by w (put_in Dirty p (give_slots p s)).pages ≡ out_by w s.pages
  dirtied s p x is pinned =
      let y : Page = record x { has_slots = true } in
      let now : get (give_slots p s).pages p ≡ Some y = get_same s.pages p _ ∙ ap (λ (z : Page). Some (record z { has_slots = true })) (page_is s p x is) in
      stays (give_slots p s) p y now (Pinned 1) Dirty pinned refl refl ∙ given s p x is

  module _ (h : List Entry) (s : State) where
    -- an event with which no job begins or ends
    event_stays : (m : ℕ) (event : Event) → IsSound s → Allows h s m event → rests event ≡ true → out_by w (effect m event s).pages ≡ out_by w s.pages
    event_stays m (AddTracker t parent limit (Some quota)) sound may still = refl
    event_stays m (AddTracker t parent limit None) sound may still = refl
    event_stays m (Create p client blocks key) sound may still =
        let sum : out_by w (effect m (Create p client blocks key) s).pages ≡ out_by w s.pages + 0 = out_new s.pages p (is_new s sound p may.next) _ in
        omega (arith, sum)
    event_stays m (PinHere p) sound may still = elim may.here [
      | inl dirty ↦ stays s p may.page may.own.lives Dirty (Pinned 1) dirty refl refl
      | inr clean ↦ stays s p may.page may.own.lives Clean (Pinned 1) clean.clean refl refl
    ]
    event_stays m (PinLoad p) sound may still = let never : false ≡ true = still in cc
    event_stays m (ReadOk p) sound may still = let never : false ≡ true = still in cc
    event_stays m (ReadFailed p sum_before sum_after) sound may still = let never : false ≡ true = still in cc
    event_stays m (ReadStale p wanted found) sound may still = let never : false ≡ true = still in cc
    event_stays m (PinAgain p) sound may still = stays s p may.page may.own.lives (Pinned may.count) _ may.pinned refl refl
    event_stays m (UnpinOnce p) sound may still = stays s p may.page may.own.lives (Pinned may.count) _ may.pinned refl refl
    event_stays m (Unpin p content) sound may still = dirtied (queue_dirty p s) p may.page may.own.lives may.pinned
    event_stays m (Extract p f) sound may still = ended s p may.page may.own.lives (ap is_moving may.pinned)
    event_stays m (Destroy p) sound may still = ended s p may.page may.own.lives (is_still may.page.place may.not_flying may.not_loading)
    event_stays m (StartWrite p) sound may still = let never : false ≡ true = still in cc
    event_stays m (WriteOk p) sound may still = let never : false ≡ true = still in cc
    event_stays m (WriteFailed p sum_before sum_after) sound may still = let never : false ≡ true = still in cc
    event_stays m (Evict p) sound may still = stays s p may.page may.lives Clean Evicted may.clean refl refl
    event_stays m _ sound may still = refl

    -- as much is out as was, where no job begins or ends
    pub out_stays : (e : Entry) → IsSound s → MayFollow h s e → rests e.event ≡ true → out_by w (after s e).pages ≡ out_by w s.pages
    out_stays e sound may still = event_stays e.maker e.event sound may.allows still

    module _ (m p : ℕ) where
      -- a page's slots go out with its write
      pub out_started : MayFollow h s (record { maker = m; event = StartWrite p }) → out_by w (after s (record { maker = m; event = StartWrite p })).pages ≡ out_by w s.pages + w p (page_at s p).blocks
      out_started may =
          let sum : out_by w (after s (record { maker = m; event = StartWrite p })).pages + 0 ≡ out_by w s.pages + w p (page_at s p).blocks = flown s p may.allows.page may.allows.lives m s.entries Dirty may.allows.dirty in
          omega (arith, sum)

      -- or with its load
      pub out_loading : MayFollow h s (record { maker = m; event = PinLoad p }) → out_by w (after s (record { maker = m; event = PinLoad p })).pages ≡ out_by w s.pages + w p (page_at s p).blocks
      out_loading may =
          let sum : out_by w (after s (record { maker = m; event = PinLoad p })).pages + 0 ≡ out_by w s.pages + w p (page_at s p).blocks = moved s p may.allows.page may.allows.own.lives Evicted Loading may.allows.evicted in
          omega (arith, sum)

      -- and come back when it ends
      pub back_written : MayFollow h s (record { maker = m; event = WriteOk p }) → out_by w (after s (record { maker = m; event = WriteOk p })).pages + w p (page_at s p).blocks ≡ out_by w s.pages
      back_written may =
          let sum : out_by w (after s (record { maker = m; event = WriteOk p })).pages + w p (page_at s p).blocks ≡ out_by w s.pages + 0 = moved s p may.allows.page may.allows.lives (Flying m) Clean may.allows.flying in
          omega (arith, sum)

      pub back_unwritten : (before now : ℕ) → MayFollow h s (record { maker = m; event = WriteFailed p before now }) → out_by w (after s (record { maker = m; event = WriteFailed p before now })).pages + w p (page_at s p).blocks ≡ out_by w s.pages
      back_unwritten before now may =
          let sum : out_by w (after s (record { maker = m; event = WriteFailed p before now })).pages + w p (page_at s p).blocks ≡ out_by w s.pages + 0 = moved s p may.allows.ends.page may.allows.ends.lives (Flying m) Dirty may.allows.ends.flying in
          omega (arith, sum)

      pub back_read : MayFollow h s (record { maker = m; event = ReadOk p }) → out_by w (after s (record { maker = m; event = ReadOk p })).pages + w p (page_at s p).blocks ≡ out_by w s.pages
      back_read may =
          let sum : out_by w (after s (record { maker = m; event = ReadOk p })).pages + w p (page_at s p).blocks ≡ out_by w s.pages + 0 = moved s p may.allows.page may.allows.own.lives Loading (Pinned 1) may.allows.loading in
          omega (arith, sum)

      pub back_unread : (before now : ℕ) → MayFollow h s (record { maker = m; event = ReadFailed p before now }) → out_by w (after s (record { maker = m; event = ReadFailed p before now })).pages + w p (page_at s p).blocks ≡ out_by w s.pages
      back_unread before now may =
          let sum : out_by w (after s (record { maker = m; event = ReadFailed p before now })).pages + w p (page_at s p).blocks ≡ out_by w s.pages + 0 = moved s p may.allows.ends.page may.allows.ends.own.lives Loading Evicted may.allows.ends.loading in
          omega (arith, sum)

      pub back_outdated : (wanted found : Mark) → MayFollow h s (record { maker = m; event = ReadStale p wanted found }) → out_by w (after s (record { maker = m; event = ReadStale p wanted found })).pages + w p (page_at s p).blocks ≡ out_by w s.pages
      back_outdated wanted found may =
          let sum : out_by w (after s (record { maker = m; event = ReadStale p wanted found })).pages + w p (page_at s p).blocks ≡ out_by w s.pages + 0 = moved s p may.allows.ends.page may.allows.ends.own.lives Loading Evicted may.allows.ends.loading in
          omega (arith, sum)

  follow_out : (h : List Entry) (s : State) (es : List Entry) → IsSound s → Follow h s es → AllByRecursion (λ e. rests e.event ≡ true) es → out_by w (run s es).pages ≡ out_by w s.pages
  follow_out h s [] sound follow still = refl
  follow_out h s (e ∷ es) sound follow still =
      follow_out (h ++ e ∷ []) (after s e) es (entry_sound h s sound e follow.0) follow.1 still.1 ∙ out_stays h s e sound follow.0 still.0

  -- and so over entries of which none begins or ends a job
  pub out_run : (o : Opening) (h es : List Entry) → IsLegal o (h ++ es) → AllByRecursion (λ e. rests e.event ≡ true) es → out_by w (state_after o (h ++ es)).pages ≡ out_by w (state_after o h).pages
  out_run o h es legal still =
      ap (λ (s : State). out_by w s.pages) (state_runs_on o h es)
      ∙ follow_out h (state_after o h) es (legal_sound o h (legal_fronts o h es legal)) (legal_grows_so o h es legal) still
