-- Which pages a session loads, or writes itself, is told by its own entries.
use Rattle.std.proofs.Common.{◌≡◌, ◌≢◌, ℕ, ◌+◌, ◌-◌, ◌==◌, ◌<◌, List, [], ◌∷◌, ◌++◌, Bool, true, false, if◌then◌else◌, Option, Some, None, refl, sym, ap, ◌∙◌, subst, arith, inl, inr, eq-eqb, ne_eqb}
use Rattle.std.specs.Ordering.{nat_cmp}
use Rattle.std.specs.FinMap.{get, insert, remove, get-empty}
use Rattle.reservation_tree.proofs.Maps.{get_same, get_other, removed_same, removed_other, same_or_other}
use Rattle.pool_model.specs.declared.event.Event.{Event}
use Rattle.pool_model.specs.declared.event.Event.TheVariants.{AddTracker, Create, PinHere, PinLoad, ReadOk, ReadFailed, ReadStale, PinAgain, UnpinOnce, Unpin, Extract, Destroy, StartWrite, WriteOk, WriteFailed, Evict}
use Rattle.pool_model.specs.declared.entry.Entry.{Entry}
use Rattle.pool_model.specs.Makers.{IsSession}
use Rattle.pool_model.specs.State.{Place, Pinned, Dirty, Flying, Loading, Clean, Evicted, Page, Pages, page_at, State}
use Rattle.pool_model.specs.LookingBack.{opens, made_by}
use Rattle.pool_model.specs.MayFollow.{Allows, MayFollow}
use Rattle.pool_model.specs.Parts.{pins_at}
use Rattle.pool_model.specs.Effects.{effect, after}
use Rattle.pool_model.specs.Sound.{IsSound}
use Rattle.pool_model.proofs.Pages.{page_is}
use Rattle.pool_model.proofs.Failures.{PagesOwned, owned_on}
use Rattle.pool_model.proofs.Fronts.{holds_after}
use Rattle.pool_model.proofs.OwnEntries.{made_by_other, made_more, made_first}
use Rattle.own_entries.specs.Busy.{is_busy, busy_in, busy_after, busy_from, LegalBusyPagesAreTold}
use Rattle.own_entries.proofs.ByOthers.{unpinned_pages, none_there}

module _ (m : ℕ) (pages : Pages) (p : ℕ) where
  busy_put : (w : Page) (q : ℕ) → busy_in m (get (insert pages p w) q) ≡ (if p == q then busy_in m (Some w) else busy_in m (get pages q))
  busy_put w q = elim (same_or_other q p) [
    | inl here ↦ subst (λ (r : ℕ). busy_in m (get (insert pages p w) r) ≡ (if p == r then busy_in m (Some w) else busy_in m (get pages r))) (sym here)
        (ap (busy_in m) (get_same pages p w) ∙ sym (ap (λ (b : Bool). if b then busy_in m (Some w) else busy_in m (get pages p)) (eq-eqb p p refl)))
    | inr apart ↦ ap (busy_in m) (get_other pages p w q apart) ∙ sym (ap (λ (b : Bool). if b then busy_in m (Some w) else busy_in m (get pages q)) (ne_eqb p q (λ same. apart (sym same))))
  ]

  busy_gone : (q : ℕ) → busy_in m (get (remove pages p) q) ≡ (if p == q then false else busy_in m (get pages q))
  busy_gone q = elim (same_or_other q p) [
    | inl here ↦ subst (λ (r : ℕ). busy_in m (get (remove pages p) r) ≡ (if p == r then false else busy_in m (get pages r))) (sym here)
        (ap (busy_in m) (removed_same pages p) ∙ sym (ap (λ (b : Bool). if b then false else busy_in m (get pages p)) (eq-eqb p p refl)))
    | inr apart ↦ ap (busy_in m) (removed_other pages p q apart) ∙ sym (ap (λ (b : Bool). if b then false else busy_in m (get pages q)) (ne_eqb p q (λ same. apart (sym same))))
  ]

  same_there : (w : Page) → busy_in m (Some w) ≡ busy_in m (get pages p) → (q : ℕ) → busy_in m (get (insert pages p w) q) ≡ busy_in m (get pages q)
  same_there w is q = elim (same_or_other q p) [
    | inl here ↦ subst (λ (r : ℕ). busy_in m (get (insert pages p w) r) ≡ busy_in m (get pages r)) (sym here) (ap (busy_in m) (get_same pages p w) ∙ is)
    | inr apart ↦ ap (busy_in m) (get_other pages p w q apart)
  ]

  none_gone : busy_in m (get pages p) ≡ false → (q : ℕ) → busy_in m (get (remove pages p) q) ≡ busy_in m (get pages q)
  none_gone is q = elim (same_or_other q p) [
    | inl here ↦ subst (λ (r : ℕ). busy_in m (get (remove pages p) r) ≡ busy_in m (get pages r)) (sym here) (ap (busy_in m) (removed_same pages p) ∙ sym is)
    | inr apart ↦ ap (busy_in m) (removed_other pages p q apart)
  ]

either : (b r : Bool) → (if b then r else r) ≡ r
either true r = refl
either false r = refl

-- a page of another session, or one that goes from one such place to another
busy_theirs : (m : ℕ) (x : Page) → x.session ≢ m → busy_in m (Some x) ≡ false
busy_theirs m x other = ap (λ (b : Bool). if b then is_busy m x.place else false) (ne_eqb x.session m other)

busy_ours : (m : ℕ) (x : Page) (place : Place) → x.session ≡ m → busy_in m (Some (record x { place = place })) ≡ is_busy m place
busy_ours m x place own = ap (λ (b : Bool). if b then is_busy m place else false) (eq-eqb x.session m own)

module _ (before : List Entry) (s : State) (sound : IsSound s) (owned : PagesOwned s) (m : ℕ) where
  put_page : (p : ℕ) (x : Page) → get s.pages p ≡ Some x → (place : Place) (q : ℕ) → busy_in m (get (insert s.pages p (record (page_at s p) { place = place })) q) ≡ busy_in m (get (insert s.pages p (record x { place = place })) q)
  put_page p x is place q = ap (λ (z : Page). busy_in m (get (insert s.pages p (record z { place = place })) q)) (page_is s p x is)

  -- the version doesn't show
  flown : (p n : ℕ) (place : Place) (q : ℕ) → busy_in m (get (insert s.pages p (record (page_at s p) { place = place; version = n })) q) ≡ busy_in m (get (insert s.pages p (record (page_at s p) { place = place })) q)
  flown p n place q = busy_put m s.pages p (record (page_at s p) { place = place; version = n }) q ∙ sym (busy_put m s.pages p (record (page_at s p) { place = place }) q)

  -- from a place to another, neither of which is busy for it
  idle : (p : ℕ) (x : Page) → get s.pages p ≡ Some x → (old place : Place) → x.place ≡ old → is_busy m old ≡ is_busy m place → (q : ℕ) → busy_in m (get (insert s.pages p (record (page_at s p) { place = place })) q) ≡ busy_in m (get s.pages q)
  idle p x is old place was same q =
      put_page p x is place q ∙ same_there m s.pages p (record x { place = place })
      (ap (λ (b : Bool). if x.session == m then b else false) (sym same ∙ sym (ap (is_busy m) was)) ∙ sym (ap (busy_in m) is)) q

  theirs : (p : ℕ) (x w : Page) → get s.pages p ≡ Some x → x.session ≢ m → w.session ≡ x.session → (q : ℕ) → busy_in m (get (insert s.pages p w) q) ≡ busy_in m (get s.pages q)
  theirs p x w is other same q = same_there m s.pages p w (busy_theirs m w (λ one. other (sym same ∙ one)) ∙ sym (ap (busy_in m) is ∙ busy_theirs m x other)) q

  put_theirs : (p : ℕ) (x : Page) → get s.pages p ≡ Some x → x.session ≢ m → (place : Place) (q : ℕ) → busy_in m (get (insert s.pages p (record (page_at s p) { place = place })) q) ≡ busy_in m (get s.pages q)
  put_theirs p x is other place q = put_page p x is place q ∙ theirs p x (record x { place = place }) is other refl q

  fresh : (p : ℕ) → p ≡ s.next_name → get s.pages p ≡ None
  fresh p next = none_there (get s.pages p) (λ y there. let low : p < s.next_name = sound.owned.names p y there in omega (arith, low, next))

  -- another maker's events
  busy_by_other : (maker : ℕ) → maker ≢ m → (event : Event) → Allows before s maker event → (q : ℕ) → busy_in m (get (effect maker event s).pages q) ≡ busy_in m (get s.pages q)
  busy_by_other maker other (AddTracker t parent limit (Some quota)) may q = refl
  busy_by_other maker other (AddTracker t parent limit None) may q = refl
  busy_by_other maker other (Create p client blocks key) may q = same_there m s.pages p _ (busy_theirs m (record { key = key; session = maker; client = client; blocks = blocks; place = Pinned 1; has_slots = false; version = 0 }) other ∙ sym (ap (busy_in m) (fresh p may.next))) q
  busy_by_other maker other (PinHere p) may q = put_theirs p may.page may.own.lives (λ same. other (sym may.own.own ∙ same)) (Pinned 1) q
  busy_by_other maker other (PinLoad p) may q = put_theirs p may.page may.own.lives (λ same. other (sym may.own.own ∙ same)) Loading q
  busy_by_other maker other (ReadOk p) may q = put_theirs p may.page may.own.lives (λ same. other (sym may.own.own ∙ same)) (Pinned 1) q
  busy_by_other maker other (ReadFailed p sum_before sum_after) may q = put_theirs p may.ends.page may.ends.own.lives (λ same. other (sym may.ends.own.own ∙ same)) Evicted q
  busy_by_other maker other (ReadStale p wanted found) may q = put_theirs p may.ends.page may.ends.own.lives (λ same. other (sym may.ends.own.own ∙ same)) Evicted q
  busy_by_other maker other (PinAgain p) may q = put_theirs p may.page may.own.lives (λ same. other (sym may.own.own ∙ same)) (Pinned (pins_at s p + 1)) q
  busy_by_other maker other (UnpinOnce p) may q = put_theirs p may.page may.own.lives (λ same. other (sym may.own.own ∙ same)) (Pinned (pins_at s p - 1)) q
  busy_by_other maker other (Unpin p content) may q =
      ap (λ (ps : Pages). busy_in m (get ps q)) (unpinned_pages s p may.page may.own.lives) ∙ theirs p may.page (record may.page { place = Dirty; has_slots = true }) may.own.lives (λ same. other (sym may.own.own ∙ same)) refl q
  busy_by_other maker other (Extract p f) may q = none_gone m s.pages p (ap (busy_in m) may.own.lives ∙ busy_theirs m may.page (λ same. other (sym may.own.own ∙ same))) q
  busy_by_other maker other (Destroy p) may q = none_gone m s.pages p (ap (busy_in m) may.own.lives ∙ busy_theirs m may.page (λ same. other (sym may.own.own ∙ same))) q
  busy_by_other maker other (StartWrite p) may q = flown p s.entries (Flying maker) q ∙ idle p may.page may.lives Dirty (Flying maker) may.dirty (sym (ne_eqb maker m other)) q
  busy_by_other maker other (WriteOk p) may q = idle p may.page may.lives (Flying maker) Clean may.flying (ne_eqb maker m other) q
  busy_by_other maker other (WriteFailed p sum_before sum_after) may q = idle p may.ends.page may.ends.lives (Flying maker) Dirty may.ends.flying (ne_eqb maker m other) q
  busy_by_other maker other (Evict p) may q = idle p may.page may.lives Clean Evicted may.clean refl q
  busy_by_other maker other _ may q = refl

  put_ours : (p : ℕ) (x : Page) → get s.pages p ≡ Some x → x.session ≡ m → (place : Place) (on : Bool) → is_busy m place ≡ on → (q : ℕ)
      → busy_in m (get (insert s.pages p (record (page_at s p) { place = place })) q) ≡ (if p == q then on else busy_in m (get s.pages q))
  put_ours p x is own place on busy q =
      put_page p x is place q ∙ busy_put m s.pages p (record x { place = place }) q
      ∙ ap (λ (b : Bool). if p == q then b else busy_in m (get s.pages q)) (busy_ours m x place own ∙ busy)

  -- its own
  busy_by_itself : IsSession m → (event : Event) → Allows before s m event → (q : ℕ) → busy_in m (get (effect m event s).pages q) ≡ busy_after q event (busy_in m (get s.pages q))
  busy_by_itself session (AddTracker t parent limit (Some quota)) may q = none_of (get s.pages q) refl
    where
      none_of : (o : Option Page) → get s.pages q ≡ o → busy_in m o ≡ false
      none_of None is = refl
      none_of (Some x) is = busy_theirs m x (λ same. let lives : get s.sessions m ≡ Some (owned q x is).session = ap (get s.sessions) (sym same) ∙ (owned q x is).opened in let never : None ≡ Some (owned q x is).session = sym may.none ∙ lives in cc)
  busy_by_itself session (AddTracker t parent limit None) may q = refl
  busy_by_itself session (Create p client blocks key) may q =
      busy_put m s.pages p _ q ∙ ap (λ (b : Bool). if p == q then b else busy_in m (get s.pages q)) (either (m == m) false)
  busy_by_itself session (PinHere p) may q = elim may.here [
    | inl dirty ↦ idle p may.page may.own.lives Dirty (Pinned 1) dirty refl q
    | inr clean ↦ idle p may.page may.own.lives Clean (Pinned 1) clean.clean refl q
  ]
  busy_by_itself session (PinLoad p) may q = put_ours p may.page may.own.lives may.own.own Loading true refl q
  busy_by_itself session (ReadOk p) may q = put_ours p may.page may.own.lives may.own.own (Pinned 1) false refl q
  busy_by_itself session (ReadFailed p sum_before sum_after) may q = put_ours p may.ends.page may.ends.own.lives may.ends.own.own Evicted false refl q
  busy_by_itself session (ReadStale p wanted found) may q = put_ours p may.ends.page may.ends.own.lives may.ends.own.own Evicted false refl q
  busy_by_itself session (PinAgain p) may q = idle p may.page may.own.lives (Pinned may.count) (Pinned (pins_at s p + 1)) may.pinned refl q
  busy_by_itself session (UnpinOnce p) may q = idle p may.page may.own.lives (Pinned may.count) (Pinned (pins_at s p - 1)) may.pinned refl q
  busy_by_itself session (Unpin p content) may q =
      let x : Page = may.page in
      ap (λ (ps : Pages). busy_in m (get ps q)) (unpinned_pages s p x may.own.lives)
      ∙ same_there m s.pages p (record x { place = Dirty; has_slots = true })
      (either (x.session == m) false ∙ sym (ap (busy_in m) may.own.lives ∙ ap (λ (place : Place). if x.session == m then is_busy m place else false) may.pinned ∙ either (x.session == m) false)) q
  busy_by_itself session (Extract p f) may q = busy_gone m s.pages p q
  busy_by_itself session (Destroy p) may q = busy_gone m s.pages p q
  busy_by_itself session (StartWrite p) may q = flown p s.entries (Flying m) q ∙ put_ours p may.page may.lives (may.own session) (Flying m) true (eq-eqb m m refl) q
  busy_by_itself session (WriteOk p) may q = ended p may.page may.lives may.flying Clean refl q
    where
      ended : (p : ℕ) (x : Page) → get s.pages p ≡ Some x → x.place ≡ Flying m → (place : Place) → is_busy m place ≡ false → (q : ℕ) → busy_in m (get (insert s.pages p (record (page_at s p) { place = place })) q) ≡ (if p == q then false else busy_in m (get s.pages q))
      ended p x is was place idle_there q =
          put_page p x is place q ∙ busy_put m s.pages p (record x { place = place }) q
          ∙ ap (λ (b : Bool). if p == q then b else busy_in m (get s.pages q)) (ap (λ (b : Bool). if x.session == m then b else false) idle_there ∙ either (x.session == m) false)
  busy_by_itself session (WriteFailed p sum_before sum_after) may q =
      put_page p may.ends.page may.ends.lives Dirty q ∙ busy_put m s.pages p (record may.ends.page { place = Dirty }) q
      ∙ ap (λ (b : Bool). if p == q then b else busy_in m (get s.pages q)) (either (may.ends.page.session == m) false)
  busy_by_itself session (Evict p) may q = idle p may.page may.lives Clean Evicted may.clean refl q
  busy_by_itself session _ may q = refl

opening_idle : (p : ℕ) (event : Event) (on : Bool) → opens event ≡ true → busy_after p event on ≡ busy_after p event false
opening_idle p (AddTracker t parent limit (Some quota)) on new = refl
opening_idle p _ on new = let never : false ≡ true = new in cc

busy_more : (p : ℕ) (on : Bool) (es : List Entry) (e : Entry) → busy_from p on (es ++ e ∷ []) ≡ busy_after p e.event (busy_from p on es)
busy_more p on [] e = refl
busy_more p on (d ∷ es) e = busy_more p (busy_after p d.event on) es e

record BusyTold (before : List Entry) (s : State) : Type 0 where
  owned : PagesOwned s
  told : (m : ℕ) → IsSession m → (p : ℕ) → busy_in m (get s.pages p) ≡ busy_from p false (made_by before m)

busy_on : (before : List Entry) (s : State) → IsSound s → BusyTold before s → (e : Entry) → MayFollow before s e → BusyTold (before ++ e ∷ []) (after s e)
busy_on before s sound it e may = record {
  owned = owned_on before s sound it.owned e may;
  told = λ m session p. elim (same_or_other e.maker m) [
    | inr other ↦
        busy_by_other before s sound it.owned m e.maker other e.event may.allows p ∙ it.told m session p ∙ ap (busy_from p false) (sym (made_by_other before e m other))
    | inl own ↦
        let allows : Allows before s m e.event = subst (λ (k : ℕ). Allows before s k e.event) own may.allows in
        ap (λ (k : ℕ). busy_in m (get (effect k e.event s).pages p)) own ∙ busy_by_itself before s sound it.owned m session e.event allows p
        ∙ elim (opens e.event) as (λ b. opens e.event ≡ b → busy_after p e.event (busy_in m (get s.pages p)) ≡ busy_from p false (made_by (before ++ e ∷ []) m)) [
          | true ↦ λ new. opening_idle p e.event (busy_in m (get s.pages p)) new ∙ ap (busy_from p false) (sym (made_first before e m own new))
          | false ↦ λ old. ap (busy_after p e.event) (it.told m session p) ∙ sym (busy_more p false (made_by before m) e) ∙ ap (busy_from p false) (sym (made_more before e m own old))
        ] refl
  ];
}

pub legal_busy_pages_are_told : LegalBusyPagesAreTold
legal_busy_pages_are_told o h legal m session p =
    (holds_after BusyTold busy_on o (record {
      owned = λ q y there. let none : None ≡ Some y = sym (get-empty nat_cmp q) ∙ there in cc;
      told = λ n is_session q. ap (busy_in n) (get-empty nat_cmp q);
    }) h legal).told m session p
