-- The slots in use of a session stay within its quota.
use Rattle.std.proofs.Common.{◌≡◌, ◌≢◌, ◌⊎◌, ℕ, ◌+◌, ◌-◌, ◌≤◌, ◌==◌, Bool, true, Option, Some, None, option_map, unwrap_or, List, [], ◌∷◌, ◌++◌, refl, ap, sym, ◌∙◌, subst, arith, inl, inr, eq-eqb, ne_eqb}
use Rattle.std.specs.Ordering.{nat_cmp}
use Rattle.std.specs.FinMap.{get, insert, remove, empty, get-empty}
use Rattle.reservation_tree.specs.Total.{total, weight_at}
use Rattle.reservation_tree.proofs.Maps.{get_same, get_other, same_or_other}
use Rattle.reservation_tree.proofs.Sums.{total-insert, total-remove, total-none}
use Rattle.pool_model.specs.declared.event.Event.{Event}
use Rattle.pool_model.specs.declared.event.Event.TheVariants.{Ask, AddTracker, CloseTracker, Create, PinHere, PinLoad, ReadOk, ReadFailed, ReadStale, PinAgain, UnpinOnce, Unpin, Extract, Destroy, StartWrite, WriteOk, WriteFailed, Evict}
use Rattle.pool_model.specs.declared.entry.Entry.{Entry}
use Rattle.pool_model.specs.Bytes.{only_if}
use Rattle.pool_model.specs.State.{Place, Pinned, Dirty, Flying, Loading, Clean, Evicted, Page, Pages, no_page, page_at, Session, State}
use Rattle.pool_model.specs.Sums.{slots_of, free_slots, FitsQuotas}
use Rattle.pool_model.specs.Owning.{IsClientOf}
use Rattle.pool_model.specs.Parts.{with_failures, keep_first}
use Rattle.pool_model.specs.MayFollow.{Allows, MayFollow}
use Rattle.pool_model.specs.Effects.{effect, after}
use Rattle.pool_model.specs.Sound.{IsSound}
use Rattle.pool_model.specs.PoolLaws.{LegalFitsQuotas}
use Rattle.pool_model.proofs.Weights.{only_none, only_when, not_mine}
use Rattle.pool_model.proofs.Pages.{page_is}
use Rattle.pool_model.proofs.Fronts.{holds_after}
use Rattle.pool_model.proofs.Keeping.{changed_session, left_session}
use Rattle.pool_model.proofs.Failures.{PagesOwned, owned_on}

-- a page's slots, where it is the session's and has them
abbrev slots_at : ℕ → Page → ℕ
slots_at m x = only_if (x.session == m) (only_if x.has_slots x.blocks)

module _ (m : ℕ) (pages : Pages) (p : ℕ) where
  slots_new : (w : Page) → slots_of (insert pages p w) m ≤ slots_of pages m + slots_at m w
  unfolding slots_of
  slots_new w =
      let sum : total (λ _ x. slots_at m x) (insert pages p w) + weight_at (λ _ x. slots_at m x) p (get pages p) ≡ total (λ _ x. slots_at m x) pages + slots_at m w = total-insert (λ _ x. slots_at m x) pages p w in
      omega (arith, sum)

  module _ (x : Page) (is : get pages p ≡ Some x) where
    slots_put : (w : Page) → slots_of (insert pages p w) m + slots_at m x ≡ slots_of pages m + slots_at m w
    unfolding slots_of
    slots_put w =
        let sum : total (λ _ x. slots_at m x) (insert pages p w) + weight_at (λ _ x. slots_at m x) p (get pages p) ≡ total (λ _ x. slots_at m x) pages + slots_at m w = total-insert (λ _ x. slots_at m x) pages p w in
        let old : weight_at (λ _ x. slots_at m x) p (get pages p) ≡ slots_at m x = ap (weight_at (λ _ x. slots_at m x) p) is in
        omega (arith, sum, old)

    slots_gone : slots_of (remove pages p) m + slots_at m x ≡ slots_of pages m
    unfolding slots_of
    slots_gone = total-remove (λ _ x. slots_at m x) pages p (Some x) is

-- a session without pages has no slots in use
no_slots : (m : ℕ) (pages : Pages) → ((p : ℕ) (x : Page) → get pages p ≡ Some x → x.session ≢ m) → slots_of pages m ≡ 0
unfolding slots_of
no_slots m pages none = total-none (λ _ x. slots_at m x) pages (λ p x is. ap (λ (b : Bool). only_if b (only_if x.has_slots x.blocks)) (ne_eqb x.session m (none p x is)))

module _ (s : State) (m p : ℕ) (x : Page) (is : get s.pages p ≡ Some x) where
  -- the page goes to another place
  elsewhere : (place : Place) (version : ℕ → ℕ) → slots_of (insert s.pages p (record (page_at s p) { place = place; version = version (page_at s p).version })) m ≤ slots_of s.pages m
  elsewhere place version =
      let w : Page = record x { place = place; version = version x.version } in
      let sum : slots_of (insert s.pages p w) m + slots_at m x ≡ slots_of s.pages m + slots_at m x = slots_put m s.pages p x is w in
      subst (λ (z : Page). slots_of (insert s.pages p (record z { place = place; version = version z.version })) m ≤ slots_of s.pages m) (sym (page_is s p x is)) (omega (arith, sum))

  gone : slots_of (remove s.pages p) m ≤ slots_of s.pages m
  gone = let sum : slots_of (remove s.pages p) m + slots_at m x ≡ slots_of s.pages m = slots_gone m s.pages p x is in omega (arith, sum)

  -- the page has slots from now on, and is dirty
  dirtied : slots_of (insert (insert s.pages p (record (page_at s p) { has_slots = true })) p (record (unwrap_or (get (insert s.pages p (record (page_at s p) { has_slots = true })) p) no_page) { place = Dirty })) m + slots_at m x
      ≡ slots_of s.pages m + only_if (x.session == m) x.blocks
  dirtied =
      let w : Page = record x { has_slots = true } in
      let first : slots_of (insert s.pages p w) m + slots_at m x ≡ slots_of s.pages m + slots_at m w = slots_put m s.pages p x is w in
      let second : slots_of (insert (insert s.pages p w) p (record w { place = Dirty })) m + slots_at m w ≡ slots_of (insert s.pages p w) m + slots_at m w =
      slots_put m (insert s.pages p w) p w (get_same s.pages p w) (record w { place = Dirty }) in
      subst (λ (z : Page). slots_of (insert (insert s.pages p (record z { has_slots = true })) p (record (unwrap_or (get (insert s.pages p (record z { has_slots = true })) p) no_page) { place = Dirty })) m + slots_at m x
      ≡ slots_of s.pages m + only_if (x.session == m) x.blocks) (sym (page_is s p x is))
      (subst (λ (o : Option Page). slots_of (insert (insert s.pages p w) p (record (unwrap_or o no_page) { place = Dirty })) m + slots_at m x ≡ slots_of s.pages m + only_if (x.session == m) x.blocks)
      (sym (get_same s.pages p w)) (omega (arith, first, second)))

module _ (before : List Entry) (s : State) (fits : FitsQuotas s) (maker m : ℕ) (x : Session) (is : get s.sessions m ≡ Some x) where
  fewer : (new : ℕ) → new ≤ slots_of s.pages m → new ≤ x.quota
  fewer new less = let was : slots_of s.pages m ≤ x.quota = fits m x is in omega (arith, less, was)

  -- an unpin takes so many slots as the session has free, where the page has none yet
  taken : (p : ℕ) (page : Page) → get s.pages p ≡ Some page → page.session ≡ maker → (page.has_slots ≡ true) ⊎ (page.blocks ≤ free_slots s maker)
      → (new : ℕ) → new + slots_at m page ≡ slots_of s.pages m + only_if (page.session == m) page.blocks → new ≤ x.quota
  taken p page lives own slots new sum = elim (same_or_other maker m) [
    | inr other ↦
        let none : only_if (page.session == m) page.blocks ≡ 0 = not_mine page.session m page.blocks (λ same. other (sym own ∙ same)) in
        fewer new (omega (arith, sum, none))
    | inl here ↦
        let all : only_if (page.session == m) page.blocks ≡ page.blocks = only_when (page.session == m) page.blocks (eq-eqb page.session m (own ∙ here)) in
        elim slots [
          | inl has ↦
              let had : slots_at m page ≡ page.blocks = ap (λ (b : Bool). only_if (page.session == m) (only_if b page.blocks)) has ∙ all in
              fewer new (omega (arith, sum, all, had))
          | inr few ↦
              let free : free_slots s maker ≡ x.quota - slots_of s.pages m =
              ap (free_slots s) here ∙ ap (λ (o : Option Session). unwrap_or (option_map (λ (y : Session). y.quota) o) 0 - slots_of s.pages m) is in
              let was : slots_of s.pages m ≤ x.quota = fits m x is in
              omega (arith, sum, all, few, free, was)
        ]
  ]

  -- an event leaves a session that was there within its quota
  slots_kept : (event : Event) → Allows before s maker event → slots_of (effect maker event s).pages m ≤ x.quota
  slots_kept (AddTracker t parent limit (Some quota)) may = fits m x is
  slots_kept (AddTracker t parent limit None) may = fits m x is
  slots_kept (Create p client blocks key) may =
      let new : slots_of (effect maker (Create p client blocks key) s).pages m ≤ slots_of s.pages m + only_if (maker == m) 0 = slots_new m s.pages p _ in
      let none : only_if (maker == m) 0 ≡ 0 = only_none (maker == m) in
      fewer _ (omega (arith, new, none))
  slots_kept (PinHere p) may = fewer _ (elsewhere s m p may.page may.own.lives (Pinned 1) (λ n. n))
  slots_kept (PinLoad p) may = fewer _ (elsewhere s m p may.page may.own.lives Loading (λ n. n))
  slots_kept (ReadOk p) may = fewer _ (elsewhere s m p may.page may.own.lives (Pinned 1) (λ n. n))
  slots_kept (ReadFailed p sum_before sum_after) may = fewer _ (elsewhere s m p may.ends.page may.ends.own.lives Evicted (λ n. n))
  slots_kept (ReadStale p wanted found) may = fewer _ (elsewhere s m p may.ends.page may.ends.own.lives Evicted (λ n. n))
  slots_kept (PinAgain p) may = fewer _ (elsewhere s m p may.page may.own.lives _ (λ n. n))
  slots_kept (UnpinOnce p) may = fewer _ (elsewhere s m p may.page may.own.lives _ (λ n. n))
  slots_kept (Unpin p content) may = taken p may.page may.own.lives may.own.own may.slots _ (dirtied s m p may.page may.own.lives)
  slots_kept (Extract p f) may = fewer _ (gone s m p may.page may.own.lives)
  slots_kept (Destroy p) may = fewer _ (gone s m p may.page may.own.lives)
  slots_kept (StartWrite p) may = fewer _ (elsewhere s m p may.page may.lives (Flying maker) (λ _. s.entries))
  slots_kept (WriteOk p) may = fewer _ (elsewhere s m p may.page may.lives Clean (λ n. n))
  slots_kept (WriteFailed p sum_before sum_after) may = fewer _ (elsewhere s m p may.ends.page may.ends.lives Dirty (λ n. n))
  slots_kept (Evict p) may = fewer _ (elsewhere s m p may.page may.lives Evicted (λ n. n))
  slots_kept _ may = fits m x is

-- the session was live with the same quota, or it is the maker's new one
record HadQuota (s : State) (m : ℕ) (y : Session) : Type 0 where
  session : Session
  lives : get s.sessions m ≡ Some session
  same : session.quota ≡ y.quota

module _ (before : List Entry) (s : State) (maker m : ℕ) (y : Session) where
  had : get s.sessions m ≡ Some y → HadQuota s m y
  had is = record { session = y; lives = is; same = refl }

  changed : (change : _) (k : ℕ) → get (with_failures change k s.sessions) m ≡ Some y → HadQuota s m y
  changed change k there = elim (changed_session change k s.sessions m y there) [
    | inl other ↦ had other.1
    | inr own ↦ record { session = own.1; lives = own.2; same = ap (λ (z : Session). z.quota) own.3 }
  ]

  -- each session is an old one, or it is new and has no slots in use
  was_open : (event : Event) → Allows before s maker event → get (effect maker event s).sessions m ≡ Some y → HadQuota s m y ⊎ ((get s.sessions m ≡ None) × ((effect maker event s).pages ≡ s.pages))
  was_open Ask may there = inl (changed (λ failures. empty) maker there)
  was_open (AddTracker t parent limit (Some quota)) may there = elim (same_or_other m maker) [
    | inl here ↦ inr (ap (get s.sessions) here ∙ may.none, refl)
    | inr other ↦ inl (had (sym (get_other s.sessions maker _ m other) ∙ there))
  ]
  was_open (AddTracker t parent limit None) may there = inl (had there)
  was_open (CloseTracker t) may there = elim (left_session maker t s.sessions m y there) [
    | inl other ↦ inl (had other.1)
    | inr own ↦ inl (record { session = own.1; lives = own.2; same = ap (λ (z : Session). z.quota) own.3 })
  ]
  was_open (ReadFailed p sum_before sum_after) may there = inl (changed (keep_first (page_at s p).client s.entries) (page_at s p).session there)
  was_open (WriteFailed p sum_before sum_after) may there = inl (changed (keep_first (page_at s p).client s.entries) (page_at s p).session there)
  was_open _ may there = inl (had there)

record Quotas (h : List Entry) (s : State) : Type 0 where
  owned : PagesOwned s
  fits : FitsQuotas s

quotas_on : (before : List Entry) (s : State) → IsSound s → Quotas before s → (e : Entry) → MayFollow before s e → Quotas (before ++ e ∷ []) (after s e)
quotas_on before s sound quotas e may = record {
  owned = owned_on before s sound quotas.owned e may;
  fits = λ m y there. elim (was_open before s e.maker m y e.event may.allows there) [
    | inl old ↦ subst (λ (n : ℕ). slots_of (effect e.maker e.event s).pages m ≤ n) old.same (slots_kept before s quotas.fits e.maker m old.session old.lives e.event may.allows)
    | inr new ↦
        let none : slots_of s.pages m ≡ 0 = no_slots m s.pages (λ p x is same.
        let owner : IsClientOf s x.session x.client = quotas.owned p x is in
        let no : None ≡ Some owner.session = sym new.0 ∙ ap (get s.sessions) (sym same) ∙ owner.opened in cc) in
        let now : slots_of (effect e.maker e.event s).pages m ≡ slots_of s.pages m = ap (λ (ps : Pages). slots_of ps m) new.1 in
        omega (arith, none, now)
  ];
}

pub legal_fits_quotas : LegalFitsQuotas
legal_fits_quotas o h legal = (holds_after Quotas quotas_on o (record {
  owned = λ p y there. let none : None ≡ Some y = sym (get-empty nat_cmp p) ∙ there in cc;
  fits = λ m y there. let none : None ≡ Some y = sym (get-empty nat_cmp m) ∙ there in cc;
}) h legal).fits
