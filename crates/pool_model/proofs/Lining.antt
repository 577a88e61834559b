-- After each legal history pages wait in their orders.
use Rattle.std.proofs.Common.{◌≡◌, ◌≢◌, ℕ, ◌<◌, ◌==◌, false, ◌&&◌, Option, Some, None, unwrap_or, List, [], ◌∷◌, ◌++◌, refl, ap, sym, ◌∙◌, arith, inl, inr, ne_eqb}
use Rattle.std.specs.Ordering.{nat_cmp}
use Rattle.std.specs.FinMap.{FinMap, get, insert, remove}
use Rattle.reservation_tree.proofs.Maps.{get_same, get_other, removed_same, removed_other, same_or_other}
use Rattle.pool_model.specs.declared.entry.Entry.{Entry}
use Rattle.pool_model.specs.State.{Place, Pinned, Page, page_at, State}
use Rattle.pool_model.specs.Sums.{is_clean}
use Rattle.pool_model.specs.Parts.{put_in, unqueue}
use Rattle.pool_model.specs.Sound.{IsSound}
use Rattle.pool_model.specs.Orders.{dirtied, cleaned, is_dirty, dirty_for, clean_at, AreQueues}
use Rattle.pool_model.proofs.Pages.{page_is}
use Rattle.pool_model.proofs.Waiting.{unchanged, left, and_false}

pub not_for : (t : ℕ) (o : Option Page) → ((x : Page) → o ≡ Some x → x.client ≢ t) → dirty_for t o ≡ false
not_for t None none = refl
not_for t (Some x) none = ap (λ b. is_dirty x.place && b) (ne_eqb x.client t (none x refl)) ∙ and_false (is_dirty x.place)

-- a page in another place than Dirty or Clean waits nowhere
pub idle_dirty : (c : ℕ) (o : Option Page) (x : Page) (place : Place) → o ≡ Some x → x.place ≡ place → is_dirty place ≡ false → dirty_for c o ≡ false
idle_dirty c o x place is at idle = ap (dirty_for c) is ∙ ap (λ b. b && (x.client == c)) (ap is_dirty at ∙ idle)

pub idle_clean : (o : Option Page) (x : Page) (place : Place) → o ≡ Some x → x.place ≡ place → is_clean place ≡ false → clean_at o ≡ false
idle_clean o x place is at idle = ap clean_at is ∙ ap is_clean at ∙ idle

module _ (h : List Entry) (s : State) (sound : IsSound s) (queues : AreQueues h s) where
  -- a page that waits goes where it doesn't
  pub goes : (new : State) (e : Entry) → dirtied e.event ≡ None → cleaned e.event ≡ None → (p : ℕ) (x w : Page) → get s.pages p ≡ Some x → (place : Place) → is_dirty place ≡ false → is_clean place ≡ false
      → new.dirty ≡ (unqueue p s).dirty → new.clean ≡ (unqueue p s).clean → new.pages ≡ insert s.pages p w → w.place ≡ place → AreQueues (h ++ e ∷ []) new
  goes new e no_dirt no_wash p x w is place idle idle_too dirty clean pages put =
      let now : get new.pages p ≡ Some w = ap (λ m. get m p) pages ∙ get_same s.pages p w in
      left h s new e queues no_dirt no_wash p (page_at s p).client dirty clean
      (λ c apart. not_for c (get s.pages p) (λ z there same. apart (sym same ∙ sym (ap (λ (y : Page). y.client) (page_is s p z there)))))
      (λ q away. ap (λ m. get m q) pages ∙ get_other s.pages p w q away)
      (λ c. idle_dirty c (get new.pages p) w place now put idle)
      (idle_clean (get new.pages p) w place now put idle_too)

  pub leaves : (e : Entry) → dirtied e.event ≡ None → cleaned e.event ≡ None → (p : ℕ) (x : Page) → get s.pages p ≡ Some x → (place : Place) → is_dirty place ≡ false → is_clean place ≡ false
      → AreQueues (h ++ e ∷ []) (put_in place p (unqueue p s))
  leaves e no_dirt no_wash p x is place idle idle_too =
      goes (put_in place p (unqueue p s)) e no_dirt no_wash p x (record (page_at s p) { place = place }) is place idle idle_too refl refl refl refl

  -- a page that doesn't wait goes where it doesn't either
  pub idles : (new : State) (e : Entry) → dirtied e.event ≡ None → cleaned e.event ≡ None → (p : ℕ) (x w : Page) (old place : Place) → get s.pages p ≡ Some x → x.place ≡ old
      → is_dirty old ≡ false → is_clean old ≡ false → new.dirty ≡ s.dirty → new.clean ≡ s.clean → new.pages ≡ insert s.pages p w → w.place ≡ place → is_dirty place ≡ false → is_clean place ≡ false
      → AreQueues (h ++ e ∷ []) new
  idles new e no_dirt no_wash p x w old place is at idle idle_too dirty clean pages put now_idle now_idle_too =
      let here : get new.pages p ≡ Some w = ap (λ m. get m p) pages ∙ get_same s.pages p w in
      let beside : (q : ℕ) → q ≢ p → get new.pages q ≡ get s.pages q = λ q away. ap (λ m. get m q) pages ∙ get_other s.pages p w q away in
      unchanged h s new e queues no_dirt no_wash (λ c. ap (λ (d : FinMap nat_cmp (List ℕ)). unwrap_or (get d c) []) dirty) clean
      (λ c q. elim (same_or_other q p) [
        | inl same ↦ ap (λ (r : ℕ). dirty_for c (get new.pages r)) same ∙ idle_dirty c (get new.pages p) w place here put now_idle
            ∙ sym (idle_dirty c (get s.pages p) x old is at idle) ∙ ap (λ (r : ℕ). dirty_for c (get s.pages r)) (sym same)
        | inr away ↦ ap (dirty_for c) (beside q away)
      ])
      (λ q. elim (same_or_other q p) [
        | inl same ↦ ap (λ (r : ℕ). clean_at (get new.pages r)) same ∙ idle_clean (get new.pages p) w place here put now_idle_too
            ∙ sym (idle_clean (get s.pages p) x old is at idle_too) ∙ ap (λ (r : ℕ). clean_at (get s.pages r)) (sym same)
        | inr away ↦ ap clean_at (beside q away)
      ])

  -- a page ends
  pub ends : (new : State) (e : Entry) → dirtied e.event ≡ None → cleaned e.event ≡ None → (p : ℕ) (x : Page) → get s.pages p ≡ Some x → x.place ≡ Pinned 1
      → new.dirty ≡ s.dirty → new.clean ≡ s.clean → new.pages ≡ remove s.pages p → AreQueues (h ++ e ∷ []) new
  ends new e no_dirt no_wash p x is at dirty clean pages =
      let here : get new.pages p ≡ None = ap (λ m. get m p) pages ∙ removed_same s.pages p in
      let beside : (q : ℕ) → q ≢ p → get new.pages q ≡ get s.pages q = λ q away. ap (λ m. get m q) pages ∙ removed_other s.pages p q away in
      unchanged h s new e queues no_dirt no_wash (λ c. ap (λ (d : FinMap nat_cmp (List ℕ)). unwrap_or (get d c) []) dirty) clean
      (λ c q. elim (same_or_other q p) [
        | inl same ↦ ap (λ (r : ℕ). dirty_for c (get new.pages r)) same ∙ ap (dirty_for c) here
            ∙ sym (idle_dirty c (get s.pages p) x (Pinned 1) is at refl) ∙ ap (λ (r : ℕ). dirty_for c (get s.pages r)) (sym same)
        | inr away ↦ ap (dirty_for c) (beside q away)
      ])
      (λ q. elim (same_or_other q p) [
        | inl same ↦ ap (λ (r : ℕ). clean_at (get new.pages r)) same ∙ ap clean_at here
            ∙ sym (idle_clean (get s.pages p) x (Pinned 1) is at refl) ∙ ap (λ (r : ℕ). clean_at (get s.pages r)) (sym same)
        | inr away ↦ ap clean_at (beside q away)
      ])

  -- no page has the next name
  fresh_page : (p : ℕ) → p ≡ s.next_name → (o : Option Page) → get s.pages p ≡ o → o ≡ None
  fresh_page p next None is = refl
  fresh_page p next (Some x) is = let low : p < s.next_name = sound.owned.names p x is in absurd (omega (arith, low, next))

  pub comes : (e : Entry) → dirtied e.event ≡ None → cleaned e.event ≡ None → (new : State) (p : ℕ) (w : Page) → p ≡ s.next_name → w.place ≡ Pinned 1
      → new.dirty ≡ s.dirty → new.clean ≡ s.clean → new.pages ≡ insert s.pages p w → AreQueues (h ++ e ∷ []) new
  comes e no_dirt no_wash new p w next at dirty clean pages =
      let none : get s.pages p ≡ None = fresh_page p next (get s.pages p) refl in
      let here : get new.pages p ≡ Some w = ap (λ m. get m p) pages ∙ get_same s.pages p w in
      let beside : (q : ℕ) → q ≢ p → get new.pages q ≡ get s.pages q = λ q away. ap (λ m. get m q) pages ∙ get_other s.pages p w q away in
      unchanged h s new e queues no_dirt no_wash (λ c. ap (λ (d : FinMap nat_cmp (List ℕ)). unwrap_or (get d c) []) dirty) clean
      (λ c q. elim (same_or_other q p) [
        | inl same ↦ ap (λ (r : ℕ). dirty_for c (get new.pages r)) same ∙ idle_dirty c (get new.pages p) w (Pinned 1) here at refl
            ∙ sym (ap (dirty_for c) none) ∙ ap (λ (r : ℕ). dirty_for c (get s.pages r)) (sym same)
        | inr away ↦ ap (dirty_for c) (beside q away)
      ])
      (λ q. elim (same_or_other q p) [
        | inl same ↦ ap (λ (r : ℕ). clean_at (get new.pages r)) same ∙ idle_clean (get new.pages p) w (Pinned 1) here at refl
            ∙ sym (ap clean_at none) ∙ ap (λ (r : ℕ). clean_at (get s.pages r)) (sym same)
        | inr away ↦ ap clean_at (beside q away)
      ])
