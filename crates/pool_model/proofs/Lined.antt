-- Each event keeps the orders in which pages wait, so every legal history does.
use Rattle.std.proofs.Common.{◌≡◌, ◌≢◌, ℕ, ◌==◌, true, false, Option, Some, None, unwrap_or, List, [], ◌∷◌, ◌++◌, refl, ap, sym, ◌∙◌, subst}
use Rattle.std.specs.Ordering.{nat_cmp}
use Rattle.std.specs.FinMap.{get, insert, get-empty}
use Rattle.reservation_tree.proofs.Maps.{get_same, get_other, removed_same, removed_other}
use Rattle.reservation_tree.proofs.Members.{live_apart}
use Rattle.pool_model.specs.declared.event.Event.{Event}
use Rattle.pool_model.specs.declared.event.Event.TheVariants.{AddTracker, CloseTracker, Create, PinHere, PinLoad, ReadOk, ReadFailed, ReadStale, PinAgain, UnpinOnce, Unpin, Extract, Destroy, StartWrite, WriteOk, WriteFailed, Evict}
use Rattle.pool_model.specs.declared.entry.Entry.{Entry}
use Rattle.pool_model.specs.State.{Opening, opened, Place, Pinned, Dirty, Flying, Loading, Clean, Evicted, Page, page_at, State, dirty_of}
use Rattle.pool_model.specs.MayFollow.{Allows, MayFollow}
use Rattle.pool_model.specs.Parts.{put_in, give_slots, queue_dirty, queue_clean, unqueue, end_page}
use Rattle.pool_model.specs.Effects.{effect, after}
use Rattle.pool_model.specs.Sound.{IsSound}
use Rattle.pool_model.specs.Orders.{dirtied, cleaned, dirty_for, clean_at, last_time, InOrder, stands_in, AreQueues, LegalKeepsQueues}
use Rattle.pool_model.proofs.Pages.{page_is}
use Rattle.pool_model.proofs.Fronts.{holds_after}
use Rattle.pool_model.proofs.Times.{AreBelow, below_more}
use Rattle.pool_model.proofs.Waiting.{unchanged, left, renewed}
use Rattle.pool_model.proofs.Arriving.{queued, washed}
use Rattle.pool_model.proofs.Lining.{not_for, idle_dirty, idle_clean, goes, leaves, idles, ends, comes}

module _ (h : List Entry) (s : State) (sound : IsSound s) (queues : AreQueues h s) (dirt_below : AreBelow dirtied h) (wash_below : AreBelow cleaned h) where
  -- a page that waits nowhere comes to its client's dirty ones
  dirties : (new : State) (e : Entry) → cleaned e.event ≡ None → (p : ℕ) (x w : Page) (old : Place) → dirtied e.event ≡ Some p → get s.pages p ≡ Some x → x.place ≡ old
      → ((c : ℕ) → dirty_for c (get s.pages p) ≡ false) → clean_at (get s.pages p) ≡ false
      → new.dirty ≡ insert s.dirty x.client (dirty_of s x.client ++ p ∷ []) → new.clean ≡ s.clean → ((q : ℕ) → q ≢ p → get new.pages q ≡ get s.pages q) → get new.pages p ≡ Some w
      → w.place ≡ Dirty → w.client ≡ x.client → AreQueues (h ++ e ∷ []) new
  dirties new e no_wash p x w old is lives at idle idle_too dirty clean beside here put client =
      queued h s new e queues no_wash dirt_below p x.client is dirty clean idle idle_too beside
      (λ c. ap (dirty_for c) here ∙ ap (λ place. dirty_for c (Some (record w { place = place }))) put ∙ ap (λ (d : ℕ). d == c) client)
      (idle_clean (get new.pages p) w Dirty here put refl)

  step : (maker : ℕ) (event : Event) → Allows h s maker event → AreQueues (h ++ record { maker = maker; event = event } ∷ []) (effect maker event s)
  step maker (AddTracker t parent limit (Some quota)) may = unchanged h s _ _ queues refl refl (λ c. refl) refl (λ c q. refl) (λ q. refl)
  step maker (AddTracker t parent limit None) may =
      renewed h s _ _ queues refl refl t (ap (λ (o : Option (List ℕ)). unwrap_or o []) (get_same s.dirty t []))
      (λ c apart. ap (λ (o : Option (List ℕ)). unwrap_or o []) (get_other s.dirty t [] c apart)) refl (λ q. refl)
      (λ q. not_for t (get s.pages q) (λ x is same. live_apart s.trackers x.client t (sound.owned.page_clients q x is).live may.fresh same))
  step maker (CloseTracker t) may =
      renewed h s _ _ queues refl refl t (ap (λ (o : Option (List ℕ)). unwrap_or o []) (removed_same s.dirty t))
      (λ c apart. ap (λ (o : Option (List ℕ)). unwrap_or o []) (removed_other s.dirty t c apart)) refl (λ q. refl)
      (λ q. not_for t (get s.pages q) (λ x is. may.no_page q x is))
  step maker (Create p client blocks key) may = comes h s sound queues _ refl refl _ p _ may.next refl refl refl refl
  step maker (PinHere p) may = leaves h s sound queues _ refl refl p may.page may.own.lives (Pinned 1) refl refl
  step maker (PinLoad p) may = idles h s sound queues _ _ refl refl p may.page _ Evicted Loading may.own.lives may.evicted refl refl refl refl refl refl refl refl
  step maker (ReadOk p) may = idles h s sound queues _ _ refl refl p may.page _ Loading (Pinned 1) may.own.lives may.loading refl refl refl refl refl refl refl refl
  step maker (ReadFailed p sum_before sum_after) may = idles h s sound queues _ _ refl refl p may.ends.page _ Loading Evicted may.ends.own.lives may.ends.loading refl refl refl refl refl refl refl refl
  step maker (ReadStale p wanted found) may = idles h s sound queues _ _ refl refl p may.ends.page _ Loading Evicted may.ends.own.lives may.ends.loading refl refl refl refl refl refl refl refl
  step maker (PinAgain p) may = idles h s sound queues _ _ refl refl p may.page _ (Pinned may.count) _ may.own.lives may.pinned refl refl refl refl refl refl refl refl
  step maker (UnpinOnce p) may = idles h s sound queues _ _ refl refl p may.page _ (Pinned may.count) _ may.own.lives may.pinned refl refl refl refl refl refl refl refl
  step maker (Unpin p content) may =
      let x : Page = may.page in
      let w0 : Page = record (page_at s p) { has_slots = true } in
      let given : page_at (give_slots p (queue_dirty p s)) p ≡ w0 = page_is (give_slots p (queue_dirty p s)) p w0 (get_same s.pages p w0) in
      let client : (page_at s p).client ≡ x.client = ap (λ (z : Page). z.client) (page_is s p x may.own.lives) in
      dirties (effect maker (Unpin p content) s) _ refl p x (record (page_at (give_slots p (queue_dirty p s)) p) { place = Dirty }) (Pinned 1) refl may.own.lives may.pinned
      (λ c. idle_dirty c (get s.pages p) x (Pinned 1) may.own.lives may.pinned refl) (idle_clean (get s.pages p) x (Pinned 1) may.own.lives may.pinned refl)
      (ap (λ (k : ℕ). insert s.dirty k (dirty_of s k ++ p ∷ [])) client) refl
      (λ q away. get_other (insert s.pages p w0) p _ q away ∙ get_other s.pages p w0 q away) (get_same (insert s.pages p w0) p _) refl (ap (λ (z : Page). z.client) given ∙ client)
  step maker (Extract p f) may = ends h s sound queues _ _ refl refl p may.page may.own.lives may.pinned refl refl refl
  step maker (Destroy p) may =
      left h s (end_page p (unqueue p s)) _ queues refl refl p (page_at s p).client refl refl
      (λ c apart. not_for c (get s.pages p) (λ z there same. apart (sym same ∙ sym (ap (λ (y : Page). y.client) (page_is s p z there)))))
      (λ q away. removed_other s.pages p q away) (λ c. ap (dirty_for c) (removed_same s.pages p)) (ap clean_at (removed_same s.pages p))
  step maker (StartWrite p) may = goes h s sound queues _ _ refl refl p may.page _ may.lives (Flying maker) refl refl refl refl refl refl
  step maker (WriteOk p) may =
      let x : Page = may.page in
      let w : Page = record (page_at s p) { place = Clean } in
      washed h s (put_in Clean p (queue_clean p s)) _ queues refl wash_below p refl (λ c. refl) refl
      (idle_clean (get s.pages p) x (Flying maker) may.lives may.flying refl) (λ q away. get_other s.pages p w q away)
      (λ c. idle_dirty c (get (insert s.pages p w) p) w Clean (get_same s.pages p w) refl refl ∙ sym (idle_dirty c (get s.pages p) x (Flying maker) may.lives may.flying refl))
      (ap clean_at (get_same s.pages p w))
  step maker (WriteFailed p sum_before sum_after) may =
      let x : Page = may.ends.page in
      let client : (page_at s p).client ≡ x.client = ap (λ (z : Page). z.client) (page_is s p x may.ends.lives) in
      dirties (effect maker (WriteFailed p sum_before sum_after) s) _ refl p x (record (page_at s p) { place = Dirty }) (Flying maker) refl may.ends.lives may.ends.flying
      (λ c. idle_dirty c (get s.pages p) x (Flying maker) may.ends.lives may.ends.flying refl) (idle_clean (get s.pages p) x (Flying maker) may.ends.lives may.ends.flying refl)
      (ap (λ (k : ℕ). insert s.dirty k (dirty_of s k ++ p ∷ [])) client) refl
      (λ q away. get_other s.pages p _ q away) (get_same s.pages p _) refl client
  step maker (Evict p) may = leaves h s sound queues _ refl refl p may.page may.lives Evicted refl refl
  step maker event may = unchanged h s (effect maker event s) (record { maker = maker; event = event }) queues refl refl (λ c. refl) refl (λ c q. refl) (λ q. refl)

-- the orders, and that all times are past
record Waits (h : List Entry) (s : State) : Type 0 where
  queues : AreQueues h s
  dirt_below : AreBelow dirtied h
  wash_below : AreBelow cleaned h

waits_on : (before : List Entry) (s : State) → IsSound s → Waits before s → (e : Entry) → MayFollow before s e → Waits (before ++ e ∷ []) (after s e)
waits_on before s sound waits e may =
    let next : AreQueues (before ++ e ∷ []) (effect e.maker e.event s) = step before s sound waits.queues waits.dirt_below waits.wash_below e.maker e.event may.allows in
    record {
      queues = record { dirty = next.dirty; dirty_ones = next.dirty_ones; clean = next.clean; clean_ones = next.clean_ones };
      dirt_below = below_more dirtied before e waits.dirt_below;
      wash_below = below_more cleaned before e waits.wash_below;
    }

first_waits : (o : Opening) → Waits [] (opened o)
first_waits o =
    let nobody : (c : ℕ) → dirty_of (opened o) c ≡ [] = λ c. ap (λ (q : Option (List ℕ)). unwrap_or q []) (get-empty nat_cmp c) in
    record {
      queues = record {
        dirty = λ c. subst (InOrder (last_time dirtied [])) (sym (nobody c)) tt;
        dirty_ones = λ c p. ap (λ (names : List ℕ). stands_in names p) (nobody c) ∙ sym (ap (dirty_for c) (get-empty nat_cmp p));
        clean = tt;
        clean_ones = λ p. sym (ap clean_at (get-empty nat_cmp p));
      };
      dirt_below = λ p i is. let no : None ≡ Some i = is in cc;
      wash_below = λ p i is. let no : None ≡ Some i = is in cc;
    }

pub legal_keeps_queues : LegalKeepsQueues
legal_keeps_queues o h legal = (holds_after Waits waits_on o (first_waits o) h legal).queues
