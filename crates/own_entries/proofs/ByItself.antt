-- Each event of the session itself changes what is held by one step.
use Rattle.std.proofs.Common.{◌≡◌, ℕ, ◌+◌, ◌-◌, ◌≤◌, ◌<◌, List, Bool, true, false, if◌then◌else◌, Option, Some, None, is_some, option_map, unwrap_or, refl, sym, ap, ◌∙◌, subst, arith, inl, inr, ◌⊎◌, eq-eqb, ne_eqb}
use Rattle.std.specs.FinMap.{get, insert, remove}
use Rattle.reservation_tree.specs.Tracker.{Trackers, reservation_of, children_of, unused}
use Rattle.reservation_tree.specs.Change.{grow, shrink, move_to, lacking}
use Rattle.reservation_tree.proofs.Maps.{same_or_other}
use Rattle.reservation_tree.proofs.Outline.{reservation_is}
use Rattle.reservation_tree.proofs.Shares.{children-none}
use Rattle.pool_model.specs.declared.event.Event.{Event}
use Rattle.pool_model.specs.declared.event.Event.TheVariants.{Ask, AddTracker, CloseTracker, Increase, IncreaseToFit, Decrease, MoveReservation, Create, PinHere, PinLoad, ReadOk, ReadFailed, ReadStale, PinAgain, UnpinOnce, Unpin, UnpinRefused, Extract, Destroy, Alloc, Free, MoveBuffer, StartWrite, WriteOk, WriteFailed, Evict, Refused}
use Rattle.pool_model.specs.declared.entry.Entry.{Entry}
use Rattle.pool_model.specs.State.{Pinned, Dirty, Flying, Loading, Clean, Evicted, Page, Pages, page_at, Buffer, Session, State, pins_of}
use Rattle.pool_model.specs.Sums.{charge_of, times_charged, slots_of, free_slots, memory}
use Rattle.pool_model.specs.Owning.{IsClientOf, IsQueryOf, IsTrackerOf}
use Rattle.pool_model.specs.LookingBack.{left_in, opens}
use Rattle.pool_model.specs.Failures.{closes}
use Rattle.pool_model.specs.MayFollow.{Allows}
use Rattle.pool_model.specs.Effects.{effect}
use Rattle.pool_model.specs.Sound.{IsSound}
use Rattle.pool_model.proofs.Seats.{own_client}
use Rattle.pool_model.proofs.Fits.{no_child}
use Rattle.pool_model.proofs.Pages.{page_is}
use Rattle.pool_model.proofs.Failures.{PagesOwned}
use Rattle.store_api.specs.Holdings.{Account, Holdings, or_else, no_account, account_of, unused_of}
use Rattle.store_api.specs.Changes.{with_account, raised, lowered, after_reserve, after_give_back, after_move_reservation}
use Rattle.store_api.specs.Changes.{shortfall}
use Rattle.own_entries.specs.OwnHoldings.{step, has_client, moved_between, given_to_query, taken_from_query, query_grown, query_fallen}
use Rattle.own_entries.specs.LiveParts.{is_under, Tells}
use Rattle.own_entries.proofs.Views.{account_is}
use Rattle.reservation_tree.specs.Ways.{IsUnderRoot}
use Rattle.own_entries.proofs.Facts.{fits, root_under, query_under, query_free, high, seat, same_one, own_under, own_low}
use Rattle.own_entries.proofs.OwnPages.{pin_here, pin_load, read_ok, read_failed, pinned_again, unpinned_once, unpinned, destroyed}
use Rattle.own_entries.proofs.LoansTold.{created, lent, freed}
use Rattle.own_entries.proofs.BuffersMoved.{moved_buffer, extracted}
use Rattle.own_entries.proofs.TrackersTold.{account_none, unused_is, grown_told, reserved}
use Rattle.own_entries.proofs.FallsTold.{fallen_told, gave_back, gave_up, moved_beside, moved_itself, took}
use Rattle.own_entries.proofs.ComingTold.{client_came, client_went}
use Rattle.own_entries.proofs.ByOthers.{none_there, pins_are, buffer_is, unpinned_pages, fresh_apart, fresh_buffers, Still, placed, quietly}

nothing_moves : (a b n : ℕ) (h : Holdings) → a ≡ b → after_move_reservation a b n h ≡ h
nothing_moves a b n h same = ap (λ (r : Bool). if r then h else with_account b (raised n (account_of b h)) (with_account a (lowered n (account_of a h)) h)) (eq-eqb a b same)

module _ (left : ℕ → List ℕ) (before : List Entry) (s : State) (sound : IsSound s) (owned : PagesOwned s) (m : ℕ) (x : Session) (is : get s.sessions m ≡ Some x) (h : Holdings)
    (told : Tells left s.block_len s.trackers s.pages s.buffers m x.query x.quota h) where
  its_high : IsUnderRoot s.trackers x.query
  its_high = high s sound x.query (seat s sound m x is)

  query_apart : is_under x.query (get s.trackers x.query) ≡ false
  query_apart = query_under s sound x.query x.query (seat s sound m x is) (seat s sound m x is)

  root_apart : is_under x.query (get s.trackers 0) ≡ false
  root_apart = root_under s sound x.query

  free : charge_of s x.query ≡ 0
  free = query_free s sound x.query (seat s sound m x is)

  abbrev Kept : Trackers → Holdings → Type 0
  Kept ts h2 = Tells left s.block_len ts s.pages s.buffers m x.query x.quota h2

  pub is_client : (c : ℕ) → IsClientOf s m c → has_client c h ≡ true
  is_client c client =
      let mine : is_under x.query (get s.trackers c) ≡ true = own_under s sound m x is c client in
      ap is_some (told.clients c ∙ account_is x.query (charge_of s c) (get s.trackers c) client.tracker client.lives mine)

  pub isnt_client : (t : ℕ) → IsQueryOf s m t → has_client t h ≡ false
  isnt_client t query =
      let same : x.query ≡ t = ap (λ (z : Session). z.query) (sym (same_one s sound m x is query.session query.lives)) ∙ query.is in
      ap (λ (q : ℕ). has_client q h) (sym same) ∙ ap is_some (told.clients x.query ∙ account_none x.query (charge_of s x.query) (get s.trackers x.query) query_apart)

  its_query : (t : ℕ) → IsQueryOf s m t → x.query ≡ t
  its_query t query = ap (λ (z : Session). z.query) (sym (same_one s sound m x is query.session query.lives)) ∙ query.is

  choose : (b c : Bool) (ts : Trackers) (u v : Holdings) → b ≡ c → Kept ts (if c then u else v) → Kept ts (if b then u else v)
  choose b c ts u v same = subst (λ (r : Bool). Kept ts (if r then u else v)) (sym same)

  pub room_is : unused (charge_of s) s.trackers x.query ≡ h.room
  room_is = unused_is left s.block_len s.trackers s.pages s.buffers m x.query x.quota h told its_high query_apart root_apart free 0

  -- a client's unused, as it is told
  pub client_unused : (c : ℕ) → IsClientOf s m c → unused (charge_of s) s.trackers c ≡ unused_of c h
  client_unused c client =
      let mine : is_under x.query (get s.trackers c) ≡ true = own_under s sound m x is c client in
      let none : children_of s.trackers c ≡ 0 = children-none s.trackers c (no_child (memory s) s.trackers s.sessions sound.seated c (own_client s sound.seated m c client)) in
      let res : reservation_of s.trackers c ≡ client.tracker.reservation = reservation_is s.trackers c client.tracker client.lives in
      let its : unused_of c h ≡ client.tracker.reservation - charge_of s c =
      ap (λ (o : Option Account). (or_else no_account o).unused) (told.clients c ∙ account_is x.query (charge_of s c) (get s.trackers c) client.tracker client.lives mine) in
      omega (arith, none, res, its)

  grows : (t n k : ℕ) → IsTrackerOf s m t → n ≡ k → (own_room : IsQueryOf s m t → k ≡ n) → Kept (grow (charge_of s) n t s.trackers) (if has_client t h then after_reserve t k h else query_grown k h)
  grows t n k (inr client) same own_room =
      choose (has_client t h) true _ _ _ (is_client t client)
      (subst (λ (j : ℕ). Kept (grow (charge_of s) n t s.trackers) (after_reserve t j h)) same
      (reserved left s.block_len s.trackers s.pages s.buffers m x.query x.quota h told its_high query_apart root_apart free n t (own_low s sound m x is t client) (own_under s sound m x is t client) (fits s sound t)))
  grows t n k (inl query) same own_room =
      choose (has_client t h) false _ _ _ (isnt_client t query)
      (subst (λ (j : ℕ). Kept (grow (charge_of s) n t s.trackers) (query_grown j h)) same
      (subst (λ (q : ℕ). Kept (grow (charge_of s) n q s.trackers) (query_grown n h)) (its_query t query)
      (grown_told left s.block_len s.trackers s.pages s.buffers m x.query x.quota h told its_high query_apart root_apart free n)))

  falls : (t n : ℕ) → IsTrackerOf s m t → n ≤ unused (charge_of s) s.trackers t → Kept (shrink n t s.trackers) (if has_client t h then after_give_back t n h else query_fallen n h)
  falls t n (inr client) spare =
      choose (has_client t h) true _ _ _ (is_client t client)
      (gave_back left s.block_len s.pages s.buffers m x.query x.quota n s.trackers h told its_high query_apart root_apart free t (own_low s sound m x is t client) (own_under s sound m x is t client) (fits s sound t) (omega (arith, spare)))
  falls t n (inl query) spare =
      let same : x.query ≡ t = its_query t query in
      let spare_here : n ≤ unused (charge_of s) s.trackers x.query = subst (λ (q : ℕ). n ≤ unused (charge_of s) s.trackers q) (sym same) spare in
      let room : unused (charge_of s) s.trackers x.query ≡ h.room = room_is in
      choose (has_client t h) false _ _ _ (isnt_client t query)
      (subst (λ (q : ℕ). Kept (shrink n q s.trackers) (query_fallen n h)) same
      (fallen_told left s.block_len s.pages s.buffers m x.query x.quota n s.trackers h told its_high query_apart root_apart free (omega (arith, spare_here, room))))

  by_tests : (a b p q : Bool) (from to n : ℕ) (ts : Trackers) → a ≡ p → b ≡ q → Kept ts (moved_between p q from to n h) → Kept ts (moved_between a b from to n h)
  by_tests a b p q from to n ts same_a same_b kept =
      subst (λ (r : Bool). Kept ts (moved_between r b from to n h)) (sym same_a) (subst (λ (r : Bool). Kept ts (moved_between p r from to n h)) (sym same_b) kept)

  moves : (a b n : ℕ) → IsTrackerOf s m a → IsTrackerOf s m b → n ≤ unused (charge_of s) s.trackers a → Kept (move_to n a b s.trackers) (moved_between (has_client a h) (has_client b h) a b n h)
  moves a b n (inl qa) (inl qb) spare =
      by_tests _ _ false false a b n _ (isnt_client a qa) (isnt_client b qb)
      (moved_itself left s.block_len s.pages s.buffers m x.query x.quota n s.trackers h told its_high query_apart root_apart free a b (sym (its_query a qa) ∙ its_query b qb))
  moves a b n (inl qa) (inr cb) spare =
      let same : x.query ≡ a = its_query a qa in
      let spare_here : n ≤ unused (charge_of s) s.trackers x.query = subst (λ (q : ℕ). n ≤ unused (charge_of s) s.trackers q) (sym same) spare in
      let room : unused (charge_of s) s.trackers x.query ≡ h.room = room_is in
      by_tests _ _ false true a b n _ (isnt_client a qa) (is_client b cb)
      (subst (λ (q : ℕ). Kept (move_to n q b s.trackers) (taken_from_query b n h)) same
      (took left s.block_len s.pages s.buffers m x.query x.quota n s.trackers h told its_high query_apart root_apart free b (own_low s sound m x is b cb) (own_under s sound m x is b cb) (fits s sound b) (omega (arith, spare_here, room))))
  moves a b n (inr ca) (inl qb) spare =
      by_tests _ _ true false a b n _ (is_client a ca) (isnt_client b qb)
      (subst (λ (q : ℕ). Kept (move_to n a q s.trackers) (given_to_query a n h)) (its_query b qb)
      (gave_up left s.block_len s.pages s.buffers m x.query x.quota n s.trackers h told its_high query_apart root_apart free a (own_low s sound m x is a ca) (own_under s sound m x is a ca) (fits s sound a) (omega (arith, spare))))
  moves a b n (inr ca) (inr cb) spare = by_tests _ _ true true a b n _ (is_client a ca) (is_client b cb) (elim (same_or_other a b) [
    | inl same ↦
        subst (λ (g : Holdings). Kept (move_to n a b s.trackers) g) (sym (nothing_moves a b n h same))
        (moved_itself left s.block_len s.pages s.buffers m x.query x.quota n s.trackers h told its_high query_apart root_apart free a b same)
    | inr apart ↦
        moved_beside left s.block_len s.pages s.buffers m x.query x.quota n s.trackers h told its_high query_apart root_apart free a (own_low s sound m x is a ca) (own_under s sound m x is a ca) (fits s sound a) (omega (arith, spare))
        b (own_low s sound m x is b cb) (own_under s sound m x is b cb) (fits s sound b) apart
  ])

  -- what is known of a page of its own
  module _ (p : ℕ) (y : Page) (there : get s.pages p ≡ Some y) (its : y.session ≡ m) where
    page_client : IsClientOf s m y.client
    page_client = subst (λ (k : ℕ). IsClientOf s k y.client) its (owned p y there)

    page_under : is_under x.query (get s.trackers y.client) ≡ true
    page_under = own_under s sound m x is y.client page_client

    unpins : (content : List ℕ) → y.place ≡ Pinned 1 → (y.has_slots ≡ true) ⊎ (y.blocks ≤ free_slots s m)
        → Tells (λ q. left_in q (Unpin p content) (left q)) s.block_len s.trackers (insert s.pages p (record y { place = Dirty; has_slots = true })) s.buffers m x.query x.quota (step (Unpin p content) h)
    unpins content pinned slots =
        let quota_is : free_slots s m ≡ x.quota - slots_of s.pages m = ap (λ (o : Option Session). unwrap_or (option_map (λ (z : Session). z.quota) o) 0 - slots_of s.pages m) is in
        unpinned left s.block_len s.trackers s.pages s.buffers m x.query x.quota h told p y there its page_under (fits s sound y.client) content (λ q. left_in q (Unpin p content) (left q))
        (ap (λ (b : Bool). if b then content else left p) (eq-eqb p p refl)) (λ q apart. ap (λ (b : Bool). if b then content else left q) (ne_eqb p q (λ same. apart (sym same))))
        (elim slots [ inl has ↦ inl has | inr few ↦ inr (subst (λ (n : ℕ). y.blocks ≤ n) quota_is few) ]) pinned

  -- every event of the session but its opening and the end of its query's tracker
  pub by_itself : (event : Event) → Allows before s m event → opens event ≡ false → closes x.query event ≡ false → Still left before s sound owned m x is h told (λ p. left_in p event (left p)) (effect m event s) (step event h)
  by_itself Ask may old stays = told
  by_itself (AddTracker t parent limit (Some quota)) may old stays = let no_way : true ≡ false = old in cc
  by_itself (AddTracker t parent limit None) may old stays =
      client_came left s.block_len s.trackers s.pages s.buffers m x.query x.quota h told t (fresh_apart s t x.query (seat s sound m x is).tracker may.fresh (seat s sound m x is).lives) _ may.fresh refl
      (fresh_buffers s sound t may.fresh) limit refl (eq-eqb parent x.query (may.query ∙ ap (λ (z : Session). z.query) (same_one s sound m x is may.session may.opened)))
  by_itself (CloseTracker t) may old stays = elim may.own [
    | inl query ↦ let no_way : true ≡ false = sym (eq-eqb t x.query (sym (its_query t query))) ∙ stays in cc
    | inr client ↦
        choose (has_client t h) true _ _ _ (is_client t client)
        (client_went left s.block_len s.trackers s.pages s.buffers m x.query x.quota h told t (λ same. let no_way : true ≡ false = sym (eq-eqb t x.query same) ∙ stays in cc) client.tracker client.lives
        (sym (reservation_is s.trackers t client.tracker client.lives) ∙ may.empty) may.no_buffer (sym (ap (is_under x.query) client.lives) ∙ own_under s sound m x is t client))
  ]
  by_itself (Increase t bytes) may old stays = grows t bytes bytes may.own refl (λ query. refl)
  by_itself (IncreaseToFit t bytes) may old stays = elim may.own [
    | inr client ↦
        let same : lacking (charge_of s) bytes t s.trackers ≡ shortfall t bytes h = ap (λ (u : ℕ). bytes - u) (client_unused t client) in
        choose (has_client t h) true _ _ _ (is_client t client)
        (subst (λ (j : ℕ). Kept (grow (charge_of s) (lacking (charge_of s) bytes t s.trackers) t s.trackers) (after_reserve t j h)) same
        (reserved left s.block_len s.trackers s.pages s.buffers m x.query x.quota h told its_high query_apart root_apart free (lacking (charge_of s) bytes t s.trackers) t (own_low s sound m x is t client) (own_under s sound m x is t client) (fits s sound t)))
    | inl query ↦
        let here : x.query ≡ t = its_query t query in
        let same : lacking (charge_of s) bytes t s.trackers ≡ bytes - h.room = ap (λ (q : ℕ). bytes - unused (charge_of s) s.trackers q) (sym here) ∙ ap (λ (u : ℕ). bytes - u) room_is in
        choose (has_client t h) false _ _ _ (isnt_client t query)
        (subst (λ (j : ℕ). Kept (grow (charge_of s) (lacking (charge_of s) bytes t s.trackers) t s.trackers) (query_grown j h)) same
        (subst (λ (q : ℕ). Kept (grow (charge_of s) (lacking (charge_of s) bytes t s.trackers) q s.trackers) (query_grown (lacking (charge_of s) bytes t s.trackers) h)) here
        (grown_told left s.block_len s.trackers s.pages s.buffers m x.query x.quota h told its_high query_apart root_apart free (lacking (charge_of s) bytes t s.trackers))))
  ]
  by_itself (Decrease t bytes) may old stays = falls t bytes may.own may.spare.unused
  by_itself (MoveReservation from to bytes) may old stays = moves from to bytes may.own may.own_to may.spare.unused
  by_itself (Create p client blocks key) may old stays =
      created left s.block_len s.trackers s.pages s.buffers m x.query x.quota h told p client blocks key
      (none_there (get s.pages p) (λ y there. let low : p < s.next_name = sound.owned.names p y there in let next : p ≡ s.next_name = may.next in omega (arith, low, next)))
      (own_under s sound m x is client may.own)
  by_itself (PinHere p) may old stays =
      placed left before s sound owned m x is h told left _ p may.page may.own.lives (Pinned 1)
      (pin_here left s.block_len s.trackers s.pages s.buffers m x.query x.quota h told p may.page may.own.lives may.own.own (page_under p may.page may.own.lives may.own.own) (fits s sound may.page.client)
      (elim may.here [ inl dirty ↦ ap pins_of dirty | inr clean ↦ ap pins_of clean.clean ]) (elim may.here [ inl dirty ↦ ap times_charged dirty | inr clean ↦ ap times_charged clean.clean ]))
  by_itself (PinLoad p) may old stays =
      placed left before s sound owned m x is h told left _ p may.page may.own.lives Loading
      (pin_load left s.block_len s.trackers s.pages s.buffers m x.query x.quota h told p may.page may.own.lives may.own.own (page_under p may.page may.own.lives may.own.own) (fits s sound may.page.client) may.evicted)
  by_itself (ReadOk p) may old stays =
      placed left before s sound owned m x is h told left _ p may.page may.own.lives (Pinned 1)
      (read_ok left s.block_len s.trackers s.pages s.buffers m x.query x.quota h told p may.page may.own.lives may.own.own (page_under p may.page may.own.lives may.own.own) (fits s sound may.page.client) may.loading)
  by_itself (ReadFailed p sum_before sum_after) may old stays =
      placed left before s sound owned m x is h told left _ p may.ends.page may.ends.own.lives Evicted
      (read_failed left s.block_len s.trackers s.pages s.buffers m x.query x.quota h told p may.ends.page may.ends.own.lives may.ends.own.own (page_under p may.ends.page may.ends.own.lives may.ends.own.own) (fits s sound may.ends.page.client) may.ends.loading)
  by_itself (ReadStale p wanted found) may old stays =
      placed left before s sound owned m x is h told left _ p may.ends.page may.ends.own.lives Evicted
      (read_failed left s.block_len s.trackers s.pages s.buffers m x.query x.quota h told p may.ends.page may.ends.own.lives may.ends.own.own (page_under p may.ends.page may.ends.own.lives may.ends.own.own) (fits s sound may.ends.page.client) may.ends.loading)
  by_itself (PinAgain p) may old stays =
      subst (λ (n : ℕ). Tells left s.block_len s.trackers (insert s.pages p (record (page_at s p) { place = Pinned (n + 1) })) s.buffers m x.query x.quota (step (PinAgain p) h)) (sym (pins_are s p may.page may.own.lives may.count may.pinned))
      (placed left before s sound owned m x is h told left _ p may.page may.own.lives (Pinned (may.count + 1))
      (pinned_again left s.block_len s.trackers s.pages s.buffers m x.query x.quota h told p may.page may.own.lives may.own.own (page_under p may.page may.own.lives may.own.own) (fits s sound may.page.client) may.count may.pinned))
  by_itself (UnpinOnce p) may old stays =
      subst (λ (n : ℕ). Tells left s.block_len s.trackers (insert s.pages p (record (page_at s p) { place = Pinned (n - 1) })) s.buffers m x.query x.quota (step (UnpinOnce p) h)) (sym (pins_are s p may.page may.own.lives may.count may.pinned))
      (placed left before s sound owned m x is h told left _ p may.page may.own.lives (Pinned (may.count - 1))
      (unpinned_once left s.block_len s.trackers s.pages s.buffers m x.query x.quota h told p may.page may.own.lives may.own.own (page_under p may.page may.own.lives may.own.own) (fits s sound may.page.client) may.count may.pinned may.several))
  by_itself (Unpin p content) may old stays =
      subst (λ (ps : Pages). Tells (λ q. left_in q (Unpin p content) (left q)) s.block_len s.trackers ps s.buffers m x.query x.quota (step (Unpin p content) h)) (sym (unpinned_pages s p may.page may.own.lives))
      (unpins p may.page may.own.lives may.own.own content may.pinned may.slots)
  by_itself (UnpinRefused p) may old stays = told
  by_itself (Extract p f) may old stays =
      subst (λ (z : Page). Tells left s.block_len s.trackers (remove s.pages p) (insert s.buffers f (record { client = z.client; blocks = z.blocks })) m x.query x.quota (step (Extract p f) h)) (sym (page_is s p may.page may.own.lives))
      (extracted left s.block_len s.trackers s.pages s.buffers m x.query x.quota h told p f may.page may.own.lives may.own.own may.pinned may.fresh (page_under p may.page may.own.lives may.own.own) (fits s sound may.page.client))
  by_itself (Destroy p) may old stays =
      destroyed left s.block_len s.trackers s.pages s.buffers m x.query x.quota h told p may.page may.own.lives may.own.own (page_under p may.page may.own.lives may.own.own) (fits s sound may.page.client) may.not_loading
  by_itself (Alloc f client blocks) may old stays =
      lent left s.block_len s.trackers s.pages s.buffers m x.query x.quota h told f (record { client = client; blocks = blocks }) may.fresh (own_under s sound m x is client may.own)
  by_itself (Free f) may old stays =
      freed left s.block_len s.trackers s.pages s.buffers m x.query x.quota h told f may.buffer may.lives (own_under s sound m x is may.buffer.client may.own) (fits s sound may.buffer.client)
  by_itself (MoveBuffer f to) may old stays =
      subst (λ (z : Buffer). Tells left s.block_len s.trackers s.pages (insert s.buffers f (record z { client = to })) m x.query x.quota (step (MoveBuffer f to) h)) (sym (buffer_is s f may.buffer may.lives))
      (moved_buffer left s.block_len s.trackers s.pages s.buffers m x.query x.quota h told f to may.buffer may.lives
      (own_under s sound m x is may.buffer.client may.own) (own_under s sound m x is to may.own_to) may.other (fits s sound may.buffer.client))
  by_itself (StartWrite p) may old stays = quietly left before s sound owned m x is h told (λ n. s.entries) p may.page may.lives Dirty (Flying m) may.dirty refl (λ l. refl) refl
  by_itself (WriteOk p) may old stays = quietly left before s sound owned m x is h told (λ n. n) p may.page may.lives (Flying m) Clean may.flying refl (λ l. refl) refl
  by_itself (WriteFailed p sum_before sum_after) may old stays = quietly left before s sound owned m x is h told (λ n. n) p may.ends.page may.ends.lives (Flying m) Dirty may.ends.flying refl (λ l. refl) refl
  by_itself (Evict p) may old stays = quietly left before s sound owned m x is h told (λ n. n) p may.page may.lives Clean Evicted may.clean refl (λ l. refl) refl
  by_itself (Refused call entry) may old stays = told
