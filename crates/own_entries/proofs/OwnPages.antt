-- A page of the session changes its place, or goes: what is held is told by the step of its event.
use Rattle.std.proofs.Common.{◌≡◌, ◌≢◌, ℕ, ◌+◌, ◌-◌, ◌*◌, ◌≤◌, ◌==◌, ◌||◌, List, [], Bool, true, false, leb, if◌then◌else◌, Option, Some, None, is_some, refl, sym, ap, ◌∙◌, subst, arith, inl, inr, ◌⊎◌, eq-eqb, le-leb}
use Rattle.std.specs.FinMap.{get, insert, remove}
use Rattle.reservation_tree.specs.Tracker.{Trackers, reservation_of}
use Rattle.reservation_tree.proofs.Maps.{same_or_other}
use Rattle.pool_model.specs.declared.event.Event.TheVariants.{UnpinOnce}
use Rattle.pool_model.specs.Bytes.{bytes_of, only_if}
use Rattle.pool_model.specs.State.{Place, Pinned, Dirty, Flying, Loading, Clean, Evicted, Page, Pages, Buffers, pins_of}
use Rattle.pool_model.specs.Sums.{times_charged, page_bytes, pages_for, slots_of}
use Rattle.pool_model.proofs.Weights.{mine, not_mine}
use Rattle.pool_model.proofs.PageSums.{pages_gone}
use Rattle.store_api.specs.Holdings.{LivePage, Holdings, put, or_else, no_page, page_of, page_len}
use Rattle.store_api.specs.Changes.{charged, released, with_page, slots_taken, slots_given, after_pin, after_pin_again, after_unpin_once, after_unpin, after_destroy}
use Rattle.own_entries.specs.OwnHoldings.{step}
use Rattle.own_entries.specs.LiveParts.{is_under, live_account, live_page, left_at, charge_in, Tells}
use Rattle.own_entries.proofs.PagesTold.{rebuilt, charge_put}
use Rattle.own_entries.proofs.Views.{len_is, at, accounts_same, accounts_up, accounts_down, pages_put_told, pages_gone_told, pages_alike, slots_at, slots_put, slots_gone}

or_true : (b : Bool) → (b || true) ≡ true
or_true true = refl
or_true false = refl

-- a page that isn't loading is charged once for each pin
paid : (place : Place) → place ≢ Loading → times_charged place ≡ pins_of place
paid (Pinned count) isnt = refl
paid Loading isnt = absurd (isnt refl)
paid Dirty isnt = refl
paid (Flying writer) isnt = refl
paid Clean isnt = refl
paid Evicted isnt = refl

module _ (left : ℕ → List ℕ) (len : ℕ) (ts : Trackers) (pages : Pages) (buffers : Buffers) (m query quota : ℕ) (h : Holdings)
    (told : Tells left len ts pages buffers m query quota h) (p : ℕ) (x : Page) (is : get pages p ≡ Some x)
    (ours : x.session ≡ m) (client : is_under query (get ts x.client) ≡ true) (fits : charge_in len pages buffers x.client ≤ reservation_of ts x.client) where
  abbrev reads_as : List ℕ → Page → LivePage
  reads_as l w = record { key = w.key; client = w.client; blocks = w.blocks; pins = pins_of w.place; left = left_at w.place l; has_slots = w.has_slots }

  reads : (l : List ℕ) (w : Page) → w.session ≡ x.session → live_page m l (Some w) ≡ Some (reads_as l w)
  reads l w same = ap (λ (b : Bool). if b then Some (reads_as l w) else None) (eq-eqb w.session m (same ∙ ours))

  pub is_held : page_of p h ≡ reads_as (left p) x
  is_held = ap (or_else no_page) (told.live_pages p ∙ ap (live_page m (left p)) is ∙ reads (left p) x refl)

  length_is : page_len p h ≡ bytes_of len x.blocks
  length_is = ap (λ (v : LivePage). v.blocks * h.block_len) is_held ∙ ap (λ (n : ℕ). x.blocks * n) told.block_len ∙ sym (len_is len x.blocks)

  own_slots : (w : Page) → w.session ≡ x.session → slots_at m w ≡ only_if w.has_slots w.blocks
  own_slots w same = ap (λ (b : Bool). only_if b (only_if w.has_slots w.blocks)) (eq-eqb w.session m (same ∙ ours))

  others_same : (w : Page) → w.client ≡ x.client → (c : ℕ) → c ≢ x.client → is_under query (get ts c) ≡ true → charge_in len (insert pages p w) buffers c ≡ charge_in len pages buffers c
  others_same w same c apart own =
      let sum = charge_put left len ts pages buffers m query quota h told p x is w same c in
      let first : only_if (x.client == c) (page_bytes times_charged len x) ≡ 0 = not_mine x.client c _ (λ one. apart (sym one)) in
      let second : only_if (x.client == c) (page_bytes times_charged len w) ≡ 0 = not_mine x.client c _ (λ one. apart (sym one)) in
      omega (arith, sum, first, second)

  own_sum : (w : Page) → w.client ≡ x.client → charge_in len (insert pages p w) buffers x.client + page_bytes times_charged len x ≡ charge_in len pages buffers x.client + page_bytes times_charged len w
  own_sum w same =
      let sum = charge_put left len ts pages buffers m query quota h told p x is w same x.client in
      let first : only_if (x.client == x.client) (page_bytes times_charged len x) ≡ page_bytes times_charged len x = mine x.client _ in
      let second : only_if (x.client == x.client) (page_bytes times_charged len w) ≡ page_bytes times_charged len w = mine x.client _ in
      omega (arith, sum, first, second)

  charges : (w : Page) (times : ℕ) → times_charged w.place ≡ times → page_bytes times_charged len w ≡ times * bytes_of len w.blocks
  charges w times so = ap (λ (n : ℕ). n * bytes_of len w.blocks) so

  -- it is charged once more
  more_clients : (place : Place) (times : ℕ) → times_charged x.place ≡ times → times_charged place ≡ times + 1 → (c : ℕ)
      → (charged (page_of p h).client (page_len p h) h).clients c ≡ live_account query (charge_in len (insert pages p (record x { place = place })) buffers c) (get ts c)
  more_clients place times was now =
      let w : Page = record x { place = place } in
      let sum = own_sum w refl in
      let a : page_bytes times_charged len x ≡ times * bytes_of len x.blocks = charges x times was in
      let b : page_bytes times_charged len w ≡ (times + 1) * bytes_of len x.blocks = charges w (times + 1) now in
      let more : (times + 1) * bytes_of len x.blocks ≡ times * bytes_of len x.blocks + bytes_of len x.blocks = omega arith in
      let clients : (c : ℕ) → put x.client (Some (record (at x.client h.clients) { unused = (at x.client h.clients).unused - bytes_of len x.blocks })) h.clients c ≡ live_account query (charge_in len (insert pages p w) buffers c) (get ts c) =
      accounts_up query ts (charge_in len pages buffers) (charge_in len (insert pages p w) buffers) h.clients told.clients x.client (bytes_of len x.blocks) client (others_same w refl) (omega (arith, sum, a, b, more)) in
      λ c. ap (λ (n : ℕ). (charged (page_of p h).client n h).clients c) length_is ∙ ap (λ (v : LivePage). (charged v.client (bytes_of len x.blocks) h).clients c) is_held ∙ clients c

  -- or once less
  less_clients : (w : Page) → w.client ≡ x.client → w.blocks ≡ x.blocks → (times : ℕ) → times_charged x.place ≡ times + 1 → times_charged w.place ≡ times → (c : ℕ)
      → (released (page_of p h).client (page_len p h) h).clients c ≡ live_account query (charge_in len (insert pages p w) buffers c) (get ts c)
  less_clients w same as_long times was now =
      let sum = own_sum w same in
      let a : page_bytes times_charged len x ≡ (times + 1) * bytes_of len x.blocks = charges x (times + 1) was in
      let b : page_bytes times_charged len w ≡ times * bytes_of len x.blocks = charges w times now ∙ ap (λ (n : ℕ). times * bytes_of len n) as_long in
      let more : (times + 1) * bytes_of len x.blocks ≡ times * bytes_of len x.blocks + bytes_of len x.blocks = omega arith in
      let clients : (c : ℕ) → put x.client (Some (record (at x.client h.clients) { unused = (at x.client h.clients).unused + bytes_of len x.blocks })) h.clients c ≡ live_account query (charge_in len (insert pages p w) buffers c) (get ts c) =
      accounts_down query ts (charge_in len pages buffers) (charge_in len (insert pages p w) buffers) h.clients told.clients x.client (bytes_of len x.blocks) client (others_same w same) (omega (arith, sum, a, b, more)) fits in
      λ c. ap (λ (n : ℕ). (released (page_of p h).client n h).clients c) length_is ∙ ap (λ (v : LivePage). (released v.client (bytes_of len x.blocks) h).clients c) is_held ∙ clients c

  same_slots : (place : Place) → slots_of (insert pages p (record x { place = place })) m ≡ slots_of pages m
  same_slots place = let sum : slots_of (insert pages p (record x { place = place })) m + slots_at m x ≡ slots_of pages m + slots_at m x = slots_put m pages p x (record x { place = place }) is in omega (arith, sum)

  still_free : (pages2 : Pages) → slots_of pages2 m ≡ slots_of pages m → h.free_slots ≡ Some (quota - slots_of pages2 m)
  still_free pages2 same = told.free_slots ∙ ap (λ (n : ℕ). Some (quota - n)) (sym same)

  still_few : (pages2 : Pages) → slots_of pages2 m ≡ slots_of pages m → slots_of pages2 m ≤ quota
  still_few pages2 same = subst (λ (n : ℕ). n ≤ quota) (sym same) told.slots

  pub pin_here : pins_of x.place ≡ 0 → times_charged x.place ≡ 0 → Tells left len ts (insert pages p (record x { place = Pinned 1 })) buffers m query quota (after_pin p h)
  pin_here rests was =
      let w : Page = record x { place = Pinned 1 } in
      let now : Some (record (page_of p h) { pins = (page_of p h).pins + 1; left = [] }) ≡ Some (reads_as (left p) w) =
      ap (λ (v : LivePage). Some (record v { pins = v.pins + 1; left = [] })) is_held ∙ ap (λ (n : ℕ). Some (record (reads_as (left p) w) { pins = n + 1 })) rests in
      rebuilt left len ts pages buffers m query quota h told left (insert pages p w) buffers _ _ h.loans h.free_slots (more_clients (Pinned 1) 0 was refl)
      (pages_put_told m left left pages h.pages told.live_pages p (λ q apart. refl) w _ (reads (left p) w refl ∙ sym now))
      told.loans (still_free _ (same_slots (Pinned 1))) (still_few _ (same_slots (Pinned 1)))

  pub pin_load : x.place ≡ Evicted → Tells left len ts (insert pages p (record x { place = Loading })) buffers m query quota (charged (page_of p h).client (page_len p h) h)
  pin_load was =
      let w : Page = record x { place = Loading } in
      let alike_there : live_page m (left p) (Some x) ≡ live_page m (left p) (Some w) = ap (λ (place : Place). live_page m (left p) (Some (record x { place = place }))) was in
      rebuilt left len ts pages buffers m query quota h told left (insert pages p w) buffers _ h.pages h.loans h.free_slots (more_clients Loading 0 (ap times_charged was) refl)
      (pages_alike m left left pages h.pages told.live_pages p (λ q apart. refl) w (told.live_pages p ∙ ap (live_page m (left p)) is ∙ alike_there))
      told.loans (still_free _ (same_slots Loading)) (still_few _ (same_slots Loading))

  pub read_failed : x.place ≡ Loading → Tells left len ts (insert pages p (record x { place = Evicted })) buffers m query quota (released (page_of p h).client (page_len p h) h)
  read_failed was =
      let w : Page = record x { place = Evicted } in
      let alike_there : live_page m (left p) (Some x) ≡ live_page m (left p) (Some w) = ap (λ (place : Place). live_page m (left p) (Some (record x { place = place }))) was in
      rebuilt left len ts pages buffers m query quota h told left (insert pages p w) buffers _ h.pages h.loans h.free_slots (less_clients w refl refl 0 (ap times_charged was) refl)
      (pages_alike m left left pages h.pages told.live_pages p (λ q apart. refl) w (told.live_pages p ∙ ap (live_page m (left p)) is ∙ alike_there))
      told.loans (still_free _ (same_slots Evicted)) (still_few _ (same_slots Evicted))

  pub read_ok : x.place ≡ Loading → Tells left len ts (insert pages p (record x { place = Pinned 1 })) buffers m query quota (with_page p (Some (record (page_of p h) { pins = (page_of p h).pins + 1; left = [] })) h)
  read_ok was =
      let w : Page = record x { place = Pinned 1 } in
      let sum = own_sum w refl in
      let a : page_bytes times_charged len x ≡ 1 * bytes_of len x.blocks = charges x 1 (ap times_charged was) in
      let b : page_bytes times_charged len w ≡ 1 * bytes_of len x.blocks = charges w 1 refl in
      let now : Some (record (page_of p h) { pins = (page_of p h).pins + 1; left = [] }) ≡ Some (reads_as (left p) w) =
      ap (λ (v : LivePage). Some (record v { pins = v.pins + 1; left = [] })) is_held ∙ ap (λ (place : Place). Some (record (reads_as (left p) w) { pins = pins_of place + 1 })) was in
      rebuilt left len ts pages buffers m query quota h told left (insert pages p w) buffers h.clients _ h.loans h.free_slots
      (accounts_same query ts (charge_in len pages buffers) (charge_in len (insert pages p w) buffers) h.clients told.clients (λ c own. elim (same_or_other c x.client) [
        | inl here ↦ subst (λ (d : ℕ). charge_in len (insert pages p w) buffers d ≡ charge_in len pages buffers d) (sym here) (omega (arith, sum, a, b))
        | inr apart ↦ others_same w refl c apart own
      ]))
      (pages_put_told m left left pages h.pages told.live_pages p (λ q apart. refl) w _ (reads (left p) w refl ∙ sym now))
      told.loans (still_free _ (same_slots (Pinned 1))) (still_few _ (same_slots (Pinned 1)))

  pub pinned_again : (count : ℕ) → x.place ≡ Pinned count → Tells left len ts (insert pages p (record x { place = Pinned (count + 1) })) buffers m query quota (after_pin_again p h)
  pinned_again count was =
      let w : Page = record x { place = Pinned (count + 1) } in
      let now : Some (record (page_of p h) { pins = (page_of p h).pins + 1 }) ≡ Some (reads_as (left p) w) =
      ap (λ (v : LivePage). Some (record v { pins = v.pins + 1 })) is_held ∙ ap (λ (place : Place). Some (record (reads_as (left p) x) { pins = pins_of place + 1; left = left_at place (left p) })) was in
      rebuilt left len ts pages buffers m query quota h told left (insert pages p w) buffers _ _ h.loans h.free_slots (more_clients (Pinned (count + 1)) count (ap times_charged was) refl)
      (pages_put_told m left left pages h.pages told.live_pages p (λ q apart. refl) w _ (reads (left p) w refl ∙ sym now))
      told.loans (still_free _ (same_slots (Pinned (count + 1)))) (still_few _ (same_slots (Pinned (count + 1))))

  pub unpinned_once : (count : ℕ) → x.place ≡ Pinned count → 2 ≤ count → Tells left len ts (insert pages p (record x { place = Pinned (count - 1) })) buffers m query quota (step (UnpinOnce p) h)
  unpinned_once count was several =
      let w : Page = record x { place = Pinned (count - 1) } in
      let one_less : count ≡ (count - 1) + 1 = omega (arith, several) in
      let pins : (page_of p h).pins ≡ count = ap (λ (v : LivePage). v.pins) is_held ∙ ap pins_of was in
      let steps : step (UnpinOnce p) h ≡ after_unpin_once p h = ap (λ (b : Bool). if b then after_unpin_once p h else h) (ap (leb 2) pins ∙ le-leb 2 count several) in
      let now : Some (record (page_of p h) { pins = (page_of p h).pins - 1 }) ≡ Some (reads_as (left p) w) =
      ap (λ (v : LivePage). Some (record v { pins = v.pins - 1 })) is_held ∙ ap (λ (place : Place). Some (record (reads_as (left p) x) { pins = pins_of place - 1; left = left_at place (left p) })) was in
      subst (Tells left len ts (insert pages p w) buffers m query quota) (sym steps)
      (rebuilt left len ts pages buffers m query quota h told left (insert pages p w) buffers _ _ h.loans h.free_slots (less_clients w refl refl (count - 1) (ap times_charged was ∙ one_less) refl)
      (pages_put_told m left left pages h.pages told.live_pages p (λ q apart. refl) w _ (reads (left p) w refl ∙ sym now))
      told.loans (still_free _ (same_slots (Pinned (count - 1)))) (still_few _ (same_slots (Pinned (count - 1)))))

  -- it rests with these bytes, and has slots
  module _ (content : List ℕ) (left2 : ℕ → List ℕ) (here : left2 p ≡ content) (others : (q : ℕ) → q ≢ p → left2 q ≡ left q)
      (slots : (x.has_slots ≡ true) ⊎ (x.blocks ≤ quota - slots_of pages m)) where
    abbrev resting : Page
    resting = record x { place = Dirty; has_slots = true }

    -- the free slots, by whether it had some
    taken : (has : Bool) → x.has_slots ≡ has → ((if has then Some (quota - slots_of pages m) else Some ((quota - slots_of pages m) - x.blocks)) ≡ Some (quota - slots_of (insert pages p resting) m))
        × (slots_of (insert pages p resting) m ≤ quota)
    taken true has =
        let sum : slots_of (insert pages p resting) m + slots_at m x ≡ slots_of pages m + slots_at m resting = slots_put m pages p x resting is in
        let a : slots_at m x ≡ x.blocks = own_slots x refl ∙ ap (λ (b : Bool). only_if b x.blocks) has in
        let b : slots_at m resting ≡ x.blocks = own_slots resting refl in
        let same : slots_of (insert pages p resting) m ≡ slots_of pages m = omega (arith, sum, a, b) in
        (ap (λ (n : ℕ). Some (quota - n)) (sym same), still_few _ same)
    taken false has =
        let sum : slots_of (insert pages p resting) m + slots_at m x ≡ slots_of pages m + slots_at m resting = slots_put m pages p x resting is in
        let a : slots_at m x ≡ 0 = own_slots x refl ∙ ap (λ (b : Bool). only_if b x.blocks) has in
        let b : slots_at m resting ≡ x.blocks = own_slots resting refl in
        let enough : x.blocks ≤ quota - slots_of pages m = elim slots [ inl has_some ↦ let no : true ≡ false = sym has_some ∙ has in cc | inr few ↦ few ] in
        let few : slots_of pages m ≤ quota = told.slots in
        (ap Some (omega (arith, sum, a, b)), omega (arith, sum, a, b, enough, few))

    pub unpinned : x.place ≡ Pinned 1 → Tells left2 len ts (insert pages p resting) buffers m query quota (after_unpin p content h)
    unpinned was =
        let now : Some (record (page_of p h) { pins = (page_of p h).pins - 1; left = content; has_slots = (page_of p h).has_slots || is_some h.free_slots }) ≡ Some (reads_as (left2 p) resting) =
        ap (λ (v : LivePage). Some (record v { pins = v.pins - 1; left = content; has_slots = v.has_slots || is_some h.free_slots })) is_held
        ∙ ap (λ (o : Option ℕ). Some (record (reads_as (left p) x) { pins = pins_of x.place - 1; left = content; has_slots = x.has_slots || is_some o })) told.free_slots
        ∙ ap (λ (place : Place). Some (record (reads_as (left p) x) { pins = pins_of place - 1; left = content; has_slots = x.has_slots || true })) was
        ∙ ap (λ (b : Bool). Some (record (reads_as (left p) x) { pins = 0; left = content; has_slots = b })) (or_true x.has_slots)
        ∙ ap (λ (l : List ℕ). Some (record (reads_as (left p) x) { pins = 0; left = l; has_slots = true })) (sym here) in
        let free : slots_taken (page_of p h) h.free_slots ≡ Some (quota - slots_of (insert pages p resting) m) =
        ap (λ (v : LivePage). slots_taken v h.free_slots) is_held ∙ ap (slots_taken (reads_as (left p) x)) told.free_slots ∙ (taken x.has_slots refl).0 in
        rebuilt left len ts pages buffers m query quota h told left2 (insert pages p resting) buffers _ _ h.loans _ (less_clients resting refl refl 0 (ap times_charged was) refl)
        (pages_put_told m left left2 pages h.pages told.live_pages p others resting _ (reads (left2 p) resting refl ∙ sym now))
        told.loans free (taken x.has_slots refl).1

  -- it goes, with its slots
  given : (has : Bool) → x.has_slots ≡ has → ((if has then Some ((quota - slots_of pages m) + x.blocks) else Some (quota - slots_of pages m)) ≡ Some (quota - slots_of (remove pages p) m))
      × (slots_of (remove pages p) m ≤ quota)
  given true so =
      let sum : slots_of (remove pages p) m + slots_at m x ≡ slots_of pages m = slots_gone m pages p x is in
      let a : slots_at m x ≡ x.blocks = own_slots x refl ∙ ap (λ (b : Bool). only_if b x.blocks) so in
      let few : slots_of pages m ≤ quota = told.slots in
      (ap Some (omega (arith, sum, a, few)), omega (arith, sum, a, few))
  given false so =
      let sum : slots_of (remove pages p) m + slots_at m x ≡ slots_of pages m = slots_gone m pages p x is in
      let a : slots_at m x ≡ 0 = own_slots x refl ∙ ap (λ (b : Bool). only_if b x.blocks) so in
      let few : slots_of pages m ≤ quota = told.slots in
      (ap Some (omega (arith, sum, a, few)), omega (arith, sum, a, few))

  pub slots_back : slots_given (page_of p h) h.free_slots ≡ Some (quota - slots_of (remove pages p) m)
  slots_back = ap (λ (v : LivePage). slots_given v h.free_slots) is_held ∙ ap (slots_given (reads_as (left p) x)) told.free_slots ∙ (given x.has_slots refl).0

  pub few_slots : slots_of (remove pages p) m ≤ quota
  few_slots = (given x.has_slots refl).1

  pub destroyed : x.place ≢ Loading → Tells left len ts (remove pages p) buffers m query quota (after_destroy p h)
  destroyed isnt =
      let bytes : ℕ = pins_of x.place * bytes_of len x.blocks in
      let cost : page_bytes times_charged len x ≡ bytes = ap (λ (n : ℕ). n * bytes_of len x.blocks) (paid x.place isnt) in
      let sum : (c : ℕ) → charge_in len (remove pages p) buffers c + only_if (x.client == c) (page_bytes times_charged len x) ≡ charge_in len pages buffers c = λ c.
      let gone : pages_for times_charged len (remove pages p) c + only_if (x.client == c) (page_bytes times_charged len x) ≡ pages_for times_charged len pages c = pages_gone times_charged len pages p x is c in
      omega (arith, gone) in
      let own = sum x.client in
      let whole : only_if (x.client == x.client) (page_bytes times_charged len x) ≡ page_bytes times_charged len x = mine x.client _ in
      let clients : (c : ℕ) → put x.client (Some (record (at x.client h.clients) { unused = (at x.client h.clients).unused + bytes })) h.clients c ≡ live_account query (charge_in len (remove pages p) buffers c) (get ts c) =
      accounts_down query ts (charge_in len pages buffers) (charge_in len (remove pages p) buffers) h.clients told.clients x.client bytes client
      (λ c apart ours_too. let one = sum c in let none : only_if (x.client == c) (page_bytes times_charged len x) ≡ 0 = not_mine x.client c _ (λ same. apart (sym same)) in omega (arith, one, none))
      (omega (arith, own, whole, cost)) fits in
      rebuilt left len ts pages buffers m query quota h told left (remove pages p) buffers _ _ h.loans _
      (λ c. ap (λ (n : ℕ). (released (page_of p h).client ((page_of p h).pins * n) h).clients c) length_is ∙ ap (λ (v : LivePage). (released v.client (v.pins * bytes_of len x.blocks) h).clients c) is_held ∙ clients c)
      (pages_gone_told m left left pages h.pages told.live_pages p (λ q apart. refl))
      told.loans slots_back few_slots
