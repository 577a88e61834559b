-- A page of anybody changes its place, and a page of others goes: what is held is still told.
use Rattle.std.proofs.Common.{◌≡◌, ◌≢◌, ℕ, ◌+◌, ◌-◌, ◌*◌, ◌≤◌, ◌==◌, List, Bool, true, false, if◌then◌else◌, Option, Some, None, refl, sym, ap, ◌∙◌, subst, arith, inl, inr, ne_eqb}
use Rattle.std.specs.FinMap.{FinMap, get, insert, remove}
use Rattle.std.specs.Ordering.{nat_cmp}
use Rattle.reservation_tree.specs.Tracker.{Trackers}
use Rattle.reservation_tree.proofs.Maps.{get_same, get_other, same_or_other, alike}
use Rattle.pool_model.specs.Bytes.{bytes_of, only_if}
use Rattle.pool_model.specs.State.{Place, Page, Pages, Buffers, pins_of}
use Rattle.pool_model.specs.Sums.{times_charged, page_bytes, pages_for, slots_of}
use Rattle.pool_model.proofs.Weights.{not_mine}
use Rattle.pool_model.proofs.PageSums.{pages_put, pages_gone}
use Rattle.store_api.specs.Holdings.{Account, LivePage, LiveLoan, Holdings}
use Rattle.own_entries.specs.LiveParts.{is_under, live_account, live_page, left_at, live_loan, charge_in, Tells}
use Rattle.own_entries.proofs.Views.{accounts_same, pages_alike, pages_lost, slots_at, slots_put, slots_gone}

module _ {X : Type 0} where
  pub insert_again : (m : FinMap nat_cmp X) (k : ℕ) (v w : X) → insert (insert m k v) k w ≡ insert m k w
  insert_again m k v w = alike _ _ (λ q. elim (same_or_other q k) [
    | inl here ↦ subst (λ (r : ℕ). get (insert (insert m k v) k w) r ≡ get (insert m k w) r) (sym here) (get_same (insert m k v) k w ∙ sym (get_same m k w))
    | inr apart ↦ get_other (insert m k v) k w q apart ∙ get_other m k v q apart ∙ sym (get_other m k w q apart)
  ])

module _ (left : ℕ → List ℕ) (len : ℕ) (ts : Trackers) (pages : Pages) (buffers : Buffers) (m query quota : ℕ) (h : Holdings)
    (told : Tells left len ts pages buffers m query quota h) where
  -- other clients' accounts, pages, loans and free slots, with the same trackers
  pub rebuilt : (left2 : ℕ → List ℕ) (pages2 : Pages) (buffers2 : Buffers) (clients : ℕ → Option Account) (held : ℕ → Option LivePage) (loans : ℕ → Option LiveLoan) (free : Option ℕ)
      → ((c : ℕ) → clients c ≡ live_account query (charge_in len pages2 buffers2 c) (get ts c))
      → ((p : ℕ) → held p ≡ live_page m (left2 p) (get pages2 p))
      → ((f : ℕ) → loans f ≡ live_loan query ts (get buffers2 f))
      → free ≡ Some (quota - slots_of pages2 m) → slots_of pages2 m ≤ quota
      → Tells left2 len ts pages2 buffers2 m query quota (record h { clients = clients; pages = held; loans = loans; free_slots = free })
  rebuilt left2 pages2 buffers2 clients held loans free c p f n fits = record {
    block_len = told.block_len;
    session = told.session;
    tracker = told.tracker;
    limit = told.limit;
    reservation = told.reservation;
    room = told.room;
    live_clients = told.live_clients;
    clients = c;
    live_pages = p;
    loans = f;
    free_slots = n;
    slots = fits;
  }

  module _ (p : ℕ) (x : Page) (is : get pages p ≡ Some x) where
    pub charge_put : (w : Page) → w.client ≡ x.client → (c : ℕ) → charge_in len (insert pages p w) buffers c + only_if (x.client == c) (page_bytes times_charged len x) ≡ charge_in len pages buffers c + only_if (x.client == c) (page_bytes times_charged len w)
    charge_put w same c =
        let sum : pages_for times_charged len (insert pages p w) c + only_if (x.client == c) (page_bytes times_charged len x) ≡ pages_for times_charged len pages c + only_if (w.client == c) (page_bytes times_charged len w) = pages_put times_charged len pages p x is w c in
        let whose : only_if (w.client == c) (page_bytes times_charged len w) ≡ only_if (x.client == c) (page_bytes times_charged len w) = ap (λ (d : ℕ). only_if (d == c) (page_bytes times_charged len w)) same in
        omega (arith, sum, whose)

    -- the page reads as before from where it goes
    pub quiet : (version : ℕ → ℕ) (place : Place) → pins_of place ≡ pins_of x.place → ((l : List ℕ) → left_at place l ≡ left_at x.place l) → times_charged place ≡ times_charged x.place
        → Tells left len ts (insert pages p (record x { place = place; version = version x.version })) buffers m query quota h
    quiet version place pins lefts charges =
        let w : Page = record x { place = place; version = version x.version } in
        let same : page_bytes times_charged len w ≡ page_bytes times_charged len x = ap (λ (n : ℕ). n * bytes_of len x.blocks) charges in
        let sum : slots_of (insert pages p w) m + slots_at m x ≡ slots_of pages m + slots_at m x = slots_put m pages p x w is in
        let slots : slots_of (insert pages p w) m ≡ slots_of pages m = omega (arith, sum) in
        let reads : live_page m (left p) (Some x) ≡ live_page m (left p) (Some w) =
        ap (λ (n : ℕ). if x.session == m then Some (record { key = x.key; client = x.client; blocks = x.blocks; pins = n; left = left_at x.place (left p); has_slots = x.has_slots }) else None) (sym pins)
        ∙ ap (λ (l : List ℕ). if x.session == m then Some (record { key = x.key; client = x.client; blocks = x.blocks; pins = pins_of place; left = l; has_slots = x.has_slots }) else None) (sym (lefts (left p))) in
        rebuilt left (insert pages p w) buffers h.clients h.pages h.loans h.free_slots
        (accounts_same query ts (charge_in len pages buffers) (charge_in len (insert pages p w) buffers) h.clients told.clients (λ c own. let put_sum = charge_put w refl c in
        let same_part : only_if (x.client == c) (page_bytes times_charged len w) ≡ only_if (x.client == c) (page_bytes times_charged len x) = ap (only_if (x.client == c)) same in omega (arith, put_sum, same_part)))
        (pages_alike m left left pages h.pages told.live_pages p (λ q apart. refl) w (told.live_pages p ∙ ap (live_page m (left p)) is ∙ reads))
        told.loans (told.free_slots ∙ ap (λ (n : ℕ). Some (quota - n)) (sym slots)) (subst (λ (n : ℕ). n ≤ quota) (sym slots) told.slots)

    -- the page is another session's
    module _ (theirs : x.session ≢ m) (not_ours : is_under query (get ts x.client) ≡ false) (left2 : ℕ → List ℕ) (others : (q : ℕ) → q ≢ p → left2 q ≡ left q) where
      reads_none : (l : List ℕ) (w : Page) → w.session ≡ x.session → live_page m l (Some w) ≡ None
      reads_none l w same = ap (λ (b : Bool). if b then Some (record { key = w.key; client = w.client; blocks = w.blocks; pins = pins_of w.place; left = left_at w.place l; has_slots = w.has_slots }) else None) (ne_eqb w.session m (λ one. theirs (sym same ∙ one)))

      none_held : h.pages p ≡ None
      none_held = told.live_pages p ∙ ap (live_page m (left p)) is ∙ reads_none (left p) x refl

      no_slots : (w : Page) → w.session ≡ x.session → slots_at m w ≡ 0
      no_slots w same = ap (λ (b : Bool). only_if b (only_if w.has_slots w.blocks)) (ne_eqb w.session m (λ one. theirs (sym same ∙ one)))

      apart_from : (c : ℕ) → is_under query (get ts c) ≡ true → x.client ≢ c
      apart_from c own same = let no : true ≡ false = sym own ∙ ap (λ (d : ℕ). is_under query (get ts d)) (sym same) ∙ not_ours in cc

      pub foreign_put : (w : Page) → w.session ≡ x.session → w.client ≡ x.client → Tells left2 len ts (insert pages p w) buffers m query quota h
      foreign_put w same client =
          let sum : slots_of (insert pages p w) m + slots_at m x ≡ slots_of pages m + slots_at m w = slots_put m pages p x w is in
          let a : slots_at m x ≡ 0 = no_slots x refl in
          let b : slots_at m w ≡ 0 = no_slots w same in
          let slots : slots_of (insert pages p w) m ≡ slots_of pages m = omega (arith, sum, a, b) in
          rebuilt left2 (insert pages p w) buffers h.clients h.pages h.loans h.free_slots
          (accounts_same query ts (charge_in len pages buffers) (charge_in len (insert pages p w) buffers) h.clients told.clients (λ c own.
          let put_sum = charge_put w client c in
          let first : only_if (x.client == c) (page_bytes times_charged len x) ≡ 0 = not_mine x.client c _ (apart_from c own) in
          let second : only_if (x.client == c) (page_bytes times_charged len w) ≡ 0 = not_mine x.client c _ (apart_from c own) in
          omega (arith, put_sum, first, second)))
          (pages_alike m left left2 pages h.pages told.live_pages p others w (none_held ∙ sym (reads_none (left2 p) w same)))
          told.loans (told.free_slots ∙ ap (λ (n : ℕ). Some (quota - n)) (sym slots)) (subst (λ (n : ℕ). n ≤ quota) (sym slots) told.slots)

      pub foreign_gone : Tells left2 len ts (remove pages p) buffers m query quota h
      foreign_gone =
          let sum : slots_of (remove pages p) m + slots_at m x ≡ slots_of pages m = slots_gone m pages p x is in
          let a : slots_at m x ≡ 0 = no_slots x refl in
          let slots : slots_of (remove pages p) m ≡ slots_of pages m = omega (arith, sum, a) in
          rebuilt left2 (remove pages p) buffers h.clients h.pages h.loans h.free_slots
          (accounts_same query ts (charge_in len pages buffers) (charge_in len (remove pages p) buffers) h.clients told.clients (λ c own.
          let gone : pages_for times_charged len (remove pages p) c + only_if (x.client == c) (page_bytes times_charged len x) ≡ pages_for times_charged len pages c = pages_gone times_charged len pages p x is c in
          let first : only_if (x.client == c) (page_bytes times_charged len x) ≡ 0 = not_mine x.client c _ (apart_from c own) in
          omega (arith, gone, first)))
          (pages_lost m left left2 pages h.pages told.live_pages p others none_held)
          told.loans (told.free_slots ∙ ap (λ (n : ℕ). Some (quota - n)) (sym slots)) (subst (λ (n : ℕ). n ≤ quota) (sym slots) told.slots)
