-- A page comes, or a buffer comes or goes: what is held is still told.
use Rattle.std.proofs.Common.{◌≡◌, ◌≢◌, ℕ, ◌+◌, ◌-◌, ◌*◌, ◌≤◌, ◌==◌, List, [], Bool, true, false, if◌then◌else◌, Option, Some, None, refl, sym, ap, ◌∙◌, subst, arith, inl, inr, eq-eqb, ne_eqb}
use Rattle.std.specs.FinMap.{get, insert, remove}
use Rattle.reservation_tree.specs.Total.{weight_at}
use Rattle.reservation_tree.specs.Tracker.{Trackers, reservation_of}
use Rattle.reservation_tree.proofs.Maps.{get_same, get_other, removed_same, removed_other, same_or_other}
use Rattle.reservation_tree.proofs.Sums.{total-insert}
use Rattle.pool_model.specs.Bytes.{bytes_of, only_if}
use Rattle.pool_model.specs.State.{Pinned, Page, Pages, Buffer, Buffers}
use Rattle.pool_model.specs.Sums.{times_charged, page_bytes, pages_for, buffers_for, slots_of}
use Rattle.pool_model.proofs.Weights.{mine, not_mine, one_time}
use Rattle.pool_model.proofs.PageSums.{buffers_gone}
use Rattle.store_api.specs.Holdings.{Account, LivePage, LiveLoan, Holdings, put, or_else, no_loan, loan_of, length_of}
use Rattle.store_api.specs.Changes.{charged, released, after_create, after_alloc, after_free}
use Rattle.store_api.proofs.Puts.{put_here, put_there}
use Rattle.own_entries.specs.LiveParts.{is_under, live_account, live_page, live_loan, charge_in, Tells}
use Rattle.own_entries.proofs.Views.{len_is, at, accounts_same, accounts_up, accounts_down, pages_put_told, pages_alike, slots_at, slots_new}
use Rattle.own_entries.proofs.PagesTold.{rebuilt}

module _ (query : ℕ) (ts : Trackers) (buffers : Buffers) (held : ℕ → Option LiveLoan) (told : (g : ℕ) → held g ≡ live_loan query ts (get buffers g)) (f : ℕ) where
  pub loans_put_told : (w : Buffer) (v : Option LiveLoan) → live_loan query ts (Some w) ≡ v → (g : ℕ) → put f v held g ≡ live_loan query ts (get (insert buffers f w) g)
  loans_put_told w v is g = elim (same_or_other g f) [
    | inl same ↦ subst (λ (r : ℕ). put f v held r ≡ live_loan query ts (get (insert buffers f w) r)) (sym same) (put_here f v held ∙ sym is ∙ ap (live_loan query ts) (sym (get_same buffers f w)))
    | inr apart ↦ put_there f g v held apart ∙ told g ∙ ap (live_loan query ts) (sym (get_other buffers f w g apart))
  ]

  loans_gone_told : (g : ℕ) → put f None held g ≡ live_loan query ts (get (remove buffers f) g)
  loans_gone_told g = elim (same_or_other g f) [
    | inl same ↦ subst (λ (r : ℕ). put f None held r ≡ live_loan query ts (get (remove buffers f) r)) (sym same) (put_here f None held ∙ ap (live_loan query ts) (sym (removed_same buffers f)))
    | inr apart ↦ put_there f g None held apart ∙ told g ∙ ap (live_loan query ts) (sym (removed_other buffers f g apart))
  ]

  loans_alike : (w : Buffer) → held f ≡ live_loan query ts (Some w) → (g : ℕ) → held g ≡ live_loan query ts (get (insert buffers f w) g)
  loans_alike w is g = elim (same_or_other g f) [
    | inl same ↦ subst (λ (r : ℕ). held r ≡ live_loan query ts (get (insert buffers f w) r)) (sym same) (is ∙ ap (live_loan query ts) (sym (get_same buffers f w)))
    | inr apart ↦ told g ∙ ap (live_loan query ts) (sym (get_other buffers f w g apart))
  ]

  loans_lost : held f ≡ None → (g : ℕ) → held g ≡ live_loan query ts (get (remove buffers f) g)
  loans_lost none g = elim (same_or_other g f) [
    | inl same ↦ subst (λ (r : ℕ). held r ≡ live_loan query ts (get (remove buffers f) r)) (sym same) (none ∙ ap (live_loan query ts) (sym (removed_same buffers f)))
    | inr apart ↦ told g ∙ ap (live_loan query ts) (sym (removed_other buffers f g apart))
  ]

-- what a client's buffers come to where one comes, in place of what had the number
buffers_put : (len : ℕ) (buffers : Buffers) (f : ℕ) (w : Buffer) (t : ℕ)
    → buffers_for len (insert buffers f w) t + weight_at (λ _ x. only_if (x.client == t) (bytes_of len x.blocks)) f (get buffers f) ≡ buffers_for len buffers t + only_if (w.client == t) (bytes_of len w.blocks)
unfolding buffers_for
buffers_put len buffers f w t = total-insert (λ _ x. only_if (x.client == t) (bytes_of len x.blocks)) buffers f w

pages_came : (len : ℕ) (pages : Pages) (p : ℕ) (w : Page) (t : ℕ)
    → pages_for times_charged len (insert pages p w) t + weight_at (λ _ x. only_if (x.client == t) (page_bytes times_charged len x)) p (get pages p) ≡ pages_for times_charged len pages t + only_if (w.client == t) (page_bytes times_charged len w)
unfolding pages_for
pages_came len pages p w t = total-insert (λ _ x. only_if (x.client == t) (page_bytes times_charged len x)) pages p w

module _ (left : ℕ → List ℕ) (len : ℕ) (ts : Trackers) (pages : Pages) (buffers : Buffers) (m query quota : ℕ) (h : Holdings)
    (told : Tells left len ts pages buffers m query quota h) where
  not_ours : (c d : ℕ) → is_under query (get ts c) ≡ false → is_under query (get ts d) ≡ true → c ≢ d
  not_ours c d theirs own same = let no : true ≡ false = sym own ∙ ap (λ (e : ℕ). is_under query (get ts e)) (sym same) ∙ theirs in cc

  -- the trackers, pages and slots are as before
  same_but_loans : (buffers2 : Buffers) (clients : ℕ → Option Account) (loans : ℕ → Option LiveLoan) → ((c : ℕ) → clients c ≡ live_account query (charge_in len pages buffers2 c) (get ts c)) → ((g : ℕ) → loans g ≡ live_loan query ts (get buffers2 g))
      → Tells left len ts pages buffers2 m query quota (record h { clients = clients; loans = loans })
  same_but_loans buffers2 clients loans c f = rebuilt left len ts pages buffers m query quota h told left pages buffers2 clients h.pages loans h.free_slots c told.live_pages f told.free_slots told.slots

  -- a page comes
  module _ (p client blocks key : ℕ) (fresh : get pages p ≡ None) where
    page_sum : (w : Page) (c : ℕ) → charge_in len (insert pages p w) buffers c ≡ charge_in len pages buffers c + only_if (w.client == c) (page_bytes times_charged len w)
    page_sum w c =
        let sum = pages_came len pages p w c in
        let none : weight_at (λ _ x. only_if (x.client == c) (page_bytes times_charged len x)) p (get pages p) ≡ 0 = ap (weight_at (λ _ x. only_if (x.client == c) (page_bytes times_charged len x)) p) fresh in
        omega (arith, sum, none)

    no_slots_yet : (w : Page) → slots_at m w ≡ 0 → slots_of (insert pages p w) m ≡ slots_of pages m
    no_slots_yet w is =
        let sum = slots_new m pages p w in
        let none : weight_at (λ _ x. slots_at m x) p (get pages p) ≡ 0 = ap (weight_at (λ _ x. slots_at m x) p) fresh in
        omega (arith, sum, none, is)

    pub created : is_under query (get ts client) ≡ true → Tells left len ts (insert pages p (record { key = key; session = m; client = client; blocks = blocks; place = Pinned 1; has_slots = false; version = 0 })) buffers m query quota (after_create p key client blocks h)
    created own =
        let w : Page = record { key = key; session = m; client = client; blocks = blocks; place = Pinned 1; has_slots = false; version = 0 } in
        let v : LivePage = record { key = key; client = client; blocks = blocks; pins = 1; left = []; has_slots = false } in
        let reads : live_page m (left p) (Some w) ≡ Some v = ap (λ (b : Bool). if b then Some v else None) (eq-eqb m m refl) in
        let slots : slots_of (insert pages p w) m ≡ slots_of pages m = no_slots_yet w (ap (λ (b : Bool). only_if b 0) (eq-eqb m m refl)) in
        let bytes : length_of blocks h ≡ bytes_of len blocks = ap (λ (n : ℕ). blocks * n) told.block_len ∙ sym (len_is len blocks) in
        let own_sum = page_sum w client in
        let all : only_if (client == client) (page_bytes times_charged len w) ≡ bytes_of len blocks = mine client _ ∙ one_time (bytes_of len blocks) in
        let clients : (c : ℕ) → put client (Some (record (at client h.clients) { unused = (at client h.clients).unused - bytes_of len blocks })) h.clients c ≡ live_account query (charge_in len (insert pages p w) buffers c) (get ts c) =
        accounts_up query ts (charge_in len pages buffers) (charge_in len (insert pages p w) buffers) h.clients told.clients client (bytes_of len blocks) own
        (λ c apart ours. let one = page_sum w c in let none : only_if (client == c) (page_bytes times_charged len w) ≡ 0 = not_mine client c _ (λ same. apart (sym same)) in omega (arith, one, none))
        (omega (arith, own_sum, all)) in
        rebuilt left len ts pages buffers m query quota h told left (insert pages p w) buffers _ _ h.loans h.free_slots
        (λ c. ap (λ (n : ℕ). (charged client n h).clients c) bytes ∙ clients c)
        (pages_put_told m left left pages h.pages told.live_pages p (λ q apart. refl) w (Some v) reads)
        told.loans (told.free_slots ∙ ap (λ (n : ℕ). Some (quota - n)) (sym slots)) (subst (λ (n : ℕ). n ≤ quota) (sym slots) told.slots)

    pub foreign_page : (maker : ℕ) → maker ≢ m → is_under query (get ts client) ≡ false → Tells left len ts (insert pages p (record { key = key; session = maker; client = client; blocks = blocks; place = Pinned 1; has_slots = false; version = 0 })) buffers m query quota h
    foreign_page maker other theirs =
        let w : Page = record { key = key; session = maker; client = client; blocks = blocks; place = Pinned 1; has_slots = false; version = 0 } in
        let v : LivePage = record { key = key; client = client; blocks = blocks; pins = 1; left = []; has_slots = false } in
        let reads : live_page m (left p) (Some w) ≡ None = ap (λ (b : Bool). if b then Some v else None) (ne_eqb maker m other) in
        let slots : slots_of (insert pages p w) m ≡ slots_of pages m = no_slots_yet w (ap (λ (b : Bool). only_if b 0) (ne_eqb maker m other)) in
        rebuilt left len ts pages buffers m query quota h told left (insert pages p w) buffers h.clients h.pages h.loans h.free_slots
        (accounts_same query ts (charge_in len pages buffers) (charge_in len (insert pages p w) buffers) h.clients told.clients (λ c own.
        let one = page_sum w c in let none : only_if (client == c) (page_bytes times_charged len w) ≡ 0 = not_mine client c _ (not_ours client c theirs own) in omega (arith, one, none)))
        (pages_alike m left left pages h.pages told.live_pages p (λ q apart. refl) w (told.live_pages p ∙ ap (live_page m (left p)) fresh ∙ sym reads))
        told.loans (told.free_slots ∙ ap (λ (n : ℕ). Some (quota - n)) (sym slots)) (subst (λ (n : ℕ). n ≤ quota) (sym slots) told.slots)

  -- a buffer comes
  module _ (f : ℕ) (w : Buffer) (fresh : get buffers f ≡ None) where
    pub buffer_sum : (c : ℕ) → charge_in len pages (insert buffers f w) c ≡ charge_in len pages buffers c + only_if (w.client == c) (bytes_of len w.blocks)
    buffer_sum c =
        let sum = buffers_put len buffers f w c in
        let none : weight_at (λ _ x. only_if (x.client == c) (bytes_of len x.blocks)) f (get buffers f) ≡ 0 = ap (weight_at (λ _ x. only_if (x.client == c) (bytes_of len x.blocks)) f) fresh in
        omega (arith, sum, none)

    pub reads_loan : is_under query (get ts w.client) ≡ true → live_loan query ts (Some w) ≡ Some (record { client = w.client; blocks = w.blocks })
    reads_loan own = ap (λ (b : Bool). if b then Some (record { client = w.client; blocks = w.blocks }) else None) own

    reads_no_loan : is_under query (get ts w.client) ≡ false → live_loan query ts (Some w) ≡ None
    reads_no_loan theirs = ap (λ (b : Bool). if b then Some (record { client = w.client; blocks = w.blocks }) else None) theirs

    pub lent : is_under query (get ts w.client) ≡ true → Tells left len ts pages (insert buffers f w) m query quota (after_alloc f w.client w.blocks h)
    lent own =
        let bytes : length_of w.blocks h ≡ bytes_of len w.blocks = ap (λ (n : ℕ). w.blocks * n) told.block_len ∙ sym (len_is len w.blocks) in
        let own_sum = buffer_sum w.client in
        let all : only_if (w.client == w.client) (bytes_of len w.blocks) ≡ bytes_of len w.blocks = mine w.client _ in
        let clients : (c : ℕ) → put w.client (Some (record (at w.client h.clients) { unused = (at w.client h.clients).unused - bytes_of len w.blocks })) h.clients c ≡ live_account query (charge_in len pages (insert buffers f w) c) (get ts c) =
        accounts_up query ts (charge_in len pages buffers) (charge_in len pages (insert buffers f w)) h.clients told.clients w.client (bytes_of len w.blocks) own
        (λ c apart ours. let one = buffer_sum c in let none : only_if (w.client == c) (bytes_of len w.blocks) ≡ 0 = not_mine w.client c _ (λ same. apart (sym same)) in omega (arith, one, none))
        (omega (arith, own_sum, all)) in
        same_but_loans (insert buffers f w) _ _ (λ c. ap (λ (n : ℕ). (charged w.client n h).clients c) bytes ∙ clients c)
        (loans_put_told query ts buffers h.loans told.loans f w _ (reads_loan own))

    pub foreign_lent : is_under query (get ts w.client) ≡ false → Tells left len ts pages (insert buffers f w) m query quota h
    foreign_lent theirs =
        same_but_loans (insert buffers f w) h.clients h.loans
        (accounts_same query ts (charge_in len pages buffers) (charge_in len pages (insert buffers f w)) h.clients told.clients (λ c own.
        let one = buffer_sum c in let none : only_if (w.client == c) (bytes_of len w.blocks) ≡ 0 = not_mine w.client c _ (not_ours w.client c theirs own) in omega (arith, one, none)))
        (loans_alike query ts buffers h.loans told.loans f w (told.loans f ∙ ap (live_loan query ts) fresh ∙ sym (reads_no_loan theirs)))

  -- a buffer goes
  module _ (f : ℕ) (x : Buffer) (is : get buffers f ≡ Some x) where
    gone_sum : (c : ℕ) → charge_in len pages (remove buffers f) c + only_if (x.client == c) (bytes_of len x.blocks) ≡ charge_in len pages buffers c
    gone_sum c = let sum : buffers_for len (remove buffers f) c + only_if (x.client == c) (bytes_of len x.blocks) ≡ buffers_for len buffers c = buffers_gone len buffers f x is c in omega (arith, sum)

    pub loan_is : is_under query (get ts x.client) ≡ true → loan_of f h ≡ record { client = x.client; blocks = x.blocks }
    loan_is own = ap (or_else no_loan) (told.loans f ∙ ap (live_loan query ts) is ∙ ap (λ (b : Bool). if b then Some (record { client = x.client; blocks = x.blocks }) else None) own)

    pub freed : is_under query (get ts x.client) ≡ true → charge_in len pages buffers x.client ≤ reservation_of ts x.client → Tells left len ts pages (remove buffers f) m query quota (after_free f h)
    freed own fits =
        let its : LiveLoan = record { client = x.client; blocks = x.blocks } in
        let bytes : x.blocks * h.block_len ≡ bytes_of len x.blocks = ap (λ (n : ℕ). x.blocks * n) told.block_len ∙ sym (len_is len x.blocks) in
        let own_sum = gone_sum x.client in
        let all : only_if (x.client == x.client) (bytes_of len x.blocks) ≡ bytes_of len x.blocks = mine x.client _ in
        let clients : (c : ℕ) → put x.client (Some (record (at x.client h.clients) { unused = (at x.client h.clients).unused + bytes_of len x.blocks })) h.clients c ≡ live_account query (charge_in len pages (remove buffers f) c) (get ts c) =
        accounts_down query ts (charge_in len pages buffers) (charge_in len pages (remove buffers f)) h.clients told.clients x.client (bytes_of len x.blocks) own
        (λ c apart ours. let one = gone_sum c in let none : only_if (x.client == c) (bytes_of len x.blocks) ≡ 0 = not_mine x.client c _ (λ same. apart (sym same)) in omega (arith, one, none))
        (omega (arith, own_sum, all)) fits in
        same_but_loans (remove buffers f) _ _ (λ c. ap (λ (l : LiveLoan). (released l.client (l.blocks * h.block_len) h).clients c) (loan_is own) ∙ ap (λ (n : ℕ). (released x.client n h).clients c) bytes ∙ clients c)
        (loans_gone_told query ts buffers h.loans told.loans f)

    pub foreign_freed : is_under query (get ts x.client) ≡ false → Tells left len ts pages (remove buffers f) m query quota h
    foreign_freed theirs =
        same_but_loans (remove buffers f) h.clients h.loans
        (accounts_same query ts (charge_in len pages buffers) (charge_in len pages (remove buffers f)) h.clients told.clients (λ c own.
        let one = gone_sum c in let none : only_if (x.client == c) (bytes_of len x.blocks) ≡ 0 = not_mine x.client c _ (not_ours x.client c theirs own) in omega (arith, one, none)))
        (loans_lost query ts buffers h.loans told.loans f (told.loans f ∙ ap (live_loan query ts) is ∙ ap (λ (b : Bool). if b then Some (record { client = x.client; blocks = x.blocks }) else None) theirs))
