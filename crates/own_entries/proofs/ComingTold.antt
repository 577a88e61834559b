-- A tracker comes or goes: what is held is still told.
use Rattle.std.proofs.Common.{◌≡◌, ◌≢◌, ℕ, ◌+◌, ◌-◌, List, Bool, true, false, if◌then◌else◌, Option, Some, None, unwrap_or, refl, sym, ap, ◌∙◌, subst, arith, inl, inr, eq-eqb, ne_eqb}
use Rattle.std.specs.FinMap.{get, insert, remove}
use Rattle.reservation_tree.specs.Total.{total, weight_at}
use Rattle.reservation_tree.specs.Tracker.{Tracker, Trackers, no_tracker, reservation_of, limit_of, children_of}
use Rattle.reservation_tree.proofs.Maps.{get_same, get_other, removed_same, removed_other, same_or_other}
use Rattle.reservation_tree.proofs.Sums.{total-insert, total-remove, total-none}
use Rattle.reservation_tree.proofs.Shares.{children-new, children-gone, children-none}
use Rattle.pool_model.specs.Bytes.{only_if}
use Rattle.pool_model.specs.State.{Page, Pages, Buffer, Buffers, pins_of}
use Rattle.pool_model.specs.Sums.{slots_of}
use Rattle.store_api.specs.Holdings.{Account, Holdings}
use Rattle.store_api.specs.Changes.{after_add_client}
use Rattle.store_api.proofs.Puts.{put_here, put_there}
use Rattle.own_entries.specs.OwnHoldings.{client_ended, opened_with}
use Rattle.own_entries.specs.LiveParts.{is_parent, is_under, left_at, live_account, live_page, live_loan, charge_in, count_under, Tells}
use Rattle.own_entries.proofs.Views.{slots_at}
use Rattle.own_entries.proofs.TrackersTold.{account_none}

abbrev weight : ℕ → ℕ → Tracker → ℕ
weight query _ y = only_if (is_parent query y.parent) 1

count_came : (query : ℕ) (ts : Trackers) (t : ℕ) (y : Tracker) → get ts t ≡ None → count_under query (insert ts t y) ≡ count_under query ts + weight query t y
unfolding count_under
count_came query ts t y fresh =
    let sum : total (weight query) (insert ts t y) + weight_at (weight query) t (get ts t) ≡ total (weight query) ts + weight query t y = total-insert (weight query) ts t y in
    let none : weight_at (weight query) t (get ts t) ≡ 0 = ap (weight_at (weight query) t) fresh in
    omega (arith, sum, none)

count_went : (query : ℕ) (ts : Trackers) (t : ℕ) (y : Tracker) → get ts t ≡ Some y → count_under query (remove ts t) + weight query t y ≡ count_under query ts
unfolding count_under
count_went query ts t y is = total-remove (weight query) ts t (Some y) is

no_count : (query : ℕ) (ts : Trackers) → ((c : ℕ) (y : Tracker) → get ts c ≡ Some y → is_parent query y.parent ≡ false) → count_under query ts ≡ 0
unfolding count_under
no_count query ts none = total-none (weight query) ts (λ c y is. ap (λ (b : Bool). only_if b 1) (none c y is))

no_slots : (maker : ℕ) (pages : Pages) → ((p : ℕ) (x : Page) → get pages p ≡ Some x → x.session ≢ maker) → slots_of pages maker ≡ 0
unfolding slots_of
no_slots maker pages none = total-none (λ _ x. slots_at maker x) pages (λ p x is. ap (λ (b : Bool). only_if b (only_if x.has_slots x.blocks)) (ne_eqb x.session maker (none p x is)))

apart_loans : (query : ℕ) (ts ts2 : Trackers) (t : ℕ) → ((c : ℕ) → c ≢ t → get ts2 c ≡ get ts c) → (o : Option Buffer) → ((x : Buffer) → o ≡ Some x → x.client ≢ t) → live_loan query ts o ≡ live_loan query ts2 o
apart_loans query ts ts2 t same None apart = refl
apart_loans query ts ts2 t same (Some x) apart =
    ap (λ (o : Option Tracker). if is_under query o then Some (record { client = x.client; blocks = x.blocks }) else None) (sym (same x.client (apart x refl)))

read_other : (ts ts2 : Trackers) (q : ℕ) → get ts2 q ≡ get ts q → (reservation_of ts2 q ≡ reservation_of ts q) × (limit_of ts2 q ≡ limit_of ts q)
read_other ts ts2 q same = (ap (λ (o : Option Tracker). (unwrap_or o no_tracker).reservation) same, ap (λ (o : Option Tracker). (unwrap_or o no_tracker).limit) same)

module _ (left : ℕ → List ℕ) (len : ℕ) (ts : Trackers) (pages : Pages) (buffers : Buffers) (m query quota : ℕ) (h : Holdings)
    (told : Tells left len ts pages buffers m query quota h) (t : ℕ) (apart : t ≢ query) where
  abbrev charge : ℕ → ℕ
  charge = charge_in len pages buffers

  -- one tracker changed, but not the query's
  changed : (ts2 : Trackers) (clients : ℕ → Option Account) (live : ℕ) → ((c : ℕ) → c ≢ t → get ts2 c ≡ get ts c) → children_of ts2 query ≡ children_of ts query → live ≡ count_under query ts2
      → clients t ≡ live_account query (charge t) (get ts2 t) → ((c : ℕ) → c ≢ t → clients c ≡ h.clients c) → ((g : ℕ) → h.loans g ≡ live_loan query ts2 (get buffers g))
      → Tells left len ts2 pages buffers m query quota (record h { clients = clients; live_clients = live })
  changed ts2 clients live same children count here there loans =
      let reads = read_other ts ts2 query (same query (λ one. apart (sym one))) in
      let res : reservation_of ts2 query ≡ reservation_of ts query = reads.0 in
      let was : h.room + children_of ts query ≡ reservation_of ts query = told.room in
      record {
        block_len = told.block_len;
        session = told.session;
        tracker = told.tracker;
        limit = told.limit ∙ sym reads.1;
        reservation = told.reservation ∙ sym res;
        room = omega (arith, was, res, children);
        live_clients = count;
        clients = λ c. elim (same_or_other c t) [
          | inl one ↦ subst (λ (q : ℕ). clients q ≡ live_account query (charge q) (get ts2 q)) (sym one) here
          | inr other ↦ there c other ∙ told.clients c ∙ ap (live_account query (charge c)) (sym (same c other))
        ];
        live_pages = told.live_pages;
        loans = loans;
        free_slots = told.free_slots;
        slots = told.slots;
      }

  module _ (y : Tracker) (fresh : get ts t ≡ None) (empty : y.reservation ≡ 0) (no_buffer : (g : ℕ) (x : Buffer) → get buffers g ≡ Some x → x.client ≢ t) where
    came_loans : (g : ℕ) → h.loans g ≡ live_loan query (insert ts t y) (get buffers g)
    came_loans g = told.loans g ∙ apart_loans query ts (insert ts t y) t (λ c other. get_other ts t y c other) (get buffers g) (no_buffer g)

    pub client_came : (limit : ℕ) → y.limit ≡ limit → is_parent query y.parent ≡ true → Tells left len (insert ts t y) pages buffers m query quota (after_add_client t limit h)
    client_came limit its mine =
        let count = count_came query ts t y fresh in
        let one : weight query t y ≡ 1 = ap (λ (b : Bool). only_if b 1) mine in
        let was : h.live_clients ≡ count_under query ts = told.live_clients in
        let none : y.reservation - charge t ≡ 0 = omega (arith, empty) in
        let reads : Some (record { limit = limit; reservation = 0; unused = 0 }) ≡ live_account query (charge t) (Some y) =
        ap (λ (l : ℕ). Some (record { limit = l; reservation = 0; unused = 0 })) (sym its) ∙ ap (λ (r : ℕ). Some (record { limit = y.limit; reservation = r; unused = 0 })) (sym empty)
        ∙ ap (λ (u : ℕ). Some (record { limit = y.limit; reservation = y.reservation; unused = u })) (sym none)
        ∙ ap (λ (b : Bool). if b then Some (record { limit = y.limit; reservation = y.reservation; unused = y.reservation - charge t }) else None) (sym mine) in
        changed (insert ts t y) _ (h.live_clients + 1) (λ c other. get_other ts t y c other) (children-new ts t y query fresh empty) (omega (arith, count, one, was))
        (put_here t _ h.clients ∙ reads ∙ ap (live_account query (charge t)) (sym (get_same ts t y))) (λ c other. put_there t c _ h.clients other) came_loans

    pub foreign_came : is_parent query y.parent ≡ false → Tells left len (insert ts t y) pages buffers m query quota h
    foreign_came theirs =
        let count = count_came query ts t y fresh in
        let none : weight query t y ≡ 0 = ap (λ (b : Bool). only_if b 1) theirs in
        let was : h.live_clients ≡ count_under query ts = told.live_clients in
        changed (insert ts t y) h.clients h.live_clients (λ c other. get_other ts t y c other) (children-new ts t y query fresh empty) (omega (arith, count, none, was))
        (told.clients t ∙ ap (live_account query (charge t)) fresh ∙ sym (account_none query (charge t) (Some y) theirs) ∙ ap (live_account query (charge t)) (sym (get_same ts t y))) (λ c other. refl) came_loans

  module _ (y : Tracker) (is : get ts t ≡ Some y) (empty : y.reservation ≡ 0) (no_buffer : (g : ℕ) (x : Buffer) → get buffers g ≡ Some x → x.client ≢ t) where
    went_loans : (g : ℕ) → h.loans g ≡ live_loan query (remove ts t) (get buffers g)
    went_loans g = told.loans g ∙ apart_loans query ts (remove ts t) t (λ c other. removed_other ts t c other) (get buffers g) (no_buffer g)

    pub client_went : is_parent query y.parent ≡ true → Tells left len (remove ts t) pages buffers m query quota (client_ended t h)
    client_went mine =
        let count = count_went query ts t y is in
        let one : weight query t y ≡ 1 = ap (λ (b : Bool). only_if b 1) mine in
        let was : h.live_clients ≡ count_under query ts = told.live_clients in
        changed (remove ts t) _ (h.live_clients - 1) (λ c other. removed_other ts t c other) (children-gone ts t y query is empty) (omega (arith, count, one, was))
        (put_here t None h.clients ∙ ap (live_account query (charge t)) (sym (removed_same ts t))) (λ c other. put_there t c None h.clients other) went_loans

    pub foreign_went : is_parent query y.parent ≡ false → Tells left len (remove ts t) pages buffers m query quota h
    foreign_went theirs =
        let count = count_went query ts t y is in
        let none : weight query t y ≡ 0 = ap (λ (b : Bool). only_if b 1) theirs in
        let was : h.live_clients ≡ count_under query ts = told.live_clients in
        changed (remove ts t) h.clients h.live_clients (λ c other. removed_other ts t c other) (children-gone ts t y query is empty) (omega (arith, count, none, was))
        (told.clients t ∙ ap (live_account query (charge t)) is ∙ account_none query (charge t) (Some y) theirs ∙ ap (live_account query (charge t)) (sym (removed_same ts t))) (λ c other. refl) went_loans

-- a session is opened: nothing of it is there yet
module _ (left : ℕ → List ℕ) (len : ℕ) (ts : Trackers) (pages : Pages) (buffers : Buffers) (m t limit quota : ℕ) (h : Holdings) (y : Tracker)
    (fresh : get ts t ≡ None) (empty : y.reservation ≡ 0) (its : y.limit ≡ limit) (apart : is_parent t y.parent ≡ false)
    (alone : (c : ℕ) (z : Tracker) → get ts c ≡ Some z → is_parent t z.parent ≡ false) (no_page : (p : ℕ) (x : Page) → get pages p ≡ Some x → x.session ≢ m) where
  under_none : (o : Option Tracker) → ((z : Tracker) → o ≡ Some z → is_parent t z.parent ≡ false) → is_under t o ≡ false
  under_none None all = refl
  under_none (Some z) all = all z refl

  nobody : (c : ℕ) → is_under t (get (insert ts t y) c) ≡ false
  nobody c = elim (same_or_other c t) [
    | inl one ↦ subst (λ (q : ℕ). is_under t (get (insert ts t y) q) ≡ false) (sym one) (ap (is_under t) (get_same ts t y) ∙ apart)
    | inr other ↦ ap (is_under t) (get_other ts t y c other) ∙ under_none (get ts c) (alone c)
  ]

  no_loan_in : (o : Option Buffer) → None ≡ live_loan t (insert ts t y) o
  no_loan_in None = refl
  no_loan_in (Some x) = ap (λ (b : Bool). if b then Some (record { client = x.client; blocks = x.blocks }) else None) (sym (nobody x.client))

  no_page_in : (p : ℕ) (o : Option Page) → ((x : Page) → o ≡ Some x → x.session ≢ m) → None ≡ live_page m (left p) o
  no_page_in p None none = refl
  no_page_in p (Some x) none = ap (λ (b : Bool). if b then Some (record { key = x.key; client = x.client; blocks = x.blocks; pins = pins_of x.place; left = left_at x.place (left p); has_slots = x.has_slots }) else None) (sym (ne_eqb x.session m (none x refl)))

  no_parent : (o : Option ℕ) → is_parent t o ≡ false → (o ≡ Some t → ⊥)
  no_parent o is same = let no : true ≡ false = sym (eq-eqb t t refl) ∙ ap (is_parent t) (sym same) ∙ is in cc

  pub opened_told : h.block_len ≡ len → h.session ≡ m → Tells left len (insert ts t y) pages buffers m t quota (opened_with t limit quota h)
  opened_told long whose =
      let here : get (insert ts t y) t ≡ Some y = get_same ts t y in
      let res : reservation_of (insert ts t y) t ≡ 0 = ap (λ (o : Option Tracker). (unwrap_or o no_tracker).reservation) here ∙ empty in
      let lim : limit_of (insert ts t y) t ≡ limit = ap (λ (o : Option Tracker). (unwrap_or o no_tracker).limit) here ∙ its in
      let children : children_of (insert ts t y) t ≡ 0 = children-new ts t y t fresh empty ∙ children-none ts t (λ c z is. no_parent z.parent (alone c z is)) in
      let slots : slots_of pages m ≡ 0 = no_slots m pages no_page in
      let count = count_came t ts t y fresh in
      let none : weight t t y ≡ 0 = ap (λ (b : Bool). only_if b 1) apart in
      let before : count_under t ts ≡ 0 = no_count t ts alone in
      record {
        block_len = long;
        session = whose;
        tracker = refl;
        limit = sym lim;
        reservation = sym res;
        room = omega (arith, children, res);
        live_clients = omega (arith, count, none, before);
        clients = λ c. sym (account_none t (charge_in len pages buffers c) (get (insert ts t y) c) (nobody c));
        live_pages = λ p. no_page_in p (get pages p) (no_page p);
        loans = λ g. no_loan_in (get buffers g);
        free_slots = ap Some (omega (arith, slots));
        slots = omega (arith, slots);
      }
