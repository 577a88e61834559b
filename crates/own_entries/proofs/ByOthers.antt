-- Each event of another maker leaves what is held as it is told.
use Rattle.std.proofs.Common.{◌≡◌, ◌≢◌, ℕ, ◌+◌, ◌-◌, ◌<◌, List, Bool, true, false, if◌then◌else◌, Option, Some, None, IsSome, unwrap_or, refl, sym, ap, ◌∙◌, subst, arith, inl, inr, ne_eqb}
use Rattle.std.specs.FinMap.{get, insert, remove}
use Rattle.reservation_tree.specs.Tracker.{Tracker, Trackers, reservation_of}
use Rattle.reservation_tree.specs.Change.{grow, shrink, move_to, lacking}
use Rattle.reservation_tree.proofs.Maps.{get_same, same_or_other}
use Rattle.reservation_tree.proofs.Outline.{reservation_is}
use Rattle.pool_model.specs.declared.event.Event.{Event}
use Rattle.pool_model.specs.declared.event.Event.TheVariants.{Ask, AddTracker, CloseTracker, Increase, IncreaseToFit, Decrease, MoveReservation, Create, PinHere, PinLoad, ReadOk, ReadFailed, ReadStale, PinAgain, UnpinOnce, Unpin, UnpinRefused, Extract, Destroy, Alloc, Free, MoveBuffer, StartWrite, WriteOk, WriteFailed, Evict, Refused}
use Rattle.pool_model.specs.declared.entry.Entry.{Entry}
use Rattle.pool_model.specs.State.{Place, Pinned, Dirty, Flying, Loading, Clean, Evicted, Page, Pages, no_page, page_at, Buffer, no_buffer, buffer_at, Session, State, pins_of}
use Rattle.pool_model.specs.Sums.{charge_of, times_charged}
use Rattle.pool_model.specs.Owning.{IsClientOf, IsTrackerOf}
use Rattle.pool_model.specs.LookingBack.{left_in}
use Rattle.pool_model.specs.MayFollow.{Allows}
use Rattle.pool_model.specs.Parts.{pins_at}
use Rattle.pool_model.specs.Effects.{effect}
use Rattle.pool_model.specs.Sound.{IsQuery, IsSound}
use Rattle.pool_model.proofs.Seats.{some_is}
use Rattle.pool_model.proofs.Pages.{page_is}
use Rattle.pool_model.proofs.Failures.{PagesOwned}
use Rattle.store_api.specs.Holdings.{Holdings}
use Rattle.own_entries.specs.LiveParts.{is_under, left_at, Tells}
use Rattle.reservation_tree.specs.Ways.{IsUnderRoot, IsUnderQuery}
use Rattle.own_entries.proofs.Facts.{root_under, not_root, query_under, high, low, seat, foreign_query, foreign_under, foreign_apart}
use Rattle.own_entries.proofs.PagesTold.{quiet, foreign_put, foreign_gone, insert_again}
use Rattle.own_entries.proofs.LoansTold.{foreign_page, foreign_lent, foreign_freed}
use Rattle.own_entries.proofs.BuffersMoved.{foreign_moved}
use Rattle.own_entries.proofs.ComingTold.{foreign_came, foreign_went}
use Rattle.own_entries.proofs.ForeignTold.{IsForeign, foreign_query_grows, foreign_query_falls, foreign_client_grows, foreign_client_falls, foreign_up, foreign_down, foreign_beside, foreign_itself}

pub none_there : {X : Type 0} (o : Option X) → ((x : X) → o ≡ Some x → ⊥) → o ≡ None
none_there None never = refl
none_there (Some x) never = absurd (never x refl)

-- the pins of a page, by its name
pub pins_are : (s : State) (p : ℕ) (x : Page) → get s.pages p ≡ Some x → (count : ℕ) → x.place ≡ Pinned count → pins_at s p ≡ count
pins_are s p x is count pinned = ap (λ (y : Page). pins_of y.place) (page_is s p x is) ∙ ap pins_of pinned

pub buffer_is : (s : State) (f : ℕ) (x : Buffer) → get s.buffers f ≡ Some x → buffer_at s f ≡ x
buffer_is s f x is = ap (λ (o : Option Buffer). unwrap_or o no_buffer) is

-- the pages after an unpin
pub unpinned_pages : (s : State) (p : ℕ) (x : Page) → get s.pages p ≡ Some x
    → insert (insert s.pages p (record (page_at s p) { has_slots = true })) p (record (unwrap_or (get (insert s.pages p (record (page_at s p) { has_slots = true })) p) no_page) { place = Dirty })
    ≡ insert s.pages p (record x { place = Dirty; has_slots = true })
unpinned_pages s p x is =
    let w : Page = record (page_at s p) { has_slots = true } in
    ap (λ (o : Option Page). insert (insert s.pages p w) p (record (unwrap_or o no_page) { place = Dirty })) (get_same s.pages p w)
    ∙ insert_again s.pages p w (record w { place = Dirty }) ∙ ap (λ (z : Page). insert s.pages p (record z { place = Dirty; has_slots = true })) (page_is s p x is)

-- a tracker that comes is nobody's yet
pub fresh_apart : (s : State) (t q : ℕ) (y : Tracker) → get s.trackers t ≡ None → get s.trackers q ≡ Some y → t ≢ q
fresh_apart s t q y fresh is same = let no : None ≡ Some y = sym fresh ∙ ap (get s.trackers) same ∙ is in cc

pub fresh_buffers : (s : State) → IsSound s → (t : ℕ) → get s.trackers t ≡ None → (g : ℕ) (b : Buffer) → get s.buffers g ≡ Some b → b.client ≢ t
fresh_buffers s sound t fresh g b is same =
    let live : IsSome (get s.trackers b.client) = (sound.owned.buffer_clients g b is).live in
    let none : get s.trackers b.client ≡ None = ap (get s.trackers) same ∙ fresh in cc

module _ (left : ℕ → List ℕ) (before : List Entry) (s : State) (sound : IsSound s) (owned : PagesOwned s) (m : ℕ) (x : Session) (is : get s.sessions m ≡ Some x) (h : Holdings)
    (told : Tells left s.block_len s.trackers s.pages s.buffers m x.query x.quota h) where
  abbrev pub Still : (ℕ → List ℕ) → State → Holdings → Type 0
  Still left2 s2 h2 = Tells left2 s2.block_len s2.trackers s2.pages s2.buffers m x.query x.quota h2

  -- what is known of a page by its name
  pub placed : (left2 : ℕ → List ℕ) (h2 : Holdings) (p : ℕ) (y : Page) → get s.pages p ≡ Some y → (place : Place)
      → Tells left2 s.block_len s.trackers (insert s.pages p (record y { place = place })) s.buffers m x.query x.quota h2
      → Tells left2 s.block_len s.trackers (insert s.pages p (record (page_at s p) { place = place })) s.buffers m x.query x.quota h2
  placed left2 h2 p y there place =
      subst (λ (z : Page). Tells left2 s.block_len s.trackers (insert s.pages p (record z { place = place })) s.buffers m x.query x.quota h2) (sym (page_is s p y there))

  -- writes and evictions, whoever makes them
  pub quietly : (version : ℕ → ℕ) (p : ℕ) (y : Page) → get s.pages p ≡ Some y → (old place : Place) → y.place ≡ old → pins_of place ≡ pins_of old → ((l : List ℕ) → left_at place l ≡ left_at old l) → times_charged place ≡ times_charged old
      → Tells left s.block_len s.trackers (insert s.pages p (record (page_at s p) { place = place; version = version (page_at s p).version })) s.buffers m x.query x.quota h
  quietly version p y there old place was pins lefts charges =
      subst (λ (z : Page). Tells left s.block_len s.trackers (insert s.pages p (record z { place = place; version = version z.version })) s.buffers m x.query x.quota h) (sym (page_is s p y there))
      (quiet left s.block_len s.trackers s.pages s.buffers m x.query x.quota h told p y there version place (pins ∙ sym (ap pins_of was)) (λ l. lefts l ∙ sym (ap (λ (a : Place). left_at a l) was)) (charges ∙ sym (ap times_charged was)))

  module _ (maker : ℕ) (other : maker ≢ m) where
    foreign : (t : ℕ) → IsTrackerOf s maker t → IsForeign s.trackers x.query t
    foreign t (inl query) = record {
      apart = λ same. foreign_query s sound m x is maker other query.session query.lives (query.is ∙ same);
      not = subst (λ (q : ℕ). is_under x.query (get s.trackers q) ≡ false) query.is (query_under s sound query.session.query x.query (sound.seated.seats maker query.session query.lives) (seat s sound m x is));
    }
    foreign t (inr client) = record { apart = foreign_apart s sound m x is maker other t client; not = foreign_under s sound m x is maker other t client }

    root_foreign : IsForeign s.trackers x.query 0
    root_foreign = record { apart = not_root s sound x.query (seat s sound m x is); not = root_under s sound x.query }

    query_foreign : (z : Session) → get s.sessions maker ≡ Some z → IsForeign s.trackers x.query z.query
    query_foreign z lives = foreign z.query (inl (record { session = z; lives = lives; is = refl }))

    query_high : (z : Session) → get s.sessions maker ≡ Some z → IsUnderRoot s.trackers z.query
    query_high z lives = high s sound z.query (sound.seated.seats maker z lives)

    abbrev Kept : Trackers → Type 0
    Kept ts = Tells left s.block_len ts s.pages s.buffers m x.query x.quota h

    grows : (t n : ℕ) → IsTrackerOf s maker t → Kept (grow (charge_of s) n t s.trackers)
    grows t n (inl query) = subst (λ (q : ℕ). Kept (grow (charge_of s) n q s.trackers)) query.is
        (foreign_query_grows left s.block_len s.pages s.buffers m x.query x.quota h (charge_of s) s.trackers told root_foreign n query.session.query (query_high query.session query.lives) (query_foreign query.session query.lives))
    grows t n (inr client) =
        foreign_client_grows left s.block_len s.pages s.buffers m x.query x.quota h (charge_of s) s.trackers told root_foreign n client.session.query (query_high client.session client.opened) (query_foreign client.session client.opened)
        t (low s sound maker t client) (foreign t (inr client))

    falls : (t n : ℕ) → IsTrackerOf s maker t → Kept (shrink n t s.trackers)
    falls t n (inl query) = subst (λ (q : ℕ). Kept (shrink n q s.trackers)) query.is
        (foreign_query_falls left s.block_len s.pages s.buffers m x.query x.quota h (charge_of s) s.trackers told root_foreign n query.session.query (query_high query.session query.lives) (query_foreign query.session query.lives))
    falls t n (inr client) =
        foreign_client_falls left s.block_len s.pages s.buffers m x.query x.quota h (charge_of s) s.trackers told root_foreign n client.session.query (query_high client.session client.opened) (query_foreign client.session client.opened)
        t (low s sound maker t client) (foreign t (inr client))

    same_query : (y z : Session) → get s.sessions maker ≡ Some y → get s.sessions maker ≡ Some z → y.query ≡ z.query
    same_query y z is_y is_z = ap (λ (w : Session). w.query) (some_is y z (sym is_y ∙ is_z))

    moves : (a b n : ℕ) → IsTrackerOf s maker a → IsTrackerOf s maker b → Kept (move_to n a b s.trackers)
    moves a b n (inl qa) (inl qb) =
        foreign_itself left s.block_len s.pages s.buffers m x.query x.quota h (charge_of s) s.trackers told root_foreign n qa.session.query (query_high qa.session qa.lives) (query_foreign qa.session qa.lives)
        a b (sym qa.is ∙ same_query qa.session qb.session qa.lives qb.lives ∙ qb.is)
    moves a b n (inl qa) (inr cb) = subst (λ (q : ℕ). Kept (move_to n q b s.trackers)) (same_query cb.session qa.session cb.opened qa.lives ∙ qa.is)
        (foreign_down left s.block_len s.pages s.buffers m x.query x.quota h (charge_of s) s.trackers told root_foreign n cb.session.query (query_high cb.session cb.opened) (query_foreign cb.session cb.opened)
        b (low s sound maker b cb) (foreign b (inr cb)))
    moves a b n (inr ca) (inl qb) = subst (λ (q : ℕ). Kept (move_to n a q s.trackers)) (same_query ca.session qb.session ca.opened qb.lives ∙ qb.is)
        (foreign_up left s.block_len s.pages s.buffers m x.query x.quota h (charge_of s) s.trackers told root_foreign n ca.session.query (query_high ca.session ca.opened) (query_foreign ca.session ca.opened)
        a (low s sound maker a ca) (foreign a (inr ca)))
    moves a b n (inr ca) (inr cb) = elim (same_or_other a b) [
      | inl same ↦ foreign_itself left s.block_len s.pages s.buffers m x.query x.quota h (charge_of s) s.trackers told root_foreign n ca.session.query (query_high ca.session ca.opened) (query_foreign ca.session ca.opened) a b same
      | inr apart ↦
          foreign_beside left s.block_len s.pages s.buffers m x.query x.quota h (charge_of s) s.trackers told root_foreign n ca.session.query (query_high ca.session ca.opened) (query_foreign ca.session ca.opened)
          a (low s sound maker a ca) (foreign a (inr ca)) b (subst (IsUnderQuery s.trackers b) (same_query cb.session ca.session cb.opened ca.opened) (low s sound maker b cb)) (foreign b (inr cb)) apart
    ]

    closed : (t : ℕ) (y : Tracker) → get s.trackers t ≡ Some y → IsForeign s.trackers x.query t → reservation_of s.trackers t ≡ 0 → ((f : ℕ) (b : Buffer) → get s.buffers f ≡ Some b → b.client ≢ t) → Kept (remove s.trackers t)
    closed t y there it empty no_buffer =
        foreign_went left s.block_len s.trackers s.pages s.buffers m x.query x.quota h told t it.apart y there (sym (reservation_is s.trackers t y there) ∙ empty) no_buffer (sym (ap (is_under x.query) there) ∙ it.not)

    closes_one : (t : ℕ) → IsTrackerOf s maker t → reservation_of s.trackers t ≡ 0 → ((f : ℕ) (b : Buffer) → get s.buffers f ≡ Some b → b.client ≢ t) → Kept (remove s.trackers t)
    closes_one t (inl query) empty no_buffer =
        let its : IsQuery s.trackers t = subst (IsQuery s.trackers) query.is (sound.seated.seats maker query.session query.lives) in
        closed t its.tracker its.lives (foreign t (inl query)) empty no_buffer
    closes_one t (inr client) empty no_buffer = closed t client.tracker client.lives (foreign t (inr client)) empty no_buffer

    not_mine_page : (p : ℕ) (y : Page) → get s.pages p ≡ Some y → y.session ≡ maker → (y.session ≢ m) × (is_under x.query (get s.trackers y.client) ≡ false)
    not_mine_page p y there its =
        (λ same. other (sym its ∙ same), foreign_under s sound m x is maker other y.client (subst (λ (k : ℕ). IsClientOf s k y.client) its (owned p y there)))

    put_there : (left2 : ℕ → List ℕ) (p : ℕ) (y : Page) → get s.pages p ≡ Some y → y.session ≡ maker → ((q : ℕ) → q ≢ p → left2 q ≡ left q) → (w : Page) → w.session ≡ y.session → w.client ≡ y.client
        → Tells left2 s.block_len s.trackers (insert s.pages p w) s.buffers m x.query x.quota h
    put_there left2 p y there its others w session client =
        let not : (y.session ≢ m) × (is_under x.query (get s.trackers y.client) ≡ false) = not_mine_page p y there its in
        foreign_put left s.block_len s.trackers s.pages s.buffers m x.query x.quota h told p y there not.0 not.1 left2 others w session client

    place_there : (p : ℕ) (y : Page) → get s.pages p ≡ Some y → y.session ≡ maker → (place : Place) → Tells left s.block_len s.trackers (insert s.pages p (record (page_at s p) { place = place })) s.buffers m x.query x.quota h
    place_there p y there its place = placed left h p y there place (put_there left p y there its (λ q apart. refl) (record y { place = place }) refl refl)

    gone_there : (p : ℕ) (y : Page) → get s.pages p ≡ Some y → y.session ≡ maker → Tells left s.block_len s.trackers (remove s.pages p) s.buffers m x.query x.quota h
    gone_there p y there its =
        let not : (y.session ≢ m) × (is_under x.query (get s.trackers y.client) ≡ false) = not_mine_page p y there its in
        foreign_gone left s.block_len s.trackers s.pages s.buffers m x.query x.quota h told p y there not.0 not.1 left (λ q apart. refl)

    pub by_other : (event : Event) → Allows before s maker event → Still (λ p. left_in p event (left p)) (effect maker event s) h
    by_other Ask may = told
    by_other (AddTracker t parent limit (Some quota)) may =
        foreign_came left s.block_len s.trackers s.pages s.buffers m x.query x.quota h told t (fresh_apart s t x.query (seat s sound m x is).tracker may.fresh (seat s sound m x is).lives) _ may.fresh refl
        (fresh_buffers s sound t may.fresh) (ne_eqb 0 x.query (not_root s sound x.query (seat s sound m x is)))
    by_other (AddTracker t parent limit None) may =
        foreign_came left s.block_len s.trackers s.pages s.buffers m x.query x.quota h told t (fresh_apart s t x.query (seat s sound m x is).tracker may.fresh (seat s sound m x is).lives) _ may.fresh refl
        (fresh_buffers s sound t may.fresh) (ne_eqb parent x.query (λ same. foreign_query s sound m x is maker other may.session may.opened (sym may.query ∙ same)))
    by_other (CloseTracker t) may = closes_one t may.own may.empty may.no_buffer
    by_other (Increase t bytes) may = grows t bytes may.own
    by_other (IncreaseToFit t bytes) may = grows t (lacking (charge_of s) bytes t s.trackers) may.own
    by_other (Decrease t bytes) may = falls t bytes may.own
    by_other (MoveReservation from to bytes) may = moves from to bytes may.own may.own_to
    by_other (Create p client blocks key) may =
        foreign_page left s.block_len s.trackers s.pages s.buffers m x.query x.quota h told p client blocks key
        (none_there (get s.pages p) (λ y there. let low : p < s.next_name = sound.owned.names p y there in let next : p ≡ s.next_name = may.next in omega (arith, low, next)))
        maker other (foreign_under s sound m x is maker other client may.own)
    by_other (PinHere p) may = place_there p may.page may.own.lives may.own.own (Pinned 1)
    by_other (PinLoad p) may = place_there p may.page may.own.lives may.own.own Loading
    by_other (ReadOk p) may = place_there p may.page may.own.lives may.own.own (Pinned 1)
    by_other (ReadFailed p sum_before sum_after) may = place_there p may.ends.page may.ends.own.lives may.ends.own.own Evicted
    by_other (ReadStale p wanted found) may = place_there p may.ends.page may.ends.own.lives may.ends.own.own Evicted
    by_other (PinAgain p) may = place_there p may.page may.own.lives may.own.own (Pinned (pins_at s p + 1))
    by_other (UnpinOnce p) may = place_there p may.page may.own.lives may.own.own (Pinned (pins_at s p - 1))
    by_other (Unpin p content) may =
        subst (λ (ps : Pages). Tells (λ q. left_in q (Unpin p content) (left q)) s.block_len s.trackers ps s.buffers m x.query x.quota h) (sym (unpinned_pages s p may.page may.own.lives))
        (put_there (λ q. left_in q (Unpin p content) (left q)) p may.page may.own.lives may.own.own
        (λ q apart. ap (λ (b : Bool). if b then content else left q) (ne_eqb p q (λ same. apart (sym same)))) (record may.page { place = Dirty; has_slots = true }) refl refl)
    by_other (UnpinRefused p) may = told
    by_other (Extract p f) may =
        let not : (may.page.session ≢ m) × (is_under x.query (get s.trackers may.page.client) ≡ false) = not_mine_page p may.page may.own.lives may.own.own in
        let gone : Tells left s.block_len s.trackers (remove s.pages p) s.buffers m x.query x.quota h = gone_there p may.page may.own.lives may.own.own in
        subst (λ (z : Page). Tells left s.block_len s.trackers (remove s.pages p) (insert s.buffers f (record { client = z.client; blocks = z.blocks })) m x.query x.quota h) (sym (page_is s p may.page may.own.lives))
        (foreign_lent left s.block_len s.trackers (remove s.pages p) s.buffers m x.query x.quota h gone f (record { client = may.page.client; blocks = may.page.blocks }) may.fresh not.1)
    by_other (Destroy p) may = gone_there p may.page may.own.lives may.own.own
    by_other (Alloc f client blocks) may =
        foreign_lent left s.block_len s.trackers s.pages s.buffers m x.query x.quota h told f (record { client = client; blocks = blocks }) may.fresh (foreign_under s sound m x is maker other client may.own)
    by_other (Free f) may =
        foreign_freed left s.block_len s.trackers s.pages s.buffers m x.query x.quota h told f may.buffer may.lives (foreign_under s sound m x is maker other may.buffer.client may.own)
    by_other (MoveBuffer f to) may =
        subst (λ (z : Buffer). Tells left s.block_len s.trackers s.pages (insert s.buffers f (record z { client = to })) m x.query x.quota h) (sym (buffer_is s f may.buffer may.lives))
        (foreign_moved left s.block_len s.trackers s.pages s.buffers m x.query x.quota h told f to may.buffer may.lives
        (foreign_under s sound m x is maker other may.buffer.client may.own) (foreign_under s sound m x is maker other to may.own_to))
    by_other (StartWrite p) may = quietly (λ n. s.entries) p may.page may.lives Dirty (Flying maker) may.dirty refl (λ l. refl) refl
    by_other (WriteOk p) may = quietly (λ n. n) p may.page may.lives (Flying maker) Clean may.flying refl (λ l. refl) refl
    by_other (WriteFailed p sum_before sum_after) may = quietly (λ n. n) p may.ends.page may.ends.lives (Flying maker) Dirty may.ends.flying refl (λ l. refl) refl
    by_other (Evict p) may = quietly (λ n. n) p may.page may.lives Clean Evicted may.clean refl (λ l. refl) refl
    by_other (Refused call entry) may = told
