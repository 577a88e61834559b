-- Behind what a session holds stands a client, a page or a buffer of the pool.
use Rattle.std.proofs.Common.{◌≡◌, ℕ, ◌==◌, List, Bool, true, false, if◌then◌else◌, Option, Some, None, IsSome, refl, sym, ap, subst, arith, eqb-true}
use Rattle.std.specs.FinMap.{get}
use Rattle.reservation_tree.specs.Tracker.{Tracker}
use Rattle.pool_model.specs.State.{Place, Pinned, Dirty, Flying, Loading, Clean, Evicted, Page, Buffer, Session, State, pins_of}
use Rattle.pool_model.specs.Owning.{IsClientOf, IsPageOf}
use Rattle.store_api.specs.Holdings.{LivePage, LiveLoan, Holdings}
use Rattle.own_entries.specs.LiveParts.{is_parent, is_under, left_at, live_account, live_page, live_loan, charge_in, Tells}

some_when : {X : Type 0} (b : Bool) (v : X) → IsSome (if b then Some v else None) → b ≡ true
some_when true v some = refl
some_when false v some = let never : false ≡ true = some in cc

by_parent : (query : ℕ) (o : Option ℕ) → is_parent query o ≡ true → o ≡ Some query
by_parent query None mine = let never : false ≡ true = mine in cc
by_parent query (Some p) mine = ap Some (eqb-true p query mine)

-- a tracker under the query is a client
under_by : (s : State) (m : ℕ) (x : Session) → get s.sessions m ≡ Some x → (c : ℕ) (o : Option Tracker) → get s.trackers c ≡ o → is_under x.query o ≡ true → IsClientOf s m c
under_by s m x is c None there mine = let never : false ≡ true = mine in cc
under_by s m x is c (Some y) there mine = record { session = x; opened = is; tracker = y; lives = there; under = by_parent x.query y.parent mine }

account_under : (query charge : ℕ) (o : Option Tracker) → IsSome (live_account query charge o) → is_under query o ≡ true
account_under query charge None some = let never : false ≡ true = some in cc
account_under query charge (Some y) some = some_when (is_parent query y.parent) _ some

-- a page of the pool, as it reads
pub record IsTold (s : State) (m p : ℕ) (live : Option LivePage) (left : List ℕ) : Type 0 where
  pub page : Page
  pub own : IsPageOf s m p page
  pub reads : live ≡ Some (record { key = page.key; client = page.client; blocks = page.blocks; pins = pins_of page.place; left = left_at page.place left; has_slots = page.has_slots })

page_by : (s : State) (m p : ℕ) (left : List ℕ) (o : Option Page) → get s.pages p ≡ o → IsSome (live_page m left o) → IsTold s m p (live_page m left o) left
page_by s m p left None there some = let never : false ≡ true = some in cc
page_by s m p left (Some y) there some =
    let v : LivePage = record { key = y.key; client = y.client; blocks = y.blocks; pins = pins_of y.place; left = left_at y.place left; has_slots = y.has_slots } in
    let mine : (y.session == m) ≡ true = some_when (y.session == m) v some in
    record { page = y; own = record { lives = there; own = eqb-true y.session m mine }; reads = ap (λ (b : Bool). if b then Some v else None) mine }

-- a buffer of a client
pub record IsLent (s : State) (m f : ℕ) (live : Option LiveLoan) : Type 0 where
  pub buffer : Buffer
  pub lives : get s.buffers f ≡ Some buffer
  pub own : IsClientOf s m buffer.client
  pub reads : live ≡ Some (record { client = buffer.client; blocks = buffer.blocks })

loan_by : (s : State) (m : ℕ) (x : Session) → get s.sessions m ≡ Some x → (f : ℕ) (o : Option Buffer) → get s.buffers f ≡ o → IsSome (live_loan x.query s.trackers o) → IsLent s m f (live_loan x.query s.trackers o)
loan_by s m x is f None there some = let never : false ≡ true = some in cc
loan_by s m x is f (Some b) there some =
    let loan : LiveLoan = record { client = b.client; blocks = b.blocks } in
    let mine : is_under x.query (get s.trackers b.client) ≡ true = some_when (is_under x.query (get s.trackers b.client)) loan some in
    record { buffer = b; lives = there; own = under_by s m x is b.client (get s.trackers b.client) refl mine; reads = ap (λ (r : Bool). if r then Some loan else None) mine }

module _ (left : ℕ → List ℕ) (s : State) (m : ℕ) (x : Session) (is : get s.sessions m ≡ Some x) (h : Holdings)
    (told : Tells left s.block_len s.trackers s.pages s.buffers m x.query x.quota h) where
  pub told_client : (c : ℕ) → IsSome (h.clients c) → IsClientOf s m c
  told_client c some =
      under_by s m x is c (get s.trackers c) refl (account_under x.query (charge_in s.block_len s.pages s.buffers c) (get s.trackers c) (subst IsSome (told.clients c) some))

  pub told_page : (p : ℕ) → IsSome (h.pages p) → IsTold s m p (h.pages p) (left p)
  told_page p some =
      subst (λ (o : Option LivePage). IsTold s m p o (left p)) (sym (told.live_pages p)) (page_by s m p (left p) (get s.pages p) refl (subst IsSome (told.live_pages p) some))

  pub told_loan : (f : ℕ) → IsSome (h.loans f) → IsLent s m f (h.loans f)
  told_loan f some = subst (IsLent s m f) (sym (told.loans f)) (loan_by s m x is f (get s.buffers f) refl (subst IsSome (told.loans f) some))

-- a page that is told with one pin is pinned once
pub pinned_once : (place : Place) → pins_of place ≡ 1 → place ≡ Pinned 1
pinned_once (Pinned count) is = ap Pinned is
pinned_once Dirty is = absurd (omega (arith, is))
pinned_once (Flying writer) is = absurd (omega (arith, is))
pinned_once Loading is = absurd (omega (arith, is))
pinned_once Clean is = absurd (omega (arith, is))
pinned_once Evicted is = absurd (omega (arith, is))
