-- What a client has that is told without pages and loans, and a query without clients.
use Rattle.std.proofs.Common.{◌≡◌, ◌≢◌, ℕ, ◌+◌, ◌-◌, ◌≤◌, List, [], Bool, true, if◌then◌else◌, Option, Some, None, refl, sym, ap, ◌∙◌, arith, eq-eqb}
use Rattle.std.specs.FinMap.{get}
use Rattle.reservation_tree.specs.Tracker.{Tracker, Trackers, reservation_of, children_of, HasNoChild}
use Rattle.reservation_tree.proofs.Outline.{reservation_is}
use Rattle.reservation_tree.specs.Total.{total}
use Rattle.reservation_tree.proofs.Sums.{weight-le-total}
use Rattle.reservation_tree.proofs.Shares.{children-none}
use Rattle.pool_model.specs.Bytes.{only_if}
use Rattle.pool_model.specs.State.{Page, Buffer, Session, State, pins_of}
use Rattle.pool_model.specs.Sums.{charge_of, held_by, pages_for, buffers_for, times_charged, times_held}
use Rattle.pool_model.specs.Owning.{IsClientOf}
use Rattle.pool_model.specs.LookingBack.{content_from}
use Rattle.pool_model.specs.Legal.{state_after}
use Rattle.pool_model.specs.Sound.{IsSound}
use Rattle.pool_model.proofs.ByClients.{no_pages, no_buffers}
use Rattle.pool_model.proofs.Seats.{some_is}
use Rattle.pool_model.proofs.Kept.{legal_sound}
use Rattle.pool_model.proofs.Failures.{PagesOwned, legal_pages_are_owned}
use Rattle.store_api.specs.Holdings.{Account, LivePage, LiveLoan, Holdings, account_of, unused_of, no_account}
use Rattle.store_api.specs.Holdings.{or_else as value_or}
use Rattle.store_api.specs.Conditions.{IsIdle}
use Rattle.own_entries.specs.LiveParts.{is_parent, is_under, left_at, live_page, live_loan, count_under, Tells}
use Rattle.own_entries.specs.ClientLaws.{LegalIdleIsWhole}
use Rattle.own_entries.specs.HeldLaws.{own_holdings}
use Rattle.own_entries.proofs.Views.{told_account, account_is}
use Rattle.own_entries.proofs.Facts.{own_under}
use Rattle.own_entries.proofs.Held.{legal_holdings_are_told}
use Rattle.own_entries.proofs.Behind.{told_client}

module _ (left : ℕ → List ℕ) (s : State) (sound : IsSound s) (owned : PagesOwned s) (m : ℕ) (x : Session) (is : get s.sessions m ≡ Some x) (h : Holdings)
    (told : Tells left s.block_len s.trackers s.pages s.buffers m x.query x.quota h) (t : ℕ) (client : IsClientOf s m t) (idle : IsIdle t h) where
  pub no_page : (p : ℕ) (y : Page) → get s.pages p ≡ Some y → y.client ≢ t
  no_page p y there same =
      let its : IsClientOf s y.session y.client = owned p y there in
      let one : its.tracker ≡ client.tracker = some_is its.tracker client.tracker (sym its.lives ∙ ap (get s.trackers) same ∙ client.lives) in
      let up : its.session.query ≡ client.session.query = some_is its.session.query client.session.query (sym its.under ∙ ap (λ (z : Tracker). z.parent) one ∙ client.under) in
      let own : y.session ≡ m = sound.seated.apart y.session m its.session client.session its.opened client.opened up in
      let v : LivePage = record { key = y.key; client = y.client; blocks = y.blocks; pins = pins_of y.place; left = left_at y.place (left p); has_slots = y.has_slots } in
      idle.pages p v (told.live_pages p ∙ ap (λ (o : Option Page). live_page m (left p) o) there ∙ ap (λ (b : Bool). if b then Some v else None) (eq-eqb y.session m own)) same

  pub no_buffer : (f : ℕ) (b : Buffer) → get s.buffers f ≡ Some b → b.client ≢ t
  no_buffer f b there same =
      let mine : is_under x.query (get s.trackers b.client) ≡ true = ap (λ (c : ℕ). is_under x.query (get s.trackers c)) same ∙ own_under s sound m x is t client in
      let v : LiveLoan = record { client = b.client; blocks = b.blocks } in
      idle.loans f v (told.loans f ∙ ap (λ (o : Option Buffer). live_loan x.query s.trackers o) there ∙ ap (λ (r : Bool). if r then Some v else None) mine) same

  pub none_held : held_by s t ≡ 0
  none_held =
      let pages : pages_for times_held s.block_len s.pages t ≡ 0 = no_pages times_held s.block_len s.pages t no_page in
      let buffers : buffers_for s.block_len s.buffers t ≡ 0 = no_buffers s.block_len s.buffers t no_buffer in
      omega (arith, pages, buffers)

  pub none_charged : charge_of s t ≡ 0
  none_charged =
      let pages : pages_for times_charged s.block_len s.pages t ≡ 0 = no_pages times_charged s.block_len s.pages t no_page in
      let buffers : buffers_for s.block_len s.buffers t ≡ 0 = no_buffers s.block_len s.buffers t no_buffer in
      omega (arith, pages, buffers)

  account : account_of t h ≡ told_account x.query (charge_of s t) client.tracker
  account = ap (value_or no_account) (told.clients t ∙ account_is x.query (charge_of s t) (get s.trackers t) client.tracker client.lives (own_under s sound m x is t client))

  pub all_unused : unused_of t h ≡ (account_of t h).reservation
  all_unused =
      let none = none_charged in
      let all : client.tracker.reservation - charge_of s t ≡ client.tracker.reservation = omega (arith, none) in
      ap (λ (a : Account). a.unused) account ∙ all ∙ sym (ap (λ (a : Account). a.reservation) account)

  pub all_of_it : (account_of t h).reservation ≡ reservation_of s.trackers t
  all_of_it = ap (λ (a : Account). a.reservation) account ∙ sym (reservation_is s.trackers t client.tracker client.lives)

-- nothing is counted under a tracker that has no child
is_no_child : (query : ℕ) (o : Option ℕ) → only_if (is_parent query o) 1 ≤ 0 → (o ≡ Some query → ⊥)
is_no_child query None few same = let never : None ≡ Some query = same in cc
is_no_child query (Some p) few same =
    let own : is_parent query (Some p) ≡ true = ap (is_parent query) same ∙ eq-eqb query query refl in
    let one : only_if (is_parent query (Some p)) 1 ≡ 1 = ap (λ (b : Bool). only_if b 1) own in
    absurd (omega (arith, few, one))

pub none_under : (query : ℕ) (ts : Trackers) → count_under query ts ≡ 0 → HasNoChild ts query
unfolding count_under
none_under query ts none c y is =
    let part : only_if (is_parent query y.parent) 1 ≤ total (λ _ z. only_if (is_parent query z.parent) 1) ts = weight-le-total (λ _ z. only_if (is_parent query z.parent) 1) ts c y is in
    is_no_child query y.parent (omega (arith, part, none))

pub legal_idle_is_whole : LegalIdleIsWhole
legal_idle_is_whole o outset h legal m x is =
    let s : State = state_after o h in
    let held : Holdings = own_holdings o outset h m in
    let told = legal_holdings_are_told o outset h legal m x is in
    record {
      clients = λ t some idle. all_unused (λ p. content_from p [] h) s (legal_sound o h legal) (legal_pages_are_owned o h legal) m x is held told t (told_client (λ p. content_from p [] h) s m x is held told t some) idle;
      query = λ none.
          let count : count_under x.query s.trackers ≡ 0 = sym told.live_clients ∙ none in
          let children : children_of s.trackers x.query ≡ 0 = children-none s.trackers x.query (none_under x.query s.trackers count) in
          let room : held.room + children_of s.trackers x.query ≡ reservation_of s.trackers x.query = told.room in
          let has : held.reservation ≡ reservation_of s.trackers x.query = told.reservation in
          omega (arith, children, room, has);
    }
