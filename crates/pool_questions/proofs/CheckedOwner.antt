-- What a pool has for its one owner is what the owner holds.
use Rattle.std.proofs.Common.{◌≡◌, ◌≢◌, ℕ, ◌-◌, ◌*◌, ◌==◌, List, [], Bool, true, false, ne_eqb, Option, Some, None, IsSome, if◌then◌else◌, refl, sym, ap, ◌∙◌, subst, eq-eqb, is_some, unwrap_or, option_map}
use Rattle.std.specs.FinMap.{get}
use Rattle.outside.specs.declared.slot.Slot.{Ghosts}
use Rattle.block_arena.specs.Memory.{Buffer, IsBufferOf}
use Rattle.reservation_tree.specs.Tracker.{Tracker, Trackers, HasNoChild}
use Rattle.reservation_tree.proofs.Sums.{total-none}
use Rattle.pool_model.specs.Bytes.{only_if}
use Rattle.reservation_tree.proofs.Maps.{found}
use Rattle.pool_model.specs.Owning.{IsClientOf}
use Rattle.pool_model.specs.State.{Page, Session, State, pins_of}
use Rattle.pool_model.specs.State.{Buffer as Lent}
use Rattle.pool_model.specs.LookingBack.{content_from}
use Rattle.pool_model.proofs.Seats.{some_is}
use Rattle.store_api.specs.Tokens.{PageToken, LoanToken}
use Rattle.store_api.specs.Holdings.{Account, Holdings, LivePage, LiveLoan, or_else, no_loan, page_of}
use Rattle.store_api.specs.Conditions.{IsIdle, IsLoan, IsPage}
use Rattle.own_entries.specs.LiveParts.{Tells, is_parent, is_under, left_at, live_account, live_page, live_loan, charge_in, count_under}
use Rattle.own_entries.proofs.Behind.{IsTold, IsLent, told_page, told_loan}
use Rattle.pin_core.specs.StateOf.{state_of}
use Rattle.pin_core.specs.calls.Lending.{IsLoan as IsLoanOf}
use Rattle.pin_core.specs.calls.Sessions.{IsIdle as IsIdleIn}
use Rattle.pin_core.specs.calls.Sessions.{query_of}
use Rattle.session_calls.specs.declared.hand.Hand.{Hand}
use Rattle.local_pool.specs.Told.{held_of}
use Rattle.local_pool.specs.Agreeing.{AgreesWith}

under_here : (query : ℕ) (o : Option Tracker) (y : Tracker) → o ≡ Some y → y.parent ≡ Some query → is_under query o ≡ true
under_here query o y is under = ap (is_under query) is ∙ ap (is_parent query) under ∙ eq-eqb query query refl

account_there : (query charge : ℕ) (o : Option Tracker) → is_under query o ≡ true → IsSome (live_account query charge o)
account_there query charge None mine = mine
account_there query charge (Some y) mine = ap (λ (b : Bool). is_some {T = Account} (if b then Some (record { limit = y.limit; reservation = y.reservation; unused = y.reservation - charge }) else None)) mine

parent_isnt : (query : ℕ) (o : Option ℕ) → (o ≡ Some query → ⊥) → is_parent query o ≡ false
parent_isnt query None apart = refl
parent_isnt query (Some p) apart = ne_eqb p query (λ same. apart (ap Some same))

-- where a tracker has no child, none is counted under it
none_counted : (query : ℕ) (ts : Trackers) → HasNoChild ts query → count_under query ts ≡ 0
unfolding count_under
none_counted query ts none = total-none (λ _ y. only_if (is_parent query y.parent) 1) ts (λ c y is. ap (λ (b : Bool). only_if b 1) (parent_isnt query y.parent (none c y is)))

-- a page, as it reads
abbrev pub reading : Page → List ℕ → LivePage
reading x left = record { key = x.key; client = x.client; blocks = x.blocks; pins = pins_of x.place; left = left_at x.place left; has_slots = x.has_slots }

module _ {D : Type 0} (slot : Ghosts D) (own : Hand D) (agrees : AgreesWith slot own) where
  abbrev s : State
  s = state_of own.state

  abbrev h : Holdings
  h = held_of slot own

  abbrev left : ℕ → List ℕ
  left p = content_from p [] own.trail

  client_under : (t : ℕ) → IsClientOf s own.session t → is_under agrees.session.query (get s.trackers t) ≡ true
  client_under t is =
      let same : is.session ≡ agrees.session = some_is is.session agrees.session (sym is.opened ∙ agrees.lives) in
      under_here agrees.session.query (get s.trackers t) is.tracker is.lives (is.under ∙ ap (λ (x : Session). Some x.query) same)

  pub client_held : (t : ℕ) → IsClientOf s own.session t → IsSome (h.clients t)
  client_held t is =
      let charge : ℕ = charge_in s.block_len s.pages s.buffers t in
      ap is_some (agrees.tells.clients t) ∙ account_there agrees.session.query charge (get s.trackers t) (client_under t is)

  pub page_held : (p : ℕ) (x : Page) → get s.pages p ≡ Some x → x.session ≡ own.session → h.pages p ≡ Some (reading x (left p))
  page_held p x there mine =
      agrees.tells.live_pages p ∙ ap (live_page own.session (left p)) there
      ∙ ap (λ (b : Bool). if b then Some (reading x (left p)) else None) (eq-eqb x.session own.session mine)

  pub page_is : (p : PageToken) (x : Page) → get s.pages p.name ≡ Some x → x.key ≡ p.key → x.session ≡ own.session → x.client ≡ p.client → IsPage p h
  page_is p x there key mine client =
      let is : h.pages p.name ≡ Some (reading x (left p.name)) = page_held p.name x there mine in
      record {
        lives = ap is_some is;
        key = ap (λ (o : Option LivePage). (page_of p.name (record h { pages = λ q. o })).key) is ∙ key;
        client = ap (λ (o : Option LivePage). (page_of p.name (record h { pages = λ q. o })).client) is ∙ client;
      }

  pub none_held : HasNoChild s.trackers (query_of s own.session) → h.live_clients ≡ 0
  none_held none =
      let query : query_of s own.session ≡ agrees.session.query = ap (λ (o : Option Session). unwrap_or (option_map (λ x. x.query) o) 0) agrees.lives in
      agrees.tells.live_clients ∙ none_counted agrees.session.query s.trackers (subst (HasNoChild s.trackers) query none)

  pub idle_held : (t : ℕ) → IsIdleIn s t → IsIdle t h
  idle_held t idle = record {
    pages = λ q page is client.
        let it : IsTold s own.session q (h.pages q) (left q) = told_page left s own.session agrees.session agrees.lives h agrees.tells q (ap is_some is) in
        let same : page ≡ reading it.page (left q) = some_is page (reading it.page (left q)) (sym is ∙ it.reads) in
        idle.pages q it.page it.own.lives (ap (λ (v : LivePage). v.client) (sym same) ∙ client);
    loans = λ q loan is client.
        let it : IsLent s own.session q (h.loans q) = told_loan left s own.session agrees.session agrees.lives h agrees.tells q (ap is_some is) in
        let same : loan ≡ record { client = it.buffer.client; blocks = it.buffer.blocks } = some_is loan (record { client = it.buffer.client; blocks = it.buffer.blocks }) (sym is ∙ it.reads) in
        idle.buffers q it.buffer it.lives (ap (λ (v : LiveLoan). v.client) (sym same) ∙ client);
  }

  pub loan_held : (loan : LoanToken) → IsLoanOf s loan → IsClientOf s own.session loan.client → IsLoan loan h
  loan_held loan is client =
      let live : LiveLoan = record { client = loan.client; blocks = loan.buf.blocks } in
      let there : h.loans loan.number ≡ Some live =
      agrees.tells.loans loan.number ∙ ap (live_loan agrees.session.query s.trackers) is.lives ∙ ap (λ (b : Bool). if b then Some live else None) (client_under loan.client client) in
      let blocks : (or_else no_loan (h.loans loan.number)).blocks ≡ loan.buf.blocks = ap (λ (o : Option LiveLoan). (or_else no_loan o).blocks) there in
      record {
        lives = ap is_some there;
        client = ap (λ (o : Option LiveLoan). (or_else no_loan o).client) there;
        buffer = subst (λ (n : ℕ). IsBufferOf n h.block_len loan.buf) (sym blocks) (subst (λ (n : ℕ). IsBufferOf loan.buf.blocks n loan.buf) (sym agrees.tells.block_len) is.buffer);
      }
