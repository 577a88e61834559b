-- Which clients a session has after what it entered, and of which its ledger has accounts.
use Rattle.std.proofs.Common.{◌≡◌, ℕ, ◌+◌, ◌==◌, List, [], Bool, true, false, if◌then◌else◌, Option, Some, None, IsSome, is_some, length, option_map, refl, sym, ap, ◌∙◌, subst, arith, inl, inr, eq-eqb, ne_eqb}
use Rattle.std.proofs.lemmas.Bool.{cases_eq}
use Rattle.std.specs.FinMap.{get}
use Rattle.pool.specs.declared.account.ClientAccount.{ClientAccount}
use Rattle.pool.specs.Unused.{unused_in}
use Rattle.reservation_tree.proofs.Maps.{found}
use Rattle.pool_model.specs.declared.entry.Entry.{Entry}
use Rattle.pool_model.specs.State.{Opening, Session, State}
use Rattle.pool_model.specs.Legal.{state_after, IsLegal}
use Rattle.pool_model.specs.LookingBack.{content_from}
use Rattle.pool_model.specs.Owning.{IsClientOf}
use Rattle.pool_model.proofs.Kept.{legal_sound}
use Rattle.pool_model.proofs.Failures.{legal_pages_are_owned}
use Rattle.store_api.specs.Holdings.{Account, Holdings, LiveLoan, LivePage, put, or_else, no_page, no_loan, loan_of, page_of}
use Rattle.store_api.specs.Changes.{after_add_client, after_end_client, after_reserve, released}
use Rattle.store_api.proofs.Puts.{put_here, put_there}
use Rattle.own_entries.specs.HeldLaws.{own_holdings, TellsState}
use Rattle.own_entries.specs.OwnHoldings.{Outset}
use Rattle.own_entries.proofs.Behind.{IsTold, IsLent, told_page, told_loan}
use Rattle.own_entries.proofs.ByItself.{is_client}
use Rattle.own_entries.proofs.Held.{legal_holdings_are_told}
use Rattle.own_entries.proofs.Lives.{legal_lives_as_told}
use Rattle.pool.specs.declared.ledger.Ledger.{Ledger}
use Rattle.pool.specs.Ledgers.{HasClients, HasOneMore, TellsHeld}

-- no client came, and none went
pub record Stay (h g : Holdings) : Type 0 where
  pub each : (t : ℕ) → is_some (g.clients t) ≡ is_some (h.clients t)
  pub count : g.live_clients ≡ h.live_clients

pub stay_same : (h g : Holdings) → g ≡ h → Stay h g
stay_same h g same = record { each = λ t. ap (λ (k : Holdings). is_some (k.clients t)) same; count = ap (λ (k : Holdings). k.live_clients) same }

pub stay_as : (h k g : Holdings) → g ≡ k → Stay h k → Stay h g
stay_as h k g same stay = subst (Stay h) (sym same) stay

pub put_stays : (f : ℕ → Option Account) (k : ℕ) (v : Account) → IsSome (f k) → (t : ℕ) → is_some (put k (Some v) f t) ≡ is_some (f t)
put_stays f k v there t = elim (cases_eq t k) [
  | inl same ↦ subst (λ (q : ℕ). is_some (put k (Some v) f q) ≡ is_some (f q)) (sym same) (ap is_some (put_here k (Some v) f) ∙ sym there)
  | inr apart ↦ ap is_some (put_there k t (Some v) f apart)
]

module _ (h : Holdings) (t bytes : ℕ) (there : IsSome (h.clients t)) where
  pub stay_reserved : Stay h (after_reserve t bytes h)
  stay_reserved = record { each = put_stays h.clients t _ there; count = refl }

  pub stay_released : Stay h (released t bytes h)
  stay_released = record { each = put_stays h.clients t _ there; count = refl }

-- who is charged for a page or a loan of a live session is one of its clients
module _ (o : Opening) (u : Outset) (hist : List Entry) (legal : IsLegal o hist) (m : ℕ) (live : is_some (own_holdings o u hist m).free_slots ≡ true) where
  abbrev s : State
  s = state_after o hist

  abbrev held : Holdings
  held = own_holdings o u hist m

  abbrev left : ℕ → List ℕ
  left p = content_from p [] hist

  seat : (x : Session) × (get s.sessions m ≡ Some x)
  seat = found (get s.sessions m) (legal_lives_as_told o u hist legal m ∙ live)

  told : TellsState o u hist m seat.0 s
  told = legal_holdings_are_told o u hist legal m seat.0 seat.1

  its_client : (c : ℕ) → IsClientOf s m c → IsSome (held.clients c)
  its_client c client = is_client left [] s (legal_sound o hist legal) (legal_pages_are_owned o hist legal) m seat.0 seat.1 held told c client

  pub page_client : (p : ℕ) → IsSome (held.pages p) → IsSome (held.clients (page_of p held).client)
  page_client p some =
      let it : IsTold s m p (held.pages p) (left p) = told_page left s m seat.0 seat.1 held told p some in
      let reads : (page_of p held).client ≡ it.page.client = ap (λ (v : Option LivePage). (or_else no_page v).client) it.reads in
      subst (λ (c : ℕ). IsSome (held.clients c)) (sym reads)
      (its_client it.page.client (subst (λ (k : ℕ). IsClientOf s k it.page.client) it.own.own (legal_pages_are_owned o hist legal p it.page it.own.lives)))

  pub loan_client : (f : ℕ) → IsSome (held.loans f) → IsSome (held.clients (loan_of f held).client)
  loan_client f some =
      let it : IsLent s m f (held.loans f) = told_loan left s m seat.0 seat.1 held told f some in
      let reads : (loan_of f held).client ≡ it.buffer.client = ap (λ (v : Option LiveLoan). (or_else no_loan v).client) it.reads in
      subst (λ (c : ℕ). IsSome (held.clients c)) (sym reads) (its_client it.buffer.client it.own)

-- the accounts of a ledger
told_some : (o : Option Account) → is_some (option_map (λ account. account.unused) o) ≡ is_some o
told_some None = refl
told_some (Some a) = refl

pub has_told : (ledger : Ledger) (h : Holdings) → TellsHeld ledger h → HasClients ledger.accounts h
has_told ledger h tells = record { each = λ t. ap is_some (tells.accounts t) ∙ told_some (h.clients t); count = tells.count }

pub has_still : (accounts : List ClientAccount) (h g : Holdings) → HasClients accounts h → Stay h g → HasClients accounts g
has_still accounts h g has stay = record { each = λ t. has.each t ∙ sym (stay.each t); count = has.count ∙ sym stay.count }

module _ (old new : List ClientAccount) (h : Holdings) (t : ℕ) (has : HasClients old h) where
  -- a client came
  pub has_more : (limit : ℕ) → HasOneMore t old new → HasClients new (after_add_client t limit h)
  has_more limit more = record {
    each = λ q. more.each q ∙ (elim (cases_eq q t) [
      | inl same ↦
          ap (λ (b : Bool). if b then true else is_some (unused_in old q)) (eq-eqb q t same)
          ∙ sym (subst (λ (k : ℕ). is_some ((after_add_client t limit h).clients k) ≡ true) (sym same) (ap is_some (put_here t (Some (record { limit = limit; reservation = 0; unused = 0 })) h.clients)))
      | inr apart ↦
          ap (λ (b : Bool). if b then true else is_some (unused_in old q)) (ne_eqb q t apart) ∙ has.each q
          ∙ sym (ap is_some (put_there t q (Some (record { limit = limit; reservation = 0; unused = 0 })) h.clients apart))
    ]);
    count = more.count ∙ ap (λ (n : ℕ). n + 1) has.count;
  }

  -- one went
  pub has_fewer : ((q : ℕ) → unused_in new q ≡ (if q == t then None else unused_in old q)) → length new + 1 ≡ length old → HasClients new (after_end_client t h)
  has_fewer gone count = record {
    each = λ q. ap is_some (gone q) ∙ (elim (cases_eq q t) [
      | inl same ↦
          ap (λ (b : Bool). is_some (if b then None else unused_in old q)) (eq-eqb q t same)
          ∙ sym (subst (λ (k : ℕ). is_some ((after_end_client t h).clients k) ≡ false) (sym same) (ap is_some (put_here t None h.clients)))
      | inr apart ↦
          ap (λ (b : Bool). is_some (if b then None else unused_in old q)) (ne_eqb q t apart) ∙ has.each q
          ∙ sym (ap is_some (put_there t q None h.clients apart))
    ]);
    count = let was = has.count in omega (arith, was, count);
  }
