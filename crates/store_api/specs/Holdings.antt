-- What a store holds for its query. Lengths and reservations are in bytes; clients go by the numbers of
-- their trackers, pages by their names, loans by their numbers.
use Rattle.std.specs.Prelude.{◌≡◌, ℕ, ◌*◌, ◌==◌, List, [], Bool, false, if◌then◌else◌, Option, Some, None, IsSome}

-- a client: what its reservation may rise to, its reservation, and what of it isn't charged
pub record Account : Type 0 where
  pub limit : ℕ
  pub reservation : ℕ
  pub unused : ℕ

-- a live page: how often it is pinned, the bytes last left in it while it rests, and whether it has slots
pub record LivePage : Type 0 where
  pub key : ℕ
  pub client : ℕ
  pub blocks : ℕ
  pub pins : ℕ
  pub left : List ℕ
  pub has_slots : Bool

-- a live loan: who is charged for it, and how many blocks it has
pub record LiveLoan : Type 0 where
  pub client : ℕ
  pub blocks : ℕ

-- what stands above the query's tracker: nothing, trackers with so much room that no other query takes, or
-- trackers that are shared
pub data Above : Type 0 where
  Nothing : Above
  Room : (room : ℕ) → Above
  Shared : Above

-- the query's own tracker, with `room` what of its reservation isn't its clients'; who is live; and how many
-- slots of the quota are free, where there is a quota. `told` says whether a pin shows what was left in the page,
-- as it does where slots tell what they hold; no call changes it
pub record Holdings : Type 0 where
  pub block_len : ℕ
  pub session : ℕ
  pub query : ℕ
  pub limit : ℕ
  pub reservation : ℕ
  pub room : ℕ
  pub above : Above
  pub live_clients : ℕ
  pub clients : ℕ → Option Account
  pub pages : ℕ → Option LivePage
  pub loans : ℕ → Option LiveLoan
  pub free_slots : Option ℕ
  pub told : Bool

-- the same but at one number
abbrev pub put : {X : Type 0} → ℕ → Option X → (ℕ → Option X) → ℕ → Option X
put key x xs q = if q == key then x else xs q

-- the bytes of so many blocks
abbrev pub length_of : ℕ → Holdings → ℕ
length_of blocks h = blocks * h.block_len

-- the value, or one that stands for none
abbrev pub or_else : {X : Type 0} → X → Option X → X
or_else other None = other
or_else other (Some x) = x

-- what stands for an account, a page or a loan where there is none
abbrev pub no_account : Account
no_account = record { limit = 0; reservation = 0; unused = 0 }

abbrev pub account_of : ℕ → Holdings → Account
account_of t h = or_else no_account (h.clients t)

abbrev pub no_page : LivePage
no_page = record { key = 0; client = 0; blocks = 0; pins = 0; left = []; has_slots = false }

abbrev pub no_loan : LiveLoan
no_loan = record { client = 0; blocks = 0 }

abbrev pub page_of : ℕ → Holdings → LivePage
page_of p h = or_else no_page (h.pages p)

abbrev pub loan_of : ℕ → Holdings → LiveLoan
loan_of f h = or_else no_loan (h.loans f)

-- what a client may still charge
abbrev pub unused_of : ℕ → Holdings → ℕ
unused_of t h = (account_of t h).unused

-- the bytes of a page, and of a loan
abbrev pub page_len : ℕ → Holdings → ℕ
page_len p h = length_of (page_of p h).blocks h

abbrev pub loan_len : ℕ → Holdings → ℕ
loan_len f h = length_of (loan_of f h).blocks h

-- a live page of this client
pub record IsPageOf (t : ℕ) (h : Holdings) (p : ℕ) : Type 0 where
  pub lives : IsSome (h.pages p)
  pub client : (page_of p h).client ≡ t
