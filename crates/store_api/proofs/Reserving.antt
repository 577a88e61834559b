-- A store in memory is kept where accounts grow, fall or come, and its pieces stay.
use Rattle.std.proofs.Common.{◌≡◌, ◌≢◌, ℕ, ◌+◌, ◌≤◌, ◌==◌, if◌then◌else◌, Option, Some, None, IsSome, Result, Ok, Err, OnOk, OnErr, IfSome, IfNone, false, true, refl, ap, sym, ◌∙◌, subst, inl, inr, arith, ne_eqb, eq-eqb}
use Rattle.std.proofs.lemmas.Bool.{cases_eq}
use Rattle.slab.specs.Slab.{Slab, get}
use Rattle.reservation_tree.specs.declared.errors.PoolErr.{PoolErr}
use Rattle.store_api.specs.Holdings.{Account, LivePage, LiveLoan, put, or_else, no_account, no_page, no_loan}
use Rattle.store_api.specs.Changes.{raised, lowered}
use Rattle.store_api.specs.declared.mem_store.piece.Piece.{Piece}
use Rattle.store_api.specs.declared.mem_store.piece.Stand.{Stand}
use Rattle.store_api.specs.declared.mem_store.piece.Stand.TheVariants.{Resting, Pinned, Lent}
use Rattle.store_api.specs.declared.mem_store.accounts.Accounts.{Accounts}
use Rattle.store_api.specs.MemAccounts.{clients_of, account_at}
use Rattle.store_api.specs.MemPieces.{IsKept, pages_of, loans_of, page_in, loan_in, page_standing, loan_standing}
use Rattle.store_api.proofs.Puts.{put_there}
use Rattle.store_api.specs.MemLaws.{no_charge, idle_pieces}
use Rattle.store_api.proofs.Keeping.{at, kept_account, kept_ended}

-- a client's unused bytes are among its reservation
abbrev pub Within : ℕ → (ℕ → Option Account) → Type 0
Within t clients = (at t clients).unused ≤ (at t clients).reservation

-- no page and no loan is this client's
pub record IsIdleIn (pieces : Slab Piece) (t : ℕ) : Type 0 where
  pub pages : (q : ℕ) (page : LivePage) → pages_of pieces q ≡ Some page → page.client ≢ t
  pub loans : (q : ℕ) (loan : LiveLoan) → loans_of pieces q ≡ Some loan → loan.client ≢ t

standing_page : (client blocks : ℕ) (stand : Stand) (page : LivePage) → page_standing client blocks stand ≡ Some page → page.client ≡ client
standing_page client blocks (Resting buf) page is = sym (ap (λ (o : Option LivePage). (or_else no_page o).client) is)
standing_page client blocks (Pinned count) page is = sym (ap (λ (o : Option LivePage). (or_else no_page o).client) is)
standing_page client blocks Lent page is = absurd (cc)

standing_loan : (client blocks : ℕ) (stand : Stand) (loan : LiveLoan) → loan_standing client blocks stand ≡ Some loan → loan.client ≡ client
standing_loan client blocks (Resting buf) loan is = absurd (cc)
standing_loan client blocks (Pinned count) loan is = absurd (cc)
standing_loan client blocks Lent loan is = sym (ap (λ (o : Option LiveLoan). (or_else no_loan o).client) is)

-- a page that is seen is of a piece, and so is a loan
page_from : (o : Option Piece) (page : LivePage) → page_in o ≡ Some page → (piece : Piece) × (o ≡ Some piece) × (page.client ≡ piece.client)
page_from None page is = absurd (cc)
page_from (Some piece) page is = (piece, refl, standing_page piece.client piece.blocks piece.stand page is)

loan_from : (o : Option Piece) (loan : LiveLoan) → loan_in o ≡ Some loan → (piece : Piece) × (o ≡ Some piece) × (loan.client ≡ piece.client)
loan_from None loan is = absurd (cc)
loan_from (Some piece) loan is = (piece, refl, standing_loan piece.client piece.blocks piece.stand loan is)

module _ (block : ℕ) (old new : Accounts) (pieces : Slab Piece) (kept : IsKept block (clients_of old.clients) pieces) where
  pub kept_put : (t : ℕ) (a : Account) → a.unused + (account_at t old.clients).reservation ≡ (account_at t old.clients).unused + a.reservation → clients_of new.clients ≡ put t (Some a) (clients_of old.clients) → IsKept block (clients_of new.clients) pieces
  kept_put t a even is =
      subst (λ (f : ℕ → Option Account). IsKept block f pieces) (sym is) (kept_account block (clients_of old.clients) pieces kept t a even)

  pub kept_same : new ≡ old → IsKept block (clients_of new.clients) pieces
  kept_same same = subst (λ (a : Accounts). IsKept block (clients_of a.clients) pieces) (sym same) kept

  pub kept_reserved : (r : Result Unit PoolErr) (t bytes : ℕ) → OnOk r (clients_of new.clients ≡ put t (Some (raised bytes (account_at t old.clients))) (clients_of old.clients)) → OnErr r (new ≡ old) → IsKept block (clients_of new.clients) pieces
  kept_reserved (Ok _) t bytes ok err = kept_put t (raised bytes (account_at t old.clients)) (omega arith) ok
  kept_reserved (Err e) t bytes ok err = kept_same err

  pub kept_added : (r : Option ℕ) (a : Account) → a.unused ≡ a.reservation → IfSome r (λ t. clients_of old.clients t ≡ None) → IfSome r (λ t. clients_of new.clients ≡ put t (Some a) (clients_of old.clients)) → IfNone r (new ≡ old) → IsKept block (clients_of new.clients) pieces
  kept_added None a even fresh put_so none = kept_same none
  kept_added (Some t) a even fresh put_so none =
      let was : account_at t old.clients ≡ no_account = ap (or_else no_account) fresh in
      let unused : (account_at t old.clients).unused ≡ 0 = ap (λ (x : Account). x.unused) was in
      let reservation : (account_at t old.clients).reservation ≡ 0 = ap (λ (x : Account). x.reservation) was in
      kept_put t a (omega (arith, even, unused, reservation)) put_so

  pub kept_shifted : (r : Result Unit PoolErr) (from to bytes : ℕ) → bytes ≤ (account_at from old.clients).unused → OnOk r (clients_of new.clients ≡ if from == to then clients_of old.clients else put to (Some (raised bytes (account_at to old.clients))) (put from (Some (lowered bytes (account_at from old.clients))) (clients_of old.clients))) → OnErr r (new ≡ old) → Within from (clients_of old.clients) → IsKept block (clients_of new.clients) pieces
  kept_shifted (Err e) from to bytes fits ok err within = kept_same err
  kept_shifted (Ok _) from to bytes fits ok err within =
      elim (cases_eq from to) [
        | inl same ↦
            let is : clients_of new.clients ≡ clients_of old.clients = ok ∙ rw (eq-eqb from to same) refl in
            subst (λ (f : ℕ → Option Account). IsKept block f pieces) (sym is) kept
        | inr apart ↦
            let middle = put from (Some (lowered bytes (account_at from old.clients))) (clients_of old.clients) in
            let is : clients_of new.clients ≡ put to (Some (raised bytes (account_at to old.clients))) middle = ok ∙ rw (ne_eqb from to apart) refl in
            let first : IsKept block middle pieces = kept_account block (clients_of old.clients) pieces kept from (lowered bytes (account_at from old.clients)) (omega (arith, fits, within)) in
            let other : at to middle ≡ account_at to old.clients = ap (or_else no_account) (put_there from to (Some (lowered bytes (account_at from old.clients))) (clients_of old.clients) (λ e. apart (sym e))) in
            let other_unused : (at to middle).unused ≡ (account_at to old.clients).unused = ap (λ (x : Account). x.unused) other in
            let other_reservation : (at to middle).reservation ≡ (account_at to old.clients).reservation = ap (λ (x : Account). x.reservation) other in
            subst (λ (f : ℕ → Option Account). IsKept block f pieces) (sym is)
            (kept_account block middle pieces first to (raised bytes (account_at to old.clients)) (omega (arith, other_unused, other_reservation)))
      ]

module _ (block : ℕ) (clients : ℕ → Option Account) (pieces : Slab Piece) (kept : IsKept block clients pieces) where
  pub ended_keeps : (now : ℕ → Option Account) (t own : ℕ) → t ≡ own → IsIdleIn pieces own → now ≡ put t None clients → IsKept block now pieces
  ended_keeps now t own e idle is =
      let none_own : (k : ℕ) (piece : Piece) → get pieces k ≡ Some piece → piece.client ≢ own = idle_pieces pieces own idle.pages idle.loans in
      let none : (k : ℕ) (piece : Piece) → get pieces k ≡ Some piece → piece.client ≢ t = λ k piece there wrong. none_own k piece there (wrong ∙ e) in
      subst (λ (f : ℕ → Option Account). IsKept block f pieces) (sym is) (kept_ended block clients pieces kept t none (no_charge block t pieces.slots none))

  live_client : (piece : Piece) (t : ℕ) → clients t ≡ None → piece.client ≡ t → IsSome (clients piece.client) → ⊥
  live_client piece t none same some =
      let wrong : IsSome (clients t) = subst (λ (q : ℕ). IsSome (clients q)) same some in
      let nothing : false ≡ true = subst (λ (o : Option Account). IsSome o) none wrong in
      absurd (cc)

  -- no piece is a new client's
  pub new_is_idle : (t : ℕ) → clients t ≡ None → IsIdleIn pieces t
  new_is_idle t none =
      record {
        pages = λ q page is wrong.
            let p = page_from (get pieces q) page is in
            live_client p.0 t none (sym p.2 ∙ wrong) (kept.sound q p.0 p.1).owned;
        loans = λ q loan is wrong.
            let l = loan_from (get pieces q) loan is in
            live_client l.0 t none (sym l.2 ∙ wrong) (kept.sound q l.0 l.1).owned;
      }
