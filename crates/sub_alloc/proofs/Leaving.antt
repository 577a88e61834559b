-- What a call of an allocator leaves to the others of its store.
use Rattle.std.proofs.Common.{◌≡◌, ◌≢◌, ℕ, ◌+◌, ◌-◌, ◌*◌, Option, None, Some, IsSome, refl, ap, sym, ◌∙◌, subst, inl, inr, arith}
use Rattle.std.proofs.lemmas.Bool.{cases_eq}
use Rattle.store_api.specs.Changes.{after_alloc, after_free}
use Rattle.store_api.specs.Conditions.{IsLoan, IsNewLoan}
use Rattle.store_api.specs.Emitters.{OthersStay, SameFor, slots_with}
use Rattle.store_api.specs.Handing.{LeavesStore}
use Rattle.store_api.specs.Holdings.{Account, Holdings, LiveLoan, account_of, loan_len, loan_of, no_account, no_loan, or_else, put, unused_of}
use Rattle.store_api.specs.Signs.{Grows}
use Rattle.store_api.specs.Tokens.{ClientToken, LoanToken}
use Rattle.store_api.specs.declared.store.Store.{Ghosts as StoreGhosts}
use Rattle.store_api.proofs.Untouched.{others_stay}
use Rattle.sub_alloc.proofs.Lent.{put_at, put_off, some_is}

apart_of : {t q : ℕ} → Some t ≢ Some q → q ≢ t
apart_of far same = far (ap Some (sym same))

never : {P : Type 0} {t : ℕ} → Some t ≡ None → P
never e = cc

no_loan_is : {P : Type 0} (o : Option LiveLoan) (x : LiveLoan) → o ≡ None → o ≡ Some x → P
no_loan_is o x none some = cc

same_loan : {x y : LiveLoan} → Some x ≡ Some y → x ≡ y
same_loan same = cc

-- the client's account changed, and a loan of its own came or went
module _ (t f : ℕ) (h : Holdings) (account : Account) (slot : Option LiveLoan) (was : (x : LiveLoan) → h.loans f ≡ Some x → x.client ≡ t) (is : (x : LiveLoan) → slot ≡ Some x → x.client ≡ t) where
  pub changed : Holdings
  changed = record h { clients = put t (Some account) h.clients; loans = put f slot h.loans }

  same_for : (q : ℕ) → q ≢ t → SameFor q h (record h { clients = put t (Some account) h.clients; loans = put f slot h.loans })
  same_for q far = record {
    account = put_off t q (Some account) h.clients far;
    pages = λ k page whose. ((λ e. e), (λ e. e));
    loans = λ k loan whose.
        elim (cases_eq k f) [
          | inl same ↦ (
            (λ e. absurd (far (sym whose ∙ is loan (sym (put_at f slot h.loans) ∙ ap (put f slot h.loans) (sym same) ∙ e)))),
            (λ e. absurd (far (sym whose ∙ was loan (ap h.loans (sym same) ∙ e)))),
          )
          | inr other ↦ (
            (λ e. sym (put_off f k slot h.loans other) ∙ e),
            (λ e. put_off f k slot h.loans other ∙ e),
          )
        ];
  }

  pub changed_others : OthersStay (Some t) h (record h { clients = put t (Some account) h.clients; loans = put f slot h.loans })
  changed_others = record {
    block_len = refl;
    session = refl;
    query = refl;
    limit = refl;
    live_clients = refl;
    told = refl;
    reservation = omega arith;
    others = λ q far. same_for q (apart_of far);
    alone = λ e. never e;
  }

module _ {St : Type 0} (store : StoreGhosts St) (t : ℕ) (s s_new : St) (grows : Grows (store.signs s) (store.signs s_new)) where
  -- nothing changed
  pub leaves_held : IsSome ((store.holds s).clients t) → store.holds s_new ≡ store.holds s → LeavesStore store t 0 0 s s_new
  leaves_held lives same =
      let reservation = ap (λ (h : Holdings). (account_of t h).reservation) same in
      let room = ap (λ (h : Holdings). h.room + (account_of t h).reservation) same in
      record {
        client = subst (λ (h : Holdings). IsSome (h.clients t)) (sym same) lives;
        others = subst (OthersStay (Some t) (store.holds s)) (sym same) (others_stay (Some t) (store.holds s));
        reserved = omega (arith, reservation);
        room = omega (arith, room);
        slots = ap (λ (h : Holdings). slots_with 0 h) same;
        grows = grows;
      }

  module _ (f : ℕ) (account : Account) (slot : Option LiveLoan) (same : store.holds s_new ≡ record (store.holds s) { clients = put t (Some account) (store.holds s).clients; loans = put f slot (store.holds s).loans }) (fixed : account.reservation ≡ (account_of t (store.holds s)).reservation) where
    mine : account_of t (store.holds s_new) ≡ account
    mine = ap (account_of t) same ∙ ap (or_else no_account) (put_at t (Some account) (store.holds s).clients)

    pub leaves_changed : OthersStay (Some t) (store.holds s) (record (store.holds s) { clients = put t (Some account) (store.holds s).clients; loans = put f slot (store.holds s).loans }) → LeavesStore store t 0 0 s s_new
    leaves_changed others =
        let reservation : (account_of t (store.holds s_new)).reservation ≡ (account_of t (store.holds s)).reservation = ap (λ (a : Account). a.reservation) mine ∙ fixed in
        let room = ap (λ (h : Holdings). h.room) same in
        record {
          client = subst (λ (h : Holdings). IsSome (h.clients t)) (sym same) (some_is (put_at t (Some account) (store.holds s).clients));
          others = subst (OthersStay (Some t) (store.holds s)) (sym same) others;
          reserved = omega (arith, reservation);
          room = omega (arith, reservation, room);
          slots = ap (λ (h : Holdings). slots_with 0 h) same;
          grows = grows;
        }

  -- a loan of the client came
  pub leaves_lent : (c : ClientToken) (blocks : ℕ) (loan : LoanToken) → c.tracker ≡ t → IsNewLoan c blocks loan (store.holds s) (store.holds s_new) → LeavesStore store t 0 0 s s_new
  leaves_lent c blocks loan client new =
      let h = store.holds s in
      let account : Account = record (account_of t h) { unused = unused_of t h - blocks * h.block_len } in
      let slot : Option LiveLoan = Some (record { client = t; blocks = blocks }) in
      let same = new.holdings ∙ ap (λ (k : ℕ). after_alloc loan.number k blocks h) client in
      leaves_changed loan.number account slot same refl
      (changed_others t loan.number h account slot (λ x e. no_loan_is (h.loans loan.number) x new.fresh e) (λ x e. ap (λ (l : LiveLoan). l.client) (sym (same_loan e))))

  -- a loan of the client went
  pub leaves_freed : (loan : LoanToken) → IsLoan loan (store.holds s) → loan.client ≡ t → store.holds s_new ≡ after_free loan.number (store.holds s) → LeavesStore store t 0 0 s s_new
  leaves_freed loan is client freed =
      let h = store.holds s in
      let whose : (loan_of loan.number h).client ≡ t = is.client ∙ client in
      let account : Account = record (account_of t h) { unused = unused_of t h + loan_len loan.number h } in
      let same = freed ∙ ap (λ (k : ℕ). record h { clients = put k (Some (record (account_of k h) { unused = unused_of k h + loan_len loan.number h })) h.clients; loans = put loan.number None h.loans }) whose in
      leaves_changed loan.number account None same refl
      (changed_others t loan.number h account None (λ x e. ap (λ (o : Option LiveLoan). (or_else no_loan o).client) (sym e) ∙ whose) (λ x e. no_loan_is None x refl e))
