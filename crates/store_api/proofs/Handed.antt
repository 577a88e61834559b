-- A loan that was charged to another client and then freed leaves what it leaves when it is freed at once.
use Rattle.std.proofs.Common.{◌≡◌, ◌≢◌, ℕ, ◌+◌, ◌-◌, ◌*◌, ◌≤◌, Option, Some, None, IsSome, refl, sym, ap, ◌∙◌, subst, inl, inr, arith, eq-eqb, ne_eqb}
use Rattle.std.proofs.lemmas.Bool.{cases_eq}
use Rattle.store_api.specs.Holdings.{Account, LiveLoan, Holdings, put, or_else, no_account, no_loan, account_of, loan_of, loan_len, unused_of}
use Rattle.store_api.specs.Changes.{charged, released, with_loan, after_free, after_move_buffer}
use Rattle.store_api.specs.Alike.{Alike}
use Rattle.store_api.proofs.Puts.{put_here, put_there}
use Rattle.store_api.proofs.Untouched.{same}

there_is : (o : Option Account) → IsSome o → Some (or_else no_account o) ≡ o
there_is None some = absurd (cc)
there_is (Some a) some = refl

-- what the other client is charged and then released leaves its account, if it could be charged
module _ (h : Holdings) (f to : ℕ) (some : IsSome (h.clients to)) (fits : loan_len f h ≤ unused_of to h) (apart : (loan_of f h).client ≢ to) where
  abbrev from : ℕ
  from = (loan_of f h).client

  abbrev moved : Holdings
  moved = with_loan f (Some (record (loan_of f h) { client = to })) (charged to (loan_len f h) (released from (loan_len f h) h))

  -- what the loan's client has then, on either way
  abbrev paid : Holdings
  paid = released from (loan_len f h) h

  its : loan_of f moved ≡ record (loan_of f h) { client = to }
  its = ap (or_else no_loan) (put_here f (Some (record (loan_of f h) { client = to })) h.loans)

  after : after_free f moved ≡ with_loan f None (released to (loan_len f h) moved)
  after = ap (λ (l : LiveLoan). with_loan f None (released l.client (l.blocks * h.block_len) moved)) its

  other : paid.clients to ≡ h.clients to
  other = put_there from to (Some (record (account_of from h) { unused = unused_of from h + loan_len f h })) h.clients (λ e. apart (sym e))

  now : account_of to moved ≡ record (account_of to h) { unused = unused_of to h - loan_len f h }
  now =
      ap (or_else no_account) (put_here to (Some (record (account_of to paid) { unused = unused_of to paid - loan_len f h })) paid.clients)
      ∙ ap (λ (o : Option Account). record (or_else no_account o) { unused = (or_else no_account o).unused - loan_len f h }) other

  even : unused_of to h - loan_len f h + loan_len f h ≡ unused_of to h
  even = omega (arith, fits)

  abbrev last : Account → Account
  last a = record a { unused = a.unused + loan_len f h }

  back : last (account_of to moved) ≡ account_of to h
  back = ap last now ∙ ap (λ (n : ℕ). record (account_of to h) { unused = n }) even

  there : (q : ℕ) → (released to (loan_len f h) moved).clients q ≡ paid.clients q
  there q = elim (cases_eq q to) [
    | inl same ↦
        ap (released to (loan_len f h) moved).clients same ∙ put_here to (Some (last (account_of to moved))) moved.clients
        ∙ ap (λ (a : Account). Some a) back ∙ there_is (h.clients to) some ∙ sym other ∙ ap paid.clients (sym same)
    | inr far ↦
        put_there to q (Some (last (account_of to moved))) moved.clients far
        ∙ put_there to q (Some (record (account_of to paid) { unused = unused_of to paid - loan_len f h })) paid.clients far
  ]

  gone : (q : ℕ) → (with_loan f None (released to (loan_len f h) moved)).loans q ≡ (with_loan f None paid).loans q
  gone q = elim (cases_eq q f) [
    | inl same ↦ ap (put f None moved.loans) same ∙ put_here f None moved.loans ∙ sym (put_here f None h.loans) ∙ ap (put f None h.loans) (sym same)
    | inr far ↦ put_there f q None moved.loans far ∙ put_there f q (Some (record (loan_of f h) { client = to })) h.loans far ∙ sym (put_there f q None h.loans far)
  ]

  freed_apart : Alike (after_free f h) (after_free f moved)
  freed_apart =
      subst (λ (x : Holdings). Alike (after_free f h) x) (sym after)
      (record {
        rest = record { block_len = refl; session = refl; query = refl; limit = refl; live_clients = refl; free_slots = refl; told = refl; pages = λ q. refl; loans = gone };
        reservation = refl;
        room = refl;
        above = refl;
        clients = there;
      })

-- whether it was another one's or not
pub freed_alike : (h mid last : Holdings) (f to : ℕ) → IsSome (h.clients to) → loan_len f h ≤ unused_of to h → mid ≡ after_move_buffer f to h → last ≡ after_free f mid → Alike (after_free f h) last
freed_alike h mid last f to some fits moved freed =
    subst (λ (x : Holdings). Alike (after_free f h) x) (sym (freed ∙ ap (after_free f) moved))
    (elim (cases_eq (loan_of f h).client to) [
      | inl here ↦ rw (eq-eqb (loan_of f h).client to here) (same (after_free f h))
      | inr apart ↦ rw (ne_eqb (loan_of f h).client to apart) (freed_apart h f to some fits apart)
    ])
