-- An allocator stays one of its client's, whatever else of the store changes.
use Rattle.std.proofs.Common.{◌≡◌, ℕ, ◌+◌, ◌*◌, Option, None, Some, IsSome, refl, ap, sym, ◌∙◌, subst, arith}
use Rattle.std.proofs.lemmas.Bool.{false≢true}
use Rattle.block_arena.specs.Memory.{IsBufferOf}
use Rattle.store_api.specs.Changes.{lowered, raised}
use Rattle.store_api.specs.Holdings.{Account, Holdings, LiveLoan, account_of, no_account, no_loan, or_else, put}
use Rattle.sub_alloc.specs.Pieces.{buffer_len}
use Rattle.sub_alloc.specs.Lending.{open_buffers}
use Rattle.sub_alloc.specs.Staying.{StaysBeside, StaysGivenBack, StaysReserved}
use Rattle.sub_alloc.proofs.Lent.{put_at, some_is}

find_lent : (o : Option LiveLoan) → IsSome o → (lent : LiveLoan) × (o ≡ Some lent)
find_lent None some = absurd (false≢true some)
find_lent (Some lent) some = (lent, refl)

pub of_beside : StaysBeside
of_beside t d old now len same is = record {
  lives = subst IsSome (sym same.account) is.lives;
  block_len = is.block_len ∙ sym len;
  own = λ u loan stands.
      let was = is.own u loan stands in
      let lent = find_lent (old.loans loan.number) was.is.lives in
      let whose : lent.0.client ≡ t = ap (λ (o : Option LiveLoan). (or_else no_loan o).client) (sym lent.1) ∙ was.is.client ∙ was.client in
      let there : now.loans loan.number ≡ Some lent.0 = (same.loans loan.number lent.0 whose).1 lent.1 in
      let e : now.loans loan.number ≡ old.loans loan.number = there ∙ sym lent.1 in
      record {
        is = record {
          lives = some_is there;
          client = ap (λ (o : Option LiveLoan). (or_else no_loan o).client) e ∙ was.is.client;
          buffer =
              subst (λ (n : ℕ). IsBufferOf (or_else no_loan (now.loans loan.number)).blocks n loan.buf) (sym len)
              (subst (λ (o : Option LiveLoan). IsBufferOf (or_else no_loan o).blocks old.block_len loan.buf) (sym e) was.is.buffer);
        };
        client = was.client;
      };
  apart = is.apart;
  pages = λ q page stands whose. is.pages q page ((same.pages q page whose).0 stands) whose;
  only = λ q lent stands whose. is.only q lent ((same.loans q lent whose).0 stands) whose;
  charge =
      ap (λ (o : Option Account). (or_else no_account o).unused + open_buffers d * buffer_len d) same.account
      ∙ is.charge ∙ sym (ap (λ (o : Option Account). (or_else no_account o).reservation) same.account);
}

-- the account of the client itself
account_put : (t : ℕ) (account : Account) (h : Holdings) → put t (Some account) h.clients t ≡ Some account
account_put t account h = put_at t (Some account) h.clients

pub of_reserved : StaysReserved
of_reserved t bytes d h is =
    let mine = account_put t (raised bytes (account_of t h)) h in
    let unused = ap (λ (o : Option Account). (or_else no_account o).unused) mine in
    let reservation = ap (λ (o : Option Account). (or_else no_account o).reservation) mine in
    let even = is.charge in
    record {
      lives = some_is mine;
      block_len = is.block_len;
      own = λ u loan stands. let was = is.own u loan stands in record {
        is = record { lives = was.is.lives; client = was.is.client; buffer = was.is.buffer };
        client = was.client;
      };
      apart = is.apart;
      pages = is.pages;
      only = is.only;
      charge = omega (arith, unused, reservation, even);
    }

pub of_given_back : StaysGivenBack
of_given_back t bytes d h fits is =
    let mine = account_put t (lowered bytes (account_of t h)) h in
    let unused = ap (λ (o : Option Account). (or_else no_account o).unused) mine in
    let reservation = ap (λ (o : Option Account). (or_else no_account o).reservation) mine in
    let even = is.charge in
    record {
      lives = some_is mine;
      block_len = is.block_len;
      own = λ u loan stands. let was = is.own u loan stands in record {
        is = record { lives = was.is.lives; client = was.is.client; buffer = was.is.buffer };
        client = was.client;
      };
      apart = is.apart;
      pages = is.pages;
      only = is.only;
      charge = omega (arith, unused, reservation, even, fits);
    }
