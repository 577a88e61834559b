-- A client that may start an operator, and is live when it has ended.
use Rattle.std.proofs.Common.{◌≡◌, ◌∙◌, ℕ, zero, suc, ◌+◌, ◌*◌, ◌<◌, ◌≤◌, Option, Some, None, IsSome, refl, ap, sym, subst, arith, eq-eqb}
use Rattle.std.proofs.lemmas.Bool.{false≢true}
use Rattle.store_api.specs.Changes.{after_add_client, after_reserve, raised}
use Rattle.store_api.specs.Conditions.{IsBlockCount, IsNewClient}
use Rattle.store_api.specs.Tokens.{ClientToken}
use Rattle.store_api.specs.Holdings.{Account, Holdings, LiveLoan, LivePage, account_of, length_of, no_account, or_else, unused_of}
use Rattle.partition_stack.specs.Leaving.{MayStart}

some_blocks : (blocks : ℕ) → IsBlockCount blocks → 0 < blocks
some_blocks zero is = absurd (false≢true is)
some_blocks (suc n) is = omega arith

some_product : (a b : ℕ) → 0 < a → 0 < b → 0 < a * b
some_product zero b some more = absurd (omega (arith, some))
some_product (suc a) b some more = omega (arith, more)

reserving : (o : Option Account) (least : ℕ) → 0 < least → least ≤ (or_else no_account o).reservation → IsSome o
reserving None least some fits = absurd (omega (arith, some, fits))
reserving (Some account) least some fits = refl

-- a client that reserves no less than before, and had twenty pages, is live
pub still_lives : (t blocks : ℕ) (old new : Holdings) → IsBlockCount blocks → 0 < old.block_len → 20 * length_of blocks old ≤ (account_of t old).reservation
    → (account_of t old).reservation ≤ (account_of t new).reservation → IsSome (new.clients t)
still_lives t blocks old new sized long least reserved =
    let page : 0 < length_of blocks old = some_product blocks old.block_len (some_blocks blocks sized) long in
    reserving (new.clients t) (length_of blocks old) page (omega (arith, least, reserved))

new_account : (t limit : ℕ) (old new : Holdings) → new ≡ after_add_client t limit old → new.clients t ≡ Some (record { limit = limit; reservation = 0; unused = 0 })
new_account t limit old new is = ap (λ (h : Holdings). h.clients t) is ∙ rw (eq-eqb t t refl) refl

raised_account : (t len : ℕ) (old new : Holdings) → new ≡ after_reserve t len old → new.clients t ≡ Some (raised len (account_of t old))
raised_account t len old new is = ap (λ (h : Holdings). h.clients t) is ∙ rw (eq-eqb t t refl) refl

-- a new client that has reserved twenty pages may start
pub may_start : (c : ClientToken) (limit len : ℕ) (was old new : Holdings) → IsNewClient c limit was old → new ≡ after_reserve c.tracker (20 * len) old → len ≡ old.block_len → MayStart c 1 new
may_start c limit len was old new came is len_is =
    let own = new_account c.tracker limit was old came.holdings in
    let now = raised_account c.tracker (20 * len) old new is in
    let none : (account_of c.tracker old).reservation ≡ 0 = ap (λ (o : Option Account). (or_else no_account o).reservation) own in
    let empty : (account_of c.tracker old).unused ≡ 0 = ap (λ (o : Option Account). (or_else no_account o).unused) own in
    let reserved : (account_of c.tracker new).reservation ≡ (account_of c.tracker old).reservation + 20 * len = ap (λ (o : Option Account). (or_else no_account o).reservation) now in
    let unused : unused_of c.tracker new ≡ (account_of c.tracker old).unused + 20 * len = ap (λ (o : Option Account). (or_else no_account o).unused) now in
    let block_len : new.block_len ≡ old.block_len = ap (λ (h : Holdings). h.block_len) is in
    let pages : new.pages ≡ was.pages = ap (λ (h : Holdings). h.pages) is ∙ ap (λ (h : Holdings). h.pages) came.holdings in
    let loans : new.loans ≡ was.loans = ap (λ (h : Holdings). h.loans) is ∙ ap (λ (h : Holdings). h.loans) came.holdings in
    record {
      lives = subst IsSome (sym now) refl;
      idle = record {
        pages = λ q page there. came.idle.pages q page (sym (ap (λ (f : ℕ → Option LivePage). f q) pages) ∙ there);
        loans = λ q loan there. came.idle.loans q loan (sym (ap (λ (f : ℕ → Option LiveLoan). f q) loans) ∙ there);
      };
      least = omega (arith, reserved, block_len, len_is);
      free = omega (arith, reserved, unused, none, empty);
    }
