-- A new client that has reserved twenty pages of one block may start a grouping.
use Rattle.std.proofs.Common.{◌≡◌, ◌∙◌, ℕ, ◌+◌, ◌*◌, Option, Some, IsSome, refl, ap, sym, subst, arith, eq-eqb}
use Rattle.store_api.specs.Changes.{after_add_client, after_reserve, raised}
use Rattle.store_api.specs.Conditions.{IsNewClient}
use Rattle.store_api.specs.Tokens.{ClientToken}
use Rattle.store_api.specs.Holdings.{Account, Holdings, LiveLoan, LivePage, account_of, no_account, or_else, unused_of}
use Rattle.group_op.specs.Starting.{MayStart}

new_account : (t limit : ℕ) (old new : Holdings) → new ≡ after_add_client t limit old → new.clients t ≡ Some (record { limit = limit; reservation = 0; unused = 0 })
new_account t limit old new is = ap (λ (h : Holdings). h.clients t) is ∙ rw (eq-eqb t t refl) refl

raised_account : (t len : ℕ) (old new : Holdings) → new ≡ after_reserve t len old → new.clients t ≡ Some (raised len (account_of t old))
raised_account t len old new is = ap (λ (h : Holdings). h.clients t) is ∙ rw (eq-eqb t t refl) refl

pub may_start : (c : ClientToken) (limit len : ℕ) (was old new : Holdings) → IsNewClient c limit was old → new ≡ after_reserve c.tracker (20 * len) old → len ≡ old.block_len → MayStart c 1 new
may_start c limit len was old new came is len_is =
    let own = new_account c.tracker limit was old came.holdings in
    let now = raised_account c.tracker (20 * len) old new is in
    let none : (account_of c.tracker old).reservation ≡ 0 = ap (λ (o : Option Account). (or_else no_account o).reservation) own in
    let empty : (account_of c.tracker old).unused ≡ 0 = ap (λ (o : Option Account). (or_else no_account o).unused) own in
    let reserved : (account_of c.tracker new).reservation ≡ (account_of c.tracker old).reservation + 20 * len = ap (λ (o : Option Account). (or_else no_account o).reservation) now in
    let unused : unused_of c.tracker new ≡ (account_of c.tracker old).unused + 20 * len = ap (λ (o : Option Account). (or_else no_account o).unused) now in
    let block_len : new.block_len ≡ old.block_len = ap (λ (h : Holdings). h.block_len) is in
    let pages : new.pages ≡ was.pages = ap (λ (h : Holdings). h.pages) is ∙ ap (λ (h : Holdings). h.pages) came.holdings in
    let loans : new.loans ≡ was.loans = ap (λ (h : Holdings). h.loans) is ∙ ap (λ (h : Holdings). h.loans) came.holdings in
    record {
      lives = subst IsSome (sym now) refl;
      idle = record {
        pages = λ q page there. came.idle.pages q page (sym (ap (λ (f : ℕ → Option LivePage). f q) pages) ∙ there);
        loans = λ q loan there. came.idle.loans q loan (sym (ap (λ (f : ℕ → Option LiveLoan). f q) loans) ∙ there);
      };
      least = omega (arith, reserved, block_len, len_is);
      free = omega (arith, reserved, unused, none, empty);
    }
