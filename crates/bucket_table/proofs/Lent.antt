-- Loans that come and go, over one call and over several.
use Rattle.std.proofs.Common.{◌≡◌, ◌≢◌, ℕ, ◌+◌, ◌-◌, ◌*◌, ◌≤◌, List, get_or, [], ◌∷◌, ◌++◌, Option, Some, None, IsSome, refl, ap, sym, ◌∙◌, subst, inl, inr, arith, add-zero}
use Rattle.std.specs.Prelude.{All}
use Rattle.std.proofs.lemmas.Bool.{cases_eq, eq-eqb, ne_eqb, false≢true}
use Rattle.std.proofs.lemmas.List.Elements.{All-append, All-cons, All-head, All-tail}
use Rattle.store_api.specs.Holdings.{Account, LiveLoan, Holdings, account_of, loan_of, or_else, no_account, no_loan, unused_of, put, length_of}
use Rattle.store_api.specs.Changes.{after_alloc, after_free}
use Rattle.store_api.specs.Alike.{Alike}
use Rattle.bucket_table.specs.Tables.{Lent}
use Rattle.bucket_table.specs.Lending.{AreApart, IsApart, IsOwn, Lends, bytes_of}

pub bytes-append : (a b : List Lent) → bytes_of (a ++ b) ≡ bytes_of a + bytes_of b
bytes-append [] b = omega arith
bytes-append (l ∷ a) b = let rest = bytes-append a b in omega (arith, rest)

no_loans : (P : Lent → Type 0) → All P []
no_loans P = λ k d within. absurd (omega (arith, within))

pub put_here : {X : Type 0} (k : ℕ) (x : Option X) (f : ℕ → Option X) → put k x f k ≡ x
put_here k x f = rw (eq-eqb k k refl) refl

pub put_past : {X : Type 0} (k q : ℕ) (x : Option X) (f : ℕ → Option X) → q ≢ k → put k x f q ≡ f q
put_past k q x f other = rw (ne_eqb q k other) refl

-- a loan that another state of the store has as well
pub moved_own : (t : ℕ) (y z : Holdings) (l : Lent) → IsOwn t y l → z.loans l.number ≡ y.loans l.number → z.block_len ≡ y.block_len → IsOwn t z l
moved_own t y z l own same len = record {
  lives = subst IsSome (sym same) own.lives;
  held = ap (λ (o : Option LiveLoan). (or_else no_loan o).client) same ∙ own.held;
  client = own.client;
  blocks = ap (λ (o : Option LiveLoan). (or_else no_loan o).blocks) same ∙ own.blocks;
  block_len = len ∙ own.block_len;
}

pub All-split : (P : Lent → Type 0) (a b : List Lent) → All P (a ++ b) → All P a × All P b
All-split P [] b all = (no_loans P, all)
All-split P (l ∷ a) b all =
    let rest = All-split P a b (All-tail P l (a ++ b) all) in
    (All-cons P l a (All-head P l (a ++ b) all) rest.0, rest.1)

pub apart_front : (a b : List Lent) (q : ℕ) → IsApart q (a ++ b) → IsApart q a
apart_front a b q apart = (All-split (λ m. m.number ≢ q) a b apart).0

pub apart_back : (a b : List Lent) (q : ℕ) → IsApart q (a ++ b) → IsApart q b
apart_back a b q apart = (All-split (λ m. m.number ≢ q) a b apart).1

-- ---- none, one more, one less

pub lends_none : (t : ℕ) (h : Holdings) → IsSome (h.clients t) → Lends t [] h h
lends_none t h lives = record {
  rest = refl;
  was = lives;
  is = lives;
  charged = ap (λ (n : ℕ). record (account_of t h) { unused = n }) (sym (add-zero (unused_of t h)));
  clients = λ q other. refl;
  others = λ q apart. refl;
  fresh = no_loans (λ l. h.loans l.number ≡ None);
  own = no_loans (IsOwn t h);
  apart = tt;
}

some_is : {X : Type 0} {o : Option X} {x : X} → o ≡ Some x → IsSome o
some_is {o = o} is = subst IsSome (sym is) refl

pub lends_one : (t blocks : ℕ) (l : Lent) (h new : Holdings) → IsSome (h.clients t) → h.loans l.number ≡ None → l.client ≡ t → l.blocks ≡ blocks → l.block_len ≡ h.block_len → length_of blocks h ≤ unused_of t h → new ≡ after_alloc l.number t blocks h → Lends t (l ∷ []) h new
lends_one t blocks l h new lives fresh client blocks_are len_is room is =
    let now : Holdings = after_alloc l.number t blocks h in
    let account : now.clients t ≡ Some (record (account_of t h) { unused = unused_of t h - length_of blocks h }) = put_here t (Some (record (account_of t h) { unused = unused_of t h - length_of blocks h })) h.clients in
    let loan : now.loans l.number ≡ Some (record { client = t; blocks = blocks }) = put_here l.number (Some (record { client = t; blocks = blocks })) h.loans in
    let size : l.blocks * l.block_len ≡ length_of blocks h = ap (λ (b : ℕ). b * l.block_len) blocks_are ∙ ap (λ (n : ℕ). blocks * n) len_is in
    let whole : unused_of t h ≡ unused_of t h - length_of blocks h + bytes_of (l ∷ []) = omega (arith, size, room) in
    subst (Lends t (l ∷ []) h) (sym is) (record {
      rest = refl;
      was = lives;
      is = some_is account;
      charged =
          ap (λ (n : ℕ). record (account_of t h) { unused = n }) whole
          ∙ ap (λ (a : Account). record a { unused = a.unused + bytes_of (l ∷ []) }) (sym (ap (or_else no_account) account));
      clients = λ q other. put_past t q (Some (record (account_of t h) { unused = unused_of t h - length_of blocks h })) h.clients other;
      others = λ q apart. put_past l.number q (Some (record { client = t; blocks = blocks })) h.loans (λ same. All-head (λ m. m.number ≢ q) l [] apart (sym same));
      fresh = All-cons (λ m. h.loans m.number ≡ None) l [] fresh (no_loans _);
      own = All-cons (IsOwn t now) l [] (record {
        lives = some_is loan;
        held = ap (λ (o : Option LiveLoan). (or_else no_loan o).client) loan;
        client = client;
        blocks = ap (λ (o : Option LiveLoan). (or_else no_loan o).blocks) loan ∙ sym blocks_are;
        block_len = sym len_is;
      }) (no_loans _);
      apart = (no_loans _, tt);
    })

pub returns_one : (t : ℕ) (l : Lent) (h new : Holdings) → IsSome (h.clients t) → IsOwn t h l → new ≡ after_free l.number h → Lends t (l ∷ []) new h
returns_one t l h new lives own is =
    let client = (loan_of l.number h).client in
    let size : length_of (loan_of l.number h).blocks h ≡ l.blocks * l.block_len = ap (λ (b : ℕ). b * h.block_len) own.blocks ∙ ap (λ (n : ℕ). l.blocks * n) own.block_len in
    let now : Holdings = record h { clients = put t (Some (record (account_of t h) { unused = unused_of t h + l.blocks * l.block_len })) h.clients; loans = put l.number None h.loans } in
    let now_is : new ≡ now = is
    ∙ ap (λ (q : ℕ). record h { clients = put q (Some (record (account_of q h) { unused = unused_of q h + length_of (loan_of l.number h).blocks h })) h.clients; loans = put l.number None h.loans }) own.held
    ∙ ap (λ (n : ℕ). record h { clients = put t (Some (record (account_of t h) { unused = unused_of t h + n })) h.clients; loans = put l.number None h.loans }) size
    in
    let account : now.clients t ≡ Some (record (account_of t h) { unused = unused_of t h + l.blocks * l.block_len }) = put_here t (Some (record (account_of t h) { unused = unused_of t h + l.blocks * l.block_len })) h.clients in
    subst (λ (less : Holdings). Lends t (l ∷ []) less h) (sym now_is) (record {
      rest = refl;
      was = some_is account;
      is = lives;
      charged = ap (or_else no_account) account ∙ ap (λ (n : ℕ). record (account_of t h) { unused = unused_of t h + n }) (sym (add-zero (l.blocks * l.block_len)));
      clients = λ q other. sym (put_past t q (Some (record (account_of t h) { unused = unused_of t h + l.blocks * l.block_len })) h.clients other);
      others = λ q apart. sym (put_past l.number q None h.loans (λ same. All-head (λ m. m.number ≢ q) l [] apart (sym same)));
      fresh = All-cons (λ m. now.loans m.number ≡ None) l [] (put_here l.number None h.loans) (no_loans _);
      own = All-cons (IsOwn t h) l [] own (no_loans _);
      apart = (no_loans _, tt);
    })

-- ---- one span after another

-- where a loan isn't live, none of the live ones has its number
pub dead_apart : (t : ℕ) (h : Holdings) (number : ℕ) (loans : List Lent) → h.loans number ≡ None → All (IsOwn t h) loans → IsApart number loans
dead_apart t h number loans none own = λ k d within same. (let lives : IsSome (h.loans number) = subst (λ (n : ℕ). IsSome (h.loans n)) same (own k d within).lives in false≢true (subst IsSome none lives))

pub apart-append : (a b : List Lent) → AreApart a → AreApart b → All (λ l. IsApart l.number a) b → AreApart (a ++ b)
apart-append [] b one two between = two
apart-append (l ∷ a) b one two between = (
  All-append (λ m. m.number ≢ l.number) a b one.0 (λ k d within same. All-head (λ m. m.number ≢ (get_or b k d).number) l a (between k d within) (sym same)),
  apart-append a b one.1 two (λ k d within. All-tail (λ m. m.number ≢ (get_or b k d).number) l a (between k d within)),
)

pub lends_trans : (t : ℕ) (a b : List Lent) (x y z : Holdings) → Lends t a x y → Lends t b y z → Lends t (a ++ b) x z
lends_trans t a b x y z one two =
    let stays : (l : Lent) → IsOwn t y l → IsApart l.number b → IsOwn t z l = λ l own apart. moved_own t y z l own (two.others l.number apart) (ap (λ (h : Holdings). h.block_len) two.rest) in
    let between : All (λ l. IsApart l.number a) b = λ k d within. dead_apart t y (get_or b k d).number a (two.fresh k d within) one.own in
    let behind : All (λ l. IsApart l.number b) a = λ k d within j e inside same. between j e inside k d within (sym same) in
    record {
      rest = two.rest ∙ ap (λ (h : Holdings). record h { clients = z.clients; loans = z.loans }) one.rest;
      was = one.was;
      is = two.is;
      charged =
          one.charged
          ∙ ap (λ (acc : Account). record acc { unused = acc.unused + bytes_of a }) two.charged
          ∙ ap (λ (n : ℕ). record (account_of t z) { unused = n }) (let sum = bytes-append a b in let e : unused_of t z + bytes_of b + bytes_of a ≡ unused_of t z + bytes_of (a ++ b) = omega (arith, sum) in e);
      clients = λ q other. two.clients q other ∙ one.clients q other;
      others = λ q apart. two.others q (apart_back a b q apart) ∙ one.others q (apart_front a b q apart);
      fresh = All-append (λ l. x.loans l.number ≡ None) a b one.fresh (λ k d within. sym (one.others (get_or b k d).number (between k d within)) ∙ two.fresh k d within);
      own = All-append (IsOwn t z) a b (λ k d within. stays (get_or a k d) (one.own k d within) (behind k d within)) two.own;
      apart = apart-append a b one.apart two.apart between;
    }

-- ---- lent, and given back

none_apart : (loans : List Lent) (old new : ℕ → Option LiveLoan) (q : ℕ) → All (λ l. old l.number ≡ None) loans → All (λ l. new l.number ≡ None) loans → (IsApart q loans → new q ≡ old q) → new q ≡ old q
none_apart [] old new q one two same = same (no_loans _)
none_apart (l ∷ loans) old new q one two same =
    elim (cases_eq l.number q) [
      | inl here ↦
          ap new (sym here) ∙ All-head (λ m. new m.number ≡ None) l loans two ∙ sym (All-head (λ m. old m.number ≡ None) l loans one) ∙ ap old here
      | inr other ↦
          none_apart loans old new q (All-tail (λ m. old m.number ≡ None) l loans one) (All-tail (λ m. new m.number ≡ None) l loans two)
          (λ apart. same (All-cons (λ m. m.number ≢ q) l loans other apart))
    ]

some_account : (o : Option Account) → IsSome o → o ≡ Some (or_else no_account o)
some_account None some = absurd (false≢true some)
some_account (Some a) some = refl

pub lends_same : (t : ℕ) (loans : List Lent) (old mid new : Holdings) → Lends t loans old mid → Lends t loans new mid → Alike old new
lends_same t loans old mid new one two = record {
  rest = record {
    block_len = sym (ap (λ (h : Holdings). h.block_len) two.rest) ∙ ap (λ (h : Holdings). h.block_len) one.rest;
    session = sym (ap (λ (h : Holdings). h.session) two.rest) ∙ ap (λ (h : Holdings). h.session) one.rest;
    query = sym (ap (λ (h : Holdings). h.query) two.rest) ∙ ap (λ (h : Holdings). h.query) one.rest;
    limit = sym (ap (λ (h : Holdings). h.limit) two.rest) ∙ ap (λ (h : Holdings). h.limit) one.rest;
    live_clients = sym (ap (λ (h : Holdings). h.live_clients) two.rest) ∙ ap (λ (h : Holdings). h.live_clients) one.rest;
    free_slots = sym (ap (λ (h : Holdings). h.free_slots) two.rest) ∙ ap (λ (h : Holdings). h.free_slots) one.rest;
    told = sym (ap (λ (h : Holdings). h.told) two.rest) ∙ ap (λ (h : Holdings). h.told) one.rest;
    pages = λ q. sym (ap (λ (h : Holdings). h.pages q) two.rest) ∙ ap (λ (h : Holdings). h.pages q) one.rest;
    loans = λ q. none_apart loans old.loans new.loans q one.fresh two.fresh (λ apart. sym (two.others q apart) ∙ one.others q apart);
  };
  reservation = sym (ap (λ (h : Holdings). h.reservation) two.rest) ∙ ap (λ (h : Holdings). h.reservation) one.rest;
  room = sym (ap (λ (h : Holdings). h.room) two.rest) ∙ ap (λ (h : Holdings). h.room) one.rest;
  above = sym (ap (λ (h : Holdings). h.above) two.rest) ∙ ap (λ (h : Holdings). h.above) one.rest;
  clients = λ q.
      elim (cases_eq q t) [
        | inl same ↦
            subst (λ (k : ℕ). new.clients k ≡ old.clients k) (sym same)
            (some_account (new.clients t) two.was ∙ ap Some (two.charged ∙ sym one.charged) ∙ sym (some_account (old.clients t) one.was))
        | inr other ↦ sym (two.clients q other) ∙ one.clients q other
      ];
}
