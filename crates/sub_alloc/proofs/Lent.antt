-- The allocator's buffers among the loans of the store, when one is opened, closed or written.
use Rattle.std.proofs.Common.{◌≡◌, ◌≢◌, ℕ, ◌+◌, ◌-◌, ◌*◌, ◌<◌, ◌≤◌, cond, List, get_or, set, length, Option, None, Some, IsSome, refl, ap, sym, ◌∙◌, subst, inl, inr, arith}
use Rattle.std.specs.Prelude.{is_some}
use Rattle.std.specs.List.{count_by}
use Rattle.std.proofs.lemmas.Bool.{cases_eq, eq-eqb, ne_eqb, false≢true}
use Rattle.std.proofs.lemmas.List.{get_or-set_same, get_or-set_other}
use Rattle.std.proofs.lemmas.List.Sums.{sum_by-set}
use Rattle.index_list.specs.Listing.{Listing}
use Rattle.block_arena.specs.Memory.{IsBufferOf}
use Rattle.block_arena.proofs.Copies.{length-written}
use Rattle.store_api.specs.Changes.{after_alloc, after_free}
use Rattle.store_api.specs.Conditions.{IsNewLoan}
use Rattle.store_api.specs.Holdings.{Account, Holdings, LiveLoan, account_of, length_of, loan_len, loan_of, no_account, no_loan, or_else, put, unused_of}
use Rattle.store_api.specs.Tokens.{ClientToken, LoanToken}
use Rattle.sub_alloc.specs.Pieces.{Division, buffer, buffer_len, with_written}
use Rattle.sub_alloc.specs.Lending.{IsAllocOf, IsOwn}

pub put_at : {X : Type 0} (k : ℕ) (x : Option X) (f : ℕ → Option X) → put k x f k ≡ x
put_at k x f = rw (eq-eqb k k refl) refl

pub put_off : {X : Type 0} (k q : ℕ) (x : Option X) (f : ℕ → Option X) → q ≢ k → put k x f q ≡ f q
put_off k q x f other = rw (ne_eqb q k other) refl

pub some_is : {X : Type 0} {o : Option X} {x : X} → o ≡ Some x → IsSome o
some_is {o = o} is = subst IsSome (sym is) refl

same_some : {X : Type 0} {x y : X} → Some x ≡ Some y → x ≡ y
same_some same = cc

no_some : {X : Type 0} {P : Type 0} (o : Option X) (x : X) → o ≡ None → o ≡ Some x → P
no_some o x none some = cc

one : Option LoanToken → ℕ
one b = cond (is_some b) 1 0

-- how many are open, when one more is, or one less
pub count_more : (bufs : List (Option LoanToken)) (u : ℕ) (loan : LoanToken) → u < length bufs → get_or bufs u None ≡ None → count_by is_some (set bufs u (Some loan)) ≡ count_by is_some bufs + 1
count_more bufs u loan l none =
    let sum = sum_by-set (λ (b : Option LoanToken). cond (is_some b) 1 0) bufs u (Some loan) None l in
    let zero_is : ◌≡◌ {A = ℕ} (cond (is_some (get_or bufs u None)) 1 0) 0 = ap (λ (b : Option LoanToken). cond (is_some b) 1 0) none in
    omega (arith, sum, zero_is)

pub count_less : (bufs : List (Option LoanToken)) (u : ℕ) (loan : LoanToken) → u < length bufs → get_or bufs u None ≡ Some loan → count_by is_some (set bufs u None) + 1 ≡ count_by is_some bufs
count_less bufs u loan l some =
    let sum = sum_by-set (λ (b : Option LoanToken). cond (is_some b) 1 0) bufs u None None l in
    let one_is : ◌≡◌ {A = ℕ} (cond (is_some (get_or bufs u None)) 1 0) 1 = ap (λ (b : Option LoanToken). cond (is_some b) 1 0) some in
    omega (arith, sum, one_is)

pub count_same : (bufs : List (Option LoanToken)) (u : ℕ) (loan now : LoanToken) → u < length bufs → get_or bufs u None ≡ Some loan → count_by is_some (set bufs u (Some now)) ≡ count_by is_some bufs
count_same bufs u loan now l some =
    let sum = sum_by-set (λ (b : Option LoanToken). cond (is_some b) 1 0) bufs u (Some now) None l in
    let one_is : ◌≡◌ {A = ℕ} (cond (is_some (get_or bufs u None)) 1 0) 1 = ap (λ (b : Option LoanToken). cond (is_some b) 1 0) some in
    omega (arith, sum, one_is)

-- nothing of the buffers changed
pub of_same : (t : ℕ) (h : Holdings) (d : Division) (free : Listing) (live : List ℕ) → IsAllocOf t h d → IsAllocOf t h (record d { free = free; live = live })
of_same t h d free live is = record { lives = is.lives; block_len = is.block_len; own = is.own; apart = is.apart; pages = is.pages; only = is.only; charge = is.charge }

-- ---- a buffer is opened

module _ (t : ℕ) (h now : Holdings) (d : Division) (c : ClientToken) (loan : LoanToken) (u : ℕ) (free : Listing) (live : List ℕ) (is : IsAllocOf t h d) (client : c.tracker ≡ t) (l : u < length d.buffers) (shut : buffer u d ≡ None) (sized : d.page_blocks * d.block_len ≡ buffer_len d) (room : buffer_len d ≤ unused_of t h) (new : IsNewLoan c d.page_blocks loan h now) where
  after : Division
  after = record d { buffers = set d.buffers u (Some loan); free = free; live = live }

  len_is : length_of d.page_blocks h ≡ buffer_len d
  len_is = ap (λ (n : ℕ). d.page_blocks * n) (sym is.block_len) ∙ sized

  holdings_are : now ≡ after_alloc loan.number t d.page_blocks h
  holdings_are = new.holdings ∙ ap (λ (k : ℕ). after_alloc loan.number k d.page_blocks h) client

  then_held : Holdings
  then_held = after_alloc loan.number t d.page_blocks h

  account : (after_alloc loan.number t d.page_blocks h).clients t ≡ Some (record (account_of t h) { unused = unused_of t h - length_of d.page_blocks h })
  account = put_at t (Some (record (account_of t h) { unused = unused_of t h - length_of d.page_blocks h })) h.clients

  lent : (after_alloc loan.number t d.page_blocks h).loans loan.number ≡ Some (record { client = t; blocks = d.page_blocks })
  lent = put_at loan.number (Some (record { client = t; blocks = d.page_blocks })) h.loans

  lent_other : (q : ℕ) → q ≢ loan.number → (after_alloc loan.number t d.page_blocks h).loans q ≡ h.loans q
  lent_other q other = put_off loan.number q (Some (record { client = t; blocks = d.page_blocks })) h.loans other

  -- another loan of the allocator has another number
  numbers : (v : ℕ) (other : LoanToken) → buffer v d ≡ Some other → other.number ≢ loan.number
  numbers v other stands same = (
      let lives = (is.own v other stands).is.lives in
      false≢true (subst IsSome (ap h.loans same ∙ new.fresh) lives)
      )

  own_new : IsOwn t (after_alloc loan.number t d.page_blocks h) loan
  own_new = record {
    is = record {
      lives = some_is lent;
      client = ap (λ (o : Option LiveLoan). (or_else no_loan o).client) lent ∙ sym client ∙ sym new.client;
      buffer = subst (λ (o : Option LiveLoan). IsBufferOf (or_else no_loan o).blocks h.block_len loan.buf) (sym lent) new.buffer.fits;
    };
    client = new.client ∙ client;
  }

  own_old : (v : ℕ) (other : LoanToken) → buffer v d ≡ Some other → IsOwn t (after_alloc loan.number t d.page_blocks h) other
  own_old v other stands =
      let same = lent_other other.number (numbers v other stands) in
      let was = is.own v other stands in
      record {
        is = record {
          lives = subst IsSome (sym same) was.is.lives;
          client = ap (λ (o : Option LiveLoan). (or_else no_loan o).client) same ∙ was.is.client;
          buffer = subst (λ (o : Option LiveLoan). IsBufferOf (or_else no_loan o).blocks h.block_len other.buf) (sym same) was.is.buffer;
        };
        client = was.client;
      }

  at_new : get_or (set d.buffers u (Some loan)) u None ≡ Some loan
  at_new = get_or-set_same d.buffers u (Some loan) None l

  at_old : (v : ℕ) → v ≢ u → get_or (set d.buffers u (Some loan)) v None ≡ get_or d.buffers v None
  at_old v other = get_or-set_other d.buffers u v (Some loan) None other

  opened_own : (v : ℕ) (other : LoanToken) → get_or (set d.buffers u (Some loan)) v None ≡ Some other → IsOwn t (after_alloc loan.number t d.page_blocks h) other
  opened_own v other stands =
      elim (cases_eq v u) [
        | inl s ↦
            let same : loan ≡ other = same_some (sym at_new ∙ ap (λ (k : ℕ). get_or (set d.buffers u (Some loan)) k None) (sym s) ∙ stands) in
            subst (IsOwn t (after_alloc loan.number t d.page_blocks h)) same own_new
        | inr far ↦ own_old v other (sym (at_old v far) ∙ stands)
      ]

  opened_apart : (v x : ℕ) (a b : LoanToken) → get_or (set d.buffers u (Some loan)) v None ≡ Some a → get_or (set d.buffers u (Some loan)) x None ≡ Some b → a.number ≡ b.number → v ≡ x
  opened_apart v x a b at_a at_b same =
      elim (cases_eq v u) [
        | inl s ↦ elim (cases_eq x u) [
          | inl r ↦ s ∙ sym r
          | inr far ↦
              let new_is : loan ≡ a = same_some (sym at_new ∙ ap (λ (k : ℕ). get_or (set d.buffers u (Some loan)) k None) (sym s) ∙ at_a) in
              absurd (numbers x b (sym (at_old x far) ∙ at_b) (sym same ∙ ap (λ (k : LoanToken). k.number) (sym new_is)))
        ]
        | inr far ↦ elim (cases_eq x u) [
          | inl r ↦
              let new_is : loan ≡ b = same_some (sym at_new ∙ ap (λ (k : ℕ). get_or (set d.buffers u (Some loan)) k None) (sym r) ∙ at_b) in
              absurd (numbers v a (sym (at_old v far) ∙ at_a) (same ∙ ap (λ (k : LoanToken). k.number) (sym new_is)))
          | inr off ↦ is.apart v x a b (sym (at_old v far) ∙ at_a) (sym (at_old x off) ∙ at_b) same
        ]
      ]

  opened_only : (q : ℕ) (live_loan : LiveLoan) → (after_alloc loan.number t d.page_blocks h).loans q ≡ Some live_loan → live_loan.client ≡ t → (v : ℕ) × (a : LoanToken) × (get_or (set d.buffers u (Some loan)) v None ≡ Some a) × (a.number ≡ q)
  opened_only q live_loan stands whose =
      elim (cases_eq q loan.number) [
        | inl s ↦ (u, loan, at_new, sym s)
        | inr far ↦
            let w = is.only q live_loan (sym (lent_other q far) ∙ stands) whose in
            let other : w.0 ≢ u = λ s. no_some (buffer w.0 d) w.1 (ap (λ (k : ℕ). buffer k d) s ∙ shut) w.2 in
            (w.0, w.1, at_old w.0 other ∙ w.2, w.3)
      ]

  pub of_opened : IsAllocOf t now (record d { buffers = set d.buffers u (Some loan); free = free; live = live })
  of_opened =
      let count = count_more d.buffers u loan l shut in
      let reservation : (account_of t (after_alloc loan.number t d.page_blocks h)).reservation ≡ (account_of t h).reservation = ap (λ (o : Option Account). (or_else no_account o).reservation) account in
      let unused : unused_of t (after_alloc loan.number t d.page_blocks h) ≡ unused_of t h - length_of d.page_blocks h = ap (λ (o : Option Account). (or_else no_account o).unused) account in
      let many : count_by is_some (set d.buffers u (Some loan)) * buffer_len d ≡ (count_by is_some d.buffers + 1) * buffer_len d = ap (λ (k : ℕ). k * buffer_len d) count in
      let even = is.charge in
      subst (λ (x : Holdings). IsAllocOf t x (record d { buffers = set d.buffers u (Some loan); free = free; live = live })) (sym holdings_are) (record {
        lives = some_is account;
        block_len = is.block_len;
        own = opened_own;
        apart = opened_apart;
        pages = is.pages;
        only = opened_only;
        charge = omega (arith, reservation, unused, many, even, room, len_is);
      })

-- ---- a buffer is closed

module _ (t : ℕ) (h : Holdings) (d : Division) (loan : LoanToken) (u : ℕ) (free : Listing) (live : List ℕ) (is : IsAllocOf t h d) (l : u < length d.buffers) (stood : buffer u d ≡ Some loan) (fits : IsBufferOf d.page_blocks d.block_len loan.buf) (sized : d.page_blocks * d.block_len ≡ buffer_len d) where
  mine : IsOwn t h loan
  mine = is.own u loan stood

  whose_is : (loan_of loan.number h).client ≡ t
  whose_is = mine.is.client ∙ mine.client

  freed_len : loan_len loan.number h ≡ buffer_len d
  freed_len =
      ap (λ (k : ℕ). k * h.block_len) (sym mine.is.buffer.blocks ∙ fits.blocks)
      ∙ ap (λ (k : ℕ). d.page_blocks * k) (sym is.block_len) ∙ sized

  freed_holdings : after_free loan.number h ≡ record h { clients = put t (Some (record (account_of t h) { unused = unused_of t h + buffer_len d })) h.clients; loans = put loan.number None h.loans }
  freed_holdings =
      ap (λ (k : ℕ). record h { clients = put k (Some (record (account_of k h) { unused = unused_of k h + loan_len loan.number h })) h.clients; loans = put loan.number None h.loans }) whose_is
      ∙ ap (λ (n : ℕ). record h { clients = put t (Some (record (account_of t h) { unused = unused_of t h + n })) h.clients; loans = put loan.number None h.loans }) freed_len

  less : Holdings
  less = record h { clients = put t (Some (record (account_of t h) { unused = unused_of t h + buffer_len d })) h.clients; loans = put loan.number None h.loans }

  gone_off : (v : ℕ) → v ≢ u → get_or (set d.buffers u None) v None ≡ get_or d.buffers v None
  gone_off v other = get_or-set_other d.buffers u v None None other

  -- what stands in the list then stood there before, elsewhere
  stood_before : (v : ℕ) (a : LoanToken) → get_or (set d.buffers u None) v None ≡ Some a → (buffer v d ≡ Some a) × (v ≢ u)
  stood_before v a stands =
      elim (cases_eq v u) [
        | inl s ↦ no_some (get_or (set d.buffers u None) v None) a (ap (λ (k : ℕ). get_or (set d.buffers u None) k None) s ∙ get_or-set_same d.buffers u None None l) stands
        | inr far ↦ (sym (gone_off v far) ∙ stands, far)
      ]

  still : (v : ℕ) (a : LoanToken) → buffer v d ≡ Some a → v ≢ u → put loan.number None h.loans a.number ≡ h.loans a.number
  still v a stands far = put_off loan.number a.number None h.loans (λ s. far (is.apart v u a loan stands stood s))

  pub of_closed : IsAllocOf t (after_free loan.number h) (record d { buffers = set d.buffers u None; free = free; live = live })
  of_closed =
      let account : put t (Some (record (account_of t h) { unused = unused_of t h + buffer_len d })) h.clients t ≡ Some (record (account_of t h) { unused = unused_of t h + buffer_len d }) = put_at t (Some (record (account_of t h) { unused = unused_of t h + buffer_len d })) h.clients in
      let count = count_less d.buffers u loan l stood in
      let many : (count_by is_some (set d.buffers u None) + 1) * buffer_len d ≡ count_by is_some d.buffers * buffer_len d = ap (λ (k : ℕ). k * buffer_len d) count in
      let reservation = ap (λ (o : Option Account). (or_else no_account o).reservation) account in
      let unused = ap (λ (o : Option Account). (or_else no_account o).unused) account in
      let even = is.charge in
      subst (λ (x : Holdings). IsAllocOf t x (record d { buffers = set d.buffers u None; free = free; live = live })) (sym freed_holdings) (record {
        lives = some_is account;
        block_len = is.block_len;
        own = λ v a stands.
            let w = stood_before v a stands in
            let same = still v a w.0 w.1 in
            let was = is.own v a w.0 in
            record {
              is = record {
                lives = subst IsSome (sym same) was.is.lives;
                client = ap (λ (o : Option LiveLoan). (or_else no_loan o).client) same ∙ was.is.client;
                buffer = subst (λ (o : Option LiveLoan). IsBufferOf (or_else no_loan o).blocks h.block_len a.buf) (sym same) was.is.buffer;
              };
              client = was.client;
            };
        apart = λ v x a b at_a at_b same. is.apart v x a b (stood_before v a at_a).0 (stood_before x b at_b).0 same;
        pages = is.pages;
        only = λ q live_loan stands whose.
            elim (cases_eq q loan.number) [
              | inl s ↦ no_some (put loan.number None h.loans q) live_loan (ap (put loan.number None h.loans) s ∙ put_at loan.number None h.loans) stands
              | inr far ↦
                  let w = is.only q live_loan (sym (put_off loan.number q None h.loans far) ∙ stands) whose in
                  let other : w.0 ≢ u = λ s.
                  let e : loan ≡ w.1 = same_some (sym stood ∙ ap (λ (k : ℕ). buffer k d) (sym s) ∙ w.2) in
                  far (sym w.3 ∙ ap (λ (k : LoanToken). k.number) (sym e))
                  in
                  (w.0, w.1, gone_off w.0 other ∙ w.2, w.3)
            ];
        charge = omega (arith, reservation, unused, many, even);
      })

-- ---- a buffer is written

module _ (t : ℕ) (h : Holdings) (d : Division) (loan : LoanToken) (u at : ℕ) (bytes : List ℕ) (is : IsAllocOf t h d) (l : u < length d.buffers) (stood : buffer u d ≡ Some loan) (inside : at + length bytes ≤ length loan.buf.bytes) where
  wrote : LoanToken
  wrote = with_written at bytes loan

  at_wrote : get_or (set d.buffers u (Some (with_written at bytes loan))) u None ≡ Some (with_written at bytes loan)
  at_wrote = get_or-set_same d.buffers u (Some (with_written at bytes loan)) None l

  -- what stands there now, but for its bytes, stood there before
  before : (v : ℕ) (a : LoanToken) → get_or (set d.buffers u (Some (with_written at bytes loan))) v None ≡ Some a → (b : LoanToken) × (buffer v d ≡ Some b) × (b.number ≡ a.number) × (IsOwn t h b → IsOwn t h a)
  before v a stands =
      elim (cases_eq v u) [
        | inl s ↦
            let e : with_written at bytes loan ≡ a = same_some (sym at_wrote ∙ ap (λ (k : ℕ). get_or (set d.buffers u (Some (with_written at bytes loan))) k None) (sym s) ∙ stands) in (
              loan,
              ap (λ (k : ℕ). buffer k d) s ∙ stood,
              ap (λ (k : LoanToken). k.number) e,
              λ own. subst (IsOwn t h) e (record {
                is = record {
                  lives = own.is.lives;
                  client = own.is.client;
                  buffer = record { blocks = own.is.buffer.blocks; block_len = own.is.buffer.block_len; whole = length-written at bytes loan.buf.bytes inside ∙ own.is.buffer.whole };
                };
                client = own.client;
              }),
            )
        | inr far ↦ (a, sym (get_or-set_other d.buffers u v (Some (with_written at bytes loan)) None far) ∙ stands, refl, λ own. own)
      ]

  pub of_written : IsAllocOf t h (record d { buffers = set d.buffers u (Some (with_written at bytes loan)) })
  of_written =
      let count = count_same d.buffers u loan (with_written at bytes loan) l stood in
      let even = is.charge in
      record {
        lives = is.lives;
        block_len = is.block_len;
        own = λ v a stands. let w = before v a stands in w.3 (is.own v w.0 w.1);
        apart = λ v x a b at_a at_b same.
            let w = before v a at_a in
            let y = before x b at_b in
            is.apart v x w.0 y.0 w.1 y.1 (w.2 ∙ same ∙ sym y.2);
        pages = is.pages;
        only = λ q live_loan stands whose.
            let w = is.only q live_loan stands whose in
            elim (cases_eq w.0 u) [
              | inl s ↦
                  let e : loan ≡ w.1 = same_some (sym stood ∙ ap (λ (k : ℕ). buffer k d) (sym s) ∙ w.2) in
                  (u, with_written at bytes loan, at_wrote, ap (λ (k : LoanToken). k.number) e ∙ w.3)
              | inr far ↦ (w.0, w.1, get_or-set_other d.buffers u w.0 (Some (with_written at bytes loan)) None far ∙ w.2, w.3)
            ];
        charge = ap (λ (k : ℕ). unused_of t h + k * buffer_len d) count ∙ even;
      }
