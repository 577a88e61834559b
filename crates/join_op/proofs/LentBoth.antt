-- Both streams were read while a table's loans were lent: what became of the store, over what it held before and has behind.
use Rattle.std.proofs.Common.{◌≡◌, ◌≢◌, ◌∙◌, inl, inr, ℕ, ◌+◌, ◌*◌, ◌≤◌, get_or, List, Option, Some, None, IsSome, is_some, if◌then◌else◌, refl, ap, sym, subst, arith}
use Rattle.std.specs.Prelude.{All, option_map}
use Rattle.std.proofs.lemmas.Bool.{cases_eq, false≢true}
use Rattle.store_api.specs.Emitters.{SameFor, SameOwn}
use Rattle.store_api.specs.Holdings.{Account, Holdings, LiveLoan, account_of, loan_of, no_account, no_loan, or_else, unused_of}
use Rattle.store_api.specs.Tokens.{ClientToken}
use Rattle.store_api.proofs.Puts.{there}
use Rattle.bucket_table.specs.Tables.{Lent, Table}
use Rattle.bucket_table.specs.Lending.{AreHeld, IsApart, IsOwn, Lends, bytes_of, loans_of}
use Rattle.bucket_table.proofs.Lent.{moved_own}
use Rattle.tuple_stream.specs.Streamed.{Streamed, len_in}
use Rattle.tuple_stream.specs.Streams.{HasRows, IsShaped}
use Rattle.tuple_stream.specs.Touches.{held, with_unused}
use Rattle.tuple_stream.proofs.Frames.{still_some}
use Rattle.partition_stack.specs.Emitting.{room_with}
use Rattle.partition_stack.proofs.Agreeing.{agreeing_rows, agreeing_shape}
use Rattle.partition_stack.proofs.Left.{same_then}
use Rattle.join_op.specs.Chunks.{AreReadable, ReadBoth}
use Rattle.join_op.specs.Holding.{IsSameTable, IsTableAt, LeavesRoom, loans_in}

some_apart : (h : Holdings) (q : ℕ) (loans : List Lent) → All (λ l. h.loans l.number ≡ None) loans → IsSome (h.loans q) → IsApart q loans
some_apart h q loans fresh lives k d inside same = false≢true (subst IsSome (fresh k d inside) (subst (λ (n : ℕ). IsSome (h.loans n)) (sym same) lives))

is_some_of : {X : Type 0} (o : Option X) (x : X) → o ≡ Some x → IsSome o
is_some_of o x is = subst IsSome (sym is) refl

module _ (t : ℕ) (loans : List Lent) (less more : Holdings) (lends : Lends t loans less more) where
  len_lent : more.block_len ≡ less.block_len
  len_lent = ap (λ (h : Holdings). h.block_len) lends.rest

  pages_lent : (q : ℕ) → more.pages q ≡ less.pages q
  pages_lent q = ap (λ (h : Holdings). h.pages q) lends.rest

  pub told_lent : more.told ≡ less.told
  told_lent = ap (λ (h : Holdings). h.told) lends.rest

  pub unused_lent : unused_of t less ≡ unused_of t more + bytes_of loans
  unused_lent = ap (λ (a : Account). a.unused) lends.charged

  reserved_lent : (account_of t less).reservation ≡ (account_of t more).reservation
  reserved_lent = ap (λ (a : Account). a.reservation) lends.charged

  other_apart : (u q : ℕ) (loan : LiveLoan) → u ≢ t → loan.client ≡ u → more.loans q ≡ Some loan → IsApart q loans
  other_apart u q loan apart own is k d inside same =
      let l : Lent = get_or loans k d in
      let mine : (loan_of l.number more).client ≡ t = (lends.own k d inside).held in
      let theirs : (loan_of q more).client ≡ u = ap (λ (o : Option LiveLoan). (or_else no_loan o).client) is ∙ own in
      apart (sym theirs ∙ ap (λ (n : ℕ). (loan_of n more).client) (sym same) ∙ mine)

  -- what is another client's is the same
  pub same_lent : (u : ℕ) → u ≢ t → SameFor u less more
  same_lent u apart =
      record {
        account = lends.clients u apart;
        pages = λ q page own. ((λ is. sym (pages_lent q) ∙ is), (λ is. pages_lent q ∙ is));
        loans = λ q loan own. (
          (λ is. sym (lends.others q (other_apart u q loan apart own is)) ∙ is),
          (λ is. lends.others q (some_apart less q loans lends.fresh (is_some_of (less.loans q) loan is)) ∙ is),
        );
      }

  pub same_given : (u : ℕ) → u ≢ t → SameFor u more less
  same_given u apart =
      let same = same_lent u apart in
      record {
        account = sym same.account;
        pages = λ q page own. let both = same.pages q page own in (both.1, both.0);
        loans = λ q loan own. let both = same.loans q loan own in (both.1, both.0);
      }

  pub own_lent : (client : Option ℕ) → client ≢ Some t → SameOwn client less more
  own_lent client free = record { block_len = len_lent; told = told_lent; own = λ u is. same_lent u (λ same. free (is ∙ ap Some same)) }

  pub own_given : (client : Option ℕ) → client ≢ Some t → SameOwn client more less
  own_given client free = record { block_len = sym len_lent; told = sym told_lent; own = λ u is. same_given u (λ same. free (is ∙ ap Some same)) }

  held_lent : (s : Streamed) → held s more ≡ held s less
  held_lent s = ap (λ (n : ℕ). if is_some s.pinned then s.page_blocks * n else 0) len_lent

  shape_lent : (s : Streamed) → IsShaped t s less → IsShaped t s more
  shape_lent s is = agreeing_shape t s less more is len_lent (λ k p at. pages_lent p.name)

  shape_given : (s : Streamed) → IsShaped t s more → IsShaped t s less
  shape_given s is = agreeing_shape t s more less is (sym len_lent) (λ k p at. sym (pages_lent p.name))

  rows_lent : (s : Streamed) (rows : List (List ℕ)) → IsShaped t s less → HasRows rows s less → HasRows rows s more
  rows_lent s rows is has = agreeing_rows t s less more is len_lent (λ k p at. pages_lent p.name) rows has

  rows_given : (s : Streamed) (rows : List (List ℕ)) → IsShaped t s more → HasRows rows s more → HasRows rows s less
  rows_given s rows is has = agreeing_rows t s more less is (sym len_lent) (λ k p at. sym (pages_lent p.name)) rows has

  pub rows_stay : (s : Streamed) (rows : List (List ℕ)) → IsShaped t s less → HasRows rows s less → HasRows rows s more
  rows_stay s rows is has = rows_lent s rows is has

  room_lent : (client : Option ℕ) → room_with t client less ≡ room_with t client more
  room_lent None = let room : more.room ≡ less.room = ap (λ (h : Holdings). h.room) lends.rest in let mine = reserved_lent in omega (arith, room, mine)
  room_lent (Some u) =
      let room : more.room ≡ less.room = ap (λ (h : Holdings). h.room) lends.rest in
      let mine = reserved_lent in
      let theirs : (account_of u less).reservation ≡ (account_of u more).reservation = elim (cases_eq u t) [
        | inl same ↦ subst (λ (k : ℕ). (account_of k less).reservation ≡ (account_of k more).reservation) (sym same) mine
        | inr apart ↦ ap (λ (o : Option Account). (or_else no_account o).reservation) (sym (lends.clients u apart))
      ] in
      omega (arith, room, mine, theirs)

  account_lent : less.clients t ≡ Some (with_unused (unused_of t less) (account_of t more))
  account_lent = there no_account (less.clients t) lends.was ∙ ap Some (lends.charged ∙ ap (λ (n : ℕ). record (account_of t more) { unused = n }) (sym unused_lent))

  account_given : more.clients t ≡ Some (account_of t more)
  account_given = there no_account (more.clients t) lends.is

module _ (t : ℕ) (client : Option ℕ) (l l1 r r1 : Streamed) (loans : List Lent) (less old new fewer : Holdings) (came : Lends t loans less old) (went : Lends t loans fewer new) (left_is : IsShaped t l less) (right_is : IsShaped t r less) (read : ReadBoth t client l l1 r r1 old new) where
  live_again : IsSome (old.clients t)
  live_again = came.is

  accounts : fewer.clients t ≡ option_map (with_unused (unused_of t fewer)) (less.clients t)
  accounts =
      let mid : new.clients t ≡ option_map (with_unused (unused_of t new)) (old.clients t) = read.account live_again in
      let behind : new.clients t ≡ Some (with_unused (unused_of t new) (account_of t old)) = mid ∙ ap (option_map (with_unused (unused_of t new))) (account_given t loans less old came) in
      let now : account_of t new ≡ with_unused (unused_of t new) (account_of t old) = ap (or_else no_account) behind in
      account_lent t loans fewer new went
      ∙ ap (λ (a : Account). Some (with_unused (unused_of t fewer) a)) now
      ∙ sym (ap (option_map (with_unused (unused_of t fewer))) (account_lent t loans less old came))

  pub both_lent : ReadBoth t client l l1 r r1 less fewer
  both_lent =
      record {
        left_shape = shape_given t loans fewer new went l1 read.left_shape;
        right_shape = shape_given t loans fewer new went r1 read.right_shape;
        left_same = read.left_same;
        right_same = read.right_same;
        left_rows = λ rows told has. rows_given t loans fewer new went l1 rows read.left_shape (read.left_rows rows (told_lent t loans less old came ∙ told) (rows_lent t loans less old came l rows left_is has));
        right_rows = λ rows told has. rows_given t loans fewer new went r1 rows read.right_shape (read.right_rows rows (told_lent t loans less old came ∙ told) (rows_lent t loans less old came r rows right_is has));
        unused =
            let even = read.unused in
            let one = unused_lent t loans less old came in
            let two = unused_lent t loans fewer new went in
            let a = held_lent t loans less old came l in
            let b = held_lent t loans less old came r in
            let c = held_lent t loans fewer new went l1 in
            let d = held_lent t loans fewer new went r1 in
            omega (arith, even, one, two, a, b, c, d);
        account = λ lives. accounts;
        pages = λ q page own far near.
            let both = read.pages q page own far near in
            ((λ is. sym (pages_lent t loans less old came q) ∙ both.0 (pages_lent t loans fewer new went q ∙ is)), (λ is. sym (pages_lent t loans fewer new went q) ∙ both.1 (pages_lent t loans less old came q ∙ is)));
        loans = λ q loan own.
            let both = read.loans q loan own in (
              (λ is.
                  let out : IsApart q loans = some_apart fewer q loans went.fresh (is_some_of (fewer.loans q) loan is) in
                  sym (came.others q out) ∙ both.0 (went.others q out ∙ is)),
              (λ is.
                  let out : IsApart q loans = some_apart less q loans came.fresh (is_some_of (less.loans q) loan is) in
                  sym (went.others q out) ∙ both.1 (came.others q out ∙ is)),
            );
        others = λ u apart free. same_then u less old fewer (same_lent t loans less old came u apart) (same_then u old new fewer (read.others u apart free) (same_given t loans fewer new went u apart));
        query = record {
          block_len = sym (len_lent t loans fewer new went) ∙ read.query.block_len ∙ len_lent t loans less old came;
          session = sym (ap (λ (h : Holdings). h.session) went.rest) ∙ read.query.session ∙ ap (λ (h : Holdings). h.session) came.rest;
          query = sym (ap (λ (h : Holdings). h.query) went.rest) ∙ read.query.query ∙ ap (λ (h : Holdings). h.query) came.rest;
          limit = sym (ap (λ (h : Holdings). h.limit) went.rest) ∙ read.query.limit ∙ ap (λ (h : Holdings). h.limit) came.rest;
          live_clients = sym (ap (λ (h : Holdings). h.live_clients) went.rest) ∙ read.query.live_clients ∙ ap (λ (h : Holdings). h.live_clients) came.rest;
          told = sym (told_lent t loans fewer new went) ∙ read.query.told ∙ told_lent t loans less old came;
          reservation =
              let grew = read.query.reservation in
              let one : old.reservation ≡ less.reservation = ap (λ (h : Holdings). h.reservation) came.rest in
              let two : new.reservation ≡ fewer.reservation = ap (λ (h : Holdings). h.reservation) went.rest in
              omega (arith, grew, one, two);
        };
        room = let more = read.room in let one = room_lent t loans less old came client in let two = room_lent t loans fewer new went client in omega (arith, more, one, two);
      }

-- two streams may be read while the loans are lent, where room for two pages is left
pub readable_lent : (c : ClientToken) (l r : Streamed) (loans : List Lent) (less more : Holdings) → Lends c.tracker loans less more → LeavesRoom c.tracker l.page_blocks less more → AreReadable c l r less → AreReadable c l r more
readable_lent c l r loans less more lends leaves is =
    let t : ℕ = c.tracker in
    let same : len_in l more ≡ len_in l less = ap (λ (n : ℕ). l.page_blocks * n) (len_lent t loans less more lends) in
    let a = held_lent t loans less more lends l in
    let b = held_lent t loans less more lends r in
    let room : 2 * len_in l less ≤ unused_of t less + (held l less + held r less) = let had = is.room in omega (arith, had) in
    let left : 2 * len_in l less ≤ unused_of t more + (held l less + held r less) = leaves (held l less + held r less) room in
    record {
      client = lends.is;
      left_shape = shape_lent t loans less more lends l is.left_shape;
      right_shape = shape_lent t loans less more lends r is.right_shape;
      apart = is.apart;
      alike = is.alike;
      room = omega (arith, left, a, b, same);
    }

-- ---- the table is one of its store still

some_loan : (o : Option LiveLoan) → IsSome o → o ≡ Some (or_else no_loan o)
some_loan None lives = absurd (false≢true lives)
some_loan (Some loan) lives = refl

module _ (t : ℕ) (client : Option ℕ) (l l1 r r1 : Streamed) (old new : Holdings) (read : ReadBoth t client l l1 r r1 old new) where
  lives_read : IsSome (old.clients t) → IsSome (new.clients t)
  lives_read lives = subst (λ (o : Option Account). IsSome o) (sym (read.account lives)) (still_some (old.clients t) (unused_of t new) lives)

  held_read : (loans : List Lent) → AreHeld t old loans → AreHeld t new loans
  held_read loans is =
      record {
        lives = lives_read is.lives;
        own = λ k d inside.
            let m : Lent = get_or loans k d in
            let own : IsOwn t old m = is.own k d inside in
            let was : old.loans m.number ≡ Some (loan_of m.number old) = some_loan (old.loans m.number) own.lives in
            moved_own t old new m own ((read.loans m.number (loan_of m.number old) own.held).1 was ∙ sym was) read.query.block_len;
        apart = is.apart;
      }

  pub table_read : (table now : Option Table) → IsSameTable table now → IsTableAt t table old → IsTableAt t now new
  table_read None now same is = subst (λ (o : Option Table). IsTableAt t o new) (sym same) (lives_read is)
  table_read (Some table) None same is = absurd same
  table_read (Some table) (Some now) same is =
      subst (λ (x : Table). IsTableAt t (Some x) new) (sym same) (
        record {
          held = subst (λ (u : ℕ). AreHeld u new (loans_of table)) (sym is.1) (held_read (loans_of table) (subst (λ (u : ℕ). AreHeld u old (loans_of table)) is.1 is.0.held));
          sized = is.0.sized;
          block_len = is.0.block_len ∙ sym read.query.block_len;
        },
        is.1,
      )

pub loans_same : (table now : Option Table) → IsSameTable table now → loans_in now ≡ loans_in table
loans_same None now same = ap loans_in same
loans_same (Some table) None same = absurd same
loans_same (Some table) (Some now) same = ap loans_of same
