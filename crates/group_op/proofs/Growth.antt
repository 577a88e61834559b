-- A table grows by a page that its client reserves.
use Rattle.std.proofs.Common.{◌≡◌, ◌≢◌, ◌∙◌, ℕ, ◌+◌, ◌*◌, ◌-◌, ◌≤◌, true, false, if◌then◌else◌, List, [], ◌∷◌, ◌++◌, Option, Some, None, IsSome, is_some, Result, Ok, Err, OnOk, OnErr, refl, ap, sym, subst, arith, eq-eqb, ne_eqb}
use Rattle.std.specs.Prelude.{All}
use Rattle.std.specs.List.{sum_by}
use Rattle.std.proofs.lemmas.Bool.{false≢true}
use Rattle.std.proofs.lemmas.List.Elements.{All-cons, All-head, All-nil, All-tail}
use Rattle.std.proofs.lemmas.Option.{none-some, same_Some}
use Rattle.reservation_tree.specs.declared.errors.PoolErr.{PoolErr}
use Rattle.pool_model.specs.declared.event.Event.TheVariants.{Increase}
use Rattle.store_api.specs.Changes.{after_reserve, raised}
use Rattle.store_api.specs.Entries.{MadeThese}
use Rattle.store_api.specs.Refusals.{IsUntouched}
use Rattle.std.specs.Result.{is_err}
use Rattle.store_api.specs.Emitters.{OthersStay}
use Rattle.store_api.specs.Holdings.{Account, Holdings, LiveLoan, LivePage, account_of, length_of, loan_of, no_account, no_loan, or_else, unused_of}
use Rattle.store_api.specs.Signs.{Grows, Signs}
use Rattle.store_api.specs.declared.shapes.Shape.{Shape}
use Rattle.tuple_stream.specs.Streamed.{Streamed}
use Rattle.tuple_stream.specs.Trails.{EnteredEvents}
use Rattle.tuple_stream.proofs.Sinces.{since_now, since_so, since_these}
use Rattle.tuple_stream.specs.Families.{AreShaped, held_in}
use Rattle.bucket_table.specs.Entering.{EnteredLoans, IsOfLoans}
use Rattle.bucket_table.specs.Tables.{Lent, Table}
use Rattle.bucket_table.specs.Lending.{IsApart, IsOwn, IsTableOf, Lends, bytes_of, loans_of}
use Rattle.bucket_table.proofs.Beside.{beside_pages}
use Rattle.partition_stack.specs.Changes.{Owns}
use Rattle.partition_stack.specs.Stack.{Stack, over}
use Rattle.partition_stack.specs.Slots.{SameSlots}
use Rattle.partition_stack.proofs.Agreeing.{agreeing_shape}
use Rattle.partition_stack.proofs.Slots.{slots_stay}
use Rattle.group_op.specs.Held.{AreEntries, IsHeld, State, lent, rows_of, state, streams_of}
use Rattle.group_op.specs.Putting.{HasGrown, Works}
use Rattle.group_op.proofs.Deals.{AreApart, deals_as, deals_beside, deals_then, increase_apart, loans_apart, none_apart}
use Rattle.group_op.proofs.Entering.{works_none}
use Rattle.group_op.proofs.Chained.{works_then}
use Rattle.group_op.proofs.Paging.{few_same, few_then, made_apart}

-- what a client reserves or lends changes nothing but that
pub record Turns (t : ℕ) (old new : Holdings) : Type 0 where
  pub block_len : new.block_len ≡ old.block_len
  pub session : new.session ≡ old.session
  pub query : new.query ≡ old.query
  pub limit : new.limit ≡ old.limit
  pub live_clients : new.live_clients ≡ old.live_clients
  pub free_slots : new.free_slots ≡ old.free_slots
  pub told : new.told ≡ old.told
  pub pages : new.pages ≡ old.pages
  pub reservation : old.reservation ≤ new.reservation
  pub lives : IsSome (new.clients t)
  pub clients : (q : ℕ) → q ≢ t → new.clients q ≡ old.clients q
  pub came : (q : ℕ) (loan : LiveLoan) → loan.client ≢ t → new.loans q ≡ Some loan → old.loans q ≡ Some loan
  pub went : (q : ℕ) (loan : LiveLoan) → loan.client ≢ t → old.loans q ≡ Some loan → new.loans q ≡ Some loan

module _ (t : ℕ) (old new : Holdings) (turns : Turns t old new) where
  pub others_turned : OthersStay (Some t) old new
  others_turned =
      record {
        block_len = turns.block_len;
        session = turns.session;
        query = turns.query;
        limit = turns.limit;
        live_clients = turns.live_clients;
        told = turns.told;
        reservation = turns.reservation;
        others = λ u other.
            let apart : u ≢ t = λ same. other (ap Some (sym same)) in
            record {
              account = turns.clients u apart;
              pages = λ q page client. (
                (λ lives. sym (ap (λ (f : ℕ → Option LivePage). f q) turns.pages) ∙ lives),
                (λ lives. ap (λ (f : ℕ → Option LivePage). f q) turns.pages ∙ lives),
              );
              loans = λ q loan client.
                  let of_other : loan.client ≢ t = λ is. apart (sym client ∙ is) in (turns.came q loan of_other, turns.went q loan of_other);
            };
        alone = λ none. absurd (none-some t (sym none));
      }

  module _ (p : Stack) (before after : Signs) where
    pub slots_turned : SameSlots p.page_blocks (over p old before) (over p new after)
    slots_turned = slots_stay p.page_blocks p.streams old new before after turns.free_slots (λ i s at k q there. ap (λ (f : ℕ → Option LivePage). f q.name) turns.pages)

    pub owns_turned : (had has : ℕ) → Owns t had (over p old before) → unused_of t new + has + (account_of t old).reservation ≡ unused_of t old + had + (account_of t new).reservation → Owns t has (over p new after)
    owns_turned had has owns moved =
        record {
          lives = turns.lives;
          shaped = record {
            each = λ i s there. agreeing_shape t s old new (owns.shaped.each i s there) turns.block_len (λ k q at. ap (λ (f : ℕ → Option LivePage). f q.name) turns.pages);
            apart = owns.shaped.apart;
          };
          only = λ q page lives outside. owns.only q page (sym (ap (λ (f : ℕ → Option LivePage). f q) turns.pages) ∙ lives) outside;
          even =
              let same : held_in (over p new after) ≡ held_in (over p old before) = ap (λ (n : ℕ). sum_by (λ (s : Streamed). if is_some s.pinned then s.page_blocks * n else 0) p.streams) turns.block_len in
              let even = owns.even in
              omega (arith, same, even, moved);
        }

-- ---- reserved

module _ (t len : ℕ) (old new : Holdings) (lives : IsSome (old.clients t)) (is : new ≡ after_reserve t len old) where
  pub own_now : new.clients t ≡ Some (raised len (account_of t old))
  own_now = ap (λ (h : Holdings). h.clients t) is ∙ rw (eq-eqb t t refl) refl

  account_now : account_of t new ≡ raised len (account_of t old)
  account_now = ap (or_else no_account) own_now

  turns_reserved : Turns t old new
  turns_reserved =
      record {
        block_len = ap (λ (h : Holdings). h.block_len) is;
        session = ap (λ (h : Holdings). h.session) is;
        query = ap (λ (h : Holdings). h.query) is;
        limit = ap (λ (h : Holdings). h.limit) is;
        live_clients = ap (λ (h : Holdings). h.live_clients) is;
        free_slots = ap (λ (h : Holdings). h.free_slots) is;
        told = ap (λ (h : Holdings). h.told) is;
        pages = ap (λ (h : Holdings). h.pages) is;
        reservation = let now = ap (λ (h : Holdings). h.reservation) is in omega (arith, now);
        lives = subst IsSome (sym own_now) refl;
        clients = λ q other. ap (λ (h : Holdings). h.clients q) is ∙ rw (ne_eqb q t other) refl;
        came = λ q loan other there. sym (ap (λ (h : Holdings). h.loans q) is) ∙ there;
        went = λ q loan other there. ap (λ (h : Holdings). h.loans q) is ∙ there;
      }

  pub reserved_more : (account_of t new).reservation ≡ (account_of t old).reservation + len
  reserved_more = ap (λ (a : Account). a.reservation) account_now

  pub unused_more : unused_of t new ≡ unused_of t old + len
  unused_more = ap (λ (a : Account). a.unused) account_now

-- ---- the state in between

pub page_lens : (p : Stack) (old new : Holdings) → new.block_len ≡ old.block_len → length_of p.page_blocks new ≡ length_of p.page_blocks old
page_lens p old new same = ap (λ (n : ℕ). p.page_blocks * n) same

works_turned : (t : ℕ) (shape : Shape) (table now : Table) (p : Stack) (old new : Holdings) (before after : Signs) → Turns t old new → Grows before after → EnteredEvents AreApart before.trail after.trail
    → (account_of t old).reservation ≤ (account_of t new).reservation → old.room + (account_of t old).reservation ≤ new.room + (account_of t new).reservation
    → IsHeld t (state now p new after) → AreEntries shape (length_of p.page_blocks old) now → Works t shape (state table p old before) (state now p new after)
works_turned t shape table now p old new before after turns grows entered reserved room held entries =
    record {
      held = held;
      entries = subst (λ (n : ℕ). AreEntries shape n now) (sym (page_lens p old new turns.block_len)) entries;
      leaves = record { others = others_turned t old new turns; grows = grows; reserved = reserved; room = room };
      blocks = refl;
      levels = refl;
      many = refl;
      slots = slots_turned t old new turns p before after;
      made = made_apart (over p old before) (over p new after) refl entered;
      few = few_same (state table p old before) (state now p new after) refl;
    }

module _ (t more : ℕ) (table : Table) (p : Stack) (old new : Holdings) (before after : Signs) (held : IsHeld t (state table p old before)) (is : new ≡ after_reserve t more old) where
  turned : Turns t old new
  turned = turns_reserved t more old new held.owns.lives is

  pub held_reserved : IsHeld t (state table p new after)
  held_reserved =
      let gets = reserved_more t more old new held.owns.lives is in
      let unused = unused_more t more old new held.owns.lives is in
      let loans : new.loans ≡ old.loans = ap (λ (h : Holdings). h.loans) is in
      record {
        owns = owns_turned t old new turned p before after (lent (state table p old before)) (lent (state table p old before)) held.owns (omega (arith, gets, unused));
        table = beside_pages table old new turned.block_len loans (subst (λ (k : ℕ). IsSome (new.clients k)) (sym held.client) turned.lives) held.table;
        client = held.client;
        blocks = held.blocks;
        loans = λ q loan lives apart. held.loans q loan (sym (ap (λ (f : ℕ → Option LiveLoan). f q) loans) ∙ lives) apart;
        room = let room = held.room in let same = page_lens p old new turned.block_len in omega (arith, room, gets, ap (λ (n : ℕ). 17 * n) same);
      }

  -- so much more than the grouping needs
  pub spare_reserved : 17 * length_of p.page_blocks new + lent (state table p new after) + more ≤ (account_of t new).reservation
  spare_reserved =
      let gets = reserved_more t more old new held.owns.lives is in
      let room = held.room in
      let same = page_lens p old new turned.block_len in
      omega (arith, room, gets, ap (λ (n : ℕ). 17 * n) same)

  pub works_reserved : (shape : Shape) → Grows before after → EnteredEvents AreApart before.trail after.trail → AreEntries shape (length_of p.page_blocks old) table → Works t shape (state table p old before) (state table p new after)
  works_reserved shape grows entered entries =
      let gets = reserved_more t more old new held.owns.lives is in
      let room : new.room ≡ old.room - more = ap (λ (h : Holdings). h.room) is in
      works_turned t shape table table p old new before after turned grows entered (omega (arith, gets)) (omega (arith, gets, room)) held_reserved entries

-- ---- lent

pub loan_client : (o : Option LiveLoan) (loan : LiveLoan) → o ≡ Some loan → (or_else no_loan o).client ≡ loan.client
loan_client None loan is = absurd (none-some loan is)
loan_client (Some found) loan is = ap (λ (l : LiveLoan). l.client) (same_Some found loan is)

pub apart_of : (P : Lent → Type 0) (q : ℕ) (loans : List Lent) → ((l : Lent) → P l → l.number ≢ q) → All P loans → IsApart q loans
apart_of P q [] other all = All-nil (λ l. l.number ≢ q)
apart_of P q (l ∷ loans) other all = All-cons (λ l. l.number ≢ q) l loans (other l (All-head P l loans all)) (apart_of P q loans other (All-tail P l loans all))

module _ (t : ℕ) (loans : List Lent) (old new : Holdings) (lends : Lends t loans old new) where
  pub turns_lent : Turns t old new
  turns_lent =
      record {
        block_len = ap (λ (h : Holdings). h.block_len) lends.rest;
        session = ap (λ (h : Holdings). h.session) lends.rest;
        query = ap (λ (h : Holdings). h.query) lends.rest;
        limit = ap (λ (h : Holdings). h.limit) lends.rest;
        live_clients = ap (λ (h : Holdings). h.live_clients) lends.rest;
        free_slots = ap (λ (h : Holdings). h.free_slots) lends.rest;
        told = ap (λ (h : Holdings). h.told) lends.rest;
        pages = ap (λ (h : Holdings). h.pages) lends.rest;
        reservation = let now = ap (λ (h : Holdings). h.reservation) lends.rest in omega (arith, now);
        lives = lends.is;
        clients = lends.clients;
        came = λ q other apart there.
            sym (lends.others q (apart_of (IsOwn t new) q loans (λ l own same.
            apart (sym (loan_client (new.loans q) other there) ∙ sym (ap (λ (n : ℕ). (loan_of n new).client) same) ∙ own.held)) lends.own)) ∙ there;
        went = λ q other apart there.
            lends.others q (apart_of (λ l. old.loans l.number ≡ None) q loans (λ l fresh same.
            none-some other (sym fresh ∙ ap (λ (n : ℕ). old.loans n) same ∙ there)) lends.fresh) ∙ there;
      }

  pub lent_reservation : (account_of t new).reservation ≡ (account_of t old).reservation
  lent_reservation = sym (ap (λ (a : Account). a.reservation) lends.charged)

  pub lent_unused : unused_of t old ≡ unused_of t new + bytes_of loans
  lent_unused = ap (λ (a : Account). a.unused) lends.charged

  pub lent_room : new.room ≡ old.room
  lent_room = ap (λ (h : Holdings). h.room) lends.rest

pub apart_front : (q : ℕ) (xs ys : List Lent) → IsApart q (xs ++ ys) → IsApart q xs
apart_front q [] ys apart = All-nil (λ l. l.number ≢ q)
apart_front q (x ∷ xs) ys apart = All-cons (λ l. l.number ≢ q) x xs (All-head (λ l. l.number ≢ q) x (xs ++ ys) apart) (apart_front q xs ys (All-tail (λ l. l.number ≢ q) x (xs ++ ys) apart))

pub apart_behind : (q : ℕ) (xs ys : List Lent) → IsApart q (xs ++ ys) → IsApart q ys
apart_behind q [] ys apart = apart
apart_behind q (x ∷ xs) ys apart = apart_behind q xs ys (All-tail (λ l. l.number ≢ q) x (xs ++ ys) apart)

-- a table has these loans more, of so many bytes
pub record Gets (table now : Table) (loans : List Lent) (more : ℕ) : Type 0 where
  pub client : now.client ≡ table.client
  pub blocks : now.page_blocks ≡ table.page_blocks
  pub lent_is : bytes_of (loans_of now) ≡ bytes_of (loans_of table) + more
  pub bytes : bytes_of loans ≡ more
  pub apart : (q : ℕ) → IsApart q (loans_of now) → IsApart q loans × IsApart q (loans_of table)

-- a table got so many bytes, and has the rows that it had
pub record Got (t more : ℕ) (shape : Shape) (len : ℕ) (table now : Table) (old new : Holdings) : Type 0 where
  pub loans : List Lent
  pub lends : Lends t loans old new
  pub gets : Gets table now loans more
  pub rows : rows_of now ≡ rows_of table
  pub entries : AreEntries shape len table → AreEntries shape len now

module _ (t more : ℕ) (shape : Shape) (table now : Table) (p : Stack) (old new : Holdings) (before after : Signs) (held : IsHeld t (state table p old before)) (got : Got t more shape (length_of p.page_blocks old) table now old new) (is : IsTableOf now new) (spare : 17 * length_of p.page_blocks old + lent (state table p old before) + more ≤ (account_of t old).reservation) where
  turned_lent : Turns t old new
  turned_lent = turns_lent t got.loans old new got.lends

  held_grown : IsHeld t (state now p new after)
  held_grown =
      let gets = got.gets.lent_is in
      let own = lent_reservation t got.loans old new got.lends in
      let unused = lent_unused t got.loans old new got.lends in
      let bytes = got.gets.bytes in
      record {
        owns = owns_turned t old new turned_lent p before after (lent (state table p old before)) (lent (state now p new after)) held.owns (omega (arith, gets, own, unused, bytes));
        table = is;
        client = got.gets.client ∙ held.client;
        blocks = got.gets.blocks ∙ held.blocks;
        loans = λ q loan lives apart.
            let both = got.gets.apart q apart in
            held.loans q loan (sym (got.lends.others q both.0) ∙ lives) both.1;
        room =
            let same = page_lens p old new turned_lent.block_len in
            omega (arith, spare, gets, own, ap (λ (n : ℕ). 17 * n) same);
      }

  pub works_grown : Grows before after → EnteredEvents AreApart before.trail after.trail → AreEntries shape (length_of p.page_blocks old) table → Works t shape (state table p old before) (state now p new after)
  works_grown grows entered entries =
      let own = lent_reservation t got.loans old new got.lends in
      let room = lent_room t got.loans old new got.lends in
      works_turned t shape table now p old new before after turned_lent grows entered (omega (arith, own)) (omega (arith, own, room)) held_grown (got.entries entries)

-- ---- the whole of it

grown : (t : ℕ) (shape : Shape) (table now : Table) (p : Stack) (old new : Holdings) (before after : Signs) → AreShaped t (over p old before) → Turns t old new → rows_of now ≡ rows_of table
    → EnteredEvents AreApart before.trail after.trail → Works t shape (state table p old before) (state now p new after) → HasGrown t shape (state table p old before) (state now p new after)
grown t shape table now p old new before after shaped turns rows entered works =
    record {
      rows = rows;
      works = works;
      deals = deals_beside t p.streams old new before after shaped turns.block_len turns.told turns.pages entered;
    }

-- nothing was called
pub grown_none : (t : ℕ) (shape : Shape) (table : Table) (p : Stack) (h : Holdings) (signs : Signs) → IsHeld t (state table p h signs) → AreEntries shape (length_of p.page_blocks h) table → HasGrown t shape (state table p h signs) (state table p h signs)
grown_none t shape table p h signs held entries =
    record {
      rows = refl;
      works = works_none t shape table p h signs held entries;
      deals = deals_beside t p.streams h h signs signs held.owns.shaped refl refl refl (since_now AreApart signs.trail (none_apart [] refl));
    }

-- what is held and shown by the same holdings, whatever was counted
pub grown_refused : (t : ℕ) (shape : Shape) (table : Table) (p : Stack) (old new : Holdings) (before after : Signs) → IsHeld t (state table p old before) → AreEntries shape (length_of p.page_blocks old) table
    → new ≡ old → Grows before after → EnteredEvents AreApart before.trail after.trail → HasGrown t shape (state table p old before) (state table p new after)
grown_refused t shape table p old new before after held entries same grows entered =
    subst (λ (h : Holdings). HasGrown t shape (state table p old before) (state table p h after)) (sym same)
    (record {
      rows = refl;
      works = record {
        held = record { owns = record { lives = held.owns.lives; shaped = record { each = held.owns.shaped.each; apart = held.owns.shaped.apart }; only = held.owns.only; even = held.owns.even }; table = held.table; client = held.client; blocks = held.blocks; loans = held.loans; room = held.room };
        entries = entries;
        leaves = record { others = (works_none t shape table p old before held entries).leaves.others; grows = grows; reserved = omega arith; room = omega arith };
        blocks = refl;
        levels = refl;
        many = refl;
        slots = record { sum = refl; sized = λ all. all };
        made = made_apart (over p old before) (over p old after) refl entered;
        few = few_same (state table p old before) (state table p old after) refl;
      };
      deals = deals_beside t p.streams old old before after held.owns.shaped refl refl refl entered;
    })

on_err : {P : Type 0} (result : Result Unit PoolErr) → is_err result ≡ true → OnErr result P → P
on_err (Ok done) is p = absurd (false≢true is)
on_err (Err e) is p = p

pub on_ok : {P : Type 0} (result : Result Unit PoolErr) → is_err result ≡ false → OnOk result P → P
on_ok (Ok done) is p = p
on_ok (Err e) is p = absurd (false≢true (sym is))

-- nothing was reserved
pub grown_untouched : (t : ℕ) (shape : Shape) (table : Table) (p : Stack) (old new : Holdings) (before after : Signs) → IsHeld t (state table p old before) → AreEntries shape (length_of p.page_blocks old) table
    → Grows before after → (result : Result Unit PoolErr) → is_err result ≡ true → OnErr result (IsUntouched old new before after) → HasGrown t shape (state table p old before) (state table p new after)
grown_untouched t shape table p old new before after held entries grows result bad err =
    let same = on_err result bad err in
    grown_refused t shape table p old new before after held entries same.held grows
    (since_so (λ events. events ≡ []) AreApart before.trail after.trail none_apart (since_these old.session [] before after same.entries))

-- one after the other
pub grown_then_works : (t : ℕ) (shape : Shape) (a b c : State) → HasGrown t shape a b → Works t shape b c → Works t shape a c
grown_then_works t shape a b c grown works = works_then t shape a b c (few_then a b c grown.deals grown.works.many grown.rows works.few) grown.works works

pub grown_then : (t : ℕ) (shape : Shape) (a b c : State) → HasGrown t shape a b → HasGrown t shape b c → HasGrown t shape a c
grown_then t shape a b c first second =
    record {
      rows = second.rows ∙ first.rows;
      works = grown_then_works t shape a b c first second.works;
      deals = deals_as (λ i. [] ++ []) (λ i. []) (streams_of a) (streams_of c) (λ i. refl) (deals_then (λ i. []) (λ i. []) (streams_of a) (streams_of b) (streams_of c) first.deals second.deals);
    }

module _ (t : ℕ) (shape : Shape) (table : Table) (p : Stack) (old mid : Holdings) (before between : Signs) (held : IsHeld t (state table p old before)) (entries : AreEntries shape (length_of p.page_blocks old) table)
    (maker more : ℕ) (is : mid ≡ after_reserve t more old) (grows : Grows before between) (made : MadeThese maker (Increase t more ∷ []) before between) where
  first : HasGrown t shape (state table p old before) (state table p mid between)
  first =
      let entered = since_so (λ events. events ≡ Increase t more ∷ []) AreApart before.trail between.trail (increase_apart t more) (since_these maker (Increase t more ∷ []) before between made) in
      grown t shape table table p old mid before between held.owns.shaped (turned t more table p old mid before between held is) refl entered
      (works_reserved t more table p old mid before between held is shape grows entered entries)

  module _ (now : Table) (new : Holdings) (after : Signs) (result : Result Unit PoolErr) (later : Grows between after) (entered : EnteredLoans between.trail after.trail) where
    apart : EnteredEvents AreApart between.trail after.trail
    apart = since_so (All IsOfLoans) AreApart between.trail after.trail loans_apart entered

    pub grown_whole : IsTableOf now new → OnOk result (Got t more shape (length_of p.page_blocks mid) table now mid new) → OnErr result (now ≡ table) → OnErr result (new ≡ mid) → HasGrown t shape (state table p old before) (state now p new after)
    grown_whole here ok err same = grown_then t shape (state table p old before) (state table p mid between) (state now p new after) first (second result ok err same)
      where
        table_held : IsHeld t (state table p mid between)
        table_held = first.works.held

        second : (r : Result Unit PoolErr) → OnOk r (Got t more shape (length_of p.page_blocks mid) table now mid new) → OnErr r (now ≡ table) → OnErr r (new ≡ mid) → HasGrown t shape (state table p mid between) (state now p new after)
        second (Ok done) ok err same =
            grown t shape table now p mid new between after table_held.owns.shaped (turned_lent t more shape table now p mid new between after table_held ok here (spare_reserved t more table p old mid before between held is))
            ok.rows apart
            (works_grown t more shape table now p mid new between after table_held ok here (spare_reserved t more table p old mid before between held is) later apart first.works.entries)
        second (Err e) ok err same =
            subst (λ (x : Table). HasGrown t shape (state table p mid between) (state x p new after)) (sym err)
            (grown_refused t shape table p mid new between after table_held first.works.entries same later apart)
