-- A leaf begins with a table that is lent, and ends where it is given back.
use Rattle.std.proofs.Common.{◌≡◌, ◌≢◌, ℕ, ◌+◌, List, [], ◌++◌, Option, Some, None, IsSome, Result, Ok, Err, IfOk, OnErr, refl, ap, sym, subst, arith}
use Rattle.std.specs.Prelude.{All, length, map}
use Rattle.std.specs.Result.{result_ok}
use Rattle.reservation_tree.specs.declared.errors.PoolErr.{PoolErr}
use Rattle.store_api.specs.Alike.{Alike}
use Rattle.row_codec.specs.declared.values.Value.{Value}
use Rattle.store_api.specs.Holdings.{Holdings, account_of, unused_of}
use Rattle.store_api.specs.Signs.{Grows, Signs}
use Rattle.store_api.proofs.Growing.{grows_trans}
use Rattle.bucket_table.specs.Tables.{Lent, Table}
use Rattle.bucket_table.specs.Lending.{IsOpened, Lends}
use Rattle.bucket_table.specs.Entering.{EnteredLoans, IsOfLoans}
use Rattle.bucket_table.proofs.Entered.{loans_leave_pages}
use Rattle.bucket_table.proofs.Widened.{alike_same}
use Rattle.partition_stack.specs.Emitting.{IsBeside, StaysEmitter, WentOn}
use Rattle.partition_stack.specs.Making.{MakesFew}
use Rattle.partition_stack.proofs.Making.{counts_both, few_counts, few_entries}
use Rattle.partition_stack.proofs.ReadFrames.{client_stays}
use Rattle.join_op.specs.Handing.{Emitted, EmittedSome}
use Rattle.join_op.specs.Holding.{IsSameTable, loans_in}
use Rattle.join_op.proofs.LentBoth.{loans_same, own_given, own_lent}

module _ (first was now : List (List Value) → Type 0) (still : (rows : List (List Value)) → first rows → was rows) where
  pub emitted_since : (pairs : List (List Value)) → Emitted was now pairs → Emitted first now pairs
  emitted_since pairs emitted = record { rows = emitted.rows; same = emitted.same; came = λ taken took. emitted.came taken (still taken took) }

  pub some_since : (pairs : List (List Value)) → EmittedSome was now pairs → EmittedSome first now pairs
  some_since pairs emitted taken took = emitted taken (still taken took)

  pub went_since : WentOn was now → WentOn first now
  went_since went taken took = went taken (still taken took)

pub went_later : (was now last : List (List Value) → Type 0) → ((rows : List (List Value)) → now rows → last rows) → WentOn was now → WentOn was last
went_later was now last still went taken took = let first = went taken took in (first.0, still (taken ++ first.0) first.1)

pub beside_lent : (t : ℕ) (client : Option ℕ) (loans : List Lent) (less more : Holdings) → Lends t loans less more → IsBeside t client less → IsBeside t client more
beside_lent t client loans less more lends is = record { apart = is.apart; lives = client_stays client less more (own_lent t loans less more lends client is.apart) is.lives }

pub stays_since : {m0 m : ℕ} (admits0 admits : List Value → Type 0) (client0 client : Option ℕ) (f0 f : ℕ) (h : Holdings) (a b k : Signs) → Grows a b → MakesFew 0 a b → StaysEmitter admits0 admits client0 client f0 f m0 m h b k → StaysEmitter admits0 admits client0 client f0 f m0 m h a k
stays_since {m0} {m} admits0 admits client0 client f0 f h a b k grows none stays =
    record { admits_same = stays.admits_same; client_same = stays.client_same; lives = stays.lives; never_falls = stays.never_falls; grows = grows_trans a b k grows stays.grows; made = counts_both 0 0 0 m0 m0 m a b k (omega arith) (few_counts 0 m0 a b none) stays.made }

pub stays_later : {m0 m : ℕ} (t : ℕ) (loans : List Lent) (admits0 admits : List Value → Type 0) (client0 client : Option ℕ) (f0 f : ℕ) (fewer h : Holdings) (a b k : Signs) → client0 ≢ Some t → Lends t loans fewer h → Grows b k → MakesFew 0 b k
    → StaysEmitter admits0 admits client0 client f0 f m0 m h a b → StaysEmitter admits0 admits client0 client f0 f m0 m fewer a k
stays_later {m0} {m} t loans admits0 admits client0 client f0 f fewer h a b k free lends grows none stays =
    record {
      admits_same = stays.admits_same;
      client_same = stays.client_same;
      lives = client_stays client0 h fewer (own_given t loans fewer h lends client0 free) stays.lives;
      never_falls = stays.never_falls;
      grows = grows_trans a b k stays.grows grows;
      made = counts_both 0 0 0 m0 m m a b k (omega arith) stays.made (few_counts 0 m b k none);
    }

-- the same loans, whatever rows the table has
pub lends_as : (t : ℕ) (table now : Option Table) (less more : Holdings) → IsSameTable table now → Lends t (loans_in now) less more → Lends t (loans_in table) less more
lends_as t table now less more same lends = subst (λ (loans : List Lent). Lends t loans less more) (loans_same table now same) lends

lends_none : (t : ℕ) (h : Holdings) → IsSome (h.clients t) → Lends t [] h h
lends_none t h lives =
    record {
      rest = refl;
      was = lives;
      is = lives;
      charged = ap (λ (n : ℕ). record (account_of t h) { unused = n }) (let same : unused_of t h ≡ unused_of t h + 0 = omega arith in same);
      clients = λ q apart. refl;
      others = λ q apart. refl;
      fresh = λ k d inside. absurd (omega (arith, inside));
      own = λ k d inside. absurd (omega (arith, inside));
      apart = tt;
    }

pub lends_nothing : (t : ℕ) (table : Option Table) (h : Holdings) → table ≡ None → IsSome (h.clients t) → Lends t (loans_in table) h h
lends_nothing t table h none lives = subst (λ (o : Option Table). Lends t (loans_in o) h h) (sym none) (lends_none t h lives)

-- a table was opened, or not
pub lends_opened : (t blocks heads bufs : ℕ) (r : Result Table PoolErr) (old new : Holdings) → IsSome (old.clients t) → IfOk r (IsOpened t blocks heads bufs old new) → OnErr r (Alike old new) → Lends t (loans_in (result_ok r)) old new
lends_opened t blocks heads bufs (Ok table) old new lives opened alike = opened.lends
lends_opened t blocks heads bufs (Err e) old new lives opened alike = subst (λ (h : Holdings). Lends t [] old h) (sym (alike_same old new alike)) (lends_none t old lives)

-- loans make no page
pub loans_make : (a b : Signs) → EnteredLoans a.trail b.trail → MakesFew 0 a b
loans_make a b entered = few_entries 0 (λ more. All IsOfLoans (map (λ e. e.event) more)) a b (λ more are. let none = ap length (loans_leave_pages more are).names in omega (arith, none)) entered
