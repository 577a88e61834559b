-- Loans that are a client's, when others come and go.
use Rattle.std.proofs.Common.{◌≡◌, ◌≢◌, ℕ, List, [], ◌∷◌, ◌++◌, get_or, Result, Ok, Err, IfErr, OnErr, ap, sym, arith}
use Rattle.std.specs.Prelude.{All}
use Rattle.std.proofs.lemmas.List.Elements.{All-append, All-cons, All-head}
use Rattle.reservation_tree.specs.declared.errors.PoolErr.{PoolErr}
use Rattle.reservation_tree.specs.declared.errors.PoolErr.TheVariants.{NoReservation, ScratchFull, WriteFault, ReadFault, TooManyTrackers, NamesSpent, Memory, Stale}
use Rattle.store_api.specs.Holdings.{Holdings}
use Rattle.store_api.specs.Changes.{after_free}
use Rattle.store_api.specs.Signs.{Signs, Grows}
use Rattle.store_api.proofs.Answered.{answered_before, answered_after}
use Rattle.bucket_table.specs.Tables.{Lent}
use Rattle.bucket_table.specs.Lending.{AreApart, AreHeld, IsApart, IsOwn, Lends, WasShort}
use Rattle.bucket_table.proofs.Lent.{All-split, apart-append, dead_apart, moved_own, returns_one}

apart-split : (a b : List Lent) → AreApart (a ++ b) → AreApart a × AreApart b × All (λ l. IsApart l.number b) a
apart-split [] b apart = (tt, apart, λ k d within. absurd (omega (arith, within)))
apart-split (l ∷ a) b apart =
    let rest = apart-split a b apart.1 in
    let parts = All-split (λ m. m.number ≢ l.number) a b apart.0 in
    ((parts.0, rest.0), rest.1, All-cons (λ m. IsApart m.number b) l a parts.1 rest.2)

-- seen from the others
apart_turned : (a b : List Lent) → All (λ l. IsApart l.number b) a → All (λ l. IsApart l.number a) b
apart_turned a b apart = λ k d within j e inside same. apart j e inside k d within (sym same)

-- what was lent is held
pub held_of : (t : ℕ) (loans : List Lent) (less more : Holdings) → Lends t loans less more → AreHeld t more loans
held_of t loans less more is = record { lives = is.is; own = is.own; apart = is.apart }

pub held_back : (t : ℕ) (a b : List Lent) (h : Holdings) → AreHeld t h (a ++ b) → AreHeld t h b
held_back t a b h is = record { lives = is.lives; own = (All-split (IsOwn t h) a b is.own).1; apart = (apart-split a b is.apart).1 }

pub held_start : (t : ℕ) (a b : List Lent) (h : Holdings) → AreHeld t h (a ++ b) → AreHeld t h a
held_start t a b h is = record { lives = is.lives; own = (All-split (IsOwn t h) a b is.own).0; apart = (apart-split a b is.apart).0 }

-- in another order
pub held_swap : (t : ℕ) (a b c : List Lent) (h : Holdings) → AreHeld t h ((a ++ b) ++ c) → AreHeld t h ((a ++ c) ++ b)
held_swap t a b c h is =
    let own = All-split (IsOwn t h) (a ++ b) c is.own in
    let own_front = All-split (IsOwn t h) a b own.0 in
    let apart = apart-split (a ++ b) c is.apart in
    let apart_front = apart-split a b apart.0 in
    let from_c = All-split (λ l. IsApart l.number c) a b apart.2 in
    let a_c = apart-append a c apart_front.0 apart.1 (apart_turned a c from_c.0) in
    record {
      lives = is.lives;
      own = All-append (IsOwn t h) (a ++ c) b (All-append (IsOwn t h) a c own_front.0 own.1) own_front.1;
      apart = apart-append (a ++ c) b a_c apart_front.1
          (apart_turned (a ++ c) b (All-append (λ l. IsApart l.number b) a c apart_front.2 (apart_turned b c from_c.1)));
    }

-- where more come, the ones that were there stay
pub held_more : (t : ℕ) (a b : List Lent) (h new : Holdings) → AreHeld t h a → Lends t b h new → AreHeld t new (a ++ b)
held_more t a b h new is came =
    let between : All (λ l. IsApart l.number a) b = λ k d within. dead_apart t h (get_or b k d).number a (came.fresh k d within) is.own in
    let own : All (IsOwn t new) a = λ k d within. moved_own t h new (get_or a k d) (is.own k d within)
    (came.others (get_or a k d).number (λ j e inside same. between j e inside k d within (sym same)))
    (ap (λ (x : Holdings). x.block_len) came.rest)
    in
    record { lives = came.is; own = All-append (IsOwn t new) a b own came.own; apart = apart-append a b is.apart came.apart between }

-- where the last ones go, the first stay
pub held_front : (t : ℕ) (a b : List Lent) (h new : Holdings) → AreHeld t h (a ++ b) → Lends t b new h → AreHeld t new a
held_front t a b h new is gone =
    let apart = apart-split a b is.apart in
    let own = (All-split (IsOwn t h) a b is.own).0 in
    record {
      lives = gone.was;
      own = λ k d within. moved_own t h new (get_or a k d) (own k d within) (sym (gone.others (get_or a k d).number (apart.2 k d within))) (sym (ap (λ (x : Holdings). x.block_len) gone.rest));
      apart = apart.0;
    }

pub freed_last : (t : ℕ) (rest : List Lent) (l : Lent) (h new : Holdings) → AreHeld t h (rest ++ l ∷ []) → new ≡ after_free l.number h → Lends t (l ∷ []) new h
freed_last t rest l h new is freed = returns_one t l h new is.lives (All-head (IsOwn t h) l [] (All-split (IsOwn t h) rest (l ∷ []) is.own).1) freed

-- ---- an error, of a span that begins earlier or ends later

pub short_before : (e : PoolErr) (t blocks : ℕ) (a b c : Signs) → Grows a b → WasShort t blocks b c e → WasShort t blocks a c e
short_before (NoReservation tracker wanted room) t blocks a b c grows is = absurd is.cause
short_before (ScratchFull need free) t blocks a b c grows is = absurd is.cause
short_before (WriteFault entry) t blocks a b c grows is = record { cause = omega (arith, grows.failures_of t, is.cause); answered = answered_before (WriteFault entry) a b c grows is.answered }
short_before (ReadFault entry) t blocks a b c grows is = absurd is.cause
short_before (TooManyTrackers count) t blocks a b c grows is = absurd is.cause
short_before NamesSpent t blocks a b c grows is = absurd is.cause
short_before Memory t blocks a b c grows is = record { cause = tt; answered = tt }
short_before (Stale wanted found) t blocks a b c grows is = absurd is.cause

pub short_after : (e : PoolErr) (t blocks : ℕ) (a b c : Signs) → WasShort t blocks a b e → Grows b c → WasShort t blocks a c e
short_after (NoReservation tracker wanted room) t blocks a b c is grows = absurd is.cause
short_after (ScratchFull need free) t blocks a b c is grows = absurd is.cause
short_after (WriteFault entry) t blocks a b c is grows = record { cause = omega (arith, grows.failures_of t, is.cause); answered = answered_after (WriteFault entry) a b c is.answered grows }
short_after (ReadFault entry) t blocks a b c is grows = absurd is.cause
short_after (TooManyTrackers count) t blocks a b c is grows = absurd is.cause
short_after NamesSpent t blocks a b c is grows = absurd is.cause
short_after Memory t blocks a b c is grows = record { cause = tt; answered = tt }
short_after (Stale wanted found) t blocks a b c is grows = absurd is.cause

pub if_err : {E X : Type 0} {P Q : E → Type 0} (r : Result X E) → IfErr r P → ((e : E) → P e → Q e) → IfErr r Q
if_err (Ok x) is so = tt
if_err (Err e) is so = so e is

pub any_err : {E X B : Type 0} (r : Result X E) → B → OnErr r B
any_err (Ok x) b = tt
any_err (Err e) b = b
