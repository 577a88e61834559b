-- Sessions that came together can end, and each that ends is one fewer.
use Rattle.std.proofs.Common.{◌≡◌, ℕ, ◌+◌, Bool, List, [], ◌∷◌, ◌++◌, length, map, Option, Some, IfSome, Result, Ok, Err, refl, sym, ap, ◌∙◌, subst, arith}
use Rattle.std.specs.Option.{option_to_list}
use Rattle.std.specs.List.{All, sum_by}
use Rattle.std.proofs.lemmas.List.Elements.{All-cons, All-head, All-nil, All-pop, All-tail, All-weaker}
use Rattle.std.proofs.lemmas.List.Sums.{sum_by-cons, sum_by_push}
use Rattle.atomic_table.specs.Seated.{TableId}
use Rattle.reservation_tree.specs.declared.errors.PoolErr.{PoolErr}
use Rattle.pool_model.specs.State.{Opening}
use Rattle.turn_table.specs.Face.{Spot}
use Rattle.pool.specs.declared.ask.Ask.{Ask}
use Rattle.pool.specs.declared.item.Item.{Item}
use Rattle.pool.specs.Seats.{live_in}
use Rattle.pool.specs.Sitting.{Sitting}
use Rattle.pool.specs.Asking.{Admits, Answers, AreNew, IsNew, came_in}
use Rattle.tests_sessions.specs.Ending.{AllCanEnd, CanEnd, came_by}

-- of things that are seen so
pub each_seen : {X S : Type 0} (P : S → Type 0) (see : X → S) (xs : List X) → All P (map see xs) → All (λ x. P (see x)) xs
each_seen P see [] all = All-nil (λ x. P (see x))
each_seen P see (x ∷ xs) all = All-cons (λ y. P (see y)) x xs (All-head P (see x) (map see xs) all) (each_seen P see xs (All-tail P (see x) (map see xs) all))

-- the last one goes
pub last_of : {X : Type 0} (P : X → Type 0) (xs ys : List X) (r : Option X) (x : X) → xs ≡ ys ++ option_to_list r → r ≡ Some x → All P xs → All P ys × P x
last_of P xs ys r x is some all =
    let both : All P ys × IfSome r P = All-pop P xs ys r is all in
    (both.0, subst (λ q. IfSome q P) some both.1)

module _ (o : Opening) (told : Bool) where
  one_can : (pass : Spot Item) (ask : Ask) (s : Sitting) → IsNew o told pass ask s → CanEnd o told pass.table s
  one_can pass ask s new = record { table = new.table; no_client = new.held.live_clients }

  first_can : (pass : Spot Item) (ask : Ask) (asks : List Ask) (a : Result (List Sitting) PoolErr) (rest : Answers) → AreNew o told pass (ask ∷ asks) (a ∷ rest) → AllCanEnd o told pass.table a × AreNew o told pass asks rest
  first_can pass ask asks (Ok sessions) rest new = (All-weaker (IsNew o told pass ask) (CanEnd o told pass.table) (one_can pass ask) sessions new.0, new.1)
  first_can pass ask asks (Err e) rest new = (tt, new)

  all_can : {X : Type 0} (pass : Spot Item) (see : X → Result (List Sitting) PoolErr) (asks : List Ask) (xs : List X) → AreNew o told pass asks (map see xs) → All (λ x. AllCanEnd o told pass.table (see x)) xs
  all_can pass see asks [] new = All-nil (λ x. AllCanEnd o told pass.table (see x))
  all_can pass see [] (x ∷ xs) new = absurd new
  all_can pass see (ask ∷ asks) (x ∷ xs) new =
      let both = first_can pass ask asks (see x) (map see xs) new in
      All-cons (λ y. AllCanEnd o told pass.table (see y)) x xs both.0 (all_can pass see asks xs both.1)

  -- the last answer goes, and the pass is still at the lock
  pub next_can : {X : Type 0} (lock now : TableId) (see : X → Result (List Sitting) PoolErr) (xs ys : List X) (r : Option X) (x : X) → xs ≡ ys ++ option_to_list r → r ≡ Some x → now ≡ lock → All (λ y. AllCanEnd o told lock (see y)) xs
      → All (λ y. AllCanEnd o told lock (see y)) ys × AllCanEnd o told now (see x)
  next_can lock now see xs ys r x is some at can =
      let both = last_of (λ y. AllCanEnd o told lock (see y)) xs ys r x is some can in
      (both.0, subst (λ (t : TableId). AllCanEnd o told t (see x)) (sym at) both.1)

first_came : (a : Result (List Sitting) PoolErr) (rest : Answers) → came_in (a ∷ rest) ≡ came_by a + came_in rest
first_came (Ok sessions) rest = refl
first_came (Err e) rest = omega arith

all_came : {X : Type 0} (see : X → Result (List Sitting) PoolErr) (xs : List X) → came_in (map see xs) ≡ sum_by (λ x. came_by (see x)) xs
all_came see [] = refl
all_came see (x ∷ xs) = first_came (see x) (map see xs) ∙ ap (λ n. came_by (see x) + n) (all_came see xs) ∙ sym (sum_by-cons (λ y. came_by (see y)) x xs)

-- those that came at this lock can all end, and so many more are live
pub all_live : {X : Type 0} (o : Opening) (told : Bool) (lock : TableId) (asks : List Ask) (old new : Spot Item) (see : X → Result (List Sitting) PoolErr) (xs : List X) → Admits o told asks old new (map see xs) → old.table ≡ lock
    → (new.table ≡ lock) × All (λ x. AllCanEnd o told lock (see x)) xs × (live_in new.knows.seen ≡ live_in old.knows.seen + sum_by (λ x. came_by (see x)) xs)
all_live o told lock asks old new see xs admits at =
    let now : new.table ≡ lock = admits.table ∙ at in
    (now, subst (λ (t : TableId). All (λ x. AllCanEnd o told t (see x)) xs) now (all_can o told new see asks xs admits.sessions), admits.count ∙ ap (λ n. live_in old.knows.seen + n) (all_came see xs))

-- those of the last answer ended
pub less_live : {X : Type 0} (see : X → Result (List Sitting) PoolErr) (xs ys : List X) (r : Option X) (x : X) (first now next : ℕ) → xs ≡ ys ++ option_to_list r → r ≡ Some x → now ≡ first + sum_by (λ y. came_by (see y)) xs → next + came_by (see x) ≡ now
    → next ≡ first + sum_by (λ y. came_by (see y)) ys
less_live see xs ys r x first now next is some was ended =
    let all : xs ≡ ys ++ x ∷ [] = is ∙ ap (λ q. ys ++ option_to_list q) some in
    let sum : sum_by (λ y. came_by (see y)) xs ≡ sum_by (λ y. came_by (see y)) ys + came_by (see x) = ap (sum_by (λ y. came_by (see y))) all ∙ sum_by_push (λ y. came_by (see y)) ys x in
    omega (arith, was, ended, sum)

-- no answer is left
pub none_live : {X : Type 0} (see : X → Result (List Sitting) PoolErr) (xs : List X) (n first now : ℕ) → n ≡ length xs → n ≡ 0 → now ≡ first + sum_by (λ x. came_by (see x)) xs → now ≡ first
none_live see [] n first now len none is = omega (arith, is)
none_live see (x ∷ xs) n first now len none is = absurd (omega (arith, len, none))
