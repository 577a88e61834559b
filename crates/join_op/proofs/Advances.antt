-- Pairs of partitions, number by number, as these go and are divided.
use Rattle.std.proofs.Common.{◌≡◌, ◌∙◌, ℕ, suc, ◌+◌, ◌<◌, ◌≤◌, List, [], ◌++◌, length, take, Some, refl, ap, sym, subst, arith, append-nil}
use Rattle.std.specs.List.{slice_get, sum_by}
use Rattle.std.proofs.lemmas.List.Sums.{sum_by-append}
use Rattle.row_codec.specs.declared.values.Value.{Value}
use Rattle.store_api.specs.declared.shapes.JoinShape.{JoinShape}
use Rattle.join_op.specs.Chunks.{stored_pairs}
use Rattle.store_api.specs.Signs.{Signs}
use Rattle.partition_stack.specs.Making.{MakesBeside, owed}
use Rattle.partition_stack.proofs.Making.{counts_both, counts_less, counts_none}
use Rattle.partition_stack.proofs.Owing.{owed_less, owed_popped}
use Rattle.join_op.specs.Joining.{Advances, Both, ShowBoth, owed_both, pairs_down}
use Rattle.join_op.specs.Handing.{Emitted, EmittedSome}
use Rattle.join_op.proofs.Handed.{came_more, some_more}
use Rattle.join_op.proofs.Moved.{weigh_first}

pub advances_none : {m : ℕ} (shape : JoinShape) (was : List (List Value) → Type 0) (lefts rights : ℕ → List (List ℕ)) (a : Both) → ShowBoth lefts rights a → Advances shape was was m m lefts rights a a
advances_none {m} shape was lefts rights a shows =
    record { lefts_now = lefts; rights_now = rights; shows = shows; rows = []; came = λ taken took. subst was (sym (append-nil taken)) took; same = λ count. refl; lighter = λ w. omega arith; most = 0; deeper = omega arith; made = counts_none m a.signs }

pub advances_then : {m0 m1 m2 : ℕ} (shape : JoinShape) (was mid now : List (List Value) → Type 0) (lefts rights : ℕ → List (List ℕ)) (a b c : Both) → (first : Advances shape was mid m0 m1 lefts rights a b) → Advances shape mid now m1 m2 first.lefts_now first.rights_now b c → Advances shape was now m0 m2 lefts rights a c
advances_then {m0} {m1} {m2} shape was mid now lefts rights a b c first second =
    record {
      lefts_now = second.lefts_now;
      rights_now = second.rights_now;
      shows = second.shows;
      rows = first.rows ++ second.rows;
      came = came_more was mid now first.rows first.came second.rows second.came;
      same = λ count.
          let x : List (List Value) = first.rows in
          let y : List (List Value) = second.rows in
          let p : List (List Value) = pairs_down shape (length b.left.streams) first.lefts_now first.rights_now in
          let q : List (List Value) = pairs_down shape (length c.left.streams) second.lefts_now second.rights_now in
          let one : sum_by count ((x ++ y) ++ q) ≡ sum_by count (x ++ y) + sum_by count q = sum_by-append count (x ++ y) q in
          let two : sum_by count (x ++ y) ≡ sum_by count x + sum_by count y = sum_by-append count x y in
          let three : sum_by count (y ++ q) ≡ sum_by count y + sum_by count q = sum_by-append count y q in
          let four = second.same count in
          let five : sum_by count (x ++ p) ≡ sum_by count x + sum_by count p = sum_by-append count x p in
          let six = first.same count in
          omega (arith, one, two, three, four, five, six);
      lighter = λ w. let one = first.lighter w in let two = second.lighter w in omega (arith, one, two);
      most = first.most + second.most;
      deeper = let one = first.deeper in let two = second.deeper in omega (arith, one, two);
      made = counts_both first.most second.most (first.most + second.most) m0 m1 m2 a.signs b.signs c.signs (omega arith) first.made second.made;
    }

-- whatever the next step answers
pub advances_made : {m0 m1 : ℕ} (m2 : ℕ) (shape : JoinShape) (was mid : List (List Value) → Type 0) (lefts rights : ℕ → List (List ℕ)) (a b : Both) (s : Signs) → (first : Advances shape was mid m0 m1 lefts rights a b) → MakesBeside (owed_both b first.lefts_now first.rights_now) m1 m2 b.signs s → MakesBeside (owed_both a lefts rights) m0 m2 a.signs s
advances_made {m0} {m1} m2 shape was mid lefts rights a b s first made = counts_both first.most (owed_both b first.lefts_now first.rights_now) (owed_both a lefts rights) m0 m1 m2 a.signs b.signs s first.deeper first.made made

pub advances_few : {m0 m1 : ℕ} (shape : JoinShape) (was mid : List (List Value) → Type 0) (lefts rights : ℕ → List (List ℕ)) (a b : Both) → Advances shape was mid m0 m1 lefts rights a b → MakesBeside (owed_both a lefts rights) m0 m1 a.signs b.signs
advances_few {m0} {m1} shape was mid lefts rights a b first = counts_less first.most (owed_both a lefts rights) m0 m1 a.signs b.signs (let less = first.deeper in omega (arith, less)) first.made

-- all pairs were handed on
pub advances_all : {m0 m1 : ℕ} (shape : JoinShape) (was now : List (List Value) → Type 0) (lefts rights : ℕ → List (List ℕ)) (a b : Both) → length b.left.streams ≡ 0 → Advances shape was now m0 m1 lefts rights a b → Emitted was now (pairs_down shape (length a.left.streams) lefts rights)
advances_all shape was now lefts rights a b none has =
    record {
      rows = has.rows;
      same = λ count.
          let rest : pairs_down shape (length b.left.streams) has.lefts_now has.rights_now ≡ [] = ap (λ (n : ℕ). pairs_down shape n has.lefts_now has.rights_now) none in
          let same : sum_by count (has.rows ++ pairs_down shape (length b.left.streams) has.lefts_now has.rights_now) ≡ sum_by count has.rows = ap (λ (xs : List (List Value)). sum_by count (has.rows ++ xs)) rest ∙ ap (sum_by count) (append-nil has.rows) in
          sym same ∙ has.same count;
      came = has.came;
    }

pub advances_some : {m0 m1 : ℕ} (shape : JoinShape) (was mid now : List (List Value) → Type 0) (lefts rights : ℕ → List (List ℕ)) (a b : Both) → (has : Advances shape was mid m0 m1 lefts rights a b) → EmittedSome mid now (pairs_down shape (length b.left.streams) has.lefts_now has.rights_now) → EmittedSome was now (pairs_down shape (length a.left.streams) lefts rights)
advances_some shape was mid now lefts rights a b has some =
    some_more was mid now has.rows has.came (pairs_down shape (length b.left.streams) has.lefts_now has.rights_now) [] (pairs_down shape (length a.left.streams) lefts rights)
    (λ count. ap (λ (xs : List (List Value)). sum_by count (has.rows ++ xs)) (append-nil (pairs_down shape (length b.left.streams) has.lefts_now has.rights_now)) ∙ has.same count) some

-- ---- the top partitions go

-- their pairs were handed on
pub advances_popped : {m0 m1 : ℕ} (shape : JoinShape) (was now : List (List Value) → Type 0) (lefts rights : ℕ → List (List ℕ)) (a b : Both) (at : ℕ) → length a.left.streams ≡ at + 1 → length b.left.streams ≡ at → length b.right.streams ≤ length a.right.streams → ShowBoth lefts rights b
    → Emitted was now (stored_pairs shape (lefts at) (rights at)) → owed_both b lefts rights ≤ owed_both a lefts rights → MakesBeside 0 m0 m1 a.signs b.signs → Advances shape was now m0 m1 lefts rights a b
advances_popped shape was now lefts rights a b at top low fewer shows emitted less made =
    record {
      lefts_now = lefts;
      rights_now = rights;
      shows = shows;
      rows = emitted.rows;
      came = emitted.came;
      same = λ count.
          let rest : List (List Value) = pairs_down shape at lefts rights in
          let all : sum_by count (pairs_down shape (length a.left.streams) lefts rights) ≡ sum_by count (stored_pairs shape (lefts at) (rights at) ++ rest) = ap (λ (n : ℕ). sum_by count (pairs_down shape n lefts rights)) (top ∙ plus_one at) in
          let sum : sum_by count (stored_pairs shape (lefts at) (rights at) ++ rest) ≡ sum_by count (stored_pairs shape (lefts at) (rights at)) + sum_by count rest = sum_by-append count (stored_pairs shape (lefts at) (rights at)) rest in
          let same = emitted.same count in
          let now : sum_by count (emitted.rows ++ pairs_down shape (length b.left.streams) lefts rights) ≡ sum_by count (emitted.rows ++ rest) = ap (λ (n : ℕ). sum_by count (emitted.rows ++ pairs_down shape n lefts rights)) low in
          let both : sum_by count (emitted.rows ++ rest) ≡ sum_by count emitted.rows + sum_by count rest = sum_by-append count emitted.rows rest in
          omega (arith, all, sum, same, now, both);
      lighter = λ w.
          let one = weigh_first w (length b.left.streams) (length a.left.streams) lefts (omega (arith, top, low)) in
          let two = weigh_first w (length b.right.streams) (length a.right.streams) rights fewer in
          omega (arith, one, two);
      most = 0;
      deeper = omega (arith, less);
      made = made;
    }
  where
    plus_one : (n : ℕ) → n + 1 ≡ suc n
    plus_one n = omega arith

pub some_top : (shape : JoinShape) (was now : List (List Value) → Type 0) (lefts rights : ℕ → List (List ℕ)) (many at : ℕ) → many ≡ at + 1 → EmittedSome was now (stored_pairs shape (lefts at) (rights at)) → EmittedSome was now (pairs_down shape many lefts rights)
some_top shape was now lefts rights many at top some =
    some_more was was now [] (λ taken took. subst was (sym (append-nil taken)) took) (stored_pairs shape (lefts at) (rights at)) (pairs_down shape at lefts rights) (pairs_down shape many lefts rights)
    (λ count. sym (ap (λ (n : ℕ). sum_by count (pairs_down shape n lefts rights)) (top ∙ plus_one at))) some
  where
    plus_one : (n : ℕ) → n + 1 ≡ suc n
    plus_one n = omega arith

-- the top partitions went, whose levels are the same
pub owed_gone : (lefts rights : ℕ → List (List ℕ)) (a b : Both) (at level : ℕ) → slice_get a.left.levels at ≡ Some level → a.right.levels ≡ a.left.levels → b.left.levels ≡ take at a.left.levels → b.right.levels ≡ b.left.levels → owed_both b lefts rights ≤ owed_both a lefts rights
owed_gone lefts rights a b at level there same popped same_now =
    let left = owed_popped a.left.levels at level lefts there in
    let right = owed_popped a.right.levels at level rights (ap (λ (ls : List ℕ). slice_get ls at) same ∙ there) in
    let left_now = ap (λ (ls : List ℕ). owed ls lefts) popped in
    let right_now = ap (λ (ls : List ℕ). owed ls rights) (same_now ∙ popped ∙ ap (take at) (sym same)) in
    omega (arith, left, right, left_now, right_now)

-- where they are of a level below the last one, they have fewer rows than may go deeper
pub owed_top : (lefts rights : ℕ → List (List ℕ)) (a : Both) (at level : ℕ) → slice_get a.left.levels at ≡ Some level → a.right.levels ≡ a.left.levels → level < 16 → length (lefts at) + length (rights at) ≤ owed_both a lefts rights
owed_top lefts rights a at level there same deep =
    let left = owed_less a.left.levels at level lefts there deep in
    let right = owed_less a.right.levels at level rights (ap (λ (ls : List ℕ). slice_get ls at) same ∙ there) deep in
    omega (arith, left, right)
