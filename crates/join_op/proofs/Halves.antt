-- Both sides were divided, one after the other.
use Rattle.std.proofs.Common.{◌≡◌, ◌∙◌, ℕ, ◌+◌, ◌<◌, ◌≤◌, List, [], ◌++◌, length, replicate, set, Result, Ok, Err, OnOk, Some, refl, ap, sym, subst, arith, true}
use Rattle.std.specs.Prelude.{slice_get, sum_by}
use Rattle.store_api.specs.Holdings.{Holdings}
use Rattle.store_api.specs.Signs.{Signs}
use Rattle.store_api.specs.declared.shapes.JoinShape.{JoinShape}
use Rattle.tuple_stream.specs.Families.{AllClosed, Family, ShowAll}
use Rattle.tuple_stream.specs.FamilyCalls.{AllWhole, shares}
use Rattle.tuple_stream.specs.Spending.{PinsAgain}
use Rattle.tuple_stream.specs.Trails.{EnteredEvents}
use Rattle.partition_stack.specs.Making.{MakesFew, owed}
use Rattle.partition_stack.specs.Stack.{Stack, over}
use Rattle.partition_stack.proofs.Owing.{owed_divided}
use Rattle.partition_stack.proofs.SharedRows.{dealt_few, shares_same}
use Rattle.join_op.specs.Dividing.{DealsAll, HasCalled, HasDealt, IsDivided}
use Rattle.join_op.specs.Joining.{HasDivided, IsBetween, ShowBoth, both, pairs_down}
use Rattle.join_op.specs.Pairs.{SameRows}
use Rattle.join_op.specs.Stored.{Side, dealt as dealt_to, left_side, place_of, right_side}
use Rattle.join_op.proofs.Dealing.{pinned_then}
use Rattle.join_op.proofs.Divides.{divided_same}
use Rattle.join_op.proofs.Moved.{none_left, weigh_dealt}
use Rattle.partition_stack.proofs.Weights.{less_divided}

-- what follows from four clauses on an answer
pub from_four : {X E P Q R S T : Type 0} (r : Result X E) → (P → Q → R → S → T) → OnOk r P → OnOk r Q → OnOk r R → OnOk r S → OnOk r T
from_four (Ok x) so p q r s = so p q r s
from_four (Err e) so p q r s = tt

module _ (t : ℕ) (shape : JoinShape) (at level : ℕ) (left right l1 r1 : Stack) (h h1 h2 : Holdings) (s s1 s2 : Signs)
    (between : IsBetween (both left right h s)) (top : length left.streams ≡ at + 1) (there : slice_get left.levels at ≡ Some level) (deep : level < 16)
    (called : HasCalled t left l1 right h h1 s s1) (called_next : HasCalled t right r1 l1 h1 h2 s1 s2)
    (dealt : DealsAll (left_side shape) level at (over left h s) (over l1 h1 s1)) (dealt_next : DealsAll (right_side shape) level at (over right h1 s1) (over r1 h2 s2))
    (divided : IsDivided level at left l1) (divided_next : IsDivided level at right r1)
    (closed : AllClosed (over l1 h1 s1)) (closed_next : AllClosed (over r1 h2 s2))
    (whole : (rows : ℕ → List (List ℕ)) → h.told ≡ true → ShowAll rows (over left h s) → AllWhole (over left h s) → AllWhole (over l1 h1 s1))
    (whole_next : (rows : ℕ → List (List ℕ)) → h1.told ≡ true → ShowAll rows (over right h1 s1) → AllWhole (over right h1 s1) → AllWhole (over r1 h2 s2))
    (first : EnteredEvents PinsAgain s.trail s1.trail)
    (levelled : length left.levels ≡ at + 1) (made : (lefts rights : ℕ → List (List ℕ)) → ShowBoth lefts rights (both left right h s) → MakesFew (length (lefts at) + length (rights at)) s s2) where
  -- the rows of one side went a level deeper
  deeper : (side : Side) (levels now : List ℕ) (rows : ℕ → List (List ℕ)) (f : Family) → (one : HasDealt side level at rows (rows at) [] f) → levels ≡ left.levels → now ≡ set levels at (level + 1) ++ replicate 16 (level + 1) → length (rows at) + owed now one.now ≤ owed levels rows
  deeper side levels now rows f one same is =
      owed_divided levels now at level rows one.now (ap (λ (ls : List ℕ). slice_get ls at) same ∙ there) (ap length same ∙ levelled) deep is one.below one.here
      (let are = ap length (shares_same 16 (λ i. one.now (at + 1 + i)) (λ i. dealt_to side level (at + 1) (rows at) (at + 1 + i)) (λ i. one.above (at + 1 + i) (omega arith))) in let few = dealt_few (place_of side level (at + 1)) (at + 1) 16 (rows at) in omega (arith, are, few))

  pub both_divided : HasDivided shape at level (both left right h s) (both l1 r1 h2 s2)
  both_divided =
      record {
        between = record {
          levels = divided_next.levels ∙ ap (λ (ls : List ℕ). set ls at (level + 1) ++ replicate 16 (level + 1)) between.levels ∙ sym divided.levels;
          many = divided_next.sixteen ∙ sym divided.sixteen;
          left_closed = closed;
          right_closed = closed_next;
        };
        less = less_divided left.levels l1.levels at level there deep divided.levels;
        rows = λ lefts rights shows.
            let one = dealt lefts shows.told shows.left in
            let two = dealt_next rights (called.leaves.others.told ∙ shows.told) (called.shows rights shows.right) in
            let one_now : HasDealt (left_side shape) level at lefts (lefts at) [] (over l1 h2 s2) =
            record { now = one.now; shows = called_next.shows one.now one.shows; below = one.below; here = one.here; above = one.above } in
            record {
              lefts_now = one.now;
              rights_now = two.now;
              shows = record {
                told = called_next.leaves.others.told ∙ called.leaves.others.told ∙ shows.told;
                left = called_next.shows one.now one.shows;
                right = two.shows;
                left_whole = whole lefts shows.told shows.left shows.left_whole;
                right_whole = whole_next rights (called.leaves.others.told ∙ shows.told) (called.shows rights shows.right) shows.right_whole;
              };
              same = subst (λ (n : ℕ). SameRows (pairs_down shape n one.now two.now) (pairs_down shape (length left.streams) lefts rights)) (sym divided.sixteen)
                  (subst (λ (n : ℕ). SameRows (pairs_down shape (at + 17) one.now two.now) (pairs_down shape n lefts rights)) (sym top)
                  (divided_same shape level at lefts rights (over l1 h2 s2) (over r1 h2 s2) one_now two));
              lighter = λ w.
                  let first_side = weigh_dealt w (left_side shape) level at lefts (lefts at) [] (over l1 h1 s1) one (none_left w (lefts at)) in
                  let other_side = weigh_dealt w (right_side shape) level at rights (rights at) [] (over r1 h2 s2) two (none_left w (rights at)) in
                  let now = ap (λ (n : ℕ). sum_by w (shares n one.now)) divided.sixteen in
                  let now_right = ap (λ (n : ℕ). sum_by w (shares n two.now)) divided_next.sixteen in
                  let was = ap (λ (n : ℕ). sum_by w (shares n lefts)) top in
                  let was_right = ap (λ (n : ℕ). sum_by w (shares n rights)) (between.many ∙ top) in
                  omega (arith, first_side, other_side, now, now_right, was, was_right);
              most = length (lefts at) + length (rights at);
              deeper =
                  let first_side = deeper (left_side shape) left.levels l1.levels lefts (over l1 h1 s1) one refl divided.levels in
                  let other_side = deeper (right_side shape) right.levels r1.levels rights (over r1 h2 s2) two between.levels divided_next.levels in
                  omega (arith, first_side, other_side);
              made = made lefts rights shows;
            };
        first = pinned_then s.trail s1.trail s2.trail first called_next.leaves.grows.trail;
      }
