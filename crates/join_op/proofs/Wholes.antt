-- The pairs of all rows that were fed, once all pages rest.
use Rattle.std.proofs.Common.{◌≡◌, ◌∙◌, ℕ, ◌+◌, ◌*◌, ◌≤◌, List, [], ◌∷◌, length, true, Option, refl, sym, subst, arith}
use Rattle.std.specs.List.{sum_by}
use Rattle.std.proofs.lemmas.List.{length-map}
use Rattle.std.proofs.lemmas.List.Sums.{sum_by-cons}
use Rattle.pool_model.specs.declared.entry.Entry.{Entry}
use Rattle.row_codec.specs.declared.values.Value.{Value}
use Rattle.store_api.specs.declared.shapes.JoinShape.{JoinShape}
use Rattle.store_api.specs.Holdings.{Holdings}
use Rattle.store_api.specs.Signs.{Signs}
use Rattle.row_reading.specs.Reading.{values_at}
use Rattle.tuple_stream.specs.Families.{Family}
use Rattle.tuple_stream.specs.FamilyCalls.{shares}
use Rattle.partition_stack.specs.Emitting.{IsBeside}
use Rattle.partition_stack.specs.Leaving.{LeavesOthers}
use Rattle.partition_stack.specs.Stack.{over}
use Rattle.partition_stack.proofs.Emitters.{lives_own}
use Rattle.partition_stack.proofs.Owing.{owed_first}
use Rattle.join_op.specs.Handing.{Emitted, EmittedSome}
use Rattle.join_op.specs.Joining.{Both, ShowBoth, owed_both, pairs_down}
use Rattle.join_op.specs.Operator.{KeepsSide}
use Rattle.join_op.specs.Pairs.{SameRows, pairs_of}
use Rattle.join_op.specs.Rested.{HasRested, KeepsRested}
use Rattle.join_op.specs.Stored.{Side, left_side, right_side, rows_in}
use Rattle.join_op.proofs.First.{first_pairs}

-- calls before left what was taken
module _ (was mid now : List (List Value) → Type 0) (xs ys : List (List Value)) (still : (taken : List (List Value)) → was taken → mid taken) (same : SameRows xs ys) where
  pub emitted_from : Emitted mid now xs → Emitted was now ys
  emitted_from emitted = record { rows = emitted.rows; same = λ count. emitted.same count ∙ same count; came = λ taken took. emitted.came taken (still taken took) }

  pub some_from : EmittedSome mid now xs → EmittedSome was now ys
  some_from emitted taken took =
      let came = emitted taken (still taken took) in
      record { some = came.some; rest = came.rest; same = λ count. came.same count ∙ same count; came = came.came }

module _ (start : Option (List Entry)) (shape : JoinShape) (lefts rights : List (List Value)) (b : Both) (keeps : KeepsRested start shape lefts rights b) where
  pub shows_rested : b.held.told ≡ true → ShowBoth keeps.left.rows keeps.right.rows b
  shows_rested told = record { told = told; left = keeps.left.shows; right = keeps.right.shows; left_whole = keeps.left.whole; right_whole = keeps.right.whole }

  pub pairs_rested : (many : ℕ) → many ≡ 16 → SameRows (pairs_down shape many keeps.left.rows keeps.right.rows) (pairs_of shape lefts rights)
  pairs_rested many sixteen = subst (λ (n : ℕ). SameRows (pairs_down shape n keeps.left.rows keeps.right.rows) (pairs_of shape lefts rights)) (sym sixteen)
      (first_pairs shape lefts rights (over b.left b.held b.signs) (over b.right b.held b.signs) keeps.left keeps.right)

pub beside_left : (t : ℕ) (client : Option ℕ) (old new : Holdings) (before after : Signs) → IsBeside t client old → LeavesOthers t old new before after → IsBeside t client new
beside_left t client old new before after beside leaves = record { apart = beside.apart; lives = lives_own t client old new before after beside.apart leaves beside.lives }

-- the rows that were fed are all of the first level
ones : (xs : List (List Value)) → sum_by (λ _. 1) xs ≡ length xs
ones [] = refl
ones (x ∷ xs) = let one = sum_by-cons (λ _. 1) x xs in let rest = ones xs in omega (arith, one, rest)

pub side_many : (side : Side) (fed : List (List Value)) (f : Family) → (keeps : KeepsSide side fed f) → length (shares 16 keeps.rows) ≡ length fed
side_many side fed f keeps =
    let same = keeps.same (λ _. 1) in
    let mine = ones (rows_in side (shares 16 keeps.rows)) in
    let theirs = ones fed in
    let long = length-map (shares 16 keeps.rows) (values_at side.kinds) in
    omega (arith, same, mine, theirs, long)

pub owed_rested : (start : Option (List Entry)) (shape : JoinShape) (lefts rights : List (List Value)) (b : Both) → (rested : KeepsRested start shape lefts rights b) → HasRested b → owed_both b rested.left.rows rested.right.rows ≤ 15 * (length lefts + length rights)
owed_rested start shape lefts rights b rested has =
    let left = owed_first b.left.levels rested.left.rows has.first.first in
    let right = owed_first b.right.levels rested.right.rows (has.between.levels ∙ has.first.first) in
    let left_many = side_many (left_side shape) lefts (over b.left b.held b.signs) rested.left in
    let right_many = side_many (right_side shape) rights (over b.right b.held b.signs) rested.right in
    omega (arith, left, right, left_many, right_many)
