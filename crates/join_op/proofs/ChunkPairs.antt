-- Pairs of stored rows, handed on one after the other.
use Rattle.std.proofs.Common.{◌≡◌, ◌⊎◌, ◌∙◌, inl, inr, ℕ, ◌+◌, Bool, true, false, List, [], ◌∷◌, ◌++◌, map, refl, ap, ap₂, sym, subst, append-nil}
use Rattle.std.specs.List.{sum_by}
use Rattle.std.proofs.lemmas.List.{map-append}
use Rattle.std.proofs.lemmas.List.Sums.{sum_by-append}
use Rattle.std.proofs.lemmas.Grind.{flat_map-append}
use Rattle.row_codec.specs.declared.values.Value.{Value}
use Rattle.row_reading.specs.Reading.{values_at}
use Rattle.store_api.specs.declared.shapes.JoinShape.{JoinShape}
use Rattle.join_op.specs.Chunks.{stored_pairs}
use Rattle.join_op.specs.Handing.{Emitted, EmittedSome}
use Rattle.join_op.specs.Holding.{pairs_with}
use Rattle.join_op.specs.Pairs.{SameRows, pairs_of, partners}
use Rattle.join_op.specs.Stored.{left_side, right_side, rows_in}
use Rattle.join_op.proofs.Counts.{no_right, right_parts}
use Rattle.join_op.proofs.Handed.{came_more, some_more, some_none}

module _ (was now : List (List Value) → Type 0) (pair row : List Value) (is : row ≡ pair) where
  pub emitted_one : ((rows : List (List Value)) → was rows → now (rows ++ row ∷ [])) → Emitted was now (pair ∷ [])
  emitted_one came = subst (λ (r : List Value). Emitted was now (r ∷ [])) is (record { rows = row ∷ []; same = λ count. refl; came = came })

  pub some_one : ((rows : List (List Value)) → was rows → now rows ⊎ now (rows ++ row ∷ [])) → EmittedSome was now (pair ∷ [])
  some_one came = subst (λ (r : List Value). EmittedSome was now (r ∷ [])) is (λ taken took. elim (came taken took) [
    | inl same ↦ record { some = []; rest = row ∷ []; same = λ count. refl; came = subst now (sym (append-nil taken)) same }
    | inr more ↦ record { some = row ∷ []; rest = []; same = λ count. refl; came = more }
  ])

module _ (was mid now : List (List Value) → Type 0) (xs : List (List Value)) (one : Emitted was mid xs) where
  pub emitted_then : (ys : List (List Value)) → Emitted mid now ys → Emitted was now (xs ++ ys)
  emitted_then ys two =
      record {
        rows = one.rows ++ two.rows;
        same = λ count. sum_by-append count one.rows two.rows ∙ ap₂ (λ (a b : ℕ). a + b) (one.same count) (two.same count) ∙ sym (sum_by-append count xs ys);
        came = came_more was mid now one.rows one.came two.rows two.came;
      }

  pub some_then : (ys rest all : List (List Value)) → SameRows (xs ++ (ys ++ rest)) all → EmittedSome mid now ys → EmittedSome was now all
  some_then ys rest all same two =
      some_more was mid now one.rows one.came ys rest all
      (λ count. sum_by-append count one.rows (ys ++ rest) ∙ ap (λ (n : ℕ). n + sum_by count (ys ++ rest)) (one.same count) ∙ sym (sum_by-append count xs (ys ++ rest)) ∙ same count) two

pub some_first : (was mid : List (List Value) → Type 0) (xs rest all : List (List Value)) → Emitted was mid xs → SameRows (xs ++ rest) all → EmittedSome was mid all
some_first was mid xs rest all one same = some_then was mid mid xs one [] rest all same (some_none mid [])

pub emitted_still : (was mid now : List (List Value) → Type 0) (xs : List (List Value)) → Emitted was mid xs → ((rows : List (List Value)) → mid rows → now rows) → Emitted was now xs
emitted_still was mid now xs one still = record { rows = one.rows; same = one.same; came = λ taken took. still (taken ++ one.rows) (one.came taken took) }

-- ---- the pairs of parts

pub pairs_left : (shape : JoinShape) (xs ys rs : List (List ℕ)) → stored_pairs shape (xs ++ ys) rs ≡ stored_pairs shape xs rs ++ stored_pairs shape ys rs
pairs_left shape xs ys rs =
    ap (λ (ls : List (List Value)). pairs_of shape ls (rows_in (right_side shape) rs)) (map-append (values_at shape.left) xs ys)
    ∙ flat_map-append (λ (l : List Value). map (λ (r : List Value). l ++ r) (partners shape (rows_in (right_side shape) rs) l)) (rows_in (left_side shape) xs) (rows_in (left_side shape) ys)

pub pairs_right : (shape : JoinShape) (ls xs ys : List (List ℕ)) → SameRows (stored_pairs shape ls (xs ++ ys)) (stored_pairs shape ls xs ++ stored_pairs shape ls ys)
pairs_right shape ls xs ys count =
    ap (λ (rs : List (List Value)). sum_by count (pairs_of shape (rows_in (left_side shape) ls) rs)) (map-append (values_at shape.right) xs ys)
    ∙ right_parts shape (rows_in (left_side shape) ls) (rows_in (right_side shape) xs) (rows_in (right_side shape) ys) count

pub none_right : (shape : JoinShape) (ls : List (List ℕ)) → stored_pairs shape ls [] ≡ []
none_right shape ls = no_right shape (rows_in (left_side shape) ls)

-- ---- the same of pairs of rows that are read with rows that are held

pub with_reads : (b : Bool) (shape : JoinShape) (xs ys helds : List (List ℕ)) → SameRows (pairs_with b shape (xs ++ ys) helds) (pairs_with b shape xs helds ++ pairs_with b shape ys helds)
with_reads true shape xs ys helds = pairs_right shape helds xs ys
with_reads false shape xs ys helds = λ count. ap (sum_by count) (pairs_left shape xs ys helds)

pub with_helds : (b : Bool) (shape : JoinShape) (reads xs ys : List (List ℕ)) → SameRows (pairs_with b shape reads (xs ++ ys)) (pairs_with b shape reads xs ++ pairs_with b shape reads ys)
with_helds true shape reads xs ys = λ count. ap (sum_by count) (pairs_left shape xs ys reads)
with_helds false shape reads xs ys = pairs_right shape reads xs ys

pub none_held : (b : Bool) (shape : JoinShape) (reads : List (List ℕ)) → pairs_with b shape reads [] ≡ []
none_held true shape reads = refl
none_held false shape reads = none_right shape reads

pub none_read : (b : Bool) (shape : JoinShape) (helds : List (List ℕ)) → pairs_with b shape [] helds ≡ []
none_read true shape helds = none_right shape helds
none_read false shape helds = refl

-- where a held row stands behind others, or between others
module _ (b : Bool) (shape : JoinShape) (reads all xs : List (List ℕ)) (x : List ℕ) where
  pub more_held : all ≡ xs ++ x ∷ [] → SameRows (pairs_with b shape reads xs ++ pairs_with b shape reads (x ∷ [])) (pairs_with b shape reads all)
  more_held is count = sym (with_helds b shape reads xs (x ∷ []) count) ∙ sym (ap (λ (rs : List (List ℕ)). sum_by count (pairs_with b shape reads rs)) is)

  pub parts_held : (ys : List (List ℕ)) → all ≡ xs ++ x ∷ ys → SameRows (pairs_with b shape reads xs ++ (pairs_with b shape reads (x ∷ []) ++ pairs_with b shape reads ys)) (pairs_with b shape reads all)
  parts_held ys is count =
      let front : List (List Value) = pairs_with b shape reads xs in
      sum_by-append count front (pairs_with b shape reads (x ∷ []) ++ pairs_with b shape reads ys)
      ∙ ap (λ (n : ℕ). sum_by count front + n) (sym (with_helds b shape reads (x ∷ []) ys count))
      ∙ sym (sum_by-append count front (pairs_with b shape reads (x ∷ ys)))
      ∙ sym (with_helds b shape reads xs (x ∷ ys) count)
      ∙ sym (ap (λ (rs : List (List ℕ)). sum_by count (pairs_with b shape reads rs)) is)
