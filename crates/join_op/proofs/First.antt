-- The pairs of the first sixteen partitions are those of all rows that were fed.
use Rattle.std.proofs.Common.{◌≡◌, ◌∙◌, ℕ, zero, suc, ◌+◌, ◌-◌, ◌<◌, ◌≤◌, ◌==◌, true, false, List, [], ◌∷◌, ◌++◌, refl, ap, ap₂, sym, subst, arith, eq-eqb, ne_eqb, append-nil}
use Rattle.std.specs.Prelude.{All, filter}
use Rattle.std.specs.List.{range_with_len, sum_by}
use Rattle.std.proofs.lemmas.List.Elements.{All-head, All-tail, filter-append}
use Rattle.std.proofs.lemmas.List.Sums.{sum_by-append}
use Rattle.row_codec.specs.declared.values.Value.{Value}
use Rattle.row_codec.specs.Order.{hash_of, nibble_of}
use Rattle.store_api.specs.declared.shapes.JoinShape.{JoinShape}
use Rattle.row_reading.specs.Reading.{values_at}
use Rattle.tuple_stream.specs.Families.{Family}
use Rattle.tuple_stream.specs.FamilyCalls.{shares}
use Rattle.join_op.specs.Chunks.{stored_pairs}
use Rattle.join_op.specs.Joining.{pairs_down}
use Rattle.join_op.specs.Operator.{KeepsSide}
use Rattle.join_op.specs.Pairs.{SameRows, left_key, pairs_of, right_key}
use Rattle.join_op.specs.Stored.{Side, left_side, place_of, right_side, rows_in}
use Rattle.join_op.proofs.Counts.{any_order, by_parts}
use Rattle.join_op.proofs.Divides.{filter_mapped, range_more}
use Rattle.join_op.proofs.Sums.{sum_flat}

-- ---- rows that stand where they are to

all_here : (side : Side) (i : ℕ) (rows : List (List ℕ)) → All (λ row. place_of side 0 0 row ≡ i) rows → filter (λ row. place_of side 0 0 row == i) rows ≡ rows
all_here side i [] placed = refl
all_here side i (r ∷ rows) placed =
    let one : (place_of side 0 0 r == i) ≡ true = eq-eqb (place_of side 0 0 r) i (All-head (λ row. place_of side 0 0 row ≡ i) r rows placed) in
    rw one (ap (λ (rs : List (List ℕ)). r ∷ rs) (all_here side i rows (All-tail (λ row. place_of side 0 0 row ≡ i) r rows placed)))

none_here : (side : Side) (i j : ℕ) (rows : List (List ℕ)) → (i ≡ j → ⊥) → All (λ row. place_of side 0 0 row ≡ j) rows → filter (λ row. place_of side 0 0 row == i) rows ≡ []
none_here side i j [] apart placed = refl
none_here side i j (r ∷ rows) apart placed =
    let there = All-head (λ row. place_of side 0 0 row ≡ j) r rows placed in
    let none : (place_of side 0 0 r == i) ≡ false = ne_eqb (place_of side 0 0 r) i (λ same. apart (sym same ∙ there)) in
    rw none (none_here side i j rows apart (All-tail (λ row. place_of side 0 0 row ≡ j) r rows placed))

-- of the rows of partitions from `k` on those of another one
none_of : (side : Side) (i n k : ℕ) (rows : ℕ → List (List ℕ)) → ((j : ℕ) → All (λ row. place_of side 0 0 row ≡ k + j) (rows j)) → i < k → filter (λ row. place_of side 0 0 row == i) (shares n rows) ≡ []
none_of side i zero k rows placed below = refl
none_of side i (suc n) k rows placed below =
    filter-append (λ row. place_of side 0 0 row == i) (rows 0) (shares n (λ j. rows (suc j)))
    ∙ ap₂ (λ (xs ys : List (List ℕ)). xs ++ ys)
    (none_here side i (k + 0) (rows 0) (λ same. omega (arith, same, below)) (placed 0))
    (none_of side i n (suc k) (λ j. rows (suc j)) (λ j. subst (λ (m : ℕ). All (λ row. place_of side 0 0 row ≡ m) (rows (suc j))) (let same : k + suc j ≡ suc k + j = omega arith in same) (placed (suc j))) (omega (arith, below)))

those_of : (side : Side) (i n k : ℕ) (rows : ℕ → List (List ℕ)) → ((j : ℕ) → All (λ row. place_of side 0 0 row ≡ k + j) (rows j)) → i < n → filter (λ row. place_of side 0 0 row == (k + i)) (shares n rows) ≡ rows i
those_of side i zero k rows placed inside = absurd (omega (arith, inside))
those_of side zero (suc n) k rows placed inside =
    filter-append (λ row. place_of side 0 0 row == (k + 0)) (rows 0) (shares n (λ j. rows (suc j)))
    ∙ ap₂ (λ (xs ys : List (List ℕ)). xs ++ ys)
    (all_here side (k + 0) (rows 0) (placed 0))
    (none_of side (k + 0) n (suc k) (λ j. rows (suc j)) (λ j. subst (λ (m : ℕ). All (λ row. place_of side 0 0 row ≡ m) (rows (suc j))) (let same : k + suc j ≡ suc k + j = omega arith in same) (placed (suc j))) (omega arith))
    ∙ append-nil (rows 0)
those_of side (suc i) (suc n) k rows placed inside =
    filter-append (λ row. place_of side 0 0 row == (k + suc i)) (rows 0) (shares n (λ j. rows (suc j)))
    ∙ ap₂ (λ (xs ys : List (List ℕ)). xs ++ ys)
    (none_here side (k + suc i) (k + 0) (rows 0) (λ same. omega (arith, same)) (placed 0))
    (ap (λ (m : ℕ). filter (λ row. place_of side 0 0 row == m) (shares n (λ j. rows (suc j)))) (let same : k + suc i ≡ suc k + i = omega arith in same)
    ∙ those_of side i n (suc k) (λ j. rows (suc j)) (λ j. subst (λ (m : ℕ). All (λ row. place_of side 0 0 row ≡ m) (rows (suc j))) (let same : k + suc j ≡ suc k + j = omega arith in same) (placed (suc j))) (omega (arith, inside)))

plain : (n : ℕ) → 0 + n ≡ n
plain n = omega arith

here_of : (side : Side) (i : ℕ) (rows : ℕ → List (List ℕ)) → ((j : ℕ) → All (λ row. place_of side 0 0 row ≡ j) (rows j)) → i < 16 → filter (λ row. place_of side 0 0 row == i) (shares 16 rows) ≡ rows i
here_of side i rows placed inside =
    ap (λ (m : ℕ). filter (λ row. place_of side 0 0 row == m) (shares 16 rows)) (sym (plain i))
    ∙ those_of side i 16 0 rows (λ j. subst (λ (m : ℕ). All (λ row. place_of side 0 0 row ≡ m) (rows j)) (sym (plain j)) (placed j)) inside

-- ---- their pairs

part : List ℕ → ℕ
part key = 0 + (15 - nibble_of (hash_of key) 0)

few : (key : List ℕ) → part key < 16
unfolding part
few key = omega arith

module _ (shape : JoinShape) (count : List Value → ℕ) (ls rs : ℕ → List (List ℕ)) (left : (j : ℕ) → All (λ row. place_of (left_side shape) 0 0 row ≡ j) (ls j)) (right : (j : ℕ) → All (λ row. place_of (right_side shape) 0 0 row ≡ j) (rs j)) where
  abbrev in_part : ℕ → ℕ
  in_part i = sum_by count (pairs_of shape (filter (λ l. part (left_key shape l) == i) (rows_in (left_side shape) (shares 16 ls))) (filter (λ r. part (right_key shape r) == i) (rows_in (right_side shape) (shares 16 rs))))

  part_is : (i : ℕ) → i < 16 → in_part i ≡ sum_by count (stored_pairs shape (ls i) (rs i))
  unfolding part
  part_is i inside =
      ap₂ (λ (xs ys : List (List Value)). sum_by count (pairs_of shape xs ys))
      (filter_mapped (values_at shape.left) (λ l. part (left_key shape l) == i) (shares 16 ls) ∙ ap (rows_in (left_side shape)) (here_of (left_side shape) i ls left inside))
      (filter_mapped (values_at shape.right) (λ r. part (right_key shape r) == i) (shares 16 rs) ∙ ap (rows_in (right_side shape)) (here_of (right_side shape) i rs right inside))

  first_sum : (n : ℕ) → n ≤ 16 → sum_by in_part (range_with_len 0 n) ≡ sum_by count (pairs_down shape n ls rs)
  first_sum zero low = refl
  first_sum (suc n) low =
      let more : sum_by in_part (range_with_len 0 (suc n)) ≡ sum_by in_part (range_with_len 0 n) + in_part (0 + n) = range_more in_part 0 n in
      let here : in_part (0 + n) ≡ sum_by count (stored_pairs shape (ls n) (rs n)) = ap in_part (plain n) ∙ part_is n (omega (arith, low)) in
      let rest = first_sum n (omega (arith, low)) in
      let all : sum_by count (stored_pairs shape (ls n) (rs n) ++ pairs_down shape n ls rs) ≡ sum_by count (stored_pairs shape (ls n) (rs n)) + sum_by count (pairs_down shape n ls rs) = sum_by-append count (stored_pairs shape (ls n) (rs n)) (pairs_down shape n ls rs) in
      omega (arith, more, here, rest, all)

  all_first : sum_by count (pairs_of shape (rows_in (left_side shape) (shares 16 ls)) (rows_in (right_side shape) (shares 16 rs))) ≡ sum_by count (pairs_down shape 16 ls rs)
  all_first =
      by_parts shape part 16 (rows_in (left_side shape) (shares 16 ls)) (rows_in (right_side shape) (shares 16 rs)) few count
      ∙ sum_flat count (λ i. pairs_of shape (filter (λ l. part (left_key shape l) == i) (rows_in (left_side shape) (shares 16 ls))) (filter (λ r. part (right_key shape r) == i) (rows_in (right_side shape) (shares 16 rs)))) (range_with_len 0 16)
      ∙ first_sum 16 (omega arith)

pub first_pairs : (shape : JoinShape) (lefts rights : List (List Value)) (f g : Family) → (left : KeepsSide (left_side shape) lefts f) → (right : KeepsSide (right_side shape) rights g) → SameRows (pairs_down shape 16 left.rows right.rows) (pairs_of shape lefts rights)
first_pairs shape lefts rights f g left right count =
    sym (all_first shape count left.rows right.rows left.placed right.placed)
    ∙ any_order shape (rows_in (left_side shape) (shares 16 left.rows)) lefts (rows_in (right_side shape) (shares 16 right.rows)) rights left.same right.same count
