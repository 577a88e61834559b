-- Rows in another order have the same groups.
use Rattle.std.proofs.Common.{◌≡◌, ◌∙◌, ℕ, ◌+◌, ◌*◌, ◌<◌, Bool, false, List, [], ◌∷◌, ◌++◌, Decides, if◌then◌else◌, length, map, refl, ap, sym, subst, arith, inl, inr, bytes_eq}
use Rattle.std.proofs.lemmas.Bool.{false≢true}
use Rattle.std.specs.List.{sum_by}
use Rattle.std.specs.List.Sorted.{IsPermutation}
use Rattle.std.specs.Ordering.{int_eq}
use Rattle.std.specs.Cmp.Lexicographic.{pointwise}
use Rattle.std.proofs.lemmas.Bool.{cases_Bool}
use Rattle.std.proofs.lemmas.Bool.Decides.{Decides-int_eq}
use Rattle.std.proofs.lemmas.List.Sorted.{All-permutation, IsPermutation-cons, IsPermutation-map, IsPermutation-middle, IsPermutation-refl, IsPermutation-sym, IsPermutation-trans}
use Rattle.std.proofs.lemmas.List.Sums.{sum_by-append, sum_by-cons}
use Rattle.std.proofs.lemmas.Slice.Eq.{bytes_eq-Decides, slice_eq-Decides}
use Rattle.row_codec.specs.declared.values.Value.{Value}
use Rattle.row_codec.specs.declared.values.Value.TheVariants.{Int, Text, Wide}
use Rattle.row_codec.specs.Order.{path_order}
use Rattle.row_codec.specs.Row.{IsValue}
use Rattle.row_codec.specs.RowBytes.{row_bytes}
use Rattle.store_api.specs.Holdings.{Holdings}
use Rattle.store_api.specs.Signs.{Signs}
use Rattle.group_rows.specs.Combining.{AreValues}
use Rattle.group_rows.specs.Partials.{Grouping, groups_by, partial_of}
use Rattle.group_rows.proofs.Giving.{gives}
use Rattle.group_rows.proofs.Paths.{path_is_order}
use Rattle.group_rows.proofs.Tables.{any_order}
use Rattle.std.specs.Prelude.{All}
use Rattle.group_op.specs.Operator.{Holds, Operator}
use Rattle.group_op.specs.Stored.{grouping_of}
use Rattle.join_op.specs.Pairs.{SameRows}
use Rattle.query_run.specs.FedRows.{AreFed, IsFed}
use Rattle.query_run.specs.Writing.{HoldsFor}

-- ---- each as often is some order

module _ {X : Type 0} (eq : X → X → Bool) (decides : (a b : X) → Decides (eq a b) (a ≡ b)) where
  abbrev is_it : X → X → ℕ
  is_it x y = if eq x y then 1 else 0

  found : (x : X) (ys : List X) → 0 < sum_by (is_it x) ys → (front : List X) × (back : List X) × (ys ≡ front ++ x ∷ back)
  found x [] some = absurd (omega (arith, some))
  found x (y ∷ ys) some = elim (cases_Bool (eq x y)) [
    | inl is ↦ ([], ys, ap (λ (z : X). z ∷ ys) (sym ((decides x y).0 is)))
    | inr not ↦
        let all : sum_by (is_it x) (y ∷ ys) ≡ is_it x y + sum_by (is_it x) ys = sum_by-cons (is_it x) y ys in
        let none : is_it x y ≡ 0 = rw not refl in
        let rest = found x ys (omega (arith, some, all, none)) in
        (y ∷ rest.0, rest.1, ap (λ (zs : List X). y ∷ zs) rest.2)
  ]

  none_there : (ys : List X) → sum_by (λ y. 1) ys ≡ 0 → ys ≡ []
  none_there [] none = refl
  none_there (y ∷ ys) none =
      let all : sum_by (λ y. 1) (y ∷ ys) ≡ 1 + sum_by (λ y. 1) ys = sum_by-cons (λ (y : X). 1) y ys in
      absurd (omega (arith, none, all))

  permute : (xs ys : List X) → ((mark : X → ℕ) → sum_by mark xs ≡ sum_by mark ys) → IsPermutation xs ys
  permute [] ys same = subst (IsPermutation []) (sym (none_there ys (sym (same (λ y. 1))))) (IsPermutation-refl [])
  permute (x ∷ xs) ys same =
      let first : sum_by (is_it x) (x ∷ xs) ≡ is_it x x + sum_by (is_it x) xs = sum_by-cons (is_it x) x xs in
      let one : is_it x x ≡ 1 = rw ((decides x x).1 refl) refl in
      let equal = same (is_it x) in
      let at = found x ys (omega (arith, first, one, equal)) in
      let rest : (mark : X → ℕ) → sum_by mark xs ≡ sum_by mark (at.0 ++ at.1) =
      λ mark.
      let head : sum_by mark (x ∷ xs) ≡ mark x + sum_by mark xs = sum_by-cons mark x xs in
      let tail : sum_by mark (x ∷ at.1) ≡ mark x + sum_by mark at.1 = sum_by-cons mark x at.1 in
      let both : sum_by mark (at.0 ++ x ∷ at.1) ≡ sum_by mark at.0 + sum_by mark (x ∷ at.1) = sum_by-append mark at.0 (x ∷ at.1) in
      let fewer : sum_by mark (at.0 ++ at.1) ≡ sum_by mark at.0 + sum_by mark at.1 = sum_by-append mark at.0 at.1 in
      let all : sum_by mark (x ∷ xs) ≡ sum_by mark (at.0 ++ x ∷ at.1) = same mark ∙ ap (sum_by mark) at.2 in
      omega (arith, head, tail, both, fewer, all) in
      subst (IsPermutation (x ∷ xs)) (sym at.2)
      (IsPermutation-trans (x ∷ xs) (x ∷ (at.0 ++ at.1)) (at.0 ++ x ∷ at.1) (IsPermutation-cons x xs (at.0 ++ at.1) (permute xs (at.0 ++ at.1) rest))
      (IsPermutation-sym (at.0 ++ x ∷ at.1) (x ∷ (at.0 ++ at.1)) (IsPermutation-middle at.0 x at.1)))

-- ---- rows of values

abbrev value_eq : Value → Value → Bool
value_eq (Int a) (Int b) = int_eq a b
value_eq (Text a) (Text b) = bytes_eq a b
value_eq (Wide a) (Wide b) = int_eq a b
value_eq _ _ = false

value-decides : (a b : Value) → Decides (value_eq a b) (a ≡ b)
value-decides (Int a) (Int b) = (λ is. ap Int ((Decides-int_eq a b).0 is), λ same. (Decides-int_eq a b).1 (cc))
value-decides (Text a) (Text b) = (λ is. ap Text ((bytes_eq-Decides a b).0 is), λ same. (bytes_eq-Decides a b).1 (cc))
value-decides (Wide a) (Wide b) = (λ is. ap Wide ((Decides-int_eq a b).0 is), λ same. (Decides-int_eq a b).1 (cc))
value-decides (Int a) (Text b) = (λ is. absurd (false≢true is), λ same. absurd (cc))
value-decides (Int a) (Wide b) = (λ is. absurd (false≢true is), λ same. absurd (cc))
value-decides (Text a) (Int b) = (λ is. absurd (false≢true is), λ same. absurd (cc))
value-decides (Text a) (Wide b) = (λ is. absurd (false≢true is), λ same. absurd (cc))
value-decides (Wide a) (Int b) = (λ is. absurd (false≢true is), λ same. absurd (cc))
value-decides (Wide a) (Text b) = (λ is. absurd (false≢true is), λ same. absurd (cc))

pub rows_permute : (xs ys : List (List Value)) → SameRows xs ys → IsPermutation xs ys
rows_permute xs ys same = permute (pointwise value_eq) (λ a b. slice_eq-Decides value-decides a b (pointwise value_eq a b) refl) xs ys same

-- ---- their groups

groups-in-order : (grouping : Grouping) (xs ys : List (List Value)) → AreValues xs → AreValues ys → IsPermutation xs ys → groups_by path_order grouping xs ≡ groups_by path_order grouping ys
groups-in-order grouping xs ys first second same =
    sym (gives path_order path_is_order grouping xs first)
    ∙ sym (any_order path_order path_is_order grouping (map (partial_of grouping) xs) (map (partial_of grouping) ys) (IsPermutation-map (partial_of grouping) xs ys same))
    ∙ gives path_order path_is_order grouping ys second

ones : (rows : List (List Value)) → sum_by (λ row. 1) rows ≡ length rows
ones [] = refl
ones (row ∷ rows) =
    let all : sum_by (λ row. 1) (row ∷ rows) ≡ 1 + sum_by (λ row. 1) rows = sum_by-cons (λ (row : List Value). 1) row rows in
    let rest = ones rows in
    omega (arith, all, rest)

-- the same rows in any order are as many
pub same_many : (xs ys : List (List Value)) → SameRows xs ys → length xs ≡ length ys
same_many xs ys same = sym (ones xs) ∙ same (λ row. 1) ∙ ones ys

-- a grouping that was fed these rows in some order
pub holds_ordered : (fed rows : List (List Value)) (op : Operator) (h : Holdings) (signs : Signs) → Holds fed op h signs → AreFed op.shape.kinds fed → SameRows fed rows → HoldsFor rows op h signs
holds_ordered fed rows op h signs holds formed same =
    let order = rows_permute fed rows same in
    let values : AreValues rows = All-permutation (λ row. All IsValue row) fed rows order holds.values in
    record {
      fed = fed;
      many = same_many fed rows same;
      weigh = same (λ row. length (row_bytes row) + 16 * length op.shape.aggs);
      holds = holds;
      same = groups-in-order (grouping_of op.shape) fed rows holds.values values order;
      values = values;
      formed = All-permutation (IsFed op.shape.kinds) fed rows order formed;
    }
