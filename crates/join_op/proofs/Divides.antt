-- Rows that are dealt to partitions of the next level, both sides alike, have the pairs that they had.
use Rattle.std.proofs.Common.{◌≡◌, ◌∙◌, ℕ, zero, suc, ◌+◌, ◌-◌, ◌<◌, ◌≤◌, ◌==◌, Bool, true, false, List, [], ◌∷◌, ◌++◌, map, refl, ap, ap₂, sym, arith}
use Rattle.std.specs.Prelude.{filter}
use Rattle.std.specs.List.{range_with_len, sum_by}
use Rattle.std.proofs.lemmas.List.Sums.{sum_by-append, sum_by-cons}
use Rattle.row_codec.specs.declared.values.Value.{Value}
use Rattle.row_codec.specs.Order.{hash_of, nibble_of}
use Rattle.store_api.specs.declared.shapes.JoinShape.{JoinShape}
use Rattle.row_reading.specs.Reading.{values_at}
use Rattle.tuple_stream.specs.Families.{Family}
use Rattle.join_op.specs.Dividing.{HasDealt}
use Rattle.join_op.specs.Chunks.{stored_pairs}
use Rattle.join_op.specs.Joining.{pairs_down}
use Rattle.join_op.specs.Pairs.{SameRows, left_key, pairs_of, right_key}
use Rattle.join_op.specs.Stored.{dealt, left_side, right_side, rows_in}
use Rattle.join_op.proofs.Counts.{by_parts}
use Rattle.join_op.proofs.Dealing.{none_below}
use Rattle.join_op.proofs.Sums.{sum_alike, sum_flat}

-- ---- rows as they are stored

filter_step : {X Y : Type 0} (f : X → Y) (p : Y → Bool) (x : X) (xs : List X) (b : Bool) → p (f x) ≡ b → filter p (map f xs) ≡ map f (filter (λ x. p (f x)) xs) → filter p (map f (x ∷ xs)) ≡ map f (filter (λ x. p (f x)) (x ∷ xs))
filter_step f p x xs true is rest = rw is (ap (λ ys. f x ∷ ys) rest)
filter_step f p x xs false is rest = rw is rest

pub filter_mapped : {X Y : Type 0} (f : X → Y) (p : Y → Bool) (xs : List X) → filter p (map f xs) ≡ map f (filter (λ x. p (f x)) xs)
filter_mapped f p [] = refl
filter_mapped f p (x ∷ xs) = filter_step f p x xs (p (f x)) refl (filter_mapped f p xs)

-- the partition of a key
abbrev part : ℕ → ℕ → List ℕ → ℕ
part level at key = (at + 1) + (15 - nibble_of (hash_of key) level)

few_parts : (level at : ℕ) (key : List ℕ) → part level at key < at + 17
few_parts level at key = omega arith

module _ (shape : JoinShape) (count : List Value → ℕ) (level at : ℕ) (ls rs : List (List ℕ)) where
  abbrev dealt_pairs : ℕ → ℕ
  dealt_pairs i = sum_by count (stored_pairs shape (dealt (left_side shape) level (at + 1) ls i) (dealt (right_side shape) level (at + 1) rs i))

  dealt_same : (i : ℕ) → sum_by count (pairs_of shape (filter (λ l. part level at (left_key shape l) == i) (rows_in (left_side shape) ls)) (filter (λ r. part level at (right_key shape r) == i) (rows_in (right_side shape) rs))) ≡ dealt_pairs i
  dealt_same i =
      ap₂ (λ (xs ys : List (List Value)). sum_by count (pairs_of shape xs ys))
      (filter_mapped (values_at shape.left) (λ l. part level at (left_key shape l) == i) ls)
      (filter_mapped (values_at shape.right) (λ r. part level at (right_key shape r) == i) rs)

  -- all pairs are in some partition
  parts_sum : sum_by count (stored_pairs shape ls rs) ≡ sum_by dealt_pairs (range_with_len 0 (at + 17))
  parts_sum =
      by_parts shape (part level at) (at + 17) (rows_in (left_side shape) ls) (rows_in (right_side shape) rs) (few_parts level at) count
      ∙ sum_flat count (λ i. pairs_of shape (filter (λ l. part level at (left_key shape l) == i) (rows_in (left_side shape) ls)) (filter (λ r. part level at (right_key shape r) == i) (rows_in (right_side shape) rs))) (range_with_len 0 (at + 17))
      ∙ sum_alike (λ i. sum_by count (pairs_of shape (filter (λ l. part level at (left_key shape l) == i) (rows_in (left_side shape) ls)) (filter (λ r. part level at (right_key shape r) == i) (rows_in (right_side shape) rs)))) dealt_pairs (range_with_len 0 (at + 17)) dealt_same

-- ---- sums over the first numbers

plus_suc : (a n : ℕ) → (a + 1) + n ≡ a + suc n
plus_suc a n = omega arith

plus_none : (a : ℕ) → a + 0 ≡ a
plus_none a = omega arith

pub range_more : (d : ℕ → ℕ) (a n : ℕ) → sum_by d (range_with_len a (suc n)) ≡ sum_by d (range_with_len a n) + d (a + n)
range_more d a zero =
    let head : sum_by d (a ∷ []) ≡ d a + 0 = sum_by-cons d a [] in
    let same : d (a + 0) ≡ d a = ap d (plus_none a) in
    omega (arith, head, same)
range_more d a (suc n) =
    let head : sum_by d (a ∷ range_with_len (a + 1) (suc n)) ≡ d a + sum_by d (range_with_len (a + 1) (suc n)) = sum_by-cons d a (range_with_len (a + 1) (suc n)) in
    let rest : sum_by d (range_with_len (a + 1) (suc n)) ≡ sum_by d (range_with_len (a + 1) n) + d ((a + 1) + n) = range_more d (a + 1) n in
    let less : sum_by d (a ∷ range_with_len (a + 1) n) ≡ d a + sum_by d (range_with_len (a + 1) n) = sum_by-cons d a (range_with_len (a + 1) n) in
    let same : d ((a + 1) + n) ≡ d (a + suc n) = ap d (plus_suc a n) in
    omega (arith, head, rest, less, same)

-- ---- the pairs of all partitions

module _ (shape : JoinShape) (count : List Value → ℕ) (level at : ℕ) (ls rs : ℕ → List (List ℕ)) (f g : Family) (left : HasDealt (left_side shape) level at ls (ls at) [] f) (right : HasDealt (right_side shape) level at rs (rs at) [] g) where
  abbrev d : ℕ → ℕ
  d i = dealt_pairs shape count level at (ls at) (rs at) i

  abbrev e : ℕ → ℕ
  e n = sum_by count (pairs_down shape n left.now right.now)

  abbrev sums : ℕ → ℕ
  sums n = sum_by d (range_with_len 0 n)

  next : (n : ℕ) → e (suc n) ≡ sum_by count (stored_pairs shape (left.now n) (right.now n)) + e n
  next n = sum_by-append count (stored_pairs shape (left.now n) (right.now n)) (pairs_down shape n left.now right.now)

  next_sum : (n : ℕ) → sums (suc n) ≡ sums n + d n
  next_sum n = range_more d 0 n ∙ ap (λ (k : ℕ). sums n + d k) (zero_plus n)
    where
      zero_plus : (n : ℕ) → 0 + n ≡ n
      zero_plus n = omega arith

  low_none : (i : ℕ) → i ≤ at → d i ≡ 0
  low_none i low = ap (λ (xs : List (List ℕ)). sum_by count (stored_pairs shape xs (dealt (right_side shape) level (at + 1) (rs at) i))) (none_below (left_side shape) level (at + 1) i (ls at) (omega (arith, low)))

  low_sums : (n : ℕ) → n ≤ at + 1 → sums n ≡ 0
  low_sums zero low = refl
  low_sums (suc n) low = let more = next_sum n in let rest = low_sums n (omega (arith, low)) in let none = low_none n (omega (arith, low)) in omega (arith, more, rest, none)

  below : (n : ℕ) → n ≤ at → pairs_down shape n left.now right.now ≡ pairs_down shape n ls rs
  below zero low = refl
  below (suc n) low =
      ap₂ (λ (xs ys : List (List Value)). xs ++ ys)
      (ap₂ (λ (xs ys : List (List ℕ)). stored_pairs shape xs ys) (left.below n (omega (arith, low))) (right.below n (omega (arith, low))))
      (below n (omega (arith, low)))

  here : e (suc at) ≡ sum_by count (pairs_down shape at ls rs)
  here =
      let more = next at in
      let none : sum_by count (stored_pairs shape (left.now at) (right.now at)) ≡ 0 = ap₂ (λ (xs ys : List (List ℕ)). sum_by count (stored_pairs shape xs ys)) left.here right.here in
      let rest : e at ≡ sum_by count (pairs_down shape at ls rs) = ap (sum_by count) (below at (omega arith)) in
      omega (arith, more, none, rest)

  above : (k : ℕ) → e (suc (at + k)) ≡ sum_by count (pairs_down shape at ls rs) + sums (suc (at + k))
  above zero =
      let same : e (suc (at + 0)) ≡ e (suc at) = ap (λ (n : ℕ). e (suc n)) (plus_none at) in
      let first = here in
      let none = low_sums (suc (at + 0)) (omega arith) in
      omega (arith, same, first, none)
  above (suc k) =
      let place : at + suc k ≡ suc (at + k) = sym (plus_one at k) in
      let same : e (suc (at + suc k)) ≡ e (suc (suc (at + k))) = ap (λ (n : ℕ). e (suc n)) place in
      let alike : sums (suc (at + suc k)) ≡ sums (suc (suc (at + k))) = ap (λ (n : ℕ). sums (suc n)) place in
      let more = next (suc (at + k)) in
      let sum = next_sum (suc (at + k)) in
      let rest = above k in
      let one : sum_by count (stored_pairs shape (left.now (suc (at + k))) (right.now (suc (at + k)))) ≡ d (suc (at + k)) =
      ap₂ (λ (xs ys : List (List ℕ)). sum_by count (stored_pairs shape xs ys)) (left.above (suc (at + k)) (omega arith)) (right.above (suc (at + k)) (omega arith)) in
      omega (arith, same, alike, more, sum, rest, one)
    where
      plus_one : (a n : ℕ) → suc (a + n) ≡ a + suc n
      plus_one a n = omega arith

  all : e (at + 17) ≡ sum_by count (pairs_down shape (at + 1) ls rs)
  all =
      let place : at + 17 ≡ suc (at + 16) = omega arith in
      let one : at + 1 ≡ suc at = omega arith in
      let these : e (at + 17) ≡ sum_by count (pairs_down shape at ls rs) + sums (suc (at + 16)) = ap e place ∙ above 16 in
      let whole : sum_by count (stored_pairs shape (ls at) (rs at)) ≡ sums (suc (at + 16)) = parts_sum shape count level at (ls at) (rs at) ∙ ap sums place in
      let was : sum_by count (pairs_down shape (at + 1) ls rs) ≡ sum_by count (stored_pairs shape (ls at) (rs at)) + sum_by count (pairs_down shape at ls rs) =
      ap (λ (n : ℕ). sum_by count (pairs_down shape n ls rs)) one ∙ sum_by-append count (stored_pairs shape (ls at) (rs at)) (pairs_down shape at ls rs) in
      omega (arith, these, whole, was)

pub divided_same : (shape : JoinShape) (level at : ℕ) (ls rs : ℕ → List (List ℕ)) (f g : Family) → (left : HasDealt (left_side shape) level at ls (ls at) [] f) → (right : HasDealt (right_side shape) level at rs (rs at) [] g)
    → SameRows (pairs_down shape (at + 17) left.now right.now) (pairs_down shape (at + 1) ls rs)
divided_same shape level at ls rs f g left right count = all shape count level at ls rs f g left right
