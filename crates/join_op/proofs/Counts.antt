-- What all pairs count together is a sum over both sides.
use Rattle.std.proofs.Common.{◌≡◌, ℕ, ◌+◌, ◌<◌, ◌==◌, Bool, true, false, cond, List, [], ◌∷◌, ◌++◌, refl, ap, ap₂, sym, ◌∙◌, arith}
use Rattle.std.specs.Prelude.{filter, flat_map, map}
use Rattle.std.specs.List.{range_with_len, sum_by}
use Rattle.std.specs.Str.{bytes_eq}
use Rattle.std.proofs.lemmas.List.Sums.{sum_by-append}
use Rattle.std.proofs.lemmas.Slice.Eq.{bytes_eq-Decides}
use Rattle.row_codec.specs.declared.values.Value.{Value}
use Rattle.store_api.specs.declared.shapes.JoinShape.{JoinShape}
use Rattle.join_op.specs.Pairs.{SameRows, left_key, pairs_of, partners, right_key}
use Rattle.join_op.proofs.Sums.{one_of_range, when, sum_alike, sum_filter, sum_flat, sum_map, sum_plus, sum_turned, sum_zero}

-- what a left and a right row count together
abbrev pub counted : JoinShape → (List Value → ℕ) → List Value → List Value → ℕ
counted shape count l r = cond (bytes_eq (left_key shape l) (right_key shape r)) (count (l ++ r)) 0

row_counts : (shape : JoinShape) (count : List Value → ℕ) (rs : List (List Value)) (l : List Value) → sum_by count (map (λ r. l ++ r) (partners shape rs l)) ≡ sum_by (counted shape count l) rs
row_counts shape count rs l =
    sum_map count (λ r. l ++ r) (partners shape rs l)
    ∙ sum_filter (λ r. count (l ++ r)) (λ r. bytes_eq (left_key shape l) (right_key shape r)) rs

pub pairs_count : (shape : JoinShape) (count : List Value → ℕ) (ls rs : List (List Value)) → sum_by count (pairs_of shape ls rs) ≡ sum_by (λ l. sum_by (counted shape count l) rs) ls
pairs_count shape count ls rs =
    sum_flat count (λ l. map (λ r. l ++ r) (partners shape rs l)) ls
    ∙ sum_alike (λ l. sum_by count (map (λ r. l ++ r) (partners shape rs l))) (λ l. sum_by (counted shape count l) rs) ls (row_counts shape count rs)

pub any_order : (shape : JoinShape) (ls ms rs ss : List (List Value)) → SameRows ls ms → SameRows rs ss → SameRows (pairs_of shape ls rs) (pairs_of shape ms ss)
any_order shape ls ms rs ss lefts rights count =
    pairs_count shape count ls rs
    ∙ lefts (λ l. sum_by (counted shape count l) rs)
    ∙ sum_alike (λ l. sum_by (counted shape count l) rs) (λ l. sum_by (counted shape count l) ss) ms (λ l. rights (counted shape count l))
    ∙ sym (pairs_count shape count ms ss)

pub right_parts : (shape : JoinShape) (ls rs ss : List (List Value)) → SameRows (pairs_of shape ls (rs ++ ss)) (pairs_of shape ls rs ++ pairs_of shape ls ss)
right_parts shape ls rs ss count =
    pairs_count shape count ls (rs ++ ss)
    ∙ sum_alike (λ l. sum_by (counted shape count l) (rs ++ ss)) (λ l. sum_by (counted shape count l) rs + sum_by (counted shape count l) ss) ls (λ l. sum_by-append (counted shape count l) rs ss)
    ∙ sum_plus (λ l. sum_by (counted shape count l) rs) (λ l. sum_by (counted shape count l) ss) ls
    ∙ sym (ap₂ (λ (a b : ℕ). a + b) (pairs_count shape count ls rs) (pairs_count shape count ls ss))
    ∙ sym (sum_by-append count (pairs_of shape ls rs) (pairs_of shape ls ss))

-- what the pairs with a key of this part count
abbrev in_part : JoinShape → (List ℕ → ℕ) → (List Value → ℕ) → ℕ → List Value → List Value → ℕ
in_part shape part count i l r = cond (part (left_key shape l) == i) (counted shape count l r) 0

twice : (c : Bool) (n : ℕ) → cond c (cond c n 0) 0 ≡ cond c n 0
twice true n = refl
twice false n = refl

none : (c d : Bool) → when c (when d 0) ≡ when c 0
none true true = refl
none true false = refl
none false d = refl

nothing : (c : Bool) → when c 0 ≡ 0
nothing true = refl
nothing false = refl

same_part : (part : List ℕ → ℕ) (k q : List ℕ) (v i : ℕ) (b : Bool) → bytes_eq k q ≡ b → cond (part k == i) (cond (part q == i) (cond b v 0) 0) 0 ≡ cond (part k == i) (cond b v 0) 0
same_part part k q v i true is =
    ap (λ (key : List ℕ). cond (part k == i) (cond (part key == i) v 0) 0) (sym ((bytes_eq-Decides k q).0 is)) ∙ twice (part k == i) v
same_part part k q v i false is = none (part k == i) (part q == i)

row_in_part : (shape : JoinShape) (part : List ℕ → ℕ) (count : List Value → ℕ) (i : ℕ) (rs : List (List Value)) (l : List Value) (b : Bool) → (part (left_key shape l) == i) ≡ b
    → cond b (sum_by (λ r. cond (part (right_key shape r) == i) (counted shape count l r) 0) rs) 0 ≡ sum_by (λ r. cond b (counted shape count l r) 0) rs
row_in_part shape part count i rs l true is =
    sum_alike (λ r. cond (part (right_key shape r) == i) (counted shape count l r) 0) (counted shape count l) rs (λ r. here r (bytes_eq (left_key shape l) (right_key shape r)) refl)
  where
    here : (r : List Value) (b : Bool) → bytes_eq (left_key shape l) (right_key shape r) ≡ b → cond (part (right_key shape r) == i) (cond b (count (l ++ r)) 0) 0 ≡ cond b (count (l ++ r)) 0
    here r true same = ap (λ (c : Bool). cond c (count (l ++ r)) 0) (ap (λ (key : List ℕ). part key == i) (sym ((bytes_eq-Decides (left_key shape l) (right_key shape r)).0 same)) ∙ is)
    here r false apart = nothing (part (right_key shape r) == i)
row_in_part shape part count i rs l false is = sym (sum_zero rs)

part_counts : (shape : JoinShape) (part : List ℕ → ℕ) (count : List Value → ℕ) (ls rs : List (List Value)) (i : ℕ)
    → sum_by count (pairs_of shape (filter (λ l. part (left_key shape l) == i) ls) (filter (λ r. part (right_key shape r) == i) rs)) ≡ sum_by (λ l. sum_by (in_part shape part count i l) rs) ls
part_counts shape part count ls rs i =
    pairs_count shape count (filter (λ l. part (left_key shape l) == i) ls) (filter (λ r. part (right_key shape r) == i) rs)
    ∙ sum_filter (λ l. sum_by (counted shape count l) (filter (λ r. part (right_key shape r) == i) rs)) (λ l. part (left_key shape l) == i) ls
    ∙ sum_alike (λ l. cond (part (left_key shape l) == i) (sum_by (counted shape count l) (filter (λ r. part (right_key shape r) == i) rs)) 0) (λ l. sum_by (in_part shape part count i l) rs) ls
    (λ l. ap (λ (n : ℕ). cond (part (left_key shape l) == i) n 0) (sum_filter (counted shape count l) (λ r. part (right_key shape r) == i) rs)
    ∙ row_in_part shape part count i rs l (part (left_key shape l) == i) refl)

pub by_parts : (shape : JoinShape) (part : List ℕ → ℕ) (parts : ℕ) (ls rs : List (List Value)) → ((key : List ℕ) → part key < parts)
    → SameRows (pairs_of shape ls rs) (flat_map (λ i. pairs_of shape (filter (λ l. part (left_key shape l) == i) ls) (filter (λ r. part (right_key shape r) == i) rs)) (range_with_len 0 parts))
by_parts shape part parts ls rs few count =
    pairs_count shape count ls rs
    ∙ sum_alike (λ l. sum_by (counted shape count l) rs) (λ l. sum_by (λ i. sum_by (in_part shape part count i l) rs) (range_with_len 0 parts)) ls
    (λ l. sum_alike (counted shape count l) (λ r. sum_by (λ i. in_part shape part count i l r) (range_with_len 0 parts)) rs (λ r. sym (one_of_range (part (left_key shape l)) 0 parts (counted shape count l r) (omega arith) (reach (part (left_key shape l)) parts (few (left_key shape l)))))
    ∙ sym (sum_turned (λ i r. in_part shape part count i l r) (range_with_len 0 parts) rs))
    ∙ sym (sum_turned (λ i l. sum_by (in_part shape part count i l) rs) (range_with_len 0 parts) ls)
    ∙ sum_alike (λ i. sum_by (λ l. sum_by (in_part shape part count i l) rs) ls) (λ i. sum_by count (pairs_of shape (filter (λ l. part (left_key shape l) == i) ls) (filter (λ r. part (right_key shape r) == i) rs))) (range_with_len 0 parts) (λ i. sym (part_counts shape part count ls rs i))
    ∙ sym (sum_flat count (λ i. pairs_of shape (filter (λ l. part (left_key shape l) == i) ls) (filter (λ r. part (right_key shape r) == i) rs)) (range_with_len 0 parts))
  where
    reach : (p n : ℕ) → p < n → p < 0 + n
    reach p n below = omega (arith, below)

pub no_right : (shape : JoinShape) (ls : List (List Value)) → pairs_of shape ls [] ≡ []
no_right shape [] = refl
no_right shape (l ∷ ls) = no_right shape ls
