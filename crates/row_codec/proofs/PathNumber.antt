-- Paths are compared by one comparison of the numbers that they spell.
use Rattle.std.proofs.Common.{◌≡◌, ℕ, ◌+◌, ◌*◌, ◌<◌, List, [], ◌∷◌, length, map, refl, sym, ap, ◌∙◌, arith}
use Rattle.std.specs.List.{AllByRecursion, range_with_len}
use Rattle.std.specs.declared.cmp.Ordering.{Ordering}
use Rattle.std.specs.declared.cmp.Ordering.TheVariants.{Less, Equal, Greater}
use Rattle.std.specs.Ordering.{nat_cmp, ordering_then, MatchOrdering}
use Rattle.std.specs.Cmp.{nat_cmp_is}
use Rattle.std.proofs.lemmas.Cmp.{ranked}
use Rattle.std.specs.Cmp.Lexicographic.{slice_cmp}
use Rattle.row_codec.specs.KeyInside.{number_from, path_number}
use Rattle.row_codec.specs.Order.{hash_of, nibble_of, path_of}

-- one digit more: the numbers before it decide first
digit_ranks : (a b x y : ℕ) → x < 16 → y < 16 → (p q : Ordering) → MatchOrdering p (a < b) (a ≡ b) (b < a) → MatchOrdering q (x < y) (x ≡ y) (y < x) → MatchOrdering (ordering_then p q) (a * 16 + x < b * 16 + y) (a * 16 + x ≡ b * 16 + y) (b * 16 + y < a * 16 + x)
digit_ranks a b x y small_x small_y Less q before here = omega arith
digit_ranks a b x y small_x small_y Equal Less before here = omega arith
digit_ranks a b x y small_x small_y Equal Equal before here = omega arith
digit_ranks a b x y small_x small_y Equal Greater before here = omega arith
digit_ranks a b x y small_x small_y Greater q before here = omega arith

digit_more : (a b x y : ℕ) → x < 16 → y < 16 → nat_cmp (a * 16 + x) (b * 16 + y) ≡ ordering_then (nat_cmp a b) (nat_cmp x y)
digit_more a b x y small_x small_y =
    sym (nat_cmp_is _ _ _ (digit_ranks a b x y small_x small_y (nat_cmp a b) (nat_cmp x y) (ranked a b _ refl) (ranked x y _ refl)))

then_assoc : (p q r : Ordering) → ordering_then (ordering_then p q) r ≡ ordering_then p (ordering_then q r)
then_assoc Less q r = refl
then_assoc Equal q r = refl
then_assoc Greater q r = refl

then_end : (p : Ordering) → ordering_then p Equal ≡ p
then_end Less = refl
then_end Equal = refl
then_end Greater = refl

-- lists of as many digits are compared as the numbers that they spell
number_order : (a b : ℕ) (xs ys : List ℕ) → length xs ≡ length ys → AllByRecursion (λ d. d < 16) xs → AllByRecursion (λ d. d < 16) ys → nat_cmp (number_from a xs) (number_from b ys) ≡ ordering_then (nat_cmp a b) (slice_cmp nat_cmp xs ys)
number_order a b [] [] e small_x small_y = sym (then_end (nat_cmp a b))
number_order a b [] (y ∷ ys) e small_x small_y = absurd (omega arith)
number_order a b (x ∷ xs) [] e small_x small_y = absurd (omega arith)
number_order a b (x ∷ xs) (y ∷ ys) e small_x small_y =
    number_order (a * 16 + x) (b * 16 + y) xs ys (omega arith) small_x.1 small_y.1
    ∙ ap (λ o. ordering_then o (slice_cmp nat_cmp xs ys)) (digit_more a b x y small_x.0 small_y.0)
    ∙ then_assoc (nat_cmp a b) (nat_cmp x y) (slice_cmp nat_cmp xs ys)

nibbles_small : (hash : ℕ) (ls : List ℕ) → AllByRecursion (λ d. d < 16) (map (nibble_of hash) ls)
nibbles_small hash [] = tt
nibbles_small hash (l ∷ ls) = (omega arith, nibbles_small hash ls)

-- two paths are compared as their numbers
pub path_number_order : (a b : List ℕ) → nat_cmp (path_number a) (path_number b) ≡ slice_cmp nat_cmp (path_of a) (path_of b)
unfolding path_of
path_number_order a b =
    number_order 0 0 (path_of a) (path_of b) refl (nibbles_small (hash_of a) (range_with_len 0 16)) (nibbles_small (hash_of b) (range_with_len 0 16))
