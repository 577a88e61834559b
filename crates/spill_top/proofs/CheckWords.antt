-- Words that are a check of the program, and words that are none.
use Rattle.std.proofs.Common.{◌≡◌, ◌∙◌, ◌≤◌, inl, inr, refl, sym, subst, Bool, true, false, ℕ, List, [], ◌∷◌, Option, Some, None, codes, get_or, is_some, length, arith}
use Rattle.std.specs.List.{list_all}
use Rattle.std.specs.Prelude.{◌≢◌, ◌&&◌, if◌then◌else◌, nat_le}
use Rattle.std.specs.Str.{bytes_eq}
use Rattle.std.proofs.lemmas.Bool.{cases_Bool, false≢true}
use Rattle.std.proofs.lemmas.Option.{none-some, same_Some}
use Rattle.clap.proofs.WalkLemmas.{both}
use Rattle.csv_edge.specs.Ints.{number_of}
use Rattle.spill_top.specs.CheckPlan.{IsInRange}
use Rattle.spill_top.specs.Words.{Count, Request, Run, between, check_asked, check_of, has_leading_zero, is_operand, number_in, self_check_of, self_checking, spelled}
use Rattle.spill_top.specs.declared.words.Check.{Check}

none-if : (b : Bool) (request : Option Request) → check_asked request ≡ None → check_asked (if b then request else None) ≡ None
none-if true request e = e
none-if false request e = refl

-- words of another number
none-spelled : (words : List (List ℕ)) → length words ≢ 5 → check_asked (spelled words) ≡ None
none-spelled [] other = refl
none-spelled (verb ∷ []) other = refl
none-spelled (verb ∷ plan ∷ []) other = none-if (bytes_eq (codes "run") verb) (Some (Run plan)) refl
none-spelled (verb ∷ file ∷ column ∷ []) other = none-if (bytes_eq (codes "count") verb) (Some (Count (record { file = file; column = column }))) refl
none-spelled (verb ∷ start ∷ rows ∷ groups ∷ []) other = refl
none-spelled (verb ∷ start ∷ rows ∷ groups ∷ blocks ∷ []) other = absurd (other refl)
none-spelled (verb ∷ start ∷ rows ∷ groups ∷ blocks ∷ word ∷ rest) other = refl

pub not_five : (words : List (List ℕ)) → length words ≢ 5 → check_of words ≡ None
not_five words other = none-if _ (spelled words) (none-spelled words other)

some-check : (start rows groups blocks : Option ℕ) → is_some (self_checking start rows groups blocks) ≡ true → check_asked (self_checking start rows groups blocks) ≢ None
some-check None rows groups blocks is = absurd (false≢true is)
some-check (Some start) None groups blocks is = absurd (false≢true is)
some-check (Some start) (Some rows) None blocks is = absurd (false≢true is)
some-check (Some start) (Some rows) (Some groups) None is = absurd (false≢true is)
some-check (Some start) (Some rows) (Some groups) (Some blocks) is = λ none. cc

no-check : (start rows groups blocks : Option ℕ) → is_some (self_checking start rows groups blocks) ≡ false → check_asked (self_checking start rows groups blocks) ≡ None
no-check None rows groups blocks is = refl
no-check (Some start) None groups blocks is = refl
no-check (Some start) (Some rows) None blocks is = refl
no-check (Some start) (Some rows) (Some groups) None is = refl
no-check (Some start) (Some rows) (Some groups) (Some blocks) is = absurd (false≢true (sym is))

-- five words: the first and the numbers tell
abbrev pub five_tell : List (List ℕ) → Bool
five_tell words = bytes_eq (codes "selfcheck") (get_or words 0 []) && is_some (self_check_of (get_or words 1 []) (get_or words 2 []) (get_or words 3 []) (get_or words 4 []))

pub five_check : (words : List (List ℕ)) → length words ≡ 5 → list_all is_operand words ≡ true → five_tell words ≡ true → check_of words ≢ None
five_check [] len all is = absurd (omega (arith, len))
five_check (verb ∷ []) len all is = absurd (omega (arith, len))
five_check (verb ∷ start ∷ []) len all is = absurd (omega (arith, len))
five_check (verb ∷ start ∷ rows ∷ []) len all is = absurd (omega (arith, len))
five_check (verb ∷ start ∷ rows ∷ groups ∷ []) len all is = absurd (omega (arith, len))
five_check (verb ∷ start ∷ rows ∷ groups ∷ blocks ∷ []) len all is =
    let tell = both (bytes_eq (codes "selfcheck") verb) (is_some (self_check_of start rows groups blocks)) is in
    let asked : check_of (verb ∷ start ∷ rows ∷ groups ∷ blocks ∷ []) ≡ check_asked (self_check_of start rows groups blocks) = rw (all, tell.0) refl in
    λ none. some-check (number_in 0 2147483647 start) (number_in 0 2147483647 rows) (number_in 1 2147483647 groups) (number_in 1 262144 blocks) tell.1 (sym asked ∙ none)
five_check (verb ∷ start ∷ rows ∷ groups ∷ blocks ∷ word ∷ rest) len all is = absurd (omega (arith, len))

pub five_other : (words : List (List ℕ)) → length words ≡ 5 → five_tell words ≡ false → check_of words ≡ None
five_other [] len is = refl
five_other (verb ∷ []) len is = absurd (omega (arith, len))
five_other (verb ∷ start ∷ []) len is = absurd (omega (arith, len))
five_other (verb ∷ start ∷ rows ∷ []) len is = absurd (omega (arith, len))
five_other (verb ∷ start ∷ rows ∷ groups ∷ []) len is = absurd (omega (arith, len))
five_other (verb ∷ start ∷ rows ∷ groups ∷ blocks ∷ []) len is = none-if _ (spelled (verb ∷ start ∷ rows ∷ groups ∷ blocks ∷ [])) (of-verb (bytes_eq (codes "selfcheck") verb) is)
  where
    of-verb : (b : Bool) → (b && is_some (self_check_of start rows groups blocks)) ≡ false → check_asked (if b then self_check_of start rows groups blocks else None) ≡ None
    of-verb true tell = no-check (number_in 0 2147483647 start) (number_in 0 2147483647 rows) (number_in 1 2147483647 groups) (number_in 1 262144 blocks) tell
    of-verb false tell = refl
five_other (verb ∷ start ∷ rows ∷ groups ∷ blocks ∷ word ∷ rest) len is = absurd (omega (arith, len))

-- ---- the numbers of a check

between-these : (least most n : ℕ) (o : Option ℕ) → between least most o ≡ Some n → (least ≤ n) × (n ≤ most)
between-these least most n None is = absurd (none-some n is)
between-these least most n (Some m) is = elim (cases_Bool (nat_le least m && nat_le m most)) [
  | inl within ↦ (let tell = both (nat_le least m) (nat_le m most) within in
      let same : m ≡ n = same_Some m n (rw within at is) in
      let low = tell.0 in
      let high = tell.1 in
      subst (λ (k : ℕ). (least ≤ k) × (k ≤ most)) same (grind (arith, low), grind (arith, high)))
  | inr outside ↦ absurd (none-some n (rw outside at is))
]

number-these : (least most n : ℕ) (word : List ℕ) → number_in least most word ≡ Some n → (least ≤ n) × (n ≤ most)
number-these least most n word is = elim (cases_Bool (has_leading_zero word)) [
  | inl zero ↦ absurd (none-some n (rw zero at is))
  | inr plain ↦ between-these least most n (number_of word) (rw plain at is)
]

-- the numbers that a check is made of
numbers-are : (start rows groups blocks : Option ℕ) (check : Check) → check_asked (self_checking start rows groups blocks) ≡ Some check
    → (start ≡ Some check.start) × (rows ≡ Some check.rows) × (groups ≡ Some check.groups) × (blocks ≡ Some check.blocks)
numbers-are None rows groups blocks check is = absurd (none-some check is)
numbers-are (Some start) None groups blocks check is = absurd (none-some check is)
numbers-are (Some start) (Some rows) None blocks check is = absurd (none-some check is)
numbers-are (Some start) (Some rows) (Some groups) None check is = absurd (none-some check is)
numbers-are (Some start) (Some rows) (Some groups) (Some blocks) check is =
    subst (λ (made : Check). (Some start ≡ Some made.start) × (Some rows ≡ Some made.rows) × (Some groups ≡ Some made.groups) × (Some blocks ≡ Some made.blocks))
    (same_Some (record { start = start; rows = rows; groups = groups; blocks = blocks }) check is) (refl, refl, refl, refl)

made-in-range : (start rows groups blocks : List ℕ) (check : Check) → check_asked (self_check_of start rows groups blocks) ≡ Some check → IsInRange check
made-in-range start rows groups blocks check is =
    let are = numbers-are (number_in 0 2147483647 start) (number_in 0 2147483647 rows) (number_in 1 2147483647 groups) (number_in 1 262144 blocks) check is in
    let of_groups = number-these 1 2147483647 check.groups groups are.2 in
    let of_blocks = number-these 1 262144 check.blocks blocks are.3 in
    record {
      start = (number-these 0 2147483647 check.start start are.0).1;
      rows = (number-these 0 2147483647 check.rows rows are.1).1;
      some_groups = of_groups.0;
      groups = of_groups.1;
      some_blocks = of_blocks.0;
      blocks = of_blocks.1;
    }

if-in-range : (b : Bool) (request : Option Request) (check : Check) → (check_asked request ≡ Some check → IsInRange check) → check_asked (if b then request else None) ≡ Some check → IsInRange check
if-in-range true request check holds is = holds is
if-in-range false request check holds is = absurd (none-some check is)

spelled-in-range : (words : List (List ℕ)) (check : Check) → check_asked (spelled words) ≡ Some check → IsInRange check
spelled-in-range [] check is = absurd (none-some check is)
spelled-in-range (verb ∷ []) check is = absurd (none-some check is)
spelled-in-range (verb ∷ plan ∷ []) check is = if-in-range (bytes_eq (codes "run") verb) (Some (Run plan)) check (λ none. absurd (none-some check none)) is
spelled-in-range (verb ∷ file ∷ column ∷ []) check is = if-in-range (bytes_eq (codes "count") verb) (Some (Count (record { file = file; column = column }))) check (λ none. absurd (none-some check none)) is
spelled-in-range (verb ∷ start ∷ rows ∷ groups ∷ []) check is = absurd (none-some check is)
spelled-in-range (verb ∷ start ∷ rows ∷ groups ∷ blocks ∷ []) check is = if-in-range (bytes_eq (codes "selfcheck") verb) (self_check_of start rows groups blocks) check (made-in-range start rows groups blocks check) is
spelled-in-range (verb ∷ start ∷ rows ∷ groups ∷ blocks ∷ word ∷ rest) check is = absurd (none-some check is)

pub check_in_range : (words : List (List ℕ)) (check : Check) → check_of words ≡ Some check → IsInRange check
check_in_range words check is = if-in-range (list_all is_operand words) (spelled words) check (spelled-in-range words check) is
