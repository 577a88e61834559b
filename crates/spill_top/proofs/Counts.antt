-- Words that are a count, and words that are none.
use Rattle.std.proofs.Common.{◌≡◌, refl, Bool, true, false, ℕ, List, [], ◌∷◌, Option, Some, None, codes, get_or, length, arith}
use Rattle.std.specs.List.{list_all}
use Rattle.std.specs.Prelude.{◌≢◌, if◌then◌else◌}
use Rattle.std.specs.Str.{bytes_eq}
use Rattle.spill_top.specs.Words.{Count, Request, Run, command_of, count_asked, is_operand, number_in, plan_asked, plan_file_of, self_check_of, self_checking, spelled}

none-if : (b : Bool) (request : Option Request) → count_asked request ≡ None → count_asked (if b then request else None) ≡ None
none-if true request e = e
none-if false request e = refl

no-check : (start rows groups blocks : Option ℕ) → count_asked (self_checking start rows groups blocks) ≡ None
no-check None rows groups blocks = refl
no-check (Some start) None groups blocks = refl
no-check (Some start) (Some rows) None blocks = refl
no-check (Some start) (Some rows) (Some groups) None = refl
no-check (Some start) (Some rows) (Some groups) (Some blocks) = refl

-- words of another number
none-spelled : (words : List (List ℕ)) → length words ≢ 3 → count_asked (spelled words) ≡ None
none-spelled [] other = refl
none-spelled (verb ∷ []) other = refl
none-spelled (verb ∷ plan ∷ []) other = none-if (bytes_eq (codes "run") verb) (Some (Run plan)) refl
none-spelled (verb ∷ file ∷ column ∷ []) other = absurd (other refl)
none-spelled (verb ∷ start ∷ rows ∷ groups ∷ []) other = refl
none-spelled (verb ∷ start ∷ rows ∷ groups ∷ blocks ∷ []) other =
    none-if (bytes_eq (codes "selfcheck") verb) (self_check_of start rows groups blocks) (no-check (number_in 0 2147483647 start) (number_in 0 2147483647 rows) (number_in 1 2147483647 groups) (number_in 1 262144 blocks))
none-spelled (verb ∷ start ∷ rows ∷ groups ∷ blocks ∷ word ∷ rest) other = refl

pub not_three : (words : List (List ℕ)) → length words ≢ 3 → command_of words ≡ None
not_three words other = none-if _ (spelled words) (none-spelled words other)

-- three words: the first tells
pub three_count : (words : List (List ℕ)) → length words ≡ 3 → list_all is_operand words ≡ true → bytes_eq (codes "count") (get_or words 0 []) ≡ true → command_of words ≢ None
three_count [] len all is = absurd (omega (arith, len))
three_count (verb ∷ []) len all is = absurd (omega (arith, len))
three_count (verb ∷ file ∷ []) len all is = absurd (omega (arith, len))
three_count (verb ∷ file ∷ column ∷ []) len all is =
    let count : command_of (verb ∷ file ∷ column ∷ []) ≡ Some (record { file = file; column = column }) = rw (all, is) refl in
    λ none. cc
three_count (verb ∷ file ∷ column ∷ word ∷ rest) len all is = absurd (omega (arith, len))

pub three_other : (words : List (List ℕ)) → length words ≡ 3 → bytes_eq (codes "count") (get_or words 0 []) ≡ false → command_of words ≡ None
three_other [] len is = absurd (omega (arith, len))
three_other (verb ∷ []) len is = absurd (omega (arith, len))
three_other (verb ∷ file ∷ []) len is = absurd (omega (arith, len))
three_other (verb ∷ file ∷ column ∷ []) len is = none-if _ (spelled (verb ∷ file ∷ column ∷ [])) (rw is refl)
three_other (verb ∷ file ∷ column ∷ word ∷ rest) len is = absurd (omega (arith, len))

-- the same of words that are a run of a plan
no-plan-if : (b : Bool) (request : Option Request) → plan_asked request ≡ None → plan_asked (if b then request else None) ≡ None
no-plan-if true request e = e
no-plan-if false request e = refl

no-plan-check : (start rows groups blocks : Option ℕ) → plan_asked (self_checking start rows groups blocks) ≡ None
no-plan-check None rows groups blocks = refl
no-plan-check (Some start) None groups blocks = refl
no-plan-check (Some start) (Some rows) None blocks = refl
no-plan-check (Some start) (Some rows) (Some groups) None = refl
no-plan-check (Some start) (Some rows) (Some groups) (Some blocks) = refl

no-plan-spelled : (words : List (List ℕ)) → length words ≢ 2 → plan_asked (spelled words) ≡ None
no-plan-spelled [] other = refl
no-plan-spelled (verb ∷ []) other = refl
no-plan-spelled (verb ∷ plan ∷ []) other = absurd (other refl)
no-plan-spelled (verb ∷ file ∷ column ∷ []) other = no-plan-if (bytes_eq (codes "count") verb) (Some (Count (record { file = file; column = column }))) refl
no-plan-spelled (verb ∷ start ∷ rows ∷ groups ∷ []) other = refl
no-plan-spelled (verb ∷ start ∷ rows ∷ groups ∷ blocks ∷ []) other =
    no-plan-if (bytes_eq (codes "selfcheck") verb) (self_check_of start rows groups blocks) (no-plan-check (number_in 0 2147483647 start) (number_in 0 2147483647 rows) (number_in 1 2147483647 groups) (number_in 1 262144 blocks))
no-plan-spelled (verb ∷ start ∷ rows ∷ groups ∷ blocks ∷ word ∷ rest) other = refl

pub not_two : (words : List (List ℕ)) → length words ≢ 2 → plan_file_of words ≡ None
not_two words other = no-plan-if _ (spelled words) (no-plan-spelled words other)

pub two_run : (words : List (List ℕ)) → length words ≡ 2 → list_all is_operand words ≡ true → bytes_eq (codes "run") (get_or words 0 []) ≡ true → plan_file_of words ≢ None
two_run [] len all is = absurd (omega (arith, len))
two_run (verb ∷ []) len all is = absurd (omega (arith, len))
two_run (verb ∷ plan ∷ []) len all is =
    let run : plan_file_of (verb ∷ plan ∷ []) ≡ Some plan = rw (all, is) refl in
    λ none. cc
two_run (verb ∷ plan ∷ word ∷ rest) len all is = absurd (omega (arith, len))

pub two_other : (words : List (List ℕ)) → length words ≡ 2 → bytes_eq (codes "run") (get_or words 0 []) ≡ false → plan_file_of words ≡ None
two_other [] len is = absurd (omega (arith, len))
two_other (verb ∷ []) len is = absurd (omega (arith, len))
two_other (verb ∷ plan ∷ []) len is = no-plan-if _ (spelled (verb ∷ plan ∷ [])) (rw is refl)
two_other (verb ∷ plan ∷ word ∷ rest) len is = absurd (omega (arith, len))

-- words that are no operands are neither
pub no_operands : (words : List (List ℕ)) → list_all is_operand words ≡ false → (command_of words ≡ None) × (plan_file_of words ≡ None)
no_operands words none = (rw none refl, rw none refl)
