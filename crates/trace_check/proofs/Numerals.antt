-- Numbers are read as they are written, and nothing else is.
use Rattle.std.proofs.Common.{◌≡◌, ◌≢◌, ◌<◌, ◌≤◌, ◌+◌, ◌-◌, ◌*◌, ◌^◌, ◌==◌, ℕ, List, [], ◌∷◌, ◌++◌, length, get_or, Option, Some, None, Bool, true, false, ◌&&◌, if◌then◌else◌, ltb, leb, ne_eqb, eqb-true, refl, ap, sym, ◌∙◌, subst, arith}
use borrow.Author.Tests.{eqb-false}
use Rattle.std.proofs.lemmas.Bool.{lt-ltb, ltb-true, leb-true}
use Rattle.std.specs.Str.{all_ascii_digits}
use Rattle.std.specs.Char.{is_ascii_digit}
use Rattle.std.specs.Fmt.{decimal}
use Rattle.std.proofs.lemmas.Str.Parse.{IsNumeralModel, numerals_by_fold, tells_all_ascii_digits}
use Rattle.std.proofs.lemmas.Fmt.{digits_decimal, digits_value-decimal, decimal-digits_value, first_decimal, decimal_nonempty, decimal_digit}
use Rattle.trace_check.specs.Reading.{digits_at, begins_with_digit, number_at}

-- the number that digits spell behind those so far
abbrev pub value_from : ℕ → List ℕ → ℕ
value_from n [] = n
value_from n (d ∷ ds) = value_from (n * 10 + (d - 48)) ds

own : IsNumeralModel (λ ds. all_ascii_digits ds ≡ true) (value_from 0)
own = numerals_by_fold (λ ds. all_ascii_digits ds ≡ true) tells_all_ascii_digits value_from (record { empty = λ n. refl; more = λ n c cs range. refl })

-- more digits make no smaller number
grows : (n : ℕ) (ds : List ℕ) → n ≤ value_from n ds
grows n [] = omega arith
grows n (d ∷ ds) = let more : n * 10 + (d - 48) ≤ value_from (n * 10 + (d - 48)) ds = grows (n * 10 + (d - 48)) ds in omega (arith, more)

pub both : (a b : Bool) → (a && b) ≡ true → (a ≡ true) × (b ≡ true)
both true true h = (refl, refl)
both true false h = cc
both false b h = cc

pub both_so : (a b : Bool) → a ≡ true → b ≡ true → (a && b) ≡ true
both_so a b first second = rw first second

digits_again : (n : ℕ) (ds rest : List ℕ) → all_ascii_digits ds ≡ true → begins_with_digit rest ≡ false → value_from n ds < 18446744073709551616 → digits_at n (ds ++ rest) ≡ Some (value_from n ds, rest)
digits_again n [] [] all end small = refl
digits_again n [] (b ∷ rest) all end small = ap (λ (t : Bool). if t then (if ltb (n * 10 + (b - 48)) 18446744073709551616 then digits_at (n * 10 + (b - 48)) rest else None) else Some (n, b ∷ rest)) end
digits_again n (d ∷ ds) rest all end small =
    let parts : (is_ascii_digit d ≡ true) × (all_ascii_digits ds ≡ true) = both (is_ascii_digit d) (all_ascii_digits ds) all in
    let most : n * 10 + (d - 48) ≤ value_from (n * 10 + (d - 48)) ds = grows (n * 10 + (d - 48)) ds in
    let fits : ltb (n * 10 + (d - 48)) 18446744073709551616 ≡ true = lt-ltb (n * 10 + (d - 48)) 18446744073709551616 (omega (arith, most, small)) in
    ap (λ (t : Bool). if t then (if ltb (n * 10 + (d - 48)) 18446744073709551616 then digits_at (n * 10 + (d - 48)) (ds ++ rest) else None) else Some (n, d ∷ (ds ++ rest))) parts.0
    ∙ ap (λ (t : Bool). if t then digits_at (n * 10 + (d - 48)) (ds ++ rest) else None) fits
    ∙ digits_again (n * 10 + (d - 48)) ds rest parts.1 end small

-- the parts of what was read
pub same_first : {A B : Type 0} (x y : A × B) → Some x ≡ Some y → x.0 ≡ y.0
same_first {A} {B} x y is = let same : x ≡ y = cc in ap (λ (z : A × B). z.0) same

pub same_second : {A B : Type 0} (x y : A × B) → Some x ≡ Some y → x.1 ≡ y.1
same_second {A} {B} x y is = let same : x ≡ y = cc in ap (λ (z : A × B). z.1) same

-- what digits were read
pub record Digits (so_far : ℕ) (bs : List ℕ) (n : ℕ) (rest : List ℕ) : Type 0 where
  pub digits : List ℕ
  pub all : all_ascii_digits digits ≡ true
  pub is : bs ≡ digits ++ rest
  pub value : n ≡ value_from so_far digits
  pub small : n < 18446744073709551616

digits_told : (so_far : ℕ) (bs : List ℕ) (n : ℕ) (rest : List ℕ) → so_far < 18446744073709551616 → digits_at so_far bs ≡ Some (n, rest) → Digits so_far bs n rest
digits_told so_far [] n rest small is =
    let same : so_far ≡ n = same_first (so_far, []) (n, rest) is in let none : [] ≡ rest = same_second (so_far, []) (n, rest) is in
    record { digits = []; all = refl; is = none; value = sym same; small = subst (λ (m : ℕ). m < 18446744073709551616) same small }
digits_told so_far (b ∷ bs) n rest small is =
    elim (is_ascii_digit b) as (λ t. is_ascii_digit b ≡ t → (if t then (if ltb (so_far * 10 + (b - 48)) 18446744073709551616 then digits_at (so_far * 10 + (b - 48)) bs else None) else Some (so_far, b ∷ bs)) ≡ Some (n, rest) → Digits so_far (b ∷ bs) n rest) [
      | true ↦ λ digit read.
          elim (ltb (so_far * 10 + (b - 48)) 18446744073709551616) as (λ t. ltb (so_far * 10 + (b - 48)) 18446744073709551616 ≡ t → (if t then digits_at (so_far * 10 + (b - 48)) bs else None) ≡ Some (n, rest) → Digits so_far (b ∷ bs) n rest) [
            | true ↦ λ fits more.
                let d : Digits (so_far * 10 + (b - 48)) bs n rest = digits_told (so_far * 10 + (b - 48)) bs n rest (ltb-true (so_far * 10 + (b - 48)) 18446744073709551616 fits) more in
                record { digits = b ∷ d.digits; all = both_so (is_ascii_digit b) (all_ascii_digits d.digits) digit d.all; is = ap (λ (t : List ℕ). b ∷ t) d.is; value = d.value; small = d.small }
            | false ↦ λ fits more. cc
          ] refl read
      | false ↦ λ digit read.
          let same : so_far ≡ n = same_first (so_far, b ∷ bs) (n, rest) read in let end : b ∷ bs ≡ rest = same_second (so_far, b ∷ bs) (n, rest) read in
          record { digits = []; all = refl; is = end; value = sym same; small = subst (λ (m : ℕ). m < 18446744073709551616) same small }
    ] refl is

first_small : (b : ℕ) → is_ascii_digit b ≡ true → b - 48 < 18446744073709551616
first_small b digit = let most : b ≤ 57 = leb-true b 57 (both (leb 48 b) (leb b 57) digit).1 in omega (arith, most)

again_from : (n : ℕ) (ds rest : List ℕ) → 0 < n → n < 18446744073709551616 → decimal n ≡ ds → begins_with_digit rest ≡ false → number_at (ds ++ rest) ≡ Some (n, rest)
unfolding number_at
again_from n [] rest some small is end =
    let nonempty : 0 < length (decimal n) = decimal_nonempty n small in
    absurd (omega (arith, nonempty, ap length is))
again_from n (d ∷ ds) rest some small is end =
    let above : 48 < d = subst (λ (t : List ℕ). 48 < get_or t 0 0) is (first_decimal n some small) in
    let all : all_ascii_digits (d ∷ ds) ≡ true = subst (λ (t : List ℕ). all_ascii_digits t ≡ true) is (digits_decimal own n small) in
    let value : value_from 0 (d ∷ ds) ≡ n = subst (λ (t : List ℕ). value_from 0 t ≡ n) is (digits_value-decimal own n small) in
    let other : (d == 48) ≡ false = ne_eqb d 48 (omega (arith, above)) in
    let parts : (is_ascii_digit d ≡ true) × (all_ascii_digits ds ≡ true) = both (is_ascii_digit d) (all_ascii_digits ds) all in
    let first : 0 * 10 + (d - 48) ≡ d - 48 = omega arith in
    let so : value_from (d - 48) ds ≡ n = sym (ap (λ (m : ℕ). value_from m ds) first) ∙ value in
    let read : digits_at (d - 48) (ds ++ rest) ≡ Some (value_from (d - 48) ds, rest) = digits_again (d - 48) ds rest parts.1 end (subst (λ (m : ℕ). m < 18446744073709551616) (sym so) small) in
    ap (λ (t : Bool). if t then (if begins_with_digit (ds ++ rest) then None else Some (0, ds ++ rest)) else (if is_ascii_digit d then digits_at (d - 48) (ds ++ rest) else None)) other
    ∙ ap (λ (t : Bool). if t then digits_at (d - 48) (ds ++ rest) else None) parts.0
    ∙ read ∙ ap (λ (m : ℕ). Some (m, rest)) so

zero_again : (rest : List ℕ) → begins_with_digit rest ≡ false → number_at (48 ∷ rest) ≡ Some (0, rest)
unfolding number_at
zero_again rest end = ap (λ (t : Bool). if t then None else Some (0, rest)) end

-- what was written is read, whatever follows but a digit
pub number_again : (n : ℕ) (rest : List ℕ) → n < 18446744073709551616 → begins_with_digit rest ≡ false → number_at (decimal n ++ rest) ≡ Some (n, rest)
number_again n rest small end = elim (n == 0) as (λ t. (n == 0) ≡ t → number_at (decimal n ++ rest) ≡ Some (n, rest)) [
  | true ↦ λ zero.
      let none : n ≡ 0 = eqb-true n 0 zero in
      let text : decimal n ≡ 48 ∷ [] = ap (λ (m : ℕ). decimal m) none ∙ decimal_digit 0 (omega arith) in
      ap (λ (t : List ℕ). number_at (t ++ rest)) text ∙ zero_again rest end ∙ ap (λ (m : ℕ). Some (m, rest)) (sym none)
  | false ↦ λ some.
      let other : n ≢ 0 = eqb-false n 0 some in
      again_from n (decimal n) rest (omega (arith, other)) small refl end
] refl

-- what was read was written so
pub record IsRead (bs : List ℕ) (n : ℕ) (rest : List ℕ) : Type 0 where
  pub is : bs ≡ decimal n ++ rest
  pub small : n < 2 ^ 64

pub number_told : (bs : List ℕ) (n : ℕ) (rest : List ℕ) → number_at bs ≡ Some (n, rest) → IsRead bs n rest
unfolding number_at
number_told [] n rest is = cc
number_told (b ∷ bs) n rest is =
    elim (b == 48) as (λ t. (b == 48) ≡ t → (if t then (if begins_with_digit bs then None else Some (0, bs)) else (if is_ascii_digit b then digits_at (b - 48) bs else None)) ≡ Some (n, rest) → IsRead (b ∷ bs) n rest) [
      | true ↦ λ zero read.
          let here : Option (ℕ × List ℕ) = Some (0, bs) in
          elim (begins_with_digit bs) as (λ (t : Bool). (if t then None else here) ≡ Some (n, rest) → IsRead (b ∷ bs) n rest) [
            | true ↦ λ more. cc
            | false ↦ λ more.
                let none : 0 ≡ n = same_first (0, bs) (n, rest) more in let end : bs ≡ rest = same_second (0, bs) (n, rest) more in
                record {
                  is = ap (λ (c : ℕ). c ∷ bs) (eqb-true b 48 zero) ∙ ap (λ (t : List ℕ). 48 ∷ t) end ∙ ap (λ (t : List ℕ). t ++ rest) (sym (decimal_digit 0 (omega arith))) ∙ ap (λ (m : ℕ). decimal m ++ rest) none;
                  small = subst (λ (m : ℕ). m < 2 ^ 64) none (omega arith);
                }
          ] read
      | false ↦ λ some read.
          elim (is_ascii_digit b) as (λ t. is_ascii_digit b ≡ t → (if t then digits_at (b - 48) bs else None) ≡ Some (n, rest) → IsRead (b ∷ bs) n rest) [
            | true ↦ λ digit more.
                let other : b ≢ 48 = eqb-false b 48 some in
                let first : b - 48 < 18446744073709551616 = first_small b digit in
                let d : Digits (b - 48) bs n rest = digits_told (b - 48) bs n rest first more in
                let zero : 0 * 10 + (b - 48) ≡ b - 48 = omega arith in
                let value : value_from 0 (b ∷ d.digits) ≡ n = ap (λ (m : ℕ). value_from m d.digits) zero ∙ sym d.value in
                let text : decimal (value_from 0 (b ∷ d.digits)) ≡ b ∷ d.digits =
                decimal-digits_value own (b ∷ d.digits) (both_so (is_ascii_digit b) (all_ascii_digits d.digits) digit d.all) (omega arith) (λ same. absurd (other same)) (subst (λ (m : ℕ). m < 18446744073709551616) (sym value) d.small) in
                record {
                  is = ap (λ (t : List ℕ). b ∷ t) d.is ∙ ap (λ (t : List ℕ). t ++ rest) (sym text) ∙ ap (λ (m : ℕ). decimal m ++ rest) value;
                  small = d.small;
                }
            | false ↦ λ digit more. cc
          ] refl read
    ] refl is
