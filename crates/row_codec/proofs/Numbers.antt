-- Numbers and the bytes that spell them.
use Rattle.std.proofs.Common.{◌≡◌, ℕ, zero, suc, ◌+◌, ◌*◌, ◌/◌, ◌%◌, ◌^◌, ◌<◌, List, [], ◌∷◌, length, refl, sym, ap, ◌∙◌, lit<, arith}
use Rattle.std.specs.Prelude.{fold}
use Rattle.std.specs.List.{AllByRecursion}
use Rattle.std.specs.Int.{w32, w64, w128, from_be_bytes, bytes_high_first, byte_at}
use Rattle.std.proofs.Math.Arith.{mod-mul}
use Rattle.std.proofs.Math.Nat.{pow-suc, pow-succ', div-one}
use Rattle.std.proofs.lemmas.Nat.{mul-add-lt, div-mul-add, mod-mul-add}
use Rattle.row_codec.specs.RowReading.{number_in}

pub number_of_4 : (bs : List ℕ) → length bs ≡ 4 → from_be_bytes w32 bs ≡ number_in bs
number_of_4 (a ∷ b ∷ c ∷ d ∷ []) e = omega arith
number_of_4 _ e = absurd (omega arith)

pub number_of_8 : (bs : List ℕ) → length bs ≡ 8 → from_be_bytes w64 bs ≡ number_in bs
number_of_8 (a ∷ b ∷ c ∷ d ∷ e ∷ f ∷ g ∷ h ∷ []) is = omega arith
number_of_8 _ is = absurd (omega arith)

pub number_of_16 : (bs : List ℕ) → length bs ≡ 16 → from_be_bytes w128 bs ≡ number_in bs
number_of_16 (a ∷ b ∷ c ∷ d ∷ e ∷ f ∷ g ∷ h ∷ i ∷ j ∷ k ∷ l ∷ m ∷ n ∷ o ∷ p ∷ []) is = omega arith
number_of_16 _ is = absurd (omega arith)

-- the number of these bytes behind a number
abbrev pub onto : ℕ → List ℕ → ℕ
onto number bytes = fold (λ n byte. n * 256 + byte) number bytes

abbrev pub AreBytes : List ℕ → Type 0
AreBytes = AllByRecursion (λ byte. byte < 256)

pow_pos_256 : (k : ℕ) → 0 < 256 ^ k
pow_pos_256 zero = omega arith
pow_pos_256 (suc k) = rw (pow-suc 256 k) (let below = pow_pos_256 k in omega arith)

byte_is : (k n : ℕ) → byte_at k n ≡ n / 256 ^ k % 256
byte_is zero n = ap (λ m. m % 256) (sym (div-one n))
byte_is (suc k) n = refl

-- one digit moves from behind a number into it
digit_joins : (start b p low q t : ℕ) → q ≡ p * 256 → t ≡ b * p + low → (start * 256 + b) * p + low ≡ start * q + t
digit_joins start b p low q t q_is t_is = rw (q_is, t_is) (omega arith)

-- the last bytes of a number, read
pub read_back : (count start n : ℕ) → onto start (bytes_high_first count n) ≡ start * 256 ^ count + n % 256 ^ count
read_back zero start n = omega arith
read_back (suc k) start n =
    let later = read_back k (start * 256 + byte_at k n) n in
    let digits : n % (256 * 256 ^ k) ≡ (n / 256 ^ k % 256) * 256 ^ k + n % 256 ^ k = mod-mul n (omega arith) (pow_pos_256 k) in
    let last : n % 256 ^ suc k ≡ byte_at k n * 256 ^ k + n % 256 ^ k =
    ap (λ m. n % m) (pow-succ' 256 k) ∙ digits ∙ ap (λ b. b * 256 ^ k + n % 256 ^ k) (sym (byte_is k n)) in
    later ∙ digit_joins start (byte_at k n) (256 ^ k) (n % 256 ^ k) (256 ^ suc k) (n % 256 ^ suc k) (pow-suc 256 k) last

-- what bytes say is a number below the power that they reach
low_part : (start : ℕ) (bs : List ℕ) → AreBytes bs → (low : ℕ) × (onto start bs ≡ start * 256 ^ length bs + low) × (low < 256 ^ length bs)
low_part start [] small = (0, omega arith, lit< tt)
low_part start (b ∷ bs) small =
    let later = low_part (start * 256 + b) bs small.1 in (
      b * 256 ^ length bs + later.0,
      later.1 ∙ digit_joins start b (256 ^ length bs) later.0 (256 ^ suc (length bs)) _ (pow-suc 256 (length bs)) refl,
      rw (pow-suc 256 (length bs)) (mul-add-lt b (256 ^ length bs) later.0 256 small.0 later.2),
    )

pub number_below : (bs : List ℕ) → AreBytes bs → number_in bs < 256 ^ length bs
number_below bs small = let part = low_part 0 bs small in omega arith

-- the bytes of what bytes say
pub spelled_again : (start : ℕ) (bs : List ℕ) → AreBytes bs → bytes_high_first (length bs) (onto start bs) ≡ bs
spelled_again start [] small = refl
spelled_again start (b ∷ bs) small =
    let part = low_part (start * 256 + b) bs small.1 in
    let later = spelled_again (start * 256 + b) bs small.1 in
    let head : byte_at (length bs) (onto (start * 256 + b) bs) ≡ b =
    byte_is (length bs) (onto (start * 256 + b) bs)
    ∙ ap (λ v. v / 256 ^ length bs % 256) part.1
    ∙ ap (λ v. v % 256) (div-mul-add (start * 256 + b) (256 ^ length bs) part.0 part.2)
    ∙ mod-mul-add start 256 b small.0 in
    λ i. head i ∷ later i
