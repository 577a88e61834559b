-- A number whose bytes and nibbles are turned round.
use Rattle.std.proofs.Common.{◌≡◌, ℕ, ◌+◌, ◌-◌, ◌*◌, ◌/◌, ◌%◌, ◌^◌, suc, zero, ◌<◌, ◌≤◌, List, [], ◌∷◌, map, refl, sym, ap, ◌∙◌, lit<, arith}
use Rattle.std.specs.Prelude.{bit_and}
use Rattle.std.specs.List.{range_with_len}
use Rattle.std.specs.Int.{w64, swap_bytes, to_le_bytes, bytes_low_first}
use Rattle.std.proofs.lemmas.Nat.{and_block, and_mask}
use Rattle.std.proofs.Math.Nat as nat
use Rattle.row_codec.specs.KeyInside.{number_from}
use Rattle.row_codec.specs.Order.{nibble_of}
use Rattle.row_codec.proofs.Numbers.{AreBytes, onto, number_of_8}

-- the lower halves of bytes, cut out by one mask
lower_halves : (a m : ℕ) (bs : List ℕ) → AreBytes bs → bit_and (onto a bs) (onto m (map (λ _. 15) bs)) ≡ onto (bit_and a m) (map (λ b. b % 16) bs)
lower_halves a m [] small = refl
lower_halves a m (b ∷ bs) small =
    let step : bit_and (a * 256 + b) (m * 256 + 15) ≡ bit_and a m * 256 + b % 16 =
    and_block 8 a m b 15 small.0 (lit< tt) ∙ ap (λ r. bit_and a m * 256 + r) (and_mask b 4) in
    lower_halves (a * 256 + b) (m * 256 + 15) bs small.1 ∙ ap (λ n. onto n (map (λ b. b % 16) bs)) step

-- bytes are their lower and their upper halves
halves_add : (low high : ℕ) (bs : List ℕ) → onto (low + high * 16) bs ≡ onto low (map (λ b. b % 16) bs) + onto high (map (λ b. b / 16) bs) * 16
halves_add low high [] = refl
halves_add low high (b ∷ bs) =
    let step : (low + high * 16) * 256 + b ≡ (low * 256 + b % 16) + (high * 256 + b / 16) * 16 = omega arith in
    ap (λ n. onto n bs) step ∙ halves_add (low * 256 + b % 16) (high * 256 + b / 16) bs

low_nibble : (n : ℕ) → n % 16 ≡ n % 256 % 16
low_nibble n = omega arith

high_nibble : (n k : ℕ) → n / (k * 16) % 16 ≡ n / k % 256 / 16
high_nibble n k = ap (λ m. m % 16) (sym (nat.div-div-eq-div-mul n k 16)) ∙ (let m = n / k in omega arith)

abbrev low_of : List ℕ → ℕ
low_of bs = onto 0 (map (λ b. b % 16) bs)

abbrev high_of : List ℕ → ℕ
high_of bs = onto 0 (map (λ b. b / 16) bs)

halves_fit : (p q r s t u v w : ℕ) → p < 256 → q < 256 → r < 256 → s < 256 → t < 256 → u < 256 → v < 256 → w < 256 → (let bs : List ℕ = p ∷ q ∷ r ∷ s ∷ t ∷ u ∷ v ∷ w ∷ [] in low_of bs * 16 + high_of bs < 2 ^ 64)
halves_fit p q r s t u v w p' q' r' s' t' u' v' w' = omega arith

bytes_small : (i k n : ℕ) → AreBytes (bytes_low_first i k n)
bytes_small i zero n = tt
bytes_small zero (suc k) n = (omega arith, bytes_small 1 k n)
bytes_small (suc i) (suc k) n = (omega arith, bytes_small (suc (suc i)) k n)

joined : (p q r s t u v w a b c d e f g h i j k l m n o z : ℕ) → a ≡ p % 16 → b ≡ p / 16 → c ≡ q % 16 → d ≡ q / 16 → e ≡ r % 16 → f ≡ r / 16 → g ≡ s % 16 → h ≡ s / 16 → i ≡ t % 16 → j ≡ t / 16 → k ≡ u % 16 → l ≡ u / 16 → m ≡ v % 16 → n ≡ v / 16 → o ≡ w % 16 → z ≡ w / 16
    → low_of (p ∷ q ∷ r ∷ s ∷ t ∷ u ∷ v ∷ w ∷ []) * 16 + high_of (p ∷ q ∷ r ∷ s ∷ t ∷ u ∷ v ∷ w ∷ []) ≡ number_from 0 (a ∷ b ∷ c ∷ d ∷ e ∷ f ∷ g ∷ h ∷ i ∷ j ∷ k ∷ l ∷ m ∷ n ∷ o ∷ z ∷ [])
joined p q r s t u v w a b c d e f g h i j k l m n o z a' b' c' d' e' f' g' h' i' j' k' l' m' n' o' z' = rw (a', b', c', d', e', f', g', h', i', j', k', l', m', n', o', z') (omega arith)

halves_join : (hash : ℕ) → low_of (to_le_bytes w64 hash) * 16 + high_of (to_le_bytes w64 hash) ≡ number_from 0 (map (nibble_of hash) (range_with_len 0 16))
halves_join hash =
    joined _ _ _ _ _ _ _ _ _ _ _ _ _ _ _ _ _ _ _ _ _ _ _ _
    (ap (λ n. n % 16) (nat.div-one hash) ∙ low_nibble hash) (high_nibble hash 1 ∙ ap (λ n. n % 256 / 16) (nat.div-one hash))
    (low_nibble (hash / 256)) (high_nibble hash 256)
    (low_nibble (hash / 65536)) (high_nibble hash 65536)
    (low_nibble (hash / 16777216)) (high_nibble hash 16777216)
    (low_nibble (hash / 4294967296)) (high_nibble hash 4294967296)
    (low_nibble (hash / 1099511627776)) (high_nibble hash 1099511627776)
    (low_nibble (hash / 281474976710656)) (high_nibble hash 281474976710656)
    (low_nibble (hash / 72057594037927936)) (high_nibble hash 72057594037927936)

upper_half : (turned low lower upper : ℕ) → turned ≡ lower + upper * 16 → low ≡ lower → (low ≤ turned) × ((turned - low) / 16 ≡ upper)
upper_half turned low lower upper whole is = (omega arith, rw (whole, is) (omega arith))

-- a number with its bytes turned round, and the lower halves of these
pub record Turned (hash turned low : ℕ) : Type 0 where
  pub within : low ≤ turned
  pub number : low * 16 + (turned - low) / 16 ≡ number_from 0 (map (nibble_of hash) (range_with_len 0 16))
  pub fits : low * 16 + (turned - low) / 16 < 2 ^ 64

pub is_turned : (hash turned low : ℕ) → turned ≡ swap_bytes w64 hash → low ≡ bit_and turned 1085102592571150095 → Turned hash turned low
is_turned hash turned low turned_is low_is =
    let bs : List ℕ = to_le_bytes w64 hash in
    let small : AreBytes bs = bytes_small 0 8 hash in
    let whole : turned ≡ onto 0 bs = turned_is ∙ number_of_8 bs refl in
    let lower : low ≡ low_of bs = low_is ∙ ap (λ n. bit_and n 1085102592571150095) whole ∙ lower_halves 0 0 bs small in
    let split : onto 0 bs ≡ low_of bs + high_of bs * 16 = halves_add 0 0 bs in
    let upper = upper_half turned low (low_of bs) (high_of bs) (whole ∙ split) lower in
    record {
      within = upper.0;
      number = rw (upper.1, lower) (halves_join hash);
      fits = rw (upper.1, lower) (halves_fit _ _ _ _ _ _ _ _ small.0 small.1.0 small.1.1.0 small.1.1.1.0 small.1.1.1.1.0 small.1.1.1.1.1.0 small.1.1.1.1.1.1.0 small.1.1.1.1.1.1.1.0);
    }
