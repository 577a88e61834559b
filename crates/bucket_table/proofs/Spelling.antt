-- Numbers and the bytes that spell them.
use Rattle.std.proofs.Common.{◌≡◌, ℕ, zero, suc, ◌+◌, ◌*◌, ◌<◌, ◌^◌, ◌/◌, ◌%◌, List, [], ◌∷◌, ◌++◌, get_or, replicate, length, refl, sym, ◌∙◌, arith}
use Rattle.std.specs.Int.{byte_at, w32, w64, w128, from_be_bytes, from_le_bytes, swap_bytes, to_be_bytes, to_le_bytes}
use borrow.Rule.Slice.PartMut.{put_mid}
use Rattle.std.proofs.lemmas.Nat.{from_be_bytes-to_be_bytes_4, le_bytes_8}
use Rattle.row_codec.specs.RowReading.{number_in}

pub number_of_4 : (bs : List ℕ) → length bs ≡ 4 → from_be_bytes w32 bs ≡ number_in bs
number_of_4 (a ∷ b ∷ c ∷ d ∷ []) e = omega arith
number_of_4 _ e = absurd (omega arith)

pub number_of_16 : (bs : List ℕ) → length bs ≡ 16 → from_be_bytes w128 bs ≡ number_in bs
number_of_16 (a ∷ b ∷ c ∷ d ∷ e ∷ f ∷ g ∷ h ∷ i ∷ j ∷ k ∷ l ∷ m ∷ n ∷ o ∷ p ∷ []) is = omega arith
number_of_16 _ is = absurd (omega arith)

-- a link that was written is read
pub link_back : (n : ℕ) → n < 2 ^ 32 → number_in (to_be_bytes w32 n) ≡ n
link_back n short = sym (number_of_4 (to_be_bytes w32 n) refl) ∙ from_be_bytes-to_be_bytes_4 n short

-- ---- sixteen bytes in two halves

-- eight bytes, the least significant first
module _ (a b c d e f g h : ℕ) (a< : a < 256) (b< : b < 256) (c< : c < 256) (d< : d < 256) (e< : e < 256) (f< : f < 256) (g< : g < 256) (h< : h < 256) where
  small : (i : ℕ) → get_or (a ∷ b ∷ c ∷ d ∷ e ∷ f ∷ g ∷ h ∷ []) i 0 < 256
  small zero = a<
  small (suc zero) = b<
  small (suc (suc zero)) = c<
  small (suc (suc (suc zero))) = d<
  small (suc (suc (suc (suc zero)))) = e<
  small (suc (suc (suc (suc (suc zero))))) = f<
  small (suc (suc (suc (suc (suc (suc zero)))))) = g<
  small (suc (suc (suc (suc (suc (suc (suc zero))))))) = h<
  small (suc (suc (suc (suc (suc (suc (suc (suc i)))))))) = omega arith

  half_bytes : (n : ℕ) → n ≡ from_le_bytes w64 (a ∷ b ∷ c ∷ d ∷ e ∷ f ∷ g ∷ h ∷ []) → to_le_bytes w64 n ≡ a ∷ b ∷ c ∷ d ∷ e ∷ f ∷ g ∷ h ∷ []
  half_bytes n is = le_bytes_8 (a ∷ b ∷ c ∷ d ∷ e ∷ f ∷ g ∷ h ∷ []) n refl small is

  half_short : from_le_bytes w64 (a ∷ b ∷ c ∷ d ∷ e ∷ f ∷ g ∷ h ∷ []) < 2 ^ 64
  half_short = omega (arith, a<, b<, c<, d<, e<, f<, g<, h<)

low_half : (n low high : ℕ) → low < 2 ^ 64 → n ≡ high * 2 ^ 64 + low → n % 2 ^ 64 ≡ low
low_half n low high short is = omega (arith, short, is)

high_half : (n low high : ℕ) → low < 2 ^ 64 → n ≡ high * 2 ^ 64 + low → n / 2 ^ 64 ≡ high
high_half n low high short is = omega (arith, short, is)

-- the number of sixteen bytes, by halves
module _ (b0 b1 b2 b3 b4 b5 b6 b7 b8 b9 b10 b11 b12 b13 b14 b15 : ℕ) (n : ℕ) (is : n ≡ from_be_bytes w128 (b0 ∷ b1 ∷ b2 ∷ b3 ∷ b4 ∷ b5 ∷ b6 ∷ b7 ∷ b8 ∷ b9 ∷ b10 ∷ b11 ∷ b12 ∷ b13 ∷ b14 ∷ b15 ∷ [])) (b0< : b0 < 256) (b1< : b1 < 256) (b2< : b2 < 256) (b3< : b3 < 256) (b4< : b4 < 256) (b5< : b5 < 256) (b6< : b6 < 256) (b7< : b7 < 256) (b8< : b8 < 256) (b9< : b9 < 256) (b10< : b10 < 256) (b11< : b11 < 256) (b12< : b12 < 256) (b13< : b13 < 256) (b14< : b14 < 256) (b15< : b15 < 256) where
  in_halves : n ≡ from_le_bytes w64 (b7 ∷ b6 ∷ b5 ∷ b4 ∷ b3 ∷ b2 ∷ b1 ∷ b0 ∷ []) * 2 ^ 64 + from_le_bytes w64 (b15 ∷ b14 ∷ b13 ∷ b12 ∷ b11 ∷ b10 ∷ b9 ∷ b8 ∷ [])
  in_halves = omega (arith, is)

  spelled_back : put_mid 8 8 (to_le_bytes w64 (n % 2 ^ 64) ++ replicate 8 0) (to_le_bytes w64 (n / 2 ^ 64)) ≡ b15 ∷ b14 ∷ b13 ∷ b12 ∷ b11 ∷ b10 ∷ b9 ∷ b8 ∷ b7 ∷ b6 ∷ b5 ∷ b4 ∷ b3 ∷ b2 ∷ b1 ∷ b0 ∷ []
  spelled_back =
      let short = half_short b15 b14 b13 b12 b11 b10 b9 b8 b15< b14< b13< b12< b11< b10< b9< b8< in
      let low = half_bytes b15 b14 b13 b12 b11 b10 b9 b8 b15< b14< b13< b12< b11< b10< b9< b8< (n % 2 ^ 64) (low_half n _ _ short in_halves) in
      let high = half_bytes b7 b6 b5 b4 b3 b2 b1 b0 b7< b6< b5< b4< b3< b2< b1< b0< (n / 2 ^ 64) (high_half n _ _ short in_halves) in
      λ i. put_mid 8 8 (low i ++ replicate 8 0) (high i)

-- a number whose bytes are turned round, and then spelled the least significant byte first
pub spelled_turned : (v n : ℕ) → n ≡ swap_bytes w128 v → put_mid 8 8 (to_le_bytes w64 (n % 2 ^ 64) ++ replicate 8 0) (to_le_bytes w64 (n / 2 ^ 64)) ≡ to_be_bytes w128 v
spelled_turned v n is =
    spelled_back (byte_at 0 v) (byte_at 1 v) (byte_at 2 v) (byte_at 3 v) (byte_at 4 v) (byte_at 5 v) (byte_at 6 v) (byte_at 7 v) (byte_at 8 v) (byte_at 9 v) (byte_at 10 v) (byte_at 11 v) (byte_at 12 v) (byte_at 13 v) (byte_at 14 v) (byte_at 15 v) n is
    (omega arith) (omega arith) (omega arith) (omega arith) (omega arith) (omega arith) (omega arith) (omega arith) (omega arith) (omega arith) (omega arith) (omega arith) (omega arith) (omega arith) (omega arith) (omega arith)
