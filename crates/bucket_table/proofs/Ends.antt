-- Bytes are told apart by their first word and their last one, where these reach over all of them.
use Rattle.std.proofs.Common.{◌≡◌, ℕ, List, ◌≤◌, ◌+◌, ◌-◌, ◌++◌, length, take, drop, ap, sym, ◌∙◌, arith}
use Rattle.std.proofs.lemmas.List.{take-append-drop, drop-drop, length-drop, take_all}
use Rattle.bucket_table.specs.Regions.{cut}

-- the last word of a list
last_is : (xs : List ℕ) (at : ℕ) → at + 8 ≡ length xs → cut at 8 xs ≡ drop at xs
last_is xs at len = take_all 8 (drop at xs) (omega (arith, length-drop at xs, len))

-- what lies behind the first word is the end of the last one
behind : (xs : List ℕ) (at : ℕ) → at ≤ 8 → drop 8 xs ≡ drop (8 - at) (drop at xs)
behind xs at few =
    let word : 8 ≡ at + (8 - at) = omega (arith, few) in
    ap (λ n. drop n xs) word ∙ sym (drop-drop (8 - at) at xs)

pub ends_tell : (a b : List ℕ) (at : ℕ) → at + 8 ≡ length a → at + 8 ≡ length b → at ≤ 8 → cut 0 8 a ≡ cut 0 8 b → cut at 8 a ≡ cut at 8 b → a ≡ b
ends_tell a b at is is_b few first last =
    let rest : drop at a ≡ drop at b = sym (last_is a at is) ∙ last ∙ last_is b at is_b in
    sym (take-append-drop 8 a)
    ∙ ap (λ xs. xs ++ drop 8 a) first
    ∙ ap (λ xs. take 8 b ++ xs) (behind a at few ∙ ap (λ xs. drop (8 - at) xs) rest ∙ sym (behind b at few))
    ∙ take-append-drop 8 b
