-- Marks as bytes.
use Rattle.std.proofs.Common.{◌≡◌, ◌<◌, ◌≤◌, ◌+◌, ◌++◌, ℕ, zero, suc, List, [], ◌∷◌, length, take, drop, refl, ap, sym, ◌∙◌, subst, arith, get_or}
use Rattle.std.specs.Int.{w32, w64, to_be_bytes, from_be_bytes}
use borrow.Rule.Slice.PartMut.{put_mid, post_of}
use Rattle.std.proofs.lemmas.List.{drop-drop, get_or-drop, length-take-le, length-drop}
use Rattle.std.proofs.Math.Seq.{take-add}
use Rattle.std.proofs.lemmas.Nat.{from_be_bytes-to_be_bytes_4, from_be_bytes-to_be_bytes_8, be_bytes_4, be_bytes_8}
use Rattle.reservation_tree.specs.declared.mark.Mark.{Mark}
use Rattle.reservation_tree.specs.Marks.{mark_bytes, MarksDiffer}

-- a mark has twenty bytes
pub length-mark : (m : Mark) → length (mark_bytes m) ≡ 20
unfolding mark_bytes
length-mark m = refl

pub take-mark : (m : Mark) (rest : List ℕ) → take 20 (mark_bytes m ++ rest) ≡ mark_bytes m
unfolding mark_bytes
take-mark m rest = refl

pub drop-mark : (m : Mark) (rest : List ℕ) → drop 20 (mark_bytes m ++ rest) ≡ rest
unfolding mark_bytes
drop-mark m rest = refl

same_mark : {a b c a' b' c' : ℕ} → a ≡ a' → b ≡ b' → c ≡ c' → (let m : Mark = record { name = a; version = b; block = c } in let n : Mark = record { name = a'; version = b'; block = c' } in m ≡ n)
same_mark p q r = cc

-- marks with the same bytes are the same
pub marks_differ : MarksDiffer
unfolding mark_bytes
marks_differ m n is_m is_n same =
    let names : to_be_bytes w64 m.name ≡ to_be_bytes w64 n.name = ap (take 8) same in
    let versions : to_be_bytes w64 m.version ≡ to_be_bytes w64 n.version = ap (λ (b : List ℕ). take 8 (drop 8 b)) same in
    let blocks : to_be_bytes w32 m.block ≡ to_be_bytes w32 n.block = ap (drop 16) same in
    same_mark
    (sym (from_be_bytes-to_be_bytes_8 m.name is_m.name) ∙ ap (from_be_bytes w64) names ∙ from_be_bytes-to_be_bytes_8 n.name is_n.name)
    (sym (from_be_bytes-to_be_bytes_8 m.version is_m.version) ∙ ap (from_be_bytes w64) versions ∙ from_be_bytes-to_be_bytes_8 n.version is_n.version)
    (sym (from_be_bytes-to_be_bytes_4 m.block is_m.block) ∙ ap (from_be_bytes w32) blocks ∙ from_be_bytes-to_be_bytes_4 n.block is_n.block)

-- the three numbers, one after the other over what stood there
pub written_mark : (m : Mark) (bytes name version block : List ℕ) → name ≡ to_be_bytes w64 m.name → version ≡ to_be_bytes w64 m.version → block ≡ to_be_bytes w32 m.block
    → put_mid 16 4 (put_mid 8 8 (name ++ post_of 0 8 bytes) version) block ≡ mark_bytes m ++ drop 20 bytes
unfolding mark_bytes
written_mark m bytes name version block name_is version_is block_is =
    let rest : drop 4 (drop 8 (post_of 0 8 bytes)) ≡ drop 20 bytes = ap (drop 4) (drop-drop 8 8 bytes) ∙ drop-drop 4 16 bytes in
    (λ i. put_mid 16 4 (put_mid 8 8 (name_is i ++ post_of 0 8 bytes) (version_is i)) (block_is i))
    ∙ ap (λ (r : List ℕ). to_be_bytes w64 m.name ++ (to_be_bytes w64 m.version ++ (to_be_bytes w32 m.block ++ r))) rest

-- three numbers that spell the bytes in front
pub read_mark : (m : Mark) (bytes : List ℕ) → to_be_bytes w64 m.name ≡ take 8 bytes → to_be_bytes w64 m.version ≡ take 8 (drop 8 bytes) → to_be_bytes w32 m.block ≡ take 4 (drop 16 bytes)
    → mark_bytes m ≡ take 20 bytes
unfolding mark_bytes
read_mark m bytes name version block =
    (λ i. name i ++ (version i ++ block i))
    ∙ ap (λ (r : List ℕ). take 8 bytes ++ (take 8 (drop 8 bytes) ++ take 4 r)) (sym (drop-drop 8 8 bytes))
    ∙ ap (λ (r : List ℕ). take 8 bytes ++ r) (sym (take-add 8 4 (drop 8 bytes)))
    ∙ sym (take-add 8 12 bytes)

-- a part of a list of bytes has bytes
pub take_below : (xs : List ℕ) (n : ℕ) → ((i : ℕ) → get_or xs i 0 < 256) → (i : ℕ) → get_or (take n xs) i 0 < 256
take_below xs zero all i = omega arith
take_below [] (suc n) all i = omega arith
take_below (x ∷ xs) (suc n) all zero = all 0
take_below (x ∷ xs) (suc n) all (suc i) = take_below xs n (λ k. all (suc k)) i

pub part_below : (xs : List ℕ) (at n : ℕ) → ((i : ℕ) → get_or xs i 0 < 256) → (i : ℕ) → get_or (take n (drop at xs)) i 0 < 256
part_below xs at n all = take_below (drop at xs) n (λ i. subst (λ (v : ℕ). v < 256) (sym (get_or-drop at xs i 0)) (all (at + i)))

pub part_long : (xs : List ℕ) (at n : ℕ) → at + n ≤ length xs → length (take n (drop at xs)) ≡ n
part_long xs at n inside = length-take-le n (drop at xs) (omega (arith, length-drop at xs))

pub long_is : (xs : List ℕ) (at n : ℕ) → at + 8 ≤ length xs → ((i : ℕ) → get_or xs i 0 < 256) → n ≡ from_be_bytes w64 (take 8 (drop at xs)) → to_be_bytes w64 n ≡ take 8 (drop at xs)
long_is xs at n inside all is = be_bytes_8 (take 8 (drop at xs)) n (part_long xs at 8 inside) (part_below xs at 8 all) is

pub short_is : (xs : List ℕ) (at n : ℕ) → at + 4 ≤ length xs → ((i : ℕ) → get_or xs i 0 < 256) → n ≡ from_be_bytes w32 (take 4 (drop at xs)) → to_be_bytes w32 n ≡ take 4 (drop at xs)
short_is xs at n inside all is = be_bytes_4 (take 4 (drop at xs)) n (part_long xs at 4 inside) (part_below xs at 4 all) is
