-- Blocks of one length, joined end to end, and what is read and written in them.
use Rattle.std.proofs.Common.{◌≡◌, ℕ, ◌+◌, ◌-◌, ◌*◌, ◌/◌, ◌%◌, ◌^◌, ◌<◌, ◌≤◌, List, [], ◌∷◌, ◌++◌, length, take, drop, get_or, set, refl, sym, ap, ◌∙◌, arith, lit<, suc, zero, Some, add-one, add-zero, zero-add, slice_range, append-nil, replicate, append_assoc, length-append}
use Rattle.std.specs.List.{concat}
use Rattle.std.proofs.lemmas.List.{take_at, drop_at, take_all, drop_all, drop-drop, drop-append-le, take-append-le, drop_more, set_split, take-append-drop, length-drop, length-take, length-take-le, get_or_default, nil_from_length, replicate-append-replicate}
use Rattle.std.proofs.lemmas.Nat.{div-add-mod'}
use Rattle.std.proofs.Math.Nat.{mul-le-mul_right, pow-le-pow_right}
use Rattle.std.proofs.Math.Pow.{shl_lt}
use Rattle.std.proofs.lemmas.List.Elements.{All-head, All-tail, All-take, All-get_or, All-pop, All-push, All-same}
use Rattle.block_arena.proofs.Copies.{length-written}
use Rattle.block_arena.specs.Blocks.{AreBlocks}
use Rattle.block_arena.specs.Bytes.{fitted, written}
use Rattle.block_arena.specs.Memory.{Buffer}

pub concat-append : (xs ys : List (List ℕ)) → concat (xs ++ ys) ≡ concat xs ++ concat ys
concat-append [] ys = refl
concat-append (x ∷ xs) ys = ap (λ zs. x ++ zs) (concat-append xs ys) ∙ sym (append_assoc x (concat xs) (concat ys))

pub length-blocks : (b : ℕ) (blocks : List (List ℕ)) → AreBlocks b blocks → length (concat blocks) ≡ length blocks * b
length-blocks b [] all = omega arith
length-blocks b (x ∷ xs) all =
    let head : length x ≡ b = All-head (λ block. length block ≡ b) x xs all in
    let rest : length (concat xs) ≡ length xs * b = length-blocks b xs (All-tail (λ block. length block ≡ b) x xs all) in
    omega (arith, length-append x (concat xs))

-- the list as what stands before a block, the block, and what stands after it
pub split_blocks : (blocks : List (List ℕ)) (i : ℕ) → i < length blocks → concat blocks ≡ concat (take i blocks) ++ (get_or blocks i [] ++ concat (drop (i + 1) blocks))
split_blocks blocks i inside =
    ap concat (sym (take-append-drop i blocks)) ∙ concat-append (take i blocks) (drop i blocks) ∙ ap (λ rest. concat (take i blocks) ++ concat rest) (drop_more blocks i [] inside)

pub length_before : (b : ℕ) (blocks : List (List ℕ)) (i : ℕ) → AreBlocks b blocks → i ≤ length blocks → length (concat (take i blocks)) ≡ i * b
length_before b blocks i all inside =
    length-blocks b (take i blocks) (All-take (λ block. length block ≡ b) i blocks all) ∙ ap (λ n. n * b) (length-take-le i blocks inside)

read_inside : (front block rest : List ℕ) (j n : ℕ) → j + n ≤ length block → take n (drop (length front + j) (front ++ (block ++ rest))) ≡ take n (drop j block)
read_inside front block rest j n inside =
    let past : drop (length front) (front ++ (block ++ rest)) ≡ block ++ rest = drop_at front (block ++ rest) (length front) refl in
    let here : drop (length front + j) (front ++ (block ++ rest)) ≡ drop j (block ++ rest) = sym (drop-drop j (length front) (front ++ (block ++ rest))) ∙ ap (drop j) past in
    let cut : drop j (block ++ rest) ≡ drop j block ++ rest = drop-append-le j block rest (omega arith) in
    ap (take n) (here ∙ cut) ∙ take-append-le n (drop j block) rest (omega (arith, length-drop j block))

-- what stands in a block is read from the joined list
pub read_block : (b : ℕ) (blocks : List (List ℕ)) (i j n : ℕ) → AreBlocks b blocks → i < length blocks → j + n ≤ b → take n (drop (i * b + j) (concat blocks)) ≡ take n (drop j (get_or blocks i []))
read_block b blocks i j n all inside fits =
    let before : length (concat (take i blocks)) ≡ i * b = length_before b blocks i all (omega arith) in
    let size : length (get_or blocks i []) ≡ b = All-get_or (λ block. length block ≡ b) blocks i [] inside all in
    ap (λ bytes. take n (drop (i * b + j) bytes)) (split_blocks blocks i inside)
    ∙ ap (λ k. take n (drop (k + j) (concat (take i blocks) ++ (get_or blocks i [] ++ concat (drop (i + 1) blocks))))) (sym before)
    ∙ read_inside (concat (take i blocks)) (get_or blocks i []) (concat (drop (i + 1) blocks)) j n (omega arith)

before_block : (front block rest : List ℕ) (j : ℕ) → j ≤ length block → take (length front + j) (front ++ (block ++ rest)) ≡ front ++ take j block
before_block [] block rest j inside = rw zero-add (take-append-le j block rest inside)
before_block (x ∷ xs) block rest j inside =
    let e : suc (length xs) + j ≡ suc (length xs + j) = omega arith in
    rw e (ap (λ ys. x ∷ ys) (before_block xs block rest j inside))

write_inside : (front block rest piece : List ℕ) (j : ℕ) → j + length piece ≤ length block → written (length front + j) piece (front ++ (block ++ rest)) ≡ front ++ (written j piece block ++ rest)
write_inside front block rest piece j inside =
    let n : ℕ = length piece in
    let head : take (length front + j) (front ++ (block ++ rest)) ≡ front ++ take j block = before_block front block rest j (omega arith) in
    let past : drop (length front) (front ++ (block ++ rest)) ≡ block ++ rest = drop_at front (block ++ rest) (length front) refl in
    let tail : drop (length front + j + n) (front ++ (block ++ rest)) ≡ drop (j + n) block ++ rest =
    ap (λ k. drop k (front ++ (block ++ rest))) (let e : length front + j + n ≡ length front + (j + n) = omega arith in e)
    ∙ sym (drop-drop (j + n) (length front) (front ++ (block ++ rest))) ∙ ap (drop (j + n)) past ∙ drop-append-le (j + n) block rest inside
    in
    rw (head, tail) (simp append_assoc)

-- what is written into a block is written into the joined list
pub write_block : (b : ℕ) (blocks : List (List ℕ)) (i j : ℕ) (piece : List ℕ) → AreBlocks b blocks → i < length blocks → j + length piece ≤ b → concat (set blocks i (written j piece (get_or blocks i []))) ≡ written (i * b + j) piece (concat blocks)
write_block b blocks i j piece all inside fits =
    let block : List ℕ = get_or blocks i [] in
    let rest : List ℕ = concat (drop (i + 1) blocks) in
    let front : List ℕ = concat (take i blocks) in
    let before : length front ≡ i * b = length_before b blocks i all (omega arith) in
    let size : length block ≡ b = All-get_or (λ one. length one ≡ b) blocks i [] inside all in
    let change : concat (set blocks i (written j piece block)) ≡ front ++ (written j piece block ++ rest) =
    ap concat (set_split blocks i (written j piece block) inside ∙ ap (λ k. take i blocks ++ written j piece block ∷ drop k blocks) (sym (add-one i)))
    ∙ concat-append (take i blocks) (written j piece block ∷ drop (i + 1) blocks)
    in
    change
    ∙ sym (write_inside front block rest piece j (omega arith))
    ∙ ap (λ k. written (k + j) piece (front ++ (block ++ rest))) before
    ∙ ap (written (i * b + j) piece) (sym (split_blocks blocks i inside))

-- the bytes of one block, in the joined list
pub block_is : (b : ℕ) (blocks : List (List ℕ)) (i : ℕ) → AreBlocks b blocks → i < length blocks → slice_range (concat blocks) (i * b) (i * b + b) ≡ get_or blocks i []
block_is b blocks i all inside =
    let size : length (get_or blocks i []) ≡ b = All-get_or (λ one. length one ≡ b) blocks i [] inside all in
    let width : i * b + b - i * b ≡ b = omega arith in
    ap (λ n. take n (drop (i * b) (concat blocks))) width
    ∙ ap (λ k. take b (drop k (concat blocks))) (sym (add-zero (i * b)))
    ∙ read_block b blocks i 0 b all inside (omega arith)
    ∙ take_all b (get_or blocks i []) (omega arith)

pub length-fitted : (old bytes : List ℕ) → length (fitted old bytes) ≡ length old
length-fitted old bytes = simp (length-take, length-append, length-drop) (omega arith)

-- another block in the place of one
pub replace_block : (b : ℕ) (blocks : List (List ℕ)) (i : ℕ) (piece : List ℕ) → AreBlocks b blocks → i < length blocks → length piece ≡ b → concat (set blocks i piece) ≡ written (i * b) piece (concat blocks)
replace_block b blocks i piece all inside size =
    let block : List ℕ = get_or blocks i [] in
    let old : length block ≡ b = All-get_or (λ one. length one ≡ b) blocks i [] inside all in
    let whole : written 0 piece block ≡ piece = ap (λ rest. piece ++ rest) (drop_all (0 + length piece) block (omega arith)) ∙ append-nil piece in
    ap (λ one. concat (set blocks i one)) (sym whole)
    ∙ write_block b blocks i 0 piece all inside (omega arith)
    ∙ ap (λ k. written k piece (concat blocks)) (add-zero (i * b))

pub fitted_whole : (old bytes : List ℕ) → length bytes ≡ length old → fitted old bytes ≡ bytes
fitted_whole old bytes size = take_at bytes (drop (length bytes) old) (length old) size

pub length_at : (b : ℕ) (blocks : List (List ℕ)) (i : ℕ) (block : List ℕ) → AreBlocks b blocks → i < length blocks → block ≡ get_or blocks i block → length block ≡ b
length_at b blocks i block all inside is = ap length is ∙ All-get_or (λ one. length one ≡ b) blocks i block inside all

-- what a block that was lent is left with, in the joined list
pub lent_block : (b : ℕ) (blocks : List (List ℕ)) (i : ℕ) (block bytes : List ℕ) → AreBlocks b blocks → i < length blocks → block ≡ get_or blocks i block → concat (set blocks i (fitted block bytes)) ≡ written (i * b) (fitted (slice_range (concat blocks) (i * b) (i * b + b)) bytes) (concat blocks)
lent_block b blocks i block bytes all inside is =
    let here : block ≡ slice_range (concat blocks) (i * b) (i * b + b) = is ∙ get_or_default blocks i block [] inside ∙ sym (block_is b blocks i all inside) in
    let size : length block ≡ b = ap length (is ∙ get_or_default blocks i block [] inside) ∙ All-get_or (λ one. length one ≡ b) blocks i [] inside all in
    replace_block b blocks i (fitted block bytes) all inside (length-fitted block bytes ∙ size)
    ∙ ap (λ old. written (i * b) (fitted old bytes) (concat blocks)) here

pub same_buffer : {b d m n : ℕ} {xs ys : List ℕ} → b ≡ d → m ≡ n → xs ≡ ys → (let x : Buffer = record { block_len = b; blocks = m; bytes = xs } in let y : Buffer = record { block_len = d; blocks = n; bytes = ys } in x ≡ y)
same_buffer p q r = cc

concat-zeros : (n len : ℕ) → concat (replicate n (replicate len 0)) ≡ replicate (n * len) 0
concat-zeros zero len = ap (λ k. replicate k 0) (let none : 0 ≡ 0 * len = omega arith in none)
concat-zeros (suc n) len =
    ap (λ rest. replicate len 0 ++ rest) (concat-zeros n len)
    ∙ replicate-append-replicate len (n * len) 0
    ∙ ap (λ k. replicate k 0) (let more : len + n * len ≡ suc n * len = omega arith in more)

-- blocks of zeros in the place of as many others
pub zeros_in_all : (len : ℕ) (old new : List (List ℕ)) (n : ℕ) → AreBlocks len old → length new ≡ length old → n ≡ length old → take n new ≡ replicate n (replicate len 0) → concat new ≡ replicate (length (concat old)) 0
zeros_in_all len old new n all count end zeros =
    let whole : take n new ≡ new = take_all n new (omega arith) in
    ap concat (sym whole ∙ zeros) ∙ concat-zeros n len ∙ ap (λ k. replicate k 0) (ap (λ k. k * len) end ∙ sym (length-blocks len old all))

pub short_blocks : (k : ℕ) (blocks : List (List ℕ)) → k < 32 → length blocks < 2 ^ 32 → AreBlocks (2 ^ k) blocks → length (concat blocks) < 2 ^ 64
short_blocks k blocks small few all =
    let total : length (concat blocks) ≡ length blocks * 2 ^ k = length-blocks (2 ^ k) blocks all in
    let shifted : length blocks * 2 ^ k < 2 ^ (32 + k) = shl_lt 32 k few in
    let most : 2 ^ (32 + k) ≤ 2 ^ 64 = pow-le-pow_right (lit< tt) (let sum : 32 + k ≤ 64 = omega arith in sum) in
    omega arith

-- the byte `at` stands in the block `at / b`, at its place `at % b`
module _ (b : ℕ) (blocks : List (List ℕ)) (at index from : ℕ) (all : AreBlocks b blocks) (inside : index < length blocks) (index_is : index ≡ at / b) (from_is : from ≡ at % b) where
  at_place : index * b + from ≡ at
  at_place = ap (λ k. k * b + from) index_is ∙ ap (λ k. at / b * b + k) from_is ∙ div-add-mod' at b

  pub read_place : (n : ℕ) (block : List ℕ) → n + at % b ≤ b → block ≡ get_or blocks index block → slice_range block from (from + n) ≡ slice_range (concat blocks) at (at + n)
  read_place n block fits is =
      let outer : at + n - at ≡ n = omega arith in
      let inner : from + n - from ≡ n = omega arith in
      ap (λ k. take k (drop from block)) inner
      ∙ ap (λ one. take n (drop from one)) (is ∙ get_or_default blocks index block [] inside)
      ∙ sym (read_block b blocks index from n all inside (omega arith))
      ∙ ap (λ k. take n (drop k (concat blocks))) at_place
      ∙ ap (λ k. take k (drop at (concat blocks))) (sym outer)

  pub write_place : (piece block new : List ℕ) → length piece + at % b ≤ b → block ≡ get_or blocks index block → new ≡ written from piece block → concat (set blocks index (fitted block new)) ≡ written at piece (concat blocks)
  write_place piece block new fits is new_is =
      let same : block ≡ get_or blocks index [] = is ∙ get_or_default blocks index block [] inside in
      let size : length block ≡ b = length_at b blocks index block all inside is in
      let whole : length new ≡ length block = ap length new_is ∙ length-written from piece block (omega arith) in
      ap (λ one. concat (set blocks index one)) (fitted_whole block new whole ∙ new_is ∙ ap (written from piece) same)
      ∙ write_block b blocks index from piece all inside (omega arith)
      ∙ ap (λ k. written k piece (concat blocks)) at_place

-- no bytes stand behind the last block
pub nothing_behind : (b : ℕ) (blocks : List (List ℕ)) (at : ℕ) (piece : List ℕ) → AreBlocks b blocks → length blocks ≤ at / b → at + length piece ≤ length (concat blocks) → piece ≡ []
nothing_behind b blocks at piece all behind inside =
    let total : length (concat blocks) ≡ length blocks * b = length-blocks b blocks all in
    let past : length blocks * b ≤ at / b * b = mul-le-mul_right b behind in
    let place : at / b * b + at % b ≡ at = div-add-mod' at b in
    nil_from_length piece (omega arith)

pub read_nothing : (bytes : List ℕ) (at : ℕ) (out : List ℕ) → out ≡ [] → out ≡ slice_range bytes at (at + length out)
read_nothing bytes at out none =
    none ∙ sym (ap (λ k. take k (drop at bytes)) (let zero_wide : at + length out - at ≡ 0 = omega (arith, ap length none) in zero_wide))

pub write_nothing : (bytes : List ℕ) (at : ℕ) (piece : List ℕ) → piece ≡ [] → bytes ≡ written at piece bytes
write_nothing bytes at piece none =
    sym (ap (λ one. written at one bytes) none ∙ ap (λ k. take at bytes ++ drop k bytes) (add-zero at) ∙ take-append-drop at bytes)

pub no_blocks : (len : ℕ) (blocks : List (List ℕ)) → length blocks ≡ 0 → AreBlocks len blocks
no_blocks len blocks empty = λ k d within. absurd (let none : ⊥ = omega arith in none)

-- the last block of one list, put at the end of another
pub moved_sizes : (len : ℕ) (from rest to more : List (List ℕ)) (last : List ℕ) → from ≡ rest ++ last ∷ [] → more ≡ to ++ last ∷ [] → AreBlocks len from → AreBlocks len rest × (AreBlocks len to → AreBlocks len more)
moved_sizes len from rest to more last taken put all =
    let parts = All-pop (λ one. length one ≡ len) from rest (Some last) taken all in
    (parts.0, λ sizes. All-same (λ one. length one ≡ len) more (to ++ last ∷ []) put (All-push (λ one. length one ≡ len) to last sizes parts.1))
