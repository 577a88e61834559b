-- Cutting a part out of bytes of which another part was written.
use Rattle.std.proofs.Common.{◌≡◌, ℕ, suc, ◌+◌, ◌-◌, ◌≤◌, List, [], ◌∷◌, ◌++◌, take, drop, length, refl, ap, sym, ◌∙◌, arith, length-append, append_assoc, append-nil, zero-add}
use Rattle.std.proofs.Math.Seq.{take-add}
use Rattle.std.proofs.lemmas.List.{drop_all, drop-drop, drop-take, take-take, take_at, drop_at, take-append-le, drop-append-le, length-take, length-take-le, length-drop}
use borrow.Rule.Slice.PartMut.{put_mid}
use Rattle.block_arena.specs.Bytes.{written}
use Rattle.bucket_table.specs.Regions.{cut}

pub length_cut : (at n : ℕ) (xs : List ℕ) → at + n ≤ length xs → length (cut at n xs) ≡ n
length_cut at n xs inside = length-take-le n (drop at xs) (omega (arith, length-drop at xs, inside))

-- a part of a part
pub cut_cut : (at m off n : ℕ) (xs : List ℕ) → off + n ≤ m → cut off n (cut at m xs) ≡ cut (at + off) n xs
cut_cut at m off n xs inside =
    let whole : m ≡ off + (m - off) = omega (arith, inside) in
    ap (λ (k : ℕ). take n (drop off (take k (drop at xs)))) whole
    ∙ ap (take n) (drop-take off (m - off) (drop at xs))
    ∙ take-take n (m - off) (drop off (drop at xs)) (omega (arith, inside))
    ∙ ap (take n) (drop-drop off at xs)

-- a part, and the one behind it
pub cut_more : (at n m : ℕ) (xs : List ℕ) → cut at (n + m) xs ≡ cut at n xs ++ cut (at + n) m xs
cut_more at n m xs = take-add n m (drop at xs) ∙ ap (λ (rest : List ℕ). cut at n xs ++ take m rest) (drop-drop n at xs)

-- parts before a place up to which the bytes are the same
pub cut_same : (u at n : ℕ) (xs ys : List ℕ) → take u ys ≡ take u xs → at + n ≤ u → cut at n ys ≡ cut at n xs
cut_same u at n xs ys same inside = front ys ∙ ap (cut at n) same ∙ sym (front xs)
  where
    front : (bytes : List ℕ) → cut at n bytes ≡ cut at n (take u bytes)
    front bytes = sym (cut_cut 0 u at n bytes inside ∙ ap (λ (k : ℕ). cut k n bytes) (zero-add at))

module _ (w : ℕ) (piece xs : List ℕ) (inside : w + length piece ≤ length xs) where
  front_long : length (take w xs) ≡ w
  front_long = length-take-le w xs (omega (arith, inside))

  behind : List ℕ
  behind = drop (w + length piece) xs

  pub take_written : (u : ℕ) → u ≤ w → take u (written w piece xs) ≡ take u xs
  take_written u before =
      take-append-le u (take w xs) (piece ++ drop (w + length piece) xs) (omega (arith, front_long, before)) ∙ take-take u w xs before

  -- before what was written
  pub cut_before : (at n : ℕ) → at + n ≤ w → cut at n (written w piece xs) ≡ cut at n xs
  cut_before at n before = cut_same w at n xs (written w piece xs) (take_written w (omega arith)) before

  from_piece : drop w (written w piece xs) ≡ piece ++ drop (w + length piece) xs
  from_piece = drop_at (take w xs) (piece ++ drop (w + length piece) xs) w front_long

  -- what was written
  pub cut_written : cut w (length piece) (written w piece xs) ≡ piece
  cut_written = ap (take (length piece)) from_piece ∙ take_at piece (drop (w + length piece) xs) (length piece) refl

  -- behind what was written
  pub drop_behind : drop (w + length piece) (written w piece xs) ≡ drop (w + length piece) xs
  drop_behind =
      sym (drop-drop (length piece) w (written w piece xs)) ∙ ap (drop (length piece)) from_piece
      ∙ drop_at piece (drop (w + length piece) xs) (length piece) refl

  pub cut_behind : (at n : ℕ) → w + length piece ≤ at → cut at n (written w piece xs) ≡ cut at n xs
  cut_behind at n past =
      let whole : w + length piece + (at - (w + length piece)) ≡ at = omega (arith, past) in
      let rest = at - (w + length piece) in
      ap (λ (k : ℕ). take n (drop k (written w piece xs))) (sym whole)
      ∙ ap (take n) (sym (drop-drop rest (w + length piece) (written w piece xs)) ∙ ap (drop rest) drop_behind ∙ drop-drop rest (w + length piece) xs)
      ∙ ap (λ (k : ℕ). take n (drop k xs)) whole

take_past : (xs ys : List ℕ) (k : ℕ) → take (length xs + k) (xs ++ ys) ≡ xs ++ take k ys
take_past [] ys k = rw zero-add refl
take_past (x ∷ xs) ys k =
    let e : suc (length xs) + k ≡ suc (length xs + k) = omega arith in
    rw e (ap (λ (zs : List ℕ). x ∷ zs) (take_past xs ys k))

-- a part in which all was written
pub cut_around : (w : ℕ) (piece xs : List ℕ) (at off n : ℕ) → w + length piece ≤ length xs → at + off ≡ w → off + length piece ≤ n → cut at n (written w piece xs) ≡ written off piece (cut at n xs)
cut_around w piece xs at off n inside is wide =
    let long : ℕ = length piece in
    let rest : ℕ = n - (off + long) in
    let width : w ≡ at + off = sym is in
    let front : List ℕ = take off (drop at xs) in
    let front_is : drop at (take w xs) ≡ front = ap (λ (k : ℕ). drop at (take k xs)) width ∙ drop-take at off xs in
    let front_len : length front ≡ off = length-take-le off (drop at xs) (omega (arith, length-drop at xs, is, inside)) in
    let tail : List ℕ = drop (w + long) xs in
    let open_it : drop at (written w piece xs) ≡ front ++ (piece ++ tail) =
    drop-append-le at (take w xs) (piece ++ tail) (omega (arith, is, length-take-le w xs (let within : w ≤ length xs = omega (arith, inside) in within))) ∙ ap (λ (f : List ℕ). f ++ (piece ++ tail)) front_is
    in
    let cut_it : take n (front ++ (piece ++ tail)) ≡ front ++ (piece ++ take rest tail) =
    ap (λ (k : ℕ). take k (front ++ (piece ++ tail))) (let e : n ≡ length front + (long + rest) = omega (arith, front_len, wide) in e)
    ∙ take_past front (piece ++ tail) (long + rest) ∙ ap (λ (r : List ℕ). front ++ r) (take_past piece tail rest)
    in
    let head_same : take off (cut at n xs) ≡ front = take-take off n (drop at xs) (omega (arith, wide)) in
    let tail_same : drop (off + long) (cut at n xs) ≡ take rest tail =
    ap (λ (k : ℕ). drop (off + long) (take k (drop at xs))) (let e : n ≡ off + long + rest = omega (arith, wide) in e)
    ∙ drop-take (off + long) rest (drop at xs)
    ∙ ap (take rest) (drop-drop (off + long) at xs ∙ ap (λ (k : ℕ). drop k xs) (let e : at + (off + long) ≡ w + long = omega (arith, is) in e))
    in
    ap (take n) open_it ∙ cut_it
    ∙ ap (λ (r : List ℕ). front ++ (piece ++ r)) (sym tail_same)
    ∙ ap (λ (f : List ℕ). f ++ (piece ++ drop (off + long) (cut at n xs))) (sym head_same)

-- one part more was copied
pub copied_more : (out piece bytes : List ℕ) (at done n k : ℕ) → done ≤ length out → k ≡ n → length piece ≡ n → take done out ≡ cut at done bytes → piece ≡ cut (at + done) n bytes → take (done + n) (put_mid done k out piece) ≡ cut at (done + n) bytes
copied_more out piece bytes at done n k inside width long front next =
    let rest : List ℕ = drop k (drop done out) in
    let both : length (take done out ++ piece) ≡ done + n = omega (arith, length-append (take done out) piece, length-take-le done out inside, long) in
    ap (take (done + n)) (sym (append_assoc (take done out) piece rest))
    ∙ take_at (take done out ++ piece) rest (done + n) both
    ∙ ap (λ (f : List ℕ). f ++ piece) front ∙ ap (λ (p : List ℕ). cut at done bytes ++ p) next
    ∙ sym (cut_more at done n bytes)

pub copied_len : (out piece : List ℕ) (done n k : ℕ) → k ≡ n → length piece ≡ n → done + n ≤ length out → length (put_mid done k out piece) ≡ length out
copied_len out piece done n k width long inside = simp (length-append, length-take, length-drop) (omega (arith, width, long, inside))

-- one part more was compared
pub shown_more : (piece bytes : List ℕ) (at done n : ℕ) → cut at done bytes ≡ take done piece → cut (at + done) n bytes ≡ take n (drop done piece) → cut at (done + n) bytes ≡ take (done + n) piece
shown_more piece bytes at done n front next =
    cut_more at done n bytes ∙ ap (λ (f : List ℕ). f ++ cut (at + done) n bytes) front ∙ ap (λ (p : List ℕ). take done piece ++ p) next ∙ sym (take-add done n piece)

-- where all is shown, so is each part
pub shown_part : (piece bytes : List ℕ) (at done n : ℕ) → done + n ≤ length piece → cut at (length piece) bytes ≡ piece → cut (at + done) n bytes ≡ take n (drop done piece)
shown_part piece bytes at done n inside whole = sym (cut_cut at (length piece) done n bytes inside) ∙ ap (cut done n) whole

-- all of it is written over
pub written_all : (piece old : List ℕ) → length piece ≡ length old → written 0 piece old ≡ piece
written_all piece old long = ap (λ (rest : List ℕ). piece ++ rest) (drop_all (0 + length piece) old (omega (arith, long))) ∙ append-nil piece
