-- Cutting a part out of bytes of which another part was written.
use Rattle.std.proofs.Common.{◌≡◌, ◌≢◌, ℕ, suc, ◌+◌, ◌-◌, ◌*◌, ◌/◌, ◌%◌, ◌<◌, ◌≤◌, ◌^◌, ◌⊎◌, List, [], ◌∷◌, ◌++◌, get_or, set, take, drop, slice_range, length, Option, None, Some, IsSome, refl, ap, sym, subst, ◌∙◌, inl, inr, arith, zero-add}
use Rattle.std.proofs.lemmas.List.{drop-drop, drop-take, take-take, drop_at, take-append-le, drop-append-le, length-take-le, length-drop, length-set}
use Rattle.std.proofs.lemmas.List.{get_or-set_same, get_or-set_other}
use Rattle.std.proofs.lemmas.Nat.{div-add-mod', pow_below}
use Rattle.std.proofs.lemmas.Bool.{cases_eq, cases_lt, false≢true}
use Rattle.block_arena.specs.Bytes.{written}
use Rattle.block_arena.specs.Memory.{IsBufferOf}
use Rattle.block_arena.proofs.Copies.{length-written}
use Rattle.store_api.specs.Tokens.{LoanToken}
use Rattle.sub_alloc.specs.Pieces.{Division, IsLive, IsOpen, PieceToken, size_at, Stays, buffer, bytes_in, bytes_of, place_of, places, with_written}
use Rattle.sub_alloc.specs.Tiling.{IsWhole}
use Rattle.sub_alloc.specs.Calls.{KeepsOthers}
use Rattle.sub_alloc.proofs.Tiles.{same_tiles}
use Rattle.sub_alloc.proofs.Whole.{placed_of, same_piece, slot_in}

abbrev pub cut : ℕ → ℕ → List ℕ → List ℕ
cut at n xs = take n (drop at xs)

same_some : {X : Type 0} {x y : X} → Some x ≡ Some y → x ≡ y
same_some same = cc

pow_le : (i j : ℕ) → i ≤ j → 2 ^ i ≤ 2 ^ j
pow_le i j l = elim (cases_lt i j) [ inl h ↦ let p = pow_below i j h in omega (arith, p) | inr h ↦ let e : i ≡ j = omega (arith, l, h) in let p = ap (λ (k : ℕ). 2 ^ k) e in omega (arith, p) ]

pub length_cut : (at n : ℕ) (xs : List ℕ) → at + n ≤ length xs → length (cut at n xs) ≡ n
length_cut at n xs inside = length-take-le n (drop at xs) (omega (arith, length-drop at xs, inside))

-- a part of a part
pub cut_cut : (at m off n : ℕ) (xs : List ℕ) → off + n ≤ m → cut off n (cut at m xs) ≡ cut (at + off) n xs
cut_cut at m off n xs inside =
    let whole : m ≡ off + (m - off) = omega (arith, inside) in
    ap (λ (k : ℕ). take n (drop off (take k (drop at xs)))) whole
    ∙ ap (take n) (drop-take off (m - off) (drop at xs))
    ∙ take-take n (m - off) (drop off (drop at xs)) (omega (arith, inside))
    ∙ ap (take n) (drop-drop off at xs)

-- parts before a place up to which the bytes are the same
pub cut_same : (u at n : ℕ) (xs ys : List ℕ) → take u ys ≡ take u xs → at + n ≤ u → cut at n ys ≡ cut at n xs
cut_same u at n xs ys same inside = front ys ∙ ap (cut at n) same ∙ sym (front xs)
  where
    front : (bytes : List ℕ) → cut at n bytes ≡ cut at n (take u bytes)
    front bytes = sym (cut_cut 0 u at n bytes inside ∙ ap (λ (k : ℕ). cut k n bytes) (zero-add at))

module _ (w : ℕ) (piece xs : List ℕ) (inside : w + length piece ≤ length xs) where
  front_long : length (take w xs) ≡ w
  front_long = length-take-le w xs (omega (arith, inside))

  behind : List ℕ
  behind = drop (w + length piece) xs

  pub take_written : (u : ℕ) → u ≤ w → take u (written w piece xs) ≡ take u xs
  take_written u before =
      take-append-le u (take w xs) (piece ++ drop (w + length piece) xs) (omega (arith, front_long, before)) ∙ take-take u w xs before

  -- before what was written
  pub cut_before : (at n : ℕ) → at + n ≤ w → cut at n (written w piece xs) ≡ cut at n xs
  cut_before at n before = cut_same w at n xs (written w piece xs) (take_written w (omega arith)) before

  from_piece : drop w (written w piece xs) ≡ piece ++ drop (w + length piece) xs
  from_piece = drop_at (take w xs) (piece ++ drop (w + length piece) xs) w front_long

  -- behind what was written
  pub drop_behind : drop (w + length piece) (written w piece xs) ≡ drop (w + length piece) xs
  drop_behind =
      sym (drop-drop (length piece) w (written w piece xs)) ∙ ap (drop (length piece)) from_piece
      ∙ drop_at piece (drop (w + length piece) xs) (length piece) refl

  pub cut_behind : (at n : ℕ) → w + length piece ≤ at → cut at n (written w piece xs) ≡ cut at n xs
  cut_behind at n past =
      let whole : w + length piece + (at - (w + length piece)) ≡ at = omega (arith, past) in
      let rest = at - (w + length piece) in
      ap (λ (k : ℕ). take n (drop k (written w piece xs))) (sym whole)
      ∙ ap (take n) (sym (drop-drop rest (w + length piece) (written w piece xs)) ∙ ap (drop rest) drop_behind ∙ drop-drop rest (w + length piece) xs)
      ∙ ap (λ (k : ℕ). take n (drop k xs)) whole

take_past : (xs ys : List ℕ) (k : ℕ) → take (length xs + k) (xs ++ ys) ≡ xs ++ take k ys
take_past [] ys k = rw zero-add refl
take_past (x ∷ xs) ys k =
    let e : suc (length xs) + k ≡ suc (length xs + k) = omega arith in
    rw e (ap (λ (zs : List ℕ). x ∷ zs) (take_past xs ys k))

-- a part in which all was written
pub cut_around : (w : ℕ) (piece xs : List ℕ) (at off n : ℕ) → w + length piece ≤ length xs → at + off ≡ w → off + length piece ≤ n → cut at n (written w piece xs) ≡ written off piece (cut at n xs)
cut_around w piece xs at off n inside is wide =
    let long : ℕ = length piece in
    let rest : ℕ = n - (off + long) in
    let width : w ≡ at + off = sym is in
    let front : List ℕ = take off (drop at xs) in
    let front_is : drop at (take w xs) ≡ front = ap (λ (k : ℕ). drop at (take k xs)) width ∙ drop-take at off xs in
    let front_len : length front ≡ off = length-take-le off (drop at xs) (omega (arith, length-drop at xs, is, inside)) in
    let tail : List ℕ = drop (w + long) xs in
    let open_it : drop at (written w piece xs) ≡ front ++ (piece ++ tail) =
    drop-append-le at (take w xs) (piece ++ tail) (omega (arith, is, length-take-le w xs (let within : w ≤ length xs = omega (arith, inside) in within))) ∙ ap (λ (f : List ℕ). f ++ (piece ++ tail)) front_is
    in
    let cut_it : take n (front ++ (piece ++ tail)) ≡ front ++ (piece ++ take rest tail) =
    ap (λ (k : ℕ). take k (front ++ (piece ++ tail))) (let e : n ≡ length front + (long + rest) = omega (arith, front_len, wide) in e)
    ∙ take_past front (piece ++ tail) (long + rest) ∙ ap (λ (r : List ℕ). front ++ r) (take_past piece tail rest)
    in
    let head_same : take off (cut at n xs) ≡ front = take-take off n (drop at xs) (omega (arith, wide)) in
    let tail_same : drop (off + long) (cut at n xs) ≡ take rest tail =
    ap (λ (k : ℕ). drop (off + long) (take k (drop at xs))) (let e : n ≡ off + long + rest = omega (arith, wide) in e)
    ∙ drop-take (off + long) rest (drop at xs)
    ∙ ap (take rest) (drop-drop (off + long) at xs ∙ ap (λ (k : ℕ). drop k xs) (let e : at + (off + long) ≡ w + long = omega (arith, is) in e))
    in
    ap (take n) open_it ∙ cut_it
    ∙ ap (λ (r : List ℕ). front ++ (piece ++ r)) (sym tail_same)
    ∙ ap (λ (f : List ℕ). f ++ (piece ++ drop (off + long) (cut at n xs))) (sym head_same)

-- bytes of a piece, read from its buffer
pub read_piece : (bytes : List ℕ) (from len at n : ℕ) → at + n ≤ len → slice_range bytes (from + at) (from + at + n) ≡ slice_range (cut from len bytes) at (at + n)
read_piece bytes from len at n inside =
    let a : from + at + n - (from + at) ≡ n = omega arith in
    let b : at + n - at ≡ n = omega arith in
    ap (λ (k : ℕ). take k (drop (from + at) bytes)) a ∙ sym (cut_cut from len at n bytes inside) ∙ ap (λ (k : ℕ). take k (drop at (cut from len bytes))) (sym b)

-- ---- a live piece in its buffer

pub record IsInBuffer (d : Division) (p : PieceToken) : Type 0 where
  pub loan : LoanToken
  pub stands : buffer p.buf d ≡ Some loan
  pub slot : p.buf < length d.buffers
  pub inside : p.at + p.len ≤ length loan.buf.bytes
  pub short : p.at + p.len ≤ 1048576

find_loan : (o : Option LoanToken) → IsSome o → (loan : LoanToken) × (o ≡ Some loan)
find_loan None some = absurd (false≢true some)
find_loan (Some loan) some = (loan, refl)

pub in_buffer : (d : Division) (p : PieceToken) → IsWhole d → IsLive p d → IsInBuffer d p
in_buffer d p w is =
    let l = placed_of d p w is in
    let found = find_loan (buffer p.buf d) l.is_open in
    let fits = w.loans p.buf found.0 found.1 in
    let at : p.at ≡ 64 * (place_of d p % places d) = ap (λ (q : PieceToken). q.at) l.is in
    let len : p.len ≡ 64 * 2 ^ l.class = ap (λ (q : PieceToken). q.len) l.is in
    let i = l.inside in
    let most : places d ≤ 16384 = pow_le (d.classes - 1) 14 (let f = w.sized.few in omega (arith, f)) in
    record {
      loan = found.0;
      stands = found.1;
      slot = slot_in d.buffers p.buf l.is_open;
      inside = omega (arith, at, len, i, fits.whole, w.sized.len);
      short = omega (arith, at, len, i, most);
    }

-- two live pieces of one buffer lie apart
pub pieces_apart : (d : Division) (p q : PieceToken) → IsWhole d → IsLive p d → IsLive q d → q ≢ p → q.buf ≡ p.buf → (q.at + q.len ≤ p.at) ⊎ (p.at + p.len ≤ q.at)
pieces_apart d p q w is_p is_q other same =
    let a = placed_of d p w is_p in
    let b = placed_of d q w is_q in
    let far : place_of d q ≢ place_of d p = λ s. other (same_piece d q p is_q is_p s) in
    let at_a : p.at ≡ 64 * (place_of d p % places d) = ap (λ (r : PieceToken). r.at) a.is in
    let at_b : q.at ≡ 64 * (place_of d q % places d) = ap (λ (r : PieceToken). r.at) b.is in
    let len_a : p.len ≡ 64 * 2 ^ a.class = ap (λ (r : PieceToken). r.len) a.is in
    let len_b : q.len ≡ 64 * 2 ^ b.class = ap (λ (r : PieceToken). r.len) b.is in
    let buf_a : p.buf ≡ place_of d p / places d = ap (λ (r : PieceToken). r.buf) a.is in
    let buf_b : q.buf ≡ place_of d q / places d = ap (λ (r : PieceToken). r.buf) b.is in
    let sum_a = ap (λ (k : ℕ). k * places d + place_of d p % places d) (sym buf_a) in
    let sum_b = ap (λ (k : ℕ). k * places d + place_of d q % places d) (sym buf_b ∙ same) in
    let whole_a = div-add-mod' (place_of d p) (places d) in
    let whole_b = div-add-mod' (place_of d q) (places d) in
    elim (cases_lt (place_of d q) (place_of d p)) [
      | inl l ↦
          let k = w.tiled.tiles.apart b.class a.class (place_of d q) (place_of d p) b.size a.size l in
          inl (omega (arith, k, at_a, at_b, len_b, sum_a, sum_b, whole_a, whole_b))
      | inr l ↦
          let k = w.tiled.tiles.apart a.class b.class (place_of d p) (place_of d q) a.size b.size (omega (arith, l, far)) in
          inr (omega (arith, k, at_a, at_b, len_a, sum_a, sum_b, whole_a, whole_b))
    ]

-- ---- bytes of a piece are written

module _ (d : Division) (p : PieceToken) (at : ℕ) (bytes : List ℕ) (w : IsWhole d) (is : IsLive p d) (fits : at + length bytes ≤ p.len) (loan : LoanToken) (stands : buffer p.buf d ≡ Some loan) where
  after : Division
  after = record d { buffers = set d.buffers p.buf (Some (with_written (p.at + at) bytes loan)) }

  long : p.at + p.len ≤ length loan.buf.bytes
  long =
      let i = in_buffer d p w is in
      let same : i.loan ≡ loan = same_some (sym i.stands ∙ stands) in
      subst (λ (l : LoanToken). p.at + p.len ≤ length l.buf.bytes) same i.inside

  slot : p.buf < length d.buffers
  slot = (in_buffer d p w is).slot

  now_there : get_or (set d.buffers p.buf (Some (with_written (p.at + at) bytes loan))) p.buf None ≡ Some (with_written (p.at + at) bytes loan)
  now_there = get_or-set_same d.buffers p.buf (Some (with_written (p.at + at) bytes loan)) None slot

  room : p.at + at + length bytes ≤ length loan.buf.bytes
  room = let l = long in omega (arith, l, fits)

  pub piece_written : bytes_of p (record d { buffers = set d.buffers p.buf (Some (with_written (p.at + at) bytes loan)) }) ≡ written at bytes (bytes_of p d)
  piece_written =
      ap (λ (b : Option LoanToken). cut p.at p.len (bytes_in b)) now_there
      ∙ cut_around (p.at + at) bytes loan.buf.bytes p.at at p.len room refl fits
      ∙ ap (λ (b : Option LoanToken). written at bytes (cut p.at p.len (bytes_in b))) (sym stands)

  still_open : (u : ℕ) → IsOpen u d → IsSome (get_or (set d.buffers p.buf (Some (with_written (p.at + at) bytes loan))) u None)
  still_open u opened =
      elim (cases_eq u p.buf) [
        | inl s ↦ subst IsSome (sym (ap (λ (k : ℕ). get_or (set d.buffers p.buf (Some (with_written (p.at + at) bytes loan))) k None) s ∙ now_there)) refl
        | inr far ↦ subst IsSome (sym (get_or-set_other d.buffers p.buf u (Some (with_written (p.at + at) bytes loan)) None far)) opened
      ]

  was_open : (u : ℕ) → IsSome (get_or (set d.buffers p.buf (Some (with_written (p.at + at) bytes loan))) u None) → IsOpen u d
  was_open u opened =
      elim (cases_eq u p.buf) [
        | inl s ↦ subst IsSome (sym (ap (λ (k : ℕ). buffer k d) s ∙ stands)) refl
        | inr far ↦ subst IsSome (get_or-set_other d.buffers p.buf u (Some (with_written (p.at + at) bytes loan)) None far) opened
      ]

  pub piece_whole : IsWhole (record d { buffers = set d.buffers p.buf (Some (with_written (p.at + at) bytes loan)) })
  piece_whole =
      let many = length-set d.buffers p.buf (Some (with_written (p.at + at) bytes loan)) in
      record {
        sized = record {
          some = w.sized.some;
          few = w.sized.few;
          blocks = w.sized.blocks;
          len = w.sized.len;
          bufs = omega (arith, w.sized.bufs, many);
          nodes = w.sized.nodes ∙ ap (λ (k : ℕ). k * places d) (sym many);
          lists = w.sized.lists;
          marks = w.sized.marks ∙ ap (λ (k : ℕ). k * places d) (sym many);
        };
        tiled = record {
          tiles = same_tiles d.classes (places d) (λ u. IsOpen u d) (λ u. IsSome (get_or (set d.buffers p.buf (Some (with_written (p.at + at) bytes loan))) u None)) (size_at d) (size_at d) w.tiled.tiles still_open was_open (λ q. refl);
          merged = w.tiled.merged;
          single = w.tiled.single;
        };
        loans = λ u other there.
            elim (cases_eq u p.buf) [
              | inl s ↦
                  let e : with_written (p.at + at) bytes loan ≡ other = same_some (sym now_there ∙ ap (λ (k : ℕ). get_or (set d.buffers p.buf (Some (with_written (p.at + at) bytes loan))) k None) (sym s) ∙ there) in
                  let fits = w.loans p.buf loan stands in
                  subst (λ (l : LoanToken). IsBufferOf d.page_blocks d.block_len l.buf) e (record { blocks = fits.blocks; block_len = fits.block_len; whole = length-written (p.at + at) bytes loan.buf.bytes room ∙ fits.whole })
              | inr far ↦ w.loans u other (sym (get_or-set_other d.buffers p.buf u (Some (with_written (p.at + at) bytes loan)) None far) ∙ there)
            ];
      }

  pub piece_live : IsLive p (record d { buffers = set d.buffers p.buf (Some (with_written (p.at + at) bytes loan)) })
  piece_live = record { class = is.class; live = is.live; is = is.is }

  others_kept : (q : PieceToken) → IsLive q d → q ≢ p → Stays d (record d { buffers = set d.buffers p.buf (Some (with_written (p.at + at) bytes loan)) }) q
  others_kept q is_q other = record {
    live = record { class = is_q.class; live = is_q.live; is = is_q.is };
    bytes =
        elim (cases_eq q.buf p.buf) [
          | inr far ↦ ap (λ (b : Option LoanToken). cut q.at q.len (bytes_in b)) (get_or-set_other d.buffers p.buf q.buf (Some (with_written (p.at + at) bytes loan)) None far)
          | inl same ↦
              let there : buffer q.buf d ≡ Some loan = ap (λ (k : ℕ). buffer k d) same ∙ stands in
              let kept : cut q.at q.len (written (p.at + at) bytes loan.buf.bytes) ≡ cut q.at q.len loan.buf.bytes =
              elim (pieces_apart d p q w is is_q other same) [
                | inl before ↦ cut_before (p.at + at) bytes loan.buf.bytes room q.at q.len (omega (arith, before))
                | inr behind_it ↦ cut_behind (p.at + at) bytes loan.buf.bytes room q.at q.len (omega (arith, behind_it, fits))
              ]
              in
              ap (λ (b : Option LoanToken). cut q.at q.len (bytes_in b)) (ap (λ (k : ℕ). get_or (set d.buffers p.buf (Some (with_written (p.at + at) bytes loan))) k None) same ∙ now_there)
              ∙ kept ∙ ap (λ (b : Option LoanToken). cut q.at q.len (bytes_in b)) (sym there)
        ];
  }

  pub piece_kept : KeepsOthers p d (record d { buffers = set d.buffers p.buf (Some (with_written (p.at + at) bytes loan)) })
  piece_kept = record {
    sizes = record { block_len = refl; page_blocks = refl; classes = refl; bufs = length-set d.buffers p.buf (Some (with_written (p.at + at) bytes loan)) };
    pieces = others_kept;
  }
