-- What is read and written in one of several loans, in the list of all their bytes.
use Rattle.std.proofs.Common.{◌≡◌, ℕ, ◌+◌, ◌-◌, ◌*◌, ◌/◌, ◌%◌, ◌<◌, ◌≤◌, List, [], ◌∷◌, ◌++◌, map, set, replicate, get_or, length, take, drop, ap, sym, ◌∙◌, subst, arith, slice_range}
use Rattle.std.specs.List.{concat}
use Rattle.std.proofs.lemmas.Nat.{div-add-mod'}
use Rattle.std.proofs.Math.Nat.{div-lt_iff_lt-mul, mul-le-mul_right}
use Rattle.std.proofs.lemmas.List.{get_or-map, length-map, map-set, set-get_or, length-set, length-replicate, replicate_more, take_more_set}
use Rattle.std.proofs.lemmas.List.Elements.{All-map, All-set}
use Rattle.block_arena.specs.Blocks.{AreBlocks}
use Rattle.block_arena.specs.Bytes.{written}
use Rattle.block_arena.specs.Memory.{Buffer, IsBufferOf, block_of, with_bytes}
use Rattle.block_arena.proofs.Copies.{length-written}
use Rattle.block_arena.proofs.Pieces.{length-blocks, read_block, write_block, zeros_in_all}
use Rattle.store_api.specs.Tokens.{LoanToken, with_buf}
use Rattle.bucket_table.specs.Regions.{AreParts, Region, area_of, cut, lent, pieces}
use Rattle.bucket_table.specs.Tables.{Lent}
use Rattle.bucket_table.proofs.Cuts.{cut_cut, length_cut}

pub are_blocks : (blocks block_len len : ℕ) (loans : List LoanToken) → AreParts blocks block_len len loans → AreBlocks len (pieces loans)
are_blocks blocks block_len len loans is = All-map (λ (block : List ℕ). length block ≡ len) (λ (l : LoanToken). l.buf.bytes) loans (λ k d within. (is.sized k d within).whole ∙ sym is.each)

pub area_len : (blocks block_len len : ℕ) (loans : List LoanToken) → AreParts blocks block_len len loans → length (area_of loans) ≡ length loans * len
area_len blocks block_len len loans is = length-blocks len (pieces loans) (are_blocks blocks block_len len loans is) ∙ ap (λ (k : ℕ). k * len) (length-map loans (λ (l : LoanToken). l.buf.bytes))

pub index_inside : (at len count : ℕ) → 0 < len → at < count * len → at / len < count
index_inside at len count some under = (div-lt_iff_lt-mul some).1 under

-- one of the loans
module _ (blocks block_len len index : ℕ) (loans : List LoanToken) (loan : LoanToken) (is : AreParts blocks block_len len loans) (inside : index < length loans) (loan_is : loan ≡ get_or loans index loan) where
  pub buffer_is : IsBufferOf blocks block_len loan.buf
  buffer_is = subst (λ (l : LoanToken). IsBufferOf blocks block_len l.buf) (sym loan_is) (is.sized index loan inside)

  pub piece_is : loan.buf.bytes ≡ get_or (pieces loans) index []
  piece_is = ap (λ (l : LoanToken). l.buf.bytes) loan_is ∙ sym (get_or-map (λ (l : LoanToken). l.buf.bytes) loans index loan [] inside)

  pub parts_now : (buf : Buffer) → IsBufferOf blocks block_len buf → AreParts blocks block_len len (set loans index (with_buf loan buf))
  parts_now buf fits = record {
    each = is.each;
    sized = All-set (λ (l : LoanToken). IsBufferOf blocks block_len l.buf) loans index (with_buf loan buf) fits is.sized;
    short = rw (length-set loans index (with_buf loan buf)) is.short;
  }

  pub lent_same : (buf : Buffer) → IsBufferOf blocks block_len buf → map lent (set loans index (with_buf loan buf)) ≡ map lent loans
  lent_same buf fits =
      let was : lent loan ≡ get_or (map lent loans) index (lent loan) = ap lent loan_is ∙ sym (get_or-map lent loans index loan (lent loan) inside) in
      let now : lent (with_buf loan buf) ≡ lent loan = same_lent loan.number loan.client buf.blocks loan.buf.blocks buf.block_len loan.buf.block_len (fits.blocks ∙ sym buffer_is.blocks) (fits.block_len ∙ sym buffer_is.block_len) in
      map-set lent loans index (with_buf loan buf)
      ∙ ap (set (map lent loans) index) (now ∙ was)
      ∙ set-get_or (map lent loans) index (lent loan)
    where
      same_lent : (number client a b c d : ℕ) → a ≡ b → c ≡ d → (let x : Lent = record { number = number; client = client; blocks = a; block_len = c } in let y : Lent = record { number = number; client = client; blocks = b; block_len = d } in x ≡ y)
      same_lent number client a b c d one two = λ i. record { number = number; client = client; blocks = one i; block_len = two i }

-- the loan in which a byte lies
module _ (blocks block_len len at : ℕ) (loans : List LoanToken) (loan : LoanToken) (is : AreParts blocks block_len len loans) (inside : at / len < length loans) (loan_is : loan ≡ get_or loans (at / len) loan) where
  within : at / len < length (pieces loans)
  within = let many = length-map loans (λ (l : LoanToken). l.buf.bytes) in omega (arith, many, inside)

  piece_here : loan.buf.bytes ≡ get_or (pieces loans) (at / len) []
  piece_here = piece_is blocks block_len len (at / len) loans loan is inside loan_is

  pub read_here : (n : ℕ) → n + at % len ≤ len → cut (at % len) n loan.buf.bytes ≡ cut at n (area_of loans)
  read_here n fits =
      ap (λ (bytes : List ℕ). cut (at % len) n bytes) piece_here
      ∙ sym (read_block len (pieces loans) (at / len) (at % len) n (are_blocks blocks block_len len loans is) within (omega (arith, fits)))
      ∙ ap (λ (k : ℕ). cut k n (area_of loans)) (div-add-mod' at len)

  pub write_here : (buf : Buffer) (piece : List ℕ) → length piece + at % len ≤ len → buf.bytes ≡ written (at % len) piece loan.buf.bytes → area_of (set loans (at / len) (with_buf loan buf)) ≡ written at piece (area_of loans)
  write_here buf piece fits wrote =
      ap concat (map-set (λ (l : LoanToken). l.buf.bytes) loans (at / len) (with_buf loan buf))
      ∙ ap (λ (p : List ℕ). concat (set (pieces loans) (at / len) p)) (wrote ∙ ap (written (at % len) piece) piece_here)
      ∙ write_block len (pieces loans) (at / len) (at % len) piece (are_blocks blocks block_len len loans is) within (omega (arith, fits))
      ∙ ap (λ (k : ℕ). written k piece (area_of loans)) (div-add-mod' at len)

-- a block of a buffer, from a place in it on
pub block_front : (buf : Buffer) (block_len from n : ℕ) → block_len ≡ buf.block_len → n + from % block_len ≤ block_len → cut (from % block_len) n (block_of buf (from / block_len)) ≡ cut from n buf.bytes
block_front buf block_len from n bl fits =
    let b : ℕ = from / block_len in
    let width : b * block_len + block_len - b * block_len ≡ block_len = omega arith in
    ap (λ (k : ℕ). cut (from % block_len) n (slice_range buf.bytes (b * k) (b * k + k))) (sym bl)
    ∙ ap (λ (k : ℕ). cut (from % block_len) n (cut (b * block_len) k buf.bytes)) width
    ∙ cut_cut (b * block_len) block_len (from % block_len) n buf.bytes (omega (arith, fits))
    ∙ ap (λ (k : ℕ). cut k n buf.bytes) (div-add-mod' from block_len)

pub block_few : (blocks block_len len at : ℕ) → len ≡ blocks * block_len → 0 < block_len → at % len < len → at % len / block_len < blocks
block_few blocks block_len len at each some below = (div-lt_iff_lt-mul some).1 (omega (arith, each, below))

-- what lies in one block of a loan lies in the loan
pub block_inside : (blocks block_len len at n : ℕ) → len ≡ blocks * block_len → 0 < block_len → at % len < len → n + at % len % block_len ≤ block_len → n + at % len ≤ len
block_inside blocks block_len len at n each some below fits =
    let few : at % len / block_len < blocks = block_few blocks block_len len at each some below in
    let more : (at % len / block_len + 1) * block_len ≤ blocks * block_len = mul-le-mul_right block_len (let e : at % len / block_len + 1 ≤ blocks = omega (arith, few) in e) in
    let back : at % len / block_len * block_len + at % len % block_len ≡ at % len = div-add-mod' (at % len) block_len in
    omega (arith, each, more, back, fits)

-- the same, where the part is as the code cuts it
pub front_is : (buf : Buffer) (block_len from place count : ℕ) (block : List ℕ) → block_len ≡ buf.block_len → place ≡ from % block_len → place + count ≤ block_len → block ≡ block_of buf (from / block_len) → length block ≡ buf.block_len
    → (length (take (place + count - place) (drop place block)) ≡ count) × (take (place + count - place) (drop place block) ≡ cut from count buf.bytes)
front_is buf block_len from place count block bl place_is fits block_is size =
    let width : place + count - place ≡ count = omega arith in
    let inside : place + count ≤ length block = omega (arith, fits, size, bl) in (
      ap (λ (k : ℕ). length (take k (drop place block))) width ∙ length_cut place count block inside,
      ap (λ (k : ℕ). take k (drop place block)) width
          ∙ ap (λ (k : ℕ). cut k count block) place_is
          ∙ ap (λ (b : List ℕ). cut (from % block_len) count b) block_is
          ∙ block_front buf block_len from count bl (omega (arith, fits, place_is)),
    )

pub loan_inside : (blocks block_len len at most : ℕ) (loans : List LoanToken) → AreParts blocks block_len len loans → 0 < len → 0 < most → at + most ≤ length (area_of loans) → at / len < length loans
loan_inside blocks block_len len at most loans is len_some some within =
    let long = area_len blocks block_len len loans is in
    index_inside at len (length loans) len_some (omega (arith, within, long, some))

pub same_region : (blocks block_len : ℕ) (a b : List Lent) (xs ys : List ℕ) → a ≡ b → xs ≡ ys → (let x : Region = record { blocks = blocks; block_len = block_len; loans = a; bytes = xs } in let y : Region = record { blocks = blocks; block_len = block_len; loans = b; bytes = ys } in x ≡ y)
same_region blocks block_len a b xs ys p q = λ i. record { blocks = blocks; block_len = block_len; loans = p i; bytes = q i }

-- a buffer that was written
pub written_buffer : (blocks block_len len from : ℕ) (piece : List ℕ) (was buf : Buffer) → len ≡ blocks * block_len → IsBufferOf blocks block_len was → length piece + from ≤ len → buf ≡ with_bytes was (written from piece was.bytes) → IsBufferOf blocks block_len buf
written_buffer blocks block_len len from piece was buf each is fits now = record {
  blocks = ap (λ (b : Buffer). b.blocks) now ∙ is.blocks;
  block_len = ap (λ (b : Buffer). b.block_len) now ∙ is.block_len;
  whole = ap (λ (b : Buffer). length b.bytes) now ∙ length-written from piece was.bytes (omega (arith, fits, is.whole, each)) ∙ is.whole;
}

-- ---- loans that are made zero, one after the other

pub zeroed_buffer : (blocks block_len : ℕ) (was buf : Buffer) → IsBufferOf blocks block_len was → buf ≡ with_bytes was (replicate (length was.bytes) 0) → IsBufferOf blocks block_len buf
zeroed_buffer blocks block_len was buf is now = record {
  blocks = ap (λ (b : Buffer). b.blocks) now ∙ is.blocks;
  block_len = ap (λ (b : Buffer). b.block_len) now ∙ is.block_len;
  whole = ap (λ (b : Buffer). length b.bytes) now ∙ length-replicate (length was.bytes) 0 ∙ is.whole;
}

pub zero_more : (blocks block_len len i : ℕ) (loans : List LoanToken) (loan : LoanToken) (buf : Buffer) → AreParts blocks block_len len loans → i < length loans → loan ≡ get_or loans i loan → buf ≡ with_bytes loan.buf (replicate (length loan.buf.bytes) 0)
    → take i (pieces loans) ≡ replicate i (replicate len 0) → take (i + 1) (pieces (set loans i (with_buf loan buf))) ≡ replicate (i + 1) (replicate len 0)
zero_more blocks block_len len i loans loan buf is inside loan_is now before =
    let was = buffer_is blocks block_len len i loans loan is inside loan_is in
    let zeros : buf.bytes ≡ replicate len 0 = ap (λ (b : Buffer). b.bytes) now ∙ ap (λ (n : ℕ). replicate n 0) (was.whole ∙ sym is.each) in
    let within : i < length (pieces loans) = (let many = length-map loans (λ (l : LoanToken). l.buf.bytes) in omega (arith, many, inside)) in
    ap (take (i + 1)) (map-set (λ (l : LoanToken). l.buf.bytes) loans i (with_buf loan buf))
    ∙ take_more_set (pieces loans) i buf.bytes within
    ∙ ap (λ (front : List (List ℕ)). front ++ buf.bytes ∷ []) before
    ∙ ap (λ (piece : List ℕ). replicate i (replicate len 0) ++ piece ∷ []) zeros
    ∙ replicate_more i (replicate len 0)

pub all_zero : (blocks block_len len i : ℕ) (was now : List LoanToken) → AreParts blocks block_len len was → length now ≡ length was → i ≡ length was → take i (pieces now) ≡ replicate i (replicate len 0) → area_of now ≡ replicate (length (area_of was)) 0
all_zero blocks block_len len i was now is count end zeros =
    let many = length-map was (λ (l : LoanToken). l.buf.bytes) in
    let more = length-map now (λ (l : LoanToken). l.buf.bytes) in
    zeros_in_all len (pieces was) (pieces now) i (are_blocks blocks block_len len was is) (omega (arith, many, more, count)) (omega (arith, many, end)) zeros
