-- What is read and written in one block of one of several loans, in the list of all their bytes.
use Rattle.std.proofs.Common.{◌≡◌, ◌+◌, ◌/◌, ◌%◌, ◌<◌, ◌≤◌, ℕ, List, length, map, set, get_or, ap, sym, ◌∙◌, subst, arith}
use Rattle.block_arena.specs.Bytes.{written}
use Rattle.block_arena.specs.Memory.{Buffer, IsBufferOf, with_bytes}
use Rattle.store_api.specs.Tokens.{LoanToken, with_buf}
use Rattle.bucket_table.specs.Regions.{AreParts, Region, area_of, cut, lent}
use Rattle.bucket_table.proofs.Marks.{block_few, block_inside, buffer_is, lent_same, loan_inside, parts_now, read_here, same_region, write_here, written_buffer}

-- the loan's buffer now, after it was written there
pub record Wrote (blocks block_len len at index : ℕ) (loans : List LoanToken) (loan : LoanToken) (piece : List ℕ) (buf : Buffer) : Type 0 where
  pub parts : AreParts blocks block_len len (set loans index (with_buf loan buf))
  pub region :
      (
      let now : Region = record { blocks = blocks; block_len = block_len; loans = map lent (set loans index (with_buf loan buf)); bytes = area_of (set loans index (with_buf loan buf)) } in
      let wrote : Region = record { blocks = blocks; block_len = block_len; loans = map lent loans; bytes = written at piece (area_of loans) } in
      now ≡ wrote
      )

-- so many bytes from a place on lie in one block of a loan
pub record InLoan (blocks block_len len at index place n : ℕ) (loans : List LoanToken) (loan : LoanToken) (buf : Buffer) : Type 0 where
  pub block : block_len ≡ buf.block_len
  pub inside : place / block_len < buf.blocks
  pub one : n + place % block_len ≤ block_len
  pub same : cut place n buf.bytes ≡ cut at n (area_of loans)
  pub wrote : (piece : List ℕ) (now : Buffer) → length piece ≡ n → now ≡ with_bytes buf (written place piece buf.bytes) → Wrote blocks block_len len at index loans loan piece now

pub index_in : (blocks block_len len at n index : ℕ) (loans : List LoanToken) → AreParts blocks block_len len loans → 0 < len → 0 < n → at + n ≤ length (area_of loans) → index ≡ at / len → index < length loans
index_in blocks block_len len at n index loans is some any within index_is =
    let under = loan_inside blocks block_len len at n loans is some any within in
    omega (arith, under, index_is)

pub in_loan : (blocks block_len len at index place n : ℕ) (loans : List LoanToken) (loan : LoanToken) (buf : Buffer)
    → AreParts blocks block_len len loans → 0 < block_len → 0 < n → at + n ≤ length (area_of loans)
    → index ≡ at / len → place ≡ at % len → place < len → loan ≡ get_or loans index loan → buf ≡ loan.buf → n + at % len % block_len ≤ block_len
    → InLoan blocks block_len len at index place n loans loan buf
in_loan blocks block_len len at index place n loans loan buf is some any within index_is place_is below loan_is buf_is one =
    let inside = loan_inside blocks block_len len at n loans is (omega (arith, below)) any within in
    let here : loan ≡ get_or loans (at / len) loan = loan_is ∙ ap (λ (i : ℕ). get_or loans i loan) index_is in
    let was : IsBufferOf blocks block_len loan.buf = buffer_is blocks block_len len (at / len) loans loan is inside here in
    let under : at % len < len = omega (arith, place_is, below) in
    let few = block_few blocks block_len len at is.each some under in
    let fits : n + at % len ≤ len = block_inside blocks block_len len at n is.each some under one in
    record {
      block = sym (ap (λ (b : Buffer). b.block_len) buf_is ∙ was.block_len);
      inside = rw (place_is, buf_is) (omega (arith, few, was.blocks));
      one = rw place_is one;
      same =
          ap (λ (k : ℕ). cut k n buf.bytes) place_is ∙ ap (λ (b : Buffer). cut (at % len) n b.bytes) buf_is
          ∙ read_here blocks block_len len at loans loan is inside here n fits;
      wrote = λ piece now long now_is.
          (let now_at : now ≡ with_bytes loan.buf (written (at % len) piece loan.buf.bytes) =
          now_is ∙ ap (λ (b : Buffer). with_bytes b (written place piece b.bytes)) buf_is
          ∙ ap (λ (k : ℕ). with_bytes loan.buf (written k piece loan.buf.bytes)) place_is
          in
          let wide : length piece + at % len ≤ len = omega (arith, long, fits) in
          let buffer : IsBufferOf blocks block_len now = written_buffer blocks block_len len (at % len) piece loan.buf now is.each was wide now_at in
          let set_is : set loans index (with_buf loan now) ≡ set loans (at / len) (with_buf loan now) = ap (λ (i : ℕ). set loans i (with_buf loan now)) index_is in
          record {
            parts = subst (AreParts blocks block_len len) (sym set_is) (parts_now blocks block_len len (at / len) loans loan is inside here now buffer);
            region = same_region blocks block_len _ _ _ _
                (ap (map lent) set_is ∙ lent_same blocks block_len len (at / len) loans loan is inside here now buffer)
                (ap area_of set_is ∙ write_here blocks block_len len at loans loan is inside here now piece wide (ap (λ (b : Buffer). b.bytes) now_at));
          });
    }
