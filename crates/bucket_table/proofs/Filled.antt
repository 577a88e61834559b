-- Areas to which loans come, and from which they go, one after the other.
use Rattle.std.proofs.Common.{◌≡◌, ℕ, ◌+◌, ◌*◌, ◌^◌, ◌<◌, ◌≤◌, List, Some, [], ◌∷◌, ◌++◌, map, take, replicate, length, IsSome, refl, ap, sym, ◌∙◌, subst, arith, append-nil, append_assoc, length-append}
use Rattle.std.specs.List.{concat}
use Rattle.std.proofs.Math.Nat.{mul-le-mul_right}
use Rattle.std.proofs.Math.Seq.{take-length}
use Rattle.std.proofs.lemmas.List.{length-replicate, map-append, replicate-append-replicate, take-take}
use Rattle.std.proofs.lemmas.List.Elements.{All-head, All-pop, All-push}
use Rattle.block_arena.specs.Memory.{IsBufferOf}
use Rattle.block_arena.proofs.Pieces.{concat-append}
use Rattle.store_api.specs.Holdings.{Account, Holdings, length_of, loan_of, unused_of}
use Rattle.store_api.specs.Tokens.{LoanToken}
use Rattle.store_api.specs.Conditions.{IsLoan}
use Rattle.bucket_table.specs.Tables.{Lent}
use Rattle.bucket_table.specs.Lending.{AreHeld, IsOwn, bytes_of}
use Rattle.bucket_table.specs.Regions.{AreParts, Region, area_of, lent, pieces}
use Rattle.bucket_table.specs.Filling.{Fills, Shrinks, each_of, with_zeros}
use Rattle.bucket_table.proofs.Lent.{All-split, bytes-append, lends_none, lends_trans}

-- ---- one loan behind the others

pub area_more : (loans : List LoanToken) (loan : LoanToken) → area_of (loans ++ loan ∷ []) ≡ area_of loans ++ loan.buf.bytes
area_more loans loan =
    ap concat (map-append (λ (l : LoanToken). l.buf.bytes) loans (loan ∷ []))
    ∙ concat-append (pieces loans) (loan.buf.bytes ∷ [])
    ∙ ap (λ (bytes : List ℕ). area_of loans ++ bytes) (append-nil loan.buf.bytes)

pub parts_more : (blocks block_len len : ℕ) (loans : List LoanToken) (loan : LoanToken) → AreParts blocks block_len len loans → IsBufferOf blocks block_len loan.buf → (length loans + 1) * len < 2 ^ 32 → AreParts blocks block_len len (loans ++ loan ∷ [])
parts_more blocks block_len len loans loan is fits short = record {
  each = is.each;
  sized = All-push (λ (l : LoanToken). IsBufferOf blocks block_len l.buf) loans loan is.sized fits;
  short = rw (length-append loans (loan ∷ [])) short;
}

pub parts_less : (blocks block_len len : ℕ) (all loans : List LoanToken) (loan : LoanToken) → AreParts blocks block_len len all → all ≡ loans ++ loan ∷ [] → AreParts blocks block_len len loans × IsBufferOf blocks block_len loan.buf
parts_less blocks block_len len all loans loan is split =
    let parts = All-pop (λ (l : LoanToken). IsBufferOf blocks block_len l.buf) all loans (Some loan) split is.sized in
    let more : length all ≡ length loans + 1 = ap length split ∙ length-append loans (loan ∷ []) in
    let sum : length all * len ≡ length loans * len + len = ap (λ (n : ℕ). n * len) more ∙ (let e : (length loans + 1) * len ≡ length loans * len + len = omega arith in e) in (
      record { each = is.each; sized = parts.0; short = omega (arith, is.short, sum) },
      parts.1,
    )

-- ---- fills

pub fills_none : (t : ℕ) (r : Region) (h : Holdings) → IsSome (h.clients t) → Fills t 0 r r h h
fills_none t r h lives =
    let zero_each : 0 * each_of r ≡ 0 = omega arith in
    let bytes : r.bytes ≡ r.bytes ++ replicate (0 * each_of r) 0 = sym (ap (λ (n : ℕ). r.bytes ++ replicate n 0) zero_each ∙ append-nil r.bytes) in
    let loans : r.loans ≡ r.loans ++ [] = sym (append-nil r.loans) in
    record {
      more = [];
      region = λ i. record { blocks = r.blocks; block_len = r.block_len; loans = loans i; bytes = bytes i };
      many = refl;
      bytes = sym zero_each;
      lends = lends_none t h lives;
    }

pub fills_more : (t n : ℕ) (a b c : Region) (x y z : Holdings) → Fills t n a b x y → Fills t 1 b c y z → Fills t (n + 1) a c x z
fills_more t n a b c x y z one two =
    let each : each_of b ≡ each_of a = ap each_of one.region in
    let sum : n * each_of a + 1 * each_of a ≡ (n + 1) * each_of a = omega arith in
    let loans : a.loans ++ one.more ++ two.more ≡ a.loans ++ (one.more ++ two.more) = append_assoc a.loans one.more two.more in
    let bytes : (a.bytes ++ replicate (n * each_of a) 0) ++ replicate (1 * each_of a) 0 ≡ a.bytes ++ replicate ((n + 1) * each_of a) 0 =
    append_assoc a.bytes (replicate (n * each_of a) 0) (replicate (1 * each_of a) 0)
    ∙ ap (λ (zeros : List ℕ). a.bytes ++ zeros) (replicate-append-replicate (n * each_of a) (1 * each_of a) 0 ∙ ap (λ (k : ℕ). replicate k 0) sum)
    in
    record {
      more = one.more ++ two.more;
      region = two.region ∙ ap (λ (r : Region). with_zeros two.more (1 * each_of r) r) one.region ∙ λ i. record { blocks = a.blocks; block_len = a.block_len; loans = loans i; bytes = bytes i };
      many = length-append one.more two.more ∙ ap (λ (k : ℕ). k + length two.more) one.many ∙ ap (λ (k : ℕ). n + k) two.many;
      bytes = bytes-append one.more two.more ∙ ap (λ (k : ℕ). k + bytes_of two.more) one.bytes ∙ ap (λ (k : ℕ). n * each_of a + k) (two.bytes ∙ ap (λ (e : ℕ). 1 * e) each) ∙ sum;
      lends = lends_trans t one.more two.more x y z one.lends two.lends;
    }

-- ---- shrinks

pub shrinks_none : (r : Region) (h : Holdings) → Shrinks r r h h
shrinks_none r h = record {
  gone = [];
  loans = sym (append-nil r.loans);
  blocks = refl;
  block_len = refl;
  bytes = sym (take-length r.bytes);
  long = omega arith;
  held = λ t is. is;
  lends = λ t is. lends_none t h is.lives;
}

pub shrinks_more : (a b c : Region) (x y z : Holdings) → Shrinks a b x y → Shrinks b c y z → Shrinks a c x z
shrinks_more a b c x y z one two =
    let each : each_of b ≡ each_of a = ap (λ (n : ℕ). n * b.block_len) one.blocks ∙ ap (λ (n : ℕ). a.blocks * n) one.block_len in
    let gone : length (two.gone ++ one.gone) * each_of a ≡ length two.gone * each_of b + length one.gone * each_of a =
    ap (λ (n : ℕ). n * each_of a) (length-append two.gone one.gone) ∙ (let e : (length two.gone + length one.gone) * each_of a ≡ length two.gone * each_of a + length one.gone * each_of a = omega arith in e)
    ∙ ap (λ (e : ℕ). length two.gone * e + length one.gone * each_of a) (sym each)
    in
    record {
      gone = two.gone ++ one.gone;
      loans = one.loans ∙ ap (λ (front : List Lent). front ++ one.gone) two.loans ∙ append_assoc c.loans two.gone one.gone;
      blocks = two.blocks ∙ one.blocks;
      block_len = two.block_len ∙ one.block_len;
      bytes = two.bytes ∙ ap (take (length c.bytes)) one.bytes ∙ take-take (length c.bytes) (length b.bytes) a.bytes (omega (arith, two.long));
      long = omega (arith, one.long, two.long, gone);
      held = λ t is. two.held t (one.held t is);
      lends = λ t is. lends_trans t two.gone one.gone z y x (two.lends t (one.held t is)) (one.lends t is);
    }

-- the last loan is one of the store's
pub last_loan : (t blocks block_len : ℕ) (all rest : List LoanToken) (loan : LoanToken) (h : Holdings) → all ≡ rest ++ loan ∷ [] → IsBufferOf blocks block_len loan.buf → AreHeld t h (map lent all) → IsLoan loan h × AreHeld t h (map lent rest ++ lent loan ∷ [])
last_loan t blocks block_len all rest loan h split fits held =
    let held_all : AreHeld t h (map lent rest ++ lent loan ∷ []) = subst (AreHeld t h) (ap (map lent) split ∙ map-append lent rest (loan ∷ [])) held in
    let own : IsOwn t h (lent loan) = All-head (IsOwn t h) (lent loan) [] (All-split (IsOwn t h) (map lent rest) (lent loan ∷ []) held_all.own).1 in (
      record {
        lives = own.lives;
        client = own.held ∙ sym own.client;
        buffer = record {
          blocks = sym own.blocks;
          block_len = sym own.block_len;
          whole = fits.whole ∙ ap (λ (n : ℕ). n * block_len) (sym fits.blocks ∙ sym own.blocks) ∙ ap (λ (n : ℕ). (loan_of loan.number h).blocks * n) (sym fits.block_len ∙ sym own.block_len);
        };
      },
      held_all,
    )

-- ---- while loans come

pub record HasSpace (t : ℕ) (a b : Region) (y : Holdings) : Type 0 where
  pub blocks : b.blocks ≡ a.blocks
  pub block_len : b.block_len ≡ y.block_len
  pub unused : length_of b.blocks y ≤ unused_of t y
  pub short : length b.bytes + each_of b < 2 ^ 32

pub has_space : (t i count : ℕ) (a b : Region) (x y : Holdings) → Fills t i a b x y → i < count → a.block_len ≡ x.block_len → count * each_of a ≤ unused_of t x → length a.bytes + count * each_of a < 2 ^ 32 → HasSpace t a b y
has_space t i count a b x y is more len room short =
    let blocks : b.blocks ≡ a.blocks = ap (λ (r : Region). r.blocks) is.region in
    let len_now : b.block_len ≡ y.block_len = ap (λ (r : Region). r.block_len) is.region ∙ len ∙ sym (ap (λ (h : Holdings). h.block_len) is.lends.rest) in
    let each : each_of b ≡ each_of a = ap each_of is.region in
    let one : (i + 1) * each_of a ≤ count * each_of a = mul-le-mul_right (each_of a) (let e : i + 1 ≤ count = omega (arith, more) in e) in
    let sum : (i + 1) * each_of a ≡ i * each_of a + each_of a = omega arith in
    let size : length_of b.blocks y ≡ each_of a = ap (λ (n : ℕ). b.blocks * n) (sym len_now) ∙ each in
    let unused : unused_of t x ≡ unused_of t y + i * each_of a = ap (λ (acc : Account). acc.unused) is.lends.charged ∙ ap (λ (n : ℕ). unused_of t y + n) is.bytes in
    let long : length b.bytes ≡ length a.bytes + i * each_of a = ap (λ (r : Region). length r.bytes) is.region ∙ length-append a.bytes (replicate (i * each_of a) 0) ∙ ap (λ (n : ℕ). length a.bytes + n) (length-replicate (i * each_of a) 0) in
    record {
      blocks = blocks;
      block_len = len_now;
      unused = omega (arith, size, one, sum, unused, room);
      short = omega (arith, long, each, one, sum, short);
    }
