-- A table as it is opened.
use Rattle.std.proofs.Common.{◌≡◌, ℕ, zero, suc, ◌+◌, ◌*◌, ◌/◌, ◌<◌, ◌≤◌, List, [], ◌∷◌, ◌++◌, replicate, length, refl, ap, sym, ◌∙◌, subst, inl, inr, arith}
use Rattle.std.specs.Prelude.{All}
use Rattle.std.proofs.Math.Nat.{mul-le-mul_left, mul-le-mul_right}
use Rattle.std.proofs.lemmas.Bool.{cases_lt, false≢true, ne_eqb}
use Rattle.std.proofs.lemmas.List.Elements.{All-head}
use Rattle.store_api.specs.Alike.{Alike}
use Rattle.store_api.specs.Conditions.{IsBlockCount}
use Rattle.store_api.specs.Holdings.{Holdings, length_of}
use Rattle.std.proofs.lemmas.List.{length-replicate}
use Rattle.bucket_table.specs.Tables.{Lent, Table, with_nodes}
use Rattle.bucket_table.specs.Filling.{Fills, FillsBoth}
use Rattle.bucket_table.specs.Lending.{AreHeld, bytes_of, loans_of, IsOpened, IsOwn, IsTableOf, Lends}
use Rattle.bucket_table.specs.Regions.{Region}
use Rattle.bucket_table.specs.Threads.{client_in, table_of}
use Rattle.bucket_table.proofs.Held.{held_of}
use Rattle.bucket_table.proofs.Lent.{All-split, bytes-append, lends_same, lends_trans}

pub some_blocks : (blocks : ℕ) → IsBlockCount blocks → 0 < blocks
some_blocks zero is = absurd (false≢true is)
some_blocks (suc n) is = omega arith

pub most_blocks : (blocks : ℕ) → IsBlockCount blocks → blocks ≤ 256
most_blocks blocks is =
    elim (cases_lt 256 blocks) [
      | inl more ↦ absurd (false≢true (rw (
        ne_eqb 1 blocks (λ same. omega (arith, same, more)),
        ne_eqb 2 blocks (λ same. omega (arith, same, more)),
        ne_eqb 4 blocks (λ same. omega (arith, same, more)),
        ne_eqb 8 blocks (λ same. omega (arith, same, more)),
        ne_eqb 16 blocks (λ same. omega (arith, same, more)),
        ne_eqb 32 blocks (λ same. omega (arith, same, more)),
        ne_eqb 64 blocks (λ same. omega (arith, same, more)),
        ne_eqb 128 blocks (λ same. omega (arith, same, more)),
        ne_eqb 256 blocks (λ same. omega (arith, same, more)),
      ) at is))
      | inr few ↦ few
    ]

pub some_len : (blocks len : ℕ) → IsBlockCount blocks → 64 ≤ len → 64 ≤ blocks * len
some_len blocks len is least =
    let some = some_blocks blocks is in
    let more : 1 * len ≤ blocks * len = mul-le-mul_right len (let e : 1 ≤ blocks = omega (arith, some) in e) in
    omega (arith, more, least)

-- a buffer, and so many of them
pub most_len : (blocks len bufs most : ℕ) → IsBlockCount blocks → len ≤ 65536 → bufs ≤ most → bufs * (blocks * len) ≤ most * 16777216
most_len blocks len bufs most is short few =
    let one : blocks * len ≤ 256 * len = mul-le-mul_right len (most_blocks blocks is) in
    let each : blocks * len ≤ 16777216 = omega (arith, one, short) in
    let all : bufs * (blocks * len) ≤ most * (blocks * len) = mul-le-mul_right (blocks * len) few in
    let top : most * (blocks * len) ≤ most * 16777216 = mul-le-mul_left most each in
    omega (arith, all, top)

pub client_is : (t : ℕ) (h : Holdings) (loans : List Lent) → 0 < length loans → All (IsOwn t h) loans → client_in loans ≡ t
client_is t h [] some own = absurd (omega (arith, some))
client_is t h (l ∷ loans) some own = (All-head (IsOwn t h) l loans own).client

-- an area without loans
abbrev pub no_loans_of : ℕ → ℕ → Region
no_loans_of blocks block_len = record { blocks = blocks; block_len = block_len; loans = []; bytes = [] }

-- loans that came to such an area
module _ (t count blocks block_len : ℕ) (now : Region) (x y : Holdings) (is : Fills t count (no_loans_of blocks block_len) now x y) where
  pub loans_are : now.loans ≡ is.more
  loans_are = ap (λ (r : Region). r.loans) is.region

  pub bytes_are : now.bytes ≡ replicate (count * (blocks * block_len)) 0
  bytes_are = ap (λ (r : Region). r.bytes) is.region

  pub bytes_long : length now.bytes ≡ count * (blocks * block_len)
  bytes_long = ap length bytes_are ∙ length-replicate (count * (blocks * block_len)) 0

  pub bytes_zero : now.bytes ≡ replicate (length now.bytes) 0
  bytes_zero = bytes_are ∙ ap (λ (n : ℕ). replicate n 0) (sym bytes_long)

-- loans that came to two of them
module _ (t heads nodes blocks block_len : ℕ) (links area : Region) (x y : Holdings) (is : FillsBoth t heads nodes (no_loans_of blocks block_len) links (no_loans_of blocks block_len) area x y) where
  pub both_lends : Lends t (links.loans ++ area.loans) x y
  both_lends =
      subst (λ (loans : List Lent). Lends t loans x y)
      (λ i. sym (loans_are t heads blocks block_len links x is.between is.first) i ++ sym (loans_are t nodes blocks block_len area is.between y is.second) i)
      (lends_trans t is.first.more is.second.more x is.between y is.first.lends is.second.lends)

  pub both_held : AreHeld t y (links.loans ++ area.loans)
  both_held = held_of t (links.loans ++ area.loans) x y both_lends

  pub opened : (table : Table) → 0 < heads → block_len ≡ x.block_len → table ≡ with_nodes [] (table_of (length links.bytes / 4) links area) → IsOpened t blocks heads nodes x y table
  opened table some len table_is =
      let own = (All-split (IsOwn t y) links.loans area.loans both_held.own).0 in
      let many : length links.loans ≡ heads = ap length (loans_are t heads blocks block_len links x is.between is.first) ∙ is.first.many in
      let each : blocks * block_len ≡ length_of blocks x = ap (λ (n : ℕ). blocks * n) len in
      subst (IsOpened t blocks heads nodes x y) (sym table_is) (record {
        client = client_is t y links.loans (omega (arith, some, many)) own;
        page_blocks = ap (λ (r : Region). r.blocks) is.second.region;
        block_len = ap (λ (r : Region). r.block_len) is.second.region ∙ len;
        heads = ap (λ (n : ℕ). n / 4) (bytes_long t heads blocks block_len links x is.between is.first) ∙ ap (λ (n : ℕ). heads * n / 4) each;
        room = bytes_long t nodes blocks block_len area is.between y is.second ∙ ap (λ (n : ℕ). nodes * n) each;
        nodes = refl;
        bytes =
            bytes-append links.loans area.loans
            ∙ ap (λ (loans : List Lent). bytes_of loans + bytes_of area.loans) (loans_are t heads blocks block_len links x is.between is.first)
            ∙ ap (λ (loans : List Lent). bytes_of is.first.more + bytes_of loans) (loans_are t nodes blocks block_len area is.between y is.second)
            ∙ ap (λ (n : ℕ). n + bytes_of is.second.more) is.first.bytes ∙ ap (λ (n : ℕ). heads * (blocks * block_len) + n) is.second.bytes
            ∙ (let e : heads * (blocks * block_len) + nodes * (blocks * block_len) ≡ (heads + nodes) * (blocks * block_len) = omega arith in e)
            ∙ ap (λ (n : ℕ). (heads + nodes) * n) each;
        head_bytes = ap bytes_of (loans_are t heads blocks block_len links x is.between is.first) ∙ is.first.bytes ∙ ap (λ (n : ℕ). heads * n) each;
        lends = both_lends;
      })

  pub table_of_both : (chains : ℕ) → 0 < heads → block_len ≡ x.block_len → IsBlockCount blocks → IsTableOf (with_nodes [] (table_of chains links area)) y
  table_of_both chains some len sized =
      let own = (All-split (IsOwn t y) links.loans area.loans both_held.own).0 in
      let many : length links.loans ≡ heads = ap length (loans_are t heads blocks block_len links x is.between is.first) ∙ is.first.many in
      let client : client_in links.loans ≡ t = client_is t y links.loans (omega (arith, some, many)) own in
      record {
        held = subst (λ (k : ℕ). AreHeld k y (links.loans ++ area.loans)) (sym client) both_held;
        sized = subst IsBlockCount (sym (ap (λ (r : Region). r.blocks) is.second.region)) sized;
        block_len = ap (λ (r : Region). r.block_len) is.second.region ∙ len ∙ sym (ap (λ (h : Holdings). h.block_len) both_lends.rest);
      }

pub from_empty : (t heads nodes blocks block_len : ℕ) (a links b area : Region) (x y : Holdings) → a ≡ no_loans_of blocks block_len → b ≡ no_loans_of blocks block_len → FillsBoth t heads nodes a links b area x y → FillsBoth t heads nodes (no_loans_of blocks block_len) links (no_loans_of blocks block_len) area x y
from_empty t heads nodes blocks block_len a links b area x y one two is =
    subst (λ (r : Region). FillsBoth t heads nodes r links (no_loans_of blocks block_len) area x y) one
    (subst (λ (r : Region). FillsBoth t heads nodes a links r area x y) two is)

-- what was lent to a table comes back when it ends, whatever its rows are then
pub closed_again : (t : ℕ) (table now : Table) (old mid new : Holdings) → table.client ≡ t → now ≡ with_nodes now.nodes table → Lends t (loans_of table) old mid → Lends now.client (loans_of now) new mid → Alike old new
closed_again t table now old mid new client same lent back =
    lends_same t (loans_of table) old mid new lent
    (subst (λ (k : ℕ). Lends k (loans_of table) new mid) client (subst (λ (x : Table). Lends x.client (loans_of x) new mid) same back))
