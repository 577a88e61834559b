-- Areas that get as many loans more as they have, or give back those that came.
use Rattle.std.proofs.Common.{◌≡◌, ℕ, suc, ◌+◌, ◌*◌, List, [], ◌∷◌, ◌++◌, map, take, drop, replicate, length, refl, ap, sym, ◌∙◌, subst, arith, length-append}
use Rattle.std.specs.Prelude.{All}
use Rattle.std.proofs.lemmas.List.{drop_at, length-replicate, take_at}
use Rattle.std.proofs.lemmas.List.Elements.{All-head, All-tail}
use Rattle.block_arena.specs.Memory.{IsBufferOf}
use Rattle.store_api.specs.Alike.{Alike}
use Rattle.store_api.specs.Holdings.{Holdings}
use Rattle.store_api.specs.Tokens.{LoanToken}
use Rattle.bucket_table.specs.Tables.{Lent}
use Rattle.bucket_table.specs.Filling.{Doubles, Fills, Shrinks, each_of}
use Rattle.bucket_table.specs.Lending.{AreHeld, Lends, bytes_of}
use Rattle.bucket_table.specs.Regions.{AreParts, Region, area_of, lent}
use Rattle.bucket_table.proofs.Held.{held_more}
use Rattle.bucket_table.proofs.Lent.{lends_same}
use Rattle.bucket_table.proofs.Marks.{area_len}

-- ---- how many bytes loans of one length have

bytes_each : (blocks block_len : ℕ) (loans : List LoanToken) → All (λ l. IsBufferOf blocks block_len l.buf) loans → bytes_of (map lent loans) ≡ length loans * (blocks * block_len)
bytes_each blocks block_len [] sized = omega arith
bytes_each blocks block_len (l ∷ loans) sized =
    let one : IsBufferOf blocks block_len l.buf = All-head (λ l. IsBufferOf blocks block_len l.buf) l loans sized in
    let rest = bytes_each blocks block_len loans (All-tail (λ l. IsBufferOf blocks block_len l.buf) l loans sized) in
    ap (λ (n : ℕ). n * l.buf.block_len + bytes_of (map lent loans)) one.blocks
    ∙ ap (λ (n : ℕ). blocks * n + bytes_of (map lent loans)) one.block_len
    ∙ ap (λ (n : ℕ). blocks * block_len + n) rest
    ∙ (let e : blocks * block_len + length loans * (blocks * block_len) ≡ suc (length loans) * (blocks * block_len) = omega arith in e)

pub record HasBytes (loans : List LoanToken) (each : ℕ) : Type 0 where
  pub whole : length loans * each ≡ length (area_of loans)
  pub lent_is : bytes_of (map lent loans) ≡ length (area_of loans)

pub has_bytes : (blocks block_len len : ℕ) (loans : List LoanToken) → AreParts blocks block_len len loans → HasBytes loans (blocks * block_len)
has_bytes blocks block_len len loans is =
    let whole : length loans * (blocks * block_len) ≡ length (area_of loans) = ap (λ (n : ℕ). length loans * n) (sym is.each) ∙ sym (area_len blocks block_len len loans is) in
    record { whole = whole; lent_is = bytes_each blocks block_len loans is.sized ∙ whole }

pub doubled : (t count : ℕ) (a b : Region) (x y : Holdings) → Fills t count a b x y → count ≡ length a.loans → count * each_of a ≡ length a.bytes → bytes_of a.loans ≡ length a.bytes → Doubles t a b x y
doubled t count a b x y fills is whole bytes = record {
  fills = subst (λ (n : ℕ). Fills t n a b x y) is fills;
  bytes = bytes;
  more = (subst (λ (n : ℕ). (f : Fills t n a b x y) → n * each_of a ≡ length a.bytes → bytes_of f.more ≡ length a.bytes) is (λ f whole. f.bytes ∙ whole)) (subst (λ (n : ℕ). Fills t n a b x y) is fills) (ap (λ (n : ℕ). n * each_of a) (sym is) ∙ whole);
}

-- ---- loans that came, and went again

pub held_now : (t some : ℕ) (a b : Region) (x y : Holdings) → Fills t some a b x y → AreHeld t x a.loans → AreHeld t y b.loans
held_now t some a b x y fills held = subst (AreHeld t y) (sym (ap (λ (r : Region). r.loans) fills.region)) (held_more t a.loans fills.more x y held fills.lends)

module _ (t some : ℕ) (a b c : Region) (x y z : Holdings) (fills : Fills t some a b x y) (went : Shrinks b c y z) (stay : length c.loans ≡ length a.loans) (held : AreHeld t x a.loans) where
  loans_both : c.loans ++ went.gone ≡ a.loans ++ fills.more
  loans_both = sym went.loans ∙ ap (λ (r : Region). r.loans) fills.region

  loans_back : c.loans ≡ a.loans
  loans_back = sym (take_at c.loans went.gone (length c.loans) refl) ∙ ap (take (length c.loans)) loans_both ∙ take_at a.loans fills.more (length c.loans) (sym stay)

  gone_is : went.gone ≡ fills.more
  gone_is = sym (drop_at c.loans went.gone (length c.loans) refl) ∙ ap (drop (length c.loans)) loans_both ∙ drop_at a.loans fills.more (length c.loans) (sym stay)

  blocks_back : c.blocks ≡ a.blocks
  blocks_back = went.blocks ∙ ap (λ (r : Region). r.blocks) fills.region

  block_len_back : c.block_len ≡ a.block_len
  block_len_back = went.block_len ∙ ap (λ (r : Region). r.block_len) fills.region

  bytes_came : b.bytes ≡ a.bytes ++ replicate (some * each_of a) 0
  bytes_came = ap (λ (r : Region). r.bytes) fills.region

  long_back : length c.bytes ≡ length a.bytes
  long_back =
      let sum : length b.bytes ≡ length a.bytes + some * each_of a = ap length bytes_came ∙ length-append a.bytes (replicate (some * each_of a) 0) ∙ ap (λ (n : ℕ). length a.bytes + n) (length-replicate (some * each_of a) 0) in
      let gone : length went.gone * each_of b ≡ some * each_of a = ap (λ (n : ℕ). n * each_of b) (ap length gone_is ∙ fills.many) ∙ ap (λ (n : ℕ). some * n) (ap each_of fills.region) in
      omega (arith, sum, gone, went.long)

  bytes_back : c.bytes ≡ a.bytes
  bytes_back = went.bytes ∙ ap (take (length c.bytes)) bytes_came ∙ take_at a.bytes (replicate (some * each_of a) 0) (length c.bytes) (sym long_back)

  pub region_back : c ≡ a
  region_back = λ i. record { blocks = blocks_back i; block_len = block_len_back i; loans = loans_back i; bytes = bytes_back i }

  pub alike_back : Alike x z
  alike_back = lends_same t fills.more x y z fills.lends (subst (λ (loans : List Lent). Lends t loans z y) gone_is (went.lends t (held_now t some a b x y fills held)))
