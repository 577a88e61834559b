use Rattle.std.proofs.Common.{◌≡◌, ◌<◌, ◌≤◌, ◌+◌, ◌*◌, ◌^◌, ℕ, List, [], ◌∷◌, ◌++◌, map, replicate, length, refl, ap, sym, ◌∙◌, subst, arith}
use Rattle.std.proofs.lemmas.List.{map-append}
use Rattle.block_arena.specs.Memory.{IsBufferOf}
use Rattle.store_api.specs.Holdings.{length_of, unused_of}
use Rattle.store_api.specs.Tokens.{LoanToken}
use Rattle.bucket_table.specs.Regions.{AreParts, area_of, lent}
use Rattle.bucket_table.proofs.Entered.{lent_entered, refused_entered}
use Rattle.bucket_table.proofs.Filled.{area_more, parts_more}
use Rattle.bucket_table.proofs.Lent.{lends_one}
use Rattle.bucket_table.proofs.Marks.{area_len}
use Rattle.bucket_table.proofs.area.Area.add.Goals as goal

more_short : (blocks block_len len many : ℕ) (loans : List LoanToken) → AreParts blocks block_len len loans → length (area_of loans) + blocks * block_len < 2 ^ 32 → (length loans + 1) * len < 2 ^ 32
more_short blocks block_len len many loans is short =
    let long = area_len blocks block_len len loans is in
    let sum : (length loans + 1) * len ≡ length loans * len + len = omega arith in
    omega (arith, long, sum, short, is.each)

pub invariant_of-self-2 : goal.invariant_of-self-2
invariant_of-self-2 g c =
    let t = c.self.inside in
    let loans = t.parts.items in
    let loan = c.in_ok-loan.loan in
    let made = c.in_ok-loan.ensures.ok in
    let items = c.push_reserved.ensures.items ∙ ap (λ (xs : List LoanToken). xs ++ loan ∷ []) c.reserve.ensures.items in
    let len : (g.St.Store.holds c.args.store.now).block_len ≡ t.block.len = sym (rw (← c.self.view_is) at c.requires.block_len) in
    let fits : IsBufferOf t.blocks t.block.len loan.buf = subst (λ (n : ℕ). IsBufferOf t.blocks n loan.buf) len made.buffer.fits in
    let short = more_short t.blocks t.block.len t.each.len 0 loans c.self.invariant (rw (← c.self.view_is) at c.requires.short) in
    subst (AreParts t.blocks t.block.len t.each.len) (sym items) (parts_more t.blocks t.block.len t.each.len loans loan c.self.invariant fits short)

pub returns-clause-ok : goal.returns-clause-ok
returns-clause-ok g c =
    let t = c.self.inside in
    let h = g.St.Store.holds c.args.store.now in
    let loans = t.parts.items in
    let loan = c.in_ok-loan.loan in
    let made = c.in_ok-loan.ensures.ok in
    let items = c.push_reserved.ensures.items ∙ ap (λ (xs : List LoanToken). xs ++ loan ∷ []) c.reserve.ensures.items in
    let len : h.block_len ≡ t.block.len = sym (rw (← c.self.view_is) at c.requires.block_len) in
    let size : length_of t.blocks h ≡ 1 * (t.blocks * t.block.len) = ap (λ (n : ℕ). t.blocks * n) len ∙ (let e : t.blocks * t.block.len ≡ 1 * (t.blocks * t.block.len) = omega arith in e) in
    let room : length_of t.blocks h ≤ unused_of c.args.c.now.tracker h = rw (← c.self.view_is) at c.requires.unused in
    let loans_now : map lent c.push_reserved.new.self.items ≡ map lent loans ++ lent loan ∷ [] = ap (map lent) items ∙ map-append lent loans (loan ∷ []) in
    let bytes_now : area_of c.push_reserved.new.self.items ≡ area_of loans ++ replicate (1 * (t.blocks * t.block.len)) 0 =
    ap area_of items ∙ area_more loans loan ∙ ap (λ (bytes : List ℕ). area_of loans ++ bytes) (made.buffer.zeros ∙ ap (λ (n : ℕ). replicate n 0) size)
    in
    let blocks_are : loan.buf.blocks ≡ t.blocks = made.buffer.fits.blocks in
    let len_is : loan.buf.block_len ≡ h.block_len = made.buffer.fits.block_len in
    let bytes : loan.buf.blocks * loan.buf.block_len + 0 ≡ 1 * (t.blocks * t.block.len) =
    ap (λ (n : ℕ). n * loan.buf.block_len + 0) blocks_are ∙ ap (λ (n : ℕ). t.blocks * n + 0) (len_is ∙ len) ∙ (let e : t.blocks * t.block.len + 0 ≡ 1 * (t.blocks * t.block.len) = omega arith in e)
    in
    rw (← c.self.view_is) (record {
      more = lent loan ∷ [];
      region = λ i. record { blocks = t.blocks; block_len = t.block.len; loans = loans_now i; bytes = bytes_now i };
      many = refl;
      bytes = bytes;
      lends = lends_one c.args.c.now.tracker t.blocks (lent loan) h _ c.requires.client made.fresh made.client blocks_are len_is room made.holdings;
    })

pub returns-in_err-loan-clause-entries : goal.returns-in_err-loan-clause-entries
returns-in_err-loan-clause-entries g c = refused_entered _ _ _ _ _ _ (g.St.Store.signs c.args.store.now) (g.St.Store.signs c.alloc.new.self) c.in_err-loan.ensures.err

pub returns-clause-entries : goal.returns-clause-entries
returns-clause-entries g c = lent_entered _ _ _ _ _ _ (g.St.Store.signs c.args.store.now) (g.St.Store.signs c.alloc.new.self) c.in_ok-loan.ensures.entries
