use Rattle.std.proofs.Common.{◌≡◌, ◌*◌, ℕ, [], ◌∷◌, ◌++◌, map, take, length, refl, ap, sym, ◌∙◌, subst, arith, length-append}
use Rattle.std.proofs.lemmas.List.{map-append, take_at}
use Rattle.std.specs.Option.{option_to_list}
use Rattle.bucket_table.specs.Lending.{AreHeld}
use Rattle.bucket_table.specs.Regions.{area_of, lent}
use Rattle.bucket_table.proofs.Entered.{freed_entered}
use Rattle.bucket_table.proofs.Filled.{area_more, last_loan, parts_less}
use Rattle.bucket_table.proofs.Held.{freed_last, held_front}
use Rattle.bucket_table.proofs.area.Area.free_last.Goals as goal

pub free-requires : goal.free-requires
free-requires g c =
    let t = c.self.inside in
    let h = g.St.Store.holds c.args.store.now in
    let rest = c.pop.new.self.items in
    let loan = c.in-Some.loan in
    let split : t.parts.items ≡ rest ++ loan ∷ [] = c.pop.ensures.items ∙ ap (λ o. rest ++ option_to_list o) c.in-Some.is in
    let parts = parts_less t.blocks t.block.len t.each.len t.parts.items rest loan c.self.invariant split in
    let held : AreHeld c.requires.held.0 h (map lent t.parts.items) = rw (← c.self.view_is) at c.requires.held.1 in
    (last_loan c.requires.held.0 t.blocks t.block.len t.parts.items rest loan h split parts.1 held).0

pub invariant_of-self : goal.invariant_of-self
invariant_of-self g c =
    let t = c.self.inside in
    let rest = c.pop.new.self.items in
    let loan = c.in-Some.loan in
    let split : t.parts.items ≡ rest ++ loan ∷ [] = c.pop.ensures.items ∙ ap (λ o. rest ++ option_to_list o) c.in-Some.is in
    (parts_less t.blocks t.block.len t.each.len t.parts.items rest loan c.self.invariant split).0

pub returns-clause-went : goal.returns-clause-went
returns-clause-went g c =
    let t = c.self.inside in
    let h = g.St.Store.holds c.args.store.now in
    let new = g.St.Store.holds c.free.new.self in
    let rest = c.pop.new.self.items in
    let loan = c.in-Some.loan in
    let split : t.parts.items ≡ rest ++ loan ∷ [] = c.pop.ensures.items ∙ ap (λ o. rest ++ option_to_list o) c.in-Some.is in
    let parts = parts_less t.blocks t.block.len t.each.len t.parts.items rest loan c.self.invariant split in
    let loans : map lent t.parts.items ≡ map lent rest ++ lent loan ∷ [] = ap (map lent) split ∙ map-append lent rest (loan ∷ []) in
    let bytes : area_of t.parts.items ≡ area_of rest ++ loan.buf.bytes = ap area_of split ∙ area_more rest loan in
    let size : length loan.buf.bytes ≡ t.blocks * t.block.len = parts.1.whole in
    let freed = λ (k : ℕ) (is : AreHeld k h (map lent t.parts.items)). freed_last k (map lent rest) (lent loan) h new (subst (AreHeld k h) loans is) c.free.ensures.value in
    rw (← c.self.view_is) (record {
      gone = lent loan ∷ [];
      loans = loans;
      blocks = refl;
      block_len = refl;
      bytes = sym (ap (take (length (area_of rest))) bytes ∙ take_at (area_of rest) loan.buf.bytes (length (area_of rest)) refl);
      long = (let sum = length-append (area_of rest) loan.buf.bytes in omega (arith, ap length bytes, sum, size));
      held = λ k is. held_front k (map lent rest) (lent loan ∷ []) h new (subst (AreHeld k h) loans is) (freed k is);
      lends = λ k is. freed k is;
    })

pub returns-clause-entries : goal.returns-clause-entries
returns-clause-entries g c = freed_entered _ _ (g.St.Store.signs c.args.store.now) (g.St.Store.signs c.free.new.self) c.free.ensures.entries
