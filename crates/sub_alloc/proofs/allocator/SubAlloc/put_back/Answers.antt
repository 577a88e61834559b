use Rattle.std.proofs.Common.{◌≡◌, Option, None, Some, IsSome, set, refl, ap, sym, ◌∙◌, subst, inl, inr}
use Rattle.store_api.specs.Changes.{after_free}
use Rattle.store_api.specs.Conditions.{IsLoan}
use Rattle.store_api.specs.Entries.{MadeThese}
use Rattle.store_api.specs.Holdings.{Holdings}
use Rattle.store_api.specs.Tokens.{LoanToken}
use Rattle.sub_alloc.specs.Pieces.{Division}
use Rattle.sub_alloc.specs.Lending.{IsAllocOf, IsOwn, freed_events}
use Rattle.sub_alloc.proofs.Returned.{none_entered, return_cases}
use Rattle.sub_alloc.proofs.Leaving.{leaves_freed}
use Rattle.sub_alloc.proofs.Lent.{of_closed, of_same}
use Rattle.sub_alloc.proofs.Whole.{slot_in}
use Rattle.sub_alloc.proofs.allocator.SubAlloc.put_back.Goals as goal

no_some : {P : Type 0} (o : Option LoanToken) (x : LoanToken) → o ≡ None → o ≡ Some x → P
no_some o x none some = cc

same_some : {x y : LoanToken} → Some x ≡ Some y → x ≡ y
same_some same = cc

pub free-requires : goal.free-requires
free-requires g c =
    let d = c.args.self.now in
    let h = g.St.Store.holds c.args.store.now in
    let gone = sym c.take_back.ensures.loan ∙ c.in-Some.is in
    let of = c.requires.of in
    elim (return_cases d c.args.p c.law_whole.ensures c.requires.live) [
      | inl f ↦ no_some _ c.in-Some.loan f.none gone
      | inr s ↦ subst (λ (x : LoanToken). IsLoan x h) (same_some (sym s.some ∙ gone)) (of.1.own s.slot s.loan s.stands).is
    ]

pub returns-in-Some-clause-of : goal.returns-in-Some-clause-of
returns-in-Some-clause-of g c t is =
    let d = c.args.self.now in
    let h = g.St.Store.holds c.args.store.now in
    let w = c.law_whole.ensures in
    let gone = sym c.take_back.ensures.loan ∙ c.in-Some.is in
    elim (return_cases d c.args.p c.law_whole.ensures c.requires.live) [
      | inl f ↦ no_some _ c.in-Some.loan f.none gone
      | inr s ↦
          let l = slot_in d.buffers s.slot (subst IsSome (sym s.stands) refl) in
          let closed = of_closed t h d s.loan s.slot s.lists s.marks is l s.stands (w.loans s.slot s.loan s.stands) w.sized.len in
          let same : after_free s.loan.number h ≡ g.St.Store.holds c.free.new.self = ap (λ (x : LoanToken). after_free x.number h) (same_some (sym s.some ∙ gone)) ∙ sym c.free.ensures.value in
          subst (λ (x : Division). IsAllocOf t (g.St.Store.holds c.free.new.self) x) (sym (c.take_back.ensures.division ∙ s.division))
          (subst (λ (x : Holdings). IsAllocOf t x (record d { buffers = set d.buffers s.slot None; free = s.lists; live = s.marks })) same closed)
    ]

pub returns-in-None-clause-of : goal.returns-in-None-clause-of
returns-in-None-clause-of g c t is =
    let d = c.args.self.now in
    let h = g.St.Store.holds c.args.store.now in
    elim (return_cases d c.args.p c.law_whole.ensures c.requires.live) [
      | inl f ↦
          subst (IsAllocOf t h) (sym (c.take_back.ensures.division ∙ f.division)) (of_same t h d f.lists f.marks is)
      | inr s ↦ no_some c.take_back.result s.loan c.in-None.is (c.take_back.ensures.loan ∙ s.some)
    ]

pub returns-in-None-clause-entries : goal.returns-in-None-clause-entries
returns-in-None-clause-entries g c =
    let signs = g.St.Store.signs c.args.store.now in
    let maker = (g.St.Store.holds c.args.store.now).session in
    let gone = sym c.take_back.ensures.loan ∙ c.in-None.is in
    subst (λ (o : Option LoanToken). MadeThese maker (freed_events o) signs signs) (sym gone) (none_entered maker signs.trail)

pub returns-in-Some-clause-leaves : goal.returns-in-Some-clause-leaves
returns-in-Some-clause-leaves g c t of =
    let d = c.args.self.now in
    let gone = sym c.take_back.ensures.loan ∙ c.in-Some.is in
    elim (return_cases d c.args.p c.law_whole.ensures c.requires.live) [
      | inl f ↦ no_some _ c.in-Some.loan f.none gone
      | inr s ↦
          let own = subst (λ (x : LoanToken). IsOwn t (g.St.Store.holds c.args.store.now) x) (same_some (sym s.some ∙ gone)) (of.own s.slot s.loan s.stands) in
          leaves_freed g.St.Store t c.args.store.now c.free.new.self c.free.ensures.grows c.in-Some.loan own.is own.client c.free.ensures.value
    ]
