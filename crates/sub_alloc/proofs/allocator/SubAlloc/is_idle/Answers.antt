use Rattle.std.proofs.Common.{◌≡◌, ◌<◌, ℕ, None, get_or, refl, ap, sym, ◌∙◌, inl, inr, arith}
use Rattle.std.proofs.lemmas.Bool.{cases_lt, false≢true}
use Rattle.std.proofs.lemmas.List.{get_or_past, get_or_read}
use Rattle.std.specs.Prelude.{is_some}
use Rattle.sub_alloc.specs.Pieces.{Division}
use Rattle.sub_alloc.proofs.Asked.{closed_of, none_live, open_live}
use Rattle.sub_alloc.proofs.allocator.SubAlloc.is_idle.Goals as goal

pub returns-then-is_some : goal.returns-then-is_some
returns-then-is_some c =
    let a = c.self.inside in
    let d : Division = record { block_len = a.block_len; page_blocks = a.page_blocks; classes = a.classes; buffers = a.buffers.items; free = a.free; live = a.live.items } in
    let read = get_or_read a.buffers.items c.loop-number.number c.index.result.now (omega (arith, c.loop-number-test.true)) c.index.ensures None in
    let is_open = ap is_some (sym read) ∙ sym c.is_some.ensures ∙ c.if-is_some.true in
    rw (← c.self.view_is) ((λ same. absurd (false≢true same)), (λ idle. absurd (open_live d c.self.invariant c.loop-number.number is_open idle)))

pub loop-number-preserved : goal.loop-number-preserved
loop-number-preserved c =
    let a = c.self.inside in
    let before : (u : ℕ) → u < c.loop-number.number → get_or a.buffers.items u None ≡ None = rw (← c.self.view_is) at c.loop-number.invariant in
    let read = get_or_read a.buffers.items c.loop-number.number c.index.result.now (omega (arith, c.loop-number-test.true)) c.index.ensures None in
    let closed = closed_of (get_or a.buffers.items c.loop-number.number None) (ap is_some (sym read) ∙ sym c.is_some.ensures ∙ c.if-is_some.false) in
    rw (← c.self.view_is) (λ u l.
    elim (cases_lt u c.loop-number.number) [
      | inl low ↦ before u low
      | inr high ↦ let e : u ≡ c.loop-number.number = omega (arith, l, high) in ap (λ (k : ℕ). get_or a.buffers.items k None) e ∙ closed
    ])

pub returns : goal.returns
returns c =
    let a = c.self.inside in
    let d : Division = record { block_len = a.block_len; page_blocks = a.page_blocks; classes = a.classes; buffers = a.buffers.items; free = a.free; live = a.live.items } in
    let before : (u : ℕ) → u < c.loop-number.number → get_or a.buffers.items u None ≡ None = rw (← c.self.view_is) at c.loop-number.invariant in
    let shut : (u : ℕ) → get_or a.buffers.items u None ≡ None = λ u.
    elim (cases_lt u c.loop-number.number) [
      | inl low ↦ before u low
      | inr high ↦ get_or_past a.buffers.items u None (omega (arith, high, c.loop-number-test.false))
    ]
    in
    rw (← c.self.view_is) ((λ same. none_live d c.self.invariant shut), (λ idle. refl))
