use Rattle.std.proofs.Common.{◌≡◌, ◌<◌, ◌≤◌, None, length, refl, sym, subst, arith}
use Rattle.store_api.specs.Holdings.{unused_of}
use Rattle.sub_alloc.specs.Pieces.{Division, buffer, buffer_len, places}
use Rattle.sub_alloc.specs.Rules.{taken_new}
use Rattle.sub_alloc.specs.Tiling.{IsWhole}
use Rattle.sub_alloc.specs.Lending.{IsAllocOf}
use Rattle.sub_alloc.proofs.Lent.{of_opened}
use Rattle.sub_alloc.proofs.allocator.SubAlloc.take_first.Goals as goal

pub returns-in-Ok-clause-of : goal.returns-in-Ok-clause-of
returns-in-Ok-clause-of g c =
    let a = c.self.inside in
    let d : Division = record { block_len = a.block_len; page_blocks = a.page_blocks; classes = a.classes; buffers = a.buffers.items; free = a.free; live = a.live.items } in
    let t = c.args.c.now.tracker in
    let h = g.St.Store.holds c.args.store.now in
    let now = g.St.Store.holds c.alloc.new.self in
    let w : IsWhole d = c.self.invariant in
    let is : IsAllocOf t h d = rw (← c.self.view_is) at c.requires.of in
    let bufs = c.deref.ensures.value in
    let l : c.first_closed-number.result < length a.buffers.items = omega arith in
    let shut : buffer c.first_closed-number.result d ≡ None = rw c.deref.ensures.value at (c.first_closed-number.ensures.shut (omega arith)) in
    let places_is : c.places.result ≡ places d = rw (← c.self.view_is) at c.places.ensures.value in
    let room : buffer_len d ≤ unused_of t h = omega (arith, places_is, c.unused-unused.ensures.value, c.from-wanted.ensures, c.if-unused-wanted.false) in
    let opened : IsAllocOf t now (taken_new c.args.class c.first_closed-number.result c.in-Ok.loan d) = of_opened t h now d c.args.c.now c.in-Ok.loan c.first_closed-number.result _ _ is refl l shut w.sized.len room c.in-Ok.ensures.ok in
    subst (IsAllocOf t now) (sym c.take_new.ensures.division) (subst (λ (v : Division). IsAllocOf t now (taken_new c.args.class c.first_closed-number.result c.in-Ok.loan v)) c.self.view_is opened)
