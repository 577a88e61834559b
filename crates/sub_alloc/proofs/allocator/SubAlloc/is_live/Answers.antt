use Rattle.std.proofs.Common.{◌≡◌, ◌+◌, ◌-◌, ◌*◌, ◌/◌, ◌^◌, ℕ, suc, get_or, ap, ◌∙◌, arith}
use Rattle.std.proofs.lemmas.Bool.{eq-eqb, eqb-true, false≢true}
use Rattle.std.proofs.lemmas.List.{get_or_read}
use Rattle.sub_alloc.specs.Pieces.{Division, place_of, places}
use Rattle.sub_alloc.specs.Tiling.{IsWhole}
use Rattle.sub_alloc.proofs.Asked.{IsInside, live_is, mark_short, place_is, shape_of}
use Rattle.sub_alloc.proofs.Looks.{pow_small}
use Rattle.sub_alloc.proofs.allocator.SubAlloc.is_live.Goals as goal
use Rattle.sub_alloc.proofs.allocator.SubAlloc.is_live.Goals.{then-at-ne0-via-then-at-ne0, then-at-ne0-via-else-at-ne0+then-at-places, then-at-ne0-via-else-at-ne0+else-at-places+then-buf-len}

pub overflow_shl-result : goal.overflow_shl-result
overflow_shl-result c =
    let a = c.self.inside in
    let d : Division = record { block_len = a.block_len; page_blocks = a.page_blocks; classes = a.classes; buffers = a.buffers.items; free = a.free; live = a.live.items } in
    let w : IsWhole d = c.self.invariant in
    let shown : c.places-places.result ≡ places d = rw (← c.self.view_is) at c.places-places.ensures.value in
    let lies : IsInside d c.args.p.now = record {
      step = omega (arith, c.if-at-ne0.false, c.at-at.ensures);
      at = omega (arith, c.if-at-places.false, c.at-at.ensures, shown);
      buf = omega (arith, c.if-buf-len.false, c.len.ensures, c.buf-buf.ensures, a.buffers.ok.0);
    } in
    let from : c.buf-buf.result * c.places-places.result + c.at-at.result / 64 ≡ place_of d c.args.p.now =
    ap (λ (m : ℕ). m * c.places-places.result + c.at-at.result / 64) c.buf-buf.ensures
    ∙ ap (λ (m : ℕ). c.args.p.now.buf * m + c.at-at.result / 64) shown
    ∙ ap (λ (m : ℕ). c.args.p.now.buf * places d + m / 64) c.at-at.ensures
    in
    let there = place_is d c.args.p.now w lies.at lies.buf in
    let read = get_or_read a.live.items (c.buf-buf.result * c.places-places.result + c.at-at.result / 64) c.index.result.now (omega (arith, there.inside, from)) c.index.ensures 0 in
    let same : get_or a.live.items (c.buf-buf.result * c.places-places.result + c.at-at.result / 64) 0 ≡ get_or a.live.items (place_of d c.args.p.now) 0 = ap (λ (m : ℕ). get_or a.live.items m 0) from in
    let mark : get_or a.live.items (place_of d c.args.p.now) 0 ≡ suc (c.from-mark.result - 1) = omega (arith, read, same, c.from-mark.ensures, c.if-mark-ne0.true) in
    let short = mark_short d w (place_of d c.args.p.now) (c.from-mark.result - 1) mark in
    let few = w.sized.few in
    omega (arith, short, few)

pub returns-then-at-ne0 : goal.returns-then-at-ne0
returns-then-at-ne0 c =
    let a = c.self.inside in
    let d : Division = record { block_len = a.block_len; page_blocks = a.page_blocks; classes = a.classes; buffers = a.buffers.items; free = a.free; live = a.live.items } in
    let w : IsWhole d = c.self.invariant in
    let p = c.args.p.now in
    let shown : c.places-places.result ≡ places d = rw (← c.self.view_is) at c.places-places.ensures.value in
    rw (← c.self.view_is) (
      (λ e. absurd (false≢true e)),
      (λ is.
          let lies = (shape_of d p w is).lies in
          absurd (elim c.then-at-ne0.branch [
            | then-at-ne0-via-then-at-ne0 b ↦ omega (arith, b.if-at-ne0.true, c.at-at.ensures, lies.step)
            | then-at-ne0-via-else-at-ne0+then-at-places b ↦ omega (arith, b.if-at-places.true, c.at-at.ensures, shown, lies.at)
            | then-at-ne0-via-else-at-ne0+else-at-places+then-buf-len b ↦ omega (arith, b.if-buf-len.true, b.len.ensures, c.buf-buf.ensures, a.buffers.ok.0, lies.buf)
          ])),
    )

pub returns-then-mark-ne0 : goal.returns-then-mark-ne0
returns-then-mark-ne0 c =
    let a = c.self.inside in
    let d : Division = record { block_len = a.block_len; page_blocks = a.page_blocks; classes = a.classes; buffers = a.buffers.items; free = a.free; live = a.live.items } in
    let w : IsWhole d = c.self.invariant in
    let p = c.args.p.now in
    let shown : c.places-places.result ≡ places d = rw (← c.self.view_is) at c.places-places.ensures.value in
    let lies : IsInside d c.args.p.now = record {
      step = omega (arith, c.if-at-ne0.false, c.at-at.ensures);
      at = omega (arith, c.if-at-places.false, c.at-at.ensures, shown);
      buf = omega (arith, c.if-buf-len.false, c.len.ensures, c.buf-buf.ensures, a.buffers.ok.0);
    } in
    let from : c.buf-buf.result * c.places-places.result + c.at-at.result / 64 ≡ place_of d c.args.p.now =
    ap (λ (m : ℕ). m * c.places-places.result + c.at-at.result / 64) c.buf-buf.ensures
    ∙ ap (λ (m : ℕ). c.args.p.now.buf * m + c.at-at.result / 64) shown
    ∙ ap (λ (m : ℕ). c.args.p.now.buf * places d + m / 64) c.at-at.ensures
    in
    let there = place_is d c.args.p.now w lies.at lies.buf in
    let read = get_or_read a.live.items (c.buf-buf.result * c.places-places.result + c.at-at.result / 64) c.index.result.now (omega (arith, there.inside, from)) c.index.ensures 0 in
    let same : get_or a.live.items (c.buf-buf.result * c.places-places.result + c.at-at.result / 64) 0 ≡ get_or a.live.items (place_of d c.args.p.now) 0 = ap (λ (m : ℕ). get_or a.live.items m 0) from in
    let mark : get_or a.live.items (place_of d c.args.p.now) 0 ≡ suc (c.from-mark.result - 1) = omega (arith, read, same, c.from-mark.ensures, c.if-mark-ne0.true) in
    let short = mark_short d w (place_of d c.args.p.now) (c.from-mark.result - 1) mark in
    let few = w.sized.few in
    let small = pow_small (c.from-mark.result - 1) (omega (arith, short, few)) in
    rw (← c.self.view_is) (
      (λ same. live_is d p (c.from-mark.result - 1) w lies mark (let e = eqb-true _ _ same in omega (arith, e, c.len-then-mark-ne0.ensures, small))),
      (λ is.
          let shape = shape_of d p w is in
          let class : c.from-mark.result - 1 ≡ shape.class = omega (arith, mark, shape.mark) in
          let long : 64 * 2 ^ (c.from-mark.result - 1) ≡ 64 * 2 ^ shape.class = ap (λ (m : ℕ). 64 * 2 ^ m) class in
          eq-eqb _ _ (omega (arith, c.len-then-mark-ne0.ensures, shape.len, long, small))),
    )
