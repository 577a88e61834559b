use Rattle.std.proofs.Common.{◌≡◌, ◌<◌, ◌+◌, ◌-◌, ◌*◌, ◌/◌, ◌^◌, ℕ, suc, get_or, length, ap, sym, ◌∙◌, arith}
use Rattle.std.proofs.lemmas.List.{get_or_read}
use Rattle.std.proofs.lemmas.Nat.{pow_pos}
use Rattle.sub_alloc.specs.Pieces.{Division, IsLive, place_of, places}
use Rattle.sub_alloc.specs.Tiling.{IsWhole}
use Rattle.sub_alloc.proofs.Room.{begins_small}
use Rattle.sub_alloc.proofs.Whole.{placed_of}
use Rattle.sub_alloc.proofs.allocator.SubAlloc.locate.Goals as goal

pub overflow_mul-place : goal.overflow_mul-place
overflow_mul-place c =
    let d = c.args.self.now in
    let small = begins_small d c.args.p c.places-places.ensures.whole c.requires in
    let is : c.into_place-buf.result.0 * c.places-places.result ≡ c.args.p.buf * places d = ap (λ (m : ℕ). m * c.places-places.result) c.into_place-buf.ensures.buf ∙ ap (λ (m : ℕ). c.args.p.buf * m) c.places-places.ensures.value in
    omega (arith, small, is)

pub overflow_add-place : goal.overflow_add-place
overflow_add-place c =
    let d = c.args.self.now in
    let small = begins_small d c.args.p c.places-places.ensures.whole c.requires in
    let is : c.into_place-buf.result.0 * c.places-places.result ≡ c.args.p.buf * places d = ap (λ (m : ℕ). m * c.places-places.result) c.into_place-buf.ensures.buf ∙ ap (λ (m : ℕ). c.args.p.buf * m) c.places-places.ensures.value in
    omega (arith, small, is, c.into_place-buf.ensures.at)

pub returns : goal.returns
returns c =
    let a = c.self.inside in
    let d : Division = record { block_len = a.block_len; page_blocks = a.page_blocks; classes = a.classes; buffers = a.buffers.items; free = a.free; live = a.live.items } in
    let w : IsWhole d = c.self.invariant in
    let p = c.args.p in
    let is : IsLive c.args.p d = rw (← c.self.view_is) at c.requires in
    let places_is : c.places-places.result ≡ places d = rw (← c.self.view_is) at c.places-places.ensures.value in
    let n : ℕ = c.into_place-buf.result.0 * c.places-places.result + c.into_place-buf.result.1 / 64 in
    let place_is : c.into_place-buf.result.0 * c.places-places.result + c.into_place-buf.result.1 / 64 ≡ place_of d c.args.p =
    ap (λ (m : ℕ). m * c.places-places.result + c.into_place-buf.result.1 / 64) c.into_place-buf.ensures.buf
    ∙ ap (λ (m : ℕ). c.args.p.buf * m + c.into_place-buf.result.1 / 64) places_is
    ∙ ap (λ (m : ℕ). c.args.p.buf * places d + m / 64) c.into_place-buf.ensures.at
    in
    let at = placed_of d c.args.p w is in
    let inside : c.into_place-buf.result.0 * c.places-places.result + c.into_place-buf.result.1 / 64 < length a.live.items = (let one = pow_pos at.class in omega (arith, at.table, one, w.sized.nodes, w.sized.marks, place_is)) in
    let read : c.index.result.now ≡ get_or a.live.items (c.into_place-buf.result.0 * c.places-places.result + c.into_place-buf.result.1 / 64) 0 = get_or_read a.live.items (c.into_place-buf.result.0 * c.places-places.result + c.into_place-buf.result.1 / 64) c.index.result.now inside c.index.ensures 0 in
    let mark : get_or a.live.items (c.into_place-buf.result.0 * c.places-places.result + c.into_place-buf.result.1 / 64) 0 ≡ suc at.class = ap (λ (m : ℕ). get_or a.live.items m 0) place_is ∙ at.mark in
    let class_is : c.from-class.result - 1 ≡ at.class = omega (arith, read, mark, c.from-class.ensures) in
    rw (← c.self.view_is) (record {
      place = place_is;
      mark = omega (arith, mark, class_is);
      short = omega (arith, class_is, at.short);
      aligned = (at.aligned.0, place_is ∙ at.aligned.1 ∙ ap (λ (k : ℕ). at.aligned.0 * 2 ^ k) (sym class_is));
      inside = omega (arith, inside, w.sized.nodes, w.sized.marks);
    })
