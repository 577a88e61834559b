use Rattle.std.proofs.Common.{◌≡◌, ◌<◌, ◌-◌, ◌*◌, ◌/◌, ◌%◌, ◌^◌, ℕ, ap, ◌∙◌, arith, bit_and}
use Rattle.std.proofs.lemmas.Nat.{and_mask}
use Rattle.sub_alloc.specs.Pieces.{Division, places}
use Rattle.sub_alloc.proofs.Looks.{pow_small}
use Rattle.sub_alloc.proofs.allocator.SubAlloc.piece.Goals as goal

pub returns : goal.returns
returns c =
    let a = c.self.inside in
    let d : Division = record { block_len = a.block_len; page_blocks = a.page_blocks; classes = a.classes; buffers = a.buffers.items; free = a.free; live = a.live.items } in
    let inside : c.args.class < d.classes = rw (← c.self.view_is) at c.requires in
    let shown : c.places-within.result ≡ places d = rw (← c.self.view_is) at c.places-within.ensures.value in
    let few = c.self.invariant.sized.few in
    let small = pow_small c.args.class (omega (arith, inside, few)) in
    let at : 64 * bit_and c.args.place (c.places-within.result - 1) ≡ 64 * (c.args.place % places d) =
    ap (λ (m : ℕ). 64 * bit_and c.args.place (m - 1)) shown ∙ ap (λ (m : ℕ). 64 * m) (and_mask c.args.place (a.classes - 1))
    in
    let len : 64 * 2 ^ c.args.class % 4294967296 ≡ 64 * 2 ^ c.args.class = omega (arith, small) in
    rw (← c.self.view_is) (c.of.ensures ∙ (λ i. record { buf = c.args.place / places d; at = at i; len = len i }))
