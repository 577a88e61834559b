use Rattle.std.proofs.Common.{rules, ◌≡◌, ◌+◌, ◌-◌, ◌*◌, ◌/◌, ◌^◌, ℕ, None, replicate, refl, ap, sym, ◌∙◌, arith}
use Rattle.index_list.specs.Listing.{empty}
use Rattle.sub_alloc.specs.Pieces.{Division, places}
use Rattle.sub_alloc.specs.Tiling.{IsNew}
use Rattle.sub_alloc.proofs.Made.{has_places, log_is, log_small, new_whole}
use Rattle.sub_alloc.proofs.allocator.SubAlloc.open.Goals as goal

pub invariant_of-result : goal.invariant_of-result
invariant_of-result c =
    let r = c.ilog2-classes.result in
    let d : Division = record { block_len = c.args.block_len; page_blocks = c.args.page_blocks; classes = c.ilog2-classes.result + 1; buffers = c.loop-number.buffers.items; free = c.in-Ok.free; live = c.in_ok-live.live.items } in
    let size = has_places c.args.page_blocks c.args.block_len c.requires.blocks c.requires.block_len in
    let log : 2 ^ c.ilog2-classes.result ≡ c.args.page_blocks * c.args.block_len / 64 =
    log_is size.power c.ilog2-classes.result (c.args.page_blocks * c.args.block_len / 64) size.places c.ilog2-classes.ensures.power_le c.ilog2-classes.ensures.next_power_gt
    in
    let each : places d ≡ c.args.page_blocks * c.args.block_len / 64 = ap (λ (k : ℕ). 2 ^ k) (let e : c.ilog2-classes.result + 1 - 1 ≡ c.ilog2-classes.result = omega arith in e) ∙ log in
    let all : c.loop-number._number ≡ c.args.bufs = omega arith in
    let marks : c.in_ok-live.live.items ≡ replicate (c.args.bufs * (c.args.page_blocks * c.args.block_len / 64)) 0 = search rules in
    let new : IsNew c.args.block_len c.args.page_blocks c.args.bufs d = record {
      block_len = refl;
      page_blocks = refl;
      len = ap (λ (k : ℕ). 64 * k) each ∙ sym size.whole;
      buffers = c.loop-number.invariant.items ∙ ap (λ (k : ℕ). replicate k None) all;
      free = c.in-Ok.ensures ∙ ap (λ (k : ℕ). empty (c.args.bufs * k) (c.ilog2-classes.result + 1)) (sym each);
      live = marks ∙ ap (λ (k : ℕ). replicate (c.args.bufs * k) 0) (sym each);
    } in
    let short = c.requires.short in
    let low = log_small c.ilog2-classes.result (omega (arith, log, short)) in
    new_whole d c.args.block_len c.args.page_blocks c.args.bufs new (omega arith) (omega (arith, low)) c.requires.blocks c.requires.bufs

pub returns : goal.returns
returns c =
    let r = c.ilog2-classes.result in
    let d : Division = record { block_len = c.args.block_len; page_blocks = c.args.page_blocks; classes = c.ilog2-classes.result + 1; buffers = c.loop-number.buffers.items; free = c.in-Ok.free; live = c.in_ok-live.live.items } in
    let size = has_places c.args.page_blocks c.args.block_len c.requires.blocks c.requires.block_len in
    let log : 2 ^ c.ilog2-classes.result ≡ c.args.page_blocks * c.args.block_len / 64 =
    log_is size.power c.ilog2-classes.result (c.args.page_blocks * c.args.block_len / 64) size.places c.ilog2-classes.ensures.power_le c.ilog2-classes.ensures.next_power_gt
    in
    let each : places d ≡ c.args.page_blocks * c.args.block_len / 64 = ap (λ (k : ℕ). 2 ^ k) (let e : c.ilog2-classes.result + 1 - 1 ≡ c.ilog2-classes.result = omega arith in e) ∙ log in
    let all : c.loop-number._number ≡ c.args.bufs = omega arith in
    let marks : c.in_ok-live.live.items ≡ replicate (c.args.bufs * (c.args.page_blocks * c.args.block_len / 64)) 0 = search rules in
    let new : IsNew c.args.block_len c.args.page_blocks c.args.bufs d = record {
      block_len = refl;
      page_blocks = refl;
      len = ap (λ (k : ℕ). 64 * k) each ∙ sym size.whole;
      buffers = c.loop-number.invariant.items ∙ ap (λ (k : ℕ). replicate k None) all;
      free = c.in-Ok.ensures ∙ ap (λ (k : ℕ). empty (c.args.bufs * k) (c.ilog2-classes.result + 1)) (sym each);
      live = marks ∙ ap (λ (k : ℕ). replicate (c.args.bufs * k) 0) (sym each);
    } in
    new
