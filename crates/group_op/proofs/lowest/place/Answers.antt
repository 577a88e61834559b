use Rattle.std.proofs.Common.{rules, ◌≡◌, ◌∙◌, ℕ, ◌+◌, ◌-◌, ◌/◌, ◌<◌, length, slice_index_or, ap, sym, arith, false}
use Rattle.std.specs.Ordering.{is_gt}
use Rattle.std.specs.declared.cmp.Ordering.TheVariants.{Greater}
use Rattle.group_rows.proofs.Paths.{bytes_is_order}
use Rattle.group_op.specs.declared.lowest.Entry.{Entry}
use Rattle.group_op.proofs.KeptRows.{by_bytes}
use Rattle.group_op.proofs.Puts.{gt_so, low_moves, not_gt, same_at}
use Rattle.group_op.proofs.lowest.place.Goals as goal

pub loop-low-preserved-then-is_gt : goal.loop-low-preserved-then-is_gt
loop-low-preserved-then-is_gt c =
    let mid : ℕ = c.loop-low.low + (c.loop-low.high - c.loop-low.low) / 2 in
    let below = c.loop-low-test.true in
    let short = c.loop-low.invariant.short in
    let half : c.loop-low.low + (c.loop-low.high - c.loop-low.low) / 2 < c.loop-low.high = omega (arith, below) in
    let inside : c.loop-low.low + (c.loop-low.high - c.loop-low.low) / 2 < length c.args.entries.now = omega (arith, half, short) in
    let above : by_bytes c.args.key.now (slice_index_or c.args.entries.now mid c.index-entries-mid.result).key.items ≡ Greater =
    ap (by_bytes c.args.key.now) (search rules) ∙ sym c.cmp.ensures ∙ gt_so c.cmp.result (sym c.is_gt.ensures ∙ c.if-is_gt.true) in
    record {
      inside = omega (arith, half);
      short = short;
      below = low_moves by_bytes bytes_is_order (λ (e : Entry). e.key.items) c.args.key.now c.args.entries.now mid c.index-entries-mid.result c.requires.ordered inside above;
      next = c.loop-low.invariant.next;
    }

pub loop-low-preserved : goal.loop-low-preserved
loop-low-preserved c =
    let mid : ℕ = c.loop-low.low + (c.loop-low.high - c.loop-low.low) / 2 in
    let below = c.loop-low-test.true in
    let short = c.loop-low.invariant.short in
    let half : c.loop-low.low + (c.loop-low.high - c.loop-low.low) / 2 < c.loop-low.high = omega (arith, below) in
    let inside : c.loop-low.low + (c.loop-low.high - c.loop-low.low) / 2 < length c.args.entries.now = omega (arith, half, short) in
    let there : is_gt (by_bytes c.args.key.now (slice_index_or c.args.entries.now mid c.index-entries-mid.result).key.items) ≡ false =
    ap is_gt (ap (by_bytes c.args.key.now) (search rules) ∙ sym c.cmp.ensures) ∙ sym c.is_gt.ensures ∙ c.if-is_gt.false in
    record {
      inside = omega arith;
      short = omega (arith, half, short);
      below = c.loop-low.invariant.below;
      next = λ within d. not_gt (by_bytes c.args.key.now (slice_index_or c.args.entries.now mid d).key.items)
          (ap (λ (e : Entry). is_gt (by_bytes c.args.key.now e.key.items)) (same_at c.args.entries.now mid d c.index-entries-mid.result inside) ∙ there);
    }
