use Rattle.std.proofs.Common.{◌≡◌, ℕ, List, drop, ap, ◌∙◌}
use Rattle.reservation_tree.proofs.Marks.{drop-mark}
use Rattle.scratch_dev.proofs.marked.store_under.Goals as goal

pub returns-clause-block : goal.returns-clause-block
returns-clause-block g c = ap (λ (b : List ℕ). drop 20 b) c.write.ensures ∙ drop-mark c.args.mark (drop 20 c.args.block.now)
