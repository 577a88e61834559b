use Rattle.std.proofs.Common.{ℕ, sym, subst}
use Rattle.slab.specs.Slab.{ContainsKey}
use Rattle.reservation_tree.proofs.Held.{row_there, key_lives}
use Rattle.reservation_tree.proofs.tree.Tree.is_live.Goals as goal

pub returns : goal.returns
returns c = (
  (λ yes_it_is. key_lives c.args.self.now c.self.inside.rows c.args.t c.self.view_is (subst (λ (k : ℕ). ContainsKey c.self.inside.rows k) c.key.ensures (c.contains.ensures.0 yes_it_is))),
  (λ live. c.contains.ensures.1 (subst (λ (k : ℕ). ContainsKey c.self.inside.rows k) (sym c.key.ensures) (row_there c.args.self.now c.self.inside.rows c.args.t c.self.view_is live))),
)
