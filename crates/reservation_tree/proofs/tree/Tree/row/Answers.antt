use Rattle.std.proofs.Common.{subst, sym, ap, ◌∙◌, ℕ}
use Rattle.slab.specs.Slab.{ContainsKey, get}
use Rattle.reservation_tree.proofs.Held.{row_answers, row_there}
use Rattle.reservation_tree.proofs.tree.Tree.row.Goals as goal

pub index-requires : goal.index-requires
index-requires c = subst (λ (k : ℕ). ContainsKey c.self.inside.rows k) (sym c.key.ensures) (row_there _ _ _ c.self.view_is c.requires)

pub returns : goal.returns
returns c = row_answers _ _ _ _ c.self.invariant c.self.view_is (ap (get c.self.inside.rows) (sym c.key.ensures) ∙ c.index.ensures)
