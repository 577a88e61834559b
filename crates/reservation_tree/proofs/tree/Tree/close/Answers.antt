use Rattle.std.proofs.Common.{subst, sym, ℕ, None}
use Rattle.slab.specs.Slab.{ContainsKey, Updates}
use Rattle.reservation_tree.proofs.Held.{row_there}
use Rattle.reservation_tree.proofs.Places.{gone}
use Rattle.reservation_tree.proofs.tree.Tree.close.Goals as goal

pub remove-requires : goal.remove-requires
remove-requires c = subst (λ (k : ℕ). ContainsKey c.self.inside.rows k) (sym c.key.ensures) (row_there c.args.self.now c.self.inside.rows c.args.t c.self.view_is c.requires.live)

pub invariant_of-self : goal.invariant_of-self
invariant_of-self c =
    (gone c.args.self.now c.self.inside.rows c.remove.new.self c.self.invariant c.self.view_is c.args.t c.requires.live c.requires.not_root c.requires.empty c.requires.no_child
    (subst (λ (k : ℕ). Updates c.self.inside.rows c.remove.new.self k None) c.key.ensures c.remove.ensures.updates) c.remove.ensures.len c.remove.ensures.capacity).sound

pub returns : goal.returns
returns c =
    (gone c.args.self.now c.self.inside.rows c.remove.new.self c.self.invariant c.self.view_is c.args.t c.requires.live c.requires.not_root c.requires.empty c.requires.no_child
    (subst (λ (k : ℕ). Updates c.self.inside.rows c.remove.new.self k None) c.key.ensures c.remove.ensures.updates) c.remove.ensures.len c.remove.ensures.capacity).state
