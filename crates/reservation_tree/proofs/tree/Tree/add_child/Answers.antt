use Rattle.std.proofs.Common.{◌≡◌, ◌∙◌, ap, sym, ℕ, ◌+◌, Some, arith}
use Rattle.std.specs.FinMap as map
use Rattle.reservation_tree.specs.declared.row.Row.{Row}
use Rattle.reservation_tree.specs.Tracker.{Tracker, depth_of}
use Rattle.reservation_tree.specs.Tree.{with_new}
use Rattle.reservation_tree.specs.Rows.{tracker_in, used_in}
use Rattle.reservation_tree.proofs.Places.{come, none_live}
use Rattle.reservation_tree.proofs.tree.Tree.add_child.Goals as goal

pub invariant_of-self : goal.invariant_of-self
invariant_of-self c =
    let deep : c.row-depth.result.depth + 1 ≡ depth_of c.args.self.now.trackers c.args.parent + 1 = ap (λ (x : Tracker). x.depth + 1) (sym c.row-depth.ensures.says) in
    (come c.args.self.now c.self.inside.rows c.insert_reserved-key.new.self c.self.invariant c.self.view_is c.insert_reserved-key.result c.args.parent c.args.limit c.new.result c.requires
    c.insert_reserved-key.ensures.was_vacant c.insert_reserved-key.ensures.updates
    (ap tracker_in c.new.ensures ∙ ap (λ (n : ℕ). record { parent = Some c.args.parent; depth = n; limit = c.args.limit; reservation = 0 }) deep)
    (ap used_in c.new.ensures) (ap (λ (r : Row). r.children) c.new.ensures) c.insert_reserved-key.ensures.len c.insert_reserved-key.ensures.capacity (omega (arith, c.len.ensures, c.if-len.false)) (omega (arith, c.insert_reserved-key.ensures.key_in_range, c.insert_reserved-key.ensures.capacity, c.self.invariant.capacity))).sound

pub returns-clause-ok : goal.returns-clause-ok
returns-clause-ok c =
    let deep : c.row-depth.result.depth + 1 ≡ depth_of c.args.self.now.trackers c.args.parent + 1 = ap (λ (x : Tracker). x.depth + 1) (sym c.row-depth.ensures.says) in
    (come c.args.self.now c.self.inside.rows c.insert_reserved-key.new.self c.self.invariant c.self.view_is c.insert_reserved-key.result c.args.parent c.args.limit c.new.result c.requires
    c.insert_reserved-key.ensures.was_vacant c.insert_reserved-key.ensures.updates
    (ap tracker_in c.new.ensures ∙ ap (λ (n : ℕ). record { parent = Some c.args.parent; depth = n; limit = c.args.limit; reservation = 0 }) deep)
    (ap used_in c.new.ensures) (ap (λ (r : Row). r.children) c.new.ensures) c.insert_reserved-key.ensures.len c.insert_reserved-key.ensures.capacity (omega (arith, c.len.ensures, c.if-len.false)) (omega (arith, c.insert_reserved-key.ensures.key_in_range, c.insert_reserved-key.ensures.capacity, c.self.invariant.capacity))).state
    ∙ ap (λ (k : ℕ). with_new k c.args.parent c.args.limit c.args.self.now) (sym c.of.ensures)

pub returns-clause-fresh : goal.returns-clause-fresh
returns-clause-fresh c =
    ap (map.get c.args.self.now.trackers) c.of.ensures ∙ none_live c.args.self.now c.self.inside.rows c.self.view_is c.insert_reserved-key.result c.insert_reserved-key.ensures.was_vacant
