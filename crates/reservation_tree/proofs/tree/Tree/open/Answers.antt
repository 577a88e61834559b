use Rattle.std.proofs.Common.{◌∙◌, subst, ap, ℕ, Some, arith}
use Rattle.slab.specs.Slab.{Updates}
use Rattle.reservation_tree.specs.declared.row.Row.{Row}
use Rattle.reservation_tree.specs.Rows.{tracker_in, used_in}
use Rattle.reservation_tree.proofs.Places.{first_row}
use Rattle.reservation_tree.proofs.tree.Tree.open.Goals as goal

pub invariant_of-result : goal.invariant_of-result
invariant_of-result c =
    (first_row c.in_ok-rows.rows c.insert_reserved.new.self c.args.limit c.new.result c.in_ok-rows.ensures.empty
    (subst (λ (k : ℕ). Updates c.in_ok-rows.rows c.insert_reserved.new.self k (Some c.new.result)) (c.insert_reserved.ensures.key ∙ c.in_ok-rows.ensures.first_key) c.insert_reserved.ensures.updates)
    (ap tracker_in c.new.ensures) (ap used_in c.new.ensures) (ap (λ (r : Row). r.children) c.new.ensures) c.insert_reserved.ensures.len
    (omega (arith, c.insert_reserved.ensures.capacity, c.capacity.ensures.value, c.if-capacity.false))).sound

pub returns : goal.returns
returns c =
    (first_row c.in_ok-rows.rows c.insert_reserved.new.self c.args.limit c.new.result c.in_ok-rows.ensures.empty
    (subst (λ (k : ℕ). Updates c.in_ok-rows.rows c.insert_reserved.new.self k (Some c.new.result)) (c.insert_reserved.ensures.key ∙ c.in_ok-rows.ensures.first_key) c.insert_reserved.ensures.updates)
    (ap tracker_in c.new.ensures) (ap used_in c.new.ensures) (ap (λ (r : Row). r.children) c.new.ensures) c.insert_reserved.ensures.len
    (omega (arith, c.insert_reserved.ensures.capacity, c.capacity.ensures.value, c.if-capacity.false))).state
