use Rattle.std.proofs.Common.{◌≡◌, ◌+◌, ℕ, List, ◌∷◌, [], length, take, ap, ◌∙◌, sym, subst, arith, length-append}
use Rattle.partition_stack.specs.Stack.{IsStack}
use Rattle.partition_stack.proofs.Stacking.{front_taken, popped_is_stack}
use Rattle.partition_stack.proofs.stack.Partitions.pop.Goals as goal

pub invariant_of-self : goal.invariant_of-self
invariant_of-self c =
    let split = c.take_last.ensures.items in
    let long : length c.self.inside.streams.items ≡ length c.take_last.new.self.items + 1 = ap length split ∙ length-append c.take_last.new.self.items (c.take_last.result ∷ []) in
    let levels : c.take_last-level.new.self.items ≡ take (length c.take_last.new.self.items) c.self.inside.levels.items =
    front_taken (length c.take_last.new.self.items) c.self.inside.levels.items c.take_last-level.new.self.items c.take_last-level.result c.take_last-level.ensures.items (omega (arith, long, c.self.invariant.levelled)) in
    subst (λ (ls : List ℕ). IsStack (record { page_blocks = c.self.inside.page_blocks; streams = c.take_last.new.self.items; levels = ls })) (sym levels)
    (popped_is_stack (record { page_blocks = c.self.inside.page_blocks; streams = c.self.inside.streams.items; levels = c.self.inside.levels.items }) c.take_last.new.self.items c.take_last.result c.self.invariant split)

pub returns-clause-levels : goal.returns-clause-levels
returns-clause-levels c =
    let split = c.take_last.ensures.items in
    let long : length c.self.inside.streams.items ≡ length c.take_last.new.self.items + 1 = ap length split ∙ length-append c.take_last.new.self.items (c.take_last.result ∷ []) in
    rw (← c.self.view_is) (front_taken (length c.take_last.new.self.items) c.self.inside.levels.items c.take_last-level.new.self.items c.take_last-level.result c.take_last-level.ensures.items (omega (arith, long, c.self.invariant.levelled)))
