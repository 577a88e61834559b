use Rattle.std.proofs.Common.{◌≡◌, ◌+◌, ◌++◌, ℕ, List, length, replicate, set, Some, ap, ap₂, ◌∙◌, sym, subst, arith}
use Rattle.std.specs.List.{slice_get}
use Rattle.tuple_stream.specs.Streamed.{Streamed}
use Rattle.partition_stack.specs.Stack.{IsStack}
use Rattle.partition_stack.proofs.Stacking.{divided_is_stack, sixteen_levels}
use Rattle.partition_stack.proofs.stack.Partitions.divide.Goals as goal

pub invariant_of-self-2 : goal.invariant_of-self-2
invariant_of-self-2 c =
    let top : length c.self.inside.streams.items ≡ c.args.at + 1 = rw (← c.self.view_is) at c.requires.top in
    let level : slice_get c.self.inside.levels.items c.args.at ≡ Some c.args.level = rw (← c.self.view_is) at c.requires.level in
    let levels : set c.push_sixteen.new.levels.items c.args.at (c.args.level + 1) ≡ set c.self.inside.levels.items c.args.at (c.args.level + 1) ++ replicate 16 (c.args.level + 1) =
    ap (λ (ls : List ℕ). set ls c.args.at (c.args.level + 1)) c.in_ok-push_sixteen.ensures.levels ∙ sixteen_levels c.self.inside.levels.items c.args.at (c.args.level + 1) (omega (arith, top, c.self.invariant.levelled)) in
    subst (λ (ls : List ℕ). IsStack (record { page_blocks = c.self.inside.page_blocks; streams = c.push_sixteen.new.streams.items; levels = ls })) (sym levels)
    (subst (λ (ss : List Streamed). IsStack (record { page_blocks = c.self.inside.page_blocks; streams = ss; levels = set c.self.inside.levels.items c.args.at (c.args.level + 1) ++ replicate 16 (c.args.level + 1) })) (sym c.in_ok-push_sixteen.ensures.streams)
    (divided_is_stack c.args.at c.args.level (record { page_blocks = c.self.inside.page_blocks; streams = c.self.inside.streams.items; levels = c.self.inside.levels.items }) c.self.invariant top level c.requires.deep))

pub returns-clause-ok : goal.returns-clause-ok
returns-clause-ok c =
    let top : length c.self.inside.streams.items ≡ c.args.at + 1 = rw (← c.self.view_is) at c.requires.top in
    let levels : set c.push_sixteen.new.levels.items c.args.at (c.args.level + 1) ≡ set c.self.inside.levels.items c.args.at (c.args.level + 1) ++ replicate 16 (c.args.level + 1) =
    ap (λ (ls : List ℕ). set ls c.args.at (c.args.level + 1)) c.in_ok-push_sixteen.ensures.levels ∙ sixteen_levels c.self.inside.levels.items c.args.at (c.args.level + 1) (omega (arith, top, c.self.invariant.levelled)) in
    rw (← c.self.view_is)
    (ap₂ (λ (ss : List Streamed) (ls : List ℕ). record { page_blocks = c.self.inside.page_blocks; streams = ss; levels = ls }) c.in_ok-push_sixteen.ensures.streams levels)
