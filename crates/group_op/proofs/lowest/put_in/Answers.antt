use Rattle.std.proofs.Common.{rules, suc, ◌≡◌, ◌≢◌, ◌≤◌, ◌∙◌, ◌+◌, ◌++◌, ◌∷◌, [], List, length, take, ap, ap₂, ℕ, sym, arith, length-append}
use Rattle.std.specs.Prelude.{insert}
use Rattle.group_op.specs.declared.lowest.Entry.{Entry}
use Rattle.partition_stack.proofs.Results.{on_ok}
use Rattle.group_op.proofs.Lasts.{before_last}
use Rattle.group_op.proofs.lowest.put_in.Goals as goal

pub returns : goal.returns
returns c =
    let all : c.args.entries.now.items ≡ c.pop-2.new.self.items ++ c.in-Some-pop.last ∷ [] = c.in-Some-pop.ensures.items in
    let one_more : length c.args.entries.now.items ≡ length c.pop-2.new.self.items + 1 = ap length all ∙ length-append c.pop-2.new.self.items (c.in-Some-pop.last ∷ []) in
    let full : c.args.room ≤ length c.args.entries.now.items = search rules in
    let apart : c.args.at ≢ c.args.room = search rules in
    let few = c.requires.few in
    let inside = c.requires.inside in
    let long : suc (length c.pop-2.new.self.items) ≡ c.args.room = omega (arith, one_more, full, few) in
    let short : c.args.at ≤ length c.pop-2.new.self.items = omega (arith, long, apart, inside, few) in
    on_ok c.add-2.result
    (λ is.
    is ∙ ap (insert c.pop-2.new.self.items c.args.at) c.replace-row-2.ensures.value
    ∙ before_last c.pop-2.new.self.items c.in-Some-pop.last c.args.spare.now c.args.at short
    ∙ ap₂ (λ (n : ℕ) (xs : List Entry). take n (insert xs c.args.at c.args.spare.now)) long (sym all))
    c.add-2.ensures
