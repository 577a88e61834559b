use Rattle.std.proofs.Common.{◌≡◌, ℕ, [], ◌∷◌, ◌++◌, map, reverse, take, ap, sym, ◌∙◌, subst, List}
use Rattle.std.specs.Prelude.{All}
use Rattle.bucket_table.specs.Tables.{HasNode}
use Rattle.std.proofs.lemmas.List.{take_all}
use Rattle.std.specs.List.Sorted.{IsPermutation}
use Rattle.group_op.specs.InOrder.{AreInOrder}
use Rattle.group_op.specs.Stored.{key_at}
use Rattle.group_op.proofs.NodeOrder.{seconds_more, sorted_in_order, sorted_nodes}
use Rattle.group_op.proofs.ordering.places_by_key.Goals as goal

pub loop-entry-preserved : goal.loop-entry-preserved
loop-entry-preserved c =
    let es = c.deref-entry-items.result.now in
    c.in_ok-push.ensures.items ∙ ap (λ (ps : List ℕ). ps ++ c.entry-item.result.1 ∷ []) c.loop-entry.invariant
    ∙ ap (λ (e : List ℕ × ℕ). map (λ (e : List ℕ × ℕ). e.1) (take c.loop-entry.entry-index es) ++ e.1 ∷ []) c.entry-item.is
    ∙ sym (seconds_more es c.loop-entry.entry-index c.entry-item.result c.loop-entry-test.true)

pub returns-clause-nodes : goal.returns-clause-nodes
returns-clause-nodes c =
    let all : c.loop-entry.places.items ≡ map (λ e. e.1) c.sort_unstable.new.self.items =
    c.loop-entry.invariant ∙ ap (map (λ e. e.1)) (take_all c.loop-entry.entry-index c.deref-entry-items.result.now c.loop-entry-test.false ∙ c.deref-entry-items.ensures.value) in
    let moved : IsPermutation (reverse (map (λ n. (key_at c.args.shape.now n.row, n.place)) c.args.table.now.nodes)) c.sort_unstable.new.self.items =
    subst (λ es. IsPermutation es c.sort_unstable.new.self.items) c.in_ok-keyed.ensures c.sort_unstable.ensures.permutation in
    subst (All (λ place. HasNode place c.args.table.now.nodes)) (sym all)
    (sorted_nodes c.args.shape.now c.args.table.now c.requires.entries.1.behind c.sort_unstable.new.self.items moved)

pub returns-clause-order : goal.returns-clause-order
returns-clause-order c =
    λ distinct.
    let all : c.loop-entry.places.items ≡ map (λ e. e.1) c.sort_unstable.new.self.items =
    c.loop-entry.invariant ∙ ap (map (λ e. e.1)) (take_all c.loop-entry.entry-index c.deref-entry-items.result.now c.loop-entry-test.false ∙ c.deref-entry-items.ensures.value) in
    let moved : IsPermutation (reverse (map (λ n. (key_at c.args.shape.now n.row, n.place)) c.args.table.now.nodes)) c.sort_unstable.new.self.items =
    subst (λ es. IsPermutation es c.sort_unstable.new.self.items) c.in_ok-keyed.ensures c.sort_unstable.ensures.permutation in
    subst (AreInOrder c.args.shape.now c.args.table.now) (sym all)
    (sorted_in_order c.args.shape.now c.args.table.now c.requires.entries.1.behind c.sort_unstable.new.self.items distinct moved c.sort_unstable.ensures.sorted)
