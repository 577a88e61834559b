use Rattle.std.proofs.Common.{◌≡◌, ℕ, [], ◌∷◌, ◌++◌, map, reverse, ap, sym, ◌∙◌, subst, List}
use Rattle.std.specs.Prelude.{All, slice_index_or}
use Rattle.std.proofs.lemmas.List.{take_all}
use Rattle.std.specs.List.Sorted.{IsPermutation}
use Rattle.bucket_table.specs.Tables.{HasNode}
use Rattle.row_codec.specs.KeyInside.{path_number}
use Rattle.group_op.specs.InOrder.{AreInOrder, Rises}
use Rattle.group_op.specs.Stored.{key_at}
use Rattle.group_op.proofs.NodeOrder.{seconds_more, path_in_order}
use Rattle.group_op.proofs.ordering.places_in_order.Goals as goal

pub loop-entry-preserved : goal.loop-entry-preserved
loop-entry-preserved c =
    let es = c.deref-entry-items.result.now in
    c.in_ok-push.ensures.items ∙ ap (λ (ps : List ℕ). ps ++ (slice_index_or es c.loop-entry.entry-index (0, 0)).1 ∷ []) c.loop-entry.invariant
    ∙ sym (seconds_more es c.loop-entry.entry-index (0, 0) c.loop-entry-test.true)

pub returns-clause-nodes : goal.returns-clause-nodes
returns-clause-nodes c =
    let all : c.loop-entry.places.items ≡ map (λ (e : ℕ × ℕ). e.1) c.sort_unstable.new.self.items =
    c.loop-entry.invariant ∙ ap (map (λ (e : ℕ × ℕ). e.1)) (take_all c.loop-entry.entry-index c.deref-entry-items.result.now c.loop-entry-test.false ∙ c.deref-entry-items.ensures.value) in
    let moved : IsPermutation (reverse (map (λ n. (path_number (key_at c.args.shape.now n.row), n.place)) c.args.table.now.nodes)) c.sort_unstable.new.self.items =
    subst (λ es. IsPermutation es c.sort_unstable.new.self.items) c.in_ok-pathed.ensures c.sort_unstable.ensures.permutation in
    let rise : Rises c.sort_unstable.new.self.items = subst Rises c.deref.ensures.value (c.rises.ensures c.if-not-rises.false) in
    subst (All (λ place. HasNode place c.args.table.now.nodes)) (sym all)
    (path_in_order c.args.shape.now c.args.table.now c.requires.entries.1.behind c.sort_unstable.new.self.items moved rise).each

pub returns-clause-order : goal.returns-clause-order
returns-clause-order c =
    λ distinct.
    let all : c.loop-entry.places.items ≡ map (λ (e : ℕ × ℕ). e.1) c.sort_unstable.new.self.items =
    c.loop-entry.invariant ∙ ap (map (λ (e : ℕ × ℕ). e.1)) (take_all c.loop-entry.entry-index c.deref-entry-items.result.now c.loop-entry-test.false ∙ c.deref-entry-items.ensures.value) in
    let moved : IsPermutation (reverse (map (λ n. (path_number (key_at c.args.shape.now n.row), n.place)) c.args.table.now.nodes)) c.sort_unstable.new.self.items =
    subst (λ es. IsPermutation es c.sort_unstable.new.self.items) c.in_ok-pathed.ensures c.sort_unstable.ensures.permutation in
    let rise : Rises c.sort_unstable.new.self.items = subst Rises c.deref.ensures.value (c.rises.ensures c.if-not-rises.false) in
    subst (AreInOrder c.args.shape.now c.args.table.now) (sym all)
    (path_in_order c.args.shape.now c.args.table.now c.requires.entries.1.behind c.sort_unstable.new.self.items moved rise)
