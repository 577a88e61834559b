use Rattle.std.proofs.Common.{rules, ◌≡◌, ◌∙◌, [], ◌∷◌, length, sym}
use Rattle.tests_operators.proofs.Groupings.{four_of_texts_partial}
use Rattle.tests_operators.proofs.tests.partials.has_partial_kinds.Goals as goal

pub returns : goal.returns
returns c has =
    let keys : c.args.shape.now.keys ≡ 0 ∷ 1 ∷ [] = search rules in
    let four : length c.args.shape.now.aggs ≡ 4 = search rules in
    c.has_kinds.ensures has
    ∙ sym (four_of_texts_partial c.args.shape.now (sym c.as_slice.ensures ∙ c.are_kinds.ensures c.if-not-are_kinds.false) keys four)
