use Rattle.std.proofs.Common.{◌≡◌, ℕ, suc, ◌+◌, List, length, set, get_or, arith, rules, ap, ap₂, ◌∙◌}
use Rattle.std.specs.Prelude.{ℤ, pos, FitsSigned}
use Rattle.std.specs.Int.{w128}
use Rattle.std.proofs.lemmas.Int.{to_z-of_z}
use Rattle.row_codec.specs.declared.values.Agg.TheVariants.{Count}
use Rattle.group_rows.specs.Aggregates.{combined_number}
use Rattle.group_rows.proofs.Entries.{half, half_all, half_more}
use Rattle.group_rows.proofs.numbers.combine_into.Goals as goal

pub loop-k-preserved : goal.loop-k-preserved
loop-k-preserved c =
    let k = c.loop-k.k in
    let aggs = c.args.aggs.now in
    let first : FitsSigned w128 (get_or c.loop-k.entry c.loop-k.k (pos 0)) = search rules in
    let second : FitsSigned w128 (get_or c.args.partial.now c.loop-k.k (pos 0)) = search rules in
    let whole : FitsSigned w128 c.combined.result = search rules in
    let e0 = c.args.entry.now in
    let ps = c.args.partial.now in
    ap (λ (z : ℤ). set c.loop-k.entry k z)
    (to_z-of_z w128 c.combined.result whole ∙ c.combined.ensures ∙ ap₂ (λ (a b : ℤ). combined_number (get_or aggs k Count) a b) (to_z-of_z w128 (get_or c.loop-k.entry k (pos 0)) first) (to_z-of_z w128 (get_or ps k (pos 0)) second))
    ∙ ap (λ (e : List ℤ). set e k (combined_number (get_or aggs k Count) (get_or e k (pos 0)) (get_or ps k (pos 0)))) c.loop-k.invariant
    ∙ half_more k aggs e0 ps Count (pos 0) (pos 0) c.loop-k-test.true c.requires.entry c.requires.partial
    ∙ ap (λ (n : ℕ). half n aggs e0 ps) (let same : suc c.loop-k.k ≡ c.loop-k.k + 1 = omega arith in same)

pub returns : goal.returns
returns c =
    let end : c.loop-k.k ≡ length c.args.aggs.now = omega arith in
    record { combined = c.loop-k.invariant ∙ ap (λ (n : ℕ). half n c.args.aggs.now c.args.entry.now c.args.partial.now) end ∙ half_all c.args.aggs.now c.args.entry.now c.args.partial.now c.requires.entry c.requires.partial }
