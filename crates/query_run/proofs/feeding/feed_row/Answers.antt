use Rattle.std.proofs.Common.{◌≡◌, ◌∷◌, [], List, false, true, append-nil, refl, rules, subst, sym}
use Rattle.row_codec.specs.declared.values.Value.{Value}
use Rattle.scan_filter.specs.Passes.{passes}
use Rattle.query_run.proofs.Weighing.{counted_light, fits_rows, is_light, may_be_taken}
use Rattle.query_run.proofs.feeding.feed_row.Goals as goal

pub passes-requires : goal.passes-requires
passes-requires g c =
    let preds = c.as_slice.ensures.value in
    record { kinds = rw preds (fits_rows c.args.asked.now.columns c.args.row.now c.args.asked.now.preds c.requires.kinds c.requires.asked.preds) }

pub returns-then-not-passes-clause-light : goal.returns-then-not-passes-clause-light
returns-then-not-passes-clause-light g c = counted_light c.args.plan.now c.args.row.now c.weight-bytes.result c.args.page c.weight-bytes.ensures c.if-bytes-page.false c.requires.short

pub returns-then-not-passes-clause-feeds : goal.returns-then-not-passes-clause-feeds
returns-then-not-passes-clause-feeds g c =
    let passed : passes c.args.asked.now.preds c.args.row.now ≡ false = search rules in
    (sym passed, λ first rows h s fed. rw (passed, append-nil rows) fed)

pub take-requires-clause-row : goal.take-requires-clause-row
take-requires-clause-row g c =
    let light = counted_light c.args.plan.now c.args.row.now c.weight-bytes.result c.args.page c.weight-bytes.ensures c.if-bytes-page.false c.requires.short in
    may_be_taken c.args.plan.now _ _ _ c.args.page _ c.args.row.now c.requires.takes c.requires.extra c.requires.page c.requires.kinds light

pub returns-in-Ok-clause-light : goal.returns-in-Ok-clause-light
returns-in-Ok-clause-light g c = counted_light c.args.plan.now c.args.row.now c.weight-bytes.result c.args.page c.weight-bytes.ensures c.if-bytes-page.false c.requires.short

pub returns-in-Ok-clause-feeds : goal.returns-in-Ok-clause-feeds
returns-in-Ok-clause-feeds g c =
    let passed : passes c.args.asked.now.preds c.args.row.now ≡ true = search rules in
    (sym passed, λ first rows h s fed. rw passed (c.in-Ok.ensures.ok first rows h s fed))

pub returns-then-not-passes-clause-few : goal.returns-then-not-passes-clause-few
returns-then-not-passes-clause-few g c =
    let passed : passes c.args.asked.now.preds c.args.row.now ≡ false = search rules in
    λ first rows h s fed made. rw (passed, append-nil rows) made

pub returns-in-Ok-clause-few : goal.returns-in-Ok-clause-few
returns-in-Ok-clause-few g c =
    let passed : passes c.args.asked.now.preds c.args.row.now ≡ true = search rules in
    λ first rows h s fed made. rw passed (c.take.ensures.few first rows h s fed made)

pub returns-in-Err-clause-few_then : goal.returns-in-Err-clause-few_then
returns-in-Err-clause-few_then g c =
    let passed : passes c.args.asked.now.preds c.args.row.now ≡ true = search rules in
    let is = is_light c.args.plan.now c.args.row.now c.args.page
    (counted_light c.args.plan.now c.args.row.now c.weight-bytes.result c.args.page c.weight-bytes.ensures c.if-bytes-page.false c.requires.short) in
    λ first rows h s fed made. (c.args.row.now ∷ [], ([], rw (is, passed) refl), c.take.ensures.few first rows h s fed made)

pub returns-in-Err-clause-enough : goal.returns-in-Err-clause-enough
returns-in-Err-clause-enough g c =
    let passed : passes c.args.asked.now.preds c.args.row.now ≡ true = search rules in
    let is = is_light c.args.plan.now c.args.row.now c.args.page
    (counted_light c.args.plan.now c.args.row.now c.weight-bytes.result c.args.page c.weight-bytes.ensures c.if-bytes-page.false c.requires.short) in
    λ first rows h s fed goes. (c.args.row.now ∷ [], ([], rw (is, passed) refl), c.in-Err.ensures.enough first rows h s fed goes)

pub returns-then-bytes-page-clause-few_then : goal.returns-then-bytes-page-clause-few_then
returns-then-bytes-page-clause-few_then g c = λ first rows h s fed made. ([], (_, refl), subst (λ (all : List (List Value)). g.T.Takes.makes first c.args.op.now all h s (g.St.Store.signs c.args.store.now)) (sym (append-nil rows)) made)
