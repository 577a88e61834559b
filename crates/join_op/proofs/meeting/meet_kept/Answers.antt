use Rattle.std.proofs.Common.{rules, ◌≡◌, ◌∙◌, suc, ◌+◌, [], ◌∷◌, ◌++◌, drop, take, ap, ℕ, List}
use Rattle.std.specs.Prelude.{slice_index_or}
use Rattle.row_codec.specs.declared.values.Value.{Value}
use Rattle.join_op.specs.declared.feeding.Spare.{Spare}
use Rattle.join_op.specs.Chunks.{kept_rows}
use Rattle.join_op.specs.Holding.{pairs_with}
use Rattle.join_op.specs.PairCalls.{HandsPairs}
use Rattle.join_op.proofs.ChunkPairs.{more_held, parts_held}
use Rattle.join_op.proofs.KeptList.{rows_more, rows_split}
use Rattle.join_op.proofs.PairSteps.{as_err, pairs_stopped, pairs_then}
use Rattle.join_op.proofs.meeting.meet_kept.Goals as goal

pub returns-in_err-join_two : goal.returns-in_err-join_two
returns-in_err-join_two g c =
    let i = c.loop-right.right-index in
    let e : Spare = c.right-item.result in
    let kept = c.args.kept.now in
    let split : kept_rows kept ≡ kept_rows (take i kept) ++ e.row.items ∷ kept_rows (drop (suc i) kept) =
    rows_split kept i e c.loop-right-test.true
    ∙ ap (λ (d : Spare). kept_rows (take i kept) ++ d.row.items ∷ kept_rows (drop (suc i) kept)) (let is : slice_index_or kept i e ≡ e = search rules in is) in
    let pairs : List (List ℕ) → List (List Value) = pairs_with c.args.turned c.args.shape.now (c.args.row.now.row.items ∷ []) in
    as_err (HandsPairs g.St.Store g.E.Emit (pairs (kept_rows kept)) c.args.emit.now c.join_two.new.emit c.args.store.now c.join_two.new.store) c.from_residual.result c.in_err-join_two.field-0.0 c.from_residual.ensures
    (pairs_stopped g.St.Store g.E.Emit c.args.emit.now c.loop-right.emit c.args.store.now c.loop-right.store (pairs (kept_rows (take i kept))) c.loop-right.invariant.emitted c.loop-right.invariant.stands
    c.join_two.new.emit c.join_two.new.store (pairs (e.row.items ∷ [])) (pairs (kept_rows (drop (suc i) kept))) (pairs (kept_rows kept)) c.in_err-join_two.field-0.0
    (parts_held c.args.turned c.args.shape.now (c.args.row.now.row.items ∷ []) (kept_rows kept) (kept_rows (take i kept)) e.row.items (kept_rows (drop (suc i) kept)) split)
    c.in_err-join_two.ensures)

pub loop-right-preserved : goal.loop-right-preserved
loop-right-preserved g c =
    let i = c.loop-right.right-index in
    let e : Spare = c.right-item.result in
    let kept = c.args.kept.now in
    let more : kept_rows (take (i + 1) kept) ≡ kept_rows (take i kept) ++ e.row.items ∷ [] =
    rows_more kept i e c.loop-right-test.true
    ∙ ap (λ (d : Spare). kept_rows (take i kept) ++ d.row.items ∷ []) (let is : slice_index_or kept i e ≡ e = search rules in is) in
    let pairs : List (List ℕ) → List (List Value) = pairs_with c.args.turned c.args.shape.now (c.args.row.now.row.items ∷ []) in
    let then = pairs_then g.St.Store g.E.Emit c.args.emit.now c.loop-right.emit c.args.store.now c.loop-right.store (pairs (kept_rows (take i kept))) c.loop-right.invariant.emitted c.loop-right.invariant.stands
    c.join_two.new.emit c.join_two.new.store (pairs (e.row.items ∷ [])) (pairs (kept_rows (take (i + 1) kept))) tt
    (more_held c.args.turned c.args.shape.now (c.args.row.now.row.items ∷ []) (kept_rows (take (i + 1) kept)) (kept_rows (take i kept)) e.row.items more)
    c.in_ok-join_two.ensures in
    record { emitted = then.ok; stands = then.stands }
