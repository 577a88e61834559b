use Rattle.std.proofs.Common.{◌≡◌, ◌≢◌, ◌∙◌, ◌++◌, ◌≤◌, ◌<◌, ◌+◌, ◌-◌, ◌^◌, [], ℕ, List, Some, ap, arith, get_or, length, map, refl, rules, sym}
use Rattle.std.proofs.lemmas.List.{append-nil, get_or-map, length-map, take_all}
use Rattle.csv.proofs.WriteFacts.{blank-step, row-final, row-step}
use Rattle.csv.specs.Writing.{fields_written, has_written, is_blank, writer_setup}
use Rattle.csv.specs.declared.writer.QuoteStyle.TheVariants as style
use Rattle.csv_edge.proofs.Flexible.{piece-more, row-same}
use Rattle.csv_edge.specs.Lines.{text_of}
use Rattle.csv_edge.specs.Writer.{lines_setup, text_in}
use Rattle.csv_edge.proofs.writing.write_row.Goals as goal

pub loop-value-init : goal.loop-value-init
unfolding is_blank
loop-value-init c = (c.requires.setup, sym (append-nil _), c.requires.empty, rw c.requires.clean refl)

pub loop-value-preserved : goal.loop-value-preserved
loop-value-preserved c =
    let e = c.in-Ok.ensures in
    let inv = c.loop-value.invariant in
    let plain : (writer_setup c.loop-value.writer).style ≢ style.NonNumeric = rw inv.0 (λ h. cc h) in
    let size = length-map c.args.row.now text_of in
    let lt : c.loop-value.value-index < length (map text_of c.args.row.now) = omega (arith, size, c.loop-value-test.true) in
    let item : c.value_text.result.now ≡ get_or (map text_of c.args.row.now) c.loop-value.value-index [] =
    c.value_text.ensures ∙ ap text_of c.value-item.is ∙ sym (get_or-map text_of c.args.row.now c.loop-value.value-index _ [] c.loop-value-test.true) in
    let text = rw (inv.0, inv.2, item) at (e.text plain) in
    let step = row-step lines_setup (map text_of c.args.row.now) c.loop-value.value-index lt in
    let fits : c.loop-value.value-index + 1 ≤ 2 ^ 64 - 1 = search rules in (
      e.same ∙ inv.0,
      piece-more (text_in c.args.writer.now) (text_in c.loop-value.writer) (text_in c.write_field.new.self) _ _ _ text inv.1 step,
      e.count ∙ rw inv.2 (omega arith),
      blank-step lines_setup (map text_of c.args.row.now) c.loop-value.value-index (has_written c.loop-value.writer) (has_written c.write_field.new.self) lt inv.3
          (λ w. rw (inv.0, item) at (e.wrote w plain)) e.stays,
    )

pub returns-clause-text : goal.returns-clause-text
returns-clause-text c =
    let inv = c.loop-value.invariant in
    let size = length-map c.args.row.now text_of in
    let ge : length (map text_of c.args.row.now) ≤ c.loop-value.value-index = omega (arith, size, c.loop-value-test.false) in
    let all = take_all c.loop-value.value-index (map text_of c.args.row.now) ge in
    row-final (Some (text_in c.args.writer.now)) (Some (text_in c.loop-value.writer)) (Some (text_in c.end_record.new.self)) lines_setup (map text_of c.args.row.now)
    (has_written c.loop-value.writer) (fields_written c.loop-value.writer) (rw all at inv.1) (rw (all, ← inv.2) at inv.3) (rw inv.0 at c.in-Ok-end_record.ensures.bytes)
    ∙ ap (λ (t : List ℕ). text_in c.args.writer.now ++ t) (row-same (map text_of c.args.row.now))
