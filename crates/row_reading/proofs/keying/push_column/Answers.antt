use Rattle.std.proofs.Common.{◌∙◌, ◌++◌, ap, get_or, sym}
use Rattle.std.proofs.lemmas.Option.{get_or_from_slice_get, slice_get-get_or, slice_get_within}
use Rattle.row_codec.specs.declared.values.Kind.TheVariants as kind
use Rattle.row_reading.proofs.Bodies.{on_ok}
use Rattle.row_reading.proofs.Columns.{none_cut, none_walked, part_is}
use Rattle.row_reading.proofs.keying.push_column.Goals as goal

pub unreachable-requires : goal.unreachable-requires
unreachable-requires c =
    none_walked c.args.kinds.now c.args.fields.now c.requires.row c.args.column c.requires.column.0 c.requires.column.1 c.in_default.ensures

pub bounds-kinds-column : goal.bounds-kinds-column
bounds-kinds-column c = slice_get_within c.args.kinds.now c.args.column c.requires.column.0 c.requires.column.1

pub unreachable-requires-in_default-field_len : goal.unreachable-requires-in_default-field_len
unreachable-requires-in_default-field_len c =
    let kinds = c.args.kinds.now in
    let there = slice_get-get_or kinds c.args.column kind.Int (slice_get_within kinds c.args.column c.requires.column.0 c.requires.column.1) in
    none_cut kinds c.args.fields.now c.requires.row c.args.column (get_or kinds c.args.column kind.Int) there c.in-Some.rest.now c.in-Some.ensures c.in_default-field_len.ensures.cut

pub push_tagged-requires : goal.push_tagged-requires
push_tagged-requires c =
    let same = get_or_from_slice_get c.args.kinds.now c.args.column c.requires.column.0 kind.Int c.requires.column.1 in
    record { keyed = λ wide. c.requires.column.2 (sym same ∙ wide) }

pub returns : goal.returns
returns c =
    let kinds = c.args.kinds.now in
    let there = slice_get-get_or kinds c.args.column kind.Int (slice_get_within kinds c.args.column c.requires.column.0 c.requires.column.1) in
    let part = part_is kinds c.args.fields.now c.requires.row c.args.column (get_or kinds c.args.column kind.Int) there c.in-Some.rest.now c.in-Some.ensures _ _ c.in-Some-field_len.ensures.cut in
    record { ok = on_ok c.push_tagged.result (λ pushed. pushed ∙ ap (λ bytes. c.args.key.now.items ++ bytes) part) c.push_tagged.ensures.ok }
