use Rattle.std.proofs.Common.{◌≡◌, ◌<◌, ◌++◌, ◌∙◌, ℕ, List, sym, ap, get_or, length, take, rules, arith, append_assoc}
use Rattle.std.specs.Prelude.{flat_map, slice_get, Some}
use Rattle.std.proofs.lemmas.Option.{slice_get-get_or}
use Rattle.row_codec.specs.RowBytes.{field_bytes, key_part, row_bytes, values_in}
use Rattle.row_codec.proofs.KeyParts.{key_more}
use Rattle.row_codec.proofs.Lengths.{field_within}
use Rattle.row_codec.proofs.keys.key_bytes.Goals as goal

pub push_key_part-requires-clause-short : goal.push_key_part-requires-clause-short
unfolding row_bytes
push_key_part-requires-clause-short c =
    let inside : get_or c.args.cols.now c.loop-col.col-index 0 < length c.args.row.now = c.requires.inside c.loop-col.col-index 0 c.loop-col-test.true in
    let within = field_within field_bytes c.args.row.now (get_or c.args.cols.now c.loop-col.col-index 0) c.index-row-col.result inside c.index-row-col.is in
    omega arith

pub loop-col-preserved : goal.loop-col-preserved
loop-col-preserved c =
    let inside : get_or c.args.cols.now c.loop-col.col-index 0 < length c.args.row.now = c.requires.inside c.loop-col.col-index 0 c.loop-col-test.true in
    let got : slice_get c.args.row.now (get_or c.args.cols.now c.loop-col.col-index 0) ≡ Some c.index-row-col.result =
    slice_get-get_or c.args.row.now _ c.index-row-col.result inside ∙ ap Some (sym c.index-row-col.is) in
    let more = key_more c.args.cols.now c.args.row.now c.loop-col.col-index c.index-row-col.result c.loop-col-test.true got in
    let pushed : c.push_key_part.new.out.items ≡ c.loop-col.out.items ++ key_part c.index-row-col.result = search rules in
    let before : List ℕ = flat_map key_part (values_in (take c.loop-col.col-index c.args.cols.now) c.args.row.now) in
    let joined = append_assoc c.args.out.now.items before (key_part c.index-row-col.result) in
    rw (more, pushed, c.loop-col.invariant) joined
