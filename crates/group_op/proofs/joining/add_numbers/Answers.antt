use Rattle.std.proofs.Common.{rules, ◌≡◌, ◌+◌, ◌-◌, ◌*◌, ◌<◌, ℕ, ℤ, List, length, pos, get_or, ap, ap₂, sym, ◌∙◌, subst, arith}
use Rattle.std.specs.Prelude.{FitsSigned}
use Rattle.std.specs.Int.{w128, cast_signed, cast_unsigned}
use Rattle.row_codec.specs.declared.values.Agg.{Agg}
use Rattle.row_codec.specs.declared.values.Agg.TheVariants.{Count}
use Rattle.row_codec.specs.RowReading.{number_in}
use Rattle.bucket_table.specs.Tables.{HasNode, Node, Table, part_of, row_of, with_nodes, with_number, with_row}
use Rattle.group_rows.specs.Aggregates.{combined_number}
use Rattle.group_rows.proofs.Entries.{half}
use Rattle.group_op.specs.Stored.{head_len, numbers_at}
use Rattle.group_op.proofs.Heads.{four_in}
use Rattle.group_op.proofs.Forms.{has_form}
use Rattle.group_op.proofs.Joins.{all_joined, entry_number, half_joined, half_room, next_fit, next_joined, none_fit, none_joined, room_in_row, row_number}
use Rattle.group_op.proofs.Rewriting.{has_still, row_again, row_written, written_twice}
use Rattle.group_op.proofs.joining.add_numbers.Goals as goal

pub overflow_sub-head : goal.overflow_sub-head
overflow_sub-head c =
    let room : length c.args.row.now ≡ head_len c.args.shape.now c.args.row.now + 16 * length c.args.shape.now.aggs = room_in_row c.args.shape.now c.args.row.now c.requires.row in
    let aggs : length c.as_slice-aggs.result.now ≡ length c.args.shape.now.aggs = ap length c.as_slice-aggs.ensures in
    omega (arith, room, aggs)

pub loop-k-init : goal.loop-k-init
loop-k-init c =
    record {
      table = sym (ap (λ (row : List ℕ). with_nodes (with_row c.args.node row c.args.table.now.nodes) c.args.table.now) (none_joined c.law_row_back.ensures.law c.args.shape.now (row_of c.args.node c.args.table.now.nodes) c.args.row.now c.requires.shape c.requires.entry c.requires.row c.requires.key)
          ∙ ap (λ (nodes : List Node). with_nodes nodes c.args.table.now) (row_again c.args.node c.args.table.now.nodes c.requires.behind c.requires.node));
      fit = none_fit c.law_row_back.ensures.law c.args.shape.now (row_of c.args.node c.args.table.now.nodes) c.args.row.now c.requires.shape c.requires.entry c.requires.row c.requires.key;
    }

pub wide_at-number-requires : goal.wide_at-number-requires
wide_at-number-requires c =
    let room : length c.args.row.now ≡ head_len c.args.shape.now c.args.row.now + 16 * length c.args.shape.now.aggs = room_in_row c.args.shape.now c.args.row.now c.requires.row in
    let aggs : length c.as_slice-aggs.result.now ≡ length c.args.shape.now.aggs = ap length c.as_slice-aggs.ensures in
    let below = c.loop-k-test.true in
    omega (arith, room, aggs, below)

pub change_number_at-requires-clause-node : goal.change_number_at-requires-clause-node
change_number_at-requires-clause-node c =
    let nodes_now : c.loop-k.table.nodes ≡ with_row c.args.node (half_joined c.args.shape.now c.loop-k.k (row_of c.args.node c.args.table.now.nodes) c.args.row.now) c.args.table.now.nodes = ap (λ (t : Table). t.nodes) c.loop-k.invariant.table in
    subst (HasNode c.args.node) (sym nodes_now) (has_still c.args.node _ c.args.node c.args.table.now.nodes c.requires.node)

pub change_number_at-requires-clause-behind : goal.change_number_at-requires-clause-behind
change_number_at-requires-clause-behind c =
    let room : length c.args.row.now ≡ head_len c.args.shape.now c.args.row.now + 16 * length c.args.shape.now.aggs = room_in_row c.args.shape.now c.args.row.now c.requires.row in
    let aggs : length c.as_slice-aggs.result.now ≡ length c.args.shape.now.aggs = ap length c.as_slice-aggs.ensures in
    let four = four_in c.args.shape.now c.args.row.now (has_form c.args.shape.now c.args.row.now c.requires.row) in
    omega (arith, room, aggs, four)

pub change_number_at-requires-clause-inside : goal.change_number_at-requires-clause-inside
change_number_at-requires-clause-inside c =
    let room : length c.args.row.now ≡ head_len c.args.shape.now c.args.row.now + 16 * length c.args.shape.now.aggs = room_in_row c.args.shape.now c.args.row.now c.requires.row in
    let aggs : length c.as_slice-aggs.result.now ≡ length c.args.shape.now.aggs = ap length c.as_slice-aggs.ensures in
    let nodes_now : c.loop-k.table.nodes ≡ with_row c.args.node (half_joined c.args.shape.now c.loop-k.k (row_of c.args.node c.args.table.now.nodes) c.args.row.now) c.args.table.now.nodes = ap (λ (t : Table). t.nodes) c.loop-k.invariant.table in
    let row_now : row_of c.args.node c.loop-k.table.nodes ≡ half_joined c.args.shape.now c.loop-k.k (row_of c.args.node c.args.table.now.nodes) c.args.row.now =
    ap (row_of c.args.node) nodes_now ∙ row_written c.args.node (half_joined c.args.shape.now c.loop-k.k (row_of c.args.node c.args.table.now.nodes) c.args.row.now) c.args.table.now.nodes c.requires.node in
    let long : length (row_of c.args.node c.loop-k.table.nodes) ≡ head_len c.args.shape.now c.args.row.now + 16 * length c.args.shape.now.aggs = ap length row_now ∙ half_room c.law_row_back.ensures.law c.args.shape.now (row_of c.args.node c.args.table.now.nodes) c.args.row.now c.requires.shape c.requires.entry c.requires.row c.requires.key c.loop-k.k in
    let below = c.loop-k-test.true in
    omega (arith, room, aggs, long, below)

pub loop-k-preserved : goal.loop-k-preserved
loop-k-preserved c =
    let room : length c.args.row.now ≡ head_len c.args.shape.now c.args.row.now + 16 * length c.args.shape.now.aggs = room_in_row c.args.shape.now c.args.row.now c.requires.row in
    let aggs : length c.as_slice-aggs.result.now ≡ length c.args.shape.now.aggs = ap length c.as_slice-aggs.ensures in
    let nodes_now : c.loop-k.table.nodes ≡ with_row c.args.node (half_joined c.args.shape.now c.loop-k.k (row_of c.args.node c.args.table.now.nodes) c.args.row.now) c.args.table.now.nodes = ap (λ (t : Table). t.nodes) c.loop-k.invariant.table in
    let row_now : row_of c.args.node c.loop-k.table.nodes ≡ half_joined c.args.shape.now c.loop-k.k (row_of c.args.node c.args.table.now.nodes) c.args.row.now =
    ap (row_of c.args.node) nodes_now ∙ row_written c.args.node (half_joined c.args.shape.now c.loop-k.k (row_of c.args.node c.args.table.now.nodes) c.args.row.now) c.args.table.now.nodes c.requires.node in
    let at : ℕ = length c.args.row.now - 16 * length c.as_slice-aggs.result.now + 16 * c.loop-k.k in
    let inside : c.loop-k.k < length c.args.shape.now.aggs = (let below = c.loop-k-test.true in omega (arith, aggs, below)) in
    let at_is : length c.args.row.now - 16 * length c.as_slice-aggs.result.now + 16 * c.loop-k.k ≡ head_len c.args.shape.now c.args.row.now + 16 * c.loop-k.k = omega (arith, room, aggs) in
    let post = c.change_number_at.ensures.1 in
    let number : ℕ = c.change_number_at.ensures.0 in
    let entry : ℤ = cast_signed w128 (number_in (part_of at 16 (row_of c.args.node c.loop-k.table.nodes))) in
    let sum : ℤ = combined_number (get_or c.as_slice-aggs.result.now c.loop-k.k Count) entry (cast_signed w128 c.wide_at-number.result) in
    let made : c.change_number_at.ensures.0 ≡ cast_unsigned w128 (combined_number (get_or c.as_slice-aggs.result.now c.loop-k.k Count) (cast_signed w128 (number_in (part_of (length c.args.row.now - 16 * length c.as_slice-aggs.result.now + 16 * c.loop-k.k) 16 (row_of c.args.node c.loop-k.table.nodes)))) (cast_signed w128 c.wide_at-number.result)) = search (rules, post) in
    let sum_fits : FitsSigned w128 (combined_number (get_or c.as_slice-aggs.result.now c.loop-k.k Count) (cast_signed w128 (number_in (part_of (length c.args.row.now - 16 * length c.as_slice-aggs.result.now + 16 * c.loop-k.k) 16 (row_of c.args.node c.loop-k.table.nodes)))) (cast_signed w128 c.wide_at-number.result)) = search (rules, post) in
    let first : cast_signed w128 (number_in (part_of (length c.args.row.now - 16 * length c.as_slice-aggs.result.now + 16 * c.loop-k.k) 16 (row_of c.args.node c.loop-k.table.nodes))) ≡ get_or (half c.loop-k.k c.args.shape.now.aggs (numbers_at c.args.shape.now (row_of c.args.node c.args.table.now.nodes)) (numbers_at c.args.shape.now c.args.row.now)) c.loop-k.k (pos 0) =
    ap (λ (row : List ℕ). cast_signed w128 (number_in (part_of at 16 row))) row_now ∙ entry_number c.law_row_back.ensures.law c.args.shape.now (row_of c.args.node c.args.table.now.nodes) c.args.row.now c.requires.shape c.requires.entry c.requires.row c.requires.key c.loop-k.k at inside at_is c.loop-k.invariant.fit in
    let second : cast_signed w128 c.wide_at-number.result ≡ get_or (numbers_at c.args.shape.now c.args.row.now) c.loop-k.k (pos 0) =
    ap (cast_signed w128) c.wide_at-number.ensures ∙ row_number c.law_row_back.ensures.law c.args.shape.now (row_of c.args.node c.args.table.now.nodes) c.args.row.now c.requires.shape c.requires.entry c.requires.row c.requires.key c.loop-k.k at inside at_is in
    let sum_is : combined_number (get_or c.as_slice-aggs.result.now c.loop-k.k Count) (cast_signed w128 (number_in (part_of (length c.args.row.now - 16 * length c.as_slice-aggs.result.now + 16 * c.loop-k.k) 16 (row_of c.args.node c.loop-k.table.nodes)))) (cast_signed w128 c.wide_at-number.result) ≡ combined_number (get_or c.args.shape.now.aggs c.loop-k.k Count) (get_or (half c.loop-k.k c.args.shape.now.aggs (numbers_at c.args.shape.now (row_of c.args.node c.args.table.now.nodes)) (numbers_at c.args.shape.now c.args.row.now)) c.loop-k.k (pos 0)) (get_or (numbers_at c.args.shape.now c.args.row.now) c.loop-k.k (pos 0)) =
    ap (λ (gs : List Agg). combined_number (get_or gs c.loop-k.k Count) entry (cast_signed w128 c.wide_at-number.result)) c.as_slice-aggs.ensures
    ∙ ap₂ (λ (a b : ℤ). combined_number (get_or c.args.shape.now.aggs c.loop-k.k Count) a b) first second in
    let row_next : with_number at number (row_of c.args.node c.loop-k.table.nodes) ≡ half_joined c.args.shape.now (c.loop-k.k + 1) (row_of c.args.node c.args.table.now.nodes) c.args.row.now =
    ap₂ (λ (n : ℕ) (row : List ℕ). with_number at n row) made row_now ∙ next_joined c.law_row_back.ensures.law c.args.shape.now (row_of c.args.node c.args.table.now.nodes) c.args.row.now c.requires.shape c.requires.entry c.requires.row c.requires.key c.loop-k.k at inside at_is sum sum_is in
    record {
      table =
          c.change_number_at.ensures.2
          ∙ ap (λ (row : List ℕ). with_nodes (with_row c.args.node row c.loop-k.table.nodes) c.loop-k.table) row_next
          ∙ ap (λ (nodes : List Node). with_nodes (with_row c.args.node (half_joined c.args.shape.now (c.loop-k.k + 1) (row_of c.args.node c.args.table.now.nodes) c.args.row.now) nodes) c.loop-k.table) nodes_now
          ∙ ap (λ (nodes : List Node). with_nodes nodes c.loop-k.table) (written_twice c.args.node _ (half_joined c.args.shape.now (c.loop-k.k + 1) (row_of c.args.node c.args.table.now.nodes) c.args.row.now) c.args.table.now.nodes)
          ∙ ap (with_nodes (with_row c.args.node (half_joined c.args.shape.now (c.loop-k.k + 1) (row_of c.args.node c.args.table.now.nodes) c.args.row.now) c.args.table.now.nodes)) c.loop-k.invariant.table;
      fit = next_fit c.law_row_back.ensures.law c.args.shape.now (row_of c.args.node c.args.table.now.nodes) c.args.row.now c.requires.shape c.requires.entry c.requires.row c.requires.key c.loop-k.k at inside at_is sum sum_is sum_fits c.loop-k.invariant.fit;
    }

pub returns : goal.returns
returns c =
    let room : length c.args.row.now ≡ head_len c.args.shape.now c.args.row.now + 16 * length c.args.shape.now.aggs = room_in_row c.args.shape.now c.args.row.now c.requires.row in
    let aggs : length c.as_slice-aggs.result.now ≡ length c.args.shape.now.aggs = ap length c.as_slice-aggs.ensures in
    let end : c.loop-k.k ≡ length c.args.shape.now.aggs = (let over = c.loop-k-test.false in let under = c.loop-k.auto.k-end in omega (arith, aggs, over, under)) in
    c.loop-k.invariant.table
    ∙ ap (λ (row : List ℕ). with_nodes (with_row c.args.node row c.args.table.now.nodes) c.args.table.now) (all_joined c.law_row_back.ensures.law c.args.shape.now (row_of c.args.node c.args.table.now.nodes) c.args.row.now c.requires.shape c.requires.entry c.requires.row c.requires.key c.loop-k.k end)
