use Rattle.std.proofs.Common.{◌≡◌, ◌-◌, ◌*◌, ◌%◌, ℕ, length, take, ap, sym, subst, ◌∙◌, arith}
use Rattle.bucket_table.specs.Looking.{newest_showing}
use Rattle.group_op.specs.Stored.{head_len}
use Rattle.group_op.proofs.Finding.{found_key, found_none, if_none, if_some}
use Rattle.group_op.proofs.Joins.{room_in_row}
use Rattle.group_op.proofs.putting.find.Goals as goal

pub overflow_sub-head : goal.overflow_sub-head
overflow_sub-head c =
    let room = room_in_row c.args.shape.now c.args.row.now c.requires.row in
    let aggs = ap length c.as_slice.ensures in
    omega (arith, room, aggs)

pub returns-clause-key : goal.returns-clause-key
returns-clause-key c =
    let room = room_in_row c.args.shape.now c.args.row.now c.requires.row in
    let aggs = ap length c.as_slice.ensures in
    let head : length c.args.row.now - 16 * length c.as_slice.result.now ≡ head_len c.args.shape.now c.args.row.now = omega (arith, room, aggs) in
    if_some c.find_row.result c.find_row.ensures.node c.find_row.ensures.shows (λ node has shown.
    found_key c.law_row_back.ensures.law c.args.shape.now c.requires.entries.0 node c.args.table.now c.args.row.now _ c.requires.shape c.requires.entries.1 c.requires.row has (ap (λ (n : ℕ). take n c.args.row.now) head) shown)

pub returns-clause-none : goal.returns-clause-none
returns-clause-none c =
    let room = room_in_row c.args.shape.now c.args.row.now c.requires.row in
    let aggs = ap length c.as_slice.ensures in
    let head : length c.args.row.now - 16 * length c.as_slice.result.now ≡ head_len c.args.shape.now c.args.row.now = omega (arith, room, aggs) in
    let value =
    subst (λ (hash : ℕ). c.find_row.result ≡ newest_showing (hash % c.args.table.now.heads) 0 (take (length c.args.row.now - 16 * length c.as_slice.result.now) c.args.row.now) c.args.table.now.nodes) c.spread.ensures c.find_row.ensures.value in
    if_none c.find_row.result (λ none.
    found_none c.law_row_back.ensures.law c.args.shape.now c.requires.entries.0 c.args.hash c.args.table.now c.args.row.now _ c.requires.shape c.requires.entries.1 c.requires.row c.requires.hash (ap (λ (n : ℕ). take n c.args.row.now) head) (sym value ∙ none))
