use Rattle.std.proofs.Common.{◌≤◌, length, sym, append-nil, rules}
use Rattle.std.proofs.lemmas.Option.{slice_get_past}
use Rattle.group_op.proofs.stored.push_kind.Goals as goal

pub returns-else-column-kinds : goal.returns-else-column-kinds
returns-else-column-kinds c =
    let past : length c.args.kinds.now ≤ c.args.column = search rules in
    rw (slice_get_past c.args.kinds.now c.args.column past) (sym (append-nil c.args.out.now.items))
