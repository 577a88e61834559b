-- What `retain` leaves.
use Rattle.std.proofs.Common.{◌≡◌, filter, not, eqb, rules, tests}
use Rattle.std.proofs.lemmas.Fn.{filter_same}
use Rattle.session_table.specs.declared.member.Member.{Member}
use Rattle.session_table.proofs.Rows.{row_changed}
use Rattle.session_table.proofs.row.Row.remove.Goals as goal

pub returns : goal.returns
returns c =
    let old = c.self.inside in
    let left : c.retain.new.self.items ≡ filter (λ (m : Member). not (eqb m.tracker c.args.tracker)) old.members.items = filter_same _ _ _ (λ x b f' k. search (rules, tests)) _ _ c.retain.ensures.filtered in
    row_changed old.query old.quota old.is_seated old.members.items c.retain.new.self.items c.args.self.now (filter (λ (m : Member). not (eqb m.tracker c.args.tracker))) c.self.view_is left
