-- The first client with that tracker, if there is one.
use Rattle.std.proofs.Common.{◌≡◌, find, eqb, option_map, sym, ◌∙◌, rules, tests}
use Rattle.std.proofs.lemmas.Iterator.{YieldsList-from_slice}
use Rattle.std.proofs.lemmas.Iterator.Search.{find_from_yields_List}
use Rattle.session_table.specs.declared.member.Member.{Member}
use Rattle.session_table.specs.Seats.{members_in}
use Rattle.session_table.proofs.Rows.{row_members, first_told}
use Rattle.session_table.proofs.row.Row.first.Goals as goal

pub returns-in_err-member : goal.returns-in_err-member
returns-in_err-member c =
    let row = c.self.inside in
    let found : option_map (λ x. x.now) c.find.result ≡ find (λ (m : Member). eqb m.tracker c.args.tracker) c.deref.result.now = find_from_yields_List (λ (m : Member). eqb m.tracker c.args.tracker) _ _ c.find.result c.find.ensures.ran (YieldsList-from_slice _ c.iter.ensures.rest) (λ x b q k. search (rules, tests)) in
    let clients = row_members row.query row.quota row.is_seated row.members.items c.args.self.now c.self.view_is c.requires in
    let first = first_told c.deref.result.now (members_in c.args.self.now) c.args.tracker (option_map (λ x. x.now) c.find.result) found (c.deref.ensures.value ∙ sym clients) in
    c.from_residual.ensures ∙ (rw c.in_err-member.was at first)

pub returns : goal.returns
returns c =
    let row = c.self.inside in
    let found : option_map (λ x. x.now) c.find.result ≡ find (λ (m : Member). eqb m.tracker c.args.tracker) c.deref.result.now = find_from_yields_List (λ (m : Member). eqb m.tracker c.args.tracker) _ _ c.find.result c.find.ensures.ran (YieldsList-from_slice _ c.iter.ensures.rest) (λ x b q k. search (rules, tests)) in
    let clients = row_members row.query row.quota row.is_seated row.members.items c.args.self.now c.self.view_is c.requires in
    let first = first_told c.deref.result.now (members_in c.args.self.now) c.args.tracker (option_map (λ x. x.now) c.find.result) found (c.deref.ensures.value ∙ sym clients) in
    rw c.in_ok-member.was at first
