use Rattle.std.proofs.Common.{◌≡◌, eqb, ◌∙◌, rules, tests}
use Rattle.std.specs.List.{list_any}
use Rattle.std.proofs.lemmas.Iterator.{YieldsList-from_slice}
use Rattle.std.proofs.lemmas.Iterator.Search.{any_from_yields_List}
use Rattle.session_table.specs.declared.member.Member.{Member}
use Rattle.pool_questions.proofs.CheckedClients.{tried}
use Rattle.pool_questions.proofs.clients.has.Goals as goal

pub returns : goal.returns
returns c =
    let any : c.any.result ≡ list_any (λ (m : Member). eqb m.tracker c.args.tracker) c.args.members.now = any_from_yields_List (λ (m : Member). eqb m.tracker c.args.tracker) _ _ c.any.result c.any.ensures.ran (YieldsList-from_slice _ c.iter.ensures.rest) (λ x b q k. search (rules, tests)) in
    any ∙ tried c.args.members.now c.args.tracker
