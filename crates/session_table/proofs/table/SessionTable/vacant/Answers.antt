-- The lowest vacant number, by the rows.
use Rattle.std.proofs.Common.{◌≡◌, ap, sym, ◌∙◌, is_none, rules, tests}
use Rattle.std.proofs.lemmas.Iterator.{YieldsList-from_slice}
use Rattle.std.proofs.lemmas.Iterator.Search.{position_from_yields_List}
use Rattle.session_table.specs.Seats.{lowest_vacant}
use Rattle.session_table.proofs.table.SessionTable.vacant.Goals as goal

pub returns-in_err-s-clause-lowest : goal.returns-in_err-s-clause-lowest
returns-in_err-s-clause-lowest c =
    let found : c.position.result ≡ lowest_vacant c.deref.result.now = position_from_yields_List is_none _ _ c.position.result c.position.ensures.ran (YieldsList-from_slice _ c.iter.ensures.rest) (λ x b q k. search (rules, tests)) in
    c.from_residual.ensures ∙ sym c.in_err-s.was ∙ found ∙ ap lowest_vacant (c.deref.ensures.value ∙ c.self.view_is)

pub returns-clause-lowest : goal.returns-clause-lowest
returns-clause-lowest c =
    let found : c.position.result ≡ lowest_vacant c.deref.result.now = position_from_yields_List is_none _ _ c.position.result c.position.ensures.ran (YieldsList-from_slice _ c.iter.ensures.rest) (λ x b q k. search (rules, tests)) in
    sym c.in_ok-s.was ∙ found ∙ ap lowest_vacant (c.deref.ensures.value ∙ c.self.view_is)
