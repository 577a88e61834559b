-- The account is found.
use Rattle.std.proofs.Common.{◌≡◌, eqb, find, option_map, IsSome, rules, tests}
use Rattle.std.proofs.lemmas.Iterator.{YieldsList-from_slice}
use Rattle.std.proofs.lemmas.Iterator.Search.{find_from_yields_List}
use Rattle.pool.specs.declared.account.ClientAccount.{ClientAccount}
use Rattle.pool.specs.Unused.{unused_in}
use Rattle.pool.proofs.Found.{some_found, unused_found}
use Rattle.pool.proofs.accounts.ClientAccounts.unused.Goals as goal

pub unwrap-account-requires : goal.unwrap-account-requires
unwrap-account-requires c =
    let found : option_map (λ x. x.now) c.find.result ≡ find (λ (a : ClientAccount). eqb a.tracker c.args.tracker) c.deref.result.now = find_from_yields_List (λ (a : ClientAccount). eqb a.tracker c.args.tracker) _ _ c.find.result c.find.ensures.ran (YieldsList-from_slice _ c.iter.ensures.rest) (λ x b q k. search (rules, tests)) in
    let there : IsSome (unused_in c.deref.result.now c.args.tracker) = rw (c.deref.ensures.value, c.self.view_is) c.requires in
    some_found (λ x. x.now) c.deref.result.now c.args.tracker c.find.result found there

pub returns : goal.returns
returns c =
    let found : option_map (λ x. x.now) c.find.result ≡ find (λ (a : ClientAccount). eqb a.tracker c.args.tracker) c.deref.result.now = find_from_yields_List (λ (a : ClientAccount). eqb a.tracker c.args.tracker) _ _ c.find.result c.find.ensures.ran (YieldsList-from_slice _ c.iter.ensures.rest) (λ x b q k. search (rules, tests)) in
    rw (← c.self.view_is, ← c.deref.ensures.value) (unused_found (λ x. x.now) c.deref.result.now c.args.tracker c.find.result c.unwrap-account.result found c.unwrap-account.ensures)
