-- Each member is tried by its tracker.
use Rattle.std.proofs.Common.{◌≡◌, ℕ, ◌||◌, eqb, List, [], ◌∷◌, refl, ap, ap₂, ◌∙◌, rules, tests}
use Rattle.std.specs.List.{list_any}
use Rattle.std.specs.Cmp.{nat_eq_equiv}
use Rattle.std.proofs.lemmas.Iterator.{YieldsList-from_slice}
use Rattle.std.proofs.lemmas.Iterator.Search.{any_from_yields_List}
use Rattle.index_list.specs.Listing.{stands_in}
use Rattle.session_table.specs.declared.member.Member.{Member}
use Rattle.session_table.specs.Seats.{trackers_of}
use Rattle.tests_ground.proofs.tests.sessions.has.Goals as goal

stand : (members : List Member) (t : ℕ) → list_any (λ (m : Member). eqb m.tracker t) members ≡ stands_in t (trackers_of members)
stand [] t = refl
stand (m ∷ rest) t = ap₂ (λ b c. b || c) (nat_eq_equiv.symm m.tracker t) (stand rest t)

pub returns : goal.returns
returns c =
    let any : c.any.result ≡ list_any (λ (m : Member). eqb m.tracker c.args.tracker) c.members.result.now = any_from_yields_List (λ (m : Member). eqb m.tracker c.args.tracker) _ _ c.any.result c.any.ensures.ran (YieldsList-from_slice _ c.iter.ensures.rest) (λ x b q k. search (rules, tests)) in
    any ∙ ap (list_any (λ (m : Member). eqb m.tracker c.args.tracker)) c.members.ensures ∙ stand _ c.args.tracker
