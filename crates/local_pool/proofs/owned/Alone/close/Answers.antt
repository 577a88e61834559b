use Rattle.std.proofs.Common.{◌≡◌, is_some, sym, ap, subst, arith}
use Rattle.std.specs.List.{sum_by}
use Rattle.pin_core.specs.Standing.{slots_home}
use Rattle.session_calls.specs.declared.hand.Hand.{Hand}
use Rattle.local_pool.specs.Told.{held_of, signs_of}
use Rattle.local_pool.specs.Counting.{SpendsNames, SumsHold, named_at}
use Rattle.local_pool.specs.History.{IsHistory}
use Rattle.pin_core.specs.Tallies.{tally_in, tally_of}
use Rattle.pin_core.proofs.Tallied.{tally_same}
use Rattle.local_pool.proofs.Ended.{none_left}
use Rattle.local_pool.proofs.Naming.{spends_all}
use Rattle.local_pool.proofs.Summing.{sums_hold}
use Rattle.local_pool.proofs.Lawful.{history_of}
use Rattle.session_calls.proofs.Clients.{no_child}
use Rattle.local_pool.proofs.Knowing.{knows}
use Rattle.local_pool.proofs.owned.Alone.close.Goals as goal

pub end_session-requires-clause-live : goal.end_session-requires-clause-live
end_session-requires-clause-live g c = ap is_some (knows g.D.Slot c.self.inside.hand c.self.invariant.0).lives

pub end_session-requires-clause-no_client : goal.end_session-requires-clause-no_client
end_session-requires-clause-no_client g c =
    no_child (knows g.D.Slot c.self.inside.hand c.self.invariant.0) (subst (λ (o : Hand g.row.D.Denot). (held_of g.D.Slot o).live_clients ≡ 0) (sym c.self.view_is) c.requires)

pub close-requires : goal.close-requires
close-requires g c = record { ended = none_left g.D.Slot c.self.inside.hand c.self.invariant.0 c.end_session.new.self c.end_session.ensures.enters }

pub returns-clause-slots : goal.returns-clause-slots
returns-clause-slots g c measure =
    let home = c.end_session.ensures.enters.slots measure in
    let given = c.close.ensures.slots measure in
    let same : sum_by measure c.close.result.items ≡ slots_home measure c.self.inside.hand.state = omega (arith, home, given) in
    subst (λ (o : Hand g.row.D.Denot). sum_by measure c.close.result.items ≡ slots_home measure o.state) c.self.view_is same

pub returns-clause-names : goal.returns-clause-names
returns-clause-names g c =
    subst (λ (o : Hand g.row.D.Denot). SpendsNames (named_at g.T.Opened.named g.T.Opened.opening g.T.Opened.first) o.trail (signs_of o).spent) c.self.view_is (spends_all g.D.Slot (named_at g.T.Opened.named g.T.Opened.opening g.T.Opened.first) c.self.inside.hand c.self.invariant.0)

pub returns-clause-history : goal.returns-clause-history
returns-clause-history g c =
    subst (λ (o : Hand g.row.D.Denot). IsHistory (named_at g.T.Opened.named g.T.Opened.opening g.T.Opened.first) (held_of g.D.Slot o).block_len o.session o.trail) c.self.view_is (history_of g.D.Slot (named_at g.T.Opened.named g.T.Opened.opening g.T.Opened.first) c.self.inside.hand c.self.invariant.0)

pub returns-clause-sums : goal.returns-clause-sums
returns-clause-sums g c =
    let own : Hand g.row.D.Denot = c.self.inside.hand in
    let same : tally_in g.D.Slot own.state ≡ tally_of g.D.Slot c.close.result.items =
    tally_same g.D.Slot (λ measure. slots_home measure own.state) (λ measure. sum_by measure c.close.result.items)
    (λ measure. let home = c.end_session.ensures.enters.slots measure in let given = c.close.ensures.slots measure in omega (arith, home, given)) in
    subst (λ (o : Hand g.row.D.Denot). SumsHold (named_at g.T.Opened.named g.T.Opened.opening g.T.Opened.first) o.trail (tally_of g.D.Slot c.close.result.items)) c.self.view_is (subst (SumsHold (named_at g.T.Opened.named g.T.Opened.opening g.T.Opened.first) own.trail) same (sums_hold g.D.Slot (named_at g.T.Opened.named g.T.Opened.opening g.T.Opened.first) own c.self.invariant.0))
