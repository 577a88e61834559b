use Rattle.std.proofs.Common.{◌≡◌, true, false, refl, inl}
use Rattle.std.proofs.lemmas.Bool.{false≢true}
use Rattle.pin_core.proofs.Begun.{full_now, not_full, vacant_session, can_seat, query_live, refused_when, opened, may_close, closed_kept, closed_again}
use Rattle.pin_core.proofs.pool.PoolState.open_session.Goals as goal

pub returns-in_default-clause-refused : goal.returns-in_default-clause-refused
returns-in_default-clause-refused g c = (λ _. inl (full_now c.self.inside.parts c.args.self.now c.self.view_is (c.in_default.ensures.none.0 refl)), λ _. refl)

pub returns-in_default-clause-err : goal.returns-in_default-clause-err
returns-in_default-clause-err g c never = absurd (never (full_now c.self.inside.parts c.args.self.now c.self.view_is (c.in_default.ensures.none.0 refl)))

pub open_session-query-requires : goal.open_session-query-requires
open_session-query-requires g c = record {
  can = can_seat c.self.inside.parts c.args.self.now c.self.view_is c.self.invariant c.laws.ensures c.in-Some.s c.in-Some.ensures.vacant.0 c.in-Some.ensures.vacant.1 c.args.limit c.args.quota c.requires.spare;
}

pub increase-requires : goal.increase-requires
increase-requires g c =
    query_live c.self.inside.parts c.args.self.now c.self.view_is c.self.invariant c.laws.ensures c.in-Some.s c.in-Some.ensures.vacant.0 c.in-Some.ensures.vacant.1 c.args.limit c.args.quota
    c.open_session-query.result c.open_session-query.ensures.fresh c.open_session-query.new.self c.open_session-query.ensures.seated c.laws-2.ensures

pub close_session-requires : goal.close_session-requires
close_session-requires g c = record {
  can = may_close c.self.inside.parts c.args.self.now c.self.view_is c.self.invariant c.laws.ensures c.in-Some.s c.in-Some.ensures.vacant.0 c.in-Some.ensures.vacant.1 c.args.limit c.args.quota
      c.open_session-query.result c.open_session-query.ensures.fresh c.open_session-query.new.self c.open_session-query.ensures.seated c.laws-2.ensures
      c.increase.new.self c.in-Err.ensures.err;
}

pub invariant_of-self : goal.invariant_of-self
invariant_of-self g c =
    closed_kept c.self.inside.parts c.args.self.now c.self.view_is c.self.invariant c.laws.ensures c.in-Some.s c.in-Some.ensures.vacant.0 c.in-Some.ensures.vacant.1 c.args.limit c.args.quota
    c.open_session-query.result c.open_session-query.ensures.fresh c.open_session-query.new.self c.open_session-query.ensures.seated c.laws-2.ensures
    c.increase.new.self c.in-Err.ensures.err c.close_session.new.self c.close_session.ensures

pub returns-in-Err-clause-refused : goal.returns-in-Err-clause-refused
returns-in-Err-clause-refused g c =
    refused_when c.self.inside.parts c.args.self.now c.self.view_is c.self.invariant c.laws.ensures c.in-Some.s c.in-Some.ensures.vacant.0 c.in-Some.ensures.vacant.1 c.args.limit c.args.quota
    c.open_session-query.result c.open_session-query.ensures.fresh c.open_session-query.new.self c.open_session-query.ensures.seated c.laws-2.ensures
    c.args.least (true ≡ true) c.in-Err.ensures.refused

pub returns-in-Err-clause-full : goal.returns-in-Err-clause-full
returns-in-Err-clause-full g c full = absurd (not_full c.self.inside.parts c.args.self.now c.self.view_is c.in-Some.s c.in-Some.ensures.vacant.0 c.in-Some.ensures.vacant.1 full)

pub returns-in-Err-clause-err : goal.returns-in-Err-clause-err
returns-in-Err-clause-err g c never =
    closed_again c.self.inside.parts c.args.self.now c.self.view_is c.self.invariant c.laws.ensures c.in-Some.s c.in-Some.ensures.vacant.0 c.in-Some.ensures.vacant.1 c.args.limit c.args.quota
    c.open_session-query.result c.open_session-query.ensures.fresh c.open_session-query.new.self c.open_session-query.ensures.seated c.laws-2.ensures
    c.increase.new.self c.in-Err.ensures.err c.close_session.new.self c.close_session.ensures g.D.Slot c.args.least c.in-Err.refusal c.in-Err.ensures.cause

pub invariant_of-self-in_default-increase : goal.invariant_of-self-in_default-increase
invariant_of-self-in_default-increase g c =
    (opened c.self.inside.parts c.args.self.now c.self.view_is c.self.invariant c.laws.ensures c.in-Some.s c.in-Some.ensures.vacant.0 c.in-Some.ensures.vacant.1 c.args.limit c.args.quota
    c.open_session-query.result c.open_session-query.ensures.fresh c.open_session-query.new.self c.open_session-query.ensures.seated c.laws-2.ensures
    c.args.least (λ some. false≢true (c.in_default-increase.ensures.refused.1 some)) c.increase.new.self c.in_default-increase.ensures.ok).kept

pub returns-clause-ok : goal.returns-clause-ok
returns-clause-ok g c =
    (opened c.self.inside.parts c.args.self.now c.self.view_is c.self.invariant c.laws.ensures c.in-Some.s c.in-Some.ensures.vacant.0 c.in-Some.ensures.vacant.1 c.args.limit c.args.quota
    c.open_session-query.result c.open_session-query.ensures.fresh c.open_session-query.new.self c.open_session-query.ensures.seated c.laws-2.ensures
    c.args.least (λ some. false≢true (c.in_default-increase.ensures.refused.1 some)) c.increase.new.self c.in_default-increase.ensures.ok).enters g.D.Slot

pub returns-clause-fresh : goal.returns-clause-fresh
returns-clause-fresh g c = (c.in-Some.ensures.vacant.0, vacant_session c.self.inside.parts c.args.self.now c.self.view_is c.in-Some.s c.in-Some.ensures.vacant.1)

pub returns-clause-refused : goal.returns-clause-refused
returns-clause-refused g c =
    refused_when c.self.inside.parts c.args.self.now c.self.view_is c.self.invariant c.laws.ensures c.in-Some.s c.in-Some.ensures.vacant.0 c.in-Some.ensures.vacant.1 c.args.limit c.args.quota
    c.open_session-query.result c.open_session-query.ensures.fresh c.open_session-query.new.self c.open_session-query.ensures.seated c.laws-2.ensures
    c.args.least (false ≡ true) c.in_default-increase.ensures.refused

pub returns-clause-full : goal.returns-clause-full
returns-clause-full g c full = absurd (not_full c.self.inside.parts c.args.self.now c.self.view_is c.in-Some.s c.in-Some.ensures.vacant.0 c.in-Some.ensures.vacant.1 full)
