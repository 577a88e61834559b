use Rattle.std.proofs.Common.{◌≡◌, ◌++◌, ℕ, List, [], ◌∷◌, Some, inr, sym, ap, ◌∙◌, subst, arith}
use Rattle.std.specs.FinMap.{get}
use Rattle.pool_model.specs.declared.entry.Entry.{Entry}
use Rattle.pool_model.specs.declared.event.Event.TheVariants.{AddTracker, Increase}
use Rattle.pool_model.specs.State.{Opening, State}
use Rattle.store_api.specs.Entries.{by}
use Rattle.pin_core.specs.StateOf.{state_of}
use Rattle.pin_core.specs.calls.Sessions.{query_of}
use Rattle.pin_core.specs.Standing.{StandsFor, slots_home}
use Rattle.pin_core.specs.calls.Opening.{spare_of}
use Rattle.session_calls.specs.declared.hand.Hand.{Hand}
use Rattle.pin_core.specs.Tallies.{tally_in}
use Rattle.pin_core.specs.declared.tally.Tally.{Tally}
use Rattle.session_calls.specs.declared.count.Count.TheVariants as count
use Rattle.local_pool.specs.Counting.{named_at}
use Rattle.local_pool.specs.Beginning.{first_events}
use Rattle.pin_core.proofs.Tallied.{tally_same}
use Rattle.local_pool.proofs.Shelved.{seen_first}
use Rattle.local_pool.proofs.Begun.{opening_with, is_opening, not_full, lacks, cause_of, never_root, none_left, stands_first, fits_first, counted_alike, begun, first_query, sits_first}
use Rattle.local_pool.proofs.beginning.begin.Goals as goal

pub close-requires : goal.close-requires
close-requires g c = record {
  ended =
      let o : Opening = opening_with c.args._conf.now (spare_of c.args.pool) in
      let fresh : StandsFor g.D.Slot o [] c.args.pool = c.requires.fresh o (is_opening c.args._conf.now (spare_of c.args.pool)) in
      let closed = c.in-Err.ensures.err (not_full c.args._conf.now (spare_of c.args.pool) (state_of c.args.pool) fresh.state) in
      let stood = closed.enters.stands o [] fresh in
      λ s. ap (λ (t : State). get t.sessions s) stood.state ∙ none_left o closed.maker closed.tracker c.args.limit c.args.quota stood.legal s;
}

pub returns-in-Err-clause-cause : goal.returns-in-Err-clause-cause
returns-in-Err-clause-cause g c =
    let o : Opening = opening_with c.args._conf.now (spare_of c.args.pool) in
    let fresh : StandsFor g.D.Slot o [] c.args.pool = c.requires.fresh o (is_opening c.args._conf.now (spare_of c.args.pool)) in
    let closed = c.in-Err.ensures.err (not_full c.args._conf.now (spare_of c.args.pool) (state_of c.args.pool) fresh.state) in
    cause_of c.args._conf.now (spare_of c.args.pool) (state_of c.args.pool) fresh.state closed.tracker c.args.limit c.args.least c.in-Err.refusal
    (never_root o closed.tracker (closed.enters.stands o [] fresh).legal.0.allows.fresh) closed.cause

pub returns-in-Err-clause-back : goal.returns-in-Err-clause-back
returns-in-Err-clause-back g c measure =
    let o : Opening = opening_with c.args._conf.now (spare_of c.args.pool) in
    let fresh : StandsFor g.D.Slot o [] c.args.pool = c.requires.fresh o (is_opening c.args._conf.now (spare_of c.args.pool)) in
    let closed = c.in-Err.ensures.err (not_full c.args._conf.now (spare_of c.args.pool) (state_of c.args.pool) fresh.state) in
    let home = closed.enters.slots measure in
    let given = c.close.ensures.slots measure in
    omega (arith, home, given)

pub tracker-tracker-requires : goal.tracker-tracker-requires
tracker-tracker-requires g c =
    let o : Opening = opening_with c.args._conf.now (spare_of c.args.pool) in
    let fresh : StandsFor g.D.Slot o [] c.args.pool = c.requires.fresh o (is_opening c.args._conf.now (spare_of c.args.pool)) in
    sits_first g.D.Slot o c.in-Ok.session (query_of (state_of c.open_session.new.self) c.in-Ok.session) c.args.limit c.args.quota c.args.least c.open_session.new.self (c.in-Ok.ensures.ok.stands o [] fresh)

trail_is : (trail one two : List Entry) (m t q parent limit quota least : ℕ) → trail ≡ [] → t ≡ q → parent ≡ 0
    → one ≡ trail ++ record { maker = m; event = AddTracker t parent limit (Some quota) } ∷ [] → two ≡ one ++ record { maker = m; event = Increase t least } ∷ []
    → two ≡ by m (first_events q limit quota least)
trail_is trail one two m t q parent limit quota least none same root first second =
    second ∙ ap (λ (h : List Entry). h ++ record { maker = m; event = Increase t least } ∷ []) (first ∙ ap (λ (h : List Entry). h ++ record { maker = m; event = AddTracker t parent limit (Some quota) } ∷ []) none)
    ∙ ap (λ (k : ℕ). record { maker = m; event = AddTracker t k limit (Some quota) } ∷ record { maker = m; event = Increase t least } ∷ []) root
    ∙ ap (λ (k : ℕ). record { maker = m; event = AddTracker k 0 limit (Some quota) } ∷ record { maker = m; event = Increase k least } ∷ []) same

pub invariant_of-result : goal.invariant_of-result
invariant_of-result g c =
    let o : Opening = opening_with c.args._conf.now (spare_of c.args.pool) in
    let fresh : StandsFor g.D.Slot o [] c.args.pool = c.requires.fresh o (is_opening c.args._conf.now (spare_of c.args.pool)) in
    let q : ℕ = query_of (state_of c.open_session.new.self) c.in-Ok.session in
    let own : Hand g.row.D.Denot = record { state = c.open_session.new.self; trail = c.enter-2.new.trail; counts = c.args.books.counts; session = c.in-Ok.session; gone = c.args.books.gone } in
    let trail : own.trail ≡ by own.session (first_events q c.args.limit c.args.quota c.args.least) =
    trail_is c.args.books.trail c.enter.new.trail c.enter-2.new.trail c.in-Ok.session c.tracker-tracker.result q c.of.result c.args.limit c.args.quota c.args.least c.requires.empty.0 c.tracker-tracker.ensures c.of.ensures c.enter.ensures c.enter-2.ensures in
    let stood : StandsFor g.D.Slot o own.trail own.state = subst (λ (h : List Entry). StandsFor g.D.Slot o h own.state) (sym trail) (c.in-Ok.ensures.ok.stands o [] fresh) in
    let same : tally_in g.D.Slot c.args.pool ≡ tally_in g.D.Slot own.state =
    tally_same g.D.Slot (λ measure. slots_home measure c.args.pool) (λ measure. slots_home measure own.state) (λ measure. let home = c.in-Ok.ensures.ok.slots measure in omega (arith, home)) in
    let counts : own.counts ≡ count.Opening (tally_in g.D.Slot own.state) ∷ [] = c.requires.counts ∙ ap (λ (t : Tally). count.Opening t ∷ []) same in (
      stands_first g.D.Slot own q c.args.limit c.args.quota c.args.least trail c.args._conf.now o (is_opening c.args._conf.now (spare_of c.args.pool)) stood c.in-Ok.ensures.fresh.0 counts
          (named_at g.T.Opened.named g.T.Opened.opening g.T.Opened.first) (counted_alike (named_at g.T.Opened.named g.T.Opened.opening g.T.Opened.first) (tally_in g.D.Slot c.args.pool) (tally_in g.D.Slot own.state) c.args._conf.now.first_name _ same c.requires.opens),
      fits_first g.D.Slot own q c.args.limit c.args.quota c.args.least trail c.args._conf.now o (is_opening c.args._conf.now (spare_of c.args.pool)) stood c.in-Ok.ensures.fresh.0 counts
          c.see.new.self (c.see.ensures.seen ∙ seen_first c.args.books.shelf.seen own.trail c.requires.empty.1) (c.see.ensures.counted ∙ seen_first c.args.books.shelf.counted own.counts c.requires.empty.2),
    )

pub returns-clause-ok : goal.returns-clause-ok
returns-clause-ok g c =
    let o : Opening = opening_with c.args._conf.now (spare_of c.args.pool) in
    let fresh : StandsFor g.D.Slot o [] c.args.pool = c.requires.fresh o (is_opening c.args._conf.now (spare_of c.args.pool)) in
    let q : ℕ = query_of (state_of c.open_session.new.self) c.in-Ok.session in
    let own : Hand g.row.D.Denot = record { state = c.open_session.new.self; trail = c.enter-2.new.trail; counts = c.args.books.counts; session = c.in-Ok.session; gone = c.args.books.gone } in
    let trail : own.trail ≡ by own.session (first_events q c.args.limit c.args.quota c.args.least) =
    trail_is c.args.books.trail c.enter.new.trail c.enter-2.new.trail c.in-Ok.session c.tracker-tracker.result q c.of.result c.args.limit c.args.quota c.args.least c.requires.empty.0 c.tracker-tracker.ensures c.of.ensures c.enter.ensures c.enter-2.ensures in
    begun g.D.Slot own q c.args.limit c.args.quota c.args.least trail c.args._conf.now o (is_opening c.args._conf.now (spare_of c.args.pool))
    (subst (λ (h : List Entry). StandsFor g.D.Slot o h own.state) (sym trail) (c.in-Ok.ensures.ok.stands o [] fresh))

pub returns-clause-trail : goal.returns-clause-trail
returns-clause-trail g c =
    let q : ℕ = query_of (state_of c.open_session.new.self) c.in-Ok.session in
    let own : Hand g.row.D.Denot = record { state = c.open_session.new.self; trail = c.enter-2.new.trail; counts = c.args.books.counts; session = c.in-Ok.session; gone = c.args.books.gone } in
    let trail : own.trail ≡ by own.session (first_events q c.args.limit c.args.quota c.args.least) =
    trail_is c.args.books.trail c.enter.new.trail c.enter-2.new.trail c.in-Ok.session c.tracker-tracker.result q c.of.result c.args.limit c.args.quota c.args.least c.requires.empty.0 c.tracker-tracker.ensures c.of.ensures c.enter.ensures c.enter-2.ensures in
    trail ∙ ap (λ (k : ℕ). by own.session (first_events k c.args.limit c.args.quota c.args.least)) (sym (first_query g.D.Slot own q c.args.limit c.args.quota c.args.least trail))

pub returns-clause-refused : goal.returns-clause-refused
returns-clause-refused g c few =
    let o : Opening = opening_with c.args._conf.now (spare_of c.args.pool) in
    let fresh : StandsFor g.D.Slot o [] c.args.pool = c.requires.fresh o (is_opening c.args._conf.now (spare_of c.args.pool)) in
    c.in-Ok.ensures.refused.1 (inr (lacks c.args._conf.now (spare_of c.args.pool) (state_of c.args.pool) fresh.state c.args.limit c.args.least few))

pub returns-clause-slots : goal.returns-clause-slots
returns-clause-slots g c measure = let home = c.in-Ok.ensures.ok.slots measure in omega (arith, home)
