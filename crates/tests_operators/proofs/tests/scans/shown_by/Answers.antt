use Rattle.std.proofs.Common.{ℕ, ap, sym, subst}
use Rattle.store_api.specs.Changes.{after_reserve}
use Rattle.store_api.specs.Conditions.{IsIdle}
use Rattle.store_api.specs.Holdings.{Holdings}
use Rattle.tuple_stream.specs.Streamed.{Streamed}
use Rattle.group_op.specs.Leaving.{Leaves}
use Rattle.group_op.proofs.Dropping.{leaves_idle, leaves_trans, touched_leaves}
use Rattle.tests_operators.proofs.tests.scans.shown_by.Goals as goal

reserved_idle : (t bytes : ℕ) (h : Holdings) → IsIdle t h → IsIdle t (after_reserve t bytes h)
reserved_idle t bytes h idle = record { pages = idle.pages; loans = idle.loans }

pub returns-clause-idle : goal.returns-clause-idle
returns-clause-idle g c =
    let t : ℕ = c.args.c.now.tracker in
    let mid = g.St.Store.holds c.reserve.new.self in
    let late = g.St.Store.holds c.shown-seen.new.store in
    let new = g.St.Store.holds c.drop_all.new.store in
    let left : Leaves c.args.c.now.tracker c.new-rows.result c.drop_all.new.self mid new =
    leaves_trans t c.new-rows.result c.shown-seen.new.rows c.drop_all.new.self mid late new c.shown-seen.ensures.leaves
    (touched_leaves t c.shown-seen.new.rows c.drop_all.new.self late new (c.drop_all.ensures.went t c.shown-seen.ensures.stream.shape).touches) in
    leaves_idle t c.new-rows.result c.drop_all.new.self mid new left (ap (λ (s : Streamed). s.pages) c.drop_all.ensures.value)
    (subst (IsIdle t) (sym c.in_ok-reserve.ensures.ok) (reserved_idle t _ (g.St.Store.holds c.args.store.now) c.requires.idle))
