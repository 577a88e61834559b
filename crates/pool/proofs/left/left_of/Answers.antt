use Rattle.std.proofs.Common.{◌≡◌, ◌↔◌, ℕ, ◌+◌, ◌≤◌, true, IsSome, sym, subst}
use Rattle.session_table.specs.Seats.{seat_of}
use Rattle.pin_core.specs.declared.parts.Parts.{Parts}
use Rattle.pin_core.specs.StateOf.{state_of}
use Rattle.pool.specs.Remaining.{vacancies}
use Rattle.pool.proofs.Vacant.{looked_none, looked_vacant, looked_seated}
use Rattle.pool.proofs.left.left_of.Goals.{then-not-is_seated, else-not-is_seated}
use Rattle.pool.proofs.left.left_of.Goals as goal

pub loop-s-init : goal.loop-s-init
loop-s-init g c = looked_none c.args.state.now.seats

pub loop-s-preserved : goal.loop-s-preserved
loop-s-preserved g c =
    let means : (c.is_seated.result ≡ true) ↔ IsSome (seat_of c.args.state.now.seats c.loop-s.s) = subst (λ (v : Parts g.row.D.Denot). (c.is_seated.result ≡ true) ↔ IsSome (seat_of v.seats c.loop-s.s)) c.parts.ensures.parts c.is_seated.ensures in
    elim c.if-not-is_seated.branch [
      | then-not-is_seated w ↦ subst (λ (n : ℕ). (n ≡ vacancies (state_of c.args.state.now).sessions (c.loop-s.s + 1)) × (n ≤ c.loop-s.s + 1)) (sym w.numbers-is) (looked_vacant c.args.state.now.seats c.loop-s.s c.loop-s.numbers c.loop-s.invariant c.is_seated.result means w.if-not-is_seated.true)
      | else-not-is_seated w ↦ subst (λ (n : ℕ). (n ≡ vacancies (state_of c.args.state.now).sessions (c.loop-s.s + 1)) × (n ≤ c.loop-s.s + 1)) (sym w.numbers-is) (looked_seated c.args.state.now.seats c.loop-s.s c.loop-s.numbers c.loop-s.invariant c.is_seated.result means w.if-not-is_seated.false)
    ]
