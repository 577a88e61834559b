use Rattle.std.proofs.Common.{◌≡◌, ◌≤◌, ◌+◌, ℕ, refl, sym, ap, ◌∙◌, subst}
use Rattle.pool_model.specs.State.{State}
use Rattle.pin_core.specs.declared.parts.Parts.{Parts}
use Rattle.pin_core.specs.Invariant.{IsKept}
use Rattle.pin_core.specs.StateOf.{state_of}
use Rattle.pin_core.specs.calls.Sessions.{query_of}
use Rattle.turn_table.specs.Face.{Spot}
use Rattle.pool.specs.declared.ask.Ask.{Ask}
use Rattle.pool.specs.declared.item.Item.{Item}
use Rattle.pool.specs.Seats.{live_in, taken_in}
use Rattle.pool.specs.Remaining.{all_left, left_in, refusal_of}
use Rattle.pool.specs.Seating.{Begins, IsSessionRefusal, TurnsAway, beginning_items}
use Rattle.pool.proofs.AllIn.{live_here}
use Rattle.pool.proofs.Barred.{only_memory}
use Rattle.pool.proofs.Came.{still_pass, turned_away, has_rights, came_pass, came_keeps, came, none_there, spare_enough, still_right}
use Rattle.pool.proofs.Fresh.{fresh_left}
use Rattle.pool.proofs.Stood.{legal_here, stands_begun, state_here}
use Rattle.pool.proofs.seating.seat_session.Goals as goal

pub invariant_of-pass : goal.invariant_of-pass
invariant_of-pass g c = still_pass g.T.Opened.opening c.pass.invariant c.enter-shared.ensures.kept.1 c.enter-shared.ensures.seen c.leave.new.seat c.leave.ensures.grown

pub returns-in-Err-clause-err : goal.returns-in-Err-clause-err
returns-in-Err-clause-err g c =
    let table : c.leave.new.seat.table ≡ c.pass.inside.seat.table = c.leave.ensures.table ∙ sym c.requires.table ∙ ap (λ (p : Spot Item). p.table) (sym c.pass.view_is) in
    subst (λ (p : Spot Item). TurnsAway g.T.Opened.opening c.args.limit c.args.least p c.leave.new.seat c.in-Err.refusal) c.pass.view_is
    (turned_away g.T.Opened.opening c.pass.invariant c.enter-shared.ensures.kept.1 c.enter-shared.ensures.seen c.leave.new.seat c.leave.ensures.grown c.args.limit c.args.least c.in-Err.refusal table
    (subst (λ (s : State). IsSessionRefusal s c.args.limit c.args.least c.in-Err.refusal) (state_here g.D.Slot g.T.Opened.opening g.T.Opened.outset.told g.T.Opened.first c.enter-shared.new.seat.knows.seen (record { trail = c.enter-shared.result.trail; counts = c.enter-shared.result.counts }) c.enter-shared.result.state c.enter-shared.ensures.stands.0) c.in-Err.ensures.err))

pub returns-in-Err-clause-fresh : goal.returns-in-Err-clause-fresh
returns-in-Err-clause-fresh g c = λ none free.
    let ask : Ask = record { limit = c.args.limit; quota = c.args.quota; least = c.args.least; count = 1 } in
    let left : left_in (state_of c.enter-shared.result.state) ≡ all_left g.T.Opened.opening =
    fresh_left c.enter-shared.ensures.stands.0 (subst (λ (v : Parts g.row.D.Denot). IsKept v) c.parts.ensures.parts c.parts.ensures.kept)
    (live_here g.T.Opened.opening c.pass.invariant c.enter-shared.ensures.kept.1 c.enter-shared.ensures.seen ∙ subst (λ (p : Spot Item). live_in p.knows.seen ≡ 0) (sym c.pass.view_is) none) in
    only_memory (state_of c.enter-shared.result.state) ask (ap (refusal_of ask) left ∙ free) c.in-Err.refusal c.in-Err.ensures.err

pub admit-number-requires-clause-spare : goal.admit-number-requires-clause-spare
admit-number-requires-clause-spare g c =
    spare_enough g.T.Opened.opening c.pass.invariant c.enter-shared.ensures.kept.1 c.enter-shared.ensures.seen c.enter-shared.ensures.stands.0 c.args.quota
    (subst (λ (p : Spot Item). c.args.quota + taken_in p.knows.seen ≤ g.T.Opened.opening.slots) (sym c.pass.view_is) c.requires.spare)

pub leave_begun-requires-clause-named : goal.leave_begun-requires-clause-named
leave_begun-requires-clause-named g c = refl

pub leave_begun-requires-clause-stands : goal.leave_begun-requires-clause-stands
leave_begun-requires-clause-stands g c =
    let n : ℕ = c.admit-number.result in
    stands_begun g.D.Slot g.T.Opened.opening g.T.Opened.outset.told g.T.Opened.first c.enter-shared.new.seat.knows.seen (record { trail = c.enter-shared.result.trail; counts = c.enter-shared.result.counts }) (record { trail = c.admit-number.new.shared.trail; counts = c.admit-number.new.shared.counts }) c.enter-shared.result.state c.admit-number.new.shared.state n (query_of (state_of c.admit-number.new.shared.state) n) c.args.limit c.args.quota c.args.least
    c.enter-shared.ensures.stands.0 c.admit-number.ensures.opens.vacant
    c.admit-number.ensures.trail c.admit-number.ensures.counts.0
    c.admit-number.ensures.opens.enters
    c.admit-number.ensures.opens.spare

pub leave_begun-requires-clause-stop : goal.leave_begun-requires-clause-stop
leave_begun-requires-clause-stop g c = c.admit-number.ensures.counts.1 ∙ c.enter-shared.ensures.stands.1

pub leave_begun-requires-clause-rights : goal.leave_begun-requires-clause-rights
leave_begun-requires-clause-rights g c =
    has_rights g.T.Opened.opening c.pass.invariant c.enter-shared.ensures.kept.1 c.enter-shared.ensures.seen c.enter-shared.ensures.stands.0 c.admit-number.result c.admit-number.ensures.opens.number c.admit-number.ensures.opens.vacant

pub split-seat-requires-clause-among : goal.split-seat-requires-clause-among
split-seat-requires-clause-among g c =
    still_right c.admit-number.result c.enter-shared.new.seat.knows c.leave_begun.new.seat.knows (beginning_items c.admit-number.result (query_of (state_of c.admit-number.new.shared.state) c.admit-number.result) c.args.limit c.args.quota c.args.least) c.leave_begun.ensures.grown
    (has_rights g.T.Opened.opening c.pass.invariant c.enter-shared.ensures.kept.1 c.enter-shared.ensures.seen c.enter-shared.ensures.stands.0 c.admit-number.result c.admit-number.ensures.opens.number c.admit-number.ensures.opens.vacant).1

pub invariant_of-result : goal.invariant_of-result
invariant_of-result g c =
    came_keeps g.T.Opened.opening c.pass.invariant c.enter-shared.ensures.kept.1 c.enter-shared.ensures.seen c.enter-shared.ensures.stands.0 c.admit-number.result c.admit-number.ensures.opens.number c.admit-number.ensures.opens.vacant
    (query_of (state_of c.admit-number.new.shared.state) c.admit-number.result) c.args.limit c.args.quota c.args.least c.leave_begun.new.seat c.split-seat.new.seat c.split-seat.result
    c.leave_begun.ensures.grown c.split-seat.ensures.parted c.split-seat.ensures.newcomer
    (legal_here g.D.Slot g.T.Opened.opening g.T.Opened.outset.told g.T.Opened.first _ _ _ (stands_begun g.D.Slot g.T.Opened.opening g.T.Opened.outset.told g.T.Opened.first c.enter-shared.new.seat.knows.seen (record { trail = c.enter-shared.result.trail; counts = c.enter-shared.result.counts }) (record { trail = c.admit-number.new.shared.trail; counts = c.admit-number.new.shared.counts }) c.enter-shared.result.state c.admit-number.new.shared.state c.admit-number.result (query_of (state_of c.admit-number.new.shared.state) c.admit-number.result) c.args.limit c.args.quota c.args.least c.enter-shared.ensures.stands.0 c.admit-number.ensures.opens.vacant c.admit-number.ensures.trail c.admit-number.ensures.counts.0 c.admit-number.ensures.opens.enters c.admit-number.ensures.opens.spare))
    c.in-Ok.ensures.ok c.args.block_len c.requires.power c.requires.len (record { room = c.args.least; accounts = c.in-Ok.accounts }) refl
    (none_there c.args.accounts c.in-Ok.accounts c.in-Ok.ensures.accounts c.requires.none)

pub invariant_of-pass-2 : goal.invariant_of-pass-2
invariant_of-pass-2 g c =
    came_pass g.T.Opened.opening c.pass.invariant c.enter-shared.ensures.kept.1 c.enter-shared.ensures.seen c.enter-shared.ensures.stands.0 c.admit-number.result c.admit-number.ensures.opens.number c.admit-number.ensures.opens.vacant
    (query_of (state_of c.admit-number.new.shared.state) c.admit-number.result) c.args.limit c.args.quota c.args.least c.leave_begun.new.seat c.split-seat.new.seat c.split-seat.result
    c.leave_begun.ensures.grown c.split-seat.ensures.parted c.split-seat.ensures.newcomer
    (subst (λ (p : Spot Item). c.args.quota + taken_in p.knows.seen ≤ g.T.Opened.opening.slots) (sym c.pass.view_is) c.requires.spare)

pub returns-clause-ok : goal.returns-clause-ok
returns-clause-ok g c =
    let home : c.args.turns.now ≡ c.pass.inside.seat.table = sym c.requires.table ∙ ap (λ (p : Spot Item). p.table) (sym c.pass.view_is) in
    subst (λ (p : Spot Item). Begins g.T.Opened.opening g.T.Opened.outset.told c.args.limit c.args.quota c.args.least p c.split-seat.new.seat (record { number = c.admit-number.result; spot = c.split-seat.result })) c.pass.view_is
    (came g.T.Opened.opening c.pass.invariant c.enter-shared.ensures.kept.1 c.enter-shared.ensures.seen c.enter-shared.ensures.stands.0 c.admit-number.result c.admit-number.ensures.opens.number c.admit-number.ensures.opens.vacant
    (query_of (state_of c.admit-number.new.shared.state) c.admit-number.result) c.args.limit c.args.quota c.args.least c.leave_begun.new.seat c.split-seat.new.seat c.split-seat.result
    c.leave_begun.ensures.grown c.split-seat.ensures.parted c.split-seat.ensures.newcomer
    c.in-Ok.ensures.ok (c.split-seat.ensures.table.0 ∙ home) (c.split-seat.ensures.table.1 ∙ home))
