use Rattle.std.proofs.Common.{◌≡◌, ◌≤◌, ◌+◌, ℕ, List, map, Result, refl, sym, ap, ◌∙◌, subst, arith}
use Rattle.atomic_table.specs.Seated.{TableId}
use Rattle.reservation_tree.specs.declared.errors.PoolErr.{PoolErr}
use Rattle.pin_core.specs.declared.parts.Parts.{Parts}
use Rattle.pin_core.specs.Invariant.{IsKept}
use Rattle.pin_core.specs.StateOf.{state_of}
use Rattle.turn_table.specs.Face.{Spot}
use Rattle.pool.specs.declared.ask.Ask.{Ask}
use Rattle.pool.specs.declared.left.Left.{Left}
use Rattle.pool.specs.declared.item.Item.{Item}
use Rattle.pool.specs.Seats.{live_in, taken_in}
use Rattle.pool.specs.Standing.{StandsAs}
use Rattle.pool.specs.Remaining.{left_in, quotas_of, refusals}
use Rattle.pool.specs.Asking.{Admits, Answers, AreAnswered, answer_of}
use Rattle.pool.specs.Admitting.{AdmittedAll, numbered}
use Rattle.pool.specs.Parting.{AllComing, AreSeats}
use Rattle.pool.proofs.AllIn.{admits, all_is, all_pass, can_hand, first_gone, live_here, only_needs, refused_by, seen_gone}
use Rattle.pool.proofs.Answered.{answered_coming}
use Rattle.pool.proofs.Came.{spare_enough}
use Rattle.pool.proofs.Fresh.{fresh_left}
use Rattle.pool.proofs.Stood.{legal_here, state_here}
use Rattle.pool.proofs.Vacant.{at_most}
use Rattle.pool.proofs.together.seat_sessions.Goals as goal

pub admit_all-numbers-requires : goal.admit_all-numbers-requires
admit_all-numbers-requires g c = record {
  stands = record { items = c.enter-shared.new.seat.knows.seen; stands = c.enter-shared.ensures.stands.0 };
  spare = spare_enough g.T.Opened.opening c.pass.invariant c.enter-shared.ensures.kept.1 c.enter-shared.ensures.seen c.enter-shared.ensures.stands.0 (quotas_of c.args.asks.now)
      (subst (λ (p : Spot Item). quotas_of c.args.asks.now + taken_in p.knows.seen ≤ g.T.Opened.opening.slots) (sym c.pass.view_is) c.requires.spare);
  slates = c.requires.slates;
  none = c.requires.none.0;
  room = c.requires.room.0;
}

pub leave_admitted-requires : goal.leave_admitted-requires
leave_admitted-requires g c =
    let asks : List Ask = c.args.asks.now in
    let left : Left = left_in (state_of c.enter-shared.result.state) in
    let done : AdmittedAll g.D.Slot g.T.Opened.opening g.T.Opened.outset.told g.T.Opened.first asks c.enter-shared.new.seat.knows.seen (map numbered c.admit_all-numbers.result.items) c.enter-shared.result.state (record { trail = c.admit_all-numbers.new.shared.trail; counts = c.admit_all-numbers.new.shared.counts }) c.admit_all-numbers.new.shared.state =
    c.admit_all-numbers.ensures.admits c.enter-shared.new.seat.knows.seen c.enter-shared.ensures.stands.0 in
    record {
      named = refl;
      table = c.enter-shared.ensures.table;
      turn = c.enter-shared.ensures.turn;
      stands =
          subst (λ (items : List Item). StandsAs g.D.Slot g.T.Opened.opening g.T.Opened.outset.told g.T.Opened.first items (record { trail = c.admit_all-numbers.new.shared.trail; counts = c.admit_all-numbers.new.shared.counts }) c.admit_all-numbers.new.shared.state)
          (sym (all_is g.T.Opened.opening c.pass.invariant c.enter-shared.ensures.kept.1 c.enter-shared.ensures.seen asks left (map numbered c.admit_all-numbers.result.items) done.after done.answered c.admit_all-numbers.new.shared.trail (ap (λ z. z.trail) done.stands.sight_is)))
          done.stands;
      stop = c.admit_all-numbers.ensures.stop ∙ c.enter-shared.ensures.stands.1;
      rights = only_needs g.T.Opened.opening c.pass.invariant c.enter-shared.ensures.kept.1 c.enter-shared.ensures.seen asks left (map numbered c.admit_all-numbers.result.items) done.after done.answered c.admit_all-numbers.new.shared.trail (ap (λ z. z.trail) done.stands.sight_is);
    }

pub part_all-requires : goal.part_all-requires
part_all-requires g c =
    let asks : List Ask = c.args.asks.now in
    let left : Left = left_in (state_of c.enter-shared.result.state) in
    let done : AdmittedAll g.D.Slot g.T.Opened.opening g.T.Opened.outset.told g.T.Opened.first asks c.enter-shared.new.seat.knows.seen (map numbered c.admit_all-numbers.result.items) c.enter-shared.result.state (record { trail = c.admit_all-numbers.new.shared.trail; counts = c.admit_all-numbers.new.shared.counts }) c.admit_all-numbers.new.shared.state =
    c.admit_all-numbers.ensures.admits c.enter-shared.new.seat.knows.seen c.enter-shared.ensures.stands.0 in
    let answers : List (Result (List ℕ) PoolErr) = map numbered c.deref.result.now in
    let are : AreAnswered asks left c.enter-shared.new.seat.knows.seen answers done.after =
    subst (λ ns. AreAnswered asks left c.enter-shared.new.seat.knows.seen (map numbered ns) done.after) (sym c.deref.ensures.value) done.answered in
    record {
      power = c.requires.power;
      named = c.requires.named;
      table = c.leave_admitted.ensures.table;
      first = first_gone g.T.Opened.opening c.pass.invariant c.enter-shared.ensures.kept.1 c.enter-shared.ensures.seen asks left answers done.after are c.admit_all-numbers.new.shared.trail (ap (λ z. z.trail) done.stands.sight_is) c.leave_admitted.new.seat c.leave_admitted.ensures.grown;
      hand = can_hand g.T.Opened.opening c.pass.invariant c.enter-shared.ensures.kept.1 c.enter-shared.ensures.seen asks left answers done.after are c.admit_all-numbers.new.shared.trail (ap (λ z. z.trail) done.stands.sight_is) c.leave_admitted.new.seat c.leave_admitted.ensures.grown;
      coming = record {
        most = c.requires.rooms.most;
        each = c.requires.rooms.each;
        count = c.requires.rooms.count;
        came =
            subst (λ (items : List Item). AllComing g.T.Opened.opening g.T.Opened.outset.told items c.requires.rooms.most asks answers)
            (sym (seen_gone g.T.Opened.opening c.pass.invariant c.enter-shared.ensures.kept.1 c.enter-shared.ensures.seen asks left answers done.after are c.admit_all-numbers.new.shared.trail (ap (λ z. z.trail) done.stands.sight_is) c.leave_admitted.new.seat c.leave_admitted.ensures.grown))
            (answered_coming g.T.Opened.opening g.T.Opened.outset.told c.requires.rooms.most asks left c.enter-shared.new.seat.knows.seen answers done.after (at_most (state_of c.enter-shared.result.state).sessions 240) c.requires.rooms.few c.requires.some are (legal_here g.D.Slot g.T.Opened.opening g.T.Opened.outset.told g.T.Opened.first _ _ _ done.stands));
      };
      none = c.requires.none.1;
      room = c.requires.room.1;
    }

pub invariant_of-pass : goal.invariant_of-pass
invariant_of-pass g c =
    let asks : List Ask = c.args.asks.now in
    let left : Left = left_in (state_of c.enter-shared.result.state) in
    let done : AdmittedAll g.D.Slot g.T.Opened.opening g.T.Opened.outset.told g.T.Opened.first asks c.enter-shared.new.seat.knows.seen (map numbered c.admit_all-numbers.result.items) c.enter-shared.result.state (record { trail = c.admit_all-numbers.new.shared.trail; counts = c.admit_all-numbers.new.shared.counts }) c.admit_all-numbers.new.shared.state =
    c.admit_all-numbers.ensures.admits c.enter-shared.new.seat.knows.seen c.enter-shared.ensures.stands.0 in
    let answers : List (Result (List ℕ) PoolErr) = map numbered c.deref.result.now in
    let are : AreAnswered asks left c.enter-shared.new.seat.knows.seen answers done.after =
    subst (λ ns. AreAnswered asks left c.enter-shared.new.seat.knows.seen (map numbered ns) done.after) (sym c.deref.ensures.value) done.answered in
    let free = c.spare-pass-inside.ensures in
    let sum = done.stands.spare in
    all_pass g.T.Opened.opening c.pass.invariant c.enter-shared.ensures.kept.1 c.enter-shared.ensures.seen asks left answers done.after are c.admit_all-numbers.new.shared.trail (ap (λ z. z.trail) done.stands.sight_is) c.leave_admitted.new.seat c.leave_admitted.ensures.grown
    c.part_all.new.seat c.part_all.ensures.knows c.spare-pass-inside.result (omega (arith, free, sum))

pub returns : goal.returns
returns g c =
    let asks : List Ask = c.args.asks.now in
    let left : Left = left_in (state_of c.enter-shared.result.state) in
    let sessions : Answers = map (answer_of (λ v. v.items) (λ s. s.seat)) c.part_all.result.items in
    let done : AdmittedAll g.D.Slot g.T.Opened.opening g.T.Opened.outset.told g.T.Opened.first asks c.enter-shared.new.seat.knows.seen (map numbered c.admit_all-numbers.result.items) c.enter-shared.result.state (record { trail = c.admit_all-numbers.new.shared.trail; counts = c.admit_all-numbers.new.shared.counts }) c.admit_all-numbers.new.shared.state =
    c.admit_all-numbers.ensures.admits c.enter-shared.new.seat.knows.seen c.enter-shared.ensures.stands.0 in
    let answers : List (Result (List ℕ) PoolErr) = map numbered c.deref.result.now in
    let are : AreAnswered asks left c.enter-shared.new.seat.knows.seen answers done.after =
    subst (λ ns. AreAnswered asks left c.enter-shared.new.seat.knows.seen (map numbered ns) done.after) (sym c.deref.ensures.value) done.answered in
    let come : AllComing g.T.Opened.opening g.T.Opened.outset.told c.leave_admitted.new.seat.knows.seen c.requires.rooms.most asks answers =
    subst (λ (items : List Item). AllComing g.T.Opened.opening g.T.Opened.outset.told items c.requires.rooms.most asks answers)
    (sym (seen_gone g.T.Opened.opening c.pass.invariant c.enter-shared.ensures.kept.1 c.enter-shared.ensures.seen asks left answers done.after are c.admit_all-numbers.new.shared.trail (ap (λ z. z.trail) done.stands.sight_is) c.leave_admitted.new.seat c.leave_admitted.ensures.grown))
    (answered_coming g.T.Opened.opening g.T.Opened.outset.told c.requires.rooms.most asks left c.enter-shared.new.seat.knows.seen answers done.after (at_most (state_of c.enter-shared.result.state).sessions 240) c.requires.rooms.few c.requires.some are (legal_here g.D.Slot g.T.Opened.opening g.T.Opened.outset.told g.T.Opened.first _ _ _ done.stands)) in
    let home : c.part_all.new.seat.table ≡ c.pass.inside.seat.table = c.part_all.ensures.table ∙ sym c.requires.table ∙ ap (λ (p : Spot Item). p.table) (sym c.pass.view_is) in
    record {
      admits =
          subst (λ (p : Spot Item). Admits g.T.Opened.opening g.T.Opened.outset.told asks p c.part_all.new.seat sessions) c.pass.view_is
          (admits g.T.Opened.opening c.pass.invariant c.enter-shared.ensures.kept.1 c.enter-shared.ensures.seen asks left answers done.after are c.admit_all-numbers.new.shared.trail (ap (λ z. z.trail) done.stands.sight_is) c.leave_admitted.new.seat c.leave_admitted.ensures.grown
          c.part_all.new.seat c.part_all.ensures.knows g.T.Opened.outset.told c.requires.rooms.most sessions
          (ap left_in (state_here g.D.Slot g.T.Opened.opening g.T.Opened.outset.told g.T.Opened.first c.enter-shared.new.seat.knows.seen (record { trail = c.enter-shared.result.trail; counts = c.enter-shared.result.counts }) c.enter-shared.result.state c.enter-shared.ensures.stands.0))
          come (subst (λ (lock : TableId). AreSeats lock c.leave_admitted.new.seat.knows.seen answers sessions) (sym c.part_all.ensures.table) c.part_all.ensures.seats) home);
      fresh = λ none.
          refused_by g.T.Opened.opening c.pass.invariant c.enter-shared.ensures.kept.1 c.enter-shared.ensures.seen asks left answers done.after are c.admit_all-numbers.new.shared.trail (ap (λ z. z.trail) done.stands.sight_is) c.leave_admitted.new.seat c.leave_admitted.ensures.grown
          c.part_all.new.seat c.part_all.ensures.knows c.args.turns.now sessions c.part_all.ensures.seats
          ∙ ap (refusals asks) (fresh_left c.enter-shared.ensures.stands.0 (subst (λ (v : Parts g.row.D.Denot). IsKept v) c.parts.ensures.parts c.parts.ensures.kept)
          (live_here g.T.Opened.opening c.pass.invariant c.enter-shared.ensures.kept.1 c.enter-shared.ensures.seen ∙ subst (λ (p : Spot Item). live_in p.knows.seen ≡ 0) (sym c.pass.view_is) none));
    }
