use Rattle.std.proofs.Common.{rules, ◌≡◌, ◌∙◌, ℕ, ◌-◌, List, ◌++◌, length, ap, sym, subst, arith, refl}
use Rattle.row_codec.specs.declared.values.Value.{Value}
use Rattle.store_api.specs.Emitters.{CameOf}
use Rattle.store_api.specs.Signs.{WasAnswered}
use Rattle.store_api.specs.declared.op_err.OpErr.TheVariants.{Pool}
use Rattle.store_api.proofs.Answered.{answered_before}
use Rattle.tuple_stream.specs.Streamed.{Streamed}
use Rattle.tuple_stream.specs.Touches.{IsFull}
use Rattle.partition_stack.specs.Slots.{IsWantOf, KeepSlots, with_more}
use Rattle.partition_stack.proofs.Emitters.{came_behind}
use Rattle.partition_stack.proofs.ReadFrames.{reads_own}
use Rattle.partition_stack.proofs.Results.{any_err}
use Rattle.partition_stack.proofs.Sides.{disjoint_back}
use Rattle.partition_stack.proofs.Slots.{keep_none}
use Rattle.reservation_tree.specs.declared.errors.PoolErr.TheVariants.{Memory}
use Rattle.join_op.proofs.Crowding.{own_below, own_want, some_more_of}
use Rattle.join_op.specs.Holding.{held_rows}
use Rattle.join_op.specs.Slots.{CameFull, Crowds, IsFullOf, slots_of_two}
use Rattle.join_op.proofs.BothFrames.{beside_now, left_readable, other_place, right_readable, stay_left, stay_none, stay_right, still_right}
use Rattle.join_op.proofs.ChunkRounds.{met_all, met_more, met_none, met_part, met_some}
use Rattle.join_op.proofs.Handed.{handed_err, some_none, some_on}
use Rattle.join_op.proofs.LeafSlots.{two_handed, two_read}
use Rattle.join_op.proofs.HeldSame.{held_itself, held_then, may_still}
use Rattle.join_op.proofs.PinsRows.{begun_all, begun_more, begun_none}
use Rattle.join_op.proofs.meeting.join_held.Goals as goal

pub rounds-init : goal.rounds-init
rounds-init g c =
    record {
      held = held_itself c.args.held.now;
      stays = stay_none c.args.c.now c.args.reads.now c.args.builds.now (g.St.Store.holds c.args.store.now) (g.St.Store.signs c.args.store.now) (g.E.Emit.admits c.args.emit.now) (g.E.Emit.client c.args.emit.now) (g.E.Emit.faults c.args.emit.now) (g.E.Emit.took c.args.emit.now (g.St.Store.holds c.args.store.now)) c.requires.streams c.requires.emits.emitter.lives;
      slots = keep_none _ _ _;
      most = λ rows. refl;
      begun = λ rests. begun_none c.args.builds.now c.first-place.result (g.St.Store.signs c.args.store.now) c.first-place.ensures;
      met = met_none c.args.turned c.args.shape.now c.args.c.now.tracker c.args.reads.now c.args.builds.now (g.St.Store.holds c.args.store.now) (g.St.Store.signs c.args.store.now) (g.E.Emit.took c.args.emit.now (g.St.Store.holds c.args.store.now)) c.first-place.result c.rows-waiting.result c.first-place.ensures c.rows-waiting.ensures c.requires.streams.right_shape;
    }

pub returns-in_default-clause-hands : goal.returns-in_default-clause-hands
returns-in_default-clause-hands g c =
    let none = stay_none {m = g.E.Emit.creates c.args.emit.now} c.args.c.now c.args.reads.now c.args.builds.now (g.St.Store.holds c.args.store.now) (g.St.Store.signs c.args.store.now) (g.E.Emit.admits c.args.emit.now) (g.E.Emit.client c.args.emit.now) (g.E.Emit.faults c.args.emit.now) (g.E.Emit.took c.args.emit.now (g.St.Store.holds c.args.store.now)) c.requires.streams c.requires.emits.emitter.lives in
    record {
      ok = search rules;
      err = λ lefts rights told one two. some_none _ _;
      stands = none.went;
      cause = search rules;
      want = search rules;
      crowded = λ lefts rights told one two.
          some_on (g.E.Emit.took c.args.emit.now (g.St.Store.holds c.args.store.now)) (g.E.Emit.took c.args.emit.now (g.St.Store.holds c.args.store.now))
          (Crowds (g.E.Emit.slots_for c.args.emit.now) c.args.reads.now.page_blocks (with_more (g.E.Emit.slots c.args.emit.now (g.St.Store.holds c.args.store.now)) (g.St.Store.holds c.args.store.now).free_slots) (Pool Memory)) _ (λ rows took. tt) (some_none _ _);
      most = search rules;
      slots = keep_none _ _ _;
      emitter = none.emitter;
    }

pub returns-in_err-hold_next-clause-hands : goal.returns-in_err-hold_next-clause-hands
returns-in_err-hold_next-clause-hands g c =
    let stays = c.rounds.invariant.stays in
    let still : (rows : List (List Value)) → g.E.Emit.took c.rounds.emit (g.St.Store.holds c.rounds.store) rows → g.E.Emit.took c.rounds.emit (g.St.Store.holds c.hold_next.new.store) rows =
    still_right _ _ _ _ _ _ _ _ _ _ _ _ _ _ _ _ _ c.requires.streams.client c.requires.emits.emitter.apart stays c.hold_next.new.builds (g.St.Store.holds c.hold_next.new.store) (g.St.Store.signs c.hold_next.new.store) (g.E.Emit.took c.rounds.emit (g.St.Store.holds c.hold_next.new.store)) c.hold_next.ensures.went (λ rows own. g.met.E.Emit.asks_own c.rounds.emit (g.St.Store.holds c.rounds.store) (g.St.Store.holds c.hold_next.new.store) rows own) in
    let read = stay_right _ _ _ _ _ _ _ _ _ _ _ _ _ _ _ _ _ c.requires.streams.client c.requires.emits.emitter.apart stays c.hold_next.new.builds (g.St.Store.holds c.hold_next.new.store) (g.St.Store.signs c.hold_next.new.store) (g.E.Emit.took c.rounds.emit (g.St.Store.holds c.hold_next.new.store)) c.hold_next.ensures.went c.hold_next.ensures.same still in
    let came : WasAnswered c.in_err-hold_next.field-0.0 (g.St.Store.signs c.args.store.now) (g.St.Store.signs c.hold_next.new.store) = answered_before _ _ _ _ stays.emitter.grows c.in_err-hold_next.ensures.cause in
    let free = (g.St.Store.holds c.hold_next.new.store).free_slots in
    let full : IsFull c.args.reads.now.page_blocks free c.in_err-hold_next.field-0.0 =
    subst (λ (n : ℕ). IsFull n free c.in_err-hold_next.field-0.0) (ap (λ (s : Streamed). s.page_blocks) stays.both.right_same ∙ c.requires.streams.alike) c.in_err-hold_next.ensures.full in
    let both : CameFull c.args.reads.now.page_blocks free (g.E.Emit.client c.args.emit.now) (g.E.Emit.faults c.args.emit.now) (g.E.Emit.faults c.rounds.emit) (g.St.Store.signs c.args.store.now) (g.St.Store.signs c.hold_next.new.store) (Pool c.in_err-hold_next.field-0.0) =
    record { came = came; full = λ none. full } in
    let same : g.E.Emit.slots c.rounds.emit (g.St.Store.holds c.hold_next.new.store) ≡ g.E.Emit.slots c.rounds.emit (g.St.Store.holds c.rounds.store) =
    g.met.E.Emit.slots_own c.rounds.emit (g.St.Store.holds c.rounds.store) (g.St.Store.holds c.hold_next.new.store)
    (reads_own c.args.c.now.tracker c.rounds.builds c.hold_next.new.builds (g.St.Store.holds c.rounds.store) (g.St.Store.holds c.hold_next.new.store) (g.St.Store.signs c.rounds.store) (g.St.Store.signs c.hold_next.new.store) stays.readable.right_shape c.hold_next.ensures.went (g.E.Emit.client c.rounds.emit) (λ is. c.requires.emits.emitter.apart (sym stays.emitter.client_same ∙ is))) in
    let slots_read : KeepSlots (g.E.Emit.client c.args.emit.now) (slots_of_two c.args.reads.now c.args.builds.now (g.St.Store.holds c.args.store.now)) (slots_of_two c.rounds.reads c.hold_next.new.builds (g.St.Store.holds c.hold_next.new.store)) (g.E.Emit.slots c.args.emit.now (g.St.Store.holds c.args.store.now)) (g.E.Emit.slots c.rounds.emit (g.St.Store.holds c.hold_next.new.store)) =
    two_read c.args.c.now.tracker (g.E.Emit.client c.args.emit.now) _ _ c.args.reads.now c.rounds.reads c.args.builds.now c.rounds.builds (g.St.Store.holds c.args.store.now) (g.St.Store.holds c.rounds.store) c.rounds.invariant.slots c.hold_next.new.builds (g.St.Store.holds c.hold_next.new.store) _ stays.readable.left_shape (disjoint_back c.rounds.reads c.rounds.builds stays.readable.apart) c.hold_next.ensures.went.step.touches same in
    let now : List (List Value) → Type 0 = Crowds (g.E.Emit.slots_for c.args.emit.now) c.args.reads.now.page_blocks (with_more (g.E.Emit.slots c.rounds.emit (g.St.Store.holds c.hold_next.new.store)) (g.St.Store.holds c.hold_next.new.store).free_slots) (Pool c.in_err-hold_next.field-0.0) in
    let below : (rows : List (List Value)) → g.E.Emit.took c.rounds.emit (g.St.Store.holds c.rounds.store) rows → now rows = λ rows took.
    own_below c.args.reads.now.page_blocks (g.E.Emit.slots c.rounds.emit (g.St.Store.holds c.hold_next.new.store)) (g.E.Emit.slots_for c.args.emit.now rows) free c.in_err-hold_next.field-0.0
    (let fit = g.met.E.Emit.slots_fit c.rounds.emit (g.St.Store.holds c.hold_next.new.store) rows (still rows took) in let same = c.rounds.invariant.most rows in omega (arith, fit, same)) full in
    record {
      ok = search rules;
      err = any_err c.from_residual.result (met_some c.args.turned c.args.shape.now c.args.reads.now c.args.builds.now c.rounds.builds (g.St.Store.holds c.args.store.now) (g.St.Store.holds c.rounds.store) (g.E.Emit.took c.args.emit.now (g.St.Store.holds c.args.store.now)) (g.E.Emit.took c.rounds.emit (g.St.Store.holds c.rounds.store)) c.rounds.place c.rounds.waiting c.rounds.invariant.met (g.E.Emit.took c.rounds.emit (g.St.Store.holds c.hold_next.new.store)) still);
      stands = read.went;
      cause = search (rules, both);
      want = λ same.
          let stays = c.rounds.invariant.stays in
          let still : (rows : List (List Value)) → g.E.Emit.took c.rounds.emit (g.St.Store.holds c.rounds.store) rows → g.E.Emit.took c.rounds.emit (g.St.Store.holds c.hold_next.new.store) rows =
          still_right _ _ _ _ _ _ _ _ _ _ _ _ _ _ _ _ _ c.requires.streams.client c.requires.emits.emitter.apart stays c.hold_next.new.builds (g.St.Store.holds c.hold_next.new.store) (g.St.Store.signs c.hold_next.new.store) (g.E.Emit.took c.rounds.emit (g.St.Store.holds c.hold_next.new.store)) c.hold_next.ensures.went (λ rows own. g.met.E.Emit.asks_own c.rounds.emit (g.St.Store.holds c.rounds.store) (g.St.Store.holds c.hold_next.new.store) rows own) in
          let free = (g.St.Store.holds c.hold_next.new.store).free_slots in
          let full : IsFull c.args.reads.now.page_blocks free c.in_err-hold_next.field-0.0 =
          subst (λ (n : ℕ). IsFull n free c.in_err-hold_next.field-0.0) (ap (λ (s : Streamed). s.page_blocks) stays.both.right_same ∙ c.requires.streams.alike) c.in_err-hold_next.ensures.full in
          let more = stays.went c.requires.emits.stands.0 c.requires.emits.stands.1 in
          let whole = g.met.E.Emit.slots_whole c.rounds.emit (g.St.Store.holds c.hold_next.new.store) (c.requires.emits.stands.0 ++ more.0) (still (c.requires.emits.stands.0 ++ more.0) more.1) in
          handed_err _ c.from_residual.result (Pool c.in_err-hold_next.field-0.0) c.from_residual.ensures (own_want c.args.reads.now.page_blocks g.E.Emit.page_blocks (g.E.Emit.slots c.rounds.emit (g.St.Store.holds c.hold_next.new.store)) whole.0 free c.in_err-hold_next.field-0.0 same whole.1 full);
      crowded = handed_err _ c.from_residual.result (Pool c.in_err-hold_next.field-0.0) c.from_residual.ensures
          (met_some c.args.turned c.args.shape.now c.args.reads.now c.args.builds.now c.rounds.builds (g.St.Store.holds c.args.store.now) (g.St.Store.holds c.rounds.store) (g.E.Emit.took c.args.emit.now (g.St.Store.holds c.args.store.now)) (g.E.Emit.took c.rounds.emit (g.St.Store.holds c.rounds.store)) c.rounds.place c.rounds.waiting c.rounds.invariant.met now below);
      most = search rules;
      slots = slots_read;
      emitter = read.emitter;
    }

pub returns-in_err-join_chunk-clause-hands : goal.returns-in_err-join_chunk-clause-hands
returns-in_err-join_chunk-clause-hands g c =
    let stays = c.rounds.invariant.stays in
    let still : (rows : List (List Value)) → g.E.Emit.took c.rounds.emit (g.St.Store.holds c.rounds.store) rows → g.E.Emit.took c.rounds.emit (g.St.Store.holds c.hold_next.new.store) rows =
    still_right _ _ _ _ _ _ _ _ _ _ _ _ _ _ _ _ _ c.requires.streams.client c.requires.emits.emitter.apart stays c.hold_next.new.builds (g.St.Store.holds c.hold_next.new.store) (g.St.Store.signs c.hold_next.new.store) (g.E.Emit.took c.rounds.emit (g.St.Store.holds c.hold_next.new.store)) c.hold_next.ensures.went (λ rows own. g.met.E.Emit.asks_own c.rounds.emit (g.St.Store.holds c.rounds.store) (g.St.Store.holds c.hold_next.new.store) rows own) in
    let read = stay_right _ _ _ _ _ _ _ _ _ _ _ _ _ _ _ _ _ c.requires.streams.client c.requires.emits.emitter.apart stays c.hold_next.new.builds (g.St.Store.holds c.hold_next.new.store) (g.St.Store.signs c.hold_next.new.store) (g.E.Emit.took c.rounds.emit (g.St.Store.holds c.hold_next.new.store)) c.hold_next.ensures.went c.hold_next.ensures.same still in
    let all = stay_left _ _ _ _ _ _ _ _ _ _ _ _ _ _ _ _ _ c.requires.streams.client c.requires.emits.emitter.apart read c.join_chunk.new.reads (g.St.Store.holds c.join_chunk.new.store) (g.St.Store.signs c.join_chunk.new.store) (g.E.Emit.admits c.join_chunk.new.emit) (g.E.Emit.client c.join_chunk.new.emit) (g.E.Emit.faults c.join_chunk.new.emit) (g.E.Emit.took c.join_chunk.new.emit (g.St.Store.holds c.join_chunk.new.store)) c.join_chunk.ensures.stream c.join_chunk.ensures.hands.emitter c.join_chunk.ensures.hands.stands in
    let handed = c.in_err-join_chunk.ensures.hands.err in
    let came : CameOf (g.E.Emit.faults c.args.emit.now) (g.E.Emit.faults c.join_chunk.new.emit) (g.St.Store.signs c.args.store.now) (g.St.Store.signs c.join_chunk.new.store) c.in_err-join_chunk.field-0.0 =
    came_behind _ _ _ _ _ _ _ read.emitter.never_falls read.emitter.grows c.in_err-join_chunk.ensures.hands.cause.came in
    let free = (g.St.Store.holds c.join_chunk.new.store).free_slots in
    let both : CameFull c.args.reads.now.page_blocks free (g.E.Emit.client c.args.emit.now) (g.E.Emit.faults c.args.emit.now) (g.E.Emit.faults c.join_chunk.new.emit) (g.St.Store.signs c.args.store.now) (g.St.Store.signs c.join_chunk.new.store) c.in_err-join_chunk.field-0.0 =
    record { came = came; full = λ none. subst (λ (n : ℕ). IsFullOf n free c.in_err-join_chunk.field-0.0) (ap (λ (s : Streamed). s.page_blocks) stays.both.left_same) (c.in_err-join_chunk.ensures.hands.cause.full (stays.emitter.client_same ∙ none)) } in
    let same : g.E.Emit.slots c.rounds.emit (g.St.Store.holds c.hold_next.new.store) ≡ g.E.Emit.slots c.rounds.emit (g.St.Store.holds c.rounds.store) =
    g.met.E.Emit.slots_own c.rounds.emit (g.St.Store.holds c.rounds.store) (g.St.Store.holds c.hold_next.new.store)
    (reads_own c.args.c.now.tracker c.rounds.builds c.hold_next.new.builds (g.St.Store.holds c.rounds.store) (g.St.Store.holds c.hold_next.new.store) (g.St.Store.signs c.rounds.store) (g.St.Store.signs c.hold_next.new.store) stays.readable.right_shape c.hold_next.ensures.went (g.E.Emit.client c.rounds.emit) (λ is. c.requires.emits.emitter.apart (sym stays.emitter.client_same ∙ is))) in
    let slots_read : KeepSlots (g.E.Emit.client c.args.emit.now) (slots_of_two c.args.reads.now c.args.builds.now (g.St.Store.holds c.args.store.now)) (slots_of_two c.rounds.reads c.hold_next.new.builds (g.St.Store.holds c.hold_next.new.store)) (g.E.Emit.slots c.args.emit.now (g.St.Store.holds c.args.store.now)) (g.E.Emit.slots c.rounds.emit (g.St.Store.holds c.hold_next.new.store)) =
    two_read c.args.c.now.tracker (g.E.Emit.client c.args.emit.now) _ _ c.args.reads.now c.rounds.reads c.args.builds.now c.rounds.builds (g.St.Store.holds c.args.store.now) (g.St.Store.holds c.rounds.store) c.rounds.invariant.slots c.hold_next.new.builds (g.St.Store.holds c.hold_next.new.store) _ stays.readable.left_shape (disjoint_back c.rounds.reads c.rounds.builds stays.readable.apart) c.hold_next.ensures.went.step.touches same in
    let blocks : c.rounds.reads.page_blocks ≡ c.args.reads.now.page_blocks = ap (λ (s : Streamed). s.page_blocks) c.rounds.invariant.stays.both.left_same in
    let now : List (List Value) → Type 0 = Crowds (g.E.Emit.slots_for c.args.emit.now) c.args.reads.now.page_blocks (with_more (g.E.Emit.slots c.join_chunk.new.emit (g.St.Store.holds c.join_chunk.new.store)) (g.St.Store.holds c.join_chunk.new.store).free_slots) c.in_err-join_chunk.field-0.0 in
    record {
      ok = search rules;
      err = any_err c.from_residual-in_err-join_chunk.result (met_part c.args.turned c.args.shape.now c.args.reads.now c.args.builds.now c.rounds.builds (g.St.Store.holds c.args.store.now) (g.St.Store.holds c.rounds.store) (g.E.Emit.took c.args.emit.now (g.St.Store.holds c.args.store.now)) (g.E.Emit.took c.rounds.emit (g.St.Store.holds c.rounds.store)) c.rounds.place c.rounds.waiting c.rounds.invariant.met c.hold_next.new.builds (g.St.Store.holds c.hold_next.new.store) (g.St.Store.signs c.rounds.store) (g.St.Store.signs c.hold_next.new.store) c.hold_next.new.place (held_rows c.hold_next.new.held) stays.both.query.told stays.both.right_rows
          c.in_ok-hold_next.ensures.reads (g.E.Emit.took c.rounds.emit (g.St.Store.holds c.hold_next.new.store)) still read.both.query.told c.rounds.reads read.both.left_rows (g.E.Emit.took c.join_chunk.new.emit (g.St.Store.holds c.join_chunk.new.store)) handed);
      stands = all.went;
      cause = search (rules, both);
      want = λ same.
          let blocks : c.rounds.reads.page_blocks ≡ c.args.reads.now.page_blocks = ap (λ (s : Streamed). s.page_blocks) c.rounds.invariant.stays.both.left_same in
          handed_err _ c.from_residual-in_err-join_chunk.result c.in_err-join_chunk.field-0.0 c.from_residual-in_err-join_chunk.ensures (subst (λ (n : ℕ). IsWantOf n (with_more (g.E.Emit.slots c.join_chunk.new.emit (g.St.Store.holds c.join_chunk.new.store)) (g.St.Store.holds c.join_chunk.new.store).free_slots) c.in_err-join_chunk.field-0.0) blocks (c.in_err-join_chunk.ensures.hands.want (same ∙ sym blocks)));
      crowded = handed_err _ c.from_residual-in_err-join_chunk.result c.in_err-join_chunk.field-0.0 c.from_residual-in_err-join_chunk.ensures
          (met_part c.args.turned c.args.shape.now c.args.reads.now c.args.builds.now c.rounds.builds (g.St.Store.holds c.args.store.now) (g.St.Store.holds c.rounds.store) (g.E.Emit.took c.args.emit.now (g.St.Store.holds c.args.store.now)) (g.E.Emit.took c.rounds.emit (g.St.Store.holds c.rounds.store)) c.rounds.place c.rounds.waiting c.rounds.invariant.met c.hold_next.new.builds (g.St.Store.holds c.hold_next.new.store) (g.St.Store.signs c.rounds.store) (g.St.Store.signs c.hold_next.new.store) c.hold_next.new.place (held_rows c.hold_next.new.held) stays.both.query.told stays.both.right_rows
          c.in_ok-hold_next.ensures.reads (g.E.Emit.took c.rounds.emit (g.St.Store.holds c.hold_next.new.store)) still read.both.query.told c.rounds.reads read.both.left_rows now
          (λ lefts told has. some_more_of _ _ (g.E.Emit.slots_for c.args.emit.now) (g.E.Emit.slots_for c.rounds.emit) c.rounds.reads.page_blocks c.args.reads.now.page_blocks (with_more (g.E.Emit.slots c.join_chunk.new.emit (g.St.Store.holds c.join_chunk.new.store)) (g.St.Store.holds c.join_chunk.new.store).free_slots) (with_more (g.E.Emit.slots c.join_chunk.new.emit (g.St.Store.holds c.join_chunk.new.store)) (g.St.Store.holds c.join_chunk.new.store).free_slots) c.in_err-join_chunk.field-0.0 c.rounds.invariant.most (omega (arith, blocks)) refl (c.in_err-join_chunk.ensures.hands.crowded lefts told has)));
      most = λ rows. c.join_chunk.ensures.hands.most rows ∙ c.rounds.invariant.most rows;
      slots = two_handed c.args.c.now.tracker (g.E.Emit.client c.args.emit.now) _ _ c.args.reads.now c.rounds.reads c.args.builds.now c.hold_next.new.builds (g.St.Store.holds c.args.store.now) (g.St.Store.holds c.hold_next.new.store) slots_read (g.E.Emit.client c.rounds.emit) (g.E.Emit.client c.rounds.emit) c.join_chunk.new.reads (g.St.Store.holds c.join_chunk.new.store) _ stays.emitter.client_same read.readable.right_shape read.readable.apart c.join_chunk.ensures.stream.beside c.join_chunk.ensures.hands.slots;
      emitter = all.emitter;
    }

pub returns-clause-hands : goal.returns-clause-hands
returns-clause-hands g c =
    record {
      ok = λ lefts rights told one two. met_all c.args.turned c.args.shape.now c.args.reads.now c.args.builds.now c.rounds.builds (g.St.Store.holds c.args.store.now) (g.St.Store.holds c.rounds.store) (g.E.Emit.took c.args.emit.now (g.St.Store.holds c.args.store.now)) (g.E.Emit.took c.rounds.emit (g.St.Store.holds c.rounds.store)) c.rounds.place c.rounds.waiting c.rounds.invariant.met (let end = c.rounds-test.false in omega (arith, end)) (ap (λ (s : Streamed). s.count) c.rounds.invariant.stays.both.right_same) lefts rights told one two;
      err = search rules;
      stands = c.rounds.invariant.stays.went;
      cause = search rules;
      want = search rules;
      crowded = search rules;
      most = search rules;
      slots = c.rounds.invariant.slots;
      emitter = c.rounds.invariant.stays.emitter;
    }

pub returns-in_default-clause-streams : goal.returns-in_default-clause-streams
returns-in_default-clause-streams g c =
    let none = stay_none {m = g.E.Emit.creates c.args.emit.now} c.args.c.now c.args.reads.now c.args.builds.now (g.St.Store.holds c.args.store.now) (g.St.Store.signs c.args.store.now) (g.E.Emit.admits c.args.emit.now) (g.E.Emit.client c.args.emit.now) (g.E.Emit.faults c.args.emit.now) (g.E.Emit.took c.args.emit.now (g.St.Store.holds c.args.store.now)) c.requires.streams c.requires.emits.emitter.lives in
    none.both

pub returns-in_err-hold_next-clause-streams : goal.returns-in_err-hold_next-clause-streams
returns-in_err-hold_next-clause-streams g c =
    let stays = c.rounds.invariant.stays in
    let still : (rows : List (List Value)) → g.E.Emit.took c.rounds.emit (g.St.Store.holds c.rounds.store) rows → g.E.Emit.took c.rounds.emit (g.St.Store.holds c.hold_next.new.store) rows =
    still_right _ _ _ _ _ _ _ _ _ _ _ _ _ _ _ _ _ c.requires.streams.client c.requires.emits.emitter.apart stays c.hold_next.new.builds (g.St.Store.holds c.hold_next.new.store) (g.St.Store.signs c.hold_next.new.store) (g.E.Emit.took c.rounds.emit (g.St.Store.holds c.hold_next.new.store)) c.hold_next.ensures.went (λ rows own. g.met.E.Emit.asks_own c.rounds.emit (g.St.Store.holds c.rounds.store) (g.St.Store.holds c.hold_next.new.store) rows own) in
    let read = stay_right _ _ _ _ _ _ _ _ _ _ _ _ _ _ _ _ _ c.requires.streams.client c.requires.emits.emitter.apart stays c.hold_next.new.builds (g.St.Store.holds c.hold_next.new.store) (g.St.Store.signs c.hold_next.new.store) (g.E.Emit.took c.rounds.emit (g.St.Store.holds c.hold_next.new.store)) c.hold_next.ensures.went c.hold_next.ensures.same still in
    read.both

pub returns-in_err-join_chunk-clause-streams : goal.returns-in_err-join_chunk-clause-streams
returns-in_err-join_chunk-clause-streams g c =
    let stays = c.rounds.invariant.stays in
    let still : (rows : List (List Value)) → g.E.Emit.took c.rounds.emit (g.St.Store.holds c.rounds.store) rows → g.E.Emit.took c.rounds.emit (g.St.Store.holds c.hold_next.new.store) rows =
    still_right _ _ _ _ _ _ _ _ _ _ _ _ _ _ _ _ _ c.requires.streams.client c.requires.emits.emitter.apart stays c.hold_next.new.builds (g.St.Store.holds c.hold_next.new.store) (g.St.Store.signs c.hold_next.new.store) (g.E.Emit.took c.rounds.emit (g.St.Store.holds c.hold_next.new.store)) c.hold_next.ensures.went (λ rows own. g.met.E.Emit.asks_own c.rounds.emit (g.St.Store.holds c.rounds.store) (g.St.Store.holds c.hold_next.new.store) rows own) in
    let read = stay_right _ _ _ _ _ _ _ _ _ _ _ _ _ _ _ _ _ c.requires.streams.client c.requires.emits.emitter.apart stays c.hold_next.new.builds (g.St.Store.holds c.hold_next.new.store) (g.St.Store.signs c.hold_next.new.store) (g.E.Emit.took c.rounds.emit (g.St.Store.holds c.hold_next.new.store)) c.hold_next.ensures.went c.hold_next.ensures.same still in
    let all = stay_left _ _ _ _ _ _ _ _ _ _ _ _ _ _ _ _ _ c.requires.streams.client c.requires.emits.emitter.apart read c.join_chunk.new.reads (g.St.Store.holds c.join_chunk.new.store) (g.St.Store.signs c.join_chunk.new.store) (g.E.Emit.admits c.join_chunk.new.emit) (g.E.Emit.client c.join_chunk.new.emit) (g.E.Emit.faults c.join_chunk.new.emit) (g.E.Emit.took c.join_chunk.new.emit (g.St.Store.holds c.join_chunk.new.store)) c.join_chunk.ensures.stream c.join_chunk.ensures.hands.emitter c.join_chunk.ensures.hands.stands in
    all.both

pub returns-clause-streams : goal.returns-clause-streams
returns-clause-streams g c =
    c.rounds.invariant.stays.both

pub hold_next-requires-clause-stream : goal.hold_next-requires-clause-stream
hold_next-requires-clause-stream g c =
    right_readable _ _ _ _ c.rounds.invariant.stays.readable

pub join_chunk-requires-clause-stream : goal.join_chunk-requires-clause-stream
join_chunk-requires-clause-stream g c =
    let stays = c.rounds.invariant.stays in
    let still : (rows : List (List Value)) → g.E.Emit.took c.rounds.emit (g.St.Store.holds c.rounds.store) rows → g.E.Emit.took c.rounds.emit (g.St.Store.holds c.hold_next.new.store) rows =
    still_right _ _ _ _ _ _ _ _ _ _ _ _ _ _ _ _ _ c.requires.streams.client c.requires.emits.emitter.apart stays c.hold_next.new.builds (g.St.Store.holds c.hold_next.new.store) (g.St.Store.signs c.hold_next.new.store) (g.E.Emit.took c.rounds.emit (g.St.Store.holds c.hold_next.new.store)) c.hold_next.ensures.went (λ rows own. g.met.E.Emit.asks_own c.rounds.emit (g.St.Store.holds c.rounds.store) (g.St.Store.holds c.hold_next.new.store) rows own) in
    let read = stay_right _ _ _ _ _ _ _ _ _ _ _ _ _ _ _ _ _ c.requires.streams.client c.requires.emits.emitter.apart stays c.hold_next.new.builds (g.St.Store.holds c.hold_next.new.store) (g.St.Store.signs c.hold_next.new.store) (g.E.Emit.took c.rounds.emit (g.St.Store.holds c.hold_next.new.store)) c.hold_next.ensures.went c.hold_next.ensures.same still in
    left_readable _ _ _ _ read.readable

pub join_chunk-requires-clause-emits : goal.join_chunk-requires-clause-emits
join_chunk-requires-clause-emits g c =
    let stays = c.rounds.invariant.stays in
    let still : (rows : List (List Value)) → g.E.Emit.took c.rounds.emit (g.St.Store.holds c.rounds.store) rows → g.E.Emit.took c.rounds.emit (g.St.Store.holds c.hold_next.new.store) rows =
    still_right _ _ _ _ _ _ _ _ _ _ _ _ _ _ _ _ _ c.requires.streams.client c.requires.emits.emitter.apart stays c.hold_next.new.builds (g.St.Store.holds c.hold_next.new.store) (g.St.Store.signs c.hold_next.new.store) (g.E.Emit.took c.rounds.emit (g.St.Store.holds c.hold_next.new.store)) c.hold_next.ensures.went (λ rows own. g.met.E.Emit.asks_own c.rounds.emit (g.St.Store.holds c.rounds.store) (g.St.Store.holds c.hold_next.new.store) rows own) in
    let read = stay_right _ _ _ _ _ _ _ _ _ _ _ _ _ _ _ _ _ c.requires.streams.client c.requires.emits.emitter.apart stays c.hold_next.new.builds (g.St.Store.holds c.hold_next.new.store) (g.St.Store.signs c.hold_next.new.store) (g.E.Emit.took c.rounds.emit (g.St.Store.holds c.hold_next.new.store)) c.hold_next.ensures.went c.hold_next.ensures.same still in
    let more = read.went c.requires.emits.stands.0 c.requires.emits.stands.1 in
    record {
      emitter = beside_now _ _ _ _ _ _ _ _ _ _ _ _ _ _ _ _ _ c.requires.streams.client c.requires.emits.emitter.apart read;
      stands = (c.requires.emits.stands.0 ++ more.0, more.1);
      admits = λ one two is kinds are others. (c.rounds.invariant.stays.emitter.admits_same (one ++ two)).0 (c.requires.emits.admits one two is kinds are others);
    }

pub rounds-preserved : goal.rounds-preserved
rounds-preserved g c =
    let stays = c.rounds.invariant.stays in
    let still : (rows : List (List Value)) → g.E.Emit.took c.rounds.emit (g.St.Store.holds c.rounds.store) rows → g.E.Emit.took c.rounds.emit (g.St.Store.holds c.hold_next.new.store) rows =
    still_right _ _ _ _ _ _ _ _ _ _ _ _ _ _ _ _ _ c.requires.streams.client c.requires.emits.emitter.apart stays c.hold_next.new.builds (g.St.Store.holds c.hold_next.new.store) (g.St.Store.signs c.hold_next.new.store) (g.E.Emit.took c.rounds.emit (g.St.Store.holds c.hold_next.new.store)) c.hold_next.ensures.went (λ rows own. g.met.E.Emit.asks_own c.rounds.emit (g.St.Store.holds c.rounds.store) (g.St.Store.holds c.hold_next.new.store) rows own) in
    let read = stay_right _ _ _ _ _ _ _ _ _ _ _ _ _ _ _ _ _ c.requires.streams.client c.requires.emits.emitter.apart stays c.hold_next.new.builds (g.St.Store.holds c.hold_next.new.store) (g.St.Store.signs c.hold_next.new.store) (g.E.Emit.took c.rounds.emit (g.St.Store.holds c.hold_next.new.store)) c.hold_next.ensures.went c.hold_next.ensures.same still in
    let all = stay_left _ _ _ _ _ _ _ _ _ _ _ _ _ _ _ _ _ c.requires.streams.client c.requires.emits.emitter.apart read c.join_chunk.new.reads (g.St.Store.holds c.join_chunk.new.store) (g.St.Store.signs c.join_chunk.new.store) (g.E.Emit.admits c.join_chunk.new.emit) (g.E.Emit.client c.join_chunk.new.emit) (g.E.Emit.faults c.join_chunk.new.emit) (g.E.Emit.took c.join_chunk.new.emit (g.St.Store.holds c.join_chunk.new.store)) c.join_chunk.ensures.stream c.join_chunk.ensures.hands.emitter c.join_chunk.ensures.hands.stands in
    let handed = c.in_ok-join_chunk.ensures.hands.ok in
    let fewer : c.saturating_sub-waiting.result ≡ c.rounds.waiting - length (held_rows c.hold_next.new.held) = search rules in
    let same : g.E.Emit.slots c.rounds.emit (g.St.Store.holds c.hold_next.new.store) ≡ g.E.Emit.slots c.rounds.emit (g.St.Store.holds c.rounds.store) =
    g.met.E.Emit.slots_own c.rounds.emit (g.St.Store.holds c.rounds.store) (g.St.Store.holds c.hold_next.new.store)
    (reads_own c.args.c.now.tracker c.rounds.builds c.hold_next.new.builds (g.St.Store.holds c.rounds.store) (g.St.Store.holds c.hold_next.new.store) (g.St.Store.signs c.rounds.store) (g.St.Store.signs c.hold_next.new.store) stays.readable.right_shape c.hold_next.ensures.went (g.E.Emit.client c.rounds.emit) (λ is. c.requires.emits.emitter.apart (sym stays.emitter.client_same ∙ is))) in
    let slots_read : KeepSlots (g.E.Emit.client c.args.emit.now) (slots_of_two c.args.reads.now c.args.builds.now (g.St.Store.holds c.args.store.now)) (slots_of_two c.rounds.reads c.hold_next.new.builds (g.St.Store.holds c.hold_next.new.store)) (g.E.Emit.slots c.args.emit.now (g.St.Store.holds c.args.store.now)) (g.E.Emit.slots c.rounds.emit (g.St.Store.holds c.hold_next.new.store)) =
    two_read c.args.c.now.tracker (g.E.Emit.client c.args.emit.now) _ _ c.args.reads.now c.rounds.reads c.args.builds.now c.rounds.builds (g.St.Store.holds c.args.store.now) (g.St.Store.holds c.rounds.store) c.rounds.invariant.slots c.hold_next.new.builds (g.St.Store.holds c.hold_next.new.store) _ stays.readable.left_shape (disjoint_back c.rounds.reads c.rounds.builds stays.readable.apart) c.hold_next.ensures.went.step.touches same in
    record {
      most = λ rows. c.join_chunk.ensures.hands.most rows ∙ c.rounds.invariant.most rows;
      begun = λ rests.
          begun_more c.args.c.now.tracker c.args.builds.now c.rounds.builds c.hold_next.new.builds (g.St.Store.holds c.rounds.store) (g.St.Store.holds c.hold_next.new.store) (g.St.Store.signs c.args.store.now) (g.St.Store.signs c.rounds.store) (g.St.Store.signs c.hold_next.new.store) (g.St.Store.signs c.join_chunk.new.store)
          c.rounds.place c.hold_next.new.place (held_rows c.hold_next.new.held) rests (c.rounds.invariant.begun rests) c.hold_next.ensures.went c.hold_next.ensures.same c.in_ok-hold_next.ensures.reads c.in_ok-hold_next.ensures.last c.join_chunk.ensures.hands.emitter.grows;
      held = held_then _ _ _ c.rounds.invariant.held c.hold_next.ensures.held;
      stays = all;
      slots = two_handed c.args.c.now.tracker (g.E.Emit.client c.args.emit.now) _ _ c.args.reads.now c.rounds.reads c.args.builds.now c.hold_next.new.builds (g.St.Store.holds c.args.store.now) (g.St.Store.holds c.hold_next.new.store) slots_read (g.E.Emit.client c.rounds.emit) (g.E.Emit.client c.rounds.emit) c.join_chunk.new.reads (g.St.Store.holds c.join_chunk.new.store) _ stays.emitter.client_same read.readable.right_shape read.readable.apart c.join_chunk.ensures.stream.beside c.join_chunk.ensures.hands.slots;
      met = met_more c.args.turned c.args.shape.now c.args.reads.now c.args.builds.now c.rounds.builds (g.St.Store.holds c.args.store.now) (g.St.Store.holds c.rounds.store) (g.E.Emit.took c.args.emit.now (g.St.Store.holds c.args.store.now)) (g.E.Emit.took c.rounds.emit (g.St.Store.holds c.rounds.store)) c.rounds.place c.rounds.waiting c.rounds.invariant.met c.hold_next.new.builds (g.St.Store.holds c.hold_next.new.store) (g.St.Store.signs c.rounds.store) (g.St.Store.signs c.hold_next.new.store) c.hold_next.new.place (held_rows c.hold_next.new.held) stays.both.query.told stays.both.right_rows
          c.in_ok-hold_next.ensures.reads (g.E.Emit.took c.rounds.emit (g.St.Store.holds c.hold_next.new.store)) still read.both.query.told c.rounds.reads read.both.left_rows (g.St.Store.holds c.join_chunk.new.store) (g.E.Emit.took c.join_chunk.new.emit (g.St.Store.holds c.join_chunk.new.store)) c.saturating_sub-waiting.result
          (other_place c.args.c.now.tracker (g.E.Emit.client c.rounds.emit) c.rounds.reads c.join_chunk.new.reads c.hold_next.new.builds (g.St.Store.holds c.hold_next.new.store) (g.St.Store.holds c.join_chunk.new.store) read.readable.right_shape read.readable.apart c.join_chunk.ensures.stream.beside)
          (ap (λ (s : Streamed). s.count) c.hold_next.ensures.same) fewer handed;
    }

pub returns-in_default-clause-held : goal.returns-in_default-clause-held
returns-in_default-clause-held g c = held_itself c.args.held.now

pub returns-in_err-hold_next-clause-held : goal.returns-in_err-hold_next-clause-held
returns-in_err-hold_next-clause-held g c = held_then _ _ _ c.rounds.invariant.held c.hold_next.ensures.held

pub returns-in_err-join_chunk-clause-held : goal.returns-in_err-join_chunk-clause-held
returns-in_err-join_chunk-clause-held g c = held_then _ _ _ c.rounds.invariant.held c.hold_next.ensures.held

pub hold_next-requires-clause-may : goal.hold_next-requires-clause-may
hold_next-requires-clause-may g c = may_still _ _ c.rounds.invariant.held c.requires.may

pub returns-clause-first : goal.returns-clause-first
returns-clause-first g c = λ rests. begun_all c.args.builds.now c.rounds.builds c.rounds.place _ _ c.rounds.waiting rests (c.rounds.invariant.begun rests) c.rounds.invariant.met.waits (let end = c.rounds-test.false in omega (arith, end))
