use Rattle.std.proofs.Common.{arith, rules, ◌≡◌, ◌∙◌, ℕ, List, ◌++◌, ap, sym, subst, refl}
use Rattle.std.specs.Prelude.{All}
use Rattle.row_codec.specs.declared.values.Kind.{Kind}
use Rattle.row_codec.specs.declared.values.Value.{Value}
use Rattle.row_reading.specs.Reading.{IsKeyColumn}
use Rattle.store_api.specs.Emitters.{CameOf}
use Rattle.store_api.specs.Signs.{WasAnswered}
use Rattle.store_api.specs.declared.op_err.OpErr.TheVariants.{Pool}
use Rattle.store_api.proofs.Answered.{answered_before}
use Rattle.tuple_stream.specs.Reading.{ReadsRow}
use Rattle.tuple_stream.specs.Steps.{scene}
use Rattle.tuple_stream.specs.Streamed.{Streamed}
use Rattle.tuple_stream.specs.Touches.{IsFull, slots_with}
use Rattle.partition_stack.specs.Emitting.{WentOn}
use Rattle.partition_stack.specs.Slots.{IsWantOf, KeepSlots, with_more}
use Rattle.partition_stack.proofs.Emitters.{came_behind}
use Rattle.partition_stack.proofs.ReadFrames.{free_now, reads_own, stays_handed, stays_none, stays_read, stood_place}
use Rattle.partition_stack.proofs.Results.{any_err}
use Rattle.partition_stack.proofs.Slots.{keep_none}
use Rattle.reservation_tree.specs.declared.errors.PoolErr.TheVariants.{Memory}
use Rattle.join_op.proofs.Handed.{handed_err}
use Rattle.join_op.proofs.Crowding.{own_below, own_want, some_more_of}
use Rattle.join_op.specs.Holding.{held_rows}
use Rattle.join_op.specs.Slots.{CameFull, Crowds}
use Rattle.join_op.proofs.ChunkJoins.{joined_all, joined_more, joined_none, joined_part, joined_some, none_found, row_found, went_all, went_some}
use Rattle.join_op.proofs.LeafSlots.{alone_full, one_handed, one_read}
use Rattle.join_op.proofs.Rooms.{room_handed, room_read}
use Rattle.join_op.proofs.PairSteps.{keep_of, stood_of}
use Rattle.join_op.proofs.meeting.join_chunk.Goals as goal

pub lefts-init : goal.lefts-init
lefts-init g c =
    record {
      stays = stays_none c.args.c.now c.args.reads.now (g.St.Store.holds c.args.store.now) (g.St.Store.signs c.args.store.now) (g.E.Emit.admits c.args.emit.now) (g.E.Emit.client c.args.emit.now) (g.E.Emit.faults c.args.emit.now) (g.E.Emit.took c.args.emit.now (g.St.Store.holds c.args.store.now)) c.requires.stream c.requires.emits.emitter.lives;
      room = omega arith;
      slots = keep_none _ _ _;
      most = λ rows. refl;
      joined = joined_none c.args.turned c.args.shape.now (held_rows c.args.held.now) c.args.c.now.tracker c.args.reads.now (g.St.Store.holds c.args.store.now) (g.St.Store.signs c.args.store.now) (g.E.Emit.took c.args.emit.now (g.St.Store.holds c.args.store.now)) c.first-place.result c.first-place.ensures c.requires.stream.shape;
    }

pub returns-in_err-keep_into-clause-hands : goal.returns-in_err-keep_into-clause-hands
returns-in_err-keep_into-clause-hands g c =
    let stays = c.lefts.invariant.stays in
    let still : (rows : List (List Value)) → g.E.Emit.took c.lefts.emit (g.St.Store.holds c.lefts.store) rows → g.E.Emit.took c.lefts.emit (g.St.Store.holds c.keep_into.new.store) rows = λ rows.
    g.met.E.Emit.asks_own c.lefts.emit (g.St.Store.holds c.lefts.store) (g.St.Store.holds c.keep_into.new.store) rows
    (reads_own c.args.c.now.tracker c.lefts.reads c.keep_into.new.self (g.St.Store.holds c.lefts.store) (g.St.Store.holds c.keep_into.new.store) (g.St.Store.signs c.lefts.store) (g.St.Store.signs c.keep_into.new.store) stays.readable.shape c.keep_into.ensures.went (g.E.Emit.client c.lefts.emit) (free_now _ _ _ _ _ _ _ _ _ _ _ _ _ _ _ c.requires.stream.client c.requires.emits.emitter.apart stays)) in
    let read = stays_read _ _ _ _ _ _ _ _ _ _ _ _ _ _ _ c.requires.stream.client c.requires.emits.emitter.apart stays c.keep_into.new.self (g.St.Store.holds c.keep_into.new.store) (g.St.Store.signs c.keep_into.new.store) (g.E.Emit.took c.lefts.emit (g.St.Store.holds c.keep_into.new.store)) c.keep_into.ensures.went c.keep_into.ensures.same still in
    let came : WasAnswered c.in_err-keep_into.field-0.0 (g.St.Store.signs c.args.store.now) (g.St.Store.signs c.keep_into.new.store) = answered_before _ _ _ _ stays.emitter.grows c.in_err-keep_into.ensures.cause.answered in
    let free = (g.St.Store.holds c.keep_into.new.store).free_slots in
    let full : IsFull c.args.reads.now.page_blocks free c.in_err-keep_into.field-0.0 =
    subst (λ (n : ℕ). IsFull n free c.in_err-keep_into.field-0.0) (ap (λ (s : Streamed). s.page_blocks) stays.beside.same) c.in_err-keep_into.ensures.cause.full in
    let both : CameFull c.args.reads.now.page_blocks free (g.E.Emit.client c.args.emit.now) (g.E.Emit.faults c.args.emit.now) (g.E.Emit.faults c.lefts.emit) (g.St.Store.signs c.args.store.now) (g.St.Store.signs c.keep_into.new.store) (Pool c.in_err-keep_into.field-0.0) =
    record { came = came; full = λ none. full } in
    let h0 = g.St.Store.holds c.args.store.now in
    let h1 = g.St.Store.holds c.lefts.store in
    let h2 = g.St.Store.holds c.keep_into.new.store in
    let same : g.E.Emit.slots c.lefts.emit h2 ≡ g.E.Emit.slots c.lefts.emit h1 =
    g.met.E.Emit.slots_own c.lefts.emit h1 h2 (reads_own c.args.c.now.tracker c.lefts.reads c.keep_into.new.self h1 h2 (g.St.Store.signs c.lefts.store) (g.St.Store.signs c.keep_into.new.store) stays.readable.shape c.keep_into.ensures.went (g.E.Emit.client c.lefts.emit) (free_now _ _ _ _ _ _ _ _ _ _ _ _ _ _ _ c.requires.stream.client c.requires.emits.emitter.apart stays)) in
    let now : List (List Value) → Type 0 = Crowds (g.E.Emit.slots_for c.args.emit.now) c.args.reads.now.page_blocks (with_more (g.E.Emit.slots c.lefts.emit (g.St.Store.holds c.keep_into.new.store)) (g.St.Store.holds c.keep_into.new.store).free_slots) (Pool c.in_err-keep_into.field-0.0) in
    let below : (rows : List (List Value)) → g.E.Emit.took c.lefts.emit (g.St.Store.holds c.lefts.store) rows → now rows = λ rows took.
    own_below c.args.reads.now.page_blocks (g.E.Emit.slots c.lefts.emit (g.St.Store.holds c.keep_into.new.store)) (g.E.Emit.slots_for c.args.emit.now rows) free c.in_err-keep_into.field-0.0
    (let fit = g.met.E.Emit.slots_fit c.lefts.emit (g.St.Store.holds c.keep_into.new.store) rows (still rows took) in let same = c.lefts.invariant.most rows in omega (arith, fit, same)) full in
    record {
      ok = search rules;
      err = any_err c.from_residual.result (joined_some c.args.turned c.args.shape.now (held_rows c.args.held.now) c.args.reads.now c.lefts.reads (g.St.Store.holds c.args.store.now) (g.St.Store.holds c.lefts.store) (g.E.Emit.took c.args.emit.now (g.St.Store.holds c.args.store.now)) (g.E.Emit.took c.lefts.emit (g.St.Store.holds c.lefts.store)) c.lefts.place c.lefts.invariant.joined (g.E.Emit.took c.lefts.emit (g.St.Store.holds c.keep_into.new.store)) still);
      stands = read.went;
      cause = search (rules, both);
      want = λ same.
          let stays = c.lefts.invariant.stays in
          let still : (rows : List (List Value)) → g.E.Emit.took c.lefts.emit (g.St.Store.holds c.lefts.store) rows → g.E.Emit.took c.lefts.emit (g.St.Store.holds c.keep_into.new.store) rows = λ rows.
          g.met.E.Emit.asks_own c.lefts.emit (g.St.Store.holds c.lefts.store) (g.St.Store.holds c.keep_into.new.store) rows
          (reads_own c.args.c.now.tracker c.lefts.reads c.keep_into.new.self (g.St.Store.holds c.lefts.store) (g.St.Store.holds c.keep_into.new.store) (g.St.Store.signs c.lefts.store) (g.St.Store.signs c.keep_into.new.store) stays.readable.shape c.keep_into.ensures.went (g.E.Emit.client c.lefts.emit) (free_now _ _ _ _ _ _ _ _ _ _ _ _ _ _ _ c.requires.stream.client c.requires.emits.emitter.apart stays)) in
          let free = (g.St.Store.holds c.keep_into.new.store).free_slots in
          let full : IsFull c.args.reads.now.page_blocks free c.in_err-keep_into.field-0.0 =
          subst (λ (n : ℕ). IsFull n free c.in_err-keep_into.field-0.0) (ap (λ (s : Streamed). s.page_blocks) stays.beside.same) c.in_err-keep_into.ensures.cause.full in
          let more = stays.went c.requires.emits.stands.0 c.requires.emits.stands.1 in
          let whole = g.met.E.Emit.slots_whole c.lefts.emit (g.St.Store.holds c.keep_into.new.store) (c.requires.emits.stands.0 ++ more.0) (still (c.requires.emits.stands.0 ++ more.0) more.1) in
          handed_err _ c.from_residual.result (Pool c.in_err-keep_into.field-0.0) c.from_residual.ensures (own_want c.args.reads.now.page_blocks g.E.Emit.page_blocks (g.E.Emit.slots c.lefts.emit (g.St.Store.holds c.keep_into.new.store)) whole.0 free c.in_err-keep_into.field-0.0 same whole.1 full);
      crowded = handed_err _ c.from_residual.result (Pool c.in_err-keep_into.field-0.0) c.from_residual.ensures
          (joined_some c.args.turned c.args.shape.now (held_rows c.args.held.now) c.args.reads.now c.lefts.reads (g.St.Store.holds c.args.store.now) (g.St.Store.holds c.lefts.store) (g.E.Emit.took c.args.emit.now (g.St.Store.holds c.args.store.now)) (g.E.Emit.took c.lefts.emit (g.St.Store.holds c.lefts.store)) c.lefts.place c.lefts.invariant.joined now below);
      most = search rules;
      slots = (let read : KeepSlots (g.E.Emit.client c.args.emit.now) (slots_with c.args.reads.now h0) (slots_with c.keep_into.new.self h2) (g.E.Emit.slots c.args.emit.now h0) (g.E.Emit.slots c.lefts.emit h2) =
          one_read c.args.c.now.tracker (g.E.Emit.client c.args.emit.now) _ _ c.args.reads.now c.lefts.reads h0 h1 c.lefts.invariant.slots c.keep_into.new.self h2 _ c.keep_into.ensures.went.step.touches same in
          read);
      emitter = read.emitter;
    }

pub returns-in_default-clause-hands : goal.returns-in_default-clause-hands
returns-in_default-clause-hands g c =
    let stays = c.lefts.invariant.stays in
    let still : (rows : List (List Value)) → g.E.Emit.took c.lefts.emit (g.St.Store.holds c.lefts.store) rows → g.E.Emit.took c.lefts.emit (g.St.Store.holds c.keep_into.new.store) rows = λ rows.
    g.met.E.Emit.asks_own c.lefts.emit (g.St.Store.holds c.lefts.store) (g.St.Store.holds c.keep_into.new.store) rows
    (reads_own c.args.c.now.tracker c.lefts.reads c.keep_into.new.self (g.St.Store.holds c.lefts.store) (g.St.Store.holds c.keep_into.new.store) (g.St.Store.signs c.lefts.store) (g.St.Store.signs c.keep_into.new.store) stays.readable.shape c.keep_into.ensures.went (g.E.Emit.client c.lefts.emit) (free_now _ _ _ _ _ _ _ _ _ _ _ _ _ _ _ c.requires.stream.client c.requires.emits.emitter.apart stays)) in
    let read = stays_read _ _ _ _ _ _ _ _ _ _ _ _ _ _ _ c.requires.stream.client c.requires.emits.emitter.apart stays c.keep_into.new.self (g.St.Store.holds c.keep_into.new.store) (g.St.Store.signs c.keep_into.new.store) (g.E.Emit.took c.lefts.emit (g.St.Store.holds c.keep_into.new.store)) c.keep_into.ensures.went c.keep_into.ensures.same still in
    let h0 = g.St.Store.holds c.args.store.now in
    let h1 = g.St.Store.holds c.lefts.store in
    let h2 = g.St.Store.holds c.keep_into.new.store in
    let same : g.E.Emit.slots c.lefts.emit h2 ≡ g.E.Emit.slots c.lefts.emit h1 =
    g.met.E.Emit.slots_own c.lefts.emit h1 h2 (reads_own c.args.c.now.tracker c.lefts.reads c.keep_into.new.self h1 h2 (g.St.Store.signs c.lefts.store) (g.St.Store.signs c.keep_into.new.store) stays.readable.shape c.keep_into.ensures.went (g.E.Emit.client c.lefts.emit) (free_now _ _ _ _ _ _ _ _ _ _ _ _ _ _ _ c.requires.stream.client c.requires.emits.emitter.apart stays)) in
    record {
      ok = search rules;
      err = joined_some c.args.turned c.args.shape.now (held_rows c.args.held.now) c.args.reads.now c.lefts.reads (g.St.Store.holds c.args.store.now) (g.St.Store.holds c.lefts.store) (g.E.Emit.took c.args.emit.now (g.St.Store.holds c.args.store.now)) (g.E.Emit.took c.lefts.emit (g.St.Store.holds c.lefts.store)) c.lefts.place c.lefts.invariant.joined (g.E.Emit.took c.lefts.emit (g.St.Store.holds c.keep_into.new.store)) still;
      stands = read.went;
      cause = search rules;
      want = search rules;
      crowded = joined_some c.args.turned c.args.shape.now (held_rows c.args.held.now) c.args.reads.now c.lefts.reads (g.St.Store.holds c.args.store.now) (g.St.Store.holds c.lefts.store) (g.E.Emit.took c.args.emit.now (g.St.Store.holds c.args.store.now)) (g.E.Emit.took c.lefts.emit (g.St.Store.holds c.lefts.store)) c.lefts.place c.lefts.invariant.joined (Crowds (g.E.Emit.slots_for c.args.emit.now) c.args.reads.now.page_blocks (with_more (g.E.Emit.slots c.lefts.emit (g.St.Store.holds c.keep_into.new.store)) (g.St.Store.holds c.keep_into.new.store).free_slots) (Pool Memory)) (λ rows took. tt);
      most = search rules;
      slots = (let read : KeepSlots (g.E.Emit.client c.args.emit.now) (slots_with c.args.reads.now h0) (slots_with c.keep_into.new.self h2) (g.E.Emit.slots c.args.emit.now h0) (g.E.Emit.slots c.lefts.emit h2) =
          one_read c.args.c.now.tracker (g.E.Emit.client c.args.emit.now) _ _ c.args.reads.now c.lefts.reads h0 h1 c.lefts.invariant.slots c.keep_into.new.self h2 _ c.keep_into.ensures.went.step.touches same in
          read);
      emitter = read.emitter;
    }

pub returns-clause-hands : goal.returns-clause-hands
returns-clause-hands g c =
    let stays = c.lefts.invariant.stays in
    let still : (rows : List (List Value)) → g.E.Emit.took c.lefts.emit (g.St.Store.holds c.lefts.store) rows → g.E.Emit.took c.lefts.emit (g.St.Store.holds c.keep_into.new.store) rows = λ rows.
    g.met.E.Emit.asks_own c.lefts.emit (g.St.Store.holds c.lefts.store) (g.St.Store.holds c.keep_into.new.store) rows
    (reads_own c.args.c.now.tracker c.lefts.reads c.keep_into.new.self (g.St.Store.holds c.lefts.store) (g.St.Store.holds c.keep_into.new.store) (g.St.Store.signs c.lefts.store) (g.St.Store.signs c.keep_into.new.store) stays.readable.shape c.keep_into.ensures.went (g.E.Emit.client c.lefts.emit) (free_now _ _ _ _ _ _ _ _ _ _ _ _ _ _ _ c.requires.stream.client c.requires.emits.emitter.apart stays)) in
    let read = stays_read _ _ _ _ _ _ _ _ _ _ _ _ _ _ _ c.requires.stream.client c.requires.emits.emitter.apart stays c.keep_into.new.self (g.St.Store.holds c.keep_into.new.store) (g.St.Store.signs c.keep_into.new.store) (g.E.Emit.took c.lefts.emit (g.St.Store.holds c.keep_into.new.store)) c.keep_into.ensures.went c.keep_into.ensures.same still in
    let ends = none_found c.in_ok-keep_into.field-0 _ _ _ (scene c.lefts.reads (g.St.Store.holds c.lefts.store) (g.St.Store.signs c.lefts.store)) (scene c.keep_into.new.self (g.St.Store.holds c.keep_into.new.store) (g.St.Store.signs c.keep_into.new.store)) c.if-branch.false c.in_ok-keep_into.ensures.ok in
    let h0 = g.St.Store.holds c.args.store.now in
    let h1 = g.St.Store.holds c.lefts.store in
    let h2 = g.St.Store.holds c.keep_into.new.store in
    let same : g.E.Emit.slots c.lefts.emit h2 ≡ g.E.Emit.slots c.lefts.emit h1 =
    g.met.E.Emit.slots_own c.lefts.emit h1 h2 (reads_own c.args.c.now.tracker c.lefts.reads c.keep_into.new.self h1 h2 (g.St.Store.signs c.lefts.store) (g.St.Store.signs c.keep_into.new.store) stays.readable.shape c.keep_into.ensures.went (g.E.Emit.client c.lefts.emit) (free_now _ _ _ _ _ _ _ _ _ _ _ _ _ _ _ c.requires.stream.client c.requires.emits.emitter.apart stays)) in
    record {
      ok = joined_all c.args.turned c.args.shape.now (held_rows c.args.held.now) c.args.reads.now c.lefts.reads (g.St.Store.holds c.args.store.now) (g.St.Store.holds c.lefts.store) (g.E.Emit.took c.args.emit.now (g.St.Store.holds c.args.store.now)) (g.E.Emit.took c.lefts.emit (g.St.Store.holds c.lefts.store)) c.lefts.place c.lefts.invariant.joined ends.0 (ap (λ (s : Streamed). s.count) stays.beside.same) (g.E.Emit.took c.lefts.emit (g.St.Store.holds c.keep_into.new.store)) still;
      err = search rules;
      stands = read.went;
      cause = search rules;
      want = search rules;
      crowded = search rules;
      most = search rules;
      slots = (let read : KeepSlots (g.E.Emit.client c.args.emit.now) (slots_with c.args.reads.now h0) (slots_with c.keep_into.new.self h2) (g.E.Emit.slots c.args.emit.now h0) (g.E.Emit.slots c.lefts.emit h2) =
          one_read c.args.c.now.tracker (g.E.Emit.client c.args.emit.now) _ _ c.args.reads.now c.lefts.reads h0 h1 c.lefts.invariant.slots c.keep_into.new.self h2 _ c.keep_into.ensures.went.step.touches same in
          read);
      emitter = read.emitter;
    }

pub returns-in_err-meet-clause-hands : goal.returns-in_err-meet-clause-hands
returns-in_err-meet-clause-hands g c =
    let stays = c.lefts.invariant.stays in
    let still : (rows : List (List Value)) → g.E.Emit.took c.lefts.emit (g.St.Store.holds c.lefts.store) rows → g.E.Emit.took c.lefts.emit (g.St.Store.holds c.keep_into.new.store) rows = λ rows.
    g.met.E.Emit.asks_own c.lefts.emit (g.St.Store.holds c.lefts.store) (g.St.Store.holds c.keep_into.new.store) rows
    (reads_own c.args.c.now.tracker c.lefts.reads c.keep_into.new.self (g.St.Store.holds c.lefts.store) (g.St.Store.holds c.keep_into.new.store) (g.St.Store.signs c.lefts.store) (g.St.Store.signs c.keep_into.new.store) stays.readable.shape c.keep_into.ensures.went (g.E.Emit.client c.lefts.emit) (free_now _ _ _ _ _ _ _ _ _ _ _ _ _ _ _ c.requires.stream.client c.requires.emits.emitter.apart stays)) in
    let read = stays_read _ _ _ _ _ _ _ _ _ _ _ _ _ _ _ c.requires.stream.client c.requires.emits.emitter.apart stays c.keep_into.new.self (g.St.Store.holds c.keep_into.new.store) (g.St.Store.signs c.keep_into.new.store) (g.E.Emit.took c.lefts.emit (g.St.Store.holds c.keep_into.new.store)) c.keep_into.ensures.went c.keep_into.ensures.same still in
    let on : WentOn (g.E.Emit.took c.lefts.emit (g.St.Store.holds c.keep_into.new.store)) (g.E.Emit.took c.meet.new.emit (g.St.Store.holds c.meet.new.store)) = went_some c.in_err-meet.ensures.err in
    let all = stays_handed _ _ _ _ _ _ _ _ _ _ _ _ _ _ _ c.requires.stream.client c.requires.emits.emitter.apart read (g.St.Store.holds c.meet.new.store) (g.St.Store.signs c.meet.new.store) (g.E.Emit.admits c.meet.new.emit) (g.E.Emit.client c.meet.new.emit) (g.E.Emit.faults c.meet.new.emit) (g.E.Emit.took c.meet.new.emit (g.St.Store.holds c.meet.new.store)) (stood_of g.St.Store g.E.Emit c.lefts.emit c.meet.new.emit c.keep_into.new.store c.meet.new.store c.meet.ensures.stands) on in
    let reads : ReadsRow c.lefts.place c.keep_into.new.place c.keep_into.new.out.items (scene c.lefts.reads (g.St.Store.holds c.lefts.store) (g.St.Store.signs c.lefts.store)) (scene c.keep_into.new.self (g.St.Store.holds c.keep_into.new.store) (g.St.Store.signs c.keep_into.new.store)) = row_found c.in_ok-keep_into.field-0 _ _ _ (scene c.lefts.reads (g.St.Store.holds c.lefts.store) (g.St.Store.signs c.lefts.store)) (scene c.keep_into.new.self (g.St.Store.holds c.keep_into.new.store) (g.St.Store.signs c.keep_into.new.store)) c.if-branch.true c.in_ok-keep_into.ensures.ok in
    let came : CameOf (g.E.Emit.faults c.args.emit.now) (g.E.Emit.faults c.meet.new.emit) (g.St.Store.signs c.args.store.now) (g.St.Store.signs c.meet.new.store) c.in_err-meet.field-0.0 =
    came_behind _ _ _ _ _ _ _ read.emitter.never_falls read.emitter.grows c.in_err-meet.ensures.cause in
    let free = (g.St.Store.holds c.meet.new.store).free_slots in
    let both : CameFull c.args.reads.now.page_blocks free (g.E.Emit.client c.args.emit.now) (g.E.Emit.faults c.args.emit.now) (g.E.Emit.faults c.meet.new.emit) (g.St.Store.signs c.args.store.now) (g.St.Store.signs c.meet.new.store) c.in_err-meet.field-0.0 =
    record { came = came; full = λ none. alone_full c.args.reads.now.page_blocks _ _ _ _ _ c.in_err-meet.field-0.0 ((stood_of g.St.Store g.E.Emit c.lefts.emit c.meet.new.emit c.keep_into.new.store c.meet.new.store c.meet.ensures.stands).alone (stays.emitter.client_same ∙ none)) c.in_err-meet.ensures.cause } in
    let h0 = g.St.Store.holds c.args.store.now in
    let h1 = g.St.Store.holds c.lefts.store in
    let h2 = g.St.Store.holds c.keep_into.new.store in
    let same : g.E.Emit.slots c.lefts.emit h2 ≡ g.E.Emit.slots c.lefts.emit h1 =
    g.met.E.Emit.slots_own c.lefts.emit h1 h2 (reads_own c.args.c.now.tracker c.lefts.reads c.keep_into.new.self h1 h2 (g.St.Store.signs c.lefts.store) (g.St.Store.signs c.keep_into.new.store) stays.readable.shape c.keep_into.ensures.went (g.E.Emit.client c.lefts.emit) (free_now _ _ _ _ _ _ _ _ _ _ _ _ _ _ _ c.requires.stream.client c.requires.emits.emitter.apart stays)) in
    let now : List (List Value) → Type 0 = Crowds (g.E.Emit.slots_for c.args.emit.now) c.args.reads.now.page_blocks (with_more (g.E.Emit.slots c.meet.new.emit (g.St.Store.holds c.meet.new.store)) (g.St.Store.holds c.meet.new.store).free_slots) c.in_err-meet.field-0.0 in
    record {
      ok = search rules;
      err = any_err c.from_residual-in_err-meet.result (joined_part c.args.turned c.args.shape.now (held_rows c.args.held.now) c.args.reads.now c.lefts.reads (g.St.Store.holds c.args.store.now) (g.St.Store.holds c.lefts.store) (g.E.Emit.took c.args.emit.now (g.St.Store.holds c.args.store.now)) (g.E.Emit.took c.lefts.emit (g.St.Store.holds c.lefts.store)) c.lefts.place c.lefts.invariant.joined c.keep_into.new.self (g.St.Store.holds c.keep_into.new.store) (g.St.Store.signs c.lefts.store) (g.St.Store.signs c.keep_into.new.store) c.args.c.now.tracker c.keep_into.new.place c.keep_into.new.out.items stays.beside.query.told stays.beside.rows reads (g.E.Emit.took c.lefts.emit (g.St.Store.holds c.keep_into.new.store)) still
          (g.E.Emit.took c.meet.new.emit (g.St.Store.holds c.meet.new.store)) c.in_err-meet.ensures.err);
      stands = all.went;
      cause = search (rules, both);
      want = λ same.
          handed_err _ c.from_residual-in_err-meet.result c.in_err-meet.field-0.0 c.from_residual-in_err-meet.ensures (subst (λ (n : ℕ). IsWantOf n (with_more (g.E.Emit.slots c.meet.new.emit (g.St.Store.holds c.meet.new.store)) (g.St.Store.holds c.meet.new.store).free_slots) c.in_err-meet.field-0.0) same c.in_err-meet.ensures.want);
      crowded = handed_err _ c.from_residual-in_err-meet.result c.in_err-meet.field-0.0 c.from_residual-in_err-meet.ensures
          (joined_part c.args.turned c.args.shape.now (held_rows c.args.held.now) c.args.reads.now c.lefts.reads (g.St.Store.holds c.args.store.now) (g.St.Store.holds c.lefts.store) (g.E.Emit.took c.args.emit.now (g.St.Store.holds c.args.store.now)) (g.E.Emit.took c.lefts.emit (g.St.Store.holds c.lefts.store)) c.lefts.place c.lefts.invariant.joined c.keep_into.new.self (g.St.Store.holds c.keep_into.new.store) (g.St.Store.signs c.lefts.store) (g.St.Store.signs c.keep_into.new.store) c.args.c.now.tracker c.keep_into.new.place c.keep_into.new.out.items stays.beside.query.told stays.beside.rows reads (g.E.Emit.took c.lefts.emit (g.St.Store.holds c.keep_into.new.store)) still now
          (some_more_of _ _ (g.E.Emit.slots_for c.args.emit.now) (g.E.Emit.slots_for c.lefts.emit) 0 c.args.reads.now.page_blocks (with_more (g.E.Emit.slots c.meet.new.emit (g.St.Store.holds c.meet.new.store)) (g.St.Store.holds c.meet.new.store).free_slots) (with_more (g.E.Emit.slots c.meet.new.emit (g.St.Store.holds c.meet.new.store)) (g.St.Store.holds c.meet.new.store).free_slots) c.in_err-meet.field-0.0 c.lefts.invariant.most (omega arith) refl c.in_err-meet.ensures.crowded));
      most = λ rows. c.meet.ensures.stands.same.slots_same rows ∙ c.lefts.invariant.most rows;
      slots = (let read : KeepSlots (g.E.Emit.client c.args.emit.now) (slots_with c.args.reads.now h0) (slots_with c.keep_into.new.self h2) (g.E.Emit.slots c.args.emit.now h0) (g.E.Emit.slots c.lefts.emit h2) =
          one_read c.args.c.now.tracker (g.E.Emit.client c.args.emit.now) _ _ c.args.reads.now c.lefts.reads h0 h1 c.lefts.invariant.slots c.keep_into.new.self h2 _ c.keep_into.ensures.went.step.touches same in
          one_handed c.args.c.now.tracker (g.E.Emit.client c.args.emit.now) _ _ c.args.reads.now c.keep_into.new.self h0 h2 read (g.E.Emit.client c.lefts.emit) (g.St.Store.holds c.meet.new.store) _ stays.emitter.client_same c.requires.emits.emitter.apart c.keep_into.ensures.went.step.shape (stood_of g.St.Store g.E.Emit c.lefts.emit c.meet.new.emit c.keep_into.new.store c.meet.new.store c.meet.ensures.stands).others (keep_of g.St.Store g.E.Emit c.lefts.emit c.meet.new.emit c.keep_into.new.store c.meet.new.store c.meet.ensures.stands));
      emitter = all.emitter;
    }

pub returns-in_err-keep_into-clause-stream : goal.returns-in_err-keep_into-clause-stream
returns-in_err-keep_into-clause-stream g c =
    let stays = c.lefts.invariant.stays in
    let still : (rows : List (List Value)) → g.E.Emit.took c.lefts.emit (g.St.Store.holds c.lefts.store) rows → g.E.Emit.took c.lefts.emit (g.St.Store.holds c.keep_into.new.store) rows = λ rows.
    g.met.E.Emit.asks_own c.lefts.emit (g.St.Store.holds c.lefts.store) (g.St.Store.holds c.keep_into.new.store) rows
    (reads_own c.args.c.now.tracker c.lefts.reads c.keep_into.new.self (g.St.Store.holds c.lefts.store) (g.St.Store.holds c.keep_into.new.store) (g.St.Store.signs c.lefts.store) (g.St.Store.signs c.keep_into.new.store) stays.readable.shape c.keep_into.ensures.went (g.E.Emit.client c.lefts.emit) (free_now _ _ _ _ _ _ _ _ _ _ _ _ _ _ _ c.requires.stream.client c.requires.emits.emitter.apart stays)) in
    let read = stays_read _ _ _ _ _ _ _ _ _ _ _ _ _ _ _ c.requires.stream.client c.requires.emits.emitter.apart stays c.keep_into.new.self (g.St.Store.holds c.keep_into.new.store) (g.St.Store.signs c.keep_into.new.store) (g.E.Emit.took c.lefts.emit (g.St.Store.holds c.keep_into.new.store)) c.keep_into.ensures.went c.keep_into.ensures.same still in
    record { beside = read.beside; room = room_read c.args.c.now.tracker (g.E.Emit.client c.args.emit.now) (g.St.Store.holds c.args.store.now) (g.St.Store.holds c.lefts.store) (g.St.Store.holds c.keep_into.new.store) c.lefts.invariant.room c.lefts.reads c.keep_into.new.self stays.readable.client c.keep_into.ensures.went.step.touches }

pub returns-in_default-clause-stream : goal.returns-in_default-clause-stream
returns-in_default-clause-stream g c =
    let stays = c.lefts.invariant.stays in
    let still : (rows : List (List Value)) → g.E.Emit.took c.lefts.emit (g.St.Store.holds c.lefts.store) rows → g.E.Emit.took c.lefts.emit (g.St.Store.holds c.keep_into.new.store) rows = λ rows.
    g.met.E.Emit.asks_own c.lefts.emit (g.St.Store.holds c.lefts.store) (g.St.Store.holds c.keep_into.new.store) rows
    (reads_own c.args.c.now.tracker c.lefts.reads c.keep_into.new.self (g.St.Store.holds c.lefts.store) (g.St.Store.holds c.keep_into.new.store) (g.St.Store.signs c.lefts.store) (g.St.Store.signs c.keep_into.new.store) stays.readable.shape c.keep_into.ensures.went (g.E.Emit.client c.lefts.emit) (free_now _ _ _ _ _ _ _ _ _ _ _ _ _ _ _ c.requires.stream.client c.requires.emits.emitter.apart stays)) in
    let read = stays_read _ _ _ _ _ _ _ _ _ _ _ _ _ _ _ c.requires.stream.client c.requires.emits.emitter.apart stays c.keep_into.new.self (g.St.Store.holds c.keep_into.new.store) (g.St.Store.signs c.keep_into.new.store) (g.E.Emit.took c.lefts.emit (g.St.Store.holds c.keep_into.new.store)) c.keep_into.ensures.went c.keep_into.ensures.same still in
    record { beside = read.beside; room = room_read c.args.c.now.tracker (g.E.Emit.client c.args.emit.now) (g.St.Store.holds c.args.store.now) (g.St.Store.holds c.lefts.store) (g.St.Store.holds c.keep_into.new.store) c.lefts.invariant.room c.lefts.reads c.keep_into.new.self stays.readable.client c.keep_into.ensures.went.step.touches }

pub returns-clause-stream : goal.returns-clause-stream
returns-clause-stream g c =
    let stays = c.lefts.invariant.stays in
    let still : (rows : List (List Value)) → g.E.Emit.took c.lefts.emit (g.St.Store.holds c.lefts.store) rows → g.E.Emit.took c.lefts.emit (g.St.Store.holds c.keep_into.new.store) rows = λ rows.
    g.met.E.Emit.asks_own c.lefts.emit (g.St.Store.holds c.lefts.store) (g.St.Store.holds c.keep_into.new.store) rows
    (reads_own c.args.c.now.tracker c.lefts.reads c.keep_into.new.self (g.St.Store.holds c.lefts.store) (g.St.Store.holds c.keep_into.new.store) (g.St.Store.signs c.lefts.store) (g.St.Store.signs c.keep_into.new.store) stays.readable.shape c.keep_into.ensures.went (g.E.Emit.client c.lefts.emit) (free_now _ _ _ _ _ _ _ _ _ _ _ _ _ _ _ c.requires.stream.client c.requires.emits.emitter.apart stays)) in
    let read = stays_read _ _ _ _ _ _ _ _ _ _ _ _ _ _ _ c.requires.stream.client c.requires.emits.emitter.apart stays c.keep_into.new.self (g.St.Store.holds c.keep_into.new.store) (g.St.Store.signs c.keep_into.new.store) (g.E.Emit.took c.lefts.emit (g.St.Store.holds c.keep_into.new.store)) c.keep_into.ensures.went c.keep_into.ensures.same still in
    record { beside = read.beside; room = room_read c.args.c.now.tracker (g.E.Emit.client c.args.emit.now) (g.St.Store.holds c.args.store.now) (g.St.Store.holds c.lefts.store) (g.St.Store.holds c.keep_into.new.store) c.lefts.invariant.room c.lefts.reads c.keep_into.new.self stays.readable.client c.keep_into.ensures.went.step.touches }

pub returns-in_err-meet-clause-stream : goal.returns-in_err-meet-clause-stream
returns-in_err-meet-clause-stream g c =
    let stays = c.lefts.invariant.stays in
    let still : (rows : List (List Value)) → g.E.Emit.took c.lefts.emit (g.St.Store.holds c.lefts.store) rows → g.E.Emit.took c.lefts.emit (g.St.Store.holds c.keep_into.new.store) rows = λ rows.
    g.met.E.Emit.asks_own c.lefts.emit (g.St.Store.holds c.lefts.store) (g.St.Store.holds c.keep_into.new.store) rows
    (reads_own c.args.c.now.tracker c.lefts.reads c.keep_into.new.self (g.St.Store.holds c.lefts.store) (g.St.Store.holds c.keep_into.new.store) (g.St.Store.signs c.lefts.store) (g.St.Store.signs c.keep_into.new.store) stays.readable.shape c.keep_into.ensures.went (g.E.Emit.client c.lefts.emit) (free_now _ _ _ _ _ _ _ _ _ _ _ _ _ _ _ c.requires.stream.client c.requires.emits.emitter.apart stays)) in
    let read = stays_read _ _ _ _ _ _ _ _ _ _ _ _ _ _ _ c.requires.stream.client c.requires.emits.emitter.apart stays c.keep_into.new.self (g.St.Store.holds c.keep_into.new.store) (g.St.Store.signs c.keep_into.new.store) (g.E.Emit.took c.lefts.emit (g.St.Store.holds c.keep_into.new.store)) c.keep_into.ensures.went c.keep_into.ensures.same still in
    let on : WentOn (g.E.Emit.took c.lefts.emit (g.St.Store.holds c.keep_into.new.store)) (g.E.Emit.took c.meet.new.emit (g.St.Store.holds c.meet.new.store)) = went_some c.in_err-meet.ensures.err in
    let all = stays_handed _ _ _ _ _ _ _ _ _ _ _ _ _ _ _ c.requires.stream.client c.requires.emits.emitter.apart read (g.St.Store.holds c.meet.new.store) (g.St.Store.signs c.meet.new.store) (g.E.Emit.admits c.meet.new.emit) (g.E.Emit.client c.meet.new.emit) (g.E.Emit.faults c.meet.new.emit) (g.E.Emit.took c.meet.new.emit (g.St.Store.holds c.meet.new.store)) (stood_of g.St.Store g.E.Emit c.lefts.emit c.meet.new.emit c.keep_into.new.store c.meet.new.store c.meet.ensures.stands) on in
    let room = room_read c.args.c.now.tracker (g.E.Emit.client c.args.emit.now) (g.St.Store.holds c.args.store.now) (g.St.Store.holds c.lefts.store) (g.St.Store.holds c.keep_into.new.store) c.lefts.invariant.room c.lefts.reads c.keep_into.new.self stays.readable.client c.keep_into.ensures.went.step.touches in
    record { beside = all.beside; room = room_handed c.args.c.now.tracker (g.E.Emit.client c.args.emit.now) (g.St.Store.holds c.args.store.now) (g.St.Store.holds c.keep_into.new.store) (g.St.Store.holds c.meet.new.store) room (g.E.Emit.client c.lefts.emit) stays.emitter.client_same c.requires.emits.emitter.apart (stood_of g.St.Store g.E.Emit c.lefts.emit c.meet.new.emit c.keep_into.new.store c.meet.new.store c.meet.ensures.stands).others (stood_of g.St.Store g.E.Emit c.lefts.emit c.meet.new.emit c.keep_into.new.store c.meet.new.store c.meet.ensures.stands).room }

pub key_into-requires : goal.key_into-requires
key_into-requires g c =
    record { columns = subst (λ (kinds : List Kind). All (IsKeyColumn kinds) c.args.columns.now) (sym c.read_kinds.ensures) c.requires.columns.0.keyed }

pub meet-requires-clause-may : goal.meet-requires-clause-may
meet-requires-clause-may g c =
    let stays = c.lefts.invariant.stays in
    let still : (rows : List (List Value)) → g.E.Emit.took c.lefts.emit (g.St.Store.holds c.lefts.store) rows → g.E.Emit.took c.lefts.emit (g.St.Store.holds c.keep_into.new.store) rows = λ rows.
    g.met.E.Emit.asks_own c.lefts.emit (g.St.Store.holds c.lefts.store) (g.St.Store.holds c.keep_into.new.store) rows
    (reads_own c.args.c.now.tracker c.lefts.reads c.keep_into.new.self (g.St.Store.holds c.lefts.store) (g.St.Store.holds c.keep_into.new.store) (g.St.Store.signs c.lefts.store) (g.St.Store.signs c.keep_into.new.store) stays.readable.shape c.keep_into.ensures.went (g.E.Emit.client c.lefts.emit) (free_now _ _ _ _ _ _ _ _ _ _ _ _ _ _ _ c.requires.stream.client c.requires.emits.emitter.apart stays)) in
    let read = stays_read _ _ _ _ _ _ _ _ _ _ _ _ _ _ _ c.requires.stream.client c.requires.emits.emitter.apart stays c.keep_into.new.self (g.St.Store.holds c.keep_into.new.store) (g.St.Store.signs c.keep_into.new.store) (g.E.Emit.took c.lefts.emit (g.St.Store.holds c.keep_into.new.store)) c.keep_into.ensures.went c.keep_into.ensures.same still in
    let more = read.went c.requires.emits.stands.0 c.requires.emits.stands.1 in
    record {
      client = search rules;
      stands = (c.requires.emits.stands.0 ++ more.0, more.1);
      admits = search rules;
    }

pub lefts-preserved : goal.lefts-preserved
lefts-preserved g c =
    let stays = c.lefts.invariant.stays in
    let still : (rows : List (List Value)) → g.E.Emit.took c.lefts.emit (g.St.Store.holds c.lefts.store) rows → g.E.Emit.took c.lefts.emit (g.St.Store.holds c.keep_into.new.store) rows = λ rows.
    g.met.E.Emit.asks_own c.lefts.emit (g.St.Store.holds c.lefts.store) (g.St.Store.holds c.keep_into.new.store) rows
    (reads_own c.args.c.now.tracker c.lefts.reads c.keep_into.new.self (g.St.Store.holds c.lefts.store) (g.St.Store.holds c.keep_into.new.store) (g.St.Store.signs c.lefts.store) (g.St.Store.signs c.keep_into.new.store) stays.readable.shape c.keep_into.ensures.went (g.E.Emit.client c.lefts.emit) (free_now _ _ _ _ _ _ _ _ _ _ _ _ _ _ _ c.requires.stream.client c.requires.emits.emitter.apart stays)) in
    let read = stays_read _ _ _ _ _ _ _ _ _ _ _ _ _ _ _ c.requires.stream.client c.requires.emits.emitter.apart stays c.keep_into.new.self (g.St.Store.holds c.keep_into.new.store) (g.St.Store.signs c.keep_into.new.store) (g.E.Emit.took c.lefts.emit (g.St.Store.holds c.keep_into.new.store)) c.keep_into.ensures.went c.keep_into.ensures.same still in
    let h0 = g.St.Store.holds c.args.store.now in
    let h1 = g.St.Store.holds c.lefts.store in
    let h2 = g.St.Store.holds c.keep_into.new.store in
    let same : g.E.Emit.slots c.lefts.emit h2 ≡ g.E.Emit.slots c.lefts.emit h1 =
    g.met.E.Emit.slots_own c.lefts.emit h1 h2 (reads_own c.args.c.now.tracker c.lefts.reads c.keep_into.new.self h1 h2 (g.St.Store.signs c.lefts.store) (g.St.Store.signs c.keep_into.new.store) stays.readable.shape c.keep_into.ensures.went (g.E.Emit.client c.lefts.emit) (free_now _ _ _ _ _ _ _ _ _ _ _ _ _ _ _ c.requires.stream.client c.requires.emits.emitter.apart stays)) in
    let slots_read : KeepSlots (g.E.Emit.client c.args.emit.now) (slots_with c.args.reads.now h0) (slots_with c.keep_into.new.self h2) (g.E.Emit.slots c.args.emit.now h0) (g.E.Emit.slots c.lefts.emit h2) =
    one_read c.args.c.now.tracker (g.E.Emit.client c.args.emit.now) _ _ c.args.reads.now c.lefts.reads h0 h1 c.lefts.invariant.slots c.keep_into.new.self h2 _ c.keep_into.ensures.went.step.touches same in
    let reads : ReadsRow c.lefts.place c.keep_into.new.place c.keep_into.new.out.items (scene c.lefts.reads (g.St.Store.holds c.lefts.store) (g.St.Store.signs c.lefts.store)) (scene c.keep_into.new.self (g.St.Store.holds c.keep_into.new.store) (g.St.Store.signs c.keep_into.new.store)) = row_found c.in_ok-keep_into.field-0 _ _ _ (scene c.lefts.reads (g.St.Store.holds c.lefts.store) (g.St.Store.signs c.lefts.store)) (scene c.keep_into.new.self (g.St.Store.holds c.keep_into.new.store) (g.St.Store.signs c.keep_into.new.store)) c.if-branch.true c.in_ok-keep_into.ensures.ok in
    let on : WentOn (g.E.Emit.took c.lefts.emit (g.St.Store.holds c.keep_into.new.store)) (g.E.Emit.took c.meet.new.emit (g.St.Store.holds c.meet.new.store)) = went_all c.in_ok-meet.ensures.ok in
    let all = stays_handed _ _ _ _ _ _ _ _ _ _ _ _ _ _ _ c.requires.stream.client c.requires.emits.emitter.apart read (g.St.Store.holds c.meet.new.store) (g.St.Store.signs c.meet.new.store) (g.E.Emit.admits c.meet.new.emit) (g.E.Emit.client c.meet.new.emit) (g.E.Emit.faults c.meet.new.emit) (g.E.Emit.took c.meet.new.emit (g.St.Store.holds c.meet.new.store)) (stood_of g.St.Store g.E.Emit c.lefts.emit c.meet.new.emit c.keep_into.new.store c.meet.new.store c.meet.ensures.stands) on in
    record {
      stays = all;
      most = λ rows. c.meet.ensures.stands.same.slots_same rows ∙ c.lefts.invariant.most rows;
      slots = one_handed c.args.c.now.tracker (g.E.Emit.client c.args.emit.now) _ _ c.args.reads.now c.keep_into.new.self h0 h2 slots_read (g.E.Emit.client c.lefts.emit) (g.St.Store.holds c.meet.new.store) _ stays.emitter.client_same c.requires.emits.emitter.apart c.keep_into.ensures.went.step.shape (stood_of g.St.Store g.E.Emit c.lefts.emit c.meet.new.emit c.keep_into.new.store c.meet.new.store c.meet.ensures.stands).others (keep_of g.St.Store g.E.Emit c.lefts.emit c.meet.new.emit c.keep_into.new.store c.meet.new.store c.meet.ensures.stands);
      room = let room = room_read c.args.c.now.tracker (g.E.Emit.client c.args.emit.now) (g.St.Store.holds c.args.store.now) (g.St.Store.holds c.lefts.store) (g.St.Store.holds c.keep_into.new.store) c.lefts.invariant.room c.lefts.reads c.keep_into.new.self stays.readable.client c.keep_into.ensures.went.step.touches in room_handed c.args.c.now.tracker (g.E.Emit.client c.args.emit.now) (g.St.Store.holds c.args.store.now) (g.St.Store.holds c.keep_into.new.store) (g.St.Store.holds c.meet.new.store) room (g.E.Emit.client c.lefts.emit) stays.emitter.client_same c.requires.emits.emitter.apart (stood_of g.St.Store g.E.Emit c.lefts.emit c.meet.new.emit c.keep_into.new.store c.meet.new.store c.meet.ensures.stands).others (stood_of g.St.Store g.E.Emit c.lefts.emit c.meet.new.emit c.keep_into.new.store c.meet.new.store c.meet.ensures.stands).room;
      joined = joined_more c.args.turned c.args.shape.now (held_rows c.args.held.now) c.args.reads.now c.lefts.reads (g.St.Store.holds c.args.store.now) (g.St.Store.holds c.lefts.store) (g.E.Emit.took c.args.emit.now (g.St.Store.holds c.args.store.now)) (g.E.Emit.took c.lefts.emit (g.St.Store.holds c.lefts.store)) c.lefts.place c.lefts.invariant.joined c.keep_into.new.self (g.St.Store.holds c.keep_into.new.store) (g.St.Store.signs c.lefts.store) (g.St.Store.signs c.keep_into.new.store) c.args.c.now.tracker c.keep_into.new.place c.keep_into.new.out.items stays.beside.query.told stays.beside.rows reads (g.E.Emit.took c.lefts.emit (g.St.Store.holds c.keep_into.new.store)) still
          (g.St.Store.holds c.meet.new.store) (g.E.Emit.took c.meet.new.emit (g.St.Store.holds c.meet.new.store)) (stood_place c.args.c.now.tracker (g.E.Emit.client c.lefts.emit) c.keep_into.new.self (g.St.Store.holds c.keep_into.new.store) (g.St.Store.holds c.meet.new.store) (free_now _ _ _ _ _ _ _ _ _ _ _ _ _ _ _ c.requires.stream.client c.requires.emits.emitter.apart stays) read.readable.shape (stood_of g.St.Store g.E.Emit c.lefts.emit c.meet.new.emit c.keep_into.new.store c.meet.new.store c.meet.ensures.stands).others) c.in_ok-meet.ensures.ok;
    }
