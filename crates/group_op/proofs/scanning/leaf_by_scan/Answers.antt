use Rattle.std.proofs.Common.{rules, ◌≡◌, ◌∙◌, ℕ, ◌+◌, ◌*◌, ◌<◌, ◌-◌, List, ◌++◌, Option, true, length, take, ap, sym, subst, arith}
use Rattle.std.specs.Prelude.{IsSome}
use Rattle.row_codec.specs.declared.values.Value.{Value}
use Rattle.store_api.specs.Emitters.{CameOf}
use Rattle.store_api.specs.Signs.{WasAnswered}
use Rattle.store_api.proofs.Answered.{answered_before}
use Rattle.store_api.specs.declared.op_err.OpErr.TheVariants.{Pool}
use Rattle.tuple_stream.specs.Streamed.{Streamed}
use Rattle.tuple_stream.specs.Streams.{HasRows}
use Rattle.tuple_stream.specs.Touches.{slots_with}
use Rattle.group_op.specs.declared.lowest.Entry.{Entry}
use Rattle.group_op.specs.Causes.{CameBeside, IsWant, IsWantBelow, IsWantBelowOf}
use Rattle.group_op.specs.Emission.{AdmitsAll, Emitted, EmittedFront, WentOn}
use Rattle.group_op.specs.Keepings.{all_above, key_in, kept_in}
use Rattle.group_op.specs.Scanning.{groups_by_bytes}
use Rattle.partition_stack.proofs.Emitters.{came_behind}
use Rattle.partition_stack.proofs.Results.{any_err}
use Rattle.partition_stack.proofs.ReadFrames.{free_now, reads_own, stays_handed, stays_none, stays_read}
use Rattle.group_op.proofs.Emitting.{went_emitted, went_front}
use Rattle.group_op.proofs.Scans.{HasHanded, handed_all, handed_end, handed_first, handed_front, handed_none, handed_popped, handed_still, kept_admitted, kept_known}
use Rattle.group_op.proofs.Sharing.{alone_want, shares_handed, shares_none, shares_read}
use Rattle.group_op.proofs.Wants.{alone_below}
use Rattle.group_op.proofs.scanning.leaf_by_scan.Goals as goal

pub loop-left-init : goal.loop-left-init
loop-left-init g c =
    record {
      stays = stays_none c.args.c.now c.args.rows.now (g.St.Store.holds c.args.store.now) (g.St.Store.signs c.args.store.now) (g.E.Emit.admits c.args.emit.now) (g.E.Emit.client c.args.emit.now) (g.E.Emit.faults c.args.emit.now) (g.E.Emit.took c.args.emit.now (g.St.Store.holds c.args.store.now)) c.requires.stream c.requires.emitter.lives;
      shares = shares_none _ _ _ _ _;
      handed = λ rows told has. handed_none c.args.shape.now c.rows-left.result (g.E.Emit.took c.args.emit.now (g.St.Store.holds c.args.store.now)) rows (let count = has.counted in let left = c.rows-left.ensures in omega (arith, count, left));
    }

pub returns-in_err-keep_lowest-clause-err : goal.returns-in_err-keep_lowest-clause-err
returns-in_err-keep_lowest-clause-err g c =
    let stays = c.loop-left.invariant.stays in
    let still : (rows : List (List Value)) → g.E.Emit.took c.loop-left.emit (g.St.Store.holds c.loop-left.store) rows → g.E.Emit.took c.loop-left.emit (g.St.Store.holds c.keep_lowest.new.store) rows =
    (λ rows. g.met.E.Emit.asks_own c.loop-left.emit (g.St.Store.holds c.loop-left.store) (g.St.Store.holds c.keep_lowest.new.store) rows
    (reads_own c.args.c.now.tracker c.loop-left.rows c.keep_lowest.new.rows (g.St.Store.holds c.loop-left.store) (g.St.Store.holds c.keep_lowest.new.store) (g.St.Store.signs c.loop-left.store) (g.St.Store.signs c.keep_lowest.new.store) stays.readable.shape c.keep_lowest.ensures.went
    (g.E.Emit.client c.loop-left.emit) (free_now _ _ _ _ _ _ _ _ _ _ _ _ _ _ _ c.requires.stream.client c.requires.emitter.apart stays))) in
    let read = stays_read _ _ _ _ _ _ _ _ _ _ _ _ _ _ _ c.requires.stream.client c.requires.emitter.apart stays c.keep_lowest.new.rows (g.St.Store.holds c.keep_lowest.new.store) (g.St.Store.signs c.keep_lowest.new.store)
    (g.E.Emit.took c.loop-left.emit (g.St.Store.holds c.keep_lowest.new.store)) c.keep_lowest.ensures.went c.keep_lowest.ensures.same still in
    any_err c.from_residual.result (λ rows told has. handed_first c.args.shape.now (key_in c.loop-left.last) c.loop-left.left (g.E.Emit.took c.args.emit.now (g.St.Store.holds c.args.store.now)) (g.E.Emit.took c.loop-left.emit (g.St.Store.holds c.keep_lowest.new.store)) rows (handed_still c.args.shape.now (key_in c.loop-left.last) c.loop-left.left (g.E.Emit.took c.args.emit.now (g.St.Store.holds c.args.store.now)) _ rows (c.loop-left.invariant.handed rows told has) (g.E.Emit.took c.loop-left.emit (g.St.Store.holds c.keep_lowest.new.store)) still))

pub returns-in_err-keep_lowest-clause-stands : goal.returns-in_err-keep_lowest-clause-stands
returns-in_err-keep_lowest-clause-stands g c =
    let stays = c.loop-left.invariant.stays in
    let still : (rows : List (List Value)) → g.E.Emit.took c.loop-left.emit (g.St.Store.holds c.loop-left.store) rows → g.E.Emit.took c.loop-left.emit (g.St.Store.holds c.keep_lowest.new.store) rows =
    (λ rows. g.met.E.Emit.asks_own c.loop-left.emit (g.St.Store.holds c.loop-left.store) (g.St.Store.holds c.keep_lowest.new.store) rows
    (reads_own c.args.c.now.tracker c.loop-left.rows c.keep_lowest.new.rows (g.St.Store.holds c.loop-left.store) (g.St.Store.holds c.keep_lowest.new.store) (g.St.Store.signs c.loop-left.store) (g.St.Store.signs c.keep_lowest.new.store) stays.readable.shape c.keep_lowest.ensures.went
    (g.E.Emit.client c.loop-left.emit) (free_now _ _ _ _ _ _ _ _ _ _ _ _ _ _ _ c.requires.stream.client c.requires.emitter.apart stays))) in
    let read = stays_read _ _ _ _ _ _ _ _ _ _ _ _ _ _ _ c.requires.stream.client c.requires.emitter.apart stays c.keep_lowest.new.rows (g.St.Store.holds c.keep_lowest.new.store) (g.St.Store.signs c.keep_lowest.new.store)
    (g.E.Emit.took c.loop-left.emit (g.St.Store.holds c.keep_lowest.new.store)) c.keep_lowest.ensures.went c.keep_lowest.ensures.same still in
    read.went

pub returns-in_err-keep_lowest-clause-cause : goal.returns-in_err-keep_lowest-clause-cause
returns-in_err-keep_lowest-clause-cause g c =
    let stays = c.loop-left.invariant.stays in
    let came : WasAnswered c.in_err-keep_lowest.field-0.0 (g.St.Store.signs c.args.store.now) (g.St.Store.signs c.keep_lowest.new.store) =
    answered_before _ _ _ _ stays.emitter.grows c.in_err-keep_lowest.ensures.cause in
    let blocks : c.loop-left.rows.page_blocks ≡ c.args.rows.now.page_blocks = ap (λ (s : Streamed). s.page_blocks) stays.beside.same in
    let both : CameBeside c.args.rows.now.page_blocks (slots_with c.args.rows.now (g.St.Store.holds c.args.store.now)) (g.E.Emit.client c.args.emit.now) (g.E.Emit.faults c.args.emit.now) (g.E.Emit.faults c.loop-left.emit) (g.St.Store.signs c.args.store.now) (g.St.Store.signs c.keep_lowest.new.store) (Pool c.in_err-keep_lowest.field-0.0) =
    record {
      came = came;
      want = λ none.
          subst (λ (n : ℕ). IsWant n (slots_with c.args.rows.now (g.St.Store.holds c.args.store.now)) c.in_err-keep_lowest.field-0.0) blocks
          (subst (λ (o : Option ℕ). IsWant c.loop-left.rows.page_blocks o c.in_err-keep_lowest.field-0.0) (c.loop-left.invariant.shares.slots.alone none) c.in_err-keep_lowest.ensures.want);
    } in
    search (rules, both)

pub returns-in_err-keep_lowest-clause-stream : goal.returns-in_err-keep_lowest-clause-stream
returns-in_err-keep_lowest-clause-stream g c =
    let stays = c.loop-left.invariant.stays in
    let still : (rows : List (List Value)) → g.E.Emit.took c.loop-left.emit (g.St.Store.holds c.loop-left.store) rows → g.E.Emit.took c.loop-left.emit (g.St.Store.holds c.keep_lowest.new.store) rows =
    (λ rows. g.met.E.Emit.asks_own c.loop-left.emit (g.St.Store.holds c.loop-left.store) (g.St.Store.holds c.keep_lowest.new.store) rows
    (reads_own c.args.c.now.tracker c.loop-left.rows c.keep_lowest.new.rows (g.St.Store.holds c.loop-left.store) (g.St.Store.holds c.keep_lowest.new.store) (g.St.Store.signs c.loop-left.store) (g.St.Store.signs c.keep_lowest.new.store) stays.readable.shape c.keep_lowest.ensures.went
    (g.E.Emit.client c.loop-left.emit) (free_now _ _ _ _ _ _ _ _ _ _ _ _ _ _ _ c.requires.stream.client c.requires.emitter.apart stays))) in
    let read = stays_read _ _ _ _ _ _ _ _ _ _ _ _ _ _ _ c.requires.stream.client c.requires.emitter.apart stays c.keep_lowest.new.rows (g.St.Store.holds c.keep_lowest.new.store) (g.St.Store.signs c.keep_lowest.new.store)
    (g.E.Emit.took c.loop-left.emit (g.St.Store.holds c.keep_lowest.new.store)) c.keep_lowest.ensures.went c.keep_lowest.ensures.same still in
    let mid = shares_read c.args.c.now.tracker (g.E.Emit.client c.args.emit.now) (g.E.Emit.slots c.args.emit.now (g.St.Store.holds c.args.store.now)) (g.E.Emit.slots c.loop-left.emit (g.St.Store.holds c.loop-left.store)) c.args.rows.now c.loop-left.rows (g.St.Store.holds c.args.store.now) (g.St.Store.holds c.loop-left.store) c.loop-left.invariant.shares c.keep_lowest.new.rows (g.St.Store.holds c.keep_lowest.new.store) (g.St.Store.signs c.loop-left.store) (g.St.Store.signs c.keep_lowest.new.store) (g.E.Emit.slots c.loop-left.emit (g.St.Store.holds c.keep_lowest.new.store)) stays.readable.client c.keep_lowest.ensures.went
    (g.met.E.Emit.slots_own c.loop-left.emit (g.St.Store.holds c.loop-left.store) (g.St.Store.holds c.keep_lowest.new.store) (reads_own c.args.c.now.tracker c.loop-left.rows c.keep_lowest.new.rows (g.St.Store.holds c.loop-left.store) (g.St.Store.holds c.keep_lowest.new.store) (g.St.Store.signs c.loop-left.store) (g.St.Store.signs c.keep_lowest.new.store) stays.readable.shape c.keep_lowest.ensures.went
    (g.E.Emit.client c.loop-left.emit) (free_now _ _ _ _ _ _ _ _ _ _ _ _ _ _ _ c.requires.stream.client c.requires.emitter.apart stays))) in
    record { read = read.beside; shares = mid }

pub returns-in_err-keep_lowest-clause-emitter : goal.returns-in_err-keep_lowest-clause-emitter
returns-in_err-keep_lowest-clause-emitter g c =
    let stays = c.loop-left.invariant.stays in
    let still : (rows : List (List Value)) → g.E.Emit.took c.loop-left.emit (g.St.Store.holds c.loop-left.store) rows → g.E.Emit.took c.loop-left.emit (g.St.Store.holds c.keep_lowest.new.store) rows =
    (λ rows. g.met.E.Emit.asks_own c.loop-left.emit (g.St.Store.holds c.loop-left.store) (g.St.Store.holds c.keep_lowest.new.store) rows
    (reads_own c.args.c.now.tracker c.loop-left.rows c.keep_lowest.new.rows (g.St.Store.holds c.loop-left.store) (g.St.Store.holds c.keep_lowest.new.store) (g.St.Store.signs c.loop-left.store) (g.St.Store.signs c.keep_lowest.new.store) stays.readable.shape c.keep_lowest.ensures.went
    (g.E.Emit.client c.loop-left.emit) (free_now _ _ _ _ _ _ _ _ _ _ _ _ _ _ _ c.requires.stream.client c.requires.emitter.apart stays))) in
    let read = stays_read _ _ _ _ _ _ _ _ _ _ _ _ _ _ _ c.requires.stream.client c.requires.emitter.apart stays c.keep_lowest.new.rows (g.St.Store.holds c.keep_lowest.new.store) (g.St.Store.signs c.keep_lowest.new.store)
    (g.E.Emit.took c.loop-left.emit (g.St.Store.holds c.keep_lowest.new.store)) c.keep_lowest.ensures.went c.keep_lowest.ensures.same still in
    read.emitter

pub hand_on-requires-clause-stands : goal.hand_on-requires-clause-stands
hand_on-requires-clause-stands g c =
    let stays = c.loop-left.invariant.stays in
    let still : (rows : List (List Value)) → g.E.Emit.took c.loop-left.emit (g.St.Store.holds c.loop-left.store) rows → g.E.Emit.took c.loop-left.emit (g.St.Store.holds c.keep_lowest.new.store) rows =
    (λ rows. g.met.E.Emit.asks_own c.loop-left.emit (g.St.Store.holds c.loop-left.store) (g.St.Store.holds c.keep_lowest.new.store) rows
    (reads_own c.args.c.now.tracker c.loop-left.rows c.keep_lowest.new.rows (g.St.Store.holds c.loop-left.store) (g.St.Store.holds c.keep_lowest.new.store) (g.St.Store.signs c.loop-left.store) (g.St.Store.signs c.keep_lowest.new.store) stays.readable.shape c.keep_lowest.ensures.went
    (g.E.Emit.client c.loop-left.emit) (free_now _ _ _ _ _ _ _ _ _ _ _ _ _ _ _ c.requires.stream.client c.requires.emitter.apart stays))) in
    let read = stays_read _ _ _ _ _ _ _ _ _ _ _ _ _ _ _ c.requires.stream.client c.requires.emitter.apart stays c.keep_lowest.new.rows (g.St.Store.holds c.keep_lowest.new.store) (g.St.Store.signs c.keep_lowest.new.store)
    (g.E.Emit.took c.loop-left.emit (g.St.Store.holds c.keep_lowest.new.store)) c.keep_lowest.ensures.went c.keep_lowest.ensures.same still in
    let more = read.went c.requires.stands.0 c.requires.stands.1 in
    (c.requires.stands.0 ++ more.0, more.1)

pub hand_on-requires-clause-admits : goal.hand_on-requires-clause-admits
hand_on-requires-clause-admits g c =
    let stays = c.loop-left.invariant.stays in
    subst (λ (es : List Entry). AdmitsAll c.args.shape.now (g.E.Emit.admits c.loop-left.emit) (kept_in c.args.shape.now es)) (sym c.deref.ensures.value)
    (kept_admitted c.args.shape.now c.args.room (key_in c.loop-left.last) c.keep_lowest.new.entries.items c.args.c.now.tracker (g.E.Emit.client c.args.emit.now) c.args.rows.now c.loop-left.rows (g.St.Store.holds c.args.store.now) (g.St.Store.holds c.loop-left.store) (g.E.Emit.admits c.args.emit.now) (g.E.Emit.admits c.loop-left.emit)
    c.in_ok-keep_lowest.ensures.kept stays.beside (λ row. (stays.emitter.admits_same row).0) c.requires.admits)

pub returns-in_err-hand_on-clause-err : goal.returns-in_err-hand_on-clause-err
returns-in_err-hand_on-clause-err g c =
    let stays = c.loop-left.invariant.stays in
    let still : (rows : List (List Value)) → g.E.Emit.took c.loop-left.emit (g.St.Store.holds c.loop-left.store) rows → g.E.Emit.took c.loop-left.emit (g.St.Store.holds c.keep_lowest.new.store) rows =
    (λ rows. g.met.E.Emit.asks_own c.loop-left.emit (g.St.Store.holds c.loop-left.store) (g.St.Store.holds c.keep_lowest.new.store) rows
    (reads_own c.args.c.now.tracker c.loop-left.rows c.keep_lowest.new.rows (g.St.Store.holds c.loop-left.store) (g.St.Store.holds c.keep_lowest.new.store) (g.St.Store.signs c.loop-left.store) (g.St.Store.signs c.keep_lowest.new.store) stays.readable.shape c.keep_lowest.ensures.went
    (g.E.Emit.client c.loop-left.emit) (free_now _ _ _ _ _ _ _ _ _ _ _ _ _ _ _ c.requires.stream.client c.requires.emitter.apart stays))) in
    let read = stays_read _ _ _ _ _ _ _ _ _ _ _ _ _ _ _ c.requires.stream.client c.requires.emitter.apart stays c.keep_lowest.new.rows (g.St.Store.holds c.keep_lowest.new.store) (g.St.Store.signs c.keep_lowest.new.store)
    (g.E.Emit.took c.loop-left.emit (g.St.Store.holds c.keep_lowest.new.store)) c.keep_lowest.ensures.went c.keep_lowest.ensures.same still in
    let known : (rows : List (List ℕ)) → (g.St.Store.holds c.args.store.now).told ≡ true → HasRows rows c.args.rows.now (g.St.Store.holds c.args.store.now) → kept_in c.args.shape.now c.keep_lowest.new.entries.items ≡ take c.args.room (all_above (key_in c.loop-left.last) (groups_by_bytes c.args.shape.now rows)) =
    (λ rows told has. kept_known c.args.shape.now c.args.room (key_in c.loop-left.last) c.keep_lowest.new.entries.items c.loop-left.rows (g.St.Store.holds c.loop-left.store) rows c.in_ok-keep_lowest.ensures.kept (stays.beside.query.told ∙ told) (stays.beside.rows rows told has)) in
    let handed : (rows : List (List ℕ)) → (g.St.Store.holds c.args.store.now).told ≡ true → HasRows rows c.args.rows.now (g.St.Store.holds c.args.store.now) → HasHanded c.args.shape.now (key_in c.loop-left.last) c.loop-left.left (g.E.Emit.took c.args.emit.now (g.St.Store.holds c.args.store.now)) (g.E.Emit.took c.loop-left.emit (g.St.Store.holds c.keep_lowest.new.store)) rows =
    (λ rows told has. handed_still c.args.shape.now (key_in c.loop-left.last) c.loop-left.left (g.E.Emit.took c.args.emit.now (g.St.Store.holds c.args.store.now)) _ rows (c.loop-left.invariant.handed rows told has) (g.E.Emit.took c.loop-left.emit (g.St.Store.holds c.keep_lowest.new.store)) still) in
    let front = subst (λ (es : List Entry). EmittedFront c.args.shape.now (g.E.Emit.took c.loop-left.emit (g.St.Store.holds c.keep_lowest.new.store)) (g.E.Emit.took c.hand_on.new.emit (g.St.Store.holds c.hand_on.new.store)) (kept_in c.args.shape.now es)) c.deref.ensures.value c.in_err-hand_on.ensures.err in
    any_err c.from_residual-in_err-hand_on.result (λ rows told has. handed_front c.args.shape.now (key_in c.loop-left.last) c.loop-left.left (g.E.Emit.took c.args.emit.now (g.St.Store.holds c.args.store.now)) (g.E.Emit.took c.loop-left.emit (g.St.Store.holds c.keep_lowest.new.store)) rows (handed rows told has) c.args.room c.keep_lowest.new.entries.items (known rows told has) (g.E.Emit.took c.hand_on.new.emit (g.St.Store.holds c.hand_on.new.store)) front)

pub returns-in_err-hand_on-clause-stands : goal.returns-in_err-hand_on-clause-stands
returns-in_err-hand_on-clause-stands g c =
    let stays = c.loop-left.invariant.stays in
    let still : (rows : List (List Value)) → g.E.Emit.took c.loop-left.emit (g.St.Store.holds c.loop-left.store) rows → g.E.Emit.took c.loop-left.emit (g.St.Store.holds c.keep_lowest.new.store) rows =
    (λ rows. g.met.E.Emit.asks_own c.loop-left.emit (g.St.Store.holds c.loop-left.store) (g.St.Store.holds c.keep_lowest.new.store) rows
    (reads_own c.args.c.now.tracker c.loop-left.rows c.keep_lowest.new.rows (g.St.Store.holds c.loop-left.store) (g.St.Store.holds c.keep_lowest.new.store) (g.St.Store.signs c.loop-left.store) (g.St.Store.signs c.keep_lowest.new.store) stays.readable.shape c.keep_lowest.ensures.went
    (g.E.Emit.client c.loop-left.emit) (free_now _ _ _ _ _ _ _ _ _ _ _ _ _ _ _ c.requires.stream.client c.requires.emitter.apart stays))) in
    let read = stays_read _ _ _ _ _ _ _ _ _ _ _ _ _ _ _ c.requires.stream.client c.requires.emitter.apart stays c.keep_lowest.new.rows (g.St.Store.holds c.keep_lowest.new.store) (g.St.Store.signs c.keep_lowest.new.store)
    (g.E.Emit.took c.loop-left.emit (g.St.Store.holds c.keep_lowest.new.store)) c.keep_lowest.ensures.went c.keep_lowest.ensures.same still in
    let on : WentOn (g.E.Emit.took c.loop-left.emit (g.St.Store.holds c.keep_lowest.new.store)) (g.E.Emit.took c.hand_on.new.emit (g.St.Store.holds c.hand_on.new.store)) = went_front c.in_err-hand_on.ensures.err in
    let all = stays_handed _ _ _ _ _ _ _ _ _ _ _ _ _ _ _ c.requires.stream.client c.requires.emitter.apart read (g.St.Store.holds c.hand_on.new.store) (g.St.Store.signs c.hand_on.new.store) (g.E.Emit.admits c.hand_on.new.emit) (g.E.Emit.client c.hand_on.new.emit) (g.E.Emit.faults c.hand_on.new.emit)
    (g.E.Emit.took c.hand_on.new.emit (g.St.Store.holds c.hand_on.new.store)) c.hand_on.ensures.stood on in
    all.went

pub returns-in_err-hand_on-clause-cause : goal.returns-in_err-hand_on-clause-cause
returns-in_err-hand_on-clause-cause g c =
    let stays = c.loop-left.invariant.stays in
    let still : (rows : List (List Value)) → g.E.Emit.took c.loop-left.emit (g.St.Store.holds c.loop-left.store) rows → g.E.Emit.took c.loop-left.emit (g.St.Store.holds c.keep_lowest.new.store) rows =
    (λ rows. g.met.E.Emit.asks_own c.loop-left.emit (g.St.Store.holds c.loop-left.store) (g.St.Store.holds c.keep_lowest.new.store) rows
    (reads_own c.args.c.now.tracker c.loop-left.rows c.keep_lowest.new.rows (g.St.Store.holds c.loop-left.store) (g.St.Store.holds c.keep_lowest.new.store) (g.St.Store.signs c.loop-left.store) (g.St.Store.signs c.keep_lowest.new.store) stays.readable.shape c.keep_lowest.ensures.went
    (g.E.Emit.client c.loop-left.emit) (free_now _ _ _ _ _ _ _ _ _ _ _ _ _ _ _ c.requires.stream.client c.requires.emitter.apart stays))) in
    let read = stays_read _ _ _ _ _ _ _ _ _ _ _ _ _ _ _ c.requires.stream.client c.requires.emitter.apart stays c.keep_lowest.new.rows (g.St.Store.holds c.keep_lowest.new.store) (g.St.Store.signs c.keep_lowest.new.store)
    (g.E.Emit.took c.loop-left.emit (g.St.Store.holds c.keep_lowest.new.store)) c.keep_lowest.ensures.went c.keep_lowest.ensures.same still in
    let came : CameOf (g.E.Emit.faults c.args.emit.now) (g.E.Emit.faults c.hand_on.new.emit) (g.St.Store.signs c.args.store.now) (g.St.Store.signs c.hand_on.new.store) c.in_err-hand_on.field-0.0 =
    came_behind _ _ _ _ _ _ _ read.emitter.never_falls read.emitter.grows c.in_err-hand_on.ensures.cause in
    let both : CameBeside c.args.rows.now.page_blocks (slots_with c.args.rows.now (g.St.Store.holds c.args.store.now)) (g.E.Emit.client c.args.emit.now) (g.E.Emit.faults c.args.emit.now) (g.E.Emit.faults c.hand_on.new.emit) (g.St.Store.signs c.args.store.now) (g.St.Store.signs c.hand_on.new.store) c.in_err-hand_on.field-0.0 =
    record { came = came; want = λ none. alone_want c.args.rows.now.page_blocks _ _ _ _ _ c.in_err-hand_on.field-0.0 (c.hand_on.ensures.stood.alone (stays.emitter.client_same ∙ none)) c.in_err-hand_on.ensures.cause } in
    search (rules, both)

pub returns-in_err-hand_on-clause-stream : goal.returns-in_err-hand_on-clause-stream
returns-in_err-hand_on-clause-stream g c =
    let stays = c.loop-left.invariant.stays in
    let still : (rows : List (List Value)) → g.E.Emit.took c.loop-left.emit (g.St.Store.holds c.loop-left.store) rows → g.E.Emit.took c.loop-left.emit (g.St.Store.holds c.keep_lowest.new.store) rows =
    (λ rows. g.met.E.Emit.asks_own c.loop-left.emit (g.St.Store.holds c.loop-left.store) (g.St.Store.holds c.keep_lowest.new.store) rows
    (reads_own c.args.c.now.tracker c.loop-left.rows c.keep_lowest.new.rows (g.St.Store.holds c.loop-left.store) (g.St.Store.holds c.keep_lowest.new.store) (g.St.Store.signs c.loop-left.store) (g.St.Store.signs c.keep_lowest.new.store) stays.readable.shape c.keep_lowest.ensures.went
    (g.E.Emit.client c.loop-left.emit) (free_now _ _ _ _ _ _ _ _ _ _ _ _ _ _ _ c.requires.stream.client c.requires.emitter.apart stays))) in
    let read = stays_read _ _ _ _ _ _ _ _ _ _ _ _ _ _ _ c.requires.stream.client c.requires.emitter.apart stays c.keep_lowest.new.rows (g.St.Store.holds c.keep_lowest.new.store) (g.St.Store.signs c.keep_lowest.new.store)
    (g.E.Emit.took c.loop-left.emit (g.St.Store.holds c.keep_lowest.new.store)) c.keep_lowest.ensures.went c.keep_lowest.ensures.same still in
    let on : WentOn (g.E.Emit.took c.loop-left.emit (g.St.Store.holds c.keep_lowest.new.store)) (g.E.Emit.took c.hand_on.new.emit (g.St.Store.holds c.hand_on.new.store)) = went_front c.in_err-hand_on.ensures.err in
    let all = stays_handed _ _ _ _ _ _ _ _ _ _ _ _ _ _ _ c.requires.stream.client c.requires.emitter.apart read (g.St.Store.holds c.hand_on.new.store) (g.St.Store.signs c.hand_on.new.store) (g.E.Emit.admits c.hand_on.new.emit) (g.E.Emit.client c.hand_on.new.emit) (g.E.Emit.faults c.hand_on.new.emit)
    (g.E.Emit.took c.hand_on.new.emit (g.St.Store.holds c.hand_on.new.store)) c.hand_on.ensures.stood on in
    let mid = shares_read c.args.c.now.tracker (g.E.Emit.client c.args.emit.now) (g.E.Emit.slots c.args.emit.now (g.St.Store.holds c.args.store.now)) (g.E.Emit.slots c.loop-left.emit (g.St.Store.holds c.loop-left.store)) c.args.rows.now c.loop-left.rows (g.St.Store.holds c.args.store.now) (g.St.Store.holds c.loop-left.store) c.loop-left.invariant.shares c.keep_lowest.new.rows (g.St.Store.holds c.keep_lowest.new.store) (g.St.Store.signs c.loop-left.store) (g.St.Store.signs c.keep_lowest.new.store) (g.E.Emit.slots c.loop-left.emit (g.St.Store.holds c.keep_lowest.new.store)) stays.readable.client c.keep_lowest.ensures.went
    (g.met.E.Emit.slots_own c.loop-left.emit (g.St.Store.holds c.loop-left.store) (g.St.Store.holds c.keep_lowest.new.store) (reads_own c.args.c.now.tracker c.loop-left.rows c.keep_lowest.new.rows (g.St.Store.holds c.loop-left.store) (g.St.Store.holds c.keep_lowest.new.store) (g.St.Store.signs c.loop-left.store) (g.St.Store.signs c.keep_lowest.new.store) stays.readable.shape c.keep_lowest.ensures.went
    (g.E.Emit.client c.loop-left.emit) (free_now _ _ _ _ _ _ _ _ _ _ _ _ _ _ _ c.requires.stream.client c.requires.emitter.apart stays))) in
    let end = shares_handed c.args.c.now.tracker (g.E.Emit.client c.args.emit.now) (g.E.Emit.slots c.args.emit.now (g.St.Store.holds c.args.store.now)) (g.E.Emit.slots c.loop-left.emit (g.St.Store.holds c.keep_lowest.new.store)) c.args.rows.now c.keep_lowest.new.rows (g.St.Store.holds c.args.store.now) (g.St.Store.holds c.keep_lowest.new.store) mid (g.E.Emit.client c.loop-left.emit) (g.St.Store.holds c.hand_on.new.store) (g.E.Emit.slots c.hand_on.new.emit (g.St.Store.holds c.hand_on.new.store)) stays.emitter.client_same c.requires.emitter.apart read.readable.shape
    c.hand_on.ensures.stood.others c.hand_on.ensures.stood.room c.hand_on.ensures.slots in
    record { read = all.beside; shares = end }

pub returns-in_err-hand_on-clause-emitter : goal.returns-in_err-hand_on-clause-emitter
returns-in_err-hand_on-clause-emitter g c =
    let stays = c.loop-left.invariant.stays in
    let still : (rows : List (List Value)) → g.E.Emit.took c.loop-left.emit (g.St.Store.holds c.loop-left.store) rows → g.E.Emit.took c.loop-left.emit (g.St.Store.holds c.keep_lowest.new.store) rows =
    (λ rows. g.met.E.Emit.asks_own c.loop-left.emit (g.St.Store.holds c.loop-left.store) (g.St.Store.holds c.keep_lowest.new.store) rows
    (reads_own c.args.c.now.tracker c.loop-left.rows c.keep_lowest.new.rows (g.St.Store.holds c.loop-left.store) (g.St.Store.holds c.keep_lowest.new.store) (g.St.Store.signs c.loop-left.store) (g.St.Store.signs c.keep_lowest.new.store) stays.readable.shape c.keep_lowest.ensures.went
    (g.E.Emit.client c.loop-left.emit) (free_now _ _ _ _ _ _ _ _ _ _ _ _ _ _ _ c.requires.stream.client c.requires.emitter.apart stays))) in
    let read = stays_read _ _ _ _ _ _ _ _ _ _ _ _ _ _ _ c.requires.stream.client c.requires.emitter.apart stays c.keep_lowest.new.rows (g.St.Store.holds c.keep_lowest.new.store) (g.St.Store.signs c.keep_lowest.new.store)
    (g.E.Emit.took c.loop-left.emit (g.St.Store.holds c.keep_lowest.new.store)) c.keep_lowest.ensures.went c.keep_lowest.ensures.same still in
    let on : WentOn (g.E.Emit.took c.loop-left.emit (g.St.Store.holds c.keep_lowest.new.store)) (g.E.Emit.took c.hand_on.new.emit (g.St.Store.holds c.hand_on.new.store)) = went_front c.in_err-hand_on.ensures.err in
    let all = stays_handed _ _ _ _ _ _ _ _ _ _ _ _ _ _ _ c.requires.stream.client c.requires.emitter.apart read (g.St.Store.holds c.hand_on.new.store) (g.St.Store.signs c.hand_on.new.store) (g.E.Emit.admits c.hand_on.new.emit) (g.E.Emit.client c.hand_on.new.emit) (g.E.Emit.faults c.hand_on.new.emit)
    (g.E.Emit.took c.hand_on.new.emit (g.St.Store.holds c.hand_on.new.store)) c.hand_on.ensures.stood on in
    all.emitter

pub returns-then-len-room-clause-ok : goal.returns-then-len-room-clause-ok
returns-then-len-room-clause-ok g c =
    let stays = c.loop-left.invariant.stays in
    let still : (rows : List (List Value)) → g.E.Emit.took c.loop-left.emit (g.St.Store.holds c.loop-left.store) rows → g.E.Emit.took c.loop-left.emit (g.St.Store.holds c.keep_lowest.new.store) rows =
    (λ rows. g.met.E.Emit.asks_own c.loop-left.emit (g.St.Store.holds c.loop-left.store) (g.St.Store.holds c.keep_lowest.new.store) rows
    (reads_own c.args.c.now.tracker c.loop-left.rows c.keep_lowest.new.rows (g.St.Store.holds c.loop-left.store) (g.St.Store.holds c.keep_lowest.new.store) (g.St.Store.signs c.loop-left.store) (g.St.Store.signs c.keep_lowest.new.store) stays.readable.shape c.keep_lowest.ensures.went
    (g.E.Emit.client c.loop-left.emit) (free_now _ _ _ _ _ _ _ _ _ _ _ _ _ _ _ c.requires.stream.client c.requires.emitter.apart stays))) in
    let read = stays_read _ _ _ _ _ _ _ _ _ _ _ _ _ _ _ c.requires.stream.client c.requires.emitter.apart stays c.keep_lowest.new.rows (g.St.Store.holds c.keep_lowest.new.store) (g.St.Store.signs c.keep_lowest.new.store)
    (g.E.Emit.took c.loop-left.emit (g.St.Store.holds c.keep_lowest.new.store)) c.keep_lowest.ensures.went c.keep_lowest.ensures.same still in
    let known : (rows : List (List ℕ)) → (g.St.Store.holds c.args.store.now).told ≡ true → HasRows rows c.args.rows.now (g.St.Store.holds c.args.store.now) → kept_in c.args.shape.now c.keep_lowest.new.entries.items ≡ take c.args.room (all_above (key_in c.loop-left.last) (groups_by_bytes c.args.shape.now rows)) =
    (λ rows told has. kept_known c.args.shape.now c.args.room (key_in c.loop-left.last) c.keep_lowest.new.entries.items c.loop-left.rows (g.St.Store.holds c.loop-left.store) rows c.in_ok-keep_lowest.ensures.kept (stays.beside.query.told ∙ told) (stays.beside.rows rows told has)) in
    let handed : (rows : List (List ℕ)) → (g.St.Store.holds c.args.store.now).told ≡ true → HasRows rows c.args.rows.now (g.St.Store.holds c.args.store.now) → HasHanded c.args.shape.now (key_in c.loop-left.last) c.loop-left.left (g.E.Emit.took c.args.emit.now (g.St.Store.holds c.args.store.now)) (g.E.Emit.took c.loop-left.emit (g.St.Store.holds c.keep_lowest.new.store)) rows =
    (λ rows told has. handed_still c.args.shape.now (key_in c.loop-left.last) c.loop-left.left (g.E.Emit.took c.args.emit.now (g.St.Store.holds c.args.store.now)) _ rows (c.loop-left.invariant.handed rows told has) (g.E.Emit.took c.loop-left.emit (g.St.Store.holds c.keep_lowest.new.store)) still) in
    let emitted = subst (λ (es : List Entry). Emitted c.args.shape.now (g.E.Emit.took c.loop-left.emit (g.St.Store.holds c.keep_lowest.new.store)) (g.E.Emit.took c.hand_on.new.emit (g.St.Store.holds c.hand_on.new.store)) (kept_in c.args.shape.now es)) c.deref.ensures.value c.in_ok-hand_on.ensures.ok in
    let short : length c.keep_lowest.new.entries.items < c.args.room = search rules in
    λ rows told has. handed_all c.args.shape.now (key_in c.loop-left.last) c.loop-left.left (g.E.Emit.took c.args.emit.now (g.St.Store.holds c.args.store.now)) (g.E.Emit.took c.loop-left.emit (g.St.Store.holds c.keep_lowest.new.store)) rows (handed rows told has) c.args.room c.keep_lowest.new.entries.items (known rows told has) (g.E.Emit.took c.hand_on.new.emit (g.St.Store.holds c.hand_on.new.store)) short emitted

pub returns-then-len-room-clause-stands : goal.returns-then-len-room-clause-stands
returns-then-len-room-clause-stands g c =
    let stays = c.loop-left.invariant.stays in
    let still : (rows : List (List Value)) → g.E.Emit.took c.loop-left.emit (g.St.Store.holds c.loop-left.store) rows → g.E.Emit.took c.loop-left.emit (g.St.Store.holds c.keep_lowest.new.store) rows =
    (λ rows. g.met.E.Emit.asks_own c.loop-left.emit (g.St.Store.holds c.loop-left.store) (g.St.Store.holds c.keep_lowest.new.store) rows
    (reads_own c.args.c.now.tracker c.loop-left.rows c.keep_lowest.new.rows (g.St.Store.holds c.loop-left.store) (g.St.Store.holds c.keep_lowest.new.store) (g.St.Store.signs c.loop-left.store) (g.St.Store.signs c.keep_lowest.new.store) stays.readable.shape c.keep_lowest.ensures.went
    (g.E.Emit.client c.loop-left.emit) (free_now _ _ _ _ _ _ _ _ _ _ _ _ _ _ _ c.requires.stream.client c.requires.emitter.apart stays))) in
    let read = stays_read _ _ _ _ _ _ _ _ _ _ _ _ _ _ _ c.requires.stream.client c.requires.emitter.apart stays c.keep_lowest.new.rows (g.St.Store.holds c.keep_lowest.new.store) (g.St.Store.signs c.keep_lowest.new.store)
    (g.E.Emit.took c.loop-left.emit (g.St.Store.holds c.keep_lowest.new.store)) c.keep_lowest.ensures.went c.keep_lowest.ensures.same still in
    let on : WentOn (g.E.Emit.took c.loop-left.emit (g.St.Store.holds c.keep_lowest.new.store)) (g.E.Emit.took c.hand_on.new.emit (g.St.Store.holds c.hand_on.new.store)) = went_emitted c.in_ok-hand_on.ensures.ok in
    let all = stays_handed _ _ _ _ _ _ _ _ _ _ _ _ _ _ _ c.requires.stream.client c.requires.emitter.apart read (g.St.Store.holds c.hand_on.new.store) (g.St.Store.signs c.hand_on.new.store) (g.E.Emit.admits c.hand_on.new.emit) (g.E.Emit.client c.hand_on.new.emit) (g.E.Emit.faults c.hand_on.new.emit)
    (g.E.Emit.took c.hand_on.new.emit (g.St.Store.holds c.hand_on.new.store)) c.hand_on.ensures.stood on in
    all.went

pub returns-then-len-room-clause-stream : goal.returns-then-len-room-clause-stream
returns-then-len-room-clause-stream g c =
    let stays = c.loop-left.invariant.stays in
    let still : (rows : List (List Value)) → g.E.Emit.took c.loop-left.emit (g.St.Store.holds c.loop-left.store) rows → g.E.Emit.took c.loop-left.emit (g.St.Store.holds c.keep_lowest.new.store) rows =
    (λ rows. g.met.E.Emit.asks_own c.loop-left.emit (g.St.Store.holds c.loop-left.store) (g.St.Store.holds c.keep_lowest.new.store) rows
    (reads_own c.args.c.now.tracker c.loop-left.rows c.keep_lowest.new.rows (g.St.Store.holds c.loop-left.store) (g.St.Store.holds c.keep_lowest.new.store) (g.St.Store.signs c.loop-left.store) (g.St.Store.signs c.keep_lowest.new.store) stays.readable.shape c.keep_lowest.ensures.went
    (g.E.Emit.client c.loop-left.emit) (free_now _ _ _ _ _ _ _ _ _ _ _ _ _ _ _ c.requires.stream.client c.requires.emitter.apart stays))) in
    let read = stays_read _ _ _ _ _ _ _ _ _ _ _ _ _ _ _ c.requires.stream.client c.requires.emitter.apart stays c.keep_lowest.new.rows (g.St.Store.holds c.keep_lowest.new.store) (g.St.Store.signs c.keep_lowest.new.store)
    (g.E.Emit.took c.loop-left.emit (g.St.Store.holds c.keep_lowest.new.store)) c.keep_lowest.ensures.went c.keep_lowest.ensures.same still in
    let on : WentOn (g.E.Emit.took c.loop-left.emit (g.St.Store.holds c.keep_lowest.new.store)) (g.E.Emit.took c.hand_on.new.emit (g.St.Store.holds c.hand_on.new.store)) = went_emitted c.in_ok-hand_on.ensures.ok in
    let all = stays_handed _ _ _ _ _ _ _ _ _ _ _ _ _ _ _ c.requires.stream.client c.requires.emitter.apart read (g.St.Store.holds c.hand_on.new.store) (g.St.Store.signs c.hand_on.new.store) (g.E.Emit.admits c.hand_on.new.emit) (g.E.Emit.client c.hand_on.new.emit) (g.E.Emit.faults c.hand_on.new.emit)
    (g.E.Emit.took c.hand_on.new.emit (g.St.Store.holds c.hand_on.new.store)) c.hand_on.ensures.stood on in
    let mid = shares_read c.args.c.now.tracker (g.E.Emit.client c.args.emit.now) (g.E.Emit.slots c.args.emit.now (g.St.Store.holds c.args.store.now)) (g.E.Emit.slots c.loop-left.emit (g.St.Store.holds c.loop-left.store)) c.args.rows.now c.loop-left.rows (g.St.Store.holds c.args.store.now) (g.St.Store.holds c.loop-left.store) c.loop-left.invariant.shares c.keep_lowest.new.rows (g.St.Store.holds c.keep_lowest.new.store) (g.St.Store.signs c.loop-left.store) (g.St.Store.signs c.keep_lowest.new.store) (g.E.Emit.slots c.loop-left.emit (g.St.Store.holds c.keep_lowest.new.store)) stays.readable.client c.keep_lowest.ensures.went
    (g.met.E.Emit.slots_own c.loop-left.emit (g.St.Store.holds c.loop-left.store) (g.St.Store.holds c.keep_lowest.new.store) (reads_own c.args.c.now.tracker c.loop-left.rows c.keep_lowest.new.rows (g.St.Store.holds c.loop-left.store) (g.St.Store.holds c.keep_lowest.new.store) (g.St.Store.signs c.loop-left.store) (g.St.Store.signs c.keep_lowest.new.store) stays.readable.shape c.keep_lowest.ensures.went
    (g.E.Emit.client c.loop-left.emit) (free_now _ _ _ _ _ _ _ _ _ _ _ _ _ _ _ c.requires.stream.client c.requires.emitter.apart stays))) in
    let end = shares_handed c.args.c.now.tracker (g.E.Emit.client c.args.emit.now) (g.E.Emit.slots c.args.emit.now (g.St.Store.holds c.args.store.now)) (g.E.Emit.slots c.loop-left.emit (g.St.Store.holds c.keep_lowest.new.store)) c.args.rows.now c.keep_lowest.new.rows (g.St.Store.holds c.args.store.now) (g.St.Store.holds c.keep_lowest.new.store) mid (g.E.Emit.client c.loop-left.emit) (g.St.Store.holds c.hand_on.new.store) (g.E.Emit.slots c.hand_on.new.emit (g.St.Store.holds c.hand_on.new.store)) stays.emitter.client_same c.requires.emitter.apart read.readable.shape
    c.hand_on.ensures.stood.others c.hand_on.ensures.stood.room c.hand_on.ensures.slots in
    record { read = all.beside; shares = end }

pub returns-then-len-room-clause-emitter : goal.returns-then-len-room-clause-emitter
returns-then-len-room-clause-emitter g c =
    let stays = c.loop-left.invariant.stays in
    let still : (rows : List (List Value)) → g.E.Emit.took c.loop-left.emit (g.St.Store.holds c.loop-left.store) rows → g.E.Emit.took c.loop-left.emit (g.St.Store.holds c.keep_lowest.new.store) rows =
    (λ rows. g.met.E.Emit.asks_own c.loop-left.emit (g.St.Store.holds c.loop-left.store) (g.St.Store.holds c.keep_lowest.new.store) rows
    (reads_own c.args.c.now.tracker c.loop-left.rows c.keep_lowest.new.rows (g.St.Store.holds c.loop-left.store) (g.St.Store.holds c.keep_lowest.new.store) (g.St.Store.signs c.loop-left.store) (g.St.Store.signs c.keep_lowest.new.store) stays.readable.shape c.keep_lowest.ensures.went
    (g.E.Emit.client c.loop-left.emit) (free_now _ _ _ _ _ _ _ _ _ _ _ _ _ _ _ c.requires.stream.client c.requires.emitter.apart stays))) in
    let read = stays_read _ _ _ _ _ _ _ _ _ _ _ _ _ _ _ c.requires.stream.client c.requires.emitter.apart stays c.keep_lowest.new.rows (g.St.Store.holds c.keep_lowest.new.store) (g.St.Store.signs c.keep_lowest.new.store)
    (g.E.Emit.took c.loop-left.emit (g.St.Store.holds c.keep_lowest.new.store)) c.keep_lowest.ensures.went c.keep_lowest.ensures.same still in
    let on : WentOn (g.E.Emit.took c.loop-left.emit (g.St.Store.holds c.keep_lowest.new.store)) (g.E.Emit.took c.hand_on.new.emit (g.St.Store.holds c.hand_on.new.store)) = went_emitted c.in_ok-hand_on.ensures.ok in
    let all = stays_handed _ _ _ _ _ _ _ _ _ _ _ _ _ _ _ c.requires.stream.client c.requires.emitter.apart read (g.St.Store.holds c.hand_on.new.store) (g.St.Store.signs c.hand_on.new.store) (g.E.Emit.admits c.hand_on.new.emit) (g.E.Emit.client c.hand_on.new.emit) (g.E.Emit.faults c.hand_on.new.emit)
    (g.E.Emit.took c.hand_on.new.emit (g.St.Store.holds c.hand_on.new.store)) c.hand_on.ensures.stood on in
    all.emitter

pub loop-left-preserved : goal.loop-left-preserved
loop-left-preserved g c =
    let stays = c.loop-left.invariant.stays in
    let still : (rows : List (List Value)) → g.E.Emit.took c.loop-left.emit (g.St.Store.holds c.loop-left.store) rows → g.E.Emit.took c.loop-left.emit (g.St.Store.holds c.keep_lowest.new.store) rows =
    (λ rows. g.met.E.Emit.asks_own c.loop-left.emit (g.St.Store.holds c.loop-left.store) (g.St.Store.holds c.keep_lowest.new.store) rows
    (reads_own c.args.c.now.tracker c.loop-left.rows c.keep_lowest.new.rows (g.St.Store.holds c.loop-left.store) (g.St.Store.holds c.keep_lowest.new.store) (g.St.Store.signs c.loop-left.store) (g.St.Store.signs c.keep_lowest.new.store) stays.readable.shape c.keep_lowest.ensures.went
    (g.E.Emit.client c.loop-left.emit) (free_now _ _ _ _ _ _ _ _ _ _ _ _ _ _ _ c.requires.stream.client c.requires.emitter.apart stays))) in
    let read = stays_read _ _ _ _ _ _ _ _ _ _ _ _ _ _ _ c.requires.stream.client c.requires.emitter.apart stays c.keep_lowest.new.rows (g.St.Store.holds c.keep_lowest.new.store) (g.St.Store.signs c.keep_lowest.new.store)
    (g.E.Emit.took c.loop-left.emit (g.St.Store.holds c.keep_lowest.new.store)) c.keep_lowest.ensures.went c.keep_lowest.ensures.same still in
    let on : WentOn (g.E.Emit.took c.loop-left.emit (g.St.Store.holds c.keep_lowest.new.store)) (g.E.Emit.took c.hand_on.new.emit (g.St.Store.holds c.hand_on.new.store)) = went_emitted c.in_ok-hand_on.ensures.ok in
    let all = stays_handed _ _ _ _ _ _ _ _ _ _ _ _ _ _ _ c.requires.stream.client c.requires.emitter.apart read (g.St.Store.holds c.hand_on.new.store) (g.St.Store.signs c.hand_on.new.store) (g.E.Emit.admits c.hand_on.new.emit) (g.E.Emit.client c.hand_on.new.emit) (g.E.Emit.faults c.hand_on.new.emit)
    (g.E.Emit.took c.hand_on.new.emit (g.St.Store.holds c.hand_on.new.store)) c.hand_on.ensures.stood on in
    let known : (rows : List (List ℕ)) → (g.St.Store.holds c.args.store.now).told ≡ true → HasRows rows c.args.rows.now (g.St.Store.holds c.args.store.now) → kept_in c.args.shape.now c.keep_lowest.new.entries.items ≡ take c.args.room (all_above (key_in c.loop-left.last) (groups_by_bytes c.args.shape.now rows)) =
    (λ rows told has. kept_known c.args.shape.now c.args.room (key_in c.loop-left.last) c.keep_lowest.new.entries.items c.loop-left.rows (g.St.Store.holds c.loop-left.store) rows c.in_ok-keep_lowest.ensures.kept (stays.beside.query.told ∙ told) (stays.beside.rows rows told has)) in
    let handed : (rows : List (List ℕ)) → (g.St.Store.holds c.args.store.now).told ≡ true → HasRows rows c.args.rows.now (g.St.Store.holds c.args.store.now) → HasHanded c.args.shape.now (key_in c.loop-left.last) c.loop-left.left (g.E.Emit.took c.args.emit.now (g.St.Store.holds c.args.store.now)) (g.E.Emit.took c.loop-left.emit (g.St.Store.holds c.keep_lowest.new.store)) rows =
    (λ rows told has. handed_still c.args.shape.now (key_in c.loop-left.last) c.loop-left.left (g.E.Emit.took c.args.emit.now (g.St.Store.holds c.args.store.now)) _ rows (c.loop-left.invariant.handed rows told has) (g.E.Emit.took c.loop-left.emit (g.St.Store.holds c.keep_lowest.new.store)) still) in
    let emitted = subst (λ (es : List Entry). Emitted c.args.shape.now (g.E.Emit.took c.loop-left.emit (g.St.Store.holds c.keep_lowest.new.store)) (g.E.Emit.took c.hand_on.new.emit (g.St.Store.holds c.hand_on.new.store)) (kept_in c.args.shape.now es)) c.deref.ensures.value c.in_ok-hand_on.ensures.ok in
    let some : IsSome c.pop-last.result = search rules in
    let fewer : c.saturating_sub-left.result ≡ c.loop-left.left - length c.keep_lowest.new.entries.items = search rules in
    let mid = shares_read c.args.c.now.tracker (g.E.Emit.client c.args.emit.now) (g.E.Emit.slots c.args.emit.now (g.St.Store.holds c.args.store.now)) (g.E.Emit.slots c.loop-left.emit (g.St.Store.holds c.loop-left.store)) c.args.rows.now c.loop-left.rows (g.St.Store.holds c.args.store.now) (g.St.Store.holds c.loop-left.store) c.loop-left.invariant.shares c.keep_lowest.new.rows (g.St.Store.holds c.keep_lowest.new.store) (g.St.Store.signs c.loop-left.store) (g.St.Store.signs c.keep_lowest.new.store) (g.E.Emit.slots c.loop-left.emit (g.St.Store.holds c.keep_lowest.new.store)) stays.readable.client c.keep_lowest.ensures.went
    (g.met.E.Emit.slots_own c.loop-left.emit (g.St.Store.holds c.loop-left.store) (g.St.Store.holds c.keep_lowest.new.store) (reads_own c.args.c.now.tracker c.loop-left.rows c.keep_lowest.new.rows (g.St.Store.holds c.loop-left.store) (g.St.Store.holds c.keep_lowest.new.store) (g.St.Store.signs c.loop-left.store) (g.St.Store.signs c.keep_lowest.new.store) stays.readable.shape c.keep_lowest.ensures.went
    (g.E.Emit.client c.loop-left.emit) (free_now _ _ _ _ _ _ _ _ _ _ _ _ _ _ _ c.requires.stream.client c.requires.emitter.apart stays))) in
    let end = shares_handed c.args.c.now.tracker (g.E.Emit.client c.args.emit.now) (g.E.Emit.slots c.args.emit.now (g.St.Store.holds c.args.store.now)) (g.E.Emit.slots c.loop-left.emit (g.St.Store.holds c.keep_lowest.new.store)) c.args.rows.now c.keep_lowest.new.rows (g.St.Store.holds c.args.store.now) (g.St.Store.holds c.keep_lowest.new.store) mid (g.E.Emit.client c.loop-left.emit) (g.St.Store.holds c.hand_on.new.store) (g.E.Emit.slots c.hand_on.new.emit (g.St.Store.holds c.hand_on.new.store)) stays.emitter.client_same c.requires.emitter.apart read.readable.shape
    c.hand_on.ensures.stood.others c.hand_on.ensures.stood.room c.hand_on.ensures.slots in
    record {
      stays = all;
      shares = end;
      handed = λ rows told has. handed_popped c.args.shape.now (key_in c.loop-left.last) c.loop-left.left (g.E.Emit.took c.args.emit.now (g.St.Store.holds c.args.store.now)) (g.E.Emit.took c.loop-left.emit (g.St.Store.holds c.keep_lowest.new.store)) rows (handed rows told has) c.args.room c.keep_lowest.new.entries.items (known rows told has)
          (g.E.Emit.took c.hand_on.new.emit (g.St.Store.holds c.hand_on.new.store)) c.pop-last.new.self.items c.pop-last.result c.saturating_sub-left.result some c.pop-last.ensures.items c.in_ok-keep_lowest.ensures.kept.each fewer emitted;
    }

pub returns-clause-ok : goal.returns-clause-ok
returns-clause-ok g c = λ rows told has.
    handed_end c.args.shape.now (key_in c.loop-left.last) c.loop-left.left (g.E.Emit.took c.args.emit.now (g.St.Store.holds c.args.store.now)) _ rows (c.loop-left.invariant.handed rows told has) (let end = c.loop-left-test.false in omega (arith, end))

pub returns-clause-stream : goal.returns-clause-stream
returns-clause-stream g c = record { read = c.loop-left.invariant.stays.beside; shares = c.loop-left.invariant.shares }

pub returns-in_err-keep_lowest-clause-enough : goal.returns-in_err-keep_lowest-clause-enough
returns-in_err-keep_lowest-clause-enough g c = λ none.
    let stays = c.loop-left.invariant.stays in
    let pages : (length c.loop-left.rows.pages + 1) * c.loop-left.rows.page_blocks ≡ (length c.args.rows.now.pages + 1) * c.args.rows.now.page_blocks = ap (λ (s : Streamed). (length s.pages + 1) * s.page_blocks) stays.beside.same in
    let want : IsWantBelowOf ((length c.args.rows.now.pages + 1) * c.args.rows.now.page_blocks) (slots_with c.args.rows.now (g.St.Store.holds c.args.store.now)) (Pool c.in_err-keep_lowest.field-0.0) =
    subst (λ (n : ℕ). IsWantBelow n (slots_with c.args.rows.now (g.St.Store.holds c.args.store.now)) c.in_err-keep_lowest.field-0.0) pages
    (subst (λ (o : Option ℕ). IsWantBelow ((length c.loop-left.rows.pages + 1) * c.loop-left.rows.page_blocks) o c.in_err-keep_lowest.field-0.0) (c.loop-left.invariant.shares.slots.alone none) c.in_err-keep_lowest.ensures.enough) in
    search (rules, want)

pub returns-in_err-hand_on-clause-enough : goal.returns-in_err-hand_on-clause-enough
returns-in_err-hand_on-clause-enough g c = λ none.
    let want : IsWantBelowOf ((length c.args.rows.now.pages + 1) * c.args.rows.now.page_blocks) (slots_with c.args.rows.now (g.St.Store.holds c.args.store.now)) c.in_err-hand_on.field-0.0 =
    alone_below _ _ _ _ _ _ c.in_err-hand_on.field-0.0 (c.hand_on.ensures.stood.alone (c.loop-left.invariant.stays.emitter.client_same ∙ none)) c.in_err-hand_on.ensures.cause in
    search (rules, want)
