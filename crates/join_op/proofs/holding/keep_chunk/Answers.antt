use Rattle.std.proofs.Common.{rules, ◌≡◌, ℕ, ◌<◌, true, false, length, subst}
use Rattle.store_api.specs.Signs.{WasAnswered}
use Rattle.store_api.proofs.Answered.{answered_before}
use Rattle.tuple_stream.specs.Reading.{ReadsRow}
use Rattle.tuple_stream.specs.Steps.{scene}
use Rattle.tuple_stream.specs.Touches.{IsFull}
use Rattle.tuple_stream.proofs.ReadRow.{reads_trans}
use Rattle.join_op.specs.Chunks.{kept_rows}
use Rattle.join_op.specs.Holding.{held_side}
use Rattle.join_op.proofs.ChunkJoins.{none_found, row_found}
use Rattle.join_op.proofs.ChunkRounds.{keeping_more, keeping_none, no_row}
use Rattle.join_op.proofs.holding.keep_chunk.Goals as goal

pub more-init : goal.more-init
more-init g c = keeping_none c.args.c.now.tracker c.args.chunk (held_side c.args.turned c.args.shape.now) _ c.args.place.now (scene c.args.builds.now (g.St.Store.holds c.args.store.now) (g.St.Store.signs c.args.store.now)) (search rules) c.requires.stream.shape c.requires.place

pub returns-in_err-keep_into-clause-went : goal.returns-in_err-keep_into-clause-went
returns-in_err-keep_into-clause-went g c = reads_trans c.args.c.now.tracker _ _ _ c.more.invariant.went c.keep_into.ensures.went

pub returns-in_err-keep_into-clause-cause : goal.returns-in_err-keep_into-clause-cause
returns-in_err-keep_into-clause-cause g c =
    let came : WasAnswered c.in_err-keep_into.field-0.0 (g.St.Store.signs c.args.store.now) (g.St.Store.signs c.keep_into.new.store) =
    answered_before _ _ _ _ c.more.invariant.went.step.grows c.in_err-keep_into.ensures.cause.answered in
    search (rules, came)

pub returns-in_err-keep_into-clause-full : goal.returns-in_err-keep_into-clause-full
returns-in_err-keep_into-clause-full g c =
    let full : IsFull c.args.builds.now.page_blocks (g.St.Store.holds c.keep_into.new.store).free_slots c.in_err-keep_into.field-0.0 =
    subst (λ (n : ℕ). IsFull n (g.St.Store.holds c.keep_into.new.store).free_slots c.in_err-keep_into.field-0.0) c.more.invariant.went.step.sized c.in_err-keep_into.ensures.cause.full in
    search (rules, full)

pub returns-then-not-branch-clause-went : goal.returns-then-not-branch-clause-went
returns-then-not-branch-clause-went g c = reads_trans c.args.c.now.tracker _ _ _ c.more.invariant.went c.keep_into.ensures.went

pub returns-in_default-clause-went : goal.returns-in_default-clause-went
returns-in_default-clause-went g c = reads_trans c.args.c.now.tracker _ _ _ c.more.invariant.went c.keep_into.ensures.went

pub more-preserved : goal.more-preserved
more-preserved g c =
    let b = scene c.more.builds (g.St.Store.holds c.more.store) (g.St.Store.signs c.more.store) in
    let d = scene c.keep_into.new.self (g.St.Store.holds c.keep_into.new.store) (g.St.Store.signs c.keep_into.new.store) in
    let found : c.in_ok-keep_into.field-0 ≡ true = search rules in
    let reads : ReadsRow c.more.place c.keep_into.new.place c.keep_into.new.out.items b d = row_found c.in_ok-keep_into.field-0 _ _ _ b d found c.in_ok-keep_into.ensures.ok in
    let less : length c.more.kept.items < c.args.chunk = search rules in
    keeping_more c.args.c.now.tracker c.args.chunk (held_side c.args.turned c.args.shape.now) c.more.kept.items c.keep.new.kept.items c.args.place.now c.more.place c.keep_into.new.place c.keep_into.new.out.items _ b d
    c.more.invariant less c.keep_into.ensures.went c.keep_into.ensures.same reads (c.in-Ok.ensures.each c.more.invariant.each) c.in-Ok.ensures.rows

pub returns-then-not-branch-clause-reads : goal.returns-then-not-branch-clause-reads
returns-then-not-branch-clause-reads g c =
    let b = scene c.more.builds (g.St.Store.holds c.more.store) (g.St.Store.signs c.more.store) in
    let d = scene c.keep_into.new.self (g.St.Store.holds c.keep_into.new.store) (g.St.Store.signs c.keep_into.new.store) in
    let found : c.in_ok-keep_into.field-0 ≡ false = search rules in
    no_row (kept_rows c.more.kept.items) c.args.place.now c.more.place c.args.c.now.tracker _ b d c.more.invariant.reads c.more.invariant.went c.keep_into.ensures.went c.keep_into.new.place (none_found c.in_ok-keep_into.field-0 _ _ _ b d found c.in_ok-keep_into.ensures.ok)
