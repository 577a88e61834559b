use Rattle.std.proofs.Common.{rules, ◌≡◌, ◌∙◌, ◌+◌, ◌*◌, length, ap}
use Rattle.store_api.specs.Signs.{WasAnswered}
use Rattle.store_api.proofs.Answered.{answered_before}
use Rattle.tuple_stream.specs.Reading.{ReadsRow}
use Rattle.tuple_stream.specs.Steps.{scene}
use Rattle.tuple_stream.specs.Touches.{slots_with}
use Rattle.tuple_stream.specs.Streamed.{Streamed}
use Rattle.tuple_stream.proofs.ReadRow.{reads_trans}
use Rattle.group_op.specs.Causes.{IsWant, IsWantBelow}
use Rattle.group_op.specs.Keepings.{key_in}
use Rattle.group_op.proofs.Readings.{keeping_all, keeping_more, keeping_none, kept_few, kept_ordered, none_found, row_found}
use Rattle.group_op.proofs.Sharing.{want_read}
use Rattle.group_op.proofs.Wants.{below_read}
use Rattle.group_op.proofs.scanning.keep_lowest.Goals as goal

pub loop-spare-init : goal.loop-spare-init
loop-spare-init g c = keeping_none c.args.c.now.tracker c.args.shape.now c.args.room (key_in c.args.last.now) _ c.first-place.result _ c.first-place.ensures c.requires.stream.shape (search rules)

pub returns-in_err-keep_into-clause-went : goal.returns-in_err-keep_into-clause-went
returns-in_err-keep_into-clause-went g c = reads_trans c.args.c.now.tracker _ _ _ c.loop-spare.invariant.read.went c.keep_into.ensures.went

pub returns-in_err-keep_into-clause-cause : goal.returns-in_err-keep_into-clause-cause
returns-in_err-keep_into-clause-cause g c =
    let came : WasAnswered c.in_err-keep_into.field-0.0 (g.St.Store.signs c.args.store.now) (g.St.Store.signs c.keep_into.new.store) =
    answered_before _ _ _ _ c.loop-spare.invariant.read.went.step.grows c.in_err-keep_into.ensures.cause.answered in
    search (rules, came)

pub take_in-requires-clause-ordered : goal.take_in-requires-clause-ordered
take_in-requires-clause-ordered g c = kept_ordered c.args.c.now.tracker c.args.shape.now c.args.room (key_in c.args.last.now) _ _ _ _ c.loop-spare.invariant

pub take_in-requires-clause-few : goal.take_in-requires-clause-few
take_in-requires-clause-few g c = kept_few c.args.c.now.tracker c.args.shape.now c.args.room (key_in c.args.last.now) _ _ _ _ c.loop-spare.invariant

pub returns-in_default-clause-went : goal.returns-in_default-clause-went
returns-in_default-clause-went g c = reads_trans c.args.c.now.tracker _ _ _ c.loop-spare.invariant.read.went c.keep_into.ensures.went

pub loop-spare-preserved : goal.loop-spare-preserved
loop-spare-preserved g c =
    let b = scene c.loop-spare.rows (g.St.Store.holds c.loop-spare.store) (g.St.Store.signs c.loop-spare.store) in
    let d = scene c.keep_into.new.self (g.St.Store.holds c.keep_into.new.store) (g.St.Store.signs c.keep_into.new.store) in
    let read : ReadsRow c.loop-spare.place c.keep_into.new.place c.keep_into.new.out.items b d = row_found c.in_ok-keep_into.field-0 _ _ _ b d c.if-branch.true c.in_ok-keep_into.ensures.ok in
    keeping_more c.args.c.now.tracker c.args.shape.now c.args.room (key_in c.args.last.now) _ _ _ b c.loop-spare.invariant d _ _ _ c.keep_into.ensures.went c.keep_into.ensures.same read (search rules) (search rules)

pub returns-clause-kept : goal.returns-clause-kept
returns-clause-kept g c =
    let b = scene c.loop-spare.rows (g.St.Store.holds c.loop-spare.store) (g.St.Store.signs c.loop-spare.store) in
    let d = scene c.keep_into.new.self (g.St.Store.holds c.keep_into.new.store) (g.St.Store.signs c.keep_into.new.store) in
    keeping_all c.args.c.now.tracker c.args.shape.now c.args.room (key_in c.args.last.now) _ _ _ b c.loop-spare.invariant (none_found c.in_ok-keep_into.field-0 _ _ _ b d c.if-branch.false c.in_ok-keep_into.ensures.ok)

pub returns-clause-went : goal.returns-clause-went
returns-clause-went g c = reads_trans c.args.c.now.tracker _ _ _ c.loop-spare.invariant.read.went c.keep_into.ensures.went

pub returns-in_err-keep_into-clause-want : goal.returns-in_err-keep_into-clause-want
returns-in_err-keep_into-clause-want g c =
    let want : IsWant c.args.rows.now.page_blocks (slots_with c.args.rows.now (g.St.Store.holds c.args.store.now)) c.in_err-keep_into.field-0.0 =
    want_read c.args.c.now.tracker c.loop-spare.rows.page_blocks c.args.rows.now c.keep_into.new.self (g.St.Store.holds c.args.store.now) (g.St.Store.holds c.keep_into.new.store) (g.St.Store.signs c.args.store.now) (g.St.Store.signs c.keep_into.new.store) c.in_err-keep_into.field-0.0
    (reads_trans c.args.c.now.tracker _ _ _ c.loop-spare.invariant.read.went c.keep_into.ensures.went) c.loop-spare.invariant.read.went.step.sized c.in_err-keep_into.ensures.cause.full in
    search (rules, want)

pub returns-in_err-keep_into-clause-enough : goal.returns-in_err-keep_into-clause-enough
returns-in_err-keep_into-clause-enough g c =
    let same : c.keep_into.new.self ≡ record c.args.rows.now { pinned = c.keep_into.new.self.pinned } = c.keep_into.ensures.same ∙ ap (λ (s : Streamed). record s { pinned = c.keep_into.new.self.pinned }) c.loop-spare.invariant.read.same in
    let want : IsWantBelow ((length c.args.rows.now.pages + 1) * c.args.rows.now.page_blocks) (slots_with c.args.rows.now (g.St.Store.holds c.args.store.now)) c.in_err-keep_into.field-0.0 =
    below_read c.law_scratch.ensures.want c.args.c.now.tracker c.loop-spare.rows.page_blocks c.args.rows.now c.keep_into.new.self (g.St.Store.holds c.args.store.now) (g.St.Store.holds c.keep_into.new.store) (g.St.Store.signs c.args.store.now) (g.St.Store.signs c.keep_into.new.store) c.in_err-keep_into.field-0.0
    (reads_trans c.args.c.now.tracker _ _ _ c.loop-spare.invariant.read.went c.keep_into.ensures.went) same c.loop-spare.invariant.read.went.step.sized c.in_err-keep_into.ensures.cause.full in
    search (rules, want)
