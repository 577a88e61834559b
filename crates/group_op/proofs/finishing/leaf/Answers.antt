use Rattle.std.proofs.Common.{◌≡◌, ◌∙◌, ℕ, List, length, ap, subst, take, arith}
use Rattle.std.specs.Prelude.{slice_get}
use Rattle.row_codec.specs.declared.values.Value.{Value}
use Rattle.tuple_stream.specs.Steps.{scene}
use Rattle.tuple_stream.specs.Streamed.{Streamed}
use Rattle.tuple_stream.proofs.PageLists.{at_end}
use Rattle.partition_stack.proofs.Results.{if_err, on_err, on_ok}
use Rattle.group_rows.specs.Partials.{combined_of}
use Rattle.group_op.specs.Emission.{Emitted, EmittedFront, IsBeside}
use Rattle.group_op.specs.Stored.{grouping_of, partials_at}
use Rattle.group_op.proofs.Besides.{closed_popped}
use Rattle.partition_stack.proofs.Emitters.{stands_then}
use Rattle.partition_stack.proofs.Making.{counts_both, emptied_makes, few_counts}
use Rattle.group_op.proofs.HandedOn.{emitted_on, front_on, popped_long}
use Rattle.group_op.proofs.TopRead.{beside_read, came_till, groups_last, leaves_gone, of_any, own_gone, serves_read, shows_gone, stands_gone, stands_read, top_readable, top_rows, want_top}
use Rattle.group_op.proofs.Wants.{top_among}
use Rattle.group_op.proofs.finishing.leaf.Goals as goal

pub leaf_by_scan-result-requires-clause-stream : goal.leaf_by_scan-result-requires-clause-stream
leaf_by_scan-result-requires-clause-stream g c =
    top_readable c.args.c.now c.args._table.now c.args.parts.now c.pop-top.new.self.streams c.pop-top.result c.args._at (g.St.Store.holds c.args.store.now) (g.St.Store.signs c.args.store.now) c.requires.held c.pop-top.ensures.streams c.requires.top c.law_stack.ensures c.requires.between.closed

pub returns-clause-ok : goal.returns-clause-ok
returns-clause-ok g c =
    let beside : IsBeside c.args.c.now.tracker (g.E.Emit.client c.leaf_by_scan-result.new.emit) (g.St.Store.holds c.leaf_by_scan-result.new.store) = beside_read c.args.c.now.tracker (g.E.Emit.admits c.args.emit.now) (g.E.Emit.admits c.leaf_by_scan-result.new.emit) (g.E.Emit.client c.args.emit.now) (g.E.Emit.client c.leaf_by_scan-result.new.emit) (g.E.Emit.faults c.args.emit.now) (g.E.Emit.faults c.leaf_by_scan-result.new.emit) (g.St.Store.holds c.args.store.now) (g.St.Store.holds c.leaf_by_scan-result.new.store) (g.St.Store.signs c.args.store.now) (g.St.Store.signs c.leaf_by_scan-result.new.store) c.requires.emitter c.leaf_by_scan-result.ensures.emitter in
    let still : (taken : List (List Value)) → g.E.Emit.took c.leaf_by_scan-result.new.emit (g.St.Store.holds c.leaf_by_scan-result.new.store) taken → g.E.Emit.took c.leaf_by_scan-result.new.emit (g.St.Store.holds c.drop_all.new.store) taken =
    λ taken. g.met.E.Emit.asks_own c.leaf_by_scan-result.new.emit (g.St.Store.holds c.leaf_by_scan-result.new.store) (g.St.Store.holds c.drop_all.new.store) taken (own_gone c.args.c.now.tracker (g.E.Emit.client c.args.emit.now) c.args.shape.now c.args._table.now c.args.parts.now c.pop-top.new.self c.pop-top.result c.leaf_by_scan-result.new.rows (g.St.Store.holds c.args.store.now) (g.St.Store.holds c.leaf_by_scan-result.new.store) (g.St.Store.signs c.args.store.now) (g.St.Store.signs c.leaf_by_scan-result.new.store) c.requires.held c.pop-top.ensures.streams c.leaf_by_scan-result.ensures.stream.read (scene c.drop_all.new.self (g.St.Store.holds c.drop_all.new.store) (g.St.Store.signs c.drop_all.new.store)) c.pop-top.ensures.blocks (c.drop_all.ensures.went c.args.c.now.tracker c.leaf_by_scan-result.ensures.stream.read.shape) c.drop_all.ensures.value (g.E.Emit.client c.leaf_by_scan-result.new.emit) beside.apart) in
    on_ok c.leaf_by_scan-result.result
    (λ came rows stacked. (
      shows_gone c.args.c.now.tracker (g.E.Emit.client c.args.emit.now) c.args.shape.now c.args._table.now c.args.parts.now c.pop-top.new.self c.pop-top.result c.leaf_by_scan-result.new.rows (g.St.Store.holds c.args.store.now) (g.St.Store.holds c.leaf_by_scan-result.new.store) (g.St.Store.signs c.args.store.now) (g.St.Store.signs c.leaf_by_scan-result.new.store) c.requires.held c.pop-top.ensures.streams c.leaf_by_scan-result.ensures.stream.read (scene c.drop_all.new.self (g.St.Store.holds c.drop_all.new.store) (g.St.Store.signs c.drop_all.new.store)) c.pop-top.ensures.blocks (c.drop_all.ensures.went c.args.c.now.tracker c.leaf_by_scan-result.ensures.stream.read.shape) c.drop_all.ensures.value rows stacked.told stacked.shows,
      emitted_on c.args.shape.now (g.E.Emit.took c.args.emit.now (g.St.Store.holds c.args.store.now)) (g.E.Emit.took c.leaf_by_scan-result.new.emit (g.St.Store.holds c.leaf_by_scan-result.new.store)) (g.E.Emit.took c.leaf_by_scan-result.new.emit (g.St.Store.holds c.drop_all.new.store)) (combined_of (grouping_of c.args.shape.now) (partials_at c.args.shape.now (rows c.args._at))) still
          (subst (Emitted c.args.shape.now (g.E.Emit.took c.args.emit.now (g.St.Store.holds c.args.store.now)) (g.E.Emit.took c.leaf_by_scan-result.new.emit (g.St.Store.holds c.leaf_by_scan-result.new.store))) (groups_last c.args.shape.now (rows c.args._at) (stacked.parts c.args._at 16 c.requires.level)) (came (rows c.args._at) stacked.told (top_rows c.args.parts.now c.pop-top.new.self.streams c.pop-top.result c.args._at (g.St.Store.holds c.args.store.now) (g.St.Store.signs c.args.store.now) rows c.pop-top.ensures.streams c.requires.top stacked.shows))),
    ))
    c.leaf_by_scan-result.ensures.ok

pub returns-clause-err : goal.returns-clause-err
returns-clause-err g c =
    let beside : IsBeside c.args.c.now.tracker (g.E.Emit.client c.leaf_by_scan-result.new.emit) (g.St.Store.holds c.leaf_by_scan-result.new.store) = beside_read c.args.c.now.tracker (g.E.Emit.admits c.args.emit.now) (g.E.Emit.admits c.leaf_by_scan-result.new.emit) (g.E.Emit.client c.args.emit.now) (g.E.Emit.client c.leaf_by_scan-result.new.emit) (g.E.Emit.faults c.args.emit.now) (g.E.Emit.faults c.leaf_by_scan-result.new.emit) (g.St.Store.holds c.args.store.now) (g.St.Store.holds c.leaf_by_scan-result.new.store) (g.St.Store.signs c.args.store.now) (g.St.Store.signs c.leaf_by_scan-result.new.store) c.requires.emitter c.leaf_by_scan-result.ensures.emitter in
    let still : (taken : List (List Value)) → g.E.Emit.took c.leaf_by_scan-result.new.emit (g.St.Store.holds c.leaf_by_scan-result.new.store) taken → g.E.Emit.took c.leaf_by_scan-result.new.emit (g.St.Store.holds c.drop_all.new.store) taken =
    λ taken. g.met.E.Emit.asks_own c.leaf_by_scan-result.new.emit (g.St.Store.holds c.leaf_by_scan-result.new.store) (g.St.Store.holds c.drop_all.new.store) taken (own_gone c.args.c.now.tracker (g.E.Emit.client c.args.emit.now) c.args.shape.now c.args._table.now c.args.parts.now c.pop-top.new.self c.pop-top.result c.leaf_by_scan-result.new.rows (g.St.Store.holds c.args.store.now) (g.St.Store.holds c.leaf_by_scan-result.new.store) (g.St.Store.signs c.args.store.now) (g.St.Store.signs c.leaf_by_scan-result.new.store) c.requires.held c.pop-top.ensures.streams c.leaf_by_scan-result.ensures.stream.read (scene c.drop_all.new.self (g.St.Store.holds c.drop_all.new.store) (g.St.Store.signs c.drop_all.new.store)) c.pop-top.ensures.blocks (c.drop_all.ensures.went c.args.c.now.tracker c.leaf_by_scan-result.ensures.stream.read.shape) c.drop_all.ensures.value (g.E.Emit.client c.leaf_by_scan-result.new.emit) beside.apart) in
    on_err c.leaf_by_scan-result.result
    (λ came rows stacked.
    front_on c.args.shape.now (g.E.Emit.took c.args.emit.now (g.St.Store.holds c.args.store.now)) (g.E.Emit.took c.leaf_by_scan-result.new.emit (g.St.Store.holds c.leaf_by_scan-result.new.store)) (g.E.Emit.took c.leaf_by_scan-result.new.emit (g.St.Store.holds c.drop_all.new.store)) (combined_of (grouping_of c.args.shape.now) (partials_at c.args.shape.now (rows c.args._at))) still
    (subst (EmittedFront c.args.shape.now (g.E.Emit.took c.args.emit.now (g.St.Store.holds c.args.store.now)) (g.E.Emit.took c.leaf_by_scan-result.new.emit (g.St.Store.holds c.leaf_by_scan-result.new.store))) (groups_last c.args.shape.now (rows c.args._at) (stacked.parts c.args._at 16 c.requires.level)) (came (rows c.args._at) stacked.told (top_rows c.args.parts.now c.pop-top.new.self.streams c.pop-top.result c.args._at (g.St.Store.holds c.args.store.now) (g.St.Store.signs c.args.store.now) rows c.pop-top.ensures.streams c.requires.top stacked.shows))))
    c.leaf_by_scan-result.ensures.err

pub returns-clause-popped : goal.returns-clause-popped
returns-clause-popped g c =
    let many = popped_long c.args.parts.now c.pop-top.new.self c.pop-top.result c.args._at c.pop-top.ensures.streams c.requires.top in
    of_any c.leaf_by_scan-result.result (
      record {
        empty = c.requires.between.empty;
        closed = closed_popped c.args._at c.args.parts.now c.pop-top.new.self c.pop-top.result (g.St.Store.holds c.drop_all.new.store) (g.St.Store.signs c.drop_all.new.store) c.pop-top.ensures.streams many (λ i s there below. c.requires.between.closed i s there);
      },
      record { many = many; levels = c.pop-top.ensures.levels ∙ ap (λ (n : ℕ). take n c.args.parts.now.levels) many },
    )

pub returns-clause-serves : goal.returns-clause-serves
returns-clause-serves g c =
    let beside : IsBeside c.args.c.now.tracker (g.E.Emit.client c.leaf_by_scan-result.new.emit) (g.St.Store.holds c.leaf_by_scan-result.new.store) = beside_read c.args.c.now.tracker (g.E.Emit.admits c.args.emit.now) (g.E.Emit.admits c.leaf_by_scan-result.new.emit) (g.E.Emit.client c.args.emit.now) (g.E.Emit.client c.leaf_by_scan-result.new.emit) (g.E.Emit.faults c.args.emit.now) (g.E.Emit.faults c.leaf_by_scan-result.new.emit) (g.St.Store.holds c.args.store.now) (g.St.Store.holds c.leaf_by_scan-result.new.store) (g.St.Store.signs c.args.store.now) (g.St.Store.signs c.leaf_by_scan-result.new.store) c.requires.emitter c.leaf_by_scan-result.ensures.emitter in
    let kept = g.met.E.Emit.slots_own c.leaf_by_scan-result.new.emit (g.St.Store.holds c.leaf_by_scan-result.new.store) (g.St.Store.holds c.drop_all.new.store) (own_gone c.args.c.now.tracker (g.E.Emit.client c.args.emit.now) c.args.shape.now c.args._table.now c.args.parts.now c.pop-top.new.self c.pop-top.result c.leaf_by_scan-result.new.rows (g.St.Store.holds c.args.store.now) (g.St.Store.holds c.leaf_by_scan-result.new.store) (g.St.Store.signs c.args.store.now) (g.St.Store.signs c.leaf_by_scan-result.new.store) c.requires.held c.pop-top.ensures.streams c.leaf_by_scan-result.ensures.stream.read (scene c.drop_all.new.self (g.St.Store.holds c.drop_all.new.store) (g.St.Store.signs c.drop_all.new.store)) c.pop-top.ensures.blocks (c.drop_all.ensures.went c.args.c.now.tracker c.leaf_by_scan-result.ensures.stream.read.shape) c.drop_all.ensures.value (g.E.Emit.client c.leaf_by_scan-result.new.emit) beside.apart) in
    serves_read c.args.c.now.tracker (g.E.Emit.client c.args.emit.now) c.args.shape.now c.args._table.now c.args.parts.now c.pop-top.new.self c.pop-top.result c.leaf_by_scan-result.new.rows (g.St.Store.holds c.args.store.now) (g.St.Store.holds c.leaf_by_scan-result.new.store) (g.St.Store.signs c.args.store.now) (g.St.Store.signs c.leaf_by_scan-result.new.store) c.requires.held c.pop-top.ensures.streams c.leaf_by_scan-result.ensures.stream.read (scene c.drop_all.new.self (g.St.Store.holds c.drop_all.new.store) (g.St.Store.signs c.drop_all.new.store)) c.pop-top.ensures.blocks (c.drop_all.ensures.went c.args.c.now.tracker c.leaf_by_scan-result.ensures.stream.read.shape) c.drop_all.ensures.value _ _ _ c.leaf_by_scan-result.ensures.stream.shares kept c.leaf_by_scan-result.ensures.emitter.grows c.requires.entries

pub returns-clause-emitter : goal.returns-clause-emitter
returns-clause-emitter g c =
    let beside : IsBeside c.args.c.now.tracker (g.E.Emit.client c.leaf_by_scan-result.new.emit) (g.St.Store.holds c.leaf_by_scan-result.new.store) = beside_read c.args.c.now.tracker (g.E.Emit.admits c.args.emit.now) (g.E.Emit.admits c.leaf_by_scan-result.new.emit) (g.E.Emit.client c.args.emit.now) (g.E.Emit.client c.leaf_by_scan-result.new.emit) (g.E.Emit.faults c.args.emit.now) (g.E.Emit.faults c.leaf_by_scan-result.new.emit) (g.St.Store.holds c.args.store.now) (g.St.Store.holds c.leaf_by_scan-result.new.store) (g.St.Store.signs c.args.store.now) (g.St.Store.signs c.leaf_by_scan-result.new.store) c.requires.emitter c.leaf_by_scan-result.ensures.emitter in
    let still : (taken : List (List Value)) → g.E.Emit.took c.leaf_by_scan-result.new.emit (g.St.Store.holds c.leaf_by_scan-result.new.store) taken → g.E.Emit.took c.leaf_by_scan-result.new.emit (g.St.Store.holds c.drop_all.new.store) taken =
    λ taken. g.met.E.Emit.asks_own c.leaf_by_scan-result.new.emit (g.St.Store.holds c.leaf_by_scan-result.new.store) (g.St.Store.holds c.drop_all.new.store) taken (own_gone c.args.c.now.tracker (g.E.Emit.client c.args.emit.now) c.args.shape.now c.args._table.now c.args.parts.now c.pop-top.new.self c.pop-top.result c.leaf_by_scan-result.new.rows (g.St.Store.holds c.args.store.now) (g.St.Store.holds c.leaf_by_scan-result.new.store) (g.St.Store.signs c.args.store.now) (g.St.Store.signs c.leaf_by_scan-result.new.store) c.requires.held c.pop-top.ensures.streams c.leaf_by_scan-result.ensures.stream.read (scene c.drop_all.new.self (g.St.Store.holds c.drop_all.new.store) (g.St.Store.signs c.drop_all.new.store)) c.pop-top.ensures.blocks (c.drop_all.ensures.went c.args.c.now.tracker c.leaf_by_scan-result.ensures.stream.read.shape) c.drop_all.ensures.value (g.E.Emit.client c.leaf_by_scan-result.new.emit) beside.apart) in
    stands_then _ _ _ _ _ _ _ _ _ (g.E.Emit.took c.args.emit.now (g.St.Store.holds c.args.store.now)) (g.E.Emit.took c.leaf_by_scan-result.new.emit (g.St.Store.holds c.leaf_by_scan-result.new.store)) (g.E.Emit.took c.leaf_by_scan-result.new.emit (g.St.Store.holds c.drop_all.new.store)) (g.St.Store.holds c.leaf_by_scan-result.new.store) (g.St.Store.holds c.drop_all.new.store)
    (stands_read _ _ _ _ _ _ (g.E.Emit.took c.args.emit.now (g.St.Store.holds c.args.store.now)) (g.E.Emit.took c.leaf_by_scan-result.new.emit (g.St.Store.holds c.leaf_by_scan-result.new.store)) (g.St.Store.holds c.leaf_by_scan-result.new.store) _ _ c.leaf_by_scan-result.ensures.emitter c.leaf_by_scan-result.ensures.stands)
    (stands_gone c.args.c.now.tracker (g.E.Emit.client c.args.emit.now) c.args.shape.now c.args._table.now c.args.parts.now c.pop-top.new.self c.pop-top.result c.leaf_by_scan-result.new.rows (g.St.Store.holds c.args.store.now) (g.St.Store.holds c.leaf_by_scan-result.new.store) (g.St.Store.signs c.args.store.now) (g.St.Store.signs c.leaf_by_scan-result.new.store) c.requires.held c.pop-top.ensures.streams c.leaf_by_scan-result.ensures.stream.read (scene c.drop_all.new.self (g.St.Store.holds c.drop_all.new.store) (g.St.Store.signs c.drop_all.new.store)) c.pop-top.ensures.blocks (c.drop_all.ensures.went c.args.c.now.tracker c.leaf_by_scan-result.ensures.stream.read.shape) c.drop_all.ensures.value (g.E.Emit.admits c.leaf_by_scan-result.new.emit) (g.E.Emit.client c.leaf_by_scan-result.new.emit) (g.E.Emit.faults c.leaf_by_scan-result.new.emit) (g.E.Emit.took c.leaf_by_scan-result.new.emit (g.St.Store.holds c.leaf_by_scan-result.new.store)) (g.E.Emit.took c.leaf_by_scan-result.new.emit (g.St.Store.holds c.drop_all.new.store)) beside still)

pub returns-clause-cause : goal.returns-clause-cause
returns-clause-cause g c =
    came_till c.leaf_by_scan-result.result (g.E.Emit.faults c.args.emit.now) (g.E.Emit.faults c.leaf_by_scan-result.new.emit) (g.St.Store.signs c.args.store.now) (g.St.Store.signs c.leaf_by_scan-result.new.store) (g.St.Store.signs c.drop_all.new.store)
    (leaves_gone c.args.c.now.tracker (g.E.Emit.client c.args.emit.now) c.args.shape.now c.args._table.now c.args.parts.now c.pop-top.new.self c.pop-top.result c.leaf_by_scan-result.new.rows (g.St.Store.holds c.args.store.now) (g.St.Store.holds c.leaf_by_scan-result.new.store) (g.St.Store.signs c.args.store.now) (g.St.Store.signs c.leaf_by_scan-result.new.store) c.requires.held c.pop-top.ensures.streams c.leaf_by_scan-result.ensures.stream.read (scene c.drop_all.new.self (g.St.Store.holds c.drop_all.new.store) (g.St.Store.signs c.drop_all.new.store)) c.pop-top.ensures.blocks (c.drop_all.ensures.went c.args.c.now.tracker c.leaf_by_scan-result.ensures.stream.read.shape) c.drop_all.ensures.value).grows (if_err c.leaf_by_scan-result.result (λ e both. both.came) c.leaf_by_scan-result.ensures.cause)

pub returns-clause-want : goal.returns-clause-want
returns-clause-want g c =
    let blocks : c.pop-top.result.page_blocks ≡ c.args.parts.now.page_blocks =
    c.law_stack.ensures.each (length c.pop-top.new.self.streams) c.pop-top.result (ap (λ (ss : List Streamed). slice_get ss (length c.pop-top.new.self.streams)) c.pop-top.ensures.streams ∙ at_end c.pop-top.new.self.streams c.pop-top.result) in
    λ none. if_err c.leaf_by_scan-result.result
    (λ e both. want_top c.args.parts.now c.pop-top.new.self.streams c.pop-top.result (g.St.Store.holds c.args.store.now) (g.St.Store.signs c.args.store.now) c.pop-top.ensures.streams c.law_stack.ensures blocks e (both.want none))
    c.leaf_by_scan-result.ensures.cause

pub returns-clause-made : goal.returns-clause-made
returns-clause-made g c =
    let read = c.leaf_by_scan-result.new.rows in
    counts_both 0 0 0 (g.E.Emit.creates c.args.emit.now) (g.E.Emit.creates c.leaf_by_scan-result.new.emit) (g.E.Emit.creates c.leaf_by_scan-result.new.emit) (g.St.Store.signs c.args.store.now) (g.St.Store.signs c.leaf_by_scan-result.new.store) (g.St.Store.signs c.drop_all.new.store) (omega arith) c.leaf_by_scan-result.ensures.emitter.made
    (few_counts 0 (g.E.Emit.creates c.leaf_by_scan-result.new.emit) (g.St.Store.signs c.leaf_by_scan-result.new.store) (g.St.Store.signs c.drop_all.new.store)
    (emptied_makes c.args.c.now.tracker (scene read (g.St.Store.holds c.leaf_by_scan-result.new.store) (g.St.Store.signs c.leaf_by_scan-result.new.store)) (scene c.drop_all.new.self (g.St.Store.holds c.drop_all.new.store) (g.St.Store.signs c.drop_all.new.store)) (c.drop_all.ensures.went c.args.c.now.tracker c.leaf_by_scan-result.ensures.stream.read.shape)))

pub returns-clause-enough : goal.returns-clause-enough
returns-clause-enough g c =
    let blocks : c.pop-top.result.page_blocks ≡ c.args.parts.now.page_blocks =
    c.law_stack.ensures.each (length c.pop-top.new.self.streams) c.pop-top.result (ap (λ (ss : List Streamed). slice_get ss (length c.pop-top.new.self.streams)) c.pop-top.ensures.streams ∙ at_end c.pop-top.new.self.streams c.pop-top.result) in
    λ none. if_err c.leaf_by_scan-result.result
    (λ e want rows stacked.
    top_among c.law_scratch.ensures.pages c.args.c.now.tracker c.args.shape.now c.args._table.now c.args._at c.args.parts.now c.pop-top.new.self.streams c.pop-top.result (g.St.Store.holds c.args.store.now) (g.St.Store.signs c.args.store.now) e c.pop-top.ensures.streams c.law_stack.ensures
    (c.law_few_partitions.ensures.law c.args.parts.now c.law_stack.ensures) blocks c.requires.held.owns.shaped c.requires.top rows stacked.shows want)
    (c.leaf_by_scan-result.ensures.enough none)
