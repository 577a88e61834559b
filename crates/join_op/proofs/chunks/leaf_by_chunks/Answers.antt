use Rattle.std.proofs.Common.{ℕ, ◌∙◌, sym, subst, Option, ap}
use Rattle.bucket_table.specs.Tables.{Table}
use Rattle.partition_stack.proofs.Results.{if_err}
use Rattle.tuple_stream.specs.Streamed.{Streamed}
use Rattle.partition_stack.specs.Slots.{IsWantOf}
use Rattle.join_op.proofs.Crowding.{full_two_of}
use Rattle.join_op.specs.Holding.{IsTableAt}
use Rattle.join_op.proofs.LeafEnds.{lends_nothing}
use Rattle.join_op.proofs.chunks.leaf_by_chunks.Goals as goal

pub join_pair-requires-clause-table : goal.join_pair-requires-clause-table
join_pair-requires-clause-table g c = subst (λ (o : Option Table). IsTableAt c.args.c.now.tracker o (g.St.Store.holds c.args.store.now)) (sym c.few-held.ensures.none) c.requires.streams.client

pub returns-clause-streams : goal.returns-clause-streams
returns-clause-streams g c = c.join_pair.ensures.streams _ (lends_nothing c.args.c.now.tracker c.few-held.result.table _ c.few-held.ensures.none c.requires.streams.client) c.requires.streams

pub returns-clause-cause : goal.returns-clause-cause
returns-clause-cause g c =
    let blocks = c.args.left.now.page_blocks in
    let read = c.join_pair.ensures.streams _ (lends_nothing c.args.c.now.tracker c.few-held.result.table _ c.few-held.ensures.none c.requires.streams.client) c.requires.streams in
    if_err c.join_pair.result
    (λ e came. record {
      came = came.came;
      want = λ none.
          subst (λ (o : Option ℕ). IsWantOf blocks o e) (c.join_pair.ensures.hands.slots.alone none)
          (full_two_of blocks c.join_pair.new.left c.join_pair.new.right (g.St.Store.holds c.join_pair.new.store) (ap (λ (s : Streamed). s.page_blocks) read.left_same) (ap (λ (s : Streamed). s.page_blocks) read.right_same ∙ c.requires.streams.alike) e (came.full none));
    })
    c.join_pair.ensures.hands.cause
