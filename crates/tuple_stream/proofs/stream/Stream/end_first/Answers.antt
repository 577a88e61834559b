use Rattle.std.proofs.Common.{sym, subst}
use Rattle.tuple_stream.specs.Streamed.{Streamed}
use Rattle.tuple_stream.specs.Touches.{Touches}
use Rattle.tuple_stream.proofs.Chains.{touches_trans}
use Rattle.tuple_stream.proofs.Frames.{touches_counts}
use Rattle.tuple_stream.proofs.stream.Stream.end_first.Goals as goal

pub returns-then-is_empty-clause-touches : goal.returns-then-is_empty-clause-touches
returns-then-is_empty-clause-touches g c =
    let mid = c.drop_first.new.self in
    let new = g.St.Store.holds c.drop_first.new.store in
    λ t has.
    touches_trans t c.args.self.now mid _ (g.St.Store.holds c.args.store.now) new new (c.drop_first.ensures.touches t has)
    (subst (λ (s : Streamed). Touches t mid (record s { spent = 0; used = 0 }) new new) (sym c.self.view_is) (touches_counts t mid 0 0 mid.count new))

pub returns-else-is_empty-clause-touches : goal.returns-else-is_empty-clause-touches
returns-else-is_empty-clause-touches g c =
    let mid = c.drop_first.new.self in
    let new = g.St.Store.holds c.drop_first.new.store in
    λ t has.
    touches_trans t c.args.self.now mid _ (g.St.Store.holds c.args.store.now) new new (c.drop_first.ensures.touches t has)
    (subst (λ (s : Streamed). Touches t mid (record s { spent = 0 }) new new) (sym c.self.view_is) (touches_counts t mid 0 mid.used mid.count new))
