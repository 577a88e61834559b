use Rattle.std.proofs.Common.{ap}
use Rattle.tuple_stream.specs.Streamed.{Streamed}
use Rattle.tuple_stream.proofs.Chains.{touches_trans}
use Rattle.tuple_stream.proofs.Empty.{nothing_left}
use Rattle.example_sessions.proofs.rows.through_pages.Goals as goal

-- the stream began without pages and has none left, so only its client's account changed
pub returns-clause-rest : goal.returns-clause-rest
returns-clause-rest g c =
    let t = c.args.c.now.tracker in
    let old = g.St.Store.holds c.args.store.now in
    let new = g.St.Store.holds c.drop_all.new.store in
    let touches = touches_trans t c.new-stream.result c.laid_and_read-seen.new.stream c.drop_all.new.self old (g.St.Store.holds c.laid_and_read-seen.new.store) new c.laid_and_read-seen.ensures.touches (c.drop_all.ensures.went t c.laid_and_read-seen.ensures.stream).touches in
    nothing_left t c.new-stream.result c.drop_all.new.self old new (ap (λ (s : Streamed). s.pages) c.new-stream.ensures) (ap (λ (s : Streamed). s.pages) c.drop_all.ensures.value) touches
