use Rattle.tuple_stream.proofs.Going.{came_later, went_trans}
use Rattle.tuple_stream.proofs.Readying.{on_err, on_ok, readies_after, rests_adding}
use Rattle.tuple_stream.proofs.stream.Stream.begin_page.Goals as goal

pub returns-clause-ok : goal.returns-clause-ok
returns-clause-ok g c = on_ok c.add_page.result (readies_after c.args.c.now.tracker c.args.bytes _ _ _ (λ s. tt) (λ k. tt) (rests_adding c.args.c.now.tracker _ _ (c.rest.ensures.went c.args.c.now.tracker c.requires.stream))) c.add_page.ensures.ok

pub returns-clause-err : goal.returns-clause-err
returns-clause-err g c = on_err c.add_page.result (went_trans _ _ _ c.args.c.now.tracker (λ s. tt) (λ k. tt) (λ never. never) (rests_adding c.args.c.now.tracker _ _ (c.rest.ensures.went c.args.c.now.tracker c.requires.stream))) c.add_page.ensures.err

pub returns-clause-cause : goal.returns-clause-cause
returns-clause-cause g c =
    let step = (c.rest.ensures.went c.args.c.now.tracker c.requires.stream).step in
    came_later _ _ _ c.add_page.result step.grows step.sized c.add_page.ensures.cause
