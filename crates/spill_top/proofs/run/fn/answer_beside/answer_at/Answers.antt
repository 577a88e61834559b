use Rattle.std.proofs.Common.{length, refl, rules}
use Rattle.std.proofs.lemmas.Option.{slice_get_read}
use Rattle.spill_top.proofs.run.fn.answer_beside.answer_at.Goals as goal

pub answer_at_gate-requires : goal.answer_at_gate-requires
answer_at_gate-requires g c =
    (search rules, c.requires.2 c.index-queries-place.result (slice_get_read c.captures.queries.now (length c.captures.queries.now) c.args.place c.index-queries-place.result refl c.requires.0 c.index-queries-place.is))
