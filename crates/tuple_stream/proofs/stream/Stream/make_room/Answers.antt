use Rattle.std.proofs.Common.{rules, ◌≡◌, ◌-◌, length, ap, arith, inl, inr}
use Rattle.tuple_stream.specs.Streamed.{Streamed}
use Rattle.tuple_stream.proofs.Going.{went_under}
use Rattle.tuple_stream.proofs.Readying.{any_err, at_end_open, on_err, on_ok, opened_readies, readies_under}
use Rattle.tuple_stream.proofs.stream.Stream.make_room.Goals as goal

pub returns-then-has_room-clause-ok : goal.returns-then-has_room-clause-ok
returns-then-has_room-clause-ok g c =
    let t = c.args.c.now.tracker in
    let long : c.len-last.result ≡ length c.args.self.now.pages = search rules in
    let some = c.has_room.ensures.some c.if-has_room.true in
    let fits = c.has_room.ensures.fits c.if-has_room.true in
    on_ok c.open_at.result (λ open_is.
    opened_readies t c.args.bytes (c.len-last.result - 1) _ _ (c.open_at.ensures.went t c.requires.stream)
    (ap (λ (s : Streamed). s.pages) c.open_at.ensures.same) (ap (λ (s : Streamed). s.used) c.open_at.ensures.same) open_is (omega (arith, long, some)) (omega (arith, fits, c.requires.len))) c.open_at.ensures.ok

pub returns-then-has_room-clause-err : goal.returns-then-has_room-clause-err
returns-then-has_room-clause-err g c =
    let t = c.args.c.now.tracker in
    let long : c.len-last.result ≡ length c.args.self.now.pages = search rules in
    let some = c.has_room.ensures.some c.if-has_room.true in
    let place = c.len-last.result - 1 in
    let steady = at_end_open c.args.self.now place (omega (arith, long, some)) in
    any_err c.open_at.result (went_under t _ _ (λ sure. elim sure [ inl tells ↦ inl tells | inr at_end ↦ inr (steady at_end) ]) steady (λ never. absurd never) (c.open_at.ensures.went t c.requires.stream))

pub returns-else-has_room-clause-ok : goal.returns-else-has_room-clause-ok
returns-else-has_room-clause-ok g c = on_ok c.begin_page.result (readies_under c.args.c.now.tracker c.args.bytes _ _ (λ s. tt) (λ k. inl k)) c.begin_page.ensures.ok

pub returns-else-has_room-clause-err : goal.returns-else-has_room-clause-err
returns-else-has_room-clause-err g c = on_err c.begin_page.result (went_under c.args.c.now.tracker _ _ (λ s. tt) (λ k. inl k) (λ never. never)) c.begin_page.ensures.err
