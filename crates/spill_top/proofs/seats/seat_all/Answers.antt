use Rattle.std.proofs.Common.{◌≡◌, [], ◌∷◌, ap, arith, length, map, reverse, rules, sym, vec_len, ◌∙◌}
use Rattle.std.specs.Vec.{with_items}
use Rattle.std.proofs.lemmas.Bool.{eqb-true}
use Rattle.std.proofs.lemmas.List.{map-append, with_items_is}
use Rattle.pool.specs.Asking.{answer_of}
use Rattle.spill_top.specs.Together.{IsOneOrRefused, job_with, over_seat}
use Rattle.spill_top.proofs.Seating.{all_before, all_reversed, of_last, seated_all, seated_more, seated_none}
use Rattle.spill_top.proofs.seats.seat_all.Goals as goal

pub loop-answers-init : goal.loop-answers-init
loop-answers-init g c =
    let is : (with_items c.args.answers c.reverse.new.self).items ≡ reverse c.args.answers.items =
    with_items_is c.args.answers c.reverse.new.self (c.reverse.ensures.len ∙ c.as_mut_slice.ensures.len) ∙ c.reverse.ensures.after ∙ ap reverse c.as_mut_slice.ensures.value in
    let none : vec_len c.args.jobs ≡ 0 = c.args.jobs.ok.0 ∙ ap length c.requires.empty in
    record {
      jobs = seated_none (λ answer. job_with (answer_of (λ v. v.items) (λ s. s.seat) answer)) (map (over_seat (λ s. s.seat)) c.args.jobs.items) c.args.answers.items (with_items c.args.answers c.reverse.new.self).items
          (ap (map (over_seat (λ s. s.seat))) c.requires.empty) is;
      each = all_reversed (λ answer. IsOneOrRefused (answer_of (λ v. v.items) (λ s. s.seat) answer)) c.args.answers.items (with_items c.args.answers c.reverse.new.self).items is c.requires.each;
      few = omega (arith, none, c.requires.few);
      room = omega (arith, none, c.requires.room);
    }

pub seat-requires : goal.seat-requires
seat-requires g c = (
  search rules,
  of_last (λ answer. IsOneOrRefused (answer_of (λ v. v.items) (λ s. s.seat) answer)) c.loop-answers.answers.items c.take_last-answer.new.self.items c.take_last-answer.result c.take_last-answer.ensures.items c.loop-answers.invariant.each,
)

pub loop-answers-preserved : goal.loop-answers-preserved
loop-answers-preserved g c = record {
  jobs = seated_more (λ answer. job_with (answer_of (λ v. v.items) (λ s. s.seat) answer)) (map (over_seat (λ s. s.seat)) c.loop-answers.jobs.items) (map (over_seat (λ s. s.seat)) c.push_reserved.new.self.items) (map (λ answer. job_with (answer_of (λ v. v.items) (λ s. s.seat) answer)) c.args.answers.items) c.loop-answers.answers.items c.take_last-answer.new.self.items c.take_last-answer.result (over_seat (λ s. s.seat) c.seat.result)
      c.take_last-answer.ensures.items c.seat.ensures (ap (map (over_seat (λ s. s.seat))) c.push_reserved.ensures.items ∙ map-append (over_seat (λ s. s.seat)) c.loop-answers.jobs.items (c.seat.result ∷ [])) c.loop-answers.invariant.jobs;
  each = all_before (λ answer. IsOneOrRefused (answer_of (λ v. v.items) (λ s. s.seat) answer)) c.loop-answers.answers.items c.take_last-answer.new.self.items c.take_last-answer.result c.take_last-answer.ensures.items c.loop-answers.invariant.each;
  few = omega (arith, c.loop-answers.invariant.few, c.take_last-answer.ensures.len, c.push_reserved.ensures.len);
  room = omega (arith, c.loop-answers.invariant.room, c.take_last-answer.ensures.len, c.push_reserved.ensures.len, c.push_reserved.ensures.capacity);
}

pub returns : goal.returns
returns g c =
    let none : vec_len c.loop-answers.answers ≡ 0 = eqb-true (vec_len c.loop-answers.answers) 0 (sym c.is_empty.ensures ∙ c.loop-answers-test.false) in
    seated_all (λ answer. job_with (answer_of (λ v. v.items) (λ s. s.seat) answer)) (map (over_seat (λ s. s.seat)) c.loop-answers.jobs.items) (map (λ answer. job_with (answer_of (λ v. v.items) (λ s. s.seat) answer)) c.args.answers.items) c.loop-answers.answers.items (sym c.loop-answers.answers.ok.0 ∙ none) c.loop-answers.invariant.jobs
