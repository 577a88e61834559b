use Rattle.std.proofs.Common.{◌≡◌, ◌+◌, [], ◌∷◌, ◌++◌, ap, arith, length, refl, ◌∙◌}
use Rattle.std.proofs.lemmas.List.Elements.{All-nil, All-push, All-same}
use Rattle.spill_top.proofs.Writing.{begin_more, begin_none, numbers_all, numbers_left}
use Rattle.spill_top.proofs.writers.begin_writers.Goals as goal

pub loop-i-init : goal.loop-i-init
loop-i-init g c = record {
  begin = begin_none c.args.pass.now;
  len = c.args.writers.ok.0 ∙ ap length c.requires.empty;
  room = c.requires.room;
  at = All-same (λ w. w.seat.spot.table ≡ c.args.pool.now) c.args.writers.items [] c.requires.empty (All-nil (λ w. w.seat.spot.table ≡ c.args.pool.now));
  numbers = numbers_all c.args.pass.now c.requires.rights;
}

pub begin-requires-clause-table : goal.begin-requires-clause-table
begin-requires-clause-table g c = c.loop-i.invariant.begin.table ∙ c.requires.table

pub begin-requires-clause-has : goal.begin-requires-clause-has
begin-requires-clause-has g c = c.loop-i.invariant.numbers (1000 + c.loop-i.i) (omega arith) (omega (arith, c.loop-i-test.true, c.requires.count))

pub loop-i-preserved : goal.loop-i-preserved
loop-i-preserved g c =
    let table : c.begin.result.seat.spot.table ≡ c.args.pool.now = c.begin.ensures.table ∙ c.loop-i.invariant.begin.table ∙ c.requires.table in
    record {
      begin = begin_more c.loop-i.i (1000 + c.loop-i.i) c.args.pass.now c.loop-i.pass c.begin.new.pass c.begin.result.seat c.loop-i.invariant.begin c.begin.ensures;
      len = omega (arith, c.push_reserved.ensures.len, c.loop-i.invariant.len);
      room = omega (arith, c.push_reserved.ensures.capacity, c.loop-i.invariant.room);
      at = All-same (λ w. w.seat.spot.table ≡ c.args.pool.now) c.push_reserved.new.self.items (c.loop-i.writers.items ++ c.begin.result ∷ []) c.push_reserved.ensures.items
          (All-push (λ w. w.seat.spot.table ≡ c.args.pool.now) c.loop-i.writers.items c.begin.result c.loop-i.invariant.at table);
      numbers = numbers_left c.loop-i.i (1000 + c.loop-i.i) c.loop-i.pass c.begin.new.pass c.begin.result.seat refl c.loop-i.invariant.numbers c.begin.ensures;
    }
