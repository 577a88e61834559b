use Rattle.std.proofs.Common.{refl, sym, ◌∙◌, subst, arith}
use Rattle.tuple_stream.specs.Places.{Place, IsWithin}
use Rattle.tuple_stream.proofs.Chains.{touches_refl, touches_trans, has_room_kept}
use Rattle.tuple_stream.proofs.Frames.{client_kept}
use Rattle.tests_stores.proofs.tests.streams.walked.Goals as goal

pub loop-s-init : goal.loop-s-init
loop-s-init g c =
    let s = c.args.stream.now in
    record {
      client = c.requires.client;
      stream = c.requires.stream;
      room = c.requires.room;
      place = subst (λ (at : Place). IsWithin at s) (sym c.first-place.ensures) (record { page_is = omega arith; row_is = omega arith });
      sized = refl;
      touches = touches_refl c.args.c.now.tracker s (g.St.Store.holds c.args.store.now);
    }

pub returns-in_err-shown-clause-touches : goal.returns-in_err-shown-clause-touches
returns-in_err-shown-clause-touches g c =
    touches_trans c.args.c.now.tracker c.args.stream.now c.loop-s.stream _ _ _ _ c.loop-s.invariant.touches c.take_step.ensures.touches

pub returns-then-is_err-clause-touches : goal.returns-then-is_err-clause-touches
returns-then-is_err-clause-touches g c =
    touches_trans c.args.c.now.tracker c.args.stream.now c.loop-s.stream _ _ _ _ c.loop-s.invariant.touches c.take_step.ensures.touches

pub loop-s-preserved : goal.loop-s-preserved
loop-s-preserved g c =
    let was = c.loop-s.invariant in
    let now = c.take_step.ensures in
    let old = g.St.Store.holds c.loop-s.store in
    let new = g.St.Store.holds c.take_step.new.store in
    record {
      client = client_kept c.args.c.now c.loop-s.stream c.take_step.new.stream old new was.client now.touches;
      stream = now.stream;
      room = has_room_kept c.args.c.now.tracker c.loop-s.stream c.take_step.new.stream old new was.room now.touches now.sized;
      place = now.place;
      sized = now.sized ∙ was.sized;
      touches = touches_trans c.args.c.now.tracker c.args.stream.now c.loop-s.stream c.take_step.new.stream (g.St.Store.holds c.args.store.now) old new was.touches now.touches;
    }
