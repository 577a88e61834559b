use Rattle.std.proofs.Common.{ℕ, List, Option, subst, sym, ap, inl, inr, refl}
use Rattle.std.specs.Io.KnownBytes.{Keeps}
use Rattle.std.proofs.lemmas.Result.{IfErr-weaker}
use Rattle.spill_top.specs.Report.{Lengthens}
use Rattle.spill_top.proofs.OneInput.{not_joins}
use Rattle.spill_top.proofs.Watching.{longer_lengthens, still_keeps}
use Rattle.spill_top.proofs.watched.run_watched.Goals as goal

pub run_pooled-ran-requires-clause-right : goal.run_pooled-ran-requires-clause-right
run_pooled-ran-requires-clause-right g c κs within = not_joins c.args.plan.now c.requires.alone

pub returns-clause-outside : goal.returns-clause-outside
returns-clause-outside g c =
    let result = c.run_pooled-ran.result in
    let ran = c.run_pooled-ran.ensures.ran.outside in
    let alone = ran.sources.1 in
    record {
      answer = ran.answer;
      read = rw alone at ran.read;
      numbers = ran.numbers;
      input = rw alone at ran.input;
      untouched = IfErr-weaker result _ _ (λ e same is. ap (λ tied. tied.watched.sink.now) (same is)) ran.untouched;
      front = ran.front;
      stopped = IfErr-weaker result _ _ (λ e either. elim either [
        | inl same ↦ inl (ap (λ tied. tied.watched.sink.now) same)
        | inr all ↦ inr (rw alone at all.0, all.1)
      ]) ran.stopped;
      sink = ran.sink;
      stops = ran.stops;
      sources = (ran.sources.0, refl);
    }

pub returns-clause-kept : goal.returns-clause-kept
returns-clause-kept g c = λ unwritten.
    subst (λ (o : Option (List ℕ)). Keeps o (g.R.Sink.contents c.run_pooled-ran.new.sink.watched.sink.now)) (sym c.requires.before) (still_keeps g.B.Start.before _ (c.run_pooled-ran.new.sink.kept unwritten))

pub returns-clause-longer : goal.returns-clause-longer
returns-clause-longer g c = λ written.
    subst (λ (o : Option (List ℕ)). Lengthens o (g.R.Sink.contents c.run_pooled-ran.new.sink.watched.sink.now)) (sym c.requires.before) (longer_lengthens g.B.Start.before _ (c.run_pooled-ran.new.sink.longer written))
