use Rattle.std.proofs.Common.{◌≡◌, ◌∙◌, ℕ, List, IfErr, OnOk, inl, inr, length, ap, subst, sym, rules, refl}
use Rattle.std.proofs.lemmas.Result.{IfErr-weaker}
use Rattle.pin_core.specs.Tallies.{tally_of}
use Rattle.pin_core.specs.declared.tally.Tally.{Tally}
use Rattle.query_plan.specs.Sizes.{page_len}
use Rattle.query_run.specs.Both.{both_told, told_in}
use Rattle.query_run.specs.Causes.{OfPool}
use Rattle.spill_top.specs.Pooled.{ComeBack, HaveFailed, IsPoolStop, all_tell, memory_of}
use Rattle.spill_top.specs.Sides.{if_told}
use Rattle.spill_top.specs.Storing.{HaveStored, owed}
use Rattle.query_run.proofs.Runs.{nothing_read, read_and_wrote_at}
use Rattle.spill_top.proofs.Closing.{have_kept, slots_back, stopped_by}
use Rattle.spill_top.proofs.Pools.{as_many, same_slots}
use Rattle.spill_top.proofs.pooled.run_counted.Goals as goal

pub returns-in-Err-clause-ran : goal.returns-in-Err-clause-ran
returns-in-Err-clause-ran g c = record {
  outside = nothing_read g.S.Source g.K.Sink c.args.run.now.query.now _ _ _;
  pool = tt;
  back =
      let taken : c.replace-taken.result.items ≡ c.args.slots.now.items = search rules in
      subst (λ (ds : List g.row.D.Denot). ComeBack (tally_of g.D.Slot ds) (tally_of g.D.Slot c.in-Err.back.items)) taken (same_slots g.D.Slot c.replace-taken.result.items c.in-Err.back.items c.in-Err.ensures.back);
  stored = tt;
}

pub returns-in-Err-clause-len : goal.returns-in-Err-clause-len
returns-in-Err-clause-len g c =
    let taken : c.replace-taken.result.items ≡ c.args.slots.now.items = search rules in
    let all : length c.in-Err.back.items ≡ length c.replace-taken.result.items = as_many g.D.Slot c.replace-taken.result.items c.in-Err.back.items (same_slots g.D.Slot c.replace-taken.result.items c.in-Err.back.items c.in-Err.ensures.back) in
    search (rules, all, taken)

pub returns-clause-ran : goal.returns-clause-ran
returns-clause-ran g c = record {
  outside = read_and_wrote_at g.S.Source g.K.Sink c.args.run.now.query.now _ _ _ _ _ _ c.run_seated-ran.result refl c.requires.told c.run_seated-ran.ensures.outside;
  pool =
      let told = both_told (g.S.Source.remaining c.args.left.now) (told_in g.S.Source.remaining c.args.right.now) in
      let tally = tally_of g.D.Slot c.close.result.items in
      subst (λ (n : ℕ). IfErr c.run_seated-ran.result (OfPool (IsPoolStop c.args.run.now.query.now (page_len c.args.run.now.query.now n) (if_told (all_tell (tally_of g.D.Slot c.args.slots.now.items)) told) c.args.run.now.quota (HaveFailed (tally_of g.D.Slot c.args.slots.now.items) tally)))) c.requires.opens.numbers.block_len
      (subst (λ (t : Tally). IfErr c.run_seated-ran.result (OfPool (IsPoolStop c.args.run.now.query.now (page_len c.args.run.now.query.now g.T.Opened.opening.block_len) (if_told (all_tell t) told) c.args.run.now.quota (HaveFailed t tally)))) c.requires.first
      (stopped_by g.D.Slot g.T.Opened.opening g.T.Opened.outset.told g.T.Opened.first c.run_seated-ran.new.pass c.close.result.items c.close.ensures c.args.run.now.query.now c.args.run.now.quota (g.S.Source.remaining c.args.left.now) (told_in g.S.Source.remaining c.args.right.now)
      c.run_seated-ran.result c.run_seated-ran.ensures.ran c.law_shares.ensures.names (c.requires.told ∙ ap all_tell (sym c.requires.first)) (c.requires.opens.numbers.first_name ∙ c.requires.memory.first)));
  back =
      subst (λ (t : Tally). ComeBack t (tally_of g.D.Slot c.close.result.items)) c.requires.first
      (slots_back g.D.Slot g.T.Opened.opening g.T.Opened.outset.told g.T.Opened.first c.run_seated-ran.new.pass c.close.result.items c.close.ensures);
  stored =
      let told = both_told (g.S.Source.remaining c.args.left.now) (told_in g.S.Source.remaining c.args.right.now) in
      subst (λ (t : Tally). OnOk c.run_seated-ran.result (HaveStored c.args.run.now.conf.block_len (owed c.args.run.now.query.now (memory_of c.args.run.now.conf) told) t (tally_of g.D.Slot c.close.result.items))) c.requires.first
      (have_kept g.D.Slot g.T.Opened.opening g.T.Opened.outset.told g.T.Opened.first c.run_seated-ran.new.pass c.close.result.items c.close.ensures c.args.run.now.query.now c.args.run.now.quota (g.S.Source.remaining c.args.left.now) (told_in g.S.Source.remaining c.args.right.now)
      c.run_seated-ran.result c.run_seated-ran.ensures.ran c.args.run.now.conf _ c.requires.opens.numbers c.law_spill.ensures.law c.law_shares.ensures.stored c.law_shares.ensures.parts c.requires.query);
}

pub returns-clause-len : goal.returns-clause-len
returns-clause-len g c =
    let all : length c.close.result.items ≡ length c.args.slots.now.items = as_many g.D.Slot c.args.slots.now.items c.close.result.items
    (subst (λ (t : Tally). ComeBack t (tally_of g.D.Slot c.close.result.items)) c.requires.first
    (slots_back g.D.Slot g.T.Opened.opening g.T.Opened.outset.told g.T.Opened.first c.run_seated-ran.new.pass c.close.result.items c.close.ensures)) in
    search (rules, all)
