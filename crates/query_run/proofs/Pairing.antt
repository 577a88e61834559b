-- The lines of pairs, from what waits before the first one to what is sent last.
use Rattle.std.proofs.Common.{◌≡◌, ◌∙◌, ℕ, ℤ, List, [], ◌++◌, Option, None, Result, Ok, Err, OnErr, OnOk, false, map, sym, ap, subst, refl, append-nil}
use Rattle.std.specs.Io.KnownBytes.{Appends}
use Rattle.row_codec.specs.declared.values.Agg.TheVariants.{Sum}
use Rattle.row_codec.specs.declared.values.Value.{Value}
use Rattle.csv_edge.specs.Lines.{line_of}
use Rattle.csv_edge.specs.Written.{AppendsFront}
use Rattle.group_rows.specs.Aggregates.{aggregate}
use Rattle.join_op.specs.Pairs.{SameRows}
use Rattle.store_api.specs.declared.op_err.OpErr.{OpErr}
use Rattle.query_plan.specs.Sizes.{groups}
use Rattle.query_plan.specs.declared.plan.Query.{Query}
use Rattle.outside.specs.Faults.{Faults}
use Rattle.query_run.specs.Answer.{LineNumbers, answer_text, header_of, lines_of}
use Rattle.query_run.specs.Joined.{HasTakenPairs, HasTakenSomePairs, WrotePairs, WroteSomePairs}
use Rattle.query_run.specs.Parts.{FrontOf}
use Rattle.query_run.specs.Writing.{Begun, text_behind, written}
use Rattle.query_plan.specs.declared.outcome.QueryErr.{QueryErr}
use Rattle.query_plan.specs.declared.outcome.Ran.{Ran}
use Rattle.query_run.proofs.Ended.{more_lines, sent_front, sent_whole, taken_front, wider}
use Rattle.query_run.proofs.Sending.{appends_front}

module _ (pairs : List (List Value)) (before : Begun) (stopped : Option QueryErr) (contents : Option (List ℕ)) (faults : Faults) (waits : List ℕ) (count : ℕ) (totals : List ℤ) where
  all_some : HasTakenPairs pairs before (written contents faults stopped waits count totals) → HasTakenSomePairs pairs before (written contents faults stopped waits count totals)
  all_some taken = record { some = taken.out; rest = []; same = subst (λ rows. SameRows rows pairs) (sym (append-nil taken.out)) taken.same; taken = taken.taken }

  -- some were taken, whether all were handed on or not
  pub some_pairs : {T : Type 0} (handed : Result T OpErr) → OnOk handed (HasTakenPairs pairs before (written contents faults stopped waits count totals))
      → OnErr handed (HasTakenSomePairs pairs before (written contents faults stopped waits count totals)) → HasTakenSomePairs pairs before (written contents faults stopped waits count totals)
  some_pairs (Ok x) ok err = all_some ok
  some_pairs (Err e) ok err = err

  module _ (plan : Query) (final : Option (List ℕ)) (names : before.front ≡ line_of (header_of plan)) where
    text-is : (out : List (List Value)) → text_behind before.front out ≡ answer_text plan out
    text-is out = ap (λ l. l ++ lines_of out) names

    -- the lines or the join were stopped
    pub stopped_pairs : final ≡ contents → HasTakenSomePairs pairs before (written contents faults stopped waits count totals) → WroteSomePairs plan pairs before.contents final
    stopped_pairs is some = record {
      out = some.some ++ some.rest;
      same = some.same;
      written =
          subst (λ f. AppendsFront before.contents f (answer_text plan (some.some ++ some.rest))) (sym is)
          (subst (AppendsFront before.contents contents) (text-is (some.some ++ some.rest))
          (appends_front before.contents contents (text_behind before.front (some.some ++ some.rest))
          (wider before.contents contents (text_behind before.front some.some) (lines_of some.rest) (text_behind before.front (some.some ++ some.rest)) (more_lines before.front some.some some.rest)
          (taken_front before some.some stopped contents faults waits count totals some.taken))));
    }

    module _ (later : Option (List ℕ)) (none : stopped ≡ None) (is : final ≡ later) (taken : HasTakenPairs pairs before (written contents faults stopped waits count totals)) where
      -- what waited wasn't sent whole
      pub unsent_pairs : FrontOf contents later waits → WroteSomePairs plan pairs before.contents final
      unsent_pairs front = record {
        out = taken.out;
        same = taken.same;
        written =
            subst (λ f. AppendsFront before.contents f (answer_text plan taken.out)) (sym is)
            (subst (AppendsFront before.contents later) (text-is taken.out) (sent_front before taken.out stopped contents later faults waits count totals none taken.taken front));
      }

      -- or it was
      pub whole_pairs : Appends contents later waits → WrotePairs plan pairs before.contents final
      whole_pairs appends = record {
        out = taken.out;
        same = taken.same;
        written =
            subst (λ f. Appends before.contents f (answer_text plan taken.out)) (sym is)
            (subst (Appends before.contents later) (text-is taken.out) (sent_whole before taken.out stopped contents later faults waits count totals none taken.taken appends));
      }

pub no_pairs : (plan : Query) (pairs : List (List Value)) (now : Option (List ℕ)) → AppendsFront now now (answer_text plan pairs) → WroteSomePairs plan pairs now now
no_pairs plan pairs now none = record { out = pairs; same = λ count. refl; written = none }

-- nothing is summed where nothing is grouped
pub pair_numbers : (plan : Query) (pairs : List (List Value)) (before : Begun) (stopped : Option QueryErr) (contents : Option (List ℕ)) (faults : Faults) (waits : List ℕ) (totals : List ℤ) (ran : Ran) → groups plan ≡ false → plan.aggs ≡ []
    → before.columns ≡ [] → ran.totals ≡ totals → HasTakenPairs pairs before (written contents faults stopped waits ran.lines totals) → LineNumbers plan pairs ran
pair_numbers plan pairs before stopped contents faults waits totals ran alone none columns is taken =
    let summed : ran.totals ≡ [] = is ∙ taken.taken.totals ∙ ap (map (λ column. aggregate (Sum column) taken.out)) columns in
    record { out = taken.out; are = rw alone taken.same; lines = taken.taken.counted; totals = rw none summed }
