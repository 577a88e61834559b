-- The lines of an answer, from what waits before the first row to what is sent last.
use Rattle.std.proofs.Common.{rules, ◌≡◌, ◌∙◌, ◌+◌, ℕ, zero, suc, List, [], ◌∷◌, ◌++◌, Option, Some, None, true, length, map, replicate, sym, ap, ap₂, subst, refl, append_assoc, append-nil, inl, inr}
use Rattle.std.specs.Prelude.{ℤ, pos, Result, Ok, Err, OnErr, OnOk}
use Rattle.std.specs.Int.{w128}
use Rattle.std.specs.Io.KnownBytes.{Appends}
use Rattle.std.specs.List.{range_with_len}
use Rattle.std.proofs.lemmas.Grind.{flat_map-append}
use Rattle.std.proofs.lemmas.Int.{int_wrap_fits}
use Rattle.row_codec.specs.declared.values.Agg.TheVariants.{Sum}
use Rattle.row_codec.specs.declared.values.Value.{Value}
use Rattle.outside.specs.Faults.{Faults}
use Rattle.outside.specs.Sinks.{StopsAt}
use Rattle.csv_edge.specs.Lines.{line_of}
use Rattle.csv_edge.specs.Written.{AppendsFront}
use Rattle.store_api.specs.declared.op_err.OpErr.{OpErr}
use Rattle.store_api.specs.declared.shapes.Shape.{Shape}
use Rattle.group_rows.specs.Aggregates.{aggregate}
use Rattle.query_plan.specs.Sizes.{groups}
use Rattle.query_plan.specs.declared.plan.Query.{Query}
use Rattle.query_run.specs.Answer.{LineNumbers, answer_text, group_rows, header_of, lines_of}
use Rattle.query_run.specs.Ending.{IsEndedBy, WentThrough}
use Rattle.query_run.specs.Parts.{FrontOf, HasSent}
use Rattle.query_run.specs.Plans.{grouping_of, shape_of}
use Rattle.query_run.specs.Writing.{Begun, HasTaken, HasTakenGroups, HasTakenSome, text_behind, written}
use Rattle.query_plan.specs.declared.outcome.QueryErr.{QueryErr}
use Rattle.query_plan.specs.declared.outcome.QueryErr.TheVariants.{SinkFault}
use Rattle.query_plan.specs.declared.outcome.Ran.{Ran}
use Rattle.query_run.proofs.Sending.{appended, appends_front, begun, front_left, front_none, front_on, sent_all}

-- ---- before the first row

no_sums : (first n : ℕ) → replicate n (pos 0) ≡ map (λ column. aggregate (Sum column) []) (range_with_len first n)
no_sums first zero = refl
no_sums first (suc n) = ap₂ (λ (z : ℤ) (zs : List ℤ). z ∷ zs) (sym (int_wrap_fits w128 (pos 0) (search rules))) (no_sums (first + 1) n)

pub took_none : (contents : Option (List ℕ)) (faults : Faults) (front : List ℕ) (totals : List ℤ) (first n : ℕ) → totals ≡ replicate n (pos 0)
    → HasTaken (record { contents = contents; faults = faults; front = front; columns = range_with_len first n }) [] (written contents faults None front 0 totals)
took_none contents faults front totals first n are = record {
  sent = (subst (HasSent contents contents front) (sym (append-nil front)) (begun contents front), refl, refl);
  counted = refl;
  totals = are ∙ no_sums first n;
}

-- ---- the text

pub more_lines : (front : List ℕ) (some rest : List (List Value)) → text_behind front some ++ lines_of rest ≡ text_behind front (some ++ rest)
more_lines front some rest = append_assoc front (lines_of some) (lines_of rest) ∙ ap (λ l. front ++ l) (sym (flat_map-append line_of some rest))

pub wider : (start now : Option (List ℕ)) (text more all : List ℕ) → text ++ more ≡ all → FrontOf start now text → FrontOf start now all
wider start now text more all is front = record {
  sent = front.sent;
  rest = front.rest ++ more;
  written = front.written;
  whole = sym (append_assoc front.sent front.rest more) ∙ ap (λ l. l ++ more) front.whole ∙ is;
}

-- a front of the text was sent, whether the lines were stopped or not
pub taken_front : (before : Begun) (rows : List (List Value)) (stopped : Option QueryErr) (contents : Option (List ℕ)) (faults : Faults) (waits : List ℕ) (count : ℕ) (totals : List ℤ)
    → HasTaken before rows (written contents faults stopped waits count totals) → FrontOf before.contents contents (text_behind before.front rows)
taken_front before rows None contents faults waits count totals taken = front_left before.contents contents waits (text_behind before.front rows) taken.sent.0
taken_front before rows (Some why) contents faults waits count totals taken = taken.sent.0

module _ (before : Begun) (rows : List (List Value)) (shape : Shape) (stopped : Option QueryErr) (contents : Option (List ℕ)) (faults : Faults) (waits : List ℕ) (count : ℕ) (totals : List ℤ) where
  all_some : HasTakenGroups shape rows before (written contents faults stopped waits count totals) → HasTakenSome shape rows before (written contents faults stopped waits count totals)
  all_some taken = record { some = _; rest = []; split = sym (append-nil (group_rows (record { keys = shape.keys; aggs = shape.aggs }) rows)); taken = taken }

  -- so it is in the end
  front_some : HasTakenSome shape rows before (written contents faults stopped waits count totals)
      → AppendsFront before.contents contents (text_behind before.front (group_rows (record { keys = shape.keys; aggs = shape.aggs }) rows))
  front_some has =
      appends_front before.contents contents (text_behind before.front (group_rows (record { keys = shape.keys; aggs = shape.aggs }) rows))
      (wider before.contents contents (text_behind before.front has.some) (lines_of has.rest) (text_behind before.front (group_rows (record { keys = shape.keys; aggs = shape.aggs }) rows))
      (more_lines before.front has.some has.rest ∙ ap (text_behind before.front) (sym has.split))
      (taken_front before has.some stopped contents faults waits count totals has.taken))

  pub some_anyhow : {T : Type 0} (handed : Result T OpErr) → OnOk handed (HasTakenGroups shape rows before (written contents faults stopped waits count totals)) → OnErr handed (HasTakenSome shape rows before (written contents faults stopped waits count totals))
      → HasTakenSome shape rows before (written contents faults stopped waits count totals)
  some_anyhow (Ok x) ok err = all_some ok
  some_anyhow (Err e) ok err = err

-- what waited is sent, or a front of it
pub sent_whole : (before : Begun) (rows : List (List Value)) (stopped : Option QueryErr) (contents contents' : Option (List ℕ)) (faults : Faults) (waits : List ℕ) (count : ℕ) (totals : List ℤ) → stopped ≡ None
    → HasTaken before rows (written contents faults stopped waits count totals) → Appends contents contents' waits → Appends before.contents contents' (text_behind before.front rows)
sent_whole before rows (Some why) contents contents' faults waits count totals none taken appends = absurd cc
sent_whole before rows None contents contents' faults waits count totals none taken appends =
    appended before.contents contents' (text_behind before.front rows) (sent_all before.contents contents contents' waits (text_behind before.front rows) taken.sent.0 appends)

pub sent_front : (before : Begun) (rows : List (List Value)) (stopped : Option QueryErr) (contents contents' : Option (List ℕ)) (faults : Faults) (waits : List ℕ) (count : ℕ) (totals : List ℤ) → stopped ≡ None
    → HasTaken before rows (written contents faults stopped waits count totals) → FrontOf contents contents' waits → AppendsFront before.contents contents' (text_behind before.front rows)
sent_front before rows (Some why) contents contents' faults waits count totals none taken front = absurd cc
sent_front before rows None contents contents' faults waits count totals none taken front =
    appends_front before.contents contents' (text_behind before.front rows)
    (subst (FrontOf before.contents contents') (append-nil (text_behind before.front rows)) (front_on before.contents contents contents' waits (text_behind before.front rows) [] taken.sent.0 front))

-- ---- lines that went through

pub not_stopped : {T : Type 0} (stopped : Option QueryErr) (handed : Result T OpErr) → WentThrough stopped handed → stopped ≡ None
not_stopped None handed went = refl
not_stopped (Some why) handed went = absurd went

pub all_handed : {T P : Type 0} (stopped : Option QueryErr) (handed : Result T OpErr) → WentThrough stopped handed → OnOk handed P → P
all_handed None (Ok x) went holds = holds
all_handed None (Err e) went holds = absurd went
all_handed (Some why) handed went holds = absurd went

-- ---- the first failed write

-- what ended the lines stopped them there
pub ended_stops : (before : Begun) (rows : List (List Value)) (stopped : Option QueryErr) (contents : Option (List ℕ)) (faults : Faults) (waits : List ℕ) (count : ℕ) (totals : List ℤ) (handed : Result Unit OpErr) (e : QueryErr)
    → HasTaken before rows (written contents faults stopped waits count totals) → IsEndedBy stopped handed e → StopsAt (e ≡ SinkFault) before.faults.first faults.first contents
ended_stops before rows None contents faults waits count totals handed e taken ended = inl taken.sent.2
ended_stops before rows (Some why) contents faults waits count totals handed e taken ended =
    subst (λ (x : QueryErr). StopsAt (x ≡ SinkFault) before.faults.first faults.first contents) (sym ended) taken.sent.4

-- lines that weren't stopped met none
pub none_failed : (before : Begun) (rows : List (List Value)) (stopped : Option QueryErr) (contents : Option (List ℕ)) (faults : Faults) (waits : List ℕ) (count : ℕ) (totals : List ℤ) → stopped ≡ None
    → HasTaken before rows (written contents faults stopped waits count totals) → faults.first ≡ before.faults.first
none_failed before rows (Some why) contents faults waits count totals none taken = absurd cc
none_failed before rows None contents faults waits count totals none taken = taken.sent.2

-- so it is of the answer with this error
pub stops_as : {T : Type 0} (result : Result T QueryErr) (e : QueryErr) (before now contents : Option (List ℕ)) → result ≡ Err e → StopsAt (e ≡ SinkFault) before now contents → StopsAt (result ≡ Err SinkFault) before now contents
stops_as result e before now contents is (inl same) = inl same
stops_as result e before now contents is (inr both) = inr (is ∙ ap Err both.0, both.1)

-- ---- at the returns of the whole

pub untouched : (now : Option (List ℕ)) (text : List ℕ) → AppendsFront now now text
untouched now text = appends_front now now text (front_none now text)

-- the text behind the names, where the shape is the plan's
pub answer_is : (plan : Query) (shape : Shape) (front : List ℕ) (rows : List (List Value)) → shape ≡ shape_of plan → front ≡ line_of (header_of plan)
    → text_behind front (group_rows (record { keys = shape.keys; aggs = shape.aggs }) rows) ≡ answer_text plan (group_rows (grouping_of plan) rows)
answer_is plan shape front rows same names =
    ap₂ (λ (l : List ℕ) (s : Shape). text_behind l (group_rows (record { keys = s.keys; aggs = s.aggs }) rows)) names same

module _ (plan : Query) (shape : Shape) (before : Begun) (rows : List (List Value)) (stopped : Option QueryErr) (contents : Option (List ℕ)) (faults : Faults) (waits : List ℕ) (count : ℕ) (totals : List ℤ) (same : shape ≡ shape_of plan) (names : before.front ≡ line_of (header_of plan)) where
  -- the lines or the grouping were stopped
  pub stopped_front : (final : Option (List ℕ)) → final ≡ contents → HasTakenSome shape rows before (written contents faults stopped waits count totals) → AppendsFront before.contents final (answer_text plan (group_rows (grouping_of plan) rows))
  stopped_front final is has =
      subst (λ f. AppendsFront before.contents f (answer_text plan (group_rows (grouping_of plan) rows))) (sym is)
      (subst (AppendsFront before.contents contents) (answer_is plan shape before.front rows same names) (front_some before rows shape stopped contents faults waits count totals has))

  module _ (contents' final : Option (List ℕ)) (none : stopped ≡ None) (is : final ≡ contents') (taken : HasTakenGroups shape rows before (written contents faults stopped waits count totals)) where
    -- what waited wasn't sent whole
    pub unsent_front : FrontOf contents contents' waits → AppendsFront before.contents final (answer_text plan (group_rows (grouping_of plan) rows))
    unsent_front front =
        subst (λ f. AppendsFront before.contents f (answer_text plan (group_rows (grouping_of plan) rows))) (sym is)
        (subst (AppendsFront before.contents contents') (answer_is plan shape before.front rows same names)
        (sent_front before (group_rows (record { keys = shape.keys; aggs = shape.aggs }) rows) stopped contents contents' faults waits count totals none taken front))

    -- or it was
    pub whole_answer : Appends contents contents' waits → Appends before.contents final (answer_text plan (group_rows (grouping_of plan) rows))
    whole_answer appends =
        subst (λ f. Appends before.contents f (answer_text plan (group_rows (grouping_of plan) rows))) (sym is)
        (subst (Appends before.contents contents') (answer_is plan shape before.front rows same names)
        (sent_whole before (group_rows (record { keys = shape.keys; aggs = shape.aggs }) rows) stopped contents contents' faults waits count totals none taken appends))

pub numbers_are : (plan : Query) (shape : Shape) (before : Begun) (rows : List (List Value)) (stopped : Option QueryErr) (contents : Option (List ℕ)) (faults : Faults) (waits : List ℕ) (totals : List ℤ) (ran : Ran) → groups plan ≡ true → shape ≡ shape_of plan
    → before.columns ≡ range_with_len (length shape.keys) (length shape.aggs) → ran.totals ≡ totals → HasTakenGroups shape rows before (written contents faults stopped waits ran.lines totals) → LineNumbers plan rows ran
numbers_are plan shape before rows stopped contents faults waits totals ran grouped same columns is taken =
    let groups : group_rows (record { keys = shape.keys; aggs = shape.aggs }) rows ≡ group_rows (grouping_of plan) rows = ap (λ (s : Shape). group_rows (record { keys = s.keys; aggs = s.aggs }) rows) same in
    let places : before.columns ≡ range_with_len (length plan.group) (length plan.aggs) = columns ∙ ap (λ (s : Shape). range_with_len (length s.keys) (length s.aggs)) same in
    record {
      out = group_rows (grouping_of plan) rows;
      are = rw grouped refl;
      lines = taken.counted ∙ ap length groups;
      totals = is ∙ taken.totals ∙ ap₂ (λ (gs : List (List Value)) (cs : List ℕ). map (λ column. aggregate (Sum column) gs) cs) groups places;
    }
